use Rattle.std.proofs.Common.{◌≡◌, ◌++◌, ◌+◌, drop}
use Rattle.std.specs.String.{string_bytes}
use Rattle.action_eval.specs.Answers.{texts}
use Rattle.campaign_main.specs.Notes.{listed_from}
use Rattle.campaign_main.proofs.notes.listed_on.Given as goal

abbrev pub invariant-loop-place : goal.invariant-loop-place
invariant-loop-place l =
    string_bytes l.lines ++ listed_from (texts l.points) l.place (drop l.place l.listed) ≡ listed_from (texts l.points) 0 l.listed
