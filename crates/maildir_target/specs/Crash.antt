-- What a run leaves to the power cut at its end: how many writes are pending, what each of them did, and what the judgement is if the cut keeps some
-- of them. Also scenarios in which a flaw shows only if a pending write is kept.
use Rattle.std.specs.Prelude.{ℕ, suc, Bool, List, [], ◌∷◌, ◌++◌, map, length, Some, None, codes}
use Rattle.std.specs.Fmt.{decimal}
use Rattle.scenario_values.specs.declared.term.Term.{Term}
use Rattle.scenario_values.specs.declared.term.Task.{Task}
use Rattle.scenario_values.specs.declared.term.Task.TheVariants as task
use Rattle.scenario_values.specs.Scenario.{Entries}
use Rattle.action_eval.specs.Answers.{Given, replies, start}
use Rattle.sim_device.specs.declared.pending.Call.{Call}
use Rattle.sim_device.specs.declared.pending.Call.TheVariants as call
use Rattle.sim_device.specs.FileEffects.{PowerCut, pending}
use Rattle.sim_device.specs.Pending.{Pending}
use Rattle.target_trait.specs.declared.judgement.Judgement.{Judgement}
use Rattle.target_trait.specs.Machine.{after}
use Rattle.target_trait.specs.Outcomes.{play}
use Rattle.target_trait.specs.Cuts.{Cut}
use Rattle.maildir_target.specs.declared.variant.Variant.{Variant}
use Rattle.maildir_target.specs.Words.{name_text}
use Rattle.maildir_target.specs.Judgement.{judged_now, standing}
use Rattle.maildir_target.specs.Steps.{State, machine, asks_of}
use Rattle.maildir_target.specs.Flaws.{sync_and_unlink_fail}

-- The judgement after a cut with these answers, which say what it keeps.
abbrev pub judged_keeping : List (List (List ℕ)) → State → List Bool → Judgement
judged_keeping messages s keep = judged_now messages s.tally.acknowledged (standing (PowerCut keep ∷ s.effects))

-- The power cut of a delivery, as a function of the answers of its run.
abbrev pub cut_of : Variant → List (List (List ℕ)) → Cut
cut_of v messages = record {
  pending = λ own. length (pending (after (machine v messages) own).effects);
  judge = λ own keep. judged_keeping messages (after (machine v messages) own) keep;
}

-- ---- what is pending, in words

-- A call as a text, such as `append tmp/1.1 0`. Places and counts are in bytes, and the first byte's place is 0.
abbrev pub call_text : Call → List ℕ
call_text (call.Create m) = codes "create " ++ name_text m
call_text (call.Append m place) = codes "append " ++ name_text m ++ codes " " ++ decimal place
call_text (call.WriteAt m place) = codes "write " ++ name_text m ++ codes " " ++ decimal place
call_text (call.Truncate m count) = codes "truncate " ++ name_text m ++ codes " " ++ decimal count
call_text (call.Rename a b) = codes "rename " ++ name_text a ++ codes " " ++ name_text b
call_text (call.Link a b) = codes "link " ++ name_text a ++ codes " " ++ name_text b
call_text (call.Unlink m) = codes "unlink " ++ name_text m

abbrev pub call_texts : List Pending → List (List ℕ)
call_texts writes = map (λ p. call_text p.call) writes

-- The texts of the writes that are pending at the end of a run, in the order in which they were made.
abbrev pub calls_of : Variant → List (List (List ℕ)) → Given → List (List ℕ)
calls_of v messages g = call_texts (pending (after (machine v messages) (replies (play (suc g.limit) (asks_of v messages) (start g)))).effects)

-- ---- scenarios

abbrev pub once : Task → List Term
once what = record { share = 1000000; count = Some 1; task = what } ∷ []

-- The run panics at the first write.
abbrev pub write_panics : Entries
write_panics = (codes "maildir::write", once (task.Panic None)) ∷ []

-- The same, and the cut loses the first pending write and keeps the second.
abbrev pub second_kept : Entries
second_kept = (codes "maildir::write", once (task.Panic None))
    ∷ (codes "power::keep", record { share = 1000000; count = Some 1; task = task.Off } ∷ once (task.Return None)) ∷ []

-- The same, and the cut keeps the first pending write.
abbrev pub first_kept : Entries
first_kept = (codes "maildir::write", once (task.Panic None)) ∷ (codes "power::keep", once (task.Return None)) ∷ []

-- The sync fails, and the name that was written can't be removed. The cut keeps the name, but not what was written to its file.
abbrev pub unsynced_named : Entries
unsynced_named = sync_and_unlink_fail ++ (codes "power::keep", once (task.Return None)) ∷ []

-- The same, and the cut keeps all pending writes.
abbrev pub unsynced_kept : Entries
unsynced_kept = sync_and_unlink_fail ++ (codes "power::keep", record { share = 1000000; count = None; task = task.Return None } ∷ []) ∷ []
