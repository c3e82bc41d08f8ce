use Rattle.std.proofs.Common.{◌≡◌, ◌≤◌, ◌+◌, drop, false}
use Rattle.std.specs.Prelude.{count_by}
use Rattle.std.specs.Option.{option_map_or}
use Rattle.target_trait.specs.Verdicts.{is_unresolved}
use Rattle.campaign_main.proofs.answer_notes.count_open.Given as goal

abbrev pub invariant-loop-number : goal.invariant-loop-number
invariant-loop-number l = record {
  few : l.count ≤ l.number;
  counted : l.count + count_by (λ verdict. option_map_or is_unresolved verdict false) (drop l.number l.verdicts) ≡ count_by (λ verdict. option_map_or is_unresolved verdict false) l.verdicts;
}
