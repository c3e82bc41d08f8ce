-- What a run of the journal asks, and what the power cut at its end keeps and judges. The example is a workload with scenarios in which only a kept
-- write shows a flaw.
use Rattle.std.specs.Prelude.{ℕ, List, [], ◌∷◌, Some, None, codes}
use Rattle.scenario_values.specs.declared.term.Term.{Term}
use Rattle.scenario_values.specs.declared.term.Task.{Task}
use Rattle.scenario_values.specs.declared.term.Task.TheVariants as task
use Rattle.scenario_values.specs.Scenario.{Entries}
use Rattle.action_eval.specs.Answers.{Reply}
use Rattle.target_trait.specs.Play.{Move}
use Rattle.target_trait.specs.Machine.{asks_by}
use Rattle.target_trait.specs.Protocol.{by_table}
use Rattle.target_trait.specs.Cuts.{Cut, cut_by}
use Rattle.journal_target.specs.declared.variant.Variant.{Variant}
use Rattle.journal_target.specs.Steps.{steps, cuts}

abbrev pub asks_of : Variant → List (List (List ℕ)) → List Reply → Move
asks_of v w = asks_by (by_table (steps v w))

abbrev pub cut_of : Variant → List (List (List ℕ)) → Cut
cut_of v w = cut_by (steps v w) (cuts v w)

-- One transaction with two records.
abbrev pub two_records : List (List (List ℕ))
two_records = (codes "a" ∷ codes "bc" ∷ []) ∷ []

abbrev pub once : Task → Term
once what = record { share = 1000000; count = Some 1; task = what }

-- The scenario `journal::sync=1*panic`: the run halts at its first sync.
abbrev pub sync_panics : Entries
sync_panics = (codes "journal::sync", once (task.Panic None) ∷ []) ∷ []

-- The same, and of three pending appends the cut keeps the third, the commit record after two records: `power::keep=2*off->1*return`.
abbrev pub commit_alone : Entries
commit_alone = (codes "journal::sync", once (task.Panic None) ∷ [])
    ∷ (codes "power::keep", record { share = 1000000; count = Some 2; task = task.Off } ∷ once (task.Return None) ∷ []) ∷ []
