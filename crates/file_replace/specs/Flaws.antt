-- Workloads, and the scenarios that a flawed replacement fails. They are the smallest that a campaign finds and reduces to.
use Rattle.std.specs.Prelude.{ℕ, suc, List, [], ◌∷◌, Option, codes}
use Rattle.scenario_values.specs.Scenario.{Entries}
use Rattle.sim_device.specs.FileEffects.{Live, held}
use Rattle.action_eval.specs.Answers.{Given, replies, start}
use Rattle.target_trait.specs.Outcomes.{play}
use Rattle.target_trait.specs.Failing.{fails_once}
use Rattle.file_replace.specs.declared.variant.Variant.{Variant}
use Rattle.file_replace.specs.Words.{target}
use Rattle.file_replace.specs.Work.{Work}
use Rattle.file_replace.specs.Steps.{effects_of, asks_of}

-- These contents, replaced once by the chunks `ne` and `w`.
abbrev pub replaced_by_new : List ℕ → Work
replaced_by_new old = record { old = old; replacements = (codes "ne" ∷ codes "w" ∷ []) ∷ [] }

abbrev pub old_to_new : Work
old_to_new = replaced_by_new (codes "old")

abbrev pub empty_to_new : Work
empty_to_new = replaced_by_new []

abbrev pub sync_fails : Entries
sync_fails = fails_once (codes "replace::sync") ∷ []

abbrev pub write_fails : Entries
write_fails = fails_once (codes "replace::write") ∷ []

-- What `target` holds after the power cut at the end of a run.
abbrev pub left_by : Variant → Work → Given → Option (List ℕ)
left_by v w g = held (effects_of v w (replies (play (suc g.limit) (asks_of v w) (start g)))) Live target
