-- Workloads, and the scenarios that a flawed delivery fails. They are the smallest that a campaign finds and reduces to.
use Rattle.std.specs.Prelude.{ℕ, List, [], ◌∷◌, codes}
use Rattle.scenario_values.specs.Scenario.{Entries}
use Rattle.target_trait.specs.Failing.{fails_once}

-- One message of this one chunk.
abbrev pub one_message : List ℕ → List (List (List ℕ))
one_message chunk = (chunk ∷ []) ∷ []

abbrev pub hi : List (List (List ℕ))
hi = one_message (codes "hi")

abbrev pub m : List (List (List ℕ))
m = one_message (codes "m")

abbrev pub write_fails : Entries
write_fails = fails_once (codes "maildir::write") ∷ []

abbrev pub sync_and_unlink_fail : Entries
sync_and_unlink_fail = fails_once (codes "maildir::sync") ∷ fails_once (codes "maildir::unlink") ∷ []
