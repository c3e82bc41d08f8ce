-- Scenarios in which every term has the full share, and runs in which no fault acted.
use Rattle.std.specs.Prelude.{◌≡◌, true, List}
use Rattle.std.specs.List.{AllByRecursion}
use Rattle.scenario_values.specs.declared.term.Term.{Term}
use Rattle.scenario_values.specs.Scenario.{Entries, is_off}
use Rattle.action_eval.specs.Answers.{Hit}

-- Each term's share is a million millionths: it acts whenever it is reached and isn't used up, and takes no random word.
abbrev pub IsFull : List Term → Type 0
IsFull ts = AllByRecursion (λ (t : Term). t.share ≡ 1000000) ts

abbrev pub HasFullShares : Entries → Type 0
HasFullShares s = AllByRecursion (λ e. IsFull e.1) s

-- No fault acted at these hits: no term acted, or the one that acted is an `off`.
abbrev pub NoFaultActed : List Hit → Type 0
NoFaultActed history = AllByRecursion (λ (h : Hit). is_off h.did ≡ true) history
