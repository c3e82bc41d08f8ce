-- Chains in which fault after fault is left or switched off.
use Rattle.std.proofs.Common.{ℕ, Bool, false, cond, List, [], ◌∷◌, map}
use Rattle.scenario_values.specs.declared.term.Term.{Term}
use Rattle.scenario_values.specs.Scenario.{Entries, is_off}
use Rattle.scenario_values.specs.Keep.{holds, switched_off, after_chain}
use Rattle.scenario_values.specs.Tidied.{tidied_chain, put}
use Rattle.scenario_values.specs.Origins.{left_numbers}

abbrev pub first_flag : List Bool → Bool
first_flag [] = false
first_flag (b ∷ bs) = b

abbrev pub other_flags : List Bool → List Bool
other_flags [] = []
other_flags (b ∷ bs) = bs

abbrev pub shut_term : Bool → Term → Term
shut_term b t = cond (b) (t) (switched_off t)

-- a chain in which fault after fault is left or switched off
abbrev pub shut : List Bool → List Term → List Term
shut bs [] = []
shut bs (t ∷ ts) = cond (is_off t.task) (t ∷ shut bs ts) (shut_term (first_flag bs) t ∷ shut (other_flags bs) ts)

-- the tidied chain with the faults left that come from the set
abbrev pub tidied_chain_with : List ℕ → ℕ → List Term → List Term
tidied_chain_with set n c = shut (map (holds set) (left_numbers n c)) (tidied_chain c)

-- the tidied scenario with the faults left that come from the set
abbrev pub tidied_from : List ℕ → ℕ → Entries → Entries
tidied_from set n [] = []
tidied_from set n (e ∷ es) = put e.0 (tidied_chain_with set n e.1) (tidied_from set (after_chain n e.1) es)
