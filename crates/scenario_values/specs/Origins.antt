-- The origins of a tidied scenario's faults: fault i of `tidied s` is the fault of s whose number is member i of `origins s`.
use Rattle.std.specs.Prelude.{◌≡◌, ℕ, ◌+◌, List, [], ◌∷◌, ◌++◌, if◌then◌else◌}
use Rattle.scenario_values.specs.declared.term.Term.{Term}
use Rattle.scenario_values.specs.Scenario.{Entries, is_off}
use Rattle.scenario_values.specs.Keep.{holds, after_term, after_chain}
use Rattle.scenario_values.specs.Tidied.{is_used, is_endless}

abbrev pub number_of : ℕ → Term → List ℕ
number_of n t = if is_off t.task then [] else n ∷ []

-- The numbers of the faults that tidying leaves in a chain, in order; its first fault has number n. A term with count 0 is dropped, and so is all
-- that follows the first other term that acts at each hit.
abbrev pub left_numbers : ℕ → List Term → List ℕ
left_numbers n [] = []
left_numbers n (t ∷ ts) =
    if is_used t.count then left_numbers (after_term n t) ts
    else (number_of n t ++ (if is_endless t then [] else left_numbers (after_term n t) ts))

-- The same for entries.
abbrev pub all_left_numbers : ℕ → Entries → List ℕ
all_left_numbers n [] = []
all_left_numbers n (e ∷ es) = left_numbers n e.1 ++ all_left_numbers (after_chain n e.1) es

-- The numbers in s of the faults of `tidied s`, in order.
abbrev pub origins : Entries → List ℕ
origins s = all_left_numbers 0 s

-- The set has a fault with one of these numbers exactly if `own` has the fault's place in the list. Places are counted from m on.
abbrev pub SameFaults : List ℕ → List ℕ → ℕ → List ℕ → Type 0
SameFaults set own m [] = Unit {0}
SameFaults set own m (n ∷ ns) = (holds set n ≡ holds own m) × SameFaults set own (m + 1) ns
