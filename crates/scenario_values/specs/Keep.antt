-- A scenario with some of its faults. The task of each other fault becomes `off`. Its share and its count stay, so that later terms draw the same
-- random words. The rule is this project's own.
use Rattle.std.specs.Prelude.{ℕ, ◌+◌, List, [], ◌∷◌, ◌==◌, Bool, true, ◌&&◌, nat_lt, nat_le, map, slice_index, if◌then◌else◌}
use Rattle.std.specs.List.{list_any}
use Rattle.scenario_values.specs.declared.term.Term.{Term}
use Rattle.scenario_values.specs.declared.term.Task.TheVariants.{Off}
use Rattle.scenario_values.specs.Scenario.{Entries, is_off}

-- Whether the set has this number.
abbrev pub holds : List ℕ → ℕ → Bool
holds set n = list_any (λ k. k == n) set

-- The numbers ascend, the first is at least `low`, and all are below n.
abbrev pub ascend_from : ℕ → ℕ → List ℕ → Bool
ascend_from low n [] = true
ascend_from low n (k ∷ ks) = nat_le low k && nat_lt k n && ascend_from (k + 1) n ks

-- These are numbers of n faults, in ascending order, each once.
abbrev pub are_faults : ℕ → List ℕ → Bool
are_faults n set = ascend_from 0 n set

-- The members of the set at these places.
abbrev pub members_at : List ℕ → List ℕ → List ℕ
members_at set places = map (λ i. slice_index set i) places

-- The term with its task switched off.
abbrev pub switched_off : Term → Term
switched_off t = record t { task = Off }

-- The term, switched off if it is fault number n and the set doesn't have that number.
abbrev pub kept_term : List ℕ → ℕ → Term → Term
kept_term set n t = if is_off t.task then t else (if holds set n then t else switched_off t)

-- The number of the next fault after a term.
abbrev pub after_term : ℕ → Term → ℕ
after_term n t = if is_off t.task then n else n + 1

-- A chain with only the faults of the set. Its first fault has number n.
unfoldable pub kept_chain : List ℕ → ℕ → List Term → List Term
kept_chain set n [] = []
kept_chain set n (t ∷ ts) = kept_term set n t ∷ kept_chain set (after_term n t) ts

unfoldable pub after_chain : ℕ → List Term → ℕ
after_chain n [] = n
after_chain n (t ∷ ts) = after_chain (after_term n t) ts

unfoldable pub kept_from : List ℕ → ℕ → Entries → Entries
kept_from set n [] = []
kept_from set n (e ∷ es) = (e.0, kept_chain set n e.1) ∷ kept_from set (after_chain n e.1) es

-- A scenario with only the faults of the set.
abbrev pub kept : List ℕ → Entries → Entries
kept set s = kept_from set 0 s
