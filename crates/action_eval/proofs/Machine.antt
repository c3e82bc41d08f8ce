-- A chain whose counts are what is left of them: what a hit does to it, and what it does at many hits.
use Rattle.std.specs.Prelude.{◌≡◌, ℕ, ◌+◌, ◌-◌, ◌%◌, ◌==◌, nat_lt, if◌then◌else◌, List, [], ◌∷◌, option_map}
use Rattle.scenario_values.specs.declared.term.Term.{Term}
use Rattle.scenario_values.specs.declared.term.Task.{Task}
use Rattle.scenario_values.specs.declared.term.Task.TheVariants.{Off}
use Rattle.scenario_values.specs.Tidied.{is_used}

-- what was done, the number of the next word, and the chain that is left
pub record Step : Type 0 where
  pub did : Task
  pub next : ℕ
  pub left : List Term

abbrev pub spent_once : Term → Term
spent_once t = record t { count = option_map (λ c. c - 1) t.count }

abbrev pub passed : Term → Step → Step
passed t s = record { did = s.did; next = s.next; left = t ∷ s.left }

abbrev pub acts : Term → List Term → ℕ → Step
acts t ts n = record { did = t.task; next = n; left = spent_once t ∷ ts }

-- A hit of a chain, if n is the number of the next word.
abbrev pub step : (ℕ → ℕ) → List Term → ℕ → Step
step word [] n = record { did = Off; next = n; left = [] }
step word (t ∷ ts) n =
    if is_used t.count then passed t (step word ts n)
    else if t.share == 1000000 then acts t ts n
    else if nat_lt (word n % 1000000) t.share then acts t ts (n + 1)
    else passed t (step word ts (n + 1))

-- What hits of a chain do, if the next words have these numbers.
abbrev pub done : (ℕ → ℕ) → List Term → List ℕ → List (Task × ℕ)
done word c [] = []
done word c (n ∷ ns) = ((step word c n).did, (step word c n).next) ∷ done word (step word c n).left ns

-- two chains do the same, whatever words the runs's other chains take between
pub record Same (word : ℕ → ℕ) (c d : List Term) : Type 0 where
  pub at : (ns : List ℕ) → done word c ns ≡ done word d ns
