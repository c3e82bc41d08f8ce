-- The printed form of a scenario.
use Rattle.std.specs.Prelude.{ℕ, zero, suc, ◌^◌, ◌/◌, ◌%◌, List, [], ◌∷◌, ◌++◌, ◌==◌, Option, Some, None, nat_lt, if◌then◌else◌, codes}
use Rattle.std.specs.Fmt.{decimal}
use Rattle.std.specs.List.{flat_map}
use Rattle.scenario_values.specs.declared.term.Term.{Term}
use Rattle.scenario_values.specs.declared.term.Task.{Task}
use Rattle.scenario_values.specs.declared.term.Task.TheVariants as tasks

-- The digits of n with this many places, without zeros at the end.
abbrev pub decimals_of : ℕ → ℕ → List ℕ
decimals_of zero n = []
decimals_of (suc places) n = if n == 0 then [] else (decimal (n / 10 ^ places) ++ decimals_of places (n % 10 ^ places))

-- The point and the decimals, if there are any.
abbrev pub point_and : ℕ → List ℕ
point_and n = if n == 0 then [] else (46 ∷ decimals_of 4 n)

-- A share under 1000000, as a percentage. The whole share isn't printed.
unfoldable pub share_text : ℕ → List ℕ
share_text share = if nat_lt share 1000000 then decimal (share / 10000) ++ point_and (share % 10000) ++ (37 ∷ []) else []

abbrev pub count_text : Option ℕ → List ℕ
count_text None = []
count_text (Some n) = decimal n ++ (42 ∷ [])

abbrev pub argument_text : Option (List ℕ) → List ℕ
argument_text None = []
argument_text (Some text) = 40 ∷ (text ++ (41 ∷ []))

abbrev pub task_text : Task → List ℕ
task_text tasks.Off = codes "off"
task_text (tasks.Return argument) = codes "return" ++ argument_text argument
task_text (tasks.Sleep millis) = codes "sleep" ++ argument_text (Some (decimal millis))
task_text (tasks.Panic argument) = codes "panic" ++ argument_text argument
task_text (tasks.Print argument) = codes "print" ++ argument_text argument
task_text tasks.Pause = codes "pause"
task_text tasks.Yield = codes "yield"
task_text (tasks.Delay millis) = codes "delay" ++ argument_text (Some (decimal millis))

unfoldable pub term_text : Term → List ℕ
term_text t = share_text t.share ++ count_text t.count ++ task_text t.task

-- The terms, joined by `->`.
unfoldable pub chain_text : List Term → List ℕ
chain_text [] = []
chain_text (t ∷ ts) = term_text t ++ flat_map (λ u. 45 ∷ 62 ∷ term_text u) ts

abbrev pub entry_text : List ℕ × List Term → List ℕ
entry_text e = e.0 ++ (61 ∷ chain_text e.1)

-- The entries, joined by `;`.
unfoldable pub printed : List (List ℕ × List Term) → List ℕ
printed [] = []
printed (e ∷ es) = entry_text e ++ flat_map (λ f. 59 ∷ entry_text f) es
