-- What contracts see of a scenario: its entries in order, each with a name and a chain of terms, as in the FAILPOINTS variable of fail-rs.
use Rattle.std.specs.Prelude.{◌≡◌, ℕ, ◌+◌, ◌<◌, ◌≤◌, suc, List, [], ◌∷◌, Option, Some, None, option_map, slice_get, Bool, true, false, ◌&&◌, nat_lt, nat_le, length, if◌then◌else◌}
use Rattle.std.specs.List.{AllByRecursion}
use Rattle.std.specs.Option.{option_map_or}
use Rattle.std.specs.Str.{bytes_eq}
use Rattle.indexmap.specs.IndexMap.{insert_all}
use Rattle.scenario_values.specs.declared.term.Term.{Term}
use Rattle.scenario_values.specs.declared.term.Task.{Task}
use Rattle.scenario_values.specs.declared.term.Task.TheVariants as task
use Rattle.scenario_values.specs.Words.{trimmed, lacks, lacks_arrow}
use Rattle.scenario_values.specs.Printed.{printed}

-- The names with their chains, in order.
abbrev pub Entries : Type 0
Entries = List (List ℕ × List Term)

abbrev pub is_off : Task → Bool
is_off task.Off = true
is_off _ = false

-- The chain of a name. A name without an entry has an empty chain.
abbrev pub chain_of : Entries → List ℕ → List Term
chain_of [] name = []
chain_of (e ∷ es) name = if bytes_eq name e.0 then e.1 else chain_of es name

-- The place of the entry of a name, from 0.
abbrev pub entry_of : Entries → List ℕ → Option ℕ
entry_of [] name = None
entry_of (e ∷ es) name = if bytes_eq name e.0 then Some 0 else option_map (λ n. suc n) (entry_of es name)

-- The chain of the entry at a place.
abbrev pub chain_at : Entries → ℕ → List Term
chain_at s i = option_map_or (λ e. e.1) (slice_get s i) []

-- Names and chains put in one by one. A name that comes again keeps its place and gets the later chain.
abbrev pub entries_of : Entries → Entries
entries_of actions = insert_all bytes_eq [] actions

-- A lawful name isn't empty, has no blank at either end, and has no `;` and no `=`.
abbrev pub is_name : List ℕ → Bool
is_name name = nat_lt 0 (length name) && bytes_eq (trimmed name) name && lacks 59 name && lacks 61 name

-- A lawful argument has no `;` and no `->`.
abbrev pub is_argument : List ℕ → Bool
is_argument text = lacks 59 text && lacks_arrow text

abbrev pub is_lawful_argument : Option (List ℕ) → Bool
is_lawful_argument argument = option_map_or is_argument argument true

-- The milliseconds of `sleep` and `delay` are at most 1000000000.
abbrev pub is_lawful_task : Task → Bool
is_lawful_task task.Off = true
is_lawful_task (task.Return argument) = is_lawful_argument argument
is_lawful_task (task.Sleep millis) = nat_le millis 1000000000
is_lawful_task (task.Panic argument) = is_lawful_argument argument
is_lawful_task (task.Print argument) = is_lawful_argument argument
is_lawful_task task.Pause = true
is_lawful_task task.Yield = true
is_lawful_task (task.Delay millis) = nat_le millis 1000000000

-- Shares are in millionths, and a count is at most 4294967295.
abbrev pub is_lawful_term : Term → Bool
is_lawful_term t = nat_le t.share 1000000 && option_map_or (λ n. nat_le n 4294967295) t.count true && is_lawful_task t.task

-- A term is a fault if its task isn't `off`.
abbrev pub fault_of : Term → ℕ
fault_of t = if is_off t.task then 0 else 1

abbrev pub faults_in : List Term → ℕ
faults_in [] = 0
faults_in (t ∷ ts) = fault_of t + faults_in ts

-- How many faults a scenario has.
abbrev pub all_faults : Entries → ℕ
all_faults [] = 0
all_faults (e ∷ es) = faults_in e.1 + all_faults es

-- The name differs from each of these.
abbrev pub New : List ℕ → Entries → Type 0
New name es = AllByRecursion (λ f. bytes_eq f.0 name ≡ false) es

-- No two names are the same.
abbrev pub DistinctNames : Entries → Type 0
DistinctNames [] = Unit {0}
DistinctNames (e ∷ es) = New e.0 es × DistinctNames es

-- What holds of each scenario. The limits are this project's own: at most 256 entries, 1 to 256 terms in a chain, 4096 faults, and 65536 bytes as
-- printed.
pub record IsScenario (s : Entries) : Type 0 where
  pub few_entries : length s ≤ 256
  pub no_empty_chain : AllByRecursion (λ e. 0 < length e.1) s
  pub short_chains : AllByRecursion (λ e. length e.1 ≤ 256) s
  pub distinct_names : DistinctNames s
  pub lawful_names : AllByRecursion (λ e. is_name e.0 ≡ true) s
  pub lawful_terms : AllByRecursion (λ e. AllByRecursion (λ t. is_lawful_term t ≡ true) e.1) s
  pub few_faults : all_faults s ≤ 4096
  pub short_text : length (printed s) ≤ 65536
