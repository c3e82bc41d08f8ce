-- How a session stores its run: the chain of each point, what is left of the counts, and the results of the hits.
use Rattle.std.specs.Prelude.{◌≡◌, ℕ, zero, suc, ◌+◌, ◌-◌, ◌*◌, ◌^◌, ◌<◌, ◌≤◌, List, [], ◌∷◌, ◌++◌, length, map, Option, Some, None, option_map, slice_index, slice_set, Bool, true, false, ◌==◌, ◌&&◌, if◌then◌else◌}
use Rattle.std.specs.List.{AllByRecursion, slice_range}
use Rattle.std.specs.Option.{IfSome, option_map_or}
use Rattle.scenario_values.specs.declared.term.Term.{Term}
use Rattle.scenario_values.specs.Scenario.{Entries, IsScenario, entry_of, chain_at, is_off}
use Rattle.action_eval.specs.declared.answer.Stop.{Stop}
use Rattle.action_eval.specs.declared.answer.Note.{Note}
use Rattle.action_eval.specs.declared.found.Span.{Span}
use Rattle.action_eval.specs.declared.found.Head.{Head}
use Rattle.action_eval.specs.declared.found.Head.TheVariants as head
use Rattle.action_eval.specs.Trial.{is_spent}
use Rattle.action_eval.specs.Answers.{Hit, Run, acted, words_of, history_of, notes_of, total_millis, stopped}

-- ---- the chain of a point

-- How many terms the entries before number e have.
abbrev pub start_of : Entries → ℕ → ℕ
start_of [] e = 0
start_of (x ∷ xs) zero = 0
start_of (x ∷ xs) (suc e) = length x.1 + start_of xs e

-- The chain of a name, and how many terms stand before it.
abbrev pub found_of : Entries → List ℕ → Option (List Term × ℕ)
found_of s name = option_map (λ e. (chain_at s e, start_of s e)) (entry_of s name)

-- ---- where a chain is stored

-- The terms of all entries, one after another.
abbrev pub terms_of : Entries → List Term
terms_of [] = []
terms_of (x ∷ xs) = x.1 ++ terms_of xs

-- The chain that is stored at a span, and its start.
abbrev pub seen_in : Entries → Option Span → Option (List Term × ℕ)
seen_in s span = option_map (λ p. (slice_range (terms_of s) p.start p.end, p.start)) span

-- The span holds what is left of its entry's chain: it ends where the chain ends, and doesn't begin before it.
pub record IsSpan (s : Entries) (p : Span) : Type 0 where
  pub within : p.entry < length s
  pub begins : start_of s p.entry ≤ p.start
  pub ordered : p.start ≤ p.end
  pub ends : p.end ≡ start_of s p.entry + length (chain_at s p.entry)

abbrev pub AreSpans : Entries → List (Option Span) → Type 0
AreSpans s spans = AllByRecursion (λ o. IfSome o (λ p. IsSpan s p)) spans

-- The span of an entry's terms from one place to another. If that is no term, there is none.
abbrev pub spanned : ℕ → ℕ → ℕ → Option Span
spanned entry start end = if start == end then None else Some (record { entry = entry; start = start; end = end })

-- ---- what is left of the counts

-- What is left of a term's count after it acted this often. A term without a count starts with the most hits that a run can answer.
abbrev pub left_of : ℕ → Term → ℕ
left_of times t = option_map_or (λ count. count - times) t.count (4294967295 - times)

-- What is left of the counts of these terms, from place i on.
abbrev pub left_row : (ℕ → ℕ) → ℕ → List Term → List ℕ
left_row times i [] = []
left_row times i (t ∷ ts) = left_of (times i) t ∷ left_row times (i + 1) ts

-- The same for entries, one chain after another.
abbrev pub left_counts : List Hit → Entries → List ℕ
left_counts history [] = []
left_counts history (x ∷ xs) = left_row (acted history x.0) 0 x.1 ++ left_counts history xs

-- The counts with one taken off count i.
abbrev pub with_one_less : List ℕ → ℕ → List ℕ
with_one_less left i = slice_set left i (slice_index left i - 1)

-- The counts after the term at a place of a chain acted, if that chain's counts begin at `start`.
abbrev pub left_after : List ℕ → ℕ → Option ℕ → List ℕ
left_after left start None = left
left_after left start (Some i) = with_one_less left (start + i)

-- ---- spent terms at the head of a chain

-- All these terms are spent. The first of them has place i.
abbrev pub AllSpent : (ℕ → Term → Bool) → ℕ → List Term → Type 0
AllSpent spent i [] = Unit {0}
AllSpent spent i (t ∷ ts) = (spent i t ≡ true) × AllSpent spent (i + 1) ts

-- The first term, which has place i, isn't spent, if there is one.
abbrev pub StartsUnspent : (ℕ → Term → Bool) → ℕ → List Term → Type 0
StartsUnspent spent i [] = Unit {0}
StartsUnspent spent i (t ∷ ts) = spent i t ≡ false

-- What remains of a chain, and its start, after spent terms at its head were dropped.
pub record Rest (left : List ℕ) (whole rest : List Term × ℕ) : Type 0 where
  pub before : List Term
  pub chain_is : whole.0 ≡ before ++ rest.0
  pub start_is : rest.1 ≡ whole.1 + length before
  pub spent : AllSpent (is_spent left) whole.1 before

-- The same for a point, which may have no chain.
abbrev pub IsRest : List ℕ → Option (List Term × ℕ) → Option (List Term × ℕ) → Type 0
IsRest left None None = Unit {0}
IsRest left None (Some rest) = ⊥
IsRest left (Some whole) None = ⊥
IsRest left (Some whole) (Some rest) = Rest left whole rest

-- The same for the chains of all points.
abbrev pub AreRests : List ℕ → List (Option (List Term × ℕ)) → List (Option (List Term × ℕ)) → Type 0
AreRests left [] [] = Unit {0}
AreRests left [] (r ∷ rs) = ⊥
AreRests left (w ∷ ws) [] = ⊥
AreRests left (w ∷ ws) (r ∷ rs) = IsRest left w r × AreRests left ws rs

-- ---- hits that have no effect

-- What the next hit meets, if this remains of the chain, starting at `start`: no term; an `off` of full share,
-- whose count is at `start`; or terms that have to be tried.
abbrev pub first_head : List Term → ℕ → Head
first_head [] start = head.Nothing
first_head (t ∷ ts) start = if is_off t.task && (t.share == 1000000) then head.Off start else head.Terms

-- The same for a point. A point without a chain has no term.
abbrev pub head_of : Option (List Term × ℕ) → Head
head_of None = head.Nothing
head_of (Some rest) = first_head rest.0 rest.1

-- ---- how the fields of a session represent a run

pub record Keeps (r : Run) (found : List (Option (List Term × ℕ))) (left : List ℕ) (taken : ℕ) (notes : List Note) (millis : ℕ)
    (stop : Option Stop) : Type 0 where
  pub scenario : IsScenario r.given.scenario
  pub found_is : AreRests left (map (found_of r.given.scenario) r.given.catalogue) found
  pub left_is : left ≡ left_counts (history_of r) r.given.scenario
  pub taken_is : taken ≡ words_of (history_of r)
  pub notes_are : notes ≡ notes_of (history_of r)
  pub millis_are : millis ≡ total_millis (history_of r)
  pub stop_is : stop ≡ stopped r
  pub few_hits : length r.hits ≤ r.given.limit + 1
  pub few_words : words_of (history_of r) ≤ 256 * length r.hits
  pub few_millis : total_millis (history_of r) ≤ 2 ^ 32 * length r.hits

-- Until something stops the run, all hits within the limit are answered; and no point was hit after the run was stopped.
pub record IsOpen (stop : Option Stop) (limit answerable : ℕ) (late : Bool) : Type 0 where
  pub answerable_is : stop ≡ None → answerable ≡ limit
  pub never_late : late ≡ false
