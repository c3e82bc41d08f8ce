-- A scenario tidied, by steps on whole chains: drop the terms with count 0; drop what follows the first term without a count and with share 1000000;
-- join neighbouring `off` terms with share 1000000 whose counts fit together; drop such `off` terms at the end; then drop entries without terms. The
-- rule is this project's own; what shares and counts mean is from fail-rs.
use Rattle.std.specs.Prelude.{ℕ, ◌+◌, ◌-◌, List, [], ◌∷◌, Bool, true, false, ◌==◌, ◌&&◌, not, length, take, filter, Option, Some, None, nat_lt, if◌then◌else◌}
use Rattle.std.specs.List.{suffix_len, position_or_len}
use Rattle.std.specs.Str.{bytes_eq}
use Rattle.indexmap.specs.IndexMap.{insert_entry}
use Rattle.scenario_values.specs.declared.term.Term.{Term}
use Rattle.scenario_values.specs.Scenario.{Entries, is_off}

abbrev pub is_used : Option ℕ → Bool
is_used None = false
is_used (Some n) = n == 0

abbrev pub is_live : Term → Bool
is_live t = not (is_used t.count)

abbrev pub is_uncounted : Option ℕ → Bool
is_uncounted None = true
is_uncounted (Some n) = false

-- The term acts at each hit that reaches it.
abbrev pub is_endless : Term → Bool
is_endless t = is_uncounted t.count && (t.share == 1000000)

-- The term does nothing, and draws no random word.
abbrev pub is_idle : Term → Bool
is_idle t = is_off t.task && (t.share == 1000000)

abbrev pub joined_counts : Option ℕ → Option ℕ → Option ℕ
joined_counts (Some m) (Some n) = if nat_lt 4294967295 (m + n) then None else Some (m + n)
joined_counts _ _ = None

-- The count of two terms in one, if they are joined.
abbrev pub joint : Term → Term → Option ℕ
joint t u = if is_idle t && is_idle u then joined_counts t.count u.count else None

-- From left to right, each term is joined into the one before it if that can be done.
abbrev pub join_by : Option ℕ → Term → List Term → List Term
join_by None t rest = t ∷ rest
join_by (Some n) t rest = rest

abbrev pub with_count : Option ℕ → Term → Term → Term
with_count None t u = u
with_count (Some n) t u = record t { count = Some n }

unfoldable pub joined_onto : Term → List Term → List Term
joined_onto t [] = t ∷ []
joined_onto t (u ∷ us) = join_by (joint t u) t (joined_onto (with_count (joint t u) t u) us)

unfoldable pub joined : List Term → List Term
joined [] = []
joined (t ∷ ts) = joined_onto t ts

abbrev pub without_used : List Term → List Term
without_used ts = filter is_live ts

abbrev pub up_to_endless : List Term → List Term
up_to_endless ts = take (position_or_len is_endless ts + 1) ts

abbrev pub without_idle_end : List Term → List Term
without_idle_end ts = take (length ts - suffix_len is_idle ts) ts

unfoldable pub tidied_chain : List Term → List Term
tidied_chain ts = without_idle_end (joined (up_to_endless (without_used ts)))

-- The entries with one more before them, if its chain has a term.
abbrev pub put : List ℕ → List Term → Entries → Entries
put name chain es = if nat_lt 0 (length chain) then (name, chain) ∷ es else es

-- Each chain is tidied, and entries without terms are dropped.
abbrev pub tidied : Entries → Entries
tidied [] = []
tidied (e ∷ es) = put e.0 (tidied_chain e.1) (tidied es)

-- The entries with one more put in, if its chain has a term.
abbrev pub with_entry : Entries → List ℕ → List Term → Entries
with_entry es name chain = if nat_lt 0 (length chain) then insert_entry bytes_eq es name chain else es
