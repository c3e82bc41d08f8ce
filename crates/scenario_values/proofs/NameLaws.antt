-- Distinct names are inserted in their order.
use Rattle.std.proofs.Common.{◌≡◌, ℕ, List, [], ◌∷◌, ◌++◌, false, refl, ap, sym, ◌∙◌, append_assoc}
use Rattle.std.specs.List.{AllByRecursion}
use Rattle.std.specs.Str.{bytes_eq}
use Rattle.std.proofs.lemmas.List.{append-nil}
use Rattle.indexmap.specs.IndexMap.{insert_entry, insert_all}
use Rattle.scenario_values.specs.declared.term.Term.{Term}
use Rattle.scenario_values.specs.Scenario.{Entries, DistinctNames, entries_of}

-- the name is none of these
abbrev pub Unlike : List ℕ → Entries → Type 0
Unlike name es = AllByRecursion (λ e. bytes_eq name e.0 ≡ false) es

abbrev pub AllNew : Entries → Entries → Type 0
AllNew es [] = Unit {0}
AllNew es (x ∷ xs) = Unlike x.0 es × AllNew es xs

pub insert_new : (es : Entries) (x : List ℕ × List Term) → Unlike x.0 es → insert_entry bytes_eq es x.0 x.1 ≡ es ++ (x ∷ [])
insert_new [] x h = refl
insert_new (e ∷ es) x h = rw h.0 (ap (λ (r : Entries). e ∷ r) (insert_new es x h.1))

new_push : (name : List ℕ) (es : Entries) (x : List ℕ × List Term) → Unlike name es → bytes_eq name x.0 ≡ false → Unlike name (es ++ (x ∷ []))
new_push name [] x h k = (k, tt)
new_push name (e ∷ es) x h k = (h.0, new_push name es x h.1 k)

all_push : (es xs : Entries) (x : List ℕ × List Term) → AllNew es xs → AllByRecursion (λ f. bytes_eq f.0 x.0 ≡ false) xs → AllNew (es ++ (x ∷ [])) xs
all_push es [] x h k = tt
all_push es (y ∷ ys) x h k = (new_push y.0 es x h.0 k.0, all_push es ys x h.1 k.1)

pub insert_all_new : (es xs : Entries) → AllNew es xs → DistinctNames xs → insert_all bytes_eq es xs ≡ es ++ xs
insert_all_new es [] h d = sym (append-nil es)
insert_all_new es (x ∷ xs) h d =
    ap (λ (r : Entries). insert_all bytes_eq r xs) (insert_new es x h.0)
    ∙ insert_all_new (es ++ (x ∷ [])) xs (all_push es xs x h.1 d.0) d.1
    ∙ append_assoc es (x ∷ []) xs

all_new_of_none : (xs : Entries) → AllNew [] xs
all_new_of_none [] = tt
all_new_of_none (x ∷ xs) = (tt, all_new_of_none xs)

pub entries_same : (s : Entries) → DistinctNames s → entries_of s ≡ s
entries_same s d = insert_all_new [] s (all_new_of_none s) d
