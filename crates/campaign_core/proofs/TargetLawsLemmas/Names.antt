-- What holds of each name of a catalogue.
use Rattle.std.proofs.Common.{◌≡◌, ◌<◌, ◌≤◌, ◌==◌, ◌∙◌, ap, subst, sym, refl, arith, ℕ, zero, suc, List, [], ◌∷◌, true, false, Bor, length, slice_index_or}
use Rattle.std.proofs.lemmas.Bool.Decides.{nat_tests}
use Rattle.std.specs.List.{AllByRecursion}
use Rattle.std.specs.Str.{bytes_eq}
use Rattle.scenario_values.specs.Scenario.{is_name}
use Rattle.action_eval.specs.Answers.{texts}
use Rattle.action_eval.specs.Catalogue.{IsCatalogue}
use Rattle.plan_gen.proofs.CleanRuns.{apart}

abbrev pub none : Bor (List ℕ)
none = record { ref_ptr = (0, 0); now = [] }

pub length_texts : (names : List (Bor (List ℕ))) → length (texts names) ≡ length names
length_texts [] = refl
length_texts (n ∷ ns) = ap suc (length_texts ns)

pub text_at : (names : List (Bor (List ℕ))) (p : ℕ) → slice_index_or (texts names) p [] ≡ (slice_index_or names p none).now
text_at [] p = refl
text_at (n ∷ ns) zero = refl
text_at (n ∷ ns) (suc p) = text_at ns p

at_each : (P : List ℕ → Type 0) (names : List (List ℕ)) (p : ℕ) → AllByRecursion P names → p < length names → P (slice_index_or names p [])
at_each P [] p all less = absurd (omega (arith, less))
at_each P (n ∷ ns) zero all less = all.0
at_each P (n ∷ ns) (suc p) all less = at_each P ns p all.1 (omega (arith, less))

pub short_at : (names : List (Bor (List ℕ))) (p : ℕ) → IsCatalogue (texts names) → p < length names → length (slice_index_or names p none).now ≤ 200
short_at names p is less =
    subst (λ (x : List ℕ). length x ≤ 200) (text_at names p) (at_each (λ (x : List ℕ). length x ≤ 200) (texts names) p is.short (omega (arith, less, length_texts names)))

pub lawful_at : (names : List (Bor (List ℕ))) (p : ℕ) → IsCatalogue (texts names) → p < length names → is_name (slice_index_or names p none).now ≡ true
lawful_at names p is less =
    subst (λ (x : List ℕ). is_name x ≡ true) (text_at names p) (at_each (λ (x : List ℕ). is_name x ≡ true) (texts names) p is.lawful (omega (arith, less, length_texts names)))

pub new_here : (names : List (Bor (List ℕ))) (p q : ℕ) → bytes_eq (slice_index_or names q none).now (slice_index_or names p none).now ≡ false
    → bytes_eq (slice_index_or (texts names) q []) (slice_index_or (texts names) p []) ≡ false
new_here names p q e =
    ap (λ (x : List ℕ). bytes_eq x (slice_index_or (texts names) p [])) (text_at names q) ∙ ap (λ (x : List ℕ). bytes_eq (slice_index_or names q none).now x) (text_at names p) ∙ e

pub none_before : (names : List (Bor (List ℕ))) (p q : ℕ) → IsCatalogue (texts names) → q < p → p < length names
    → bytes_eq (slice_index_or names q none).now (slice_index_or names p none).now ≡ false
none_before names p q is before less =
    let other : (q == p) ≡ false = grind (arith, nat_tests, before) in
    sym (ap (λ (x : List ℕ). bytes_eq x (slice_index_or names p none).now) (text_at names q))
    ∙ sym (ap (λ (x : List ℕ). bytes_eq (slice_index_or (texts names) q []) x) (text_at names p))
    ∙ apart (texts names) p q is.distinct is.lawful (omega (arith, less, length_texts names)) other
