-- What was joined is cut into its parts again.
use Rattle.std.proofs.Common.{◌≡◌, ℕ, List, [], ◌∷◌, ◌++◌, Bool, true, false, ◌&&◌, not, eqb, map, refl, ap, ◌∙◌}
use Rattle.std.specs.List.{slice_split, onto_first, AllByRecursion}
use Rattle.std.proofs.lemmas.List.{append-nil}
use Rattle.scenario_values.specs.declared.term.Term.{Term}
use Rattle.scenario_grammar.specs.Words.{cut_at_arrows}
use Rattle.scenario_values.specs.Words.{lacks, lacks_arrow}
use Rattle.scenario_values.specs.Scenario.{Entries}
use Rattle.scenario_values.specs.Printed.{term_text, chain_text, entry_text, printed}
use Rattle.scenario_grammar.proofs.CutLaws.{and_true, not_false}

and_false : (a : Bool) → (a && false) ≡ false
and_false true = refl
and_false false = refl

pub arrow_cut : (front rest : List ℕ) → lacks_arrow front ≡ true → cut_at_arrows (front ++ (45 ∷ 62 ∷ rest)) ≡ front ∷ cut_at_arrows rest
unfolding cut_at_arrows
arrow_cut [] rest h = refl
arrow_cut (b ∷ []) rest h = rw (and_false (eqb b 45)) refl
arrow_cut (b ∷ c ∷ front) rest h =
    let parts = and_true (not (eqb b 45 && eqb c 62)) (lacks_arrow (c ∷ front)) h in
    rw (not_false (eqb b 45 && eqb c 62) parts.0) (ap (onto_first b) (arrow_cut (c ∷ front) rest parts.1))

pub arrow_none : (text : List ℕ) → lacks_arrow text ≡ true → cut_at_arrows text ≡ text ∷ []
unfolding cut_at_arrows
arrow_none [] h = refl
arrow_none (b ∷ []) h = refl
arrow_none (b ∷ c ∷ text) h =
    let parts = and_true (not (eqb b 45 && eqb c 62)) (lacks_arrow (c ∷ text)) h in
    rw (not_false (eqb b 45 && eqb c 62) parts.0) (ap (onto_first b) (arrow_none (c ∷ text) parts.1))

pub chain_cut : (t : Term) (ts : List Term) → AllByRecursion (λ u. lacks_arrow (term_text u) ≡ true) (t ∷ ts) → cut_at_arrows (chain_text (t ∷ ts)) ≡ map term_text (t ∷ ts)
unfolding chain_text
chain_cut t [] h = ap cut_at_arrows (append-nil (term_text t)) ∙ arrow_none (term_text t) h.0
chain_cut t (u ∷ us) h = arrow_cut (term_text t) (chain_text (u ∷ us)) h.0 ∙ ap (λ (ps : List (List ℕ)). term_text t ∷ ps) (chain_cut u us h.1)

pub byte_cut : (c : ℕ) (front rest : List ℕ) → eqb c c ≡ true → lacks c front ≡ true → slice_split (λ b. eqb b c) (front ++ (c ∷ rest)) ≡ front ∷ slice_split (λ b. eqb b c) rest
byte_cut c [] rest same h = rw same refl
byte_cut c (b ∷ front) rest same h =
    let parts = and_true (not (eqb b c)) (lacks c front) h in
    rw (not_false (eqb b c) parts.0, byte_cut c front rest same parts.1) refl

pub byte_none : (c : ℕ) (text : List ℕ) → lacks c text ≡ true → slice_split (λ b. eqb b c) text ≡ text ∷ []
byte_none c [] h = refl
byte_none c (b ∷ text) h =
    let parts = and_true (not (eqb b c)) (lacks c text) h in
    rw (not_false (eqb b c) parts.0, byte_none c text parts.1) refl

pub printed_cut : (e : List ℕ × List Term) (es : Entries) → AllByRecursion (λ f. lacks 59 (entry_text f) ≡ true) (e ∷ es) → slice_split (λ b. eqb b 59) (printed (e ∷ es)) ≡ map entry_text (e ∷ es)
unfolding printed
printed_cut e [] h = ap (slice_split (λ b. eqb b 59)) (append-nil (entry_text e)) ∙ byte_none 59 (entry_text e) h.0
printed_cut e (f ∷ fs) h = byte_cut 59 (entry_text e) (printed (f ∷ fs)) refl h.0 ∙ ap (λ (ps : List (List ℕ)). entry_text e ∷ ps) (printed_cut f fs h.1)
