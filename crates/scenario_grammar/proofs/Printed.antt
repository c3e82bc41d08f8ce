use Rattle.std.proofs.Common.{◌≡◌, ℕ, List, [], ◌∷◌, ◌++◌, Bool, true, false, refl, ap, sym, ◌∙◌, append_assoc}
use Rattle.std.proofs.lemmas.List.{append-nil}
use Rattle.std.specs.List.{flat_map}
use Rattle.scenario_values.specs.declared.term.Term.{Term}
use Rattle.scenario_values.specs.Scenario.{Entries}
use Rattle.scenario_values.specs.Printed.{entry_text, printed}
use Rattle.scenario_grammar.specs.inside.Built.{entry_after}

-- the text of what is left
abbrev pub left_text : Bool → Entries → List ℕ
left_text true es = printed es
left_text false es = flat_map (λ f. 59 ∷ entry_text f) es

left_step : (first : Bool) (e : List ℕ × List Term) (es : Entries) → left_text first (e ∷ es) ≡ entry_after first e ++ left_text false es
unfolding printed
left_step true e es = refl
left_step false e es = refl

pub entry_written : (out more total : List ℕ) (first : Bool) (all rest : Entries) (e : List ℕ × List Term) → all ≡ e ∷ rest → more ≡ out ++ entry_after first e
    → out ++ left_text first all ≡ total → more ++ left_text false rest ≡ total
entry_written out more total first all rest e k h so_far =
    let one : out ++ left_text first all ≡ out ++ (entry_after first e ++ left_text false rest) = rw (k, left_step first e rest) refl in
    rw h (append_assoc out (entry_after first e) (left_text false rest) ∙ sym one ∙ so_far)

nothing : (first : Bool) → left_text first [] ≡ []
unfolding printed
nothing true = refl
nothing false = refl

pub all_written : (out total : List ℕ) (first : Bool) (all : Entries) → all ≡ [] → out ++ left_text first all ≡ total → out ≡ total
all_written out total first all k so_far =
    let one : out ++ left_text first all ≡ out = rw k (ap (λ (t : List ℕ). out ++ t) (nothing first) ∙ append-nil out) in
    sym one ∙ so_far
