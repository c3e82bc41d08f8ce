-- The chains of a tidied scenario.
use Rattle.std.proofs.Common.{◌≡◌, ℕ, Bool, true, false, cond, nat_lt, List, [], ◌∷◌, length, refl, ap, sym, ◌∙◌, arith}
use Rattle.std.proofs.lemmas.Bool.Decides.{nat_tests}
use Rattle.std.specs.Str.{bytes_eq}
use Rattle.std.proofs.lemmas.Slice.Eq.{bytes_eq-Decides}
use Rattle.scenario_values.specs.declared.term.Term.{Term}
use Rattle.scenario_values.specs.Scenario.{Entries, chain_of, New, DistinctNames}
use Rattle.scenario_values.specs.Tidied.{joined, tidied_chain, tidied, put}

flip_case : (a b : List ℕ) (t : Bool) → bytes_eq b a ≡ t → bytes_eq a b ≡ false → t ≡ false
flip_case a b false f e = refl
flip_case a b true f e = sym ((bytes_eq-Decides a b).1 (sym ((bytes_eq-Decides b a).0 f))) ∙ e

pub flipped : (a b : List ℕ) → bytes_eq a b ≡ false → bytes_eq b a ≡ false
flipped a b e = flip_case a b (bytes_eq b a) refl e

-- a new name has no chain
no_chain : (es : Entries) (name : List ℕ) → New name es → chain_of es name ≡ []
no_chain [] name n = refl
no_chain (e ∷ es) name n = ap (λ b. cond b e.1 (chain_of es name)) (flipped e.0 name n.0) ∙ no_chain es name n.1

pub tidied_nothing : tidied_chain [] ≡ []
unfolding tidied_chain joined
tidied_nothing = refl

pub put_found : (name other : List ℕ) (c : List Term) (es : Entries) → bytes_eq name other ≡ true → chain_of es name ≡ [] → chain_of (put other c es) name ≡ c
put_found name other [] es e n = n
put_found name other (t ∷ c) es e n =
    let some : nat_lt 0 (length (t ∷ c)) ≡ true = grind (arith, nat_tests) in
    ap (λ b. chain_of (cond b ((other, t ∷ c) ∷ es) es) name) some ∙ ap (λ b. cond b (t ∷ c) (chain_of es name)) e

pub put_other : (name other : List ℕ) (c : List Term) (es : Entries) (b : Bool) → bytes_eq name other ≡ false → chain_of (cond b ((other, c) ∷ es) es) name ≡ chain_of es name
put_other name other c es true e = ap (λ b. cond b c (chain_of es name)) e
put_other name other c es false e = refl

entry_case : (e : List ℕ × List Term) (es : Entries) (name : List ℕ) → New e.0 es → chain_of (tidied es) name ≡ tidied_chain (chain_of es name) → (b : Bool) → bytes_eq name e.0 ≡ b
    → chain_of (put e.0 (tidied_chain e.1) (tidied es)) name ≡ tidied_chain (cond b e.1 (chain_of es name))
entry_case e es name n h true q =
    let here : name ≡ e.0 = (bytes_eq-Decides name e.0).0 q in
    put_found name e.0 (tidied_chain e.1) (tidied es) q (h ∙ ap tidied_chain (ap (chain_of es) here ∙ no_chain es e.0 n) ∙ tidied_nothing)
entry_case e es name n h false q = put_other name e.0 (tidied_chain e.1) (tidied es) (nat_lt 0 (length (tidied_chain e.1))) q ∙ h

-- the chain of a name is the tidied one
pub tidied_of : (s : Entries) (name : List ℕ) → DistinctNames s → chain_of (tidied s) name ≡ tidied_chain (chain_of s name)
tidied_of [] name d = sym tidied_nothing
tidied_of (e ∷ es) name d = entry_case e es name d.0 (tidied_of es name d.1) (bytes_eq name e.0) refl
