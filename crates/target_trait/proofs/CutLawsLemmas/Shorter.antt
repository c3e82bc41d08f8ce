-- The terms that keep only some writes do what a term for each write does, and are few.
use Rattle.std.proofs.Common.{◌≡◌, ℕ, zero, suc, ◌+◌, ◌*◌, ◌<◌, ◌≤◌, eqb, Bool, true, false, cond, List, [], ◌∷◌, ◌++◌, length, map, refl, ap, sym, arith, count_by, length-append}
use Rattle.std.specs.Str.{bytes_eq}
use Rattle.std.proofs.lemmas.Bool.Decides.{nat_tests}
use Rattle.std.proofs.lemmas.List.Sums.{sum_by-append}
use Rattle.scenario_values.specs.declared.term.Term.{Term}
use Rattle.scenario_values.specs.Scenario.{Entries, chain_of}
use Rattle.action_eval.specs.RiggedScenario.{entry, offs}
use Rattle.action_eval.proofs.Machine.{Same}
use Rattle.action_eval.proofs.Chains.{idle, joined_offs, off, same_back, same_by, same_self, same_then, under}
use Rattle.target_trait.specs.cut_laws.KeptSets.{keep_chain}
use Rattle.target_trait.proofs.CutLawsLemmas.Names.{keep_name}
use Rattle.target_trait.proofs.CutLawsLemmas.Chains.{keep_term}

-- ---- what the terms do

some_offs : (n : ℕ) → 0 < n → offs n ≡ off n ∷ []
some_offs n some = let busy : eqb n 0 ≡ false = grind (arith, nat_tests) in ap (λ b. cond b [] (off n ∷ [])) busy

under_all : (w : ℕ → ℕ) (ts c d : List Term) → Same w c d → Same w (ts ++ c) (ts ++ d)
under_all w [] c d s = s
under_all w (t ∷ ts) c d s = under w t (ts ++ c) (ts ++ d) (under_all w ts c d s)

-- what is lost at the end needs no term
lost_at_end : (w : ℕ → ℕ) (lost : ℕ) (b : Bool) → Same w [] (cond b [] (off lost ∷ []) ++ [])
lost_at_end w lost true = same_self w []
lost_at_end w lost false = same_back w (off lost ∷ []) [] (idle w (off lost) refl refl)

-- one more loss
one_lost : (w : ℕ → ℕ) (lost : ℕ) (c : List Term) → Same w (offs (lost + 1) ++ c) (offs lost ++ off 1 ∷ c)
one_lost w zero c = same_self w (off 1 ∷ c)
one_lost w (suc n) c =
    same_then w _ (off (suc n + 1) ∷ c) _ (same_by w _ _ (ap (λ (l : List Term). l ++ c) (some_offs (suc n + 1) (omega arith))))
    (same_then w _ (off (suc n) ∷ off 1 ∷ c) _ (same_back w _ _ (joined_offs w (suc n) 1 c)) (same_by w _ _ (ap (λ (l : List Term). l ++ off 1 ∷ c) (sym (some_offs (suc n) (omega arith))))))

same_keep : (w : ℕ → ℕ) (lost : ℕ) (keep : List Bool) → Same w (keep_chain lost keep) (offs lost ++ map keep_term keep)
same_keep w lost [] = lost_at_end w lost (eqb lost 0)
same_keep w lost (true ∷ keep) = under_all w (offs lost) _ _ (under w (keep_term true) _ _ (same_keep w 0 keep))
same_keep w lost (false ∷ keep) = same_then w _ (offs (lost + 1) ++ map keep_term keep) _ (same_keep w (lost + 1) keep) (one_lost w lost (map keep_term keep))

either : (w : ℕ → ℕ) (b : Bool) (c c' d d' : List Term) → Same w c d → Same w c' d' → Same w (cond b c c') (cond b d d')
either w true c c' d d' h k = h
either w false c c' d d' h k = k

entry_chain : (c : List Term) (name : List ℕ) (b : Bool) → bytes_eq name keep_name ≡ b → chain_of (entry keep_name c) name ≡ cond b c []
entry_chain [] name true e = refl
entry_chain [] name false e = refl
entry_chain (t ∷ ts) name b e = ap (λ x. cond x (t ∷ ts) []) e

same_chains : (w : ℕ → ℕ) (s : Entries) (c d : List Term) → Same w c d → (name : List ℕ) → Same w (chain_of (s ++ entry keep_name c) name) (chain_of (s ++ entry keep_name d) name)
same_chains w [] c d h name =
    let b = bytes_eq name keep_name in
    same_then w _ (cond b c []) _ (same_by w _ _ (entry_chain c name b refl))
    (same_then w _ (cond b d []) _ (either w b c [] d [] h (same_self w [])) (same_by w _ _ (sym (entry_chain d name b refl))))
same_chains w (x ∷ s) c d h name =
    either w (bytes_eq name x.0) x.1 (chain_of (s ++ entry keep_name c) name) x.1 (chain_of (s ++ entry keep_name d) name) (same_self w x.1) (same_chains w s c d h name)

pub short_chains : (w : ℕ → ℕ) (s : Entries) (keep : List Bool) (name : List ℕ)
    → Same w (chain_of (s ++ entry keep_name (keep_chain 0 keep)) name) (chain_of (s ++ entry keep_name (map keep_term keep)) name)
short_chains w s keep name = same_chains w s (keep_chain 0 keep) (map keep_term keep) (same_keep w 0 keep) name

-- ---- how many they are

few_offs : (lost : ℕ) (b : Bool) → length (cond b [] (off lost ∷ [])) ≤ 1
few_offs lost true = omega arith
few_offs lost false = omega arith

few_terms : (lost : ℕ) (keep : List Bool) → length (keep_chain lost keep) ≤ 2 * count_by (λ k. k) keep
few_terms lost [] = omega arith
few_terms lost (true ∷ keep) =
    omega (arith, few_terms 0 keep, few_offs lost (eqb lost 0), length-append (offs lost) (keep_term true ∷ keep_chain 0 keep), sum_by-append (λ (k : Bool). cond k 1 0) (true ∷ []) keep)
few_terms lost (false ∷ keep) = omega (arith, few_terms (lost + 1) keep, sum_by-append (λ (k : Bool). cond k 1 0) (false ∷ []) keep)

pub two_terms : (keep : List Bool) → length (keep_chain 0 keep) ≤ 2 * count_by (λ k. k) keep
two_terms keep = few_terms 0 keep
