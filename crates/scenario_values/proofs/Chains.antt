-- Loops over a chain.
use Rattle.std.proofs.Common.{◌≡◌, ℕ, suc, ◌+◌, ◌<◌, ◌≤◌, List, [], ◌∷◌, ◌++◌, length, drop, get_or, refl, ap, sym, ◌∙◌, append_assoc, add-one, drop-cons, Some, None}
use Rattle.std.proofs.lemmas.List.{append-nil}
use Rattle.scenario_values.specs.declared.term.Term.{Term}
use Rattle.scenario_values.specs.declared.place.Place.{Place}
use Rattle.scenario_values.specs.Faults.{place_of, chain_faults}
use Rattle.scenario_values.specs.Keep.{kept_term, after_term, kept_chain, after_chain}
use Rattle.scenario_values.specs.Tidied.{joint, joined_onto}
use Rattle.scenario_values.specs.inside.Walks.{StandsAt}

-- the rest of a list, by its first element
pub rest_is : {A : Type 0} (xs : List A) (i : ℕ) (x : A) → i < length xs → x ≡ get_or xs i x → drop i xs ≡ x ∷ drop (i + 1) xs
rest_is xs i x less is = rw add-one (rw (drop-cons xs i x) (ap (λ y. y ∷ drop (suc i) xs) (sym is)))

pub faults_go_on : (done more total : List Place) (entry n : ℕ) (ts rest : List Term) (t : Term) → ts ≡ t ∷ rest → more ≡ done ++ place_of entry n t
    → done ++ chain_faults entry n ts ≡ total → more ++ chain_faults entry (n + 1) rest ≡ total
unfolding chain_faults
faults_go_on done more total entry n ts rest t k h so_far =
    let one : done ++ chain_faults entry n ts ≡ done ++ (place_of entry n t ++ chain_faults entry (n + 1) rest) = rw k refl in
    rw h (append_assoc done (place_of entry n t) (chain_faults entry (n + 1) rest) ∙ sym one ∙ so_far)

pub faults_done : (done total : List Place) (entry n : ℕ) (ts : List Term) → ts ≡ [] → done ++ chain_faults entry n ts ≡ total → done ≡ total
unfolding chain_faults
faults_done done total entry n ts k so_far = let one : done ++ chain_faults entry n ts ≡ done = rw k (append-nil done) in sym one ∙ so_far

pub kept_goes_on : (set : List ℕ) (done total ts rest : List Term) (n : ℕ) (t : Term) → ts ≡ t ∷ rest
    → done ++ kept_chain set n ts ≡ total → (done ++ kept_term set n t ∷ []) ++ kept_chain set (after_term n t) rest ≡ total
unfolding kept_chain
kept_goes_on set done total ts rest n t k so_far =
    let one : done ++ kept_chain set n ts ≡ done ++ (kept_term set n t ∷ kept_chain set (after_term n t) rest) = rw k refl in
    append_assoc done (kept_term set n t ∷ []) (kept_chain set (after_term n t) rest) ∙ sym one ∙ so_far

pub after_goes_on : (total n : ℕ) (ts rest : List Term) (t : Term) → ts ≡ t ∷ rest → after_chain n ts ≡ total → after_chain (after_term n t) rest ≡ total
unfolding after_chain
after_goes_on total n ts rest t k so_far = let one : after_chain n ts ≡ after_chain (after_term n t) rest = rw k refl in sym one ∙ so_far

pub kept_done : (set : List ℕ) (done total ts : List Term) (n : ℕ) → ts ≡ [] → done ++ kept_chain set n ts ≡ total → done ≡ total
unfolding kept_chain
kept_done set done total ts n k so_far = let one : done ++ kept_chain set n ts ≡ done = rw k (append-nil done) in sym one ∙ so_far

pub after_done : (total n : ℕ) (ts : List Term) → ts ≡ [] → after_chain n ts ≡ total → n ≡ total
unfolding after_chain
after_done total n ts k so_far = let one : after_chain n ts ≡ n = rw k refl in sym one ∙ so_far

-- a term that isn't joined is done, and the next one is the last
pub joined_apart : (done total us rest : List Term) (t u : Term) → us ≡ u ∷ rest → joint t u ≡ None → done ++ joined_onto t us ≡ total → (done ++ t ∷ []) ++ joined_onto u rest ≡ total
unfolding joined_onto
joined_apart done total us rest t u k apart so_far =
    let one : done ++ joined_onto t us ≡ done ++ (t ∷ joined_onto u rest) = rw (k, apart) refl in
    append_assoc done (t ∷ []) (joined_onto u rest) ∙ sym one ∙ so_far

pub joined_more : (done total us rest : List Term) (t u : Term) (n : ℕ) → us ≡ u ∷ rest → joint t u ≡ Some n → done ++ joined_onto t us ≡ total → done ++ joined_onto (record t { count = Some n }) rest ≡ total
unfolding joined_onto
joined_more done total us rest t u n k together so_far =
    let one : done ++ joined_onto t us ≡ done ++ joined_onto (record t { count = Some n }) rest = rw (k, together) refl in
    sym one ∙ so_far

pub joined_done : (done total us : List Term) (t : Term) → us ≡ [] → done ++ joined_onto t us ≡ total → done ++ t ∷ [] ≡ total
unfolding joined_onto
joined_done done total us t k so_far = let one : done ++ joined_onto t us ≡ done ++ t ∷ [] = rw k refl in sym one ∙ so_far

-- what the loop over a chain keeps: what is done, what is left of the chain, and where the walk stands
pub record ChainWalk (set : List ℕ) (done total : List Term) (end : ℕ) (left : List Term) (most number passed : ℕ) : Type 0 where
  pub few : number ≤ most
  pub stands : StandsAt set number passed
  pub so_far : done ++ kept_chain set number left ≡ total
  pub after : after_chain number left ≡ end
