-- What plans give, one after another.
use Rattle.std.proofs.lemmas.List.Elements.{All-push}
use Rattle.std.proofs.Common.{◌≡◌, All, ◌⊎◌, inl, inr, set, ℕ, zero, suc, ◌+◌, ◌<◌, ◌≤◌, max, List, [], ◌∷◌, ◌++◌, length, get_or, refl, ap, sym, ◌∙◌, subst, arith, append_assoc, nat_lt, cond, Bool, true, false}
use Rattle.std.proofs.lemmas.List.{append-nil, get_or_append_left, length-set, get_or-set_same, get_or-set_other}
use Rattle.std.proofs.lemmas.Bool.{ltb-true, ltb-false}
use Rattle.action_eval.specs.declared.rig.Rig.{Rig}
use Rattle.grown_plans.specs.GrownPlans.{most}
use Rattle.grown_runs.specs.GrownRuns.{over}

-- in two parts
pub over_parts : {A : Type 0} (f : ℕ → List Rig → List A) (plans : List (List Rig)) (a b c : ℕ) → over f plans a (b + c) ≡ over f plans a b ++ over f plans (a + b) c
over_parts f plans a zero c = ap (over f plans a) (let e : 0 + c ≡ c = omega arith in e) ∙ ap (λ k. over f plans k c) (let e : a ≡ a + 0 = omega arith in e)
over_parts f plans a (suc b) c =
    ap (over f plans a) (let e : suc b + c ≡ suc (b + c) = omega arith in e)
    ∙ ap (λ l. f a (get_or plans a []) ++ l) (over_parts f plans (a + 1) b c ∙ ap (λ k. over f plans (a + 1) b ++ over f plans k c) (let e : a + 1 + b ≡ a + suc b = omega arith in e))
    ∙ sym (append_assoc (f a (get_or plans a [])) (over f plans (a + 1) b) (over f plans (a + suc b) c))

over_one : {A : Type 0} (f : ℕ → List Rig → List A) (plans : List (List Rig)) (n : ℕ) → over f plans n 1 ≡ f n (get_or plans n [])
over_one f plans n = append-nil (f n (get_or plans n []))

-- one more
pub over_next : {A : Type 0} (f : ℕ → List Rig → List A) (plans : List (List Rig)) (first count n : ℕ) (old new one : List A) → first + count ≡ n
    → old ≡ over f plans first count → one ≡ f n (get_or plans n []) → new ≡ old ++ one → new ≡ over f plans first (count + 1)
over_next f plans first count n old new one at so_far here added =
    added ∙ ap (λ l. l ++ one) so_far
    ∙ ap (λ l. over f plans first count ++ l) (here ∙ sym (over_one f plans n) ∙ ap (λ k. over f plans k 1) (sym at))
    ∙ sym (over_parts f plans first count 1)

-- as many more
pub over_more : {A : Type 0} (f : ℕ → List Rig → List A) (plans : List (List Rig)) (first count more : ℕ) (old new further : List A)
    → old ≡ over f plans first count → further ≡ over f plans (first + count) more → new ≡ old ++ further → new ≡ over f plans first (count + more)
over_more f plans first count more old new further so_far then_these added =
    added ∙ ap (λ l. l ++ further) so_far ∙ ap (λ l. over f plans first count ++ l) then_these ∙ sym (over_parts f plans first count more)

-- plans that come behind make no difference
pub over_same : {A : Type 0} (f : ℕ → List Rig → List A) (plans more : List (List Rig)) (a b : ℕ) → a + b ≤ length plans → over f (plans ++ more) a b ≡ over f plans a b
over_same f plans more a zero le = refl
over_same f plans more a (suc b) le =
    ap (λ (p : List Rig). f a p ++ over f (plans ++ more) (a + 1) b) (get_or_append_left plans more [] a (omega (arith, le)))
    ∙ ap (λ l. f a (get_or plans a []) ++ l) (over_same f plans more (a + 1) b (omega (arith, le)))

-- ---- the most of numbers

most_either : (b : Bool) (n m : ℕ) → nat_lt m n ≡ b → cond b n m ≡ max n m
most_either true n m is = let lt = ltb-true m n is in omega (arith, lt)
most_either false n m is = let ge = ltb-false m n is in omega (arith, ge)

most_first : (n : ℕ) (ns : List ℕ) → most (n ∷ ns) ≡ max n (most ns)
most_first n ns = most_either (nat_lt (most ns) n) n (most ns) refl

pub most_parts : (xs ys : List ℕ) → most (xs ++ ys) ≡ max (most xs) (most ys)
most_parts [] ys = omega arith
most_parts (x ∷ xs) ys =
    let here = most_first x (xs ++ ys) in
    let rest = most_parts xs ys in
    let parts = most_first x xs in
    omega (arith, here, rest, parts)

pub most_single : (n : ℕ) → most (n ∷ []) ≡ n
most_single n = let e = most_first n [] in omega (arith, e)

-- ---- counts that are raised

abbrev pub IsRaisedTo : ℕ → List ℕ → List ℕ → List ℕ → Type 0
IsRaisedTo n old now counts =
    (length now ≡ length old) × ((p : ℕ) → p < n → get_or now p 0 ≡ max (get_or old p 0) (get_or counts p 0)) × ((p : ℕ) → n ≤ p → get_or now p 0 ≡ get_or old p 0)

at_or_not : (p n : ℕ) → p < n + 1 → (p < n) ⊎ (p ≡ n)
at_or_not zero zero lt = inr refl
at_or_not zero (suc n) lt = inl (omega arith)
at_or_not (suc p) zero lt = absurd (omega (arith, lt))
at_or_not (suc p) (suc n) lt = elim (at_or_not p n (omega (arith, lt))) [ inl low ↦ inl (omega (arith, low)) | inr is ↦ inr (ap suc is) ]

pub raised_next : (old now counts new : List ℕ) (n : ℕ) → IsRaisedTo n old now counts → n < length now
    → new ≡ set now n (max (get_or now n 0) (get_or counts n 0)) → IsRaisedTo (n + 1) old new counts
raised_next old now counts new n so_far lt is = (
  ap length is ∙ length-set now n _ ∙ so_far.0,
  λ p low. elim (at_or_not p n low) [
    | inl less ↦ ap (λ l. get_or l p 0) is ∙ get_or-set_other now n p _ 0 (λ e. omega (arith, e, less)) ∙ so_far.1 p less
    | inr here ↦
        ap (λ l. get_or l p 0) is ∙ ap (λ k. get_or (set now n (max (get_or now n 0) (get_or counts n 0))) k 0) here ∙ get_or-set_same now n _ 0 lt
        ∙ ap (λ m. max m (get_or counts n 0)) (so_far.2 n (omega arith)) ∙ ap (λ k. max (get_or old k 0) (get_or counts k 0)) (sym here)
  ],
  λ p high. ap (λ l. get_or l p 0) is ∙ get_or-set_other now n p _ 0 (λ e. omega (arith, e, high)) ∙ so_far.2 p (omega (arith, high)),
)

pub same_push : {X T C : Type 0} (xs ys : List X) (x : X) (t : T) (s : C) (f : X → T) (g : X → C) → ys ≡ xs ++ x ∷ [] → All (λ h. (f h ≡ t) × (g h ≡ s)) xs
    → f x ≡ t → g x ≡ s → All (λ h. (f h ≡ t) × (g h ≡ s)) ys
same_push xs ys x t s f g is all ft gs = subst (λ zs. All (λ h. (f h ≡ t) × (g h ≡ s)) zs) (sym is) (All-push (λ h. (f h ≡ t) × (g h ≡ s)) xs x all (ft, gs))
