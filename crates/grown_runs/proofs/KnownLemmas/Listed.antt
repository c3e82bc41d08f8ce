-- Plans that grow from what is recorded of runs are the part of the subject's list that is known.
use Rattle.std.proofs.Common.{◌≡◌, ℕ, zero, suc, ◌+◌, ◌≤◌, ◌&&◌, Bool, true, false, cond, List, [], ◌∷◌, ◌++◌, refl, ap, sym, ◌∙◌, arith}
use Rattle.std.specs.Prelude.{Contains, flat_map, Option, Some, None}
use Rattle.std.specs.List.{AllByRecursion, filter}
use Rattle.std.proofs.lemmas.List.Elements.{filter-append, Contains-append_left}
use Rattle.action_eval.specs.declared.rig.Rig.{Rig}
use Rattle.action_eval.specs.declared.rig.Kind.{Kind}
use Rattle.action_eval.specs.declared.rig.Kind.TheVariants.{OnceReturn, OnwardReturn, OncePanic}
use Rattle.action_eval.specs.RiggedScenario.{rig, text_of}
use Rattle.grown_plans.specs.Runs.{Met}
use Rattle.grown_plans.specs.GrownPlans.{Subject, run_of_plan, hits_past, grown_at, children, is_once_return, is_hit_again, onward_of, level, levels, levels_to, onward, grown}
use Rattle.grown_plans.specs.AskedPoints.{GrowsByAsked, GoesOnwardByAsked, children_by, onward_by}
use Rattle.grown_plans.specs.Promises.{IsLawful}
use Rattle.grown_plans.proofs.Members.{all_of, all_map, all_flat, all_by_contains, all_contains}
use Rattle.grown_plans.proofs.Apart.{level_in_levels}
use Rattle.grown_plans.proofs.AskedSites.{grows_by_asked, goes_onward_by_asked}
use Rattle.grown_runs.specs.known.Known.{Agrees, KnownRuns, hits_of}
use Rattle.grown_runs.specs.known.KnownPart.{are_told, is_reached, is_reached_onward, known_part, once_of}
use Rattle.grown_runs.specs.known.ToldPart.{children_known, children_told, level_known, levels_known, onward_told, part_known}
use Rattle.grown_runs.proofs.KnownLemmas.Sites.{asked_told, hits_true}

-- ---- members that pass a test

pub filter_all : {A : Type 0} (p : A → Bool) (b : Bool) (xs : List A) → AllByRecursion (λ x. p x ≡ b) xs → filter p xs ≡ cond b xs []
filter_all {A} p true [] a = refl
filter_all {A} p false [] a = refl
filter_all {A} p true (x ∷ xs) a = ap (λ (t : Bool). cond t (x ∷ filter p xs) (filter p xs)) a.0 ∙ ap (λ (l : List A). x ∷ l) (filter_all p true xs a.1)
filter_all {A} p false (x ∷ xs) a = ap (λ (t : Bool). cond t (x ∷ filter p xs) (filter p xs)) a.0 ∙ filter_all p false xs a.1

filter_flat : {A B : Type 0} (p : A → Bool) (q : B → Bool) (f g : A → List B) (xs : List A) → AllByRecursion (λ x. filter q (f x) ≡ cond (p x) (g x) []) xs → filter q (flat_map f xs) ≡ flat_map g (filter p xs)
filter_flat p q f g [] a = refl
filter_flat {A} {B} p q f g (x ∷ xs) a =
    filter-append q (f x) (flat_map f xs) ∙ ap (λ (l : List B). l ++ filter q (flat_map f xs)) a.0 ∙ ap (λ (l : List B). cond (p x) (g x) [] ++ l) (filter_flat p q f g xs a.1) ∙ by_test (p x)
  where
    by_test : (b : Bool) → cond b (g x) [] ++ flat_map g (filter p xs) ≡ flat_map g (cond b (x ∷ filter p xs) (filter p xs))
    by_test true = refl
    by_test false = refl

-- If hits are recorded, what grows by them; otherwise nothing.
by_hits : {A : Type 0} (o : Option (List ℕ)) (reached : Bool) (all : List A) (grows : Option (List ℕ) → List A) → grows None ≡ [] → ((hits : List ℕ) → o ≡ Some hits → all ≡ grows (Some hits))
    → cond (are_told o && reached) all [] ≡ cond reached (grows o) []
by_hits None true all grows none some = sym none
by_hits None false all grows none some = refl
by_hits (Some hits) true all grows none some = some hits refl
by_hits (Some hits) false all grows none some = refl

-- ---- children

pub children_reached : (t : Subject) (known : KnownRuns) (plan : List Rig) (ms : List Met) → AllByRecursion (λ c. is_reached known c ≡ (are_told (hits_of known plan) && is_reached known plan)) (flat_map (grown_at t plan) ms)
children_reached t known plan ms =
    let P : List Rig → Type 0 = λ c. is_reached known c ≡ (are_told (hits_of known plan) && is_reached known plan) in
    all_flat P (grown_at t plan) ms (all_of (λ m. AllByRecursion P (grown_at t plan m)) (λ m. all_map P (λ kind. rig m.site kind ∷ plan) (t.kinds m.site.point) (all_of _ (λ kind. refl) (t.kinds m.site.point))) ms)

children_part : (t : Subject) (d n : ℕ) (known : KnownRuns) (plan : List Rig) → Agrees t d known → Contains (grown t d) plan → GrowsByAsked t plan
    → filter (is_reached known) (children t plan) ≡ cond (is_reached known plan) (children_known t.kinds known plan) []
children_part t d n known plan a c grows =
    filter_all (is_reached known) (are_told (hits_of known plan) && is_reached known plan) (children t plan) (children_reached t known plan (hits_past plan (run_of_plan t plan)))
    ∙ by_hits (hits_of known plan) (is_reached known plan) (children t plan) (children_told t.kinds plan) refl
    (λ hits e. grows 0 0 ∙ ap (children_by t.kinds plan) (asked_told t plan hits (hits_true t d known plan hits a c e)))

in_grown : (t : Subject) (d n : ℕ) (plan : List Rig) → n ≤ d → Contains (level t n) plan → Contains (grown t d) plan
in_grown t d n plan le c = Contains-append_left (levels t d) (onward t d) plan (level_in_levels t d n plan le c)

pub level_is : (t : Subject) → IsLawful t → (d n : ℕ) (known : KnownRuns) → Agrees t d known → n ≤ d + 1 → filter (is_reached known) (level t n) ≡ level_known t.kinds known n
unfolding level level_known
level_is t l d zero known a le = refl
level_is t l d (suc n) known a le =
    filter_flat (is_reached known) (is_reached known) (children t) (children_known t.kinds known) (level t n)
    (all_by_contains _ (level t n) (λ plan c. children_part t d n known plan a (in_grown t d n plan (omega (arith, le)) c) (all_contains (GrowsByAsked t) (level t n) plan (grows_by_asked t l n) c)))
    ∙ ap (flat_map (children_known t.kinds known)) (level_is t l d n known a (omega (arith, le)))

pub levels_is : (t : Subject) → IsLawful t → (d n : ℕ) (known : KnownRuns) → Agrees t d known → n ≤ d → filter (is_reached known) (levels t n) ≡ levels_known t.kinds known n
unfolding levels_to
levels_is t l d zero known a le = level_is t l d zero known a (omega (arith, le))
levels_is t l d (suc n) known a le =
    filter-append (is_reached known) (levels t n) (level t (suc n))
    ∙ ap (λ (x : List (List Rig)). x ++ filter (is_reached known) (level t (suc n))) (levels_is t l d n known a (omega (arith, le)))
    ∙ ap (λ (x : List (List Rig)). levels_known t.kinds known n ++ x) (level_is t l d (suc n) known a (omega (arith, le)))

-- ---- plans with a sticky last fault

filter_one : {A : Type 0} (q : A → Bool) (y : A) (b : Bool) → filter q (cond b (y ∷ []) []) ≡ cond (q y) (cond b (y ∷ []) []) []
filter_one q y b = by_tests b (q y) refl
  where
    by_tests : (b v : Bool) → q y ≡ v → filter q (cond b (y ∷ []) []) ≡ cond v (cond b (y ∷ []) []) []
    by_tests true true e = ap (λ (v : Bool). cond v (y ∷ []) []) e
    by_tests true false e = ap (λ (v : Bool). cond v (y ∷ []) []) e
    by_tests false true e = refl
    by_tests false false e = refl

none_either : {A : Type 0} (b : Bool) → cond {A = List A} b [] [] ≡ []
none_either true = refl
none_either false = refl

onward_part : (t : Subject) (d : ℕ) (known : KnownRuns) (plan : List Rig) → Agrees t d known → Contains (grown t d) plan → GoesOnwardByAsked t plan
    → filter (is_reached_onward known) (onward_of t plan) ≡ cond (is_reached known plan) (onward_told plan (hits_of known plan)) []
onward_part t d known [] a c goes = by_told (hits_of known [])
  where
    by_told : (o : Option (List ℕ)) → [] ≡ onward_told [] o
    by_told None = refl
    by_told (Some hits) = refl
onward_part t d known (r ∷ rs) a c goes = by_kind r.kind refl
  where
    grows : (hits : List ℕ) → hits_of known (r ∷ rs) ≡ Some hits → onward_of t (r ∷ rs) ≡ onward_told (r ∷ rs) (Some hits)
    grows hits e = goes 0 0 ∙ ap (onward_by (r ∷ rs)) (asked_told t (r ∷ rs) hits (hits_true t d known (r ∷ rs) hits a c e))

    never : (kind : Kind) → r.kind ≡ kind → is_once_return kind ≡ false → filter (is_reached_onward known) (onward_of t (r ∷ rs)) ≡ cond (is_reached known (r ∷ rs)) (onward_told (r ∷ rs) (hits_of known (r ∷ rs))) []
    never kind e f =
        let not_once : is_once_return r.kind ≡ false = ap is_once_return e ∙ f in
        ap (λ (b : Bool). filter (is_reached_onward known) (cond (b && is_hit_again r.site (run_of_plan t (r ∷ rs))) ((rig r.site (OnwardReturn (text_of r.kind)) ∷ rs) ∷ []) [])) not_once
        ∙ sym (none_either (is_reached known (r ∷ rs))) ∙ ap (λ (x : List (List Rig)). cond (is_reached known (r ∷ rs)) x []) (by_told (hits_of known (r ∷ rs)) not_once)
      where
        by_told : (o : Option (List ℕ)) → is_once_return r.kind ≡ false → [] ≡ onward_told (r ∷ rs) o
        by_told None e = refl
        by_told (Some hits) e = rw e refl

    by_kind : (kind : Kind) → r.kind ≡ kind → filter (is_reached_onward known) (onward_of t (r ∷ rs)) ≡ cond (is_reached known (r ∷ rs)) (onward_told (r ∷ rs) (hits_of known (r ∷ rs))) []
    by_kind (OnceReturn text) e =
        let once : once_of (rig r.site (OnwardReturn (text_of r.kind)) ∷ rs) ≡ r ∷ rs = ap (λ (k : Kind). rig r.site k ∷ rs) (ap (λ (k : Kind). OnceReturn (text_of k)) e ∙ sym e) in
        filter_one (is_reached_onward known) (rig r.site (OnwardReturn (text_of r.kind)) ∷ rs) (is_once_return r.kind && is_hit_again r.site (run_of_plan t (r ∷ rs)))
        ∙ ap (λ (p : List Rig). cond (are_told (hits_of known p) && is_reached known p) (onward_of t (r ∷ rs)) []) once
        ∙ by_hits (hits_of known (r ∷ rs)) (is_reached known (r ∷ rs)) (onward_of t (r ∷ rs)) (onward_told (r ∷ rs)) refl grows
    by_kind (OnwardReturn text) e = never (OnwardReturn text) e refl
    by_kind OncePanic e = never OncePanic e refl

pub onward_is : (t : Subject) → IsLawful t → (d : ℕ) (known : KnownRuns) → Agrees t d known
    → filter (is_reached_onward known) (onward t d) ≡ flat_map (λ plan. onward_told plan (hits_of known plan)) (level_known t.kinds known d)
unfolding onward
onward_is t l d known a =
    filter_flat (is_reached known) (is_reached_onward known) (onward_of t) (λ plan. onward_told plan (hits_of known plan)) (level t d)
    (all_by_contains _ (level t d) (λ plan c. onward_part t d known plan a (in_grown t d d plan (omega arith) c) (all_contains (GoesOnwardByAsked t) (level t d) plan (goes_onward_by_asked t l d) c)))
    ∙ ap (flat_map (λ plan. onward_told plan (hits_of known plan))) (level_is t l d d known a (omega arith))

pub part_is : (t : Subject) → IsLawful t → (d : ℕ) (known : KnownRuns) → Agrees t d known → known_part t d known ≡ part_known t.kinds known d
part_is t l d known a =
    ap (λ (x : List (List Rig)). x ++ filter (is_reached_onward known) (onward t d)) (levels_is t l d d known a (omega arith))
    ∙ ap (λ (x : List (List Rig)). levels_known t.kinds known d ++ x) (onward_is t l d known a)
