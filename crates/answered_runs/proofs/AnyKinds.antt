-- At the hits of a scenario's rigged hits the kinds of these are tried, each once.
use Rattle.std.proofs.Common.{◌≡◌, ℕ, Bool, true, false, cond, Option, Some, None, List, [], ◌∷◌, map, refl, ap, sym, ◌∙◌, subst}
use Rattle.std.specs.Prelude.{Contains}
use Rattle.std.specs.List.{AllByRecursion}
use Rattle.std.proofs.lemmas.Slice.Eq.{bytes_eq-Decides}
use Rattle.action_eval.specs.declared.rig.Kind.{Kind}
use Rattle.action_eval.specs.declared.rig.Kind.TheVariants.{OnceReturn, OnwardReturn, OncePanic}
use Rattle.action_eval.specs.declared.rig.Rig.{Rig}
use Rattle.action_eval.specs.RiggedScenario.{HasLawfulText, HaveLawfulTexts, is_same_text}
use Rattle.plan_gen.specs.RiggedAnswers.{is_onward}
use Rattle.grown_plans.specs.Promises.{EachTwo}
use Rattle.grown_plans.proofs.Members.{all_contains, all_weaker, contains_head, contains_tail}
use Rattle.grown_plans.proofs.RiggedScenarios.{same_text}
use Rattle.grown_runs.specs.known.Walks.{once}

pub same_kind : Kind → Kind → Bool
same_kind (OnceReturn a) (OnceReturn b) = is_same_text a b
same_kind (OnceReturn a) (OnwardReturn b) = false
same_kind (OnceReturn a) OncePanic = false
same_kind (OnwardReturn a) (OnceReturn b) = false
same_kind (OnwardReturn a) (OnwardReturn b) = is_same_text a b
same_kind (OnwardReturn a) OncePanic = false
same_kind OncePanic (OnceReturn b) = false
same_kind OncePanic (OnwardReturn b) = false
same_kind OncePanic OncePanic = true

own_text : (a : Option (List ℕ)) → is_same_text a a ≡ true
own_text None = refl
own_text (Some a) = (bytes_eq-Decides a a).1 refl

own_kind : (k : Kind) → same_kind k k ≡ true
unfolding same_kind
own_kind (OnceReturn a) = own_text a
own_kind (OnwardReturn a) = own_text a
own_kind OncePanic = refl

kind_is : (j k : Kind) → same_kind j k ≡ true → j ≡ k
unfolding same_kind
kind_is (OnceReturn a) (OnceReturn b) e = ap (λ (x : Option (List ℕ)). OnceReturn x) (same_text a b e)
kind_is (OnceReturn a) (OnwardReturn b) e = absurd cc
kind_is (OnceReturn a) OncePanic e = absurd cc
kind_is (OnwardReturn a) (OnceReturn b) e = absurd cc
kind_is (OnwardReturn a) (OnwardReturn b) e = ap (λ (x : Option (List ℕ)). OnwardReturn x) (same_text a b e)
kind_is (OnwardReturn a) OncePanic e = absurd cc
kind_is OncePanic (OnceReturn b) e = absurd cc
kind_is OncePanic (OnwardReturn b) e = absurd cc
kind_is OncePanic OncePanic e = refl

-- ---- kinds without one of them

abbrev pub without : Kind → List Kind → List Kind
without k [] = []
without k (j ∷ js) = cond (same_kind k j) (without k js) (j ∷ without k js)

all_without : (P : Kind → Type 0) (k : Kind) (js : List Kind) → AllByRecursion P js → AllByRecursion P (without k js)
all_without P k [] all = tt
all_without P k (j ∷ js) all = by_test (same_kind k j) (all_without P k js all.1)
  where
    by_test : (b : Bool) → AllByRecursion P (without k js) → AllByRecursion P (cond b (without k js) (j ∷ without k js))
    by_test true rest = rest
    by_test false rest = (all.0, rest)

apart_without : (k : Kind) (js : List Kind) → AllByRecursion (λ j. k ≡ j → ⊥) (without k js)
apart_without k [] = tt
apart_without k (j ∷ js) = by_test (same_kind k j) refl (apart_without k js)
  where
    by_test : (b : Bool) → same_kind k j ≡ b → AllByRecursion (λ j. k ≡ j → ⊥) (without k js) → AllByRecursion (λ j. k ≡ j → ⊥) (cond b (without k js) (j ∷ without k js))
    by_test true e rest = rest
    by_test false e rest = ((λ same. let yes : same_kind k j ≡ true = subst (λ (x : Kind). same_kind k x ≡ true) same (own_kind k) in let no : true ≡ false = sym yes ∙ e in cc), rest)

two_without : (R : Kind → Kind → Type 0) (k : Kind) (js : List Kind) → EachTwo R js → EachTwo R (without k js)
two_without R k [] two = tt
two_without R k (j ∷ js) two = by_test (same_kind k j) (two_without R k js two.1)
  where
    by_test : (b : Bool) → EachTwo R (without k js) → EachTwo R (cond b (without k js) (j ∷ without k js))
    by_test true rest = rest
    by_test false rest = (all_without (R j) k js two.0, rest)

kept : (k : Kind) (js : List Kind) → AllByRecursion (λ x. same_kind k x ≡ false → Contains (without k js) x) js
kept k [] = tt
kept k (j ∷ js) = by_test (same_kind k j) refl (kept k js)
  where
    by_test : (b : Bool) → same_kind k j ≡ b → AllByRecursion (λ x. same_kind k x ≡ false → Contains (without k js) x) js
        → AllByRecursion (λ x. same_kind k x ≡ false → Contains (cond b (without k js) (j ∷ without k js)) x) (j ∷ js)
    by_test true e rest = ((λ f. absurd (let no : true ≡ false = sym e ∙ f in cc)), rest)
    by_test false e rest =
        ((λ f. contains_head j (without k js)), all_weaker (λ x. same_kind k x ≡ false → Contains (without k js) x) (λ x. same_kind k x ≡ false → Contains (j ∷ without k js) x) (λ x g f. contains_tail j x (without k js) (g f)) js rest)

-- ---- each once

abbrev pub distinct : List Kind → List Kind
distinct [] = []
distinct (k ∷ ks) = k ∷ without k (distinct ks)

all_distinct : (P : Kind → Type 0) (ks : List Kind) → AllByRecursion P ks → AllByRecursion P (distinct ks)
all_distinct P [] all = tt
all_distinct P (k ∷ ks) all = (all.0, all_without P k (distinct ks) (all_distinct P ks all.1))

pub distinct_apart : (ks : List Kind) → EachTwo (λ (j k : Kind). j ≡ k → ⊥) (distinct ks)
distinct_apart [] = tt
distinct_apart (k ∷ ks) = (apart_without k (distinct ks), two_without (λ (j k : Kind). j ≡ k → ⊥) k (distinct ks) (distinct_apart ks))

in_front : (k : Kind) (js : List Kind) (x : Kind) → (same_kind k x ≡ false → Contains (without k js) x) → Contains (k ∷ without k js) x
in_front k js x further = by_test (same_kind k x) refl
  where
    by_test : (b : Bool) → same_kind k x ≡ b → Contains (k ∷ without k js) x
    by_test true e = subst (Contains (k ∷ without k js)) (kind_is k x e) (contains_head k (without k js))
    by_test false e = contains_tail k x (without k js) (further e)

in_distinct : (ks : List Kind) → AllByRecursion (Contains (distinct ks)) ks
in_distinct [] = tt
in_distinct (k ∷ ks) =
    (contains_head k (without k (distinct ks)), all_weaker (Contains (distinct ks)) (Contains (k ∷ without k (distinct ks))) (λ x c. in_front k (distinct ks) x (λ f. still x c f)) ks (in_distinct ks))
  where
    still : (x : Kind) → Contains (distinct ks) x → same_kind k x ≡ false → Contains (without k (distinct ks)) x
    still x c f = all_contains (λ y. same_kind k y ≡ false → Contains (without k (distinct ks)) y) (distinct ks) x (kept k (distinct ks)) c f

-- ---- those of rigged hits

abbrev pub any_kinds : List Rig → ℕ → List Kind
any_kinds rigs point = distinct (map (λ (r : Rig). once r.kind) rigs)

mapped : (P : Kind → Type 0) (rigs : List Rig) → AllByRecursion (λ (r : Rig). P (once r.kind)) rigs → AllByRecursion P (map (λ (r : Rig). once r.kind) rigs)
mapped P [] all = tt
mapped P (r ∷ rs) all = (all.0, mapped P rs all.1)

unmapped : (P : Kind → Type 0) (rigs : List Rig) → AllByRecursion P (map (λ (r : Rig). once r.kind) rigs) → AllByRecursion (λ (r : Rig). P (once r.kind)) rigs
unmapped P [] all = tt
unmapped P (r ∷ rs) all = (all.0, unmapped P rs all.1)

acts_once : (k : Kind) → is_onward (once k) ≡ false
acts_once (OnceReturn text) = refl
acts_once (OnwardReturn text) = refl
acts_once OncePanic = refl

same_lawful : (k : Kind) → HasLawfulText k → HasLawfulText (once k)
same_lawful (OnceReturn text) h = h
same_lawful (OnwardReturn text) h = h
same_lawful OncePanic h = h

each : (P : Rig → Type 0) → ((r : Rig) → P r) → (rigs : List Rig) → AllByRecursion P rigs
each P h [] = tt
each P h (r ∷ rs) = (h r, each P h rs)

pub any_once : (rigs : List Rig) (point : ℕ) → AllByRecursion (λ kind. is_onward kind ≡ false) (any_kinds rigs point)
any_once rigs point = all_distinct (λ kind. is_onward kind ≡ false) _ (mapped (λ kind. is_onward kind ≡ false) rigs (each (λ (r : Rig). is_onward (once r.kind) ≡ false) (λ r. acts_once r.kind) rigs))

pub any_texts : (rigs : List Rig) → HaveLawfulTexts rigs → (point : ℕ) → AllByRecursion HasLawfulText (any_kinds rigs point)
any_texts rigs texts point =
    all_distinct HasLawfulText _ (mapped HasLawfulText rigs (all_weaker (λ (r : Rig). HasLawfulText r.kind) (λ (r : Rig). HasLawfulText (once r.kind)) (λ r h. same_lawful r.kind h) rigs texts))

pub any_in : (rigs : List Rig) → AllByRecursion (λ (r : Rig). Contains (any_kinds rigs r.site.point) (once r.kind)) rigs
any_in rigs = unmapped (Contains (distinct (map (λ (r : Rig). once r.kind) rigs))) rigs (in_distinct (map (λ (r : Rig). once r.kind) rigs))
