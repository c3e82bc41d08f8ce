-- No two plans of the levels are the same, and no two have the same run.
use Rattle.std.proofs.Common.{◌≡◌, ℕ, zero, suc, ◌<◌, ◌≤◌, inl, inr, List, [], ◌∷◌, ◌++◌, length, refl, ap, sym, ◌∙◌, subst, arith}
use Rattle.std.specs.Prelude.{Contains}
use Rattle.std.specs.List.{AllByRecursion}
use Rattle.std.proofs.lemmas.List.{append-nil}
use Rattle.std.proofs.lemmas.List.Elements.{Contains-append_left, Contains-append_right}
use Rattle.std.proofs.lemmas.Bool.{cases_lt}
use Rattle.action_eval.specs.declared.rig.Site.{Site}
use Rattle.action_eval.specs.declared.rig.Rig.{Rig}
use Rattle.action_eval.specs.declared.rig.Kind.{Kind}
use Rattle.action_eval.specs.Answers.{Reply}
use Rattle.action_eval.specs.RiggedScenario.{rig}
use Rattle.target_trait.specs.Play.{Move}
use Rattle.grown_plans.specs.Runs.{Met}
use Rattle.grown_plans.specs.GrownPlans.{Subject, run_of_plan, hits_past, grown_at, children, level, levels, levels_to}
use Rattle.grown_plans.specs.Promises.{EachTwo, IsLawful}
use Rattle.grown_plans.proofs.Members.{all_weaker, all_append, all_map, all_flat, all_of, two_append, two_map, two_flat, two_right, two_weaker, two_with}
use Rattle.grown_plans.proofs.Paths.{IsPath, Numbered, numbered_more, next_is}
use Rattle.grown_plans.proofs.PlanRuns.{plan_path}
use Rattle.grown_plans.proofs.Faults.{faults, later_fresh}
use Rattle.grown_plans.proofs.Levels.{IsGrown, past_of, level_grown}

abbrev pub Differ : List Rig → List Rig → Type 0
Differ a b = a ≡ b → ⊥

path_apart : (asks : List Reply → Move) (n : ℕ) (before ms : List Met) → Numbered before → IsPath asks n before ms → EachTwo (λ (x y : Met). x.site ≡ y.site → ⊥) ms
path_apart asks n before [] k p = tt
path_apart asks zero before (m ∷ ms) k p = absurd p
path_apart asks (suc n) before (m ∷ ms) k p =
    let more = numbered_more before m (next_is asks before m.site p.0).1 k in
    (all_weaker (λ (x : Met). x.site ≡ m.site → ⊥) (λ (y : Met). m.site ≡ y.site → ⊥) (λ y h e. h (sym e)) ms (later_fresh asks n before m ms more p.1), path_apart asks n (before ++ m ∷ []) ms more p.1)

other_kind : (s : Site) (plan : List Rig) (j k : Kind) → (j ≡ k → ⊥) → Differ (rig s j ∷ plan) (rig s k ∷ plan)
other_kind s plan j k n e = n (let same : rig s j ≡ rig s k = cc in ap (λ (r : Rig). r.kind) same)

other_site : (r s : Site) (plan : List Rig) (j k : Kind) → (r ≡ s → ⊥) → Differ (rig r j ∷ plan) (rig s k ∷ plan)
other_site r s plan j k n e = n (let same : rig r j ≡ rig s k = cc in ap (λ (x : Rig). x.site) same)

other_parent : (r s : Rig) (a b : List Rig) → Differ a b → Differ (r ∷ a) (s ∷ b)
other_parent r s a b n e = n (let same : a ≡ b = cc in same)

children_apart : (t : Subject) → IsLawful t → (n : ℕ) (plan : List Rig) → IsGrown t n plan → EachTwo Differ (children t plan)
children_apart t l n plan g =
    let run : List Met = run_of_plan t plan in
    let path : IsPath t.asks t.limit [] (run ++ []) = subst (λ (ms : List Met). IsPath t.asks t.limit [] ms) (sym (append-nil run)) (plan_path t plan) in
    let past = past_of t.asks t.limit plan run [] path g.runs in
    let late : hits_past plan run ≡ past.late = ap (hits_past plan) (sym (append-nil run)) ∙ past.past ∙ append-nil past.late in
    let whole : EachTwo (λ (x y : Met). x.site ≡ y.site → ⊥) (past.early ++ past.late) =
    subst (EachTwo (λ (x y : Met). x.site ≡ y.site → ⊥)) past.split (path_apart t.asks t.limit [] run tt (plan_path t plan))
    in
    let sites : EachTwo (λ (x y : Met). x.site ≡ y.site → ⊥) (hits_past plan run) =
    subst (EachTwo (λ (x y : Met). x.site ≡ y.site → ⊥)) (sym late) (two_right (λ (x y : Met). x.site ≡ y.site → ⊥) past.early past.late whole)
    in
    two_flat Differ (grown_at t plan) (hits_past plan run)
    (all_of (λ m. EachTwo Differ (grown_at t plan m))
    (λ m. two_map Differ (λ kind. rig m.site kind ∷ plan) (t.kinds m.site.point) (two_weaker (λ a b. a ≡ b → ⊥) _ (λ j k h. other_kind m.site plan j k h) (t.kinds m.site.point) (l.apart m.site.point))) (hits_past plan run))
    (two_weaker (λ (x y : Met). x.site ≡ y.site → ⊥) _
    (λ x y h. all_map (λ u. AllByRecursion (Differ u) (grown_at t plan y)) (λ kind. rig x.site kind ∷ plan) (t.kinds x.site.point)
    (all_of _ (λ j. all_map (Differ (rig x.site j ∷ plan)) (λ kind. rig y.site kind ∷ plan) (t.kinds y.site.point) (all_of _ (λ k. other_site x.site y.site plan j k h) (t.kinds y.site.point))) (t.kinds x.site.point)))
    (hits_past plan run) sites)

abbrev IsChild : List Rig → List Rig → Type 0
IsChild plan child = (r : Rig) × (child ≡ r ∷ plan)

children_of : (t : Subject) (plan : List Rig) → AllByRecursion (IsChild plan) (children t plan)
children_of t plan =
    all_flat (IsChild plan) (grown_at t plan) (hits_past plan (run_of_plan t plan))
    (all_of _ (λ m. all_map (IsChild plan) (λ kind. rig m.site kind ∷ plan) (t.kinds m.site.point) (all_of _ (λ kind. (rig m.site kind, refl)) (t.kinds m.site.point))) (hits_past plan (run_of_plan t plan)))

cousins : (t : Subject) (a b : List Rig) → Differ a b → AllByRecursion (λ u. AllByRecursion (Differ u) (children t b)) (children t a)
cousins t a b n =
    all_weaker (IsChild a) _
    (λ u h. all_weaker (IsChild b) (Differ u) (λ v k e. other_parent h.0 k.0 a b n (sym h.1 ∙ e ∙ k.1)) (children t b) (children_of t b)) (children t a) (children_of t a)

pub level_apart : (t : Subject) → IsLawful t → (n : ℕ) → EachTwo Differ (level t n)
unfolding level
level_apart t l zero = (tt, tt)
level_apart t l (suc n) =
    two_flat Differ (children t) (level t n) (all_weaker (IsGrown t n) _ (λ plan g. children_apart t l n plan g) (level t n) (level_grown t l n))
    (two_weaker Differ _ (λ a b h. cousins t a b h) (level t n) (level_apart t l n))

-- ---- levels 0 to d

abbrev pub IsGrownTo : Subject → ℕ → List Rig → Type 0
IsGrownTo t d plan = (n : ℕ) × (n ≤ d) × IsGrown t n plan

pub levels_grown : (t : Subject) → IsLawful t → (d : ℕ) → AllByRecursion (IsGrownTo t d) (levels t d)
unfolding levels_to
levels_grown t l zero = all_weaker (IsGrown t 0) (IsGrownTo t 0) (λ plan g. (0, omega arith, g)) (level t 0) (level_grown t l 0)
levels_grown t l (suc d) =
    all_append (IsGrownTo t (suc d)) (levels t d) (level t (suc d))
    (all_weaker (IsGrownTo t d) (IsGrownTo t (suc d)) (λ plan g. (g.0, (let le : g.0 ≤ d = g.1 in omega (arith, le)), g.2)) (levels t d) (levels_grown t l d))
    (all_weaker (IsGrown t (suc d)) (IsGrownTo t (suc d)) (λ plan g. (suc d, omega arith, g)) (level t (suc d)) (level_grown t l (suc d)))

zero_below : (n : ℕ) → n ≤ 0 → n ≡ 0
zero_below n h = omega (arith, h)

pub level_in_levels : (t : Subject) (d n : ℕ) (plan : List Rig) → n ≤ d → Contains (level t n) plan → Contains (levels t d) plan
unfolding levels_to
level_in_levels t zero n plan h c = subst (λ k. Contains (level t k) plan) (zero_below n h) c
level_in_levels t (suc d) n plan h c = elim (cases_lt n (suc d)) [
  | inl less ↦ Contains-append_left (levels t d) (level t (suc d)) plan (level_in_levels t d n plan (omega (arith, less)) c)
  | inr more ↦ Contains-append_right (levels t d) (level t (suc d)) plan (subst (λ k. Contains (level t k) plan) (let same : n ≡ suc d = omega (arith, h, more) in same) c)
]

longer : (a b : List Rig) (m n d : ℕ) → length a ≡ m → length b ≡ n → m ≤ d → d < n → Differ a b
longer a b m n d e f h k same = let l : length a ≡ length b = ap (λ (x : List Rig). length x) same in omega (arith, e, f, h, k, l)

pub levels_apart : (t : Subject) → IsLawful t → (d : ℕ) → EachTwo Differ (levels t d)
unfolding levels_to
levels_apart t l zero = level_apart t l 0
levels_apart t l (suc d) =
    two_append Differ (levels t d) (level t (suc d)) (levels_apart t l d) (level_apart t l (suc d))
    (all_weaker (IsGrownTo t d) _
    (λ a g. all_weaker (IsGrown t (suc d)) (Differ a) (λ b h. longer a b g.0 (suc d) d g.2.count h.count g.1 (omega arith)) (level t (suc d)) (level_grown t l (suc d))) (levels t d) (levels_grown t l d))

abbrev pub RunApart : Subject → List Rig → List Rig → Type 0
RunApart t a b = run_of_plan t a ≡ run_of_plan t b → ⊥

pub levels_run_apart : (t : Subject) → IsLawful t → (d : ℕ) → EachTwo (RunApart t) (levels t d)
levels_run_apart t l d =
    two_weaker (λ a b. IsGrownTo t d a × IsGrownTo t d b × Differ a b) (RunApart t)
    (λ a b h e. h.2 (sym h.0.2.runs ∙ ap (faults []) e ∙ h.1.2.runs)) (levels t d) (two_with (IsGrownTo t d) Differ (levels t d) (levels_grown t l d) (levels_apart t l d))
