-- The rigged hits of a plan that grew are of points of the catalogue, in order, and a sticky one is the last of its point.
use Rattle.std.proofs.Common.{◌≡◌, ℕ, zero, suc, ◌<◌, ◌≤◌, ◌^◌, ◌==◌, ◌&&◌, nat_le, ◌⊎◌, inl, inr, Bool, true, false, cond, List, [], ◌∷◌, ◌++◌, map, length, refl, ap, sym, ◌∙◌, subst, arith}
use Rattle.std.specs.Prelude.{Contains}
use Rattle.std.specs.List.{AllByRecursion}
use Rattle.std.proofs.lemmas.Bool.Decides.{nat_tests}
use Rattle.action_eval.specs.declared.rig.Site.{Site}
use Rattle.action_eval.specs.declared.rig.Rig.{Rig}
use Rattle.action_eval.specs.declared.rig.Kind.TheVariants.{OnwardReturn}
use Rattle.action_eval.specs.Answers.{Reply, Go, Return, Halt}
use Rattle.action_eval.specs.RiggedScenario.{rig, text_of, CanBeRigged}
use Rattle.target_trait.specs.Play.{Move, AsksWithin}
use Rattle.plan_gen.specs.RiggedAnswers.{IsBefore, AreInOrder, is_onward, acts_at}
use Rattle.grown_plans.specs.Runs.{Met}
use Rattle.grown_plans.specs.GrownPlans.{Subject, in_order, is_part, merged_onto, merged, rigs_of, run_of_plan, is_once_return, is_hit_again, level, levels, onward_of, onward, grown}
use Rattle.grown_plans.specs.Promises.{EachTwo, IsLawful}
use Rattle.grown_plans.proofs.Apart.{IsGrownTo, levels_grown}
use Rattle.grown_plans.proofs.Faults.{noted, faults}
use Rattle.grown_plans.proofs.Levels.{IsGrown, level_grown}
use Rattle.grown_plans.proofs.Members.{all_append, all_map, all_both, all_contained, all_contains, all_flat, all_weaker, contains_cases, contains_none, two_weaker}
use Rattle.grown_plans.proofs.Onward.{grown_can}
use Rattle.grown_plans.proofs.Paths.{IsPath, next_is, replies_of}
use Rattle.grown_plans.proofs.PlanRuns.{is_within, plan_path}
use Rattle.grown_plans.proofs.Rigged.{grown_can_be_rigged}
use Rattle.grown_plans.proofs.RiggedScenarios.{ActApart, CanAct, all_in_order, all_merged, in_order_order, rigs_order}
use Rattle.campaign_core.proofs.PromisesLemmas.KeptRigs.{AreInPlace, unmapped}
use Rattle.campaign_core.proofs.PromisesLemmas.LeftOut.{CanBeLeft}

-- ---- two members of a list

abbrev NeverBoth : Rig → Rig → Type 0
NeverBoth r x = (p k : ℕ) → acts_at p k r ≡ true → acts_at p k x ≡ true → ⊥

never_both : (r x : Rig) → ActApart r x → NeverBoth r x
never_both r x apart p k a b = let no : true ≡ false = sym b ∙ apart p k a in absurd cc

two_members : (rs : List Rig) (a b : Rig) → EachTwo NeverBoth rs → Contains rs a → Contains rs b → (a ≡ b) ⊎ NeverBoth a b
two_members [] a b e c d = absurd (contains_none a c)
two_members (r ∷ rs) a b e c d = by_cases (two_members rs a b e.1) (contains_cases r a rs c) (contains_cases r b rs d)
  where
    by_cases : (Contains rs a → Contains rs b → (a ≡ b) ⊎ NeverBoth a b) → (r ≡ a) ⊎ Contains rs a → (r ≡ b) ⊎ Contains rs b → (a ≡ b) ⊎ NeverBoth a b
    by_cases both (inl x) (inl y) = inl (sym x ∙ y)
    by_cases both (inl x) (inr d) = inr (subst (λ (z : Rig). NeverBoth z b) x (all_contains (NeverBoth r) rs b e.0 d))
    by_cases both (inr c) (inl y) = inr (λ p k f g. all_contains (NeverBoth r) rs a e.0 c p k (ap (acts_at p k) y ∙ g) f)
    by_cases both (inr c) (inr d) = both c d

-- ---- a sticky one is the last of its point

abbrev StickyLast : List Rig → Type 0
StickyLast [] = Unit {0}
StickyLast (r ∷ rs) = (is_onward r.kind ≡ true → AllByRecursion (λ x. r.site.point < x.site.point) rs) × StickyLast rs

acts_late : (r : Rig) (p k : ℕ) → is_onward r.kind ≡ true → r.site.point ≡ p → r.site.hit ≤ k → acts_at p k r ≡ true
acts_late r p k sticky here late =
    let point : (r.site.point == p) ≡ true = grind (arith, nat_tests, here) in
    let hit : nat_le r.site.hit k ≡ true = grind (arith, nat_tests, late) in
    ap (λ b. (r.site.point == p) && cond b (nat_le r.site.hit k) (r.site.hit == k)) sticky ∙ ap (λ b. b && nat_le r.site.hit k) point ∙ hit

acts_here : (r : Rig) → acts_at r.site.point r.site.hit r ≡ true
acts_here r = by_test (is_onward r.kind) refl
  where
    point : (r.site.point == r.site.point) ≡ true
    point = grind (arith, nat_tests)

    hit : (r.site.hit == r.site.hit) ≡ true
    hit = grind (arith, nat_tests)

    by_test : (b : Bool) → is_onward r.kind ≡ b → acts_at r.site.point r.site.hit r ≡ true
    by_test true e = acts_late r r.site.point r.site.hit e refl (omega arith)
    by_test false e = ap (λ b. (r.site.point == r.site.point) && cond b (nat_le r.site.hit r.site.hit) (r.site.hit == r.site.hit)) e ∙ ap (λ b. b && (r.site.hit == r.site.hit)) point ∙ hit

later_point : (r x : Rig) → is_onward r.kind ≡ true → IsBefore r.site x.site → (r ≡ x) ⊎ NeverBoth r x → r.site.point < x.site.point
later_point r x sticky (inl less) apart = less
later_point r x sticky (inr at) (inl same) = let hits : r.site.hit ≡ x.site.hit = ap (λ (z : Rig). z.site.hit) same in let less = at.1 in absurd (omega (arith, less, hits))
later_point r x sticky (inr at) (inr never) =
    let less = at.1 in absurd (never x.site.point x.site.hit (acts_late r x.site.point x.site.hit sticky at.0 (omega (arith, less))) (acts_here x))

sticky_last : (plan rs : List Rig) → EachTwo NeverBoth plan → AllByRecursion (Contains plan) rs → AreInOrder (map (λ (r : Rig). r.site) rs) → StickyLast rs
sticky_last plan [] e c o = tt
sticky_last plan (r ∷ rs) e c o = (
  (λ sticky.
      all_weaker (λ (x : Rig). Contains plan x × IsBefore r.site x.site) (λ x. r.site.point < x.site.point)
      (λ x h. later_point r x sticky h.1 (two_members plan r x e c.0 h.0)) rs (all_both (Contains plan) (λ x. IsBefore r.site x.site) rs c.1 (unmapped (IsBefore r.site) rs o.1))),
  sticky_last plan rs e c.1 o.2,
)

-- A property of the sites of rigged hits stays when some are merged.
each_merged : (P : Site → Type 0) (rs : List Rig) → AllByRecursion (λ r. P r.site) rs → AllByRecursion (λ r. P r.site) (merged rs)
each_merged P rs all = unmapped P (merged rs) (all_merged P rs (all_map P (λ (r : Rig). r.site) rs all))

onto_last : (r : Rig) (ts : List Rig) → (is_onward r.kind ≡ true → AllByRecursion (λ x. r.site.point < x.site.point) ts) → AllByRecursion (λ x. IsBefore r.site x.site) ts → StickyLast ts
    → StickyLast (merged_onto r ts)
onto_last r [] own before last = (own, tt)
onto_last r (t ∷ ts) own before last = by_test (is_part r t)
  where
    not_later : IsBefore r.site t.site → r.site.point ≤ t.site.point
    not_later (inl less) = omega (arith, less)
    not_later (inr at) = let same = at.0 in omega (arith, same)

    by_test : (b : Bool) → StickyLast (cond b (rig r.site t.kind ∷ ts) (r ∷ t ∷ ts))
    by_test true = (
      (λ sticky.
          let le = not_later before.0 in
          all_weaker (λ (x : Rig). t.site.point < x.site.point) (λ x. r.site.point < x.site.point) (λ x h. omega (arith, h, le)) ts (last.0 sticky)),
      last.1,
    )
    by_test false = (own, last)

merged_last : (rs : List Rig) → AreInOrder (map (λ (r : Rig). r.site) rs) → StickyLast rs → StickyLast (merged rs)
merged_last [] o last = tt
merged_last (r ∷ rs) o last =
    onto_last r (merged rs) (λ sticky. each_merged (λ s. r.site.point < s.point) rs (last.0 sticky)) (each_merged (IsBefore r.site) rs (unmapped (IsBefore r.site) rs o.1)) (merged_last rs o.2 last.1)

-- ---- points of the catalogue

module _ (asks : List Reply → Move) (points : ℕ) (within : (answers : List Reply) → AsksWithin points (asks answers)) where
  noted_within : (s : Site) (reply : Reply) (rigs : List Rig) → s.point < points → AllByRecursion (λ r. r.site.point < points) rigs → AllByRecursion (λ r. r.site.point < points) (noted s reply rigs)
  noted_within s Go rigs low all = all
  noted_within s (Return text) rigs low all = (low, all)
  noted_within s Halt rigs low all = (low, all)

  faults_within : (room : ℕ) (before : List Met) (rigs : List Rig) (ms : List Met) → IsPath asks room before ms → AllByRecursion (λ r. r.site.point < points) rigs
      → AllByRecursion (λ r. r.site.point < points) (faults rigs ms)
  faults_within room before rigs [] p all = all
  faults_within zero before rigs (m ∷ ms) p all = absurd p
  faults_within (suc room) before rigs (m ∷ ms) p all =
      let asked = (next_is asks before m.site p.0).0 in
      faults_within room (before ++ m ∷ []) (noted m.site m.reply rigs) ms p.1
      (noted_within m.site m.reply rigs (is_within points m.site.point (asks (replies_of before)) asked (within (replies_of before))) all)

-- ---- plans that grew

abbrev IsWithin : Subject → List Rig → Type 0
IsWithin t plan = AllByRecursion (λ r. r.site.point < length t.names) plan

plan_within : (t : Subject) → IsLawful t → (n : ℕ) (plan : List Rig) → IsGrown t n plan → IsWithin t plan
unfolding run_of_plan
plan_within t l n plan g =
    subst (IsWithin t) g.runs (faults_within t.asks (length t.names) l.within t.limit [] [] (run_of_plan t plan) (plan_path t plan) tt)

onward_within : (t : Subject) (plan : List Rig) → IsWithin t plan → AllByRecursion (IsWithin t) (onward_of t plan)
onward_within t [] within = tt
onward_within t (r ∷ rs) within = by_test (is_once_return r.kind && is_hit_again r.site (run_of_plan t (r ∷ rs)))
  where
    by_test : (b : Bool) → AllByRecursion (IsWithin t) (cond b ((rig r.site (OnwardReturn (text_of r.kind)) ∷ rs) ∷ []) [])
    by_test true = (within, tt)
    by_test false = tt

each_within : (t : Subject) → IsLawful t → (d : ℕ) → AllByRecursion (IsWithin t) (grown t d)
unfolding onward
each_within t l d =
    all_append (IsWithin t) (levels t d) (onward t d)
    (all_weaker (IsGrownTo t d) (IsWithin t) (λ plan g. plan_within t l g.0 plan g.2) (levels t d) (levels_grown t l d))
    (all_flat (IsWithin t) (onward_of t) (level t d)
    (all_weaker (IsGrown t d) (λ plan. AllByRecursion (IsWithin t) (onward_of t plan)) (λ plan g. onward_within t plan (plan_within t l d plan g)) (level t d) (level_grown t l d)))

all_in_place : (rs : List Rig) → AreInOrder (map (λ (r : Rig). r.site) rs) → AllByRecursion (λ r. r.site.hit < 2 ^ 32) rs → StickyLast rs → AreInPlace rs
all_in_place [] o h last = tt
all_in_place (r ∷ rs) o h last = (o.0, h.0, last.0, unmapped (IsBefore r.site) rs o.1, all_in_place rs o.2 h.1 last.1)

rigs_last : (plan : List Rig) → CanAct plan → StickyLast (rigs_of plan)
rigs_last plan can =
    let order = in_order_order plan can.some can.sites_apart in
    merged_last (in_order plan) order
    (sticky_last plan (in_order plan) (two_weaker ActApart NeverBoth never_both plan can.act_apart) (all_in_order (Contains plan) plan (all_contained plan)) order)

pub grown_can_be_left : (t : Subject) → IsLawful t → t.limit < 2 ^ 32 → (d : ℕ) → d ≤ 64 → AllByRecursion (λ plan. CanBeLeft t (rigs_of plan)) (grown t d)
grown_can_be_left t l few d low =
    all_weaker (λ plan. (CanAct plan × CanBeRigged (rigs_of plan)) × IsWithin t plan) (λ plan. CanBeLeft t (rigs_of plan))
    (λ plan h. record {
      in_place = all_in_place (rigs_of plan) (rigs_order plan h.0.0) h.0.1.1 (rigs_last plan h.0.0);
      within = each_merged (λ s. s.point < length t.names) (in_order plan) (all_in_order (λ r. r.site.point < length t.names) plan h.1);
    }) (grown t d)
    (all_both (λ plan. CanAct plan × CanBeRigged (rigs_of plan)) (IsWithin t) (grown t d)
    (all_both CanAct (λ plan. CanBeRigged (rigs_of plan)) (grown t d) (grown_can t l d) (grown_can_be_rigged t l few d low)) (each_within t l d))
