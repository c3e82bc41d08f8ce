-- In the run of each plan that grew, each fault that acts is of a kind that is tried at its point.
use Rattle.std.proofs.Common.{◌≡◌, ℕ, ◌+◌, ◌==◌, ◌&&◌, Bool, true, false, cond, List, [], ◌∷◌, ◌⊎◌, inl, inr, refl, sym, ◌∙◌, subst, arith}
use Rattle.std.specs.Prelude.{Contains, nat_le, if◌then◌else◌}
use Rattle.std.specs.List.{AllByRecursion}
use Rattle.std.proofs.lemmas.Bool.Decides.{nat_tests}
use Rattle.action_eval.specs.Answers.{Go}
use Rattle.action_eval.specs.RiggedScenario.{is_same_text, rig, text_of}
use Rattle.action_eval.specs.declared.rig.Kind.{Kind}
use Rattle.action_eval.specs.declared.rig.Kind.TheVariants.{OnceReturn, OnwardReturn, OncePanic}
use Rattle.action_eval.specs.declared.rig.Rig.{Rig}
use Rattle.plan_gen.specs.RiggedAnswers.{acts_at, is_onward, reply_by, rigged_reply}
use Rattle.grown_plans.specs.GrownPlans.{Subject, grown, in_order, is_hit_again, is_once_return, is_part, level, levels, merged, merged_onto, onward, onward_of, rigs_of, run_of_plan}
use Rattle.grown_plans.specs.Promises.{IsLawful, IsOfKinds}
use Rattle.grown_plans.specs.Runs.{Met}
use Rattle.grown_plans.proofs.Apart.{IsGrownTo, levels_grown}
use Rattle.grown_plans.proofs.Levels.{IsGrown, level_grown}
use Rattle.grown_plans.proofs.Members.{all_append, all_flat, all_weaker}
use Rattle.grown_plans.proofs.Onward.{grown_can}
use Rattle.grown_plans.proofs.Paths.{AnsweredBy}
use Rattle.grown_plans.proofs.PlanRuns.{rigs_answered}
use Rattle.grown_plans.proofs.RiggedScenarios.{CanAct, all_in_order, reply_here, reply_there, rigs_order}

-- The kind that is tried where a plan has this one: a sticky return grows from a return.
abbrev as_once : Kind → Kind
as_once (OnceReturn text) = OnceReturn text
as_once (OnwardReturn text) = OnceReturn text
as_once OncePanic = OncePanic

abbrev IsTriedAt : (ℕ → List Kind) → Rig → Type 0
IsTriedAt kinds r = Contains (kinds r.site.point) (as_once r.kind)

reply_once : (k : Kind) → reply_by k ≡ reply_by (as_once k)
reply_once (OnceReturn text) = refl
reply_once (OnwardReturn text) = refl
reply_once OncePanic = refl

left : (a b : Bool) → (a && b) ≡ true → a ≡ true
left true b e = refl
left false b e = absurd cc

right : (a b : Bool) → (a && b) ≡ true → b ≡ true
right true b e = e
right false b e = absurd cc

same_number : (a b : ℕ) → (a == b) ≡ true → a ≡ b
same_number a b e = grind (arith, nat_tests, e)

-- ---- the answers that rigged hits give

abbrev IsAnswered : (ℕ → List Kind) → List Rig → ℕ → ℕ → Type 0
IsAnswered kinds rigs p k = (rigged_reply rigs p k ≡ Go) ⊎ ((kind : Kind) × Contains (kinds p) kind × (rigged_reply rigs p k ≡ reply_by kind))

answer_with : (kinds : ℕ → List Kind) (r : Rig) (rs : List Rig) (p k : ℕ) → IsTriedAt kinds r → IsAnswered kinds rs p k → (b : Bool) → acts_at p k r ≡ b → IsAnswered kinds (r ∷ rs) p k
answer_with kinds r rs p k tried later true e =
    let point = same_number r.site.point p (left (r.site.point == p) (if is_onward r.kind then nat_le r.site.hit k else r.site.hit == k) e) in
    inr (as_once r.kind, subst (λ q. Contains (kinds q) (as_once r.kind)) point tried, reply_here p k r rs e ∙ reply_once r.kind)
answer_with kinds r rs p k tried (inl go) false e = inl (reply_there p k r rs e ∙ go)
answer_with kinds r rs p k tried (inr f) false e = inr (f.0, f.1, reply_there p k r rs e ∙ f.2)

answer_of : (kinds : ℕ → List Kind) (rigs : List Rig) → AllByRecursion (IsTriedAt kinds) rigs → (p k : ℕ) → IsAnswered kinds rigs p k
answer_of kinds [] a p k = inl refl
answer_of kinds (r ∷ rs) a p k = answer_with kinds r rs p k a.0 (answer_of kinds rs a.1 p k) (acts_at p k r) refl

answered_of : (kinds : ℕ → List Kind) (rigs : List Rig) → AllByRecursion (IsTriedAt kinds) rigs
    → (ms : List Met) → AnsweredBy (λ s. rigged_reply rigs s.point s.hit) ms → IsOfKinds kinds ms
answered_of kinds rigs a ms answered =
    all_weaker (λ (m : Met). m.reply ≡ rigged_reply rigs m.site.point m.site.hit) _
    (λ m e. elim (answer_of kinds rigs a m.site.point m.site.hit) [
      | inl go ↦ inl (e ∙ go)
      | inr f ↦ inr (f.0, f.1, e ∙ f.2)
    ]) ms answered

-- ---- the rigged hits of a plan

part_point : (r t : Rig) → is_part r t ≡ true → r.site.point ≡ t.site.point
part_point r t e =
    same_number r.site.point t.site.point
    (right (is_once_return r.kind && is_onward t.kind && is_same_text (text_of r.kind) (text_of t.kind)) (r.site.point == t.site.point)
    (left (is_once_return r.kind && is_onward t.kind && is_same_text (text_of r.kind) (text_of t.kind) && (r.site.point == t.site.point)) (r.site.hit + 1 == t.site.hit) e))

tried_onto : (kinds : ℕ → List Kind) (r : Rig) (ts : List Rig) → IsTriedAt kinds r → AllByRecursion (IsTriedAt kinds) ts → AllByRecursion (IsTriedAt kinds) (merged_onto r ts)
tried_onto kinds r [] h a = (h, tt)
tried_onto kinds r (t ∷ ts) h a = by_test (is_part r t) refl
  where
    by_test : (b : Bool) → is_part r t ≡ b → AllByRecursion (IsTriedAt kinds) (cond b (rig r.site t.kind ∷ ts) (r ∷ t ∷ ts))
    by_test true e = (subst (λ p. Contains (kinds p) (as_once t.kind)) (sym (part_point r t e)) a.0, a.1)
    by_test false e = (h, a)

tried_merged : (kinds : ℕ → List Kind) (rs : List Rig) → AllByRecursion (IsTriedAt kinds) rs → AllByRecursion (IsTriedAt kinds) (merged rs)
tried_merged kinds [] a = tt
tried_merged kinds (r ∷ rs) a = tried_onto kinds r (merged rs) a.0 (tried_merged kinds rs a.1)

plan_of_kinds : (t : Subject) → IsLawful t → (plan : List Rig) → CanAct plan → AllByRecursion (IsTriedAt t.kinds) plan → IsOfKinds t.kinds (run_of_plan t plan)
unfolding run_of_plan
plan_of_kinds t l plan can tried =
    answered_of t.kinds (rigs_of plan) (tried_merged t.kinds (in_order plan) (all_in_order (IsTriedAt t.kinds) plan tried)) (run_of_plan t plan)
    (rigs_answered t l (rigs_of plan) (rigs_order plan can) 0 0)

-- ---- plans that grew

abbrev IsTried : Subject → List Rig → Type 0
IsTried t plan = AllByRecursion (IsTriedAt t.kinds) plan

once_is : (k : Kind) → is_onward k ≡ false → k ≡ as_once k
once_is (OnceReturn text) e = refl
once_is (OnwardReturn text) e = absurd cc
once_is OncePanic e = refl

tried_once : (t : Subject) (plan : List Rig) → AllByRecursion (λ r. is_onward r.kind ≡ false) plan → AllByRecursion (λ r. Contains (t.kinds r.site.point) r.kind) plan → IsTried t plan
tried_once t [] o k = tt
tried_once t (r ∷ rs) o k = (subst (Contains (t.kinds r.site.point)) (once_is r.kind o.0) k.0, tried_once t rs o.1 k.1)

return_is : (k : Kind) → is_once_return k ≡ true → as_once k ≡ OnceReturn (text_of k)
return_is (OnceReturn text) e = refl
return_is (OnwardReturn text) e = absurd cc
return_is OncePanic e = absurd cc

tried_onward : (t : Subject) (leaf : List Rig) → IsTried t leaf → AllByRecursion (IsTried t) (onward_of t leaf)
tried_onward t [] a = tt
tried_onward t (r ∷ rs) a = by_test (is_once_return r.kind && is_hit_again r.site (run_of_plan t (r ∷ rs))) refl
  where
    by_test : (b : Bool) → (is_once_return r.kind && is_hit_again r.site (run_of_plan t (r ∷ rs))) ≡ b
        → AllByRecursion (IsTried t) (cond b ((rig r.site (OnwardReturn (text_of r.kind)) ∷ rs) ∷ []) [])
    by_test true e =
        let once = left (is_once_return r.kind) (is_hit_again r.site (run_of_plan t (r ∷ rs))) e in
        ((subst (Contains (t.kinds r.site.point)) (return_is r.kind once) a.0, a.1), tt)
    by_test false e = tt

all_tried : (t : Subject) → IsLawful t → (d : ℕ) → AllByRecursion (IsTried t) (grown t d)
unfolding onward
all_tried t l d =
    all_append (IsTried t) (levels t d) (onward t d)
    (all_weaker (IsGrownTo t d) (IsTried t) (λ plan g. tried_once t plan g.2.once g.2.kinds) (levels t d) (levels_grown t l d))
    (all_flat (IsTried t) (onward_of t) (level t d)
    (all_weaker (IsGrown t d) _ (λ leaf g. tried_onward t leaf (tried_once t leaf g.once g.kinds)) (level t d) (level_grown t l d)))

each_plan : (t : Subject) → IsLawful t → (plans : List (List Rig)) → AllByRecursion CanAct plans → AllByRecursion (IsTried t) plans
    → AllByRecursion (λ plan. IsOfKinds t.kinds (run_of_plan t plan)) plans
each_plan t l [] can tried = tt
each_plan t l (plan ∷ plans) can tried = (plan_of_kinds t l plan can.0 tried.0, each_plan t l plans can.1 tried.1)

pub each_of_kinds : (t : Subject) → IsLawful t → (d : ℕ) → AllByRecursion (λ plan. IsOfKinds t.kinds (run_of_plan t plan)) (grown t d)
each_of_kinds t l d = each_plan t l (grown t d) (grown_can t l d) (all_tried t l d)
