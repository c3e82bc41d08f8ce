-- A walk, step by step.
use Rattle.std.proofs.Common.{◌≡◌, ℕ, zero, suc, ◌&&◌, Bool, true, false, cond, List, [], ◌∷◌, map, Option, Some, None, refl, ap, sym, ◌∙◌, subst}
use Rattle.std.specs.Prelude.{Contains, IfSome, flat_map, find}
use Rattle.std.specs.List.{AllByRecursion}
use Rattle.action_eval.specs.declared.rig.Site.{Site}
use Rattle.action_eval.specs.declared.rig.Rig.{Rig}
use Rattle.target_trait.specs.declared.judgement.Verdict.{Verdict}
use Rattle.plan_gen.specs.RiggedAnswers.{AreInOrder, acts_at}
use Rattle.grown_plans.specs.GrownPlans.{Subject, grown, usual_at}
use Rattle.grown_plans.specs.AskedPoints.{is_last_return, onward_if, sites_from, sites_past}
use Rattle.grown_plans.specs.Kept.{Grew, kept_at, kept_children}
use Rattle.grown_plans.specs.Promises.{IsLawful, verdict_of_rigs}
use Rattle.grown_plans.proofs.Members.{all_contains}
use Rattle.grown_runs.specs.known.Known.{Agrees, KnownRuns, Told, IsTrueOf, hits_of, hits_told}
use Rattle.grown_runs.specs.known.Walks.{Unknown, Nothing, Acts, acting_by, do_alike, doing, first_acting, if_alike, is_alike, once, onward_walked, next_of, next_told, walk_on, walk_from, walk, verdict_told, verdict_at, verdict_walked}
use Rattle.grown_runs.specs.known.inside.WalkSteps.{CameTo, IsStep, grew_at}
use Rattle.grown_runs.specs.known.inside.Grown.{again_told}
use Rattle.grown_runs.specs.known.ToldPart.{onward_told}
use Rattle.grown_runs.specs.declared.known.walking.Step.{Step}
use Rattle.grown_runs.specs.declared.known.walking.Step.TheVariants as step
use Rattle.grown_runs.specs.known.Looks.{IsLook, told}
use Rattle.grown_runs.specs.declared.known.table.Look.{Look}
use Rattle.grown_runs.specs.declared.known.table.Look.TheVariants as look
use Rattle.grown_runs.proofs.KnownLemmas.Walked.{walks_right}

-- each hit at which two children grew is looked at twice
twice : (s : Site) (o later : Option Rig) → acting_by s o (acting_by s o later) ≡ acting_by s o later
twice s None later = refl
twice s (Some r) later = refl

acting_sites : (rigs : List Rig) (n : ℕ) (ss : List Site) → first_acting rigs (grew_at (flat_map (kept_at (usual_at None) n) ss)) ≡ first_acting rigs ss
acting_sites rigs n [] = refl
acting_sites rigs n (s ∷ ss) =
    twice s (find (acts_at s.point s.hit) rigs) (first_acting rigs (grew_at (flat_map (kept_at (usual_at None) n) ss))) ∙ ap (acting_by s (find (acts_at s.point s.hit) rigs)) (acting_sites rigs n ss)

-- what acts next, by the children that grew
pub acting_children : (rigs plan : List Rig) (hits : List ℕ) → next_of (first_acting rigs (grew_at (kept_children (usual_at None) 0 plan hits))) ≡ next_told rigs plan (Some hits)
acting_children rigs plan hits = ap next_of (acting_sites rigs 0 (sites_past plan (sites_from [] hits)))

-- ---- the loop

-- what is left of a walk leads to its end
abbrev pub Leads : KnownRuns → List Rig → ℕ → ℕ → List Rig → Type 0
Leads known rigs d left plan = walk_from known rigs left plan ≡ walk known rigs d

last_step : (known : KnownRuns) (rigs : List Rig) (left : ℕ) (plan : List Rig) → next_told rigs plan (hits_of known plan) ≡ Nothing → walk_from known rigs left plan ≡ Some plan
unfolding walk_from
last_step known rigs zero plan e = ap (walk_on (λ longer. onward_walked known rigs plan) plan) e
last_step known rigs (suc n) plan e = ap (walk_on (walk_from known rigs n) plan) e

no_step : (known : KnownRuns) (rigs : List Rig) (left : ℕ) (plan : List Rig) → next_told rigs plan (hits_of known plan) ≡ Unknown → walk_from known rigs left plan ≡ None
unfolding walk_from
no_step known rigs zero plan e = ap (walk_on (λ longer. onward_walked known rigs plan) plan) e
no_step known rigs (suc n) plan e = ap (walk_on (walk_from known rigs n) plan) e

one_step : (known : KnownRuns) (rigs : List Rig) (left : ℕ) (plan : List Rig) (r : Rig) → next_told rigs plan (hits_of known plan) ≡ Acts r → walk_from known rigs (suc left) plan ≡ walk_from known rigs left (r ∷ plan)
unfolding walk_from
one_step known rigs n plan r e = ap (walk_on (walk_from known rigs n) plan) e

too_far : (known : KnownRuns) (rigs plan : List Rig) (r : Rig) → next_told rigs plan (hits_of known plan) ≡ Acts r → walk_from known rigs 0 plan ≡ onward_walked known rigs plan
unfolding walk_from
too_far known rigs plan r e = ap (walk_on (λ longer. onward_walked known rigs plan) plan) e

pub ends_here : (known : KnownRuns) (rigs : List Rig) (d left : ℕ) (plan : List Rig) (v : Verdict) → Leads known rigs d left plan → (next_told rigs plan (hits_of known plan) ≡ Nothing) × (verdict_told (known plan) ≡ Some v)
    → CameTo known (walk known rigs d) plan (Some v)
ends_here known rigs d left plan v l h = (sym l ∙ last_step known rigs left plan h.0, h.1)

pub stops_here : (known : KnownRuns) (rigs : List Rig) (d left : ℕ) (plan : List Rig) → Leads known rigs d left plan → next_told rigs plan (hits_of known plan) ≡ Unknown → walk known rigs d ≡ None
stops_here known rigs d left plan l e = sym l ∙ no_step known rigs left plan e

pub goes_on : (known : KnownRuns) (rigs : List Rig) (d left less : ℕ) (plan longer : List Rig) (r : Rig) → left ≡ suc less → longer ≡ r ∷ plan → Leads known rigs d left plan → next_told rigs plan (hits_of known plan) ≡ Acts r
    → Leads known rigs d less longer
goes_on known rigs d left less plan longer r e is l h =
    ap (walk_from known rigs less) is ∙ sym (one_step known rigs less plan r h) ∙ ap (λ (n : ℕ). walk_from known rigs n plan) (sym e) ∙ l

-- The same by what a step says.
told_step : (known : KnownRuns) (rigs plan plan' : List Rig) (s x : Step) → plan' ≡ plan → s ≡ x → IsStep known rigs plan' s → IsStep known rigs plan x
told_step known rigs plan plan' s x e is h = subst (λ (p : List Rig). IsStep known rigs p x) e (subst (λ (y : Step). IsStep known rigs plan' y) is h)

pub step_ends : (known : KnownRuns) (rigs : List Rig) (d left : ℕ) (plan plan' : List Rig) (s : Step) (v : Verdict) → plan' ≡ plan → s ≡ step.Ends v → IsStep known rigs plan' s → Leads known rigs d left plan
    → CameTo known (walk known rigs d) plan (Some v)
step_ends known rigs d left plan plan' s v e is h l = ends_here known rigs d left plan v l (told_step known rigs plan plan' s (step.Ends v) e is h)

pub step_stops : (known : KnownRuns) (rigs : List Rig) (d left : ℕ) (plan plan' : List Rig) (s : Step) → plan' ≡ plan → s ≡ step.Unknown → IsStep known rigs plan' s → Leads known rigs d left plan → walk known rigs d ≡ None
step_stops known rigs d left plan plan' s e is h l = stops_here known rigs d left plan l (told_step known rigs plan plan' s step.Unknown e is h)

pub step_acts : (known : KnownRuns) (rigs : List Rig) (d left less : ℕ) (plan plan' longer : List Rig) (s : Step) (r : Rig) → plan' ≡ plan → s ≡ step.Acts r → IsStep known rigs plan' s → left ≡ suc less → longer ≡ r ∷ plan
    → Leads known rigs d left plan → Leads known rigs d less longer
step_acts known rigs d left less plan plan' longer s r e is h one more l = goes_on known rigs d left less plan longer r one more l (told_step known rigs plan plan' s (step.Acts r) e is h)

-- ---- the last step

pub end_stops : (known : KnownRuns) (rigs plan plan' : List Rig) (s : Step) → plan' ≡ plan → s ≡ step.Unknown → IsStep known rigs plan' s → walk_from known rigs 0 plan ≡ None
end_stops known rigs plan plan' s e is h = no_step known rigs 0 plan (told_step known rigs plan plan' s step.Unknown e is h)

pub end_ends : (known : KnownRuns) (rigs plan plan' : List Rig) (s : Step) (v : Verdict) → plan' ≡ plan → s ≡ step.Ends v → IsStep known rigs plan' s → CameTo known (walk_from known rigs 0 plan) plan (Some v)
end_ends known rigs plan plan' s v e is h =
    let k = told_step known rigs plan plan' s (step.Ends v) e is h in
    (last_step known rigs 0 plan k.0, k.1)

pub end_acts : (known : KnownRuns) (rigs plan plan' last : List Rig) (s : Step) (r : Rig) (o : Option Verdict) → plan' ≡ plan → s ≡ step.Acts r → IsStep known rigs plan' s → CameTo known (onward_walked known rigs plan) last o
    → CameTo known (walk_from known rigs 0 plan) last o
end_acts known rigs plan plan' last s r o e is h came =
    subst (λ (w : Option (List Rig)). CameTo known w last o) (sym (too_far known rigs plan r (told_step known rigs plan plan' s (step.Acts r) e is h))) came

pub walk_ends : (known : KnownRuns) (rigs : List Rig) (d left : ℕ) (plan last : List Rig) (o : Option Verdict) → left ≡ 0 → CameTo known (walk_from known rigs 0 plan) last o → Leads known rigs d left plan → CameTo known (walk known rigs d) last o
walk_ends known rigs d left plan last o zeroth came l =
    subst (λ (w : Option (List Rig)). CameTo known w last o) (sym (ap (λ (n : ℕ). walk_from known rigs n plan) zeroth) ∙ l) came

-- what a walk came to has the verdict of the walk
pub came_verdict : (known : KnownRuns) (rigs : List Rig) (d : ℕ) (plan : List Rig) (o : Option Verdict) → CameTo known (walk known rigs d) plan o → o ≡ verdict_walked known rigs d
came_verdict known rigs d plan None came = sym (ap (verdict_at known) came)
came_verdict known rigs d plan (Some v) came = sym (ap (verdict_at known) came.0 ∙ came.1)

-- ---- the plan with a sticky last fault

none_onward : (plan : List Rig) (b : Bool) → onward_if (b && false) plan ≡ []
none_onward plan true = refl
none_onward plan false = refl

pub told_onward : (plan : List Rig) (o : Option (List ℕ)) → onward_told plan o ≡ onward_if (is_last_return plan && again_told plan o) plan
told_onward plan None = sym (none_onward plan (is_last_return plan))
told_onward plan (Some hits) = refl

-- ---- a look

seen_hits : (known : KnownRuns) (plan : List Rig) (hits : List ℕ) (s : Look) (v : Verdict) → s ≡ look.Seen v → IsLook (known plan) hits s → known plan ≡ Some (told v (Some hits))
seen_hits known plan hits s v is h = subst (λ (x : Look). IsLook (known plan) hits x) is h

next_seen : (known : KnownRuns) (rigs plan : List Rig) (hits : List ℕ) (v : Verdict) (children : List Grew) → known plan ≡ Some (told v (Some hits)) → children ≡ kept_children (usual_at None) 0 plan hits
    → next_told rigs plan (hits_of known plan) ≡ next_of (first_acting rigs (grew_at children))
next_seen known rigs plan hits v children k kept =
    ap (λ (o : Option Told). next_told rigs plan (hits_told o)) k ∙ sym (acting_children rigs plan hits) ∙ ap (λ (gs : List Grew). next_of (first_acting rigs (grew_at gs))) (sym kept)

pub sees_acts : (known : KnownRuns) (rigs plan : List Rig) (hits : List ℕ) (s : Look) (v : Verdict) (children : List Grew) (r : Rig) → s ≡ look.Seen v → IsLook (known plan) hits s → children ≡ kept_children (usual_at None) 0 plan hits
    → Some r ≡ first_acting rigs (grew_at children) → next_told rigs plan (hits_of known plan) ≡ Acts r
sees_acts known rigs plan hits s v children r is h kept acts = next_seen known rigs plan hits v children (seen_hits known plan hits s v is h) kept ∙ ap next_of (sym acts)

pub sees_end : (known : KnownRuns) (rigs plan : List Rig) (hits : List ℕ) (s : Look) (v : Verdict) (children : List Grew) → s ≡ look.Seen v → IsLook (known plan) hits s → children ≡ kept_children (usual_at None) 0 plan hits
    → None ≡ first_acting rigs (grew_at children) → (next_told rigs plan (hits_of known plan) ≡ Nothing) × (verdict_told (known plan) ≡ Some v)
sees_end known rigs plan hits s v children is h kept none =
    let k = seen_hits known plan hits s v is h in (next_seen known rigs plan hits v children k kept ∙ ap next_of (sym none), ap verdict_told k)

-- ---- hits at which rigged ones do the same as others

once_more : (b x : Bool) → (b && (b && x)) ≡ (b && x)
once_more true x = refl
once_more false x = refl

alike_sites : (rigs others : List Rig) (n : ℕ) (ss : List Site) → do_alike rigs others (grew_at (flat_map (kept_at (usual_at None) n) ss)) ≡ do_alike rigs others ss
alike_sites rigs others n [] = refl
alike_sites rigs others n (s ∷ ss) =
    once_more (is_alike (doing rigs s) (doing others s)) (do_alike rigs others (grew_at (flat_map (kept_at (usual_at None) n) ss))) ∙ ap (λ (b : Bool). is_alike (doing rigs s) (doing others s) && b) (alike_sites rigs others n ss)

pub sees_alike : (known : KnownRuns) (rigs plan : List Rig) (hits : List ℕ) (s : Look) (v : Verdict) (children : List Grew) (b : Bool) → s ≡ look.Seen v → IsLook (known plan) hits s → children ≡ kept_children (usual_at None) 0 [] hits
    → do_alike rigs plan (grew_at children) ≡ b → CameTo known (if_alike rigs plan (hits_of known plan)) plan (cond b (Some v) None)
sees_alike known rigs plan hits s v children b is h kept alike =
    let k = seen_hits known plan hits s v is h in
    let same : do_alike rigs plan (sites_from [] hits) ≡ b = sym (alike_sites rigs plan 0 (sites_from [] hits)) ∙ ap (λ (gs : List Grew). do_alike rigs plan (grew_at gs)) (sym kept) ∙ alike in
    subst (λ (w : Option (List Rig)). CameTo known w plan (cond b (Some v) None))
    (sym (ap (λ (o : Option Told). if_alike rigs plan (hits_told o)) k ∙ ap (λ (c : Bool). cond c (Some plan) None) same)) (by_test b k)
  where
    by_test : (c : Bool) → known plan ≡ Some (told v (Some hits)) → CameTo known (cond c (Some plan) None) plan (cond c (Some v) None)
    by_test true k = (refl, ap verdict_told k)
    by_test false k = refl

-- ---- the verdict of each subject that agrees

told_verdict : (t : Subject) (plan : List Rig) (o : Option Told) (v : Verdict) → IfSome o (IsTrueOf t plan) → verdict_told o ≡ Some v → (x : Told) × (o ≡ Some x) × (x.verdict ≡ v) × IsTrueOf t plan x
told_verdict t plan None v h e = absurd cc
told_verdict t plan (Some x) v h e = (x, refl, (let same : x.verdict ≡ v = cc in same), h)

by_walk : (t : Subject) → IsLawful t → (d : ℕ) (known : KnownRuns) → Agrees t d known → (rigs : List Rig) → AreInOrder (map (λ (r : Rig). r.site) rigs) → AllByRecursion (λ r. Contains (t.kinds r.site.point) (once r.kind)) rigs
    → (o : Option (List Rig)) → walk known rigs d ≡ o → (v : Verdict) → verdict_at known o ≡ Some v → (seed stream : ℕ) → verdict_of_rigs t seed stream rigs ≡ v
by_walk t l d known a rigs order k None w v e seed stream = absurd cc
by_walk t l d known a rigs order k (Some plan) w v e seed stream =
    let came = walks_right t l d known a rigs plan order k w in
    let truth = told_verdict t plan (known plan) v (all_contains (λ p. IfSome (known p) (IsTrueOf t p)) (grown t d) plan a came.0) e in
    came.1.verdicts seed stream ∙ truth.3.verdict seed stream ∙ truth.2

pub same_verdict : (known : KnownRuns) (rigs : List Rig) (d : ℕ) (o : Option Verdict) → o ≡ verdict_walked known rigs d → (t : Subject) → IsLawful t → Agrees t d known → AreInOrder (map (λ (r : Rig). r.site) rigs)
    → AllByRecursion (λ r. Contains (t.kinds r.site.point) (once r.kind)) rigs → IfSome o (λ v. (seed stream : ℕ) → verdict_of_rigs t seed stream rigs ≡ v)
same_verdict known rigs d None e t l a order k = tt
same_verdict known rigs d (Some v) e t l a order k = λ seed stream. by_walk t l d known a rigs order k (walk known rigs d) refl v (sym e) seed stream
