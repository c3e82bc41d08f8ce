use Rattle.std.proofs.Common.{◌≡◌, ◌++◌, ◌∷◌, ◌+◌, ◌<◌, ◌&&◌, Bool, ℕ, List, [], length, map, max, get_or, sym, ◌∙◌, ap, subst, arith, refl}
use Rattle.std.proofs.lemmas.List.{length-append}
use Rattle.std.proofs.lemmas.List.Elements.{recursion_from_All}
use Rattle.action_eval.specs.declared.rig.Rig.{Rig}
use Rattle.action_eval.specs.RiggedScenario.{CanBeRigged, HasLawfulText}
use Rattle.plan_gen.specs.LoopRuns.{times}
use Rattle.grown_plans.specs.GrownPlans.{Subject, Tried, kinds_at, rigs_of}
use Rattle.grown_plans.specs.Kept.{kept_children, plan_of}
use Rattle.grown_plans.specs.AskedPoints.{is_last_return, is_asked_again, onward_if}
use Rattle.grown_runs.specs.GrownRuns.{told, told_of_rigs, children_at, cause_by}
use Rattle.grown_runs.specs.inside.Growths.{subject_on, if_inner, if_last, if_report}
use Rattle.grown_plans.specs.Begun.{AreOrdinals, Serves}
use Rattle.grown_runs.specs.inside.Beginnings.{MovesOn}
use Rattle.grown_runs.proofs.Begins.{ordinals, serves_next, tells_next}
use Rattle.grown_runs.proofs.Numbers.{asked_few}
use Rattle.grown_runs.proofs.Growing.{growth_next, children_few}
use Rattle.grown_runs.proofs.growth.run_one.Goals as goal

pub run_rigs-requires : goal.run_rigs-requires
run_rigs-requires g c =
    let input = c.args.input.now in
    subst CanBeRigged (sym (c.as_slice-rigs.ensures.value ∙ c.in_ok-put.ensures.rigs))
    (input.few_rigs c.args.number c.requires.within, recursion_from_All (λ (r : Rig). r.site.hit < 4294967296) _ (input.small_rigs c.args.number c.requires.within), recursion_from_All (λ (r : Rig). HasLawfulText r.kind) _ (input.lawful_texts c.args.number c.requires.within))

pub grow_one-requires-clause-number : goal.grow_one-requires-clause-number
grow_one-requires-clause-number g c =
    let few = c.args.input.now.few in
    omega (arith, few, c.requires.within)

pub grow_one-requires-clause-ordinals : goal.grow_one-requires-clause-ordinals
grow_one-requires-clause-ordinals g c =
    let input = c.args.input.now in
    let t : Subject = subject_on g.T.Target c.args.target.now input in
    subst AreOrdinals (sym (c.as_slice-faults.ensures.value ∙ c.in_ok-put.ensures.faults)) (ordinals t (get_or input.plans.now c.args.number []) (c.requires.alike c.args.number c.requires.within))

pub grow_one-requires-clause-serves : goal.grow_one-requires-clause-serves
grow_one-requires-clause-serves g c =
    let input = c.args.input.now in
    let t : Subject = subject_on g.T.Target c.args.target.now input in
    let seed = input.limits.seed in
    let n = c.args.number in
    let plan : List Rig = get_or input.plans.now n [] in
    let faults_too : c.as_slice-faults.result.now ≡ plan = c.as_slice-faults.ensures.value ∙ c.in_ok-put.ensures.faults in
    let rigs_is : c.as_slice-rigs.result.now ≡ rigs_of plan = c.as_slice-rigs.ensures.value ∙ c.in_ok-put.ensures.rigs in
    let asked_is : c.trace-asked.result.now ≡ (told t seed n plan).asked =
    c.trace-asked.ensures ∙ c.in_ok-verdict.ensures.asked ∙ ap (λ (rs : List Rig). (told_of_rigs t seed n rs).asked) rigs_is in
    let law = g.met.T.Target in
    let parent = c.parent_of-parent.result in
    let parents : List ℕ = (told t seed parent (get_or input.plans.now parent [])).asked in
    subst (λ (p : List Rig). Serves c.args.workspace.now.begun parent p c.trace-asked.result.now) (sym faults_too)
    (serves_next t seed n parent input.plans.now c.args.workspace.now.begun plan c.trace-asked.result.now
    (asked_few _ g.T.Target.names 0 law.lawful (law.within c.args.target.now input.workload.now) _ parents refl)
    (c.requires.alike n c.requires.within) c.parent_of-parent.ensures.grew asked_is c.requires.begun)

pub grow_one-requires-clause-points : goal.grow_one-requires-clause-points
grow_one-requires-clause-points g c =
    let law = g.met.T.Target in
    asked_few _ g.T.Target.names 0 law.lawful (law.within c.args.target.now c.args.input.now.workload.now) _ c.trace-asked.result.now
    (c.trace-asked.ensures ∙ c.in_ok-verdict.ensures.asked)

pub grow_one-requires-clause-few : goal.grow_one-requires-clause-few
grow_one-requires-clause-few g c =
    let few = c.in_ok-verdict.ensures.few in
    let same = ap length c.trace-asked.ensures in
    omega (arith, few, same)

pub overflow_add-growth : goal.overflow_add-growth
overflow_add-growth g c =
    let few = children_few c.args.input.now.kinds g.T.Target.names c.args.input.now.of_target c.args.number c.as_slice-faults.result.now c.trace-asked.result.now in
    let asked = c.in_ok-verdict.ensures.few in
    let same = ap length c.trace-asked.ensures in
    let before = c.args.growth.now.bounded in
    omega (arith, few, asked, same, before, c.requires.room, c.in_ok-growing.ensures.many)

pub cause_of-requires : goal.cause_of-requires
cause_of-requires g c =
    let input = c.args.input.now in
    subst CanBeRigged (sym (c.as_slice-rigs.ensures.value ∙ c.in_ok-put.ensures.rigs))
    (input.few_rigs c.args.number c.requires.within, recursion_from_All (λ (r : Rig). r.site.hit < 4294967296) _ (input.small_rigs c.args.number c.requires.within), recursion_from_All (λ (r : Rig). HasLawfulText r.kind) _ (input.lawful_texts c.args.number c.requires.within))

pub returns-clause-begun : goal.returns-clause-begun
returns-clause-begun g c =
    let input = c.args.input.now in
    let t : Subject = subject_on g.T.Target c.args.target.now input in
    let seed = input.limits.seed in
    let n = c.args.number in
    let plan : List Rig = get_or input.plans.now n [] in
    let faults_too : c.as_slice-faults.result.now ≡ plan = c.as_slice-faults.ensures.value ∙ c.in_ok-put.ensures.faults in
    let rigs_is : c.as_slice-rigs.result.now ≡ rigs_of plan = c.as_slice-rigs.ensures.value ∙ c.in_ok-put.ensures.rigs in
    let asked_is : c.trace-asked.result.now ≡ (told t seed n plan).asked =
    c.trace-asked.ensures ∙ c.in_ok-verdict.ensures.asked ∙ ap (λ (rs : List Rig). (told_of_rigs t seed n rs).asked) rigs_is in
    let parent = c.parent_of-parent.result in
    tells_next t seed n parent input.plans.now c.args.workspace.now.begun c.grow_one.new.begun plan c.trace-asked.result.now (c.requires.alike n c.requires.within)
    c.parent_of-parent.ensures.grew asked_is c.requires.begun
    (subst (λ (p : List Rig). MovesOn c.args.workspace.now.begun c.grow_one.new.begun parent p c.trace-asked.result.now) faults_too c.in_ok-growing.ensures.begun)

pub returns-clause-grown : goal.returns-clause-grown
returns-clause-grown g c = λ first count at was.
    let input = c.args.input.now in
    let t : Subject = subject_on g.T.Target c.args.target.now input in
    let seed = input.limits.seed in
    let n = c.args.number in
    let plan : List Rig = get_or input.plans.now n [] in
    let faults_too : c.as_slice-faults.result.now ≡ plan = c.as_slice-faults.ensures.value ∙ c.in_ok-put.ensures.faults in
    let rigs_is : c.as_slice-rigs.result.now ≡ rigs_of plan = c.as_slice-rigs.ensures.value ∙ c.in_ok-put.ensures.rigs in
    let asked_is : c.trace-asked.result.now ≡ (told t seed n plan).asked =
    c.trace-asked.ensures ∙ c.in_ok-verdict.ensures.asked ∙ ap (λ (rs : List Rig). (told_of_rigs t seed n rs).asked) rigs_is in
    let verdict_is : c.in_ok-verdict.verdict ≡ (told t seed n plan).verdict = c.in_ok-verdict.ensures.verdict ∙ ap (λ (rs : List Rig). (told_of_rigs t seed n rs).verdict) rigs_is in
    let children_is : kept_children (kinds_at input.kinds) n c.as_slice-faults.result.now c.trace-asked.result.now ≡ children_at t seed n plan =
    ap (λ (p : List Rig). kept_children (kinds_at input.kinds) n p c.trace-asked.result.now) faults_too
    ∙ ap (kept_children (kinds_at input.kinds) n plan) asked_is
    ∙ ap (λ (kinds : Tried). kept_children (kinds_at kinds) n plan (told t seed n plan).asked) input.of_target in
    growth_next t seed input.part input.plans.now first count n _ _ at was
    (c.in_ok-push.ensures.items ∙ ap (λ v. c.args.growth.now.outcomes.verdicts.items ++ v ∷ []) verdict_is)
    (c.in_ok-growing.ensures.kept ∙ ap (λ l. c.args.growth.now.children.items ++ if_inner input.part.place l) children_is)
    (ap (λ k. c.args.growth.now.child_count + k) (c.in_ok-growing.ensures.many ∙ ap length children_is))
    (c.in_ok-keep_onward.ensures.ok
    ∙ ap (λ (b : Bool). map (plan_of input.plans.now) c.args.growth.now.onward.items ++ if_last input.part.place (onward_if (is_last_return plan && b) plan))
    (c.in_ok-growing.ensures.again ∙ ap (λ (p : List Rig). is_asked_again p c.trace-asked.result.now) faults_too ∙ ap (is_asked_again plan) asked_is))
    (c.keep_onward.ensures.from was.from)
    (c.in_ok-keep_cause.ensures
    ∙ ap (λ l. c.args.growth.now.outcomes.causes.items ++ l)
    (c.in_ok-cause.ensures.cause
    ∙ ap (if_report input.part.purpose)
    (ap (λ s. cause_by (subject_on g.T.Target s input) seed n c.as_slice-rigs.result.now c.in_ok-verdict.verdict) c.run_rigs.ensures.setup
    ∙ ap (λ (rs : List Rig). cause_by t seed n rs c.in_ok-verdict.verdict) rigs_is ∙ ap (cause_by t seed n (rigs_of plan)) verdict_is)))
    c.raise.ensures.many
    (λ p lt.
    let few = g.met.T.Target.lawful.few in
    let many = was.told.hits in
    c.raise.ensures.most p lt
    ∙ ap (λ k. max (get_or c.args.growth.now.outcomes.hits.items p 0) k)
    (ap (λ cs. get_or cs p 0) c.as_slice.ensures.value ∙ c.in_ok-growing.ensures.counts.1 p (omega (arith, lt, few, many)) ∙ ap (times p) asked_is))

pub invariant_of-growth-in-Break-branch-5 : goal.invariant_of-growth-in-Break-branch-5
invariant_of-growth-in-Break-branch-5 g c =
    let few = children_few c.args.input.now.kinds g.T.Target.names c.args.input.now.of_target c.args.number c.as_slice-faults.result.now c.trace-asked.result.now in
    let asked = c.in_ok-verdict.ensures.few in
    let same = ap length c.trace-asked.ensures in
    let before = c.args.growth.now.bounded in
    let pushed = ap length c.in_ok-push.ensures.items in
    let joined = length-append c.args.growth.now.outcomes.verdicts.items (c.in_ok-verdict.verdict ∷ []) in
    record { bounded = omega (arith, few, asked, same, before, pushed, joined, c.in_ok-growing.ensures.many) }

pub invariant_of-growth-in-Break-branch-6 : goal.invariant_of-growth-in-Break-branch-6
invariant_of-growth-in-Break-branch-6 g c =
    let few = children_few c.args.input.now.kinds g.T.Target.names c.args.input.now.of_target c.args.number c.as_slice-faults.result.now c.trace-asked.result.now in
    let asked = c.in_ok-verdict.ensures.few in
    let same = ap length c.trace-asked.ensures in
    let before = c.args.growth.now.bounded in
    let pushed = ap length c.in_ok-push.ensures.items in
    let joined = length-append c.args.growth.now.outcomes.verdicts.items (c.in_ok-verdict.verdict ∷ []) in
    record { bounded = omega (arith, few, asked, same, before, pushed, joined, c.in_ok-growing.ensures.many) }

pub invariant_of-growth-2 : goal.invariant_of-growth-2
invariant_of-growth-2 g c =
    let few = children_few c.args.input.now.kinds g.T.Target.names c.args.input.now.of_target c.args.number c.as_slice-faults.result.now c.trace-asked.result.now in
    let asked = c.in_ok-verdict.ensures.few in
    let same = ap length c.trace-asked.ensures in
    let before = c.args.growth.now.bounded in
    let pushed = ap length c.in_ok-push.ensures.items in
    let joined = length-append c.args.growth.now.outcomes.verdicts.items (c.in_ok-verdict.verdict ∷ []) in
    record { bounded = omega (arith, few, asked, same, before, pushed, joined, c.in_ok-growing.ensures.many) }
