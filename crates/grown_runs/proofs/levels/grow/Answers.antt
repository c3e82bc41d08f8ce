use Rattle.std.proofs.Common.{rules, ◌≡◌, ◌+◌, ◌-◌, ◌++◌, ℕ, List, map, length, ap, ◌∙◌, subst, arith}
use Rattle.std.proofs.lemmas.List.{length-append}
use Rattle.action_eval.specs.declared.rig.Rig.{Rig}
use Rattle.grown_plans.specs.GrownPlans.{Subject, grown, level, levels, onward}
use Rattle.grown_plans.specs.Kept.{plan_of}
use Rattle.grown_plans.specs.Promises.{IsLawful}
use Rattle.grown_plans.specs.Lists.{AreLevels}
use Rattle.grown_runs.specs.Grown.{subject_in}
use Rattle.grown_runs.specs.declared.input.Purpose.TheVariants.{Report}
use Rattle.grown_runs.specs.declared.input.Place.TheVariants.{Onward}
use Rattle.grown_runs.specs.inside.Growths.{AreTold, IsGrowth}
use Rattle.grown_runs.proofs.Begun.{begun_most, whole_are}
use Rattle.grown_runs.proofs.LevelRuns.{reached_by, told_more}
use Rattle.grown_runs.proofs.levels.grow.Goals as goal

pub returns-in_err-levels-clause-many : goal.returns-in_err-levels-clause-many
returns-in_err-levels-clause-many g c = λ is.
    let on = c.args.on.now in
    let many = c.in_err-levels.ensures.many (search (is, rules)) in
    let most = begun_most (subject_in g.T.Target on) on.limits.depth 18446744073709551615 in
    omega (arith, many, most)

pub returns-clause-grown : goal.returns-clause-grown
returns-clause-grown g c =
    let on = c.args.on.now in
    let t : Subject = subject_in g.T.Target on in
    let lawful : IsLawful t = c.each_target_is_a_lawful_subject.ensures on.target.now on.workload.now on.limits.max_hits in
    let d = on.limits.depth in
    let seed = on.limits.seed in
    let l = c.in_ok-levels.levels in
    let plans : List (List Rig) = l.plans in
    let few = c.in_ok-levels.ensures.few in
    let high = on.limits.plans_high in
    let are : AreLevels (level t) d l = whole_are t seed Report d 18446744073709551615 l c.in_ok-levels.outcomes c.in_ok-levels.ensures.levels (omega (arith, few, high)) in
    let list = c.in_ok-list.list in
    let is = c.in_ok-list.ensures.list (level t) d are in
    let behind : map (plan_of plans) c.as_slice-onward.result.now ≡ onward t d = ap (map (plan_of plans)) c.as_slice-onward.ensures.value ∙ c.in_ok-growth.ensures.behind in
    let whole : list.plans ≡ grown t d = is.plans ∙ ap (λ (ps : List (List Rig)). levels t d ++ ps) behind in
    let begins = are.begins in
    let added = c.in_ok-list.ensures.plans in
    let long = ap length added ∙ length-append plans (map (plan_of plans) c.as_slice-onward.result.now) in
    let end = c.len-end.ensures in
    let first : AreTold t seed Report plans 0 (length plans) c.absorb.new.self =
    subst (λ (n : ℕ). AreTold t seed Report plans 0 n c.absorb.new.self) (let e : l.last + (length plans - l.last) ≡ length plans = omega (arith, begins) in e)
    (c.in_ok-absorb.ensures.told t seed Report plans 0 l.last l.last (length plans - l.last) (omega arith) c.in_ok-levels.ensures.levels.told c.in_ok-growth.ensures.ran.told) in
    let both : AreTold t seed Report list.plans 0 (length list.plans) c.absorb-2.new.self =
    subst (λ (n : ℕ). AreTold t seed Report list.plans 0 n c.absorb-2.new.self) (let e : length plans + (length list.plans - length plans) ≡ length list.plans = omega (arith, long) in e)
    (c.in_ok-absorb-2.ensures.told t seed Report list.plans 0 (length plans) (length plans) (length list.plans - length plans) (omega arith)
    (told_more t seed Report (length plans) plans _ list.plans c.absorb.new.self (omega arith) added first)
    (subst (λ (n : ℕ). IsGrowth t seed (record { place = Onward; purpose = Report }) list.plans n (length list.plans - n) c.in_ok-growth-2.growth) end c.in_ok-growth-2.ensures).told) in
    let told : AreTold t seed Report (grown t d) 0 (length (grown t d)) c.absorb-2.new.self = subst (λ (ps : List (List Rig)). AreTold t seed Report ps 0 (length ps) c.absorb-2.new.self) whole both in
    record {
      plans = whole;
      levels = is.levels;
      onward = is.onward ∙ ap length behind;
      beyond = is.beyond_is ∙ c.in_ok-growth.ensures.next;
      verdicts = told.verdicts;
      causes = told.causes;
      reached = reached_by t seed d c.absorb-2.new.self.hits.items lawful told.hits told.most;
    }
