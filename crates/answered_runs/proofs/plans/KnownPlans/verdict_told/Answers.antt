use Rattle.std.proofs.Common.{◌≡◌, Option, Some, None, get_or, [], length, ◌<◌, subst, sym}
use Rattle.target_trait.specs.declared.judgement.Verdict.{Verdict}
use Rattle.answered_runs.specs.Answered.{runs_in}
use Rattle.answered_runs.specs.KnownLists.{KnownList, verdict_told}
use Rattle.answered_runs.proofs.WholeLists.{verdict_here}
use Rattle.answered_runs.proofs.plans.KnownPlans.verdict_told.Goals as goal

pub returns-in-Some : goal.returns-in-Some
returns-in-Some c =
    let inside = c.self.inside in
    let plans = inside.told.list.plans in
    let n = c.args.number in
    let less : n < length plans = subst (λ (k : KnownList). n < length k.list.plans) (sym c.self.view_is) c.requires in
    let verdict : Option Verdict = Some c.in-Some.run'.now.verdict in
    subst (λ (k : KnownList). verdict ≡ verdict_told (runs_in k.answered) (get_or k.list.plans n [])) c.self.view_is
    (verdict_here _ (runs_in inside.runs.now) inside.told.runs.items plans n c.index.result.now c.self.invariant.3 less c.index.ensures (Some c.in-Some.run') c.in-Some.is)

pub returns-in-None : goal.returns-in-None
returns-in-None c =
    let inside = c.self.inside in
    let plans = inside.told.list.plans in
    let n = c.args.number in
    let less : n < length plans = subst (λ (k : KnownList). n < length k.list.plans) (sym c.self.view_is) c.requires in
    let verdict : Option Verdict = None in
    subst (λ (k : KnownList). verdict ≡ verdict_told (runs_in k.answered) (get_or k.list.plans n [])) c.self.view_is
    (verdict_here _ (runs_in inside.runs.now) inside.told.runs.items plans n c.index.result.now c.self.invariant.3 less c.index.ensures None c.in-None.is)
