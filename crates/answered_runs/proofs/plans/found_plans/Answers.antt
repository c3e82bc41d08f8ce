use Rattle.std.proofs.Common.{◌≡◌, ◌∙◌, ℕ, List, ap, map, subst, sym}
use Rattle.std.specs.List.{AllByRecursion}
use Rattle.std.proofs.lemmas.Result.{IfOk-weaker}
use Rattle.action_eval.specs.declared.rig.Kind.{Kind}
use Rattle.action_eval.specs.declared.rig.Rig.{Rig}
use Rattle.action_eval.specs.RiggedScenario.{CanBeRigged, HasLawfulText}
use Rattle.answer_text.specs.Runs.{told_in}
use Rattle.grown_plans.specs.GrownPlans.{kinds_at, rigs_of, tried_over}
use Rattle.grown_plans.proofs.ListedKinds.{listed_can}
use Rattle.grown_runs.specs.known.ToldPart.{part_known}
use Rattle.answered_runs.specs.Answered.{Answered, kinds_over, runs_in}
use Rattle.answered_runs.proofs.KnownLists.{known_list}
use Rattle.answered_runs.proofs.Runs.{agree}
use Rattle.answered_runs.proofs.Within.{part_can}
use Rattle.answered_runs.proofs.plans.found_plans.Goals as goal

pub returns-clause-list : goal.returns-clause-list
returns-clause-list c =
    let a : Answered = c.args.runs.now in
    let d = c.args.depth in
    let found = c.known_plans.ensures in
    let same : kinds_at c.with-kinds.result ≡ kinds_over a.points a.listed =
    ap kinds_at (c.with-kinds.ensures ∙ ap (λ (names : List (List ℕ)). tried_over names (map (λ kinds. kinds.items) c.listed.result.now)) c.points.ensures.names ∙ ap (tried_over a.points) c.listed.ensures.kinds) in
    let texts : (point : ℕ) → AllByRecursion HasLawfulText (kinds_over a.points a.listed point) = λ point. (listed_can a.points a.listed c.listed.ensures.lawful point).texts in
    let can = part_can a.points (told_in a.book) (kinds_over a.points a.listed) texts d c.requires in
    let plans = IfOk-weaker c.known_plans.result _ _ (λ known e. e ∙ ap (λ (kinds : ℕ → List Kind). part_known kinds (runs_in a) d) same) found.grown in
    known_list a d c.known_plans.result plans
    (IfOk-weaker c.known_plans.result _ _ (λ known of t is agrees. of t is.lawful (is.kinds ∙ sym same) (agree t a.points a.listed (told_in a.book) d is c.requires agrees)) found.known) found.short
    (IfOk-weaker c.known_plans.result _ _ (λ known e. subst (λ (ps : List (List Rig)). AllByRecursion (λ plan. CanBeRigged (rigs_of plan)) ps) (sym e) can) plans)
