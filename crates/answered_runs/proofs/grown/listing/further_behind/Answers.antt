use Rattle.std.proofs.Common.{◌≡◌, ◌∙◌, ℕ, ap, length, subst}
use Rattle.std.proofs.lemmas.Result.{IfOk-weaker, on_ok_weaker}
use Rattle.grown_plans.specs.declared.grown_list.GrownList.{GrownList}
use Rattle.answered_runs.specs.Answered.{Answered, known_plans}
use Rattle.answered_runs.specs.Components.{AgreesWithRuns, IsComponent}
use Rattle.answer_text.specs.Runs.{told_in}
use Rattle.answered_runs.specs.grown.Further.{AreTooMany, HasFewHits, clean_run, further_known, further_told}
use Rattle.answered_runs.proofs.GrownLemmas.Whole.{list_of}
use Rattle.answered_runs.proofs.grown.listing.further_behind.Goals as goal

pub returns-clause-further : goal.returns-clause-further
returns-clause-further c = IfOk-weaker c.further_plans.result _ _ (λ further is. is ∙ ap (λ (a : Answered). further_told a c.args.settings.now) c.runs.ensures) c.further_plans.ensures.told

pub returns-clause-clean : goal.returns-clause-clean
returns-clause-clean c = on_ok_weaker c.further_plans.result (λ clean. subst HasFewHits c.runs.ensures clean) c.further_plans.ensures.clean

pub returns-clause-known : goal.returns-clause-known
returns-clause-known c =
    IfOk-weaker c.further_plans.result _ _
    (λ further is t here agrees. subst (λ (a : Answered). IsComponent a.points a.listed t → AgreesWithRuns t (told_in a.book) → further ≡ further_known t c.args.settings.now (clean_run a)) c.runs.ensures (is t) here agrees)
    c.further_plans.ensures.known

pub returns-clause-whole : goal.returns-clause-whole
returns-clause-whole c =
    IfOk-weaker c.further_plans.result _ _
    (λ further is t here agrees.
    list_of t c.args.known.now.depth c.args.settings.now c.args.known.now.answered c.args.known.now.list further here (c.list.ensures.known.known t here agrees)
    (subst (λ (a : Answered). IsComponent a.points a.listed t → AgreesWithRuns t (told_in a.book) → further ≡ further_known t c.args.settings.now (clean_run a)) c.runs.ensures (is t) here agrees))
    c.further_plans.ensures.known

pub returns-clause-many : goal.returns-clause-many
returns-clause-many c = λ is.
    let many : length c.list.result.now.plans ≡ length (known_plans c.args.known.now.answered c.args.known.now.depth) = ap (λ (l : GrownList). length l.plans) c.list.ensures.same ∙ ap length c.list.ensures.known.plans in
    subst (λ (a : Answered). AreTooMany a c.args.settings.now (length (known_plans c.args.known.now.answered c.args.known.now.depth))) c.runs.ensures
    (subst (λ (n : ℕ). AreTooMany c.runs.result.now c.args.settings.now n) (c.len.ensures ∙ many) (c.further_plans.ensures.many is))
