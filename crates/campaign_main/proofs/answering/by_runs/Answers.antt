use Rattle.std.proofs.Common.{◌∙◌, ℕ, Some, ap, subst, sym}
use Rattle.answered_runs.specs.Agreement.{AreOfOne}
use Rattle.outside_campaign.specs.Recorded.{Records, depth_of}
use Rattle.outside_campaign.specs.with_depth.Questions.{Tells}
use Rattle.outside_campaign.proofs.WithDepthLemmas.Asking.{err_is}
use Rattle.outside_campaign.proofs.WithDepthLemmas.ReadFaults.{asked_refused}
use Rattle.campaign_main.specs.Questions.{IsUnansweredTo, Subject}
use Rattle.campaign_main.specs.inside.OnPlans.{question_on}
use Rattle.campaign_main.proofs.PlanQuestions.{answered-fault, answered-notes, answered-text, yet-unanswered}
use Rattle.campaign_main.proofs.answering.by_runs.Goals as goal

pub returns-in_err-known-clause-fault : goal.returns-in_err-known-clause-fault
returns-in_err-known-clause-fault c =
    let outside = c.args.campaign.now.outside.now in
    let given = c.args.campaign.now.settings.now in
    let s : Subject = (given, outside) in
    let why = c.in_err-known.field-0.0 in
    let tells = subst (Tells outside c.args.answers.now) (sym c.table-runs.ensures) c.in_ok-read.ensures.read in
    err_is c.from_residual-in_err-known.result why (IsUnansweredTo (Some c.args.depth) (question_on c.args.question) s c.args.answers.now) c.from_residual-in_err-known.ensures.1
    (yet-unanswered (Some c.args.depth) c.args.question s c.args.answers.now why
    (asked_refused outside c.args.answers.now given c.args.depth c.table-runs.result tells why (c.in_err-known.ensures.fault given.plans)))

pub answer_by-requires : goal.answer_by-requires
answer_by-requires c =
    let s : Subject = (c.args.campaign.now.settings.now, c.args.campaign.now.outside.now) in
    let answers = c.args.answers.now in
    let same = c.in_ok-known.ensures.known in
    let tells = subst (Tells s.1 answers) (sym same.0) (subst (Tells s.1 answers) (sym c.table-runs.ensures) c.in_ok-read.ensures.read) in
    let agree = subst AreOfOne (sym same.0) c.in_ok-known.ensures.agree in
    let records = subst (Records s.1 s.0 answers) (sym c.with_known.ensures) (record { tells = tells; agree = agree }) in
    (answers, records)

pub returns : goal.returns
returns c =
    let s : Subject = (c.args.campaign.now.settings.now, c.args.campaign.now.outside.now) in
    let answers = c.args.answers.now in
    let same = c.in_ok-known.ensures.known in
    let tells = subst (Tells s.1 answers) (sym same.0) (subst (Tells s.1 answers) (sym c.table-runs.ensures) c.in_ok-read.ensures.read) in
    let agree = subst AreOfOne (sym same.0) c.in_ok-known.ensures.agree in
    let records = subst (Records s.1 s.0 answers) (sym c.with_known.ensures) (record { tells = tells; agree = agree }) in
    record {
      text = answered-text c.args.question s answers c.with_known.result (Some c.args.depth) (ap depth_of c.with_known.ensures ∙ ap (λ (n : ℕ). Some n) same.1) records c.answer_by.result c.answer_by.ensures.text;
      notes = answered-notes c.args.question s answers c.with_known.result (Some c.args.depth) (ap depth_of c.with_known.ensures ∙ ap (λ (n : ℕ). Some n) same.1) records c.answer_by.result c.answer_by.ensures.notes;
      fault = answered-fault c.args.question s answers c.with_known.result (Some c.args.depth) (ap depth_of c.with_known.ensures ∙ ap (λ (n : ℕ). Some n) same.1) records c.answer_by.result c.answer_by.ensures.fault;
    }
