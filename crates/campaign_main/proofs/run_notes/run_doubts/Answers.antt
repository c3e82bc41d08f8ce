use Rattle.std.proofs.Common.{◌≡◌, ◌∙◌, List, ap}
use Rattle.action_eval.specs.declared.rig.Rig.{Rig}
use Rattle.answer_text.specs.Runs.{told_in}
use Rattle.answered_runs.specs.Answered.{Answered, runs_in}
use Rattle.answered_runs.specs.WholeList.{unseen_count}
use Rattle.campaign_main.specs.QuestionNotes.{unseen_told}
use Rattle.campaign_main.proofs.StrictLemmas.{runs-is}
use Rattle.campaign_main.proofs.run_notes.run_doubts.Goals as goal

pub returns-clause-ok : goal.returns-clause-ok
returns-clause-ok c =
    let a = c.args.known.now.answered in
    let told : c.in_ok-unseen.unseen ≡ unseen_told a.points a.listed (told_in a.book) c.args.known.now.depth =
    c.in_ok-unseen.ensures ∙ ap (λ (plans : List (List Rig)). unseen_count (runs_in a) plans) c.list.ensures.known.plans in
    runs-is _ _ _ a.points _ _ _ _ _ _ _ _ c.in_ok-doubts.ensures.told (c.points-points.ensures.names ∙ ap (λ (x : Answered). x.points) c.runs.ensures)
    (c.as_slice.ensures.value ∙ c.in_ok-places.ensures.told) told
    c.new-lines.ensures.bytes c.in_ok-write_doubts.ensures c.in_ok-write_unseen.ensures c.in_ok-write_all_unreached.ensures
