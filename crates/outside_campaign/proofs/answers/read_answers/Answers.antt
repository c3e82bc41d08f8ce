use Rattle.std.proofs.Common.{◌≡◌, List, ℕ, ap, subst, ◌∙◌, false}
use Rattle.answer_text.specs.Answers.{Says}
use Rattle.answer_text.specs.Runs.{answers_of, known_answers, known_strangers, told_in}
use Rattle.campaign_given.specs.Description.{Description}
use Rattle.outside_campaign.specs.Readable.{KeepsCensus, told_by}
use Rattle.outside_campaign.proofs.answers.read_answers.Goals as goal

pub returns-clause-readable : goal.returns-clause-readable
returns-clause-readable c =
    let outside = c.args.outside.now in
    let text = c.args.answers.now in
    let found = c.in_ok-runs.ensures.found in
    let codes : c.as_slice.result.now ≡ outside.codes = c.as_slice.ensures.value ∙ ap (λ (d : Description). d.codes) c.outside.view_is in
    let points : c.as_slice-2.result.now ≡ outside.points = c.as_slice-2.ensures.value ∙ ap (λ (d : Description). d.points) c.outside.view_is in
    let known : told_in c.in_ok-runs.runs ≡ told_by outside text =
    c.in_ok-runs.ensures.known ∙ ap (λ (names : List (List ℕ)). known_answers names c.as_slice-2.result.now text) codes ∙ ap (λ (names : List (List ℕ)). known_answers outside.codes names text) points in
    record {
      said = found.0;
      says = subst (λ (names : List (List ℕ)). Says false outside.codes names text found.0) points (subst (λ (names : List (List ℕ)). Says false names c.as_slice-2.result.now text found.0) codes found.1);
      census = subst (KeepsCensus outside) known c.in_ok-check_census.ensures.kept;
    }

pub returns-clause-strangers : goal.returns-clause-strangers
returns-clause-strangers c =
    let outside = c.args.outside.now in
    let text = c.args.answers.now in
    let codes : c.as_slice.result.now ≡ outside.codes = c.as_slice.ensures.value ∙ ap (λ (d : Description). d.codes) c.outside.view_is in
    let points : c.as_slice-2.result.now ≡ outside.points = c.as_slice-2.ensures.value ∙ ap (λ (d : Description). d.points) c.outside.view_is in
    c.in_ok-runs.ensures.strangers ∙ ap (λ (names : List (List ℕ)). known_strangers c.as_slice-2.result.now (answers_of names c.as_slice-2.result.now text)) codes
    ∙ ap (λ (names : List (List ℕ)). known_strangers names (answers_of outside.codes names text)) points
