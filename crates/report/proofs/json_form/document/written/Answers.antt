use Rattle.std.proofs.Common.{List, [], ◌∷◌, ◌++◌, map, codes, refl, ap, ◌∙◌}
use Rattle.std.specs.Fmt.{decimal}
use Rattle.json.specs.Json.{string, no_members, member}
use Rattle.json.specs.Token.{Token, begin_object}
use Rattle.report.specs.Reports.{ReportFacts}
use Rattle.report.specs.json_form.Document.{form, clean_value, point_values, counts_value, reported_values, finding_value, growth_value}
use Rattle.report.specs.json_form.Values.{whole, list_of}
use Rattle.report.specs.json_form.inside.Tokens.{member_tokens, nonzero_tokens}
use Rattle.report.specs.json_form.About.{ShownFacts, about_value}
use Rattle.scenario_values.specs.Scenario.{Entries}
use Rattle.report.proofs.JsonFormLemmas.Lists.{eleven_members}
use Rattle.report.proofs.json_form.document.written.Goals as goal

pub returns : goal.returns
returns g c =
    let points = g.N.Names.points c.args.names.now in
    let name = g.N.Names.code_text c.args.names.now in
    let report : ReportFacts = c.args.report.now in
    eleven_members [] (member_tokens (codes "version") (whole form)) (member_tokens (codes "label") (string report.label))
    (member_tokens (codes "seed") (string (decimal report.seed))) (member_tokens (codes "clean") (clean_value name report.clean))
    (member_tokens (codes "census") (list_of (point_values points report.census)))
    (member_tokens (codes "counts") (counts_value report.verdicts))
    (member_tokens (codes "not_passed") (list_of (reported_values name 0 report.verdicts c.args.appendix.now.shown.now.plans)))
    (member_tokens (codes "findings") (list_of (map (finding_value name) report.findings)))
    (member_tokens (codes "growth") (growth_value points name report.growth))
    (member_tokens (codes "about") (about_value c.args.appendix.now.notes.now c.args.appendix.now.shown.now c.args.appendix.now.runs.now))
    (codes "unmet") report.unmet
    (member (codes "findings") (list_of (map (finding_value name) report.findings))
    (member (codes "growth") (growth_value points name report.growth) (member (codes "about") (about_value c.args.appendix.now.notes.now c.args.appendix.now.shown.now c.args.appendix.now.runs.now) no_members)))
    (c.in_ok-token.ensures.ok ∙ ap (λ (ts : List Token). ts ++ begin_object ∷ []) c.new-out.ensures) c.in_ok-write_head.ensures
    (c.in_ok-write_results.ensures
    ∙ ap (λ (plans : List Entries). c.write_head.new.out ++ member_tokens (codes "census") (list_of (point_values points report.census))
    ++ member_tokens (codes "counts") (counts_value report.verdicts) ++ member_tokens (codes "not_passed") (list_of (reported_values name 0 report.verdicts plans))
    ++ nonzero_tokens (codes "unmet") report.unmet ++ member_tokens (codes "findings") (list_of (map (finding_value name) report.findings))
    ++ member_tokens (codes "growth") (growth_value points name report.growth)) (ap (λ (s : ShownFacts). s.plans) c.shown.view_is))
    c.in_ok-write_about.ensures c.in_ok-token-2.ensures.ok refl
