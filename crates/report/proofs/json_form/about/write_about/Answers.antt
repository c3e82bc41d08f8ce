use Rattle.std.proofs.Common.{◌++◌, map, codes, length, ap, ◌∙◌}
use Rattle.std.proofs.lemmas.Result.{on_ok_weaker}
use Rattle.json.specs.Json.{string}
use Rattle.report.specs.json_form.About.{NotesFacts, ShownFacts, grown_value, listed_from, plans_between, storms_from}
use Rattle.report.specs.json_form.Runs.{RunsFacts, or_null, run_value, shown_value}
use Rattle.report.specs.json_form.Values.{list_of, scenario_value}
use Rattle.report.specs.json_form.inside.Tokens.{member_tokens}
use Rattle.report.proofs.JsonFormLemmas.Lists.{key_first, ten_members}
use Rattle.report.proofs.json_form.about.write_about.Goals as goal

pub returns : goal.returns
returns c =
    let notes : NotesFacts = c.args.appendix.now.notes.now in
    let shown : ShownFacts = c.args.appendix.now.shown.now in
    let runs : RunsFacts = c.args.appendix.now.runs.now in
    on_ok_weaker c.token-3.result
    (λ ends. key_first c.args.out.now (codes "about") _ c.in_ok-token.ensures.ok
    (ten_members c.token.new.self (member_tokens (codes "program_version") (string notes.version)) (member_tokens (codes "told_by") (string notes.told_by))
    (member_tokens (codes "command") (string notes.command)) (member_tokens (codes "settings") (string shown.settings))
    (member_tokens (codes "storms") (list_of (map scenario_value (plans_between (storms_from shown) (listed_from shown) shown.plans))))
    (member_tokens (codes "listed") (list_of (map scenario_value (plans_between (listed_from shown) (length shown.plans) shown.plans))))
    (member_tokens (codes "grown") (list_of (map grown_value shown.grown)))
    (member_tokens (codes "clean_run") (or_null run_value runs.clean))
    (member_tokens (codes "finding_runs") (list_of (map (or_null shown_value) runs.findings)))
    (member_tokens (codes "cause_runs") (list_of (map (or_null shown_value) runs.causes)))
    c.in_ok-token-2.ensures.ok
    (c.in_ok-write_made.ensures ∙ ap (λ (s : ShownFacts). c.token-2.new.self ++ member_tokens (codes "program_version") (string notes.version)
    ++ member_tokens (codes "told_by") (string notes.told_by) ++ member_tokens (codes "command") (string notes.command)
    ++ member_tokens (codes "settings") (string s.settings)) c.shown.view_is)
    c.in_ok-write_plans.ensures c.in_ok-write_runs.ensures ends))
    c.token-3.ensures.ok
