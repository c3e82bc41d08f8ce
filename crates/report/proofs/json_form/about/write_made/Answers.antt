use Rattle.std.proofs.Common.{List, ◌++◌, codes, ap, ◌∙◌}
use Rattle.std.proofs.lemmas.Result.{on_ok_weaker}
use Rattle.json.specs.Json.{string}
use Rattle.json.specs.Token.{Token}
use Rattle.report.specs.json_form.About.{NotesFacts}
use Rattle.report.specs.json_form.inside.Tokens.{member_tokens}
use Rattle.report.proofs.json_form.about.write_made.Goals as goal

pub returns : goal.returns
returns c =
    let i = c.notes.inside in
    let told_by : List Token = member_tokens (codes "told_by") (string i.told_by.now) in
    let command : List Token = member_tokens (codes "command") (string i.command.now) in
    let settings : List Token = member_tokens (codes "settings") (string c.args.settings.now) in
    on_ok_weaker c.write_text-4.result
    (λ last. last ∙ ap (λ (ts : List Token). ts ++ settings) (c.in_ok-write_text-3.ensures ∙ ap (λ (ts : List Token). ts ++ command)
    (c.in_ok-write_text-2.ensures ∙ ap (λ (ts : List Token). ts ++ told_by) c.in_ok-write_text.ensures))
    ∙ ap (λ (n : NotesFacts). c.args.out.now ++ member_tokens (codes "program_version") (string n.version) ++ member_tokens (codes "told_by") (string n.told_by)
    ++ member_tokens (codes "command") (string n.command) ++ settings) c.notes.view_is)
    c.write_text-4.ensures
