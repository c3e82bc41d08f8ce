use Rattle.std.proofs.Common.{◌≡◌, ◌∙◌, ℕ, List, IfOk, ap, map, string_bytes, subst, take}
use Rattle.report.specs.ReportText.{text_of}
use Rattle.report.specs.explained.Explained.{given_in}
use Rattle.campaign_main.specs.Commands.{keep_lines, keeps_asked}
use Rattle.campaign_main.proofs.cut_end.end_text.Goals as goal

pub returns : goal.returns
returns g c =
    let T = g.T.Target in
    let work = c.args.workload.now in
    let given = given_in T.names c.args.run.now.case.now in
    subst (λ (calls : List (List ℕ)). IfOk c.keeps_text.result (λ text. string_bytes text ≡ text_of (keep_lines (take (keeps_asked T.names c.args.run.now.outcome.now.asked) calls))))
    (ap (map string_bytes) c.as_slice.ensures.value ∙ c.in_ok-calls.ensures.calls ∙ ap (λ t. g.T.TellsWrites.calls t work given) c.in_ok-twin.ensures)
    c.keeps_text.ensures
