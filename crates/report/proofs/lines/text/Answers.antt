use Rattle.std.proofs.Common.{◌≡◌, ◌∷◌, [], ◌++◌, List, ℕ, Vec, Global, codes, ap, sym, ◌∙◌}
use Rattle.std.specs.String.{string_bytes}
use Rattle.report.specs.Reports.{ReportFacts}
use Rattle.report.specs.ReportText.{text_of, head_lines, point_lines, growth_lines, count_line, verdict_lines, nonzero_lines, findings_lines, causes_lines, report_lines}
use Rattle.report.proofs.ReportedLines.{lines_on, joined_whole}
use Rattle.report.proofs.lines.text.Goals as goal

pub returns : goal.returns
returns g c =
    let points = g.N.Names.points c.args.names.now in
    let name = g.N.Names.code_text c.args.names.now in
    let i = c.report.inside in
    let r : ReportFacts = record {
      label = i.label.now;
      seed = i.seed;
      clean = i.clean;
      census = i.census.now;
      verdicts = i.verdicts.now;
      unmet = i.unmet;
      findings = i.findings.items;
      growth = i.growth;
    } in
    let front : ReportFacts → List (List ℕ) = λ r. head_lines name r ++ point_lines (codes "census") points r.census ++ growth_lines points r.growth ++ count_line r.verdicts ∷ [] in
    let end : ReportFacts → List (List ℕ) = λ r. nonzero_lines (codes "unmet") r.unmet ++ findings_lines name r.findings ++ causes_lines name r.growth in
    let each : List (List ℕ) = verdict_lines name 0 r.verdicts in
    let whole : List ℕ = text_of (front r ++ (each ++ end r)) in
    let begun : string_bytes c.in_ok-out.out ++ whole ≡ whole = ap (λ (s : List ℕ). s ++ whole) c.in_ok-out.ensures.bytes in
    let fronted =
    lines_on (string_bytes c.in_ok-out.out) (string_bytes c.write_front.new.out) whole (front r) (each ++ end r)
    (c.in_ok-write_front.ensures ∙ ap (λ (r : ReportFacts). string_bytes c.in_ok-out.out ++ text_of (front r)) (sym c.report.view_is)) begun in
    let told = lines_on (string_bytes c.write_front.new.out) (string_bytes c.write_verdicts.new.out) whole each (end r) c.in_ok-write_verdicts.ensures fronted in
    ap (λ (v : Vec ℕ Global). v.items) c.into_bytes.ensures.value ∙ c.in_ok-write_end.ensures
    ∙ ap (λ (r : ReportFacts). string_bytes c.write_verdicts.new.out ++ text_of (end r)) (sym c.report.view_is) ∙ told
    ∙ ap (λ (lines : List (List ℕ)). text_of lines)
    (joined_whole (head_lines name r) (point_lines (codes "census") points r.census) (growth_lines points r.growth) each
    (nonzero_lines (codes "unmet") r.unmet) (findings_lines name r.findings) (causes_lines name r.growth) (count_line r.verdicts))
    ∙ ap (λ (r : ReportFacts). text_of (report_lines points name r)) c.report.view_is
