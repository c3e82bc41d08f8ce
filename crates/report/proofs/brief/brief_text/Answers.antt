use Rattle.std.proofs.Common.{◌≡◌, ◌∷◌, [], ◌++◌, List, ℕ, Vec, Global, codes, ap, sym, ◌∙◌}
use Rattle.std.specs.String.{string_bytes}
use Rattle.report.specs.Reports.{ReportFacts}
use Rattle.report.specs.ReportText.{ended, text_of, head_lines, point_lines, growth_lines, count_line, nonzero_lines, findings_lines, causes_lines}
use Rattle.report.specs.BriefText.{counts_line, reported_lines, brief_lines}
use Rattle.report.proofs.ReportedLines.{lines_on, joined_lines}
use Rattle.report.proofs.Written.{goes_on}
use Rattle.report.proofs.brief.brief_text.Goals as goal

pub returns : goal.returns
returns g c =
    let points = g.N.Names.points c.args.names.now in
    let name = g.N.Names.code_text c.args.names.now in
    let plans = c.args.plans.now in
    let i = c.report.inside in
    let r : ReportFacts = record {
      label = i.label.now;
      seed = i.seed;
      clean = i.clean;
      census = i.census.now;
      verdicts = i.verdicts.now;
      unmet = i.unmet;
      findings = i.findings.items;
      growth = i.growth;
    } in
    let front : ReportFacts → List (List ℕ) = λ r. head_lines name r ++ point_lines (codes "census") points r.census ++ growth_lines points r.growth ++ count_line r.verdicts ∷ [] in
    let end : ReportFacts → List (List ℕ) = λ r. nonzero_lines (codes "unmet") r.unmet ++ findings_lines name r.findings ++ causes_lines name r.growth in
    let told : List (List ℕ) = reported_lines name 0 r.verdicts plans in
    let counts : List ℕ = counts_line name r.verdicts r.findings in
    let rest : List (List ℕ) = counts ∷ (told ++ end r) in
    let whole : List ℕ = text_of (front r ++ rest) in
    let begun : string_bytes c.new-out.result ++ text_of (front r ++ rest) ≡ whole = ap (λ (s : List ℕ). s ++ whole) c.new-out.ensures.bytes in
    let fronted =
    lines_on (string_bytes c.new-out.result) (string_bytes c.write_front.new.out) whole (front r) rest
    (c.in_ok-write_front.ensures ∙ ap (λ (r : ReportFacts). string_bytes c.new-out.result ++ text_of (front r)) (sym c.report.view_is)) begun in
    let counted =
    goes_on (string_bytes c.write_front.new.out) (string_bytes c.write_counts.new.out) (ended counts) (text_of (told ++ end r)) whole fronted
    (c.in_ok-write_counts.ensures ∙ ap (λ fs. string_bytes c.write_front.new.out ++ ended (counts_line name r.verdicts fs)) c.deref.ensures.value)
    in
    let all = lines_on (string_bytes c.write_counts.new.out) (string_bytes c.write_all_reported.new.out) whole told (end r) c.in_ok-write_all_reported.ensures counted in
    ap (λ (v : Vec ℕ Global). v.items) c.into_bytes.ensures.value ∙ c.in_ok-write_end.ensures
    ∙ ap (λ (r : ReportFacts). string_bytes c.write_all_reported.new.out ++ text_of (end r)) (sym c.report.view_is) ∙ all
    ∙ ap (λ (lines : List (List ℕ)). text_of lines)
    (joined_lines (head_lines name r) (point_lines (codes "census") points r.census) (growth_lines points r.growth) told
    (nonzero_lines (codes "unmet") r.unmet) (findings_lines name r.findings) (causes_lines name r.growth) (count_line r.verdicts) counts)
    ∙ ap (λ (r : ReportFacts). text_of (brief_lines points name r plans)) c.report.view_is
