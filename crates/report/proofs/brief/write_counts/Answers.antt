use Rattle.std.proofs.Common.{ℕ, List, ap, ◌++◌, ◌∷◌, [], ◌∙◌, codes, count_by, flat_map, string_bytes}
use Rattle.std.specs.Fmt.{decimal}
use Rattle.std.proofs.lemmas.Result.{on_ok_weaker}
use Rattle.target_trait.specs.Verdicts.{is_pass}
use Rattle.report.specs.BriefText.{code_count}
use Rattle.report.proofs.ReportedLines.{five_pieces, on_ok_if}
use Rattle.report.proofs.brief.write_counts.Goals as goal

pub returns : goal.returns
returns g c =
    let vs = c.args.verdicts.now in
    let counts : List ℕ = flat_map (code_count (g.N.Names.code_text c.args.names.now) vs) c.args.findings.now in
    let pass : ℕ = c.passing-pass.result in
    let open_ones : ℕ = c.unresolved-open.result in
    let all : ℕ → ℕ → List ℕ = λ p u. string_bytes c.args.out.now
    ++ ((codes "counts pass " ++ decimal p ++ codes " unresolved " ++ decimal u ++ counts) ++ 10 ∷ []) in
    on_ok_weaker c.push_str.result
    (λ ends. ends ∙ ap (λ (t : List ℕ). t ++ 10 ∷ []) (c.in_ok-write_code_counts.ensures ∙ ap (λ (t : List ℕ). t ++ counts) c.in_ok-write.ensures.bytes)
    ∙ five_pieces (string_bytes c.args.out.now) (codes "counts pass ") (decimal pass) (codes " unresolved ") (decimal open_ones) counts
    ∙ ap (λ p. all p open_ones) c.passing-pass.ensures ∙ ap (all (count_by is_pass vs)) c.unresolved-open.ensures)
    (on_ok_if c.push_str.result (string_bytes c.push_str.new.self) _ _ c.push_str.ensures.bytes)
