use Rattle.std.proofs.Common.{◌<◌, ℕ, subst, sym, ◌≡◌}
use Rattle.std.specs.Str.{IsCharBoundary}
use Rattle.std.specs.List.{prefix_len}
use Rattle.scenario_values.specs.Words.{is_blank}
use Rattle.scenario_grammar.proofs.Blanks.{boundary_after_blanks}
use Rattle.scenario_grammar.proofs.cuts.trim_front.Goals as goal

pub range_from-requires : goal.range_from-requires
range_from-requires c =
    let e : c.blanks_at_front-n.result ≡ prefix_len is_blank c.args.text.now = rw (c.blanks_at_front-n.ensures, c.as_bytes.ensures.value) in
    let P : ℕ → Type 0 = λ n. (0 < n → IsCharBoundary c.args.text.now n) in
    subst P (sym e) (boundary_after_blanks c.args.text.now c.utf8.text)
