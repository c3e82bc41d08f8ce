use Rattle.scenario_grammar.proofs.Blanks.{boundary_at_blank}
use Rattle.scenario_grammar.proofs.cuts.trim_end.Goals as goal

pub range-requires-clause-end_boundary : goal.range-requires-clause-end_boundary
range-requires-clause-end_boundary c =
    let same = c.as_bytes.ensures.value in
    boundary_at_blank c.args.text.now c.len_without_blank_end-n.result (rw same at c.len_without_blank_end-n.ensures.bound) (rw same at c.len_without_blank_end-n.ensures.stops)
