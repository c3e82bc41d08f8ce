use Rattle.std.proofs.Common.{◌∙◌, ap, sym, ◌-◌, length, take, drop, map, List, ℕ, false}
use Rattle.std.specs.Str.{bytes_eq}
use Rattle.file_replace.specs.Judgement.{is_among}
use Rattle.scenario_values.specs.chunked.Chunks.{joined}
use Rattle.file_replace.proofs.Counted.{begun_from, old_or_begun}
use Rattle.file_replace.proofs.contents.is_among.Goals as goal

pub returns-then-first-gt0 : goal.returns-then-first-gt0
returns-then-first-gt0 c =
    begun_from c.args.bytes.now c.args.workload.now.old c.args.workload.now.replacements c.args.first c.args.last _ c.if-first-gt0.true
    (c.is_one.ensures ∙ ap (λ (l : List (List (List ℕ))). is_among c.args.bytes.now (map joined (take (length (take c.args.last l) - (c.args.first - 1)) (drop (c.args.first - 1) (take c.args.last l))))) c.as_slice.ensures)

pub returns-else-eq : goal.returns-else-eq
returns-else-eq c =
    old_or_begun c.args.bytes.now c.args.workload.now.old c.args.workload.now.replacements c.args.first c.args.last false _ c.if-first-gt0.false
    (sym c.if-eq.false ∙ c.eq.ensures ∙ ap (bytes_eq c.args.bytes.now) (c.as_bytes.ensures.value ∙ c.as_str.ensures ∙ c.old.ensures))
    (c.is_one-else-eq.ensures ∙ ap (λ (l : List (List (List ℕ))). is_among c.args.bytes.now (map joined (take c.args.last l))) c.as_slice.ensures)
