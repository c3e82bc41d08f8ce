use Rattle.std.proofs.Common.{◌++◌, ap, ◌∙◌, max, get_or}
use Rattle.grown_runs.proofs.Growing.{told_joined}
use Rattle.grown_runs.proofs.outcomes.Outcomes.absorb.Goals as goal

pub returns-clause-told : goal.returns-clause-told
returns-clause-told c = λ t seed purpose plans first count next more at was then_these.
    told_joined t seed purpose plans first count next more _ _ _ at was then_these
    (c.in_ok-extend_from_slice.ensures.items ∙ ap (λ l. c.args.self.now.verdicts.items ++ l) c.as_slice.ensures.value)
    (c.in_ok-extend_from_slice-2.ensures.items ∙ ap (λ l. c.args.self.now.causes.items ++ l) c.as_slice-2.ensures.value)
    c.raise.ensures.many
    (λ p lt. c.raise.ensures.most p lt ∙ ap (λ hs. max (get_or c.args.self.now.hits.items p 0) (get_or hs p 0)) c.as_slice-3.ensures.value)
