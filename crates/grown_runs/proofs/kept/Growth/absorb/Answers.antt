use Rattle.std.proofs.Common.{◌++◌, refl, ap, ◌∙◌}
use Rattle.grown_runs.proofs.Growing.{growth_joined}
use Rattle.grown_runs.proofs.kept.Growth.absorb.Goals as goal

pub returns : goal.returns
returns c = record {
  grown = λ t seed part plans first count more was then_these.
      growth_joined t seed part plans first count more _ _ _ was then_these
      (c.in_ok-absorb.ensures.told t seed part.purpose plans first count _ more refl was.told then_these.told)
      (c.in_ok-extend_from_slice.ensures.items ∙ ap (λ l. c.args.self.now.children.items ++ l) c.as_slice.ensures.value)
      refl
      (c.in_ok-extend_from_slice-2.ensures.items ∙ ap (λ l. c.args.self.now.onward.items ++ l) c.as_slice-2.ensures.value);
}
