use Rattle.std.proofs.Common.{refl, length, ap, ◌+◌, ◌∙◌, subst, sym}
use Rattle.grown_runs.specs.inside.Beginnings.{AskLikeParents}
use Rattle.grown_runs.specs.inside.Growths.{subject_on}
use Rattle.std.proofs.lemmas.List.{length_push}
use Rattle.grown_runs.proofs.Overs.{same_push}
use Rattle.grown_runs.proofs.parts.growers.Goals as goal

pub loop-preserved : goal.loop-preserved
loop-preserved g c =
    let long = ap length c.in_ok-push.ensures.items in
    let so_far = c.loop.invariant.0 in
    (long ∙ length_push c.loop.all.items _ ∙ ap (λ n. n + 1) so_far, same_push c.loop.all.items c.push.new.self.items _ c.args.target.now c.args.input.now (λ r. r.target) (λ r. r.input.now) c.in_ok-push.ensures.items c.loop.invariant.1 c.in_ok-target.ensures refl)

pub invariant_of-push : goal.invariant_of-push
invariant_of-push g c =
    let input = c.args.input.now in
    record { alike = subst (λ s. AskLikeParents (subject_on g.T.Target s input) input.plans.now) (sym c.in_ok-target.ensures) c.requires }
