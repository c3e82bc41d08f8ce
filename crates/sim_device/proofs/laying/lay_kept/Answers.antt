use Rattle.std.proofs.Common.{◌<◌, length, IfSome, subst, sym, ◌∙◌}
use Rattle.sim_device.proofs.KeptWrites.{of_files_at, laid_one, laid_all}
use Rattle.sim_device.proofs.laying.lay_kept.Goals as goal

pub loop-place-preserved : goal.loop-place-preserved
loop-place-preserved c = λ all.
    let before = c.loop-place.invariant all in
    let within : IfSome c.index-writes-place.result.file (λ f. f < length c.loop-place.device.files) =
    subst (λ used. IfSome c.index-writes-place.result.file (λ f. f < used)) (sym before.made)
    (of_files_at c.args.writes.now _ c.loop-place.place _ all c.loop-place-test.true c.index-writes-place.is) in
    let laid = c.in_ok-lay_if.ensures within in
    record {
      rest = laid_one _ _ _ c.args.keep.now c.args.writes.now c.loop-place.place _ _ c.loop-place-test.true c.index-writes-place.is c.keeps.ensures before.rest laid;
      made = laid.made ∙ before.made;
    }

pub returns : goal.returns
returns c = λ all. laid_all _ _ c.args.keep.now c.args.writes.now c.loop-place.place c.loop-place-test.false (c.loop-place.invariant all).rest
