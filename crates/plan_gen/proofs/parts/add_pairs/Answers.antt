use Rattle.std.proofs.Common.{◌+◌, ◌∷◌, drop, ap, sym, ◌∙◌}
use Rattle.action_eval.specs.declared.rig.Site.{Site}
use Rattle.plan_gen.specs.inside.Drawn.{pair_sources}
use Rattle.plan_gen.proofs.Lists.{next_of, all_left}
use Rattle.plan_gen.proofs.Counting.{pairs_next}
use Rattle.plan_gen.proofs.parts.add_pairs.Goals as goal

pub loop-i-preserved : goal.loop-i-preserved
loop-i-preserved c =
    let sites = c.args.sites.now in
    let i = c.loop-i.i in
    let first = c.index-sites-i in
    let split = next_of sites i first.result c.loop-i-test.true ∙ ap (λ (s : Site). s ∷ drop (i + 1) sites) (sym first.is) in
    pairs_next pair_sources c.loop-i.sources.items _ _ _ _ _ _ split (all_left sites (i + 1)) c.in_ok-add_pairs_of.ensures c.loop-i.invariant
