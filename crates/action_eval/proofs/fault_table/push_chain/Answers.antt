use Rattle.std.proofs.Common.{◌≡◌, ◌∷◌, ◌+◌, drop, ap, sym, ◌∙◌}
use Rattle.action_eval.specs.declared.rig.Rig.{Rig}
use Rattle.action_eval.proofs.LaidChains.{next_of, none_left}
use Rattle.action_eval.proofs.Rigged.{chain_more, chain_done}
use Rattle.action_eval.proofs.fault_table.push_chain.Goals as goal

pub loop-rig-preserved : goal.loop-rig-preserved
loop-rig-preserved c =
    let rigs = c.args.rigs.now in
    let i = c.loop-rig.rig-index in
    let rig : Rig = c.rig-item.result in
    let next : drop i rigs ≡ rig ∷ drop (i + 1) rigs = next_of rigs i rig c.loop-rig-test.true ∙ ap (λ (r : Rig). r ∷ drop (i + 1) rigs) (sym c.rig-item.is) in
    chain_more c.args.point c.loop-rig.done _ c.loop-rig.terms.items _ _ _ _ _ next c.in_ok-done.ensures.terms c.in_ok-done.ensures.done c.loop-rig.invariant

pub returns : goal.returns
returns c = chain_done c.args.point c.loop-rig.done c.loop-rig.terms.items _ _ (none_left c.args.rigs.now c.loop-rig.rig-index c.loop-rig-test.false) c.loop-rig.invariant
