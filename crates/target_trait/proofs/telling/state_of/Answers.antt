use Rattle.std.proofs.Common.{◌∙◌, ap}
use Rattle.target_trait.specs.Machine.{asks_by}
use Rattle.target_trait.specs.Protocol.{by_table, state_after}
use Rattle.target_trait.specs.MachineLaws.{halts_table}
use Rattle.target_trait.proofs.Halted.{halting}
use Rattle.target_trait.proofs.Plays.{given_is, replies_are}
use Rattle.target_trait.proofs.telling.state_of.Goals as goal

pub returns : goal.returns
returns g c =
    let case = c.args.case.now in
    let t = g.P.Protocol.table c.args.protocol.now c.args.workload.now in
    let given = given_is _ _ case.scenario.now _ _ case.seed case.stream case.max_hits c.play_out.ensures.given c.in_ok-session.ensures c.catalogue.ensures in
    c.in_ok-state.ensures.state ∙ ap (state_after t) (replies_are (asks_by (by_table t)) _ _ _ given (halting (asks_by (by_table t)) (halts_table t) _ _ c.in_ok-state.ensures.play) c.trace.ensures.within)
