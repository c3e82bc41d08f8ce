use Rattle.std.proofs.Common.{arith}
use Rattle.std.specs.Prelude.{remove, slice_index}
use Rattle.std.specs.List.{range_with_len}
use Rattle.scenario_values.specs.Scenario.{all_faults}
use Rattle.scenario_values.specs.Keep.{kept}
use Rattle.scenario_values.specs.Origins.{origins}
use Rattle.scenario_values.specs.Tidied.{tidied}
use Rattle.scenario_values.proofs.Sets.{within}
use Rattle.scenario_values.proofs.OriginLaws.{origins_without, origins_are_faults, origins_count}
use Rattle.action_eval.proofs.RunLaws.{kept_means, means_back, member}
use Rattle.action_eval.proofs.laws.tidied_without_a_fault.Goals as goal

pub returns-clause-origin : goal.returns-clause-origin
returns-clause-origin c =
    let s = c.args.scenario.now in
    member (all_faults s) (origins s) c.args.fault (within 0 (all_faults s) (origins s) (origins_are_faults s)) (omega (arith, origins_count s, c.requires))

pub returns-clause-meaning : goal.returns-clause-meaning
returns-clause-meaning c =
    let s = c.args.scenario.now in
    let i = c.args.fault in
    let all = remove (range_with_len 0 (all_faults s)) (slice_index (origins s) i) in
    let own = remove (range_with_len 0 (all_faults (tidied s))) i in
    means_back (kept all s) (kept own (tidied s)) (kept_means s all own c.entries.ensures.limits.distinct_names (origins_without s i c.requires))
