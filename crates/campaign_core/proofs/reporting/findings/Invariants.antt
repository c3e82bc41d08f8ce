use Rattle.std.proofs.Common.{◌≡◌, All, map, take}
use Rattle.result_book.specs.Says.{input_says}
use Rattle.campaign_core.specs.Findings.{finding, ReducesToMinimal}
use Rattle.campaign_core.proofs.reporting.findings.Given as goal

abbrev pub invariant-loop-first : goal.invariant-loop-first
invariant-loop-first g l =
    let input = l.fn.input in
    let say = input_says g.T.Target l.fn.target input in
    record {
      found : l.all.items ≡ map (finding say input.plans.now) (take l.first-index l.firsts);
      minimal : All (ReducesToMinimal say) l.all.items;
    }
