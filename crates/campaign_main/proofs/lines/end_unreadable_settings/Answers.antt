use Rattle.std.proofs.Common.{List, ℕ, subst, sym}
use Rattle.campaign_main.specs.declared.input.ReadFault.{ReadFault}
use Rattle.campaign_main.specs.Ends.{RefusesWith}
use Rattle.campaign_main.specs.FaultLines.{read_fault_line}
use Rattle.campaign_main.proofs.EscapedLemmas.{long-settings}
use Rattle.campaign_main.proofs.ToldLemmas.{refuses-with}
use Rattle.campaign_core.specs.Writes.{change}
use Rattle.campaign_main.proofs.lines.end_unreadable_settings.Goals as goal

pub returns-in-TooLong-clause-end : goal.returns-in-TooLong-clause-end
returns-in-TooLong-clause-end g c =
    let E = g.E.Sink in
    let new = c.refused.new.faults in
    let P : ReadFault → Type 0 = λ f. RefusesWith (read_fault_line f) c.refused.result (change E c.args.faults.now new) in
    let Q : List ℕ → Type 0 = λ line. RefusesWith line c.refused.result (change E c.args.faults.now new) in
    subst P (sym c.in-TooLong.is) (subst Q (sym long-settings) (refuses-with _ _ _ c.refused.ensures.end c.refused.ensures.told))

pub returns-in-NotUtf8-clause-end : goal.returns-in-NotUtf8-clause-end
returns-in-NotUtf8-clause-end g c =
    let E = g.E.Sink in
    let new = c.refused-in-NotUtf8.new.faults in
    let P : ReadFault → Type 0 = λ f. RefusesWith (read_fault_line f) c.refused-in-NotUtf8.result (change E c.args.faults.now new) in
    subst P (sym c.in-NotUtf8.is) (refuses-with _ _ _ c.refused-in-NotUtf8.ensures.end c.refused-in-NotUtf8.ensures.told)

pub returns-in-NotReadable-clause-end : goal.returns-in-NotReadable-clause-end
returns-in-NotReadable-clause-end g c =
    let E = g.E.Sink in
    let new = c.refused-in-NotReadable.new.faults in
    let P : ReadFault → Type 0 = λ f. RefusesWith (read_fault_line f) c.refused-in-NotReadable.result (change E c.args.faults.now new) in
    subst P (sym c.in-NotReadable.is) (refuses-with _ _ _ c.refused-in-NotReadable.ensures.end c.refused-in-NotReadable.ensures.told)
