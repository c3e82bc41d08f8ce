use Rattle.std.proofs.Common.{false, refl, subst}
use Rattle.commit_target.specs.Writes.{Written, AllLogs, AddsEvent, pending}
use Rattle.commit_target.specs.inside.Batches.{write_of}
use Rattle.commit_target.proofs.Noting.{not_noted}
use Rattle.commit_target.proofs.logs.Logs.add.Goals as goal

pub returns-clause-ok : goal.returns-clause-ok
returns-clause-ok c =
    let old : AllLogs = record { coordinator = c.self.inside.coordinator; participants = c.self.inside.participants.items; notes = c.self.inside.notes; pending = c.self.inside.order.items } in
    let new : AllLogs = record { coordinator = c.add_to.new.coordinator; participants = c.add_to.new.participants.items; notes = c.self.inside.notes; pending = c.self.inside.order.items } in
    let adds : AddsEvent old new (Written (write_of c.args.manner c.args.party c.args.entry)) = λ count es stands.
    let k = c.in_ok-add_to.ensures.ok count es
    (record { enough = stands.enough; coordinator = stands.coordinator; participants = stands.participants; pending = λ _. refl }) in
    record {
      enough = k.enough;
      coordinator = k.coordinator;
      participants = k.participants;
      pending = λ on. not_noted c.self.inside.notes _ _ c.if-self.false on;
    } in
    subst (λ (logs : AllLogs). AddsEvent logs new (Written (write_of c.args.manner c.args.party c.args.entry))) c.self.view_is adds
