use Rattle.std.proofs.Common.{OnOk, sym, subst}
use Rattle.commit_target.specs.declared.records.Write.{Write}
use Rattle.commit_target.specs.Writes.{Written, AddsEvent}
use Rattle.commit_target.proofs.logs.Logs.write.Goals as goal

pub returns-in-Append-clause-ok : goal.returns-in-Append-clause-ok
returns-in-Append-clause-ok c = subst (λ (w : Write). OnOk c.add.result (AddsEvent c.args.self.now c.add.new.self (Written w))) (sym c.in-Append.is) c.add.ensures.ok

pub returns-in-Force-clause-ok : goal.returns-in-Force-clause-ok
returns-in-Force-clause-ok c = subst (λ (w : Write). OnOk c.add-in-Force.result (AddsEvent c.args.self.now c.add-in-Force.new.self (Written w))) (sym c.in-Force.is) c.add-in-Force.ensures.ok
