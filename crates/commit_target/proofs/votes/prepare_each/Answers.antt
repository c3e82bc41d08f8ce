use Rattle.std.proofs.Common.{◌≡◌, ◌∙◌, ℕ, OnOk, ap, sym, subst}
use Rattle.commit_target.specs.declared.records.Party.TheVariants.{Participant}
use Rattle.commit_target.specs.declared.records.Record.{Record}
use Rattle.commit_target.specs.declared.records.Write.{Write}
use Rattle.commit_target.specs.Steps.{Tally}
use Rattle.commit_target.specs.inside.Batches.{AddsAll, prepares, write_of}
use Rattle.commit_target.proofs.votes.prepare_each.Goals as goal

pub returns-clause-adds : goal.returns-clause-adds
returns-clause-adds c =
    let t : Tally = c.args.progress.now in
    let each : Record → ℕ → Write = λ r i. write_of c.manner_of.result (Participant i) r in
    let is : each c.entry-entry.result ≡ prepares c.args.variant t =
    ap each c.entry-entry.ensures ∙ sym (ap (λ (f : Tally → ℕ → Write). f t) c.manner_of.ensures) in
    subst (λ (f : ℕ → Write). OnOk c.add_each.result (AddsAll c.args.logs.now c.add_each.new.self f c.args.first c.args.count)) is c.add_each.ensures.adds
