use Rattle.std.proofs.Common.{◌≡◌, ◌≤◌, ◌<◌, ◌+◌, ℕ, get_or, refl, ap, ◌∙◌, subst, arith}
use Rattle.commit_target.specs.declared.records.Record.{Record}
use Rattle.commit_target.specs.declared.records.Party.TheVariants.{Participant}
use Rattle.commit_target.specs.declared.records.Write.{Write}
use Rattle.commit_target.specs.declared.records.Write.TheVariants.{Append}
use Rattle.commit_target.specs.Writes.{Written, AddsEvent}
use Rattle.commit_target.specs.inside.Batches.{abort_write}
use Rattle.commit_target.proofs.Batches.{none_added, one_added, all_added}
use Rattle.commit_target.proofs.outcomes.abort_each.Goals as goal

pub loop-place-init : goal.loop-place-init
loop-place-init c = record { notes = refl; added = none_added _ _ 0 c.args.count }

pub loop-place-preserved : goal.loop-place-preserved
loop-place-preserved c =
    let k : ℕ = c.loop-place.place in
    let writes : ℕ → Write = λ j. abort_write c.args.progress.now j in
    let from : 0 ≤ k = omega arith in
    let before : k < 0 + c.args.count = omega arith in
    let is : Append (Participant c.voter.result) c.entry-entry.result ≡ abort_write c.args.progress.now k =
    ap (λ (i : ℕ). Append (Participant i) c.entry-entry.result) c.voter.ensures
    ∙ ap (λ (r : Record). Append (Participant (get_or c.args.progress.now.yes k 0)) r) c.entry-entry.ensures in
    record {
      notes = c.write.ensures.notes ∙ c.loop-place.invariant.notes;
      added = one_added _ _ _ writes 0 c.args.count k from before c.loop-place.invariant.added
          (subst (λ (x : Write). AddsEvent c.loop-place.logs c.write.new.self (Written x)) is c.in_ok-write.ensures.ok);
    }

pub returns-clause-adds : goal.returns-clause-adds
returns-clause-adds c =
    let there : 0 + c.args.count ≤ c.loop-place.place = omega arith in
    all_added _ _ _ 0 c.args.count c.loop-place.place there c.loop-place.invariant.added
