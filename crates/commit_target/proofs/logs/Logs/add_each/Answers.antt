use Rattle.std.proofs.Common.{rules, ◌≡◌, ℕ, true, List, refl, ap, sym, ◌∙◌, subst, arith}
use Rattle.std.specs.Vec.{with_items}
use Rattle.std.proofs.lemmas.List.{with_items_is}
use Rattle.sim_device.specs.LogEffects.{LogEffect, Log}
use Rattle.commit_target.specs.declared.records.Record.{Record}
use Rattle.commit_target.specs.declared.records.PendingRecord.{PendingRecord}
use Rattle.commit_target.specs.declared.records.Party.TheVariants.{Participant}
use Rattle.commit_target.specs.declared.records.Write.{Write}
use Rattle.commit_target.specs.Writes.{Event, AllLogs, pending}
use Rattle.commit_target.specs.inside.Batches.{effect_of, write_of, all_written, AddsAll, AddsRow}
use Rattle.commit_target.specs.inside.Held.{noted_each}
use Rattle.commit_target.proofs.Noting.{not_noted}
use Rattle.commit_target.proofs.Rows.{row_added, row_noted, writes}
use Rattle.commit_target.proofs.logs.Logs.add_each.Goals as goal

pub returns-clause-adds : goal.returns-clause-adds
returns-clause-adds c =
    let each : ℕ → Write = λ i. write_of c.args.manner (Participant i) c.args.entry in
    let effect : LogEffect Record = effect_of c.args.manner c.args.entry in
    let noted : List PendingRecord = c.note_each.new.order.items in
    let new : AllLogs = record { coordinator = c.self.inside.coordinator; participants = c.add_row.new.logs; notes = c.self.inside.notes; pending = noted } in
    let whole : (with_items c.self.inside.participants c.add_row.new.logs).items ≡ c.add_row.new.logs =
    with_items_is c.self.inside.participants c.add_row.new.logs (omega (arith, c.in_ok-add_row.ensures.same)) in
    let old : AllLogs = record { coordinator = c.self.inside.coordinator; participants = c.self.inside.participants.items; notes = c.self.inside.notes; pending = c.self.inside.order.items } in
    let row : AddsRow old.participants new.participants effect c.args.first c.min-end.result =
    subst (λ (logs : List (Log Record)). AddsRow logs new.participants effect c.args.first c.min-end.result) c.as_mut_slice.ensures.value c.in_ok-add_row.ensures in
    let notes : (es : List Event) → (old.notes ≡ true → old.pending ≡ pending es) → new.notes ≡ true → new.pending ≡ pending (all_written each c.args.first c.args.count es) = λ es is on.
    c.in_ok-note_each.ensures ∙ ap (λ (x : List PendingRecord). noted_each c.args.manner c.args.entry c.args.first c.args.count x) (is on) ∙ sym (row_noted c.args.manner c.args.entry c.args.first c.args.count es) in
    subst (λ (logs : AllLogs). AddsAll logs (record { coordinator = c.self.inside.coordinator; participants = (with_items c.self.inside.participants c.add_row.new.logs).items; notes = c.self.inside.notes; pending = noted }) each c.args.first c.args.count) c.self.view_is
    (subst (λ (logs : List (Log Record)). AddsAll old (record { coordinator = c.self.inside.coordinator; participants = logs; notes = c.self.inside.notes; pending = noted }) each c.args.first c.args.count) (sym whole)
    (row_added old new each effect (writes c.args.manner c.args.entry) c.args.first c.args.count c.min-end.result (omega arith) (λ n there before. omega arith) refl notes row))

pub returns-then-not-self-clause-adds : goal.returns-then-not-self-clause-adds
returns-then-not-self-clause-adds c =
    let each : ℕ → Write = λ i. write_of c.args.manner (Participant i) c.args.entry in
    let effect : LogEffect Record = effect_of c.args.manner c.args.entry in
    let order : List PendingRecord = c.self.inside.order.items in
    let new : AllLogs = record { coordinator = c.self.inside.coordinator; participants = c.add_row.new.logs; notes = c.self.inside.notes; pending = order } in
    let whole : (with_items c.self.inside.participants c.add_row.new.logs).items ≡ c.add_row.new.logs =
    with_items_is c.self.inside.participants c.add_row.new.logs (omega (arith, c.in_ok-add_row.ensures.same)) in
    let old : AllLogs = record { coordinator = c.self.inside.coordinator; participants = c.self.inside.participants.items; notes = c.self.inside.notes; pending = order } in
    let row : AddsRow old.participants new.participants effect c.args.first c.min-end.result =
    subst (λ (logs : List (Log Record)). AddsRow logs new.participants effect c.args.first c.min-end.result) c.as_mut_slice.ensures.value c.in_ok-add_row.ensures in
    let notes : (es : List Event) → (old.notes ≡ true → old.pending ≡ pending es) → new.notes ≡ true → new.pending ≡ pending (all_written each c.args.first c.args.count es) = λ es is on.
    not_noted c.self.inside.notes _ _ (search (rules, c.if-not-self.true)) on in
    subst (λ (logs : AllLogs). AddsAll logs (record { coordinator = c.self.inside.coordinator; participants = (with_items c.self.inside.participants c.add_row.new.logs).items; notes = c.self.inside.notes; pending = order }) each c.args.first c.args.count) c.self.view_is
    (subst (λ (logs : List (Log Record)). AddsAll old (record { coordinator = c.self.inside.coordinator; participants = logs; notes = c.self.inside.notes; pending = order }) each c.args.first c.args.count) (sym whole)
    (row_added old new each effect (writes c.args.manner c.args.entry) c.args.first c.args.count c.min-end.result (omega arith) (λ n there before. omega arith) refl notes row))
