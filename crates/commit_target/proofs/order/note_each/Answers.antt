use Rattle.std.proofs.Common.{rules, ◌≡◌, ◌≤◌, ◌<◌, ◌+◌, ◌-◌, ℕ, suc, List, ap, sym, ◌∙◌, arith}
use Rattle.commit_target.specs.declared.records.PendingRecord.{PendingRecord}
use Rattle.commit_target.specs.declared.records.Party.TheVariants.{Participant}
use Rattle.commit_target.specs.inside.Held.{noted, noted_each}
use Rattle.commit_target.proofs.Noting.{row_of_forces}
use Rattle.commit_target.proofs.order.note_each.Goals as goal

pub loop-number-init : goal.loop-number-init
loop-number-init c =
    let all : c.args.first + c.args.count - c.args.first ≡ c.args.count = omega arith in
    ap (λ (m : ℕ). noted_each c.args.manner c.args.entry c.args.first m c.args.order.now.items) all

pub loop-number-preserved : goal.loop-number-preserved
loop-number-preserved c =
    let i : ℕ = c.args.first in
    let n : ℕ = c.args.count in
    let j : ℕ = c.loop-number.number in
    let before : j < i + n = omega arith in
    let one : suc (i + n - (j + 1)) ≡ i + n - j = omega arith in
    ap (λ (x : List PendingRecord). noted_each c.args.manner c.args.entry (j + 1) (i + n - (j + 1)) x) c.note.ensures
    ∙ ap (λ (x : List PendingRecord). noted_each c.args.manner c.args.entry (j + 1) (i + n - (j + 1)) (noted c.args.manner (record { party = Participant j; entry = c.args.entry }) x)) c.in_ok-reserve.ensures.items
    ∙ ap (λ (m : ℕ). noted_each c.args.manner c.args.entry j m c.loop-number.order.items) one
    ∙ c.loop-number.invariant

pub returns : goal.returns
returns c =
    let i : ℕ = c.args.first in
    let n : ℕ = c.args.count in
    let j : ℕ = c.loop-number.number in
    let there : i + n ≤ j = omega arith in
    let none : i + n - j ≡ 0 = omega arith in
    ap (λ (m : ℕ). noted_each c.args.manner c.args.entry j m c.loop-number.order.items) (sym none) ∙ c.loop-number.invariant

pub returns-in-Force : goal.returns-in-Force
returns-in-Force c = row_of_forces c.args.manner c.args.entry c.args.order.now.items c.args.first c.args.count c.in-Force.is (search rules)
