use Rattle.std.proofs.Common.{◌≡◌, ◌≤◌, ◌∙◌, ◌∷◌, ℕ, List, length, ap, sym, subst, arith}
use Rattle.sim_device.specs.FileEffects.{Live, Lasting}
use Rattle.sim_device.specs.LogEffects.{LogEffect, Restart, LogStandsFor, records}
use Rattle.commit_target.specs.declared.records.Record.{Record}
use Rattle.commit_target.specs.inside.Marks.{AreMarks}
use Rattle.commit_target.proofs.Fronts.{lasting_all}
use Rattle.commit_target.proofs.marked.MarkedLog.restart.Goals as goal

pub invariant_of-self : goal.invariant_of-self
invariant_of-self c =
    let es : List (LogEffect Record) = c.self.invariant.effects in
    let stands : LogStandsFor c.restart.new.self (Restart ∷ es) = c.restart.ensures es c.self.invariant.stands in
    record {
      effects = Restart ∷ es;
      stands = stands;
      marks = subst (λ (log : List Record). AreMarks c.of-self-inside.result.sets log 0) (c.records-left.ensures _ stands ∙ sym stands.live) c.of-self-inside.ensures;
    }

pub invariant_of-self-else-left-before : goal.invariant_of-self-else-left-before
invariant_of-self-else-left-before c =
    let es : List (LogEffect Record) = c.self.invariant.effects in
    let stands : LogStandsFor c.restart.new.self (Restart ∷ es) = c.restart.ensures es c.self.invariant.stands in
    let before : c.records-before.result.now ≡ records es Live = c.records-before.ensures _ c.self.invariant.stands in
    let left : c.records-left.result.now ≡ records es Lasting = c.records-left.ensures _ stands in
    let as_many : length c.records-before.result.now ≤ length c.records-left.result.now = omega arith in
    let all : length (records es Live) ≤ length (records es Lasting) =
    subst (λ (n : ℕ). length (records es Live) ≤ n) (ap (λ (l : List Record). length l) left)
    (subst (λ (n : ℕ). n ≤ length c.records-left.result.now) (ap (λ (l : List Record). length l) before) as_many) in
    record {
      effects = Restart ∷ es;
      stands = stands;
      marks = subst (λ (log : List Record). AreMarks c.self.inside.marks.sets log 0) (c.self.invariant.stands.live ∙ sym (lasting_all es all) ∙ sym stands.live) c.self.invariant.marks;
    }
