use Rattle.std.proofs.Common.{◌≡◌, ◌<◌, ◌+◌, ◌∙◌, ◌||◌, not, true, false, ap, sym, subst, ℕ, Bool, List, length, arith}
use Rattle.sim_device.specs.LogEffects.{Log}
use Rattle.std.specs.Int.{bit_not, w64}
use Rattle.std.proofs.lemmas.List.{get_or_default}
use Rattle.commit_target.specs.declared.records.Record.{Record}
use Rattle.commit_target.specs.Judgement.{is_committed, some_ends}
use Rattle.commit_target.specs.inside.Held.{Holds}
use Rattle.commit_target.specs.inside.Marks.{among, AreMarks}
use Rattle.commit_target.specs.Writes.{log_at}
use Rattle.commit_target.proofs.Counting.{one_committed, one_aborted}
use Rattle.commit_target.proofs.Sets.{among_or, among_not}
use Rattle.commit_target.proofs.judge.Ends.from.Goals as goal

pub loop-log-preserved : goal.loop-log-preserved
loop-log-preserved c =
    let first : ℕ = c.args.first in
    let n : ℕ = c.loop-log.log-index in
    let logs : List (Log Record) = c.participants-log-items.result.now in
    let there : n < length logs = c.loop-log-test.true in
    let is : c.log-item.result ≡ log_at logs n = c.log-item.is ∙ get_or_default logs n _ _ there in
    let mine : (known : List Record) (own : ℕ → List Record) → Holds c.args.participants c.args.logs.now known own → c.log-item.result.live ≡ own n = λ known own h.
    let all = c.participants-log-items.ensures h.enough in
    let before : n < c.args.participants = omega (arith, there, all.0) in
    ap (λ (l : Log Record). l.live) (is ∙ all.1 n before) ∙ h.participants n before in
    let ends : List Record → (ℕ → List Record) → ℕ → ℕ → Bool = λ known own k p. is_committed known (own p) (first + k) in
    let this : (known : List Record) (own : ℕ → List Record) → Holds c.args.participants c.args.logs.now known own → (k : ℕ) → k < 64
    → among c.committed-ends.result k ≡ ends known own k n = λ known own h.
    c.committed-ends.ensures first known (own n)
    (subst (λ (log : List Record). AreMarks c.marks-coordinator.result.sets log first) (ap (λ (l : Log Record). l.live) c.coordinator.ensures ∙ h.coordinator) c.marks-coordinator.ensures)
    (subst (λ (log : List Record). AreMarks c.marks.result.sets log first) (mine known own h) c.marks.ensures) in
    record {
      committed = λ known own h k below.
          among_or c.loop-log.committed_by c.committed-ends.result k
          ∙ ap (λ (b : Bool). b || among c.committed-ends.result k) (c.loop-log.invariant.committed known own h k below)
          ∙ ap (λ (b : Bool). some_ends (ends known own k) true n || b) (this known own h k below)
          ∙ sym (one_committed (ends known own k) n);
      aborted = λ known own h k below.
          among_or c.loop-log.aborted_by _ k
          ∙ ap (λ (b : Bool). b || among (bit_not w64 c.committed-ends.result) k) (c.loop-log.invariant.aborted known own h k below)
          ∙ ap (λ (b : Bool). some_ends (ends known own k) false n || b) (among_not c.committed-ends.result k c.committed-ends.type_inv below ∙ ap not (this known own h k below))
          ∙ sym (one_aborted (ends known own k) n);
    }

pub returns-clause-ends : goal.returns-clause-ends
returns-clause-ends c =
    λ known own h.
    let size = (c.participants-log-items.ensures h.enough).0 in
    let all : c.loop-log.log-index ≡ c.args.participants = omega (arith, size) in
    record {
      committed = λ k below.
          c.loop-log.invariant.committed known own h k below
          ∙ ap (λ (n : ℕ). some_ends (λ p. is_committed known (own p) (c.args.first + k)) true n) all;
      aborted = λ k below.
          c.loop-log.invariant.aborted known own h k below
          ∙ ap (λ (n : ℕ). some_ends (λ p. is_committed known (own p) (c.args.first + k)) false n) all;
      told_so = c.set_of.ensures;
    }
