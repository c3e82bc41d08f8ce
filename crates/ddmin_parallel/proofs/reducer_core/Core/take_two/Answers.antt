use Rattle.std.proofs.Common.{◌∙◌, ap, ◌≡◌, subst, sym}
use Rattle.ddmin_parallel.specs.CoreEvents.{position, furthest, start, next, option_then}
use Rattle.ddmin_parallel.specs.inside.Stages.{position_of}
use Rattle.std.specs.FinMap.{get}
use Rattle.std.proofs.lemmas.Result.{IfOk-weaker}
use Rattle.ddmin_parallel.specs.inside.CoreStates.{AreOpen}
use Rattle.ddmin_parallel.specs.inside.Inside.{state_of}
use Rattle.ddmin_parallel.specs.inside.Cursors.{is_among, next_at}
use Rattle.ddmin_parallel.proofs.CoreLemmas.{good_lawful, good_small, good_stuck, next_is, handed_open}
use Rattle.ddmin_parallel.proofs.reducer_core.Core.take_two.Goals as goal

pub hand_out-requires-clause-lawful : goal.hand_out-requires-clause-lawful
unfolding position
hand_out-requires-clause-lawful c =
    let i = c.self.invariant in
    good_lawful c.self.inside.faults c.self.inside.progress.known c.self.inside.progress.out.items (position_of c.self.inside.progress.stage)
    (record { few = i.few; stands = i.stands; open_sets = i.open_sets })

pub hand_out-requires-clause-small : goal.hand_out-requires-clause-small
unfolding position
hand_out-requires-clause-small c =
    let i = c.self.invariant in
    good_small c.self.inside.faults c.self.inside.progress.known c.self.inside.progress.out.items (position_of c.self.inside.progress.stage)
    (record { few = i.few; stands = i.stands; open_sets = i.open_sets })

pub hand_out-requires-clause-stuck : goal.hand_out-requires-clause-stuck
unfolding position
hand_out-requires-clause-stuck c =
    let i = c.self.invariant in
    good_stuck c.self.inside.faults c.self.inside.progress.known c.self.inside.progress.out.items (position_of c.self.inside.progress.stage)
    (record { few = i.few; stands = i.stands; open_sets = i.open_sets })

pub invariant_of-self : goal.invariant_of-self
unfolding position
invariant_of-self c =
    let i = c.self.invariant in
    let kept = c.hand_out.ensures.kept in
    record {
      few = i.few;
      stands = ap position_of kept.1 ∙ i.stands ∙ ap (λ k. furthest (get k) (start c.self.inside.faults)) (sym kept.0);
      open_sets = subst (λ k. AreOpen k c.hand_out.new.self.out.items) (sym kept.0) (handed_open (option_then (λ r. r.0)) c.hand_out.result c.self.inside.progress.known c.self.inside.progress.out.items c.hand_out.new.self.out.items
          (position_of c.self.inside.progress.stage) c.args.ahead
          i.open_sets c.hand_out.ensures.request c.hand_out.ensures.out c.hand_out.ensures.err);
      reached = c.hand_out.ensures.reached;
    }

pub returns-clause-request : goal.returns-clause-request
returns-clause-request c =
    let state = state_of c.self.inside in
    let p = position_of c.self.inside.progress.stage in
    IfOk-weaker c.hand_out.result (λ o. option_then (λ r. r.0) o ≡ next_at (get state.known) (is_among state.out) p c.args.ahead)
    (λ o. option_then (λ r. r.0) o ≡ next c.args.self.now c.args.ahead)
    (λ o is. next_is state c.args.ahead p (option_then (λ r. r.0) o) c.self.invariant.stands is ∙ ap (λ s. next s c.args.ahead) c.self.view_is)
    c.hand_out.ensures.request
