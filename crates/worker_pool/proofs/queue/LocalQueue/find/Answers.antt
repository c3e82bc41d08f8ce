use Rattle.std.proofs.Common.{◌≡◌, ◌∙◌, Some, sym, subst}
use Rattle.worker_pool.proofs.Below.{below_found}
use Rattle.worker_pool.specs.inside.Queues.{NextBelow}
use Rattle.worker_pool.proofs.queue.LocalQueue.find.Goals as goal

pub returns-then-is_some-clause-below : goal.returns-then-is_some-clause-below
returns-then-is_some-clause-below g c = λ count below. below_found _ _ count below.0 c.pop-own.ensures.among

pub returns-clause-below : goal.returns-clause-below
returns-clause-below g c = λ count below.
    let e : c.args.self.now.next ≡ Some c.in-Some.next = sym c.pop-own.ensures.same.1 ∙ sym c.take.ensures.value ∙ c.in-Some.is in
    let next : NextBelow count (Some c.in-Some.next) = subst (NextBelow count) e below.1 in
    below_found _ _ count next c.steal-found.ensures.among
