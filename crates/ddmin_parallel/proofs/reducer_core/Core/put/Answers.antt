use Rattle.std.proofs.Common.{sym, subst, ◌≡◌, ℕ, Bool, List, Result, Ok, Err, OnOk, OnErr}
use Rattle.ddmin_parallel.specs.CoreEvents.{position}
use Rattle.ddmin_parallel.specs.declared.reducer_core.Progress.{Progress}
use Rattle.ddmin_parallel.specs.inside.Searches.{IsSettled}
use Rattle.ddmin_parallel.specs.inside.Stages.{position_of}
use Rattle.ddmin_parallel.proofs.CoreLemmas.{IsGood, good_lawful, good_small, good_settled}
use Rattle.ddmin_parallel.proofs.reducer_core.Core.put.Goals as goal

pub settle-requires-clause-lawful : goal.settle-requires-clause-lawful
unfolding position
settle-requires-clause-lawful c =
    let i = c.self.invariant in
    good_lawful c.self.inside.faults c.self.inside.progress.known c.self.inside.progress.out.items (position_of c.self.inside.progress.stage)
    (record { few = i.few; stands = i.stands; open_sets = i.open_sets })

pub settle-requires-clause-small : goal.settle-requires-clause-small
unfolding position
settle-requires-clause-small c =
    let i = c.self.invariant in
    good_small c.self.inside.faults c.self.inside.progress.known c.self.inside.progress.out.items (position_of c.self.inside.progress.stage)
    (record { few = i.few; stands = i.stands; open_sets = i.open_sets })

-- whether it was put or not
after : {E : Type 0} (r : Result (Unit {0}) E) (faults : ℕ) (p p' : Progress) (s : List ℕ) (b : Bool)
    → IsGood faults p.known p.out.items (position_of p.stage) → OnOk r (IsSettled p s b p') → OnErr r (p' ≡ p)
    → IsGood faults p'.known p'.out.items (position_of p'.stage)
after (Ok u) faults p p' s b good ok err = good_settled faults p s b p' good ok
after (Err e) faults p p' s b good ok err = subst (λ q. IsGood faults q.known q.out.items (position_of q.stage)) (sym err) good

pub invariant_of-self : goal.invariant_of-self
unfolding position
invariant_of-self c =
    let i = c.self.invariant in
    let good = after c.settle.result c.self.inside.faults c.self.inside.progress c.settle.new.self c.args.request c.args.fails
    (record { few = i.few; stands = i.stands; open_sets = i.open_sets }) c.settle.ensures.ok c.settle.ensures.err in
    record { few = good.few; stands = good.stands; open_sets = good.open_sets; reached = c.settle.ensures.reached }
