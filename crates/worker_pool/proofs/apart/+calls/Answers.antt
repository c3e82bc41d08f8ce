use Rattle.std.proofs.Common.{zero, suc, List, ◌∷◌, refl, sym, subst, arith}
use Rattle.worker_pool.specs.inside.Apart.{AcceptsAll, ChangesAll}
use Rattle.worker_pool.proofs.apart.+calls.Goals as goal

pub for_each_apart-call_both-requires-clause-rest : goal.for_each_apart-call_both-requires-clause-rest
for_each_apart-call_both-requires-clause-rest g t c κs within = λ k d lt.
    subst (AcceptsAll g.F.Fn c.args.f.now) c.in-Some.ensures.cases.0 c.requires (suc k) d (omega arith)

pub for_each_apart-returns-in-Some : goal.for_each_apart-returns-in-Some
unfolding ChangesAll
for_each_apart-returns-in-Some g t c =
    let P : List g.row.T.Denot → Type 0 = λ xs. ChangesAll g.F.Fn c.args.f.now xs (c.call_both.new.first ∷ c.call_both.new.rest) in
    subst P (sym c.in-Some.ensures.cases.0) at
  where
    at : ChangesAll g.F.Fn c.args.f.now (c.in-Some.first.now ∷ c.in-Some.rest.now) (c.call_both.new.first ∷ c.call_both.new.rest)
    at zero d lt = (refl, c.call_both.ensures.first)
    at (suc k) d lt = c.call_both.ensures.rest k d (omega arith)

pub for_each_apart-returns-in-None : goal.for_each_apart-returns-in-None
unfolding ChangesAll
for_each_apart-returns-in-None g t c = λ k d lt. absurd (omega (arith, c.in-None.ensures.cases))
