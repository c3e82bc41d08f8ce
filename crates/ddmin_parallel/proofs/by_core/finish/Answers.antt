use Rattle.std.proofs.Common.{◌≡◌, sym, ◌∙◌, subst, rules}
use Rattle.std.proofs.lemmas.Result.{IfOk-weaker}
use Rattle.ddmin_parallel.specs.Ddmin.{ddmin}
use Rattle.ddmin_parallel.specs.Logs.{Tells}
use Rattle.ddmin_parallel.proofs.BoardLemmas.{tells_end}
use Rattle.ddmin_parallel.proofs.by_core.finish.Goals as goal

pub returns-in-Some-clause-reduced : goal.returns-in-Some-clause-reduced
returns-in-Some-clause-reduced g c =
    let i = c.loop.invariant in
    let test = g.P.Probe.answers c.args.probe.now in
    IfOk-weaker c.copied.result (λ r. r ≡ c.in-Some.reduction.now) (λ r. r ≡ ddmin test c.args.faults)
    (λ r is. is ∙ tells_end c.args.faults test c.loop.core c.in-Some.reduction.now i.tells c.in-Some.ensures) c.copied.ensures

pub loop-preserved : goal.loop-preserved
loop-preserved g c =
    let i = c.loop.invariant in
    let answers = g.P.Probe.answers in
    let was : Tells c.args.faults (answers c.loop.probe) c.loop.core = subst (λ t. Tells c.args.faults t c.loop.core) (sym i.setup) i.tells in
    record {
      setup = c.in_ok-answer_next.ensures.setup ∙ i.setup;
      tells = subst (λ t. Tells c.args.faults t c.answer_next.new.core) i.setup (c.in_ok-answer_next.ensures.tells c.args.faults was (search rules));
    }
