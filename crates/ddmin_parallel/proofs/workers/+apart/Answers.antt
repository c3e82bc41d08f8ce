use Rattle.std.proofs.Common.{◌≡◌, ℕ, ◌+◌, Bool, List, [], ◌∷◌, ◌++◌, length, Option, Some, sym, ◌∙◌, ap, subst}
use Rattle.std.specs.Prelude.{Vec, IfSome, option_to_list}
use Rattle.std.specs.Global.{Global}
use Rattle.std.proofs.lemmas.List.{length_push}
use Rattle.std.proofs.lemmas.List.Elements.{All-pop, All-push}
use Rattle.std.proofs.lemmas.Result.{IfOk-at_ok}
use Rattle.ddmin_parallel.specs.Logs.{AreAnswers}
use Rattle.ddmin_parallel.specs.inside.Told.{AreBack}
use Rattle.ddmin_parallel.proofs.workers.+apart.Goals as goal

-- a worker more, with what it told
back_more : {P : Type 0} (answers : P → List ℕ → Bool) (workers rest : List P) (popped : Option P) (probe : P) (all : List (P × Vec (List ℕ × Bool) Global))
    (told : P × Vec (List ℕ × Bool) Global) → workers ≡ rest ++ option_to_list popped → popped ≡ Some probe → AreBack answers rest all
    → (answers told.0 ≡ answers probe) × AreAnswers (answers probe) told.1.items → AreBack answers workers (all ++ told ∷ [])
back_more answers workers rest popped probe all told cut is back own = (
  length_push all told ∙ ap (λ n. n + 1) back.0 ∙ sym (ap length (cut ∙ ap (λ o. rest ++ option_to_list o) is) ∙ length_push rest probe),
  λ test each.
      let both = All-pop (λ p. answers p ≡ test) workers rest popped cut each in
      let one : answers probe ≡ test = subst (λ o. IfSome o (λ p. answers p ≡ test)) is both.1 in
      All-push (λ r. (answers r.0 ≡ test) × AreAnswers test r.1.items) all told (back.1 test both.0)
      (own.0 ∙ one, subst (λ s. AreAnswers s told.1.items) one own.1),
)

pub returns : goal.returns
returns g t c =
    let answers = g.P.Probe.answers in
    let back = IfOk-at_ok (λ v. AreBack answers c.pop.new.self.items v.items) c.in_ok-all.was c.join-told.ensures.second in
    subst (AreBack answers c.args.workers.items) (sym c.in_ok-push.ensures.items)
    (back_more answers c.args.workers.items c.pop.new.self.items c.pop.result c.in-Some.probe c.in_ok-all.all.items c.join-told.result.0
    c.pop.ensures.items c.in-Some.is back c.join-told.ensures.first)
