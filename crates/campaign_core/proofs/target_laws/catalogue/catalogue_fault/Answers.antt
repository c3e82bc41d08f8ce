use Rattle.std.proofs.Common.{◌≡◌, ◌==◌, ◌<◌, ℕ, false, refl, arith}
use Rattle.std.proofs.lemmas.Bool.Decides.{nat_tests}
use borrow.Author.Count.{below_more}
use Rattle.action_eval.specs.Answers.{texts}
use Rattle.campaign_core.specs.target_laws.inside.Names.{IsLawfulAt}
use Rattle.campaign_core.proofs.TargetLawsLemmas.Names.{length_texts}
use Rattle.campaign_core.proofs.TargetLawsLemmas.NamesAt.{lawful_all}
use Rattle.campaign_core.proofs.target_laws.catalogue.catalogue_fault.Goals as goal

pub loop-place-preserved : goal.loop-place-preserved
loop-place-preserved c =
    below_more (λ (p : ℕ). IsLawfulAt (texts c.args.names.now) p) c.loop-place.place c.loop-place.invariant (c.in-None.ensures.only refl)

some_by : {m : ℕ} (n : ℕ) → m ≡ n → false ≡ (n == 0) → 0 < m
some_by n same some = grind (arith, nat_tests, same, some)

pub returns-clause-only : goal.returns-clause-only
returns-clause-only c = λ _. lawful_all (texts c.args.names.now) (some_by _ (length_texts c.args.names.now) c.if-is_empty.ensures) (omega (arith, length_texts c.args.names.now))
    (λ p less. c.loop-place.invariant p (omega (arith, length_texts c.args.names.now, c.loop-place-test.false)))
