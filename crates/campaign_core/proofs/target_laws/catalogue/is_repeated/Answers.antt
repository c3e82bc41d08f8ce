use Rattle.std.proofs.Common.{◌≡◌, ℕ, [], false, slice_index_or, ◌∙◌, sym, arith}
use Rattle.std.specs.Str.{bytes_eq}
use borrow.Author.Count.{below_more}
use Rattle.action_eval.specs.Answers.{texts}
use Rattle.campaign_core.proofs.TargetLawsLemmas.Names.{new_here, none_before}
use Rattle.campaign_core.proofs.target_laws.catalogue.is_repeated.Goals as goal

pub returns-then-eq-clause-lawful : goal.returns-then-eq-clause-lawful
returns-then-eq-clause-lawful c =
    λ is. sym c.if-eq.true ∙ c.eq.ensures ∙ none_before c.args.names.now c.args.place c.loop-earlier.earlier is (omega (arith, c.loop-earlier-test.true)) c.requires

pub loop-earlier-preserved : goal.loop-earlier-preserved
loop-earlier-preserved c =
    let names = texts c.args.names.now in
    below_more (λ (q : ℕ). bytes_eq (slice_index_or names q []) (slice_index_or names c.args.place []) ≡ false) c.loop-earlier.earlier c.loop-earlier.invariant
    (new_here c.args.names.now c.args.place c.loop-earlier.earlier (sym c.eq.ensures ∙ c.if-eq.false))

pub returns-clause-new : goal.returns-clause-new
returns-clause-new c = λ _ q less. c.loop-earlier.invariant q (omega (arith, c.loop-earlier-test.false))
