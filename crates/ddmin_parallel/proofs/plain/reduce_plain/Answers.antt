use Rattle.std.proofs.Common.{◌≡◌, ℕ, ◌*◌, ◌<◌, List, length, Bool, sym, ◌∙◌, ap, subst, arith, min, Option, Some, None}
use Rattle.std.proofs.lemmas.List.FromFn.{length-range_with_len}
use Rattle.ddmin_parallel.specs.Rounds.{Candidate, round}
use Rattle.ddmin_parallel.specs.Ddmin.{Fails, NoneFails, decide, Fits, ddmin2, ddmin, kept_after}
use Rattle.ddmin_parallel.specs.inside.Candidates.{found}
use Rattle.ddmin_parallel.proofs.Rounds.{rank_next}
use Rattle.ddmin_parallel.proofs.Minimal.{minimal_result}
use Rattle.ddmin_parallel.proofs.Steps.{one_left, on_failing, next_of, on_finer, finer_fits, on_end, ddmin_none, ddmin_empty, ddmin_begins, begins_fits}
use Rattle.ddmin_parallel.proofs.plain.reduce_plain.Goals as goal

pub returns-then-faults-eq0-clause-reduced : goal.returns-then-faults-eq0-clause-reduced
returns-then-faults-eq0-clause-reduced g c =
    ap (λ k. kept_after k 0) c.new.ensures.items ∙ sym (ap (ddmin (g.P.Probe.answers c.args.probe.now)) c.if-faults-eq0.true ∙ ddmin_none _)

pub returns-then-branch-clause-reduced : goal.returns-then-branch-clause-reduced
returns-then-branch-clause-reduced g c =
    ap (λ k. kept_after k 1) c.new-then-branch.ensures.items
    ∙ sym (ddmin_empty (g.P.Probe.answers c.args.probe.now) c.args.faults (omega arith) (sym c.in_ok-test.ensures.answer ∙ c.if-branch.true))

pub loop-alloc-init : goal.loop-alloc-init
loop-alloc-init g c =
    let answers = g.P.Probe.answers c.args.probe.now in
    let pos : 0 < c.args.faults = omega arith in
    let len = length-range_with_len 0 c.args.faults in
    record {
      setup = c.in_ok-test.ensures.setup;
      told = ap (λ k. ddmin2 answers k 2 1) c.in_ok-kept.ensures ∙ sym (ddmin_begins answers c.args.faults pos
          (sym c.in_ok-test.ensures.answer ∙ c.if-branch.false));
      fits = subst (λ k. Fits k 2) (sym c.in_ok-kept.ensures) (begins_fits c.args.faults pos);
      small = omega (arith, ap length c.in_ok-kept.ensures, len);
    }

-- what the round decided over the kept list, by the answers of the beginning
failed : (a a' : List ℕ → Bool) (kept now : List ℕ) (n tests looked : ℕ) (o : Option Candidate) (s t : Candidate)
    → a' ≡ a → now ≡ kept → found o looked ≡ decide a' (round now n) tests → o ≡ Some s → t ≡ s → decide a (round kept n) tests ≡ Fails t looked
failed a a' kept now n tests looked o s t same list is found_is view =
    let there : decide a' (round now n) tests ≡ decide a (round kept n) tests = ap (λ f. decide f (round now n) tests) same
    ∙ ap (λ k. decide a (round k n) tests) list in
    let here : found o looked ≡ Fails s looked = ap (λ o. found o looked) found_is in
    sym there ∙ sym is ∙ here ∙ ap (λ s. Fails s looked) (sym view)

none : (a a' : List ℕ → Bool) (kept now : List ℕ) (n tests looked : ℕ) (o : Option Candidate)
    → a' ≡ a → now ≡ kept → found o looked ≡ decide a' (round now n) tests → o ≡ None → decide a (round kept n) tests ≡ NoneFails looked
none a a' kept now n tests looked o same list is found_is =
    let there : decide a' (round now n) tests ≡ decide a (round kept n) tests = ap (λ f. decide f (round now n) tests) same
    ∙ ap (λ k. decide a (round k n) tests) list in
    sym there ∙ sym is ∙ ap (λ o. found o looked) found_is

pub loop-alloc-smaller-in-Some : goal.loop-alloc-smaller-in-Some
loop-alloc-smaller-in-Some g c =
    let i = c.loop-alloc.invariant in
    let a = g.P.Probe.answers in
    let is = failed (a c.args.probe.now) (a c.loop-alloc.probe) c.loop-alloc.kept.items c.as_slice.result.now c.loop-alloc.parts c.loop-alloc.tests
    c.in_ok-found.looked c.in_ok-found.found c.in-Some.attempt _ i.setup c.as_slice.ensures.value c.in_ok-found.ensures.decided c.in-Some.is
    c.attempt.view_is in
    let next = next_of (a c.args.probe.now) c.loop-alloc.kept.items c.loop-alloc.parts c.loop-alloc.tests _ c.in_ok-found.looked i.fits (omega arith) is in
    rank_next c.loop-alloc.kept.items c.attempt.inside.set.items c.loop-alloc.parts c.attempt.inside.parts next.shorter

pub loop-alloc-preserved-in-Some : goal.loop-alloc-preserved-in-Some
loop-alloc-preserved-in-Some g c =
    let i = c.loop-alloc.invariant in
    let a = g.P.Probe.answers in
    let is = failed (a c.args.probe.now) (a c.loop-alloc.probe) c.loop-alloc.kept.items c.as_slice.result.now c.loop-alloc.parts c.loop-alloc.tests
    c.in_ok-found.looked c.in_ok-found.found c.in-Some.attempt _ i.setup c.as_slice.ensures.value c.in_ok-found.ensures.decided c.in-Some.is
    c.attempt.view_is in
    let next = next_of (a c.args.probe.now) c.loop-alloc.kept.items c.loop-alloc.parts c.loop-alloc.tests _ c.in_ok-found.looked i.fits (omega arith) is in
    let shorter : length c.attempt.inside.set.items < length c.loop-alloc.kept.items = next.shorter in
    record {
      setup = c.in_ok-found.ensures.setup ∙ i.setup;
      told = sym (on_failing (a c.args.probe.now) c.loop-alloc.kept.items c.loop-alloc.parts c.loop-alloc.tests _ c.in_ok-found.looked i.fits (omega arith) is)
          ∙ i.told;
      fits = next.fits;
      small = omega arith;
    }

pub returns-then-parts-len-clause-reduced : goal.returns-then-parts-len-clause-reduced
returns-then-parts-len-clause-reduced g c =
    let i = c.loop-alloc.invariant in
    let a = g.P.Probe.answers in
    let is = none (a c.args.probe.now) (a c.loop-alloc.probe) c.loop-alloc.kept.items c.as_slice.result.now c.loop-alloc.parts c.loop-alloc.tests
    c.in_ok-found.looked c.in_ok-found.found i.setup c.as_slice.ensures.value c.in_ok-found.ensures.decided c.in-None.is in
    sym (on_end (a c.args.probe.now) c.loop-alloc.kept.items c.loop-alloc.parts c.loop-alloc.tests c.in_ok-found.looked i.fits (omega arith) (omega arith) is)
    ∙ i.told

pub loop-alloc-preserved : goal.loop-alloc-preserved
loop-alloc-preserved g c =
    let i = c.loop-alloc.invariant in
    let a = g.P.Probe.answers in
    let is = none (a c.args.probe.now) (a c.loop-alloc.probe) c.loop-alloc.kept.items c.as_slice.result.now c.loop-alloc.parts c.loop-alloc.tests
    c.in_ok-found.looked c.in_ok-found.found i.setup c.as_slice.ensures.value c.in_ok-found.ensures.decided c.in-None.is in
    let lt : c.loop-alloc.parts < length c.loop-alloc.kept.items = omega arith in
    let finer : c.min-parts.result ≡ min (length c.loop-alloc.kept.items) (2 * c.loop-alloc.parts) = omega arith in
    record {
      setup = c.in_ok-found.ensures.setup ∙ i.setup;
      told = ap (λ n. ddmin2 (a c.args.probe.now) c.loop-alloc.kept.items n c.in_ok-found.looked) finer
          ∙ sym (on_finer (a c.args.probe.now) c.loop-alloc.kept.items c.loop-alloc.parts c.loop-alloc.tests c.in_ok-found.looked i.fits (omega arith) lt is)
          ∙ i.told;
      fits = subst (λ n. Fits c.loop-alloc.kept.items n) (sym finer) (finer_fits c.loop-alloc.kept.items c.loop-alloc.parts i.fits lt);
      small = i.small;
    }

pub returns-clause-reduced : goal.returns-clause-reduced
returns-clause-reduced g c =
    let i = c.loop-alloc.invariant in
    sym (one_left (g.P.Probe.answers c.args.probe.now) c.loop-alloc.kept.items c.loop-alloc.parts c.loop-alloc.tests i.fits (omega arith)) ∙ i.told

pub returns-then-parts-len-clause-one_minimal : goal.returns-then-parts-len-clause-one_minimal
returns-then-parts-len-clause-one_minimal g c = minimal_result (g.P.Probe.answers c.args.probe.now) c.args.faults _ (returns-then-parts-len-clause-reduced g c)

pub returns-clause-one_minimal : goal.returns-clause-one_minimal
returns-clause-one_minimal g c = minimal_result (g.P.Probe.answers c.args.probe.now) c.args.faults _ (returns-clause-reduced g c)
