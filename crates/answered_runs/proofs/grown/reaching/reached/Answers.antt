use Rattle.std.proofs.Common.{◌<◌, [], ℕ, List, length, ap, subst, sym, arith, get_or, refl}
use Rattle.action_eval.specs.declared.rig.Rig.{Rig}
use Rattle.answer_text.specs.Runs.{told_in}
use Rattle.grown_plans.specs.declared.grown_list.GrownList.{GrownList}
use Rattle.grown_runs.specs.known.KnownPart.{known_part}
use Rattle.answered_runs.specs.Answered.{runs_in}
use Rattle.answered_runs.proofs.Runs.{agree}
use Rattle.answered_runs.proofs.GrownLemmas.Most.{AreMostOf, all_raised, raised, reached_are}
use Rattle.answered_runs.proofs.grown.reaching.reached.Goals as goal

pub loop-number-preserved : goal.loop-number-preserved
loop-number-preserved c =
    let a = c.args.known.now.answered in
    let plans = c.args.known.now.list.plans in
    let n = c.loop-number.number in
    let less : n < length plans = omega (arith, c.loop-number-test.true, c.len-number-end.ensures, ap (λ (l : GrownList). length l.plans) c.list.ensures.same) in
    raised (runs_in a) plans n (length a.points) (get_or plans n []) c.loop-number.most.items c.raise_by.new.most.items less refl c.loop-number.invariant c.in_ok-raise_by.ensures.many c.in_ok-raise_by.ensures.most

pub returns-clause-known : goal.returns-clause-known
returns-clause-known c = λ t is agrees.
    let a = c.args.known.now.answered in
    let depth = c.args.known.now.depth in
    let plans = c.args.known.now.list.plans in
    let of_all : AreMostOf (runs_in a) plans (length a.points) c.loop-number.most.items =
    all_raised (runs_in a) plans c.loop-number.number (length a.points) c.loop-number.most.items
    (omega (arith, c.loop-number-test.false, c.len-number-end.ensures, ap (λ (l : GrownList). length l.plans) c.list.ensures.same)) c.loop-number.invariant
    in
    let of_known : AreMostOf (runs_in a) (known_part t depth (runs_in a)) (length t.names) c.loop-number.most.items =
    subst (λ (n : ℕ). AreMostOf (runs_in a) (known_part t depth (runs_in a)) n c.loop-number.most.items) (ap length (sym is.names))
    (subst (λ (ps : List (List Rig)). AreMostOf (runs_in a) ps (length a.points) c.loop-number.most.items) (c.list.ensures.known.known t is agrees).plans of_all)
    in
    reached_are t depth (runs_in a) c.loop-number.most.items is.lawful (agree t a.points a.listed (told_in a.book) depth is c.list.ensures.low agrees) of_known
