use Rattle.std.proofs.Common.{ℕ, arith}
use Rattle.std.proofs.lemmas.Option.{slice_get_within}
use Rattle.answered_runs.specs.declared.tree.Next.TheVariants.{Hit}
use Rattle.answered_runs.specs.declared.tree.Said.{Said}
use Rattle.answered_runs.specs.declared.saying.SeenRun.{SeenRun}
use Rattle.answered_runs.proofs.GoingOn.{follows_new, follows_old}
use Rattle.answered_runs.proofs.saying.go_along.Goals as goal

abbrev hit_of : SeenRun → ℕ → Said
hit_of run point = record { line = run.line; next = Hit point }

pub returns-then-ends_with-clause-along : goal.returns-then-ends_with-clause-along
returns-then-ends_with-clause-along c =
    let few = c.in_ok-count.ensures.count in
    let last = c.ends_with.ensures c.if-ends_with.true in
    record {
      hits = λ m less. c.count_alike-most.ensures.alike m (omega (arith, less, few));
      follows =
          follows_new c.in_ok-count.field-0 c.args.tree.now c.go_on.new.self c.args.place (hit_of c.args.run.now c.args.point) last.0
          (c.in_ok-go_on.ensures.ok c.args.place (hit_of c.args.run.now c.args.point) last.0 last.1);
      played = c.in_ok-count.ensures.ok;
      go = c.in_ok-count.ensures.told;
    }

pub returns-then-ends_with-clause-fits : goal.returns-then-ends_with-clause-fits
returns-then-ends_with-clause-fits c = c.in_ok-go_on.ensures.fits c.args.place (c.ends_with.ensures c.if-ends_with.true).0

pub along-most-requires : goal.along-most-requires
along-most-requires c = slice_get_within c.args.tree.now.said c.args.place c.requires.place.said c.requires.place.at

pub returns-clause-along : goal.returns-clause-along
returns-clause-along c =
    let few = c.in_ok-count-2.ensures.count in
    let most = c.along-most.ensures.few in
    record {
      hits = λ m less. c.count_alike-most.ensures.alike m (omega (arith, less, few, most));
      follows =
          follows_old c.in_ok-count-2.count c.args.tree.now c.args.place (hit_of c.args.run.now c.args.point) c.requires.place
          (λ m less. c.along-most.ensures.alike m (omega (arith, less, few)));
      played = c.in_ok-count-2.ensures.ok;
      go = c.in_ok-count-2.ensures.told;
    }
