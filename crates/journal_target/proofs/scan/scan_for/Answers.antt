use Rattle.std.proofs.Common.{rules, ◌≡◌, take, drop, arith, sym}
use Rattle.std.proofs.lemmas.Slice.Zip.{either_empty_from_Zip}
use Rattle.journal_target.specs.File.{left, laid}
use Rattle.journal_target.specs.Recovery.{scanned, start}
use Rattle.journal_target.proofs.Scans.{SameFound, scanned_on, same_by, then_same, laid_kept, laid_lost, none_laid}
use Rattle.journal_target.proofs.scan.scan_for.Goals as goal

pub loop-size-init : goal.loop-size-init
loop-size-init c =
    let sizes : c.into_iter-size-iterator.result.a.rest.now ≡ c.args.file.now.pending = search rules in
    let keep : c.into_iter-size-iterator.result.b.rest.now ≡ c.args.kept.now = search rules in
    record {
      few = omega (arith, c.bytes-scan.ensures.few, c.split.ensures.few);
      same = same_by _ _ (cc (
        scanned_on c.args.transaction start (take c.args.file.now.synced c.args.file.now.bytes)
            (laid (drop c.args.file.now.synced c.args.file.now.bytes) c.args.file.now.pending c.args.kept.now),
        c.bytes-scan.ensures.is,
        c.split.ensures.lasting,
        c.split.ensures.rest,
        sizes,
        keep,
      ));
    }

pub loop-size-preserved-then-is_kept : goal.loop-size-preserved-then-is_kept
loop-size-preserved-then-is_kept c =
    let turn = c.in-Some.ensures.steps in
    let step = laid_kept c.args.transaction c.loop-size.scan c.loop-size.rest.now c.in-Some.size.now c.next.new.self.a.rest.now c.next.new.self.b.rest.now in
    record {
      few = omega (arith, c.loop-size.invariant.few, c.bytes-scan-then-is_kept.ensures.few, c.split_front.ensures.all);
      same = then_same _ _ _ c.loop-size.invariant.same (same_by _ _ (cc (step, turn.0, turn.1, c.if-is_kept.true, c.bytes-scan-then-is_kept.ensures.is, c.split_front.ensures.front, c.split_front.ensures.behind)));
    }

pub loop-size-preserved : goal.loop-size-preserved
loop-size-preserved c =
    let turn = c.in-Some.ensures.steps in
    let step = laid_lost c.args.transaction c.loop-size.scan c.loop-size.rest.now c.in-Some.size.now c.next.new.self.a.rest.now c.next.new.self.b.rest.now c.requires in
    record {
      few = omega (arith, c.loop-size.invariant.few, c.zeros-scan.ensures.same, c.split_front.ensures.all);
      same = then_same _ _ _ c.loop-size.invariant.same (then_same _ _ _ (same_by _ _ (cc (turn.0, turn.1, c.if-is_kept.false)))
          (then_same _ _ _ step (same_by _ _ (cc (c.zeros-scan.ensures.is c.args.transaction c.requires, c.split_front.ensures.behind)))));
    }

found : (c : goal.In-None) → SameFound (scanned c.args.transaction start (left c.args.file.now c.args.kept.now)) c.loop-size.scan
found c = then_same _ _ _ c.loop-size.invariant.same (none_laid c.args.transaction c.loop-size.scan c.loop-size.rest.now
    c.loop-size.size-iterator.a.rest.now c.loop-size.size-iterator.b.rest.now (either_empty_from_Zip c.loop-size.size-iterator c.next.new.self c.next.result c.in-None.is c.next.ensures.steps))

pub returns-clause-whole : goal.returns-clause-whole
returns-clause-whole c = sym (found c).whole

pub returns-clause-committed : goal.returns-clause-committed
returns-clause-committed c = sym (found c).committed
