use Rattle.std.proofs.Common.{◌+◌, ◌≤◌, length, arith}
use Rattle.maildir_target.proofs.Readying.{ready_now}
use Rattle.maildir_target.proofs.Writing.{at_chunk, played_none, played_between}
use Rattle.maildir_target.specs.Steps.{Over}
use Rattle.maildir_target.specs.inside.Seen.{tally_at}
use Rattle.maildir_target.proofs.write.write_some.Goals as goal

pub append_between-requires-clause-there : goal.append_between-requires-clause-there
append_between-requires-clause-there g c =
    let here = at_chunk _ _ _ (tally_at c.args.delivery.now c.args.mailbox.now Over) _ _ _ c.requires.place c.requires.at in
    ready_now g.D.Device.names g.met.D.Device.led _ _ _ _ _ here

pub write_one-requires : goal.write_one-requires
write_one-requires g c =
    let here = played_none c.requires.at _ _ c.if-passed-eq0.true _ c.in_ok-passed.ensures.ok in
    record { place = c.requires.place; named = c.requires.named; at = at_chunk _ _ _ (tally_at c.args.delivery.now c.args.mailbox.now Over) _ _ _ c.requires.place here }

pub returns-clause-leads : goal.returns-clause-leads
returns-clause-leads g c =
    let few : c.args.at + c.in_ok-passed.passed ≤ length c.args.delivery.now.chunks.now = omega (arith, c.in_ok-passed.ensures.count, c.at_once-count.ensures.few, c.len.ensures) in
    played_between _ _ _ (tally_at c.args.delivery.now c.args.mailbox.now Over) _ _ _ _ c.requires.at few _
    c.in_ok-passed.ensures.ok c.in_ok-passed.ensures.told c.in_ok-passed.ensures.goes_on _ c.in_ok-append_between.ensures
