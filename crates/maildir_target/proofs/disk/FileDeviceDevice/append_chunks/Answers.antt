use Rattle.std.proofs.Common.{take, drop, ◌-◌}
use Rattle.maildir_target.proofs.Writing.{chunks_appended}
use Rattle.maildir_target.proofs.disk.FileDeviceDevice.append_chunks.Goals as goal

pub returns : goal.returns
returns c = chunks_appended c.must_append.result _ _ (take (c.args.end - c.args.from) (drop c.args.from c.args.chunks.now)) _ _ c.between.ensures c.must_append.ensures.ok
