use Rattle.std.proofs.Common.{take}
use Rattle.file_replace.specs.inside.Left.{left}
use Rattle.file_replace.proofs.Playing.{chunks_appended}
use Rattle.file_replace.proofs.disk.FileDeviceDevice.append_chunks.Goals as goal

pub returns : goal.returns
returns c = chunks_appended c.must_append.result _ _ (take c.args.count (left c.args.chunks)) _ _ _ c.split_at.ensures.bytes c.number.ensures c.must_append.ensures.ok
