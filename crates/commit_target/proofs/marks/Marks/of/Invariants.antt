use Rattle.std.proofs.Common.{◌≡◌, take, length}
use Rattle.commit_target.specs.inside.Marks.{AreMarks}
use Rattle.commit_target.proofs.marks.Marks.of.Given as goal

abbrev pub invariant-loop-record : goal.invariant-loop-record
invariant-loop-record l = record { kinds : length l.sets ≡ 4; marks : AreMarks l.sets (take l.record-index l.log) l.first }
