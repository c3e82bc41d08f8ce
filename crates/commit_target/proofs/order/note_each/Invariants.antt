use Rattle.std.proofs.Common.{◌≡◌, ◌+◌, ◌-◌}
use Rattle.commit_target.specs.inside.Held.{noted_each}
use Rattle.commit_target.proofs.order.note_each.Given as goal

abbrev pub invariant-loop-number : goal.invariant-loop-number
invariant-loop-number l = noted_each l.manner l.entry l.number (l.first + l.count - l.number) l.order.items ≡ noted_each l.manner l.entry l.first l.count l.fn.order.items
