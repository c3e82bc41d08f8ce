use Rattle.std.proofs.Common.{◌≡◌, ◌++◌, take}
use Rattle.grown_plans.specs.Kept.{kept_of}
use Rattle.grown_plans.proofs.growing.add_listed.Given as goal

abbrev pub invariant-loop-kind : goal.invariant-loop-kind
invariant-loop-kind l = l.children.items ≡ l.fn.children.items ++ kept_of l.number l.site (take l.kind-index l.listed)
