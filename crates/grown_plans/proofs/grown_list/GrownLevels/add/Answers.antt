use Rattle.std.proofs.Common.{rules, refl}
use Rattle.grown_plans.proofs.Grows.{more_levels, too_many}
use Rattle.grown_plans.proofs.grown_list.GrownLevels.add.Goals as goal

pub returns-in_err-add_all-clause-many : goal.returns-in_err-add_all-clause-many
returns-in_err-add_all-clause-many c = λ is level n were grows.
    too_many level n c.args.most c.args.self.now c.args.children.now were grows (c.in_err-add_all.ensures.many (search (is, rules)))

pub returns-clause-levels : goal.returns-clause-levels
returns-clause-levels c = λ level n were grows.
    more_levels level n _ c.args.self.now _ c.args.children.now were grows c.in_ok-add_all.ensures.added c.len-end.ensures refl c.in_ok-push_size.ensures
