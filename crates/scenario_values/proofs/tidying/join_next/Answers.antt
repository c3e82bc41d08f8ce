use Rattle.std.proofs.Common.{sym, refl}
use Rattle.scenario_values.proofs.Chains.{joined_apart, joined_more}
use Rattle.scenario_values.proofs.tidying.join_next.Goals as goal

pub returns-in-Some : goal.returns-in-Some
returns-in-Some c rest = sym (joined_more c.args.done.now.items _ _ rest c.args.last c.args.next.now c.in-Some.count refl (sym c.in-Some.ensures) refl)

pub returns-in_ok-push-in-None : goal.returns-in_ok-push-in-None
returns-in_ok-push-in-None c rest = rw (c.in_ok-push-in-None.ensures.items, c.in_ok-copy-in-None.ensures) (sym (joined_apart c.args.done.now.items _ _ rest c.args.last c.args.next.now refl (sym c.in-None.ensures) refl))
