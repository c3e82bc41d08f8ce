use Rattle.std.proofs.Common.{ℕ, subst, sym, take}
use Rattle.std.specs.Prelude.{IsUtf8}
use Rattle.std.proofs.lemmas.Str.{IsUtf8-had}
use Rattle.action_eval.proofs.argument.Argument.as_str.Goals as goal

pub unreachable-requires : goal.unreachable-requires
unreachable-requires c =
    c.in-Err.ensures.cases.0 (subst (λ (n : ℕ). IsUtf8 (take n c.self.inside.bytes)) (sym c.from.ensures) (IsUtf8-had _ c.self.invariant.text))
