use Rattle.std.proofs.Common.{◌≡◌, ◌++◌, length, map}
use denote.Shadow.{shadow}
use denote.Text.{Utf8}
use Rattle.scenario_grammar.specs.Words.{cut_at_arrows}
use Rattle.scenario_grammar.proofs.cuts.cut_at_arrows.Given as goal

abbrev pub invariant-loop-front : goal.invariant-loop-front
invariant-loop-front l = shadow (Utf8 l.rest) × (map (λ x. x.now) l.parts.items ++ cut_at_arrows l.rest ≡ cut_at_arrows l.fn.text)

abbrev pub decreases-loop-front : goal.decreases-loop-front
decreases-loop-front l = length l.rest
