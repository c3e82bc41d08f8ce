use Rattle.std.proofs.Common.{◌≡◌, ◌++◌, ◌∷◌, take}
use Rattle.std.specs.List.{flat_map}
use Rattle.std.specs.String.{string_bytes}
use Rattle.scenario_values.specs.Printed.{term_text}
use Rattle.scenario_grammar.proofs.printing.write_chain.Given as goal

abbrev pub invariant-loop-t : goal.invariant-loop-t
invariant-loop-t l = string_bytes l.out ≡ string_bytes l.initial.out ++ flat_map (λ u. 45 ∷ 62 ∷ term_text u) (take l.t-index l.rest)
