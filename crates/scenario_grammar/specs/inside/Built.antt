-- What the stages of reading and printing keep.
use Rattle.std.specs.Prelude.{ℕ, List, ◌∷◌, Bool, true, false}
use Rattle.scenario_values.specs.declared.term.Term.{Term}
use Rattle.scenario_values.specs.Printed.{entry_text}
use Rattle.scenario_grammar.specs.declared.builder.Builder.{Builder}
use Rattle.scenario_grammar.specs.FirstFault.{Progress}

-- What was read by now.
abbrev pub progress : Builder → Progress
progress b = record { entries = b.entries.entries; pieces = b.pieces; faults = b.faults }

-- An entry, with a `;` before it unless it is the first.
abbrev pub entry_after : Bool → List ℕ × List Term → List ℕ
entry_after true e = entry_text e
entry_after false e = 59 ∷ entry_text e
