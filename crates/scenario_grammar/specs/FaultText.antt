-- A fault of a scenario text as text: its kind and its place, as in `BadPercent entry 1 term 2`.
use Rattle.std.specs.Prelude.{ℕ, List, ◌++◌, codes}
use Rattle.std.specs.Fmt.{decimal}
use Rattle.scenario_grammar.specs.declared.fault.Kind.{Kind}
use Rattle.scenario_grammar.specs.declared.fault.Kind.TheVariants as kinds
use Rattle.scenario_grammar.specs.declared.fault.ScenarioFault.{ScenarioFault}
use Rattle.scenario_grammar.specs.declared.fault.ScenarioFault.TheVariants as faults

abbrev pub kind_text : Kind → List ℕ
kind_text kinds.NoAction = codes "NoAction"
kind_text kinds.NoName = codes "NoName"
kind_text kinds.Parentheses = codes "Parentheses"
kind_text kinds.BadPercent = codes "BadPercent"
kind_text kinds.BadCount = codes "BadCount"
kind_text kinds.UnknownTask = codes "UnknownTask"
kind_text kinds.BadMillis = codes "BadMillis"
kind_text kinds.TooLong = codes "TooLong"
kind_text kinds.TooMany = codes "TooMany"

abbrev pub fault_text : ScenarioFault → List ℕ
fault_text faults.Memory = codes "no memory"
fault_text (faults.Bad kind entry term) = kind_text kind ++ codes " entry " ++ decimal entry ++ codes " term " ++ decimal term
