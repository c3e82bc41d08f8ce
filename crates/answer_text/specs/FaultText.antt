-- The line for each fault of a text of answers, without its line feed: what is wrong and, for most faults, what would be right. For example
-- `answers: line 1: no such verdict "passed"; verdicts are pass, unresolved, and fail with a code`. The wording is this project's own. Whoever has the
-- settings adds which codes or points there are.
use Rattle.std.specs.Prelude.{ℕ, List, ◌++◌, codes}
use Rattle.std.specs.Fmt.{decimal}
use Rattle.scenario_grammar.specs.FaultText.{kind_text}
use Rattle.answer_text.specs.declared.fault.LineFault.{LineFault}
use Rattle.answer_text.specs.declared.fault.LineFault.TheVariants.{NotEnded, NotUtf8, NoTab, UnknownVerdict, UnknownCode, ControlByte, Scenario, NoHits, UnknownPoint, BadCount, NotJoined, Contradicts}
use Rattle.answer_text.specs.declared.fault.AnswersFault.{AnswersFault}
use Rattle.answer_text.specs.declared.fault.AnswersFault.TheVariants as faults

abbrev pub fault_text : LineFault → List ℕ
fault_text NotEnded = codes "not ended; a line feed is missing, so the line may have been cut off: delete it"
fault_text NotUtf8 = codes "not UTF-8"
fault_text NoTab = codes "no tab; a verdict and a scenario are written with a tab between them"
fault_text (UnknownVerdict word) = codes "no such verdict \"" ++ word ++ codes "\"; verdicts are pass, unresolved, and fail with a code"
fault_text (UnknownCode name) = codes "no such code \"" ++ name ++ codes "\""
fault_text ControlByte = codes "a control character in the scenario; a scenario has none"
fault_text (Scenario kind entry term) = kind_text kind ++ codes " entry " ++ decimal entry ++ codes " term " ++ decimal term
fault_text NoHits = codes "no hits; with a depth they stand behind a second tab, or - if nobody knows them"
fault_text (UnknownPoint name) = codes "no such point \"" ++ name ++ codes "\""
fault_text BadCount = codes "bad count"
fault_text (NotJoined name) = codes "one point twice in a row; write it once with its count, such as 2*" ++ name
fault_text (Contradicts line) = codes "contradicts line " ++ decimal line ++ codes ", which answers the same scenario otherwise"

abbrev pub line_of : AnswersFault → List ℕ
line_of faults.TooLong = codes "answers: too long"
line_of (faults.Line number fault) = codes "answers: line " ++ decimal number ++ codes ": " ++ fault_text fault
line_of faults.Memory = codes "no memory"
