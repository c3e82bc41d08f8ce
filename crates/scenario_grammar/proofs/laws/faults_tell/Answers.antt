use Rattle.scenario_grammar.proofs.Answered.{no_fault, sound}
use Rattle.scenario_grammar.proofs.laws.faults_tell.Goals as goal

pub returns : goal.returns
returns c = record { spelled = no_fault; sound = sound }
