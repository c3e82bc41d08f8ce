-- What an exact reading says of the answers.
use Rattle.std.proofs.Common.{◌≡◌, ℕ, List, None, Result, Ok, Err, refl, ap, subst}
use Rattle.std.specs.Prelude.{IfOk, IfErr}
use Rattle.std.specs.Result.{result_err}
use Rattle.scenario_values.specs.declared.term.Term.{Term}
use Rattle.scenario_grammar.specs.declared.fault.ScenarioFault.{ScenarioFault}
use Rattle.scenario_grammar.specs.declared.fault.ScenarioFault.TheVariants as faults
use Rattle.scenario_grammar.specs.FirstFault.{Fault, Reads, reading}
use Rattle.scenario_values.specs.Scenario.{Entries}
use Rattle.scenario_grammar.specs.Spelling.{Spells, IsScenarioText}
use Rattle.scenario_grammar.specs.FirstFault.{Tells, fault}
use Rattle.scenario_values.specs.Scenario.{entries_of}
use Rattle.scenario_grammar.proofs.TextSound.{text_gives}
use Rattle.scenario_grammar.proofs.TextLaws.{text_is}

pub found_by : (text : List ℕ) (r : Result Entries ScenarioFault) → Reads (λ s. s) r (reading text) → IfOk r (λ s. Spells text s × (fault text ≡ None))
found_by text (Ok s) h = let g = text_gives text s h in (record { actions = g.0; writes = g.1; entries = g.3 }, ap (λ (r : Result Entries Fault). result_err r) h)
found_by text (Err e) h = tt

pub refused_by : (text : List ℕ) (r : Result Entries ScenarioFault) → Reads (λ s. s) r (reading text) → IfErr r (λ e. Tells e text)
refused_by text (Ok s) h = tt
refused_by text (Err faults.Memory) h = tt
refused_by text (Err (faults.Bad kind entry term)) h = ap (λ (r : Result Entries Fault). result_err r) h

pub only_by : (text : List ℕ) (r : Result Entries ScenarioFault) (actions : List (List ℕ × List Term)) → reading text ≡ Ok (entries_of actions) → Reads (λ s. s) r (reading text) → Reads (λ s. s) r (Ok (entries_of actions))
only_by text r actions e h = let P : Result Entries Fault → Type 0 = λ read. Reads (λ s. s) r read in subst P e h

no_err : (text : List ℕ) (r : Result Entries Fault) → reading text ≡ r → result_err r ≡ None → IsScenarioText text
no_err text (Ok s) e h = let g = text_gives text s e in (g.0, g.1, g.2)
no_err text (Err f) e h = absurd cc

pub no_fault : (text : List ℕ) → fault text ≡ None → IsScenarioText text
no_fault text h = no_err text (reading text) refl h

pub sound : (text : List ℕ) → IsScenarioText text → fault text ≡ None
sound text s = ap (λ (r : Result Entries Fault). result_err r) (text_is text s.0 s.1 s.2)
