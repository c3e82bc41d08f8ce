use Rattle.std.proofs.Common.{◌<◌, ℕ}
use Rattle.action_eval.specs.Answers.{texts}
use Rattle.campaign_core.specs.target_laws.inside.Names.{IsLawfulAt}
use Rattle.campaign_core.proofs.target_laws.catalogue.catalogue_fault.Given as goal

abbrev pub invariant-loop-place : goal.invariant-loop-place
invariant-loop-place l = (p : ℕ) → p < l.place → IsLawfulAt (texts l.names) p
