-- Plans one after another, and what each run asks.
use Rattle.std.proofs.Common.{◌≡◌, ℕ, ◌<◌, List, length, sym, arith, subst}
use Rattle.std.specs.List.{AllByRecursion}
use Rattle.action_eval.specs.Answers.{Reply, Given}
use Rattle.action_eval.specs.Catalogue.{IsCatalogue}
use Rattle.target_trait.specs.Play.{Move, IsWithin}
use Rattle.target_trait.specs.Outcomes.{outcome}
use Rattle.target_trait.proofs.Moves.{asks_within}
use Rattle.grown_plans.specs.GrownPlans.{cut_point, usual_subject}
use Rattle.grown_plans.specs.Promises.{IsLawful}
use Rattle.grown_plans.proofs.Members.{all_weaker}
use Rattle.grown_plans.proofs.AskedSites.{asked_within}
use Rattle.grown_plans.proofs.KeptChildren.{usual_apart, usual_once, usual_texts}

pub usual_lawful : (asks : List Reply → Move) (names : List (List ℕ)) (limit : ℕ) → IsCatalogue names → ((answers : List Reply) → IsWithin (length names) (asks answers))
    → IsLawful (usual_subject asks names limit)
usual_lawful asks names limit lawful within = record {
  catalogue = lawful;
  within = λ answers. asks_within _ _ (within answers);
  once = usual_once (cut_point names);
  apart = usual_apart (cut_point names);
  texts = usual_texts (cut_point names);
}

-- each point that a run asks is below the most that a catalogue has
pub asked_few : (asks : List Reply → Move) (names : List (List ℕ)) (limit : ℕ) → IsCatalogue names → ((answers : List Reply) → IsWithin (length names) (asks answers))
    → (g : Given) (points : List ℕ) → points ≡ (outcome asks g).asked → AllByRecursion (λ p. p < 64) points
asked_few asks names limit lawful within g points is =
    subst (λ (ps : List ℕ). AllByRecursion (λ p. p < 64) ps) (sym is)
    (all_weaker (λ p. p < length names) (λ p. p < 64) (λ p lt. let few = lawful.few in omega (arith, lt, few)) (outcome asks g).asked
    (asked_within (usual_subject asks names limit) (usual_lawful asks names limit lawful within) g))
