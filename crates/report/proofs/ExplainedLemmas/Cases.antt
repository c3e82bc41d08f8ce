-- The text of a run that was made is that of the case's run.
use Rattle.std.proofs.Common.{◌≡◌, ap, ◌∙◌, ℕ, List}
use Rattle.action_eval.specs.Answers.{Given, given_of}
use Rattle.target_trait.specs.declared.case.Case.{Case}

pub text_is : (names : List (List ℕ)) (told : Given → List ℕ) (case made : Case) (bytes text : List ℕ) → bytes ≡ text
    → text ≡ told (given_of case.scenario.now names case.seed case.stream case.max_hits) → case ≡ made
    → bytes ≡ told (given_of made.scenario.now names made.seed made.stream made.max_hits)
text_is names told case made bytes text same is of =
    same ∙ is ∙ ap (λ (k : Case). told (given_of k.scenario.now names k.seed k.stream k.max_hits)) of
