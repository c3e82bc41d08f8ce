-- The text of a twin's run is that of the target's.
use Rattle.std.proofs.Common.{◌≡◌, ap, ◌∙◌, ℕ, List}
use Rattle.action_eval.specs.Answers.{Given, given_of}
use Rattle.target_trait.specs.declared.case.Case.{Case}
use Rattle.report.proofs.ExplainedLemmas.Cases.{text_is}

pub twin_text_is : {S : Type 0} (names : List (List ℕ)) (told : S → Given → List ℕ) (case made : Case) (twin setup : S) (bytes text : List ℕ) → bytes ≡ text
    → text ≡ told twin (given_of case.scenario.now names case.seed case.stream case.max_hits) → case ≡ made → twin ≡ setup
    → bytes ≡ told setup (given_of made.scenario.now names made.seed made.stream made.max_hits)
twin_text_is names told case made twin setup bytes text same is of alike =
    text_is names (told twin) case made bytes text same is of
    ∙ ap (λ s. told s (given_of made.scenario.now names made.seed made.stream made.max_hits)) alike
