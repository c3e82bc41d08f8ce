-- What is still to be tried, by what answers tell.
use Rattle.std.proofs.Common.{◌≡◌, ◌++◌, ℕ, List, [], Result, Ok, Err, ap, sym, ◌∙◌, subst}
use Rattle.std.specs.Prelude.{IfErr, IsErrAnd}
use Rattle.scenario_values.specs.Scenario.{Entries}
use Rattle.action_eval.specs.declared.rig.Rig.{Rig}
use Rattle.plan_gen.specs.PlanList.{Asked}
use Rattle.answered_runs.specs.Answered.{Answered, known_plans}
use Rattle.answered_runs.specs.asked.Lines.{lines_for}
use Rattle.outside_campaign.proofs.Lines.{none_once}
use Rattle.answered_runs.specs.grown.Asked.{to_try}
use Rattle.answered_runs.specs.grown.Causes.{open_scenarios}
use Rattle.outside_campaign.specs.with_depth.Grown.{candidates, listed, or_else, untried}
use Rattle.outside_campaign.specs.declared.with_depth.candidates.Told.{Told}
use Rattle.outside_campaign.specs.with_depth.inside.Outcomes.{IsTold, open_candidates}

-- ---- faults

pub err_is : {T E : Type 0} (r : Result T E) (e : E) (P : E → Type 0) → IsErrAnd r (λ y. y ≡ e) → P e → IfErr r P
err_is (Ok x) e P is h = tt
err_is (Err y) e P is h = subst P (sym is) h

-- ---- candidates

asked_by : (a : Answered) (depth : ℕ) (asked : Asked) (plans : List Entries) (grew : List (List Rig)) → plans ≡ listed a depth asked → grew ≡ known_plans a depth
    → open_candidates a depth plans ++ open_scenarios a depth grew ≡ candidates a depth asked
asked_by a depth asked plans grew is known =
    ap (λ (ps : List Entries). open_candidates a depth ps ++ open_scenarios a depth grew) is
    ∙ ap (λ (g : List (List Rig)). open_candidates a depth (listed a depth asked) ++ open_scenarios a depth g) known

told_none : (a : Answered) (depth : ℕ) (plans : List Entries) (grew : List (List Rig)) (told : Told) → IsTold a depth plans grew told
    → open_candidates a depth plans ++ open_scenarios a depth grew ≡ []
told_none a depth plans grew told h = ap (λ (xs : List Entries). xs ++ open_scenarios a depth grew) h.none_open ∙ h.none_lesser

pub none_asked : (a : Answered) (depth : ℕ) (asked : Asked) (plans : List Entries) (grew : List (List Rig)) (told : Told) (lines : List (List ℕ)) → IsTold a depth plans grew told
    → plans ≡ listed a depth asked → grew ≡ known_plans a depth → lines ≡ [] → lines ≡ lines_for (candidates a depth asked)
none_asked a depth asked plans grew told lines h is known empty =
    empty ∙ ap lines_for (sym (told_none a depth plans grew told h) ∙ asked_by a depth asked plans grew is known)

pub requests_asked : (a : Answered) (depth : ℕ) (asked : Asked) (plans : List Entries) (grew : List (List Rig)) (requests slice : List Entries) (lines : List (List ℕ))
    → requests ≡ open_candidates a depth plans ++ open_scenarios a depth grew → plans ≡ listed a depth asked → grew ≡ known_plans a depth → slice ≡ requests → lines ≡ lines_for slice
    → lines ≡ lines_for (candidates a depth asked)
requests_asked a depth asked plans grew requests slice lines h is known same asks = asks ∙ ap lines_for (same ∙ h ∙ asked_by a depth asked plans grew is known)

-- ---- the text

pub none_to_try : (a : Answered) (depth : ℕ) (asked asks : Asked) (keys : List (List ℕ)) → asks ≡ asked → keys ≡ lines_for (to_try a depth asks) → keys ≡ [] → to_try a depth asked ≡ []
none_to_try a depth asked asks keys same is empty = ap (to_try a depth) (sym same) ∙ none_once (to_try a depth asks) (sym is ∙ empty)

pub others_asked : (a : Answered) (depth : ℕ) (asked : Asked) (lines : List (List ℕ)) → to_try a depth asked ≡ [] → lines ≡ lines_for (candidates a depth asked)
    → lines ≡ lines_for (untried a depth asked)
others_asked a depth asked lines none is = is ∙ ap (λ (first : List Entries). lines_for (or_else first (candidates a depth asked))) (sym none)
