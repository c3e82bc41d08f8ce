-- A run that somebody ended is one of a component.
use Rattle.std.proofs.Common.{◌≡◌, Bool, true, false, cond, List, [], ◌∷◌, Some, None, refl, sym, subst, arith}
use Rattle.std.specs.Prelude.{IfSome}
use Rattle.std.specs.Str.{bytes_eq}
use Rattle.std.proofs.lemmas.Slice.Eq.{bytes_eq-Decides}
use Rattle.scenario_values.specs.Printed.{printed}
use Rattle.scenario_values.specs.Scenario.{Entries, IsScenario}
use Rattle.action_eval.specs.Answers.{Reply, Go, Return, Halt}
use Rattle.action_eval.specs.RiggedScenario.{rig, rigged_scenario}
use Rattle.action_eval.specs.declared.rig.Kind.TheVariants.{OnceReturn}
use Rattle.action_eval.proofs.Rigged.{rigged_scenario_keeps}
use Rattle.target_trait.specs.declared.judgement.Verdict.TheVariants.{Pass, Unresolved}
use Rattle.target_trait.specs.Play.{AsksWithin}
use Rattle.target_trait.specs.Outcomes.{play}
use Rattle.answer_text.specs.Hits.{stretch}
use Rattle.answer_text.specs.Runs.{told_run, run_line, first_told}
use Rattle.answer_text.specs.declared.runs.ToldRun.{ToldRun}
use Rattle.answer_text.proofs.Members.{same_printed}
use Rattle.grown_plans.specs.GrownPlans.{cut_point}
use Rattle.grown_plans.specs.Promises.{IsLawful}
use Rattle.grown_plans.proofs.KeptChildren.{usual_apart, usual_once, usual_texts}
use Rattle.answered_runs.specs.Components.{AgreesWithRuns, IsComponent, IsTrueRun}
use Rattle.answered_runs.specs.EndedRuns.{ended_asks, ended_component, ended_told, one_return, two_points}

asks_within : (answers : List Reply) → AsksWithin 2 (ended_asks answers)
asks_within [] = omega arith
asks_within (Go ∷ []) = omega arith
asks_within (Go ∷ (second ∷ later)) = tt
asks_within (Return text ∷ later) = tt
asks_within (Halt ∷ later) = tt

lawful : IsLawful ended_component
lawful = record {
  catalogue = record {
    some = omega arith;
    few = omega arith;
    short = (omega arith, (omega arith, tt));
    lawful = (refl, (refl, tt));
    distinct = ((refl, tt), (tt, tt));
  };
  within = asks_within;
  once = usual_once (cut_point two_points);
  apart = usual_apart (cut_point two_points);
  texts = usual_texts (cut_point two_points);
}

pub is_component : IsComponent two_points [] ended_component
is_component = record { lawful = lawful; names = refl; kinds = refl; few = omega arith }

abbrev none_told : ToldRun
none_told = told_run 1 (run_line [] Pass (Some (stretch 0 1 ∷ (stretch 1 1 ∷ []))))

abbrev return_told : ToldRun
return_told = told_run 2 (run_line one_return Unresolved (Some (stretch 0 1 ∷ [])))

none_true : IsTrueRun ended_component [] none_told
unfolding play
none_true = record { verdict = λ seed stream. refl; hits = λ seed stream. refl }

return_true : IsTrueRun ended_component one_return return_told
unfolding play
return_true = record { verdict = λ seed stream. refl; hits = λ seed stream. refl }

none_scenario : IsScenario []
unfolding rigged_scenario
none_scenario = rigged_scenario_keeps two_points [] lawful.catalogue (omega arith) tt tt

return_scenario : IsScenario one_return
unfolding rigged_scenario
return_scenario =
    rigged_scenario_keeps two_points (rig (record { point = 0; hit = 1 }) (OnceReturn None) ∷ []) lawful.catalogue (omega arith) (omega arith, tt) (tt, tt)

pub agrees : AgreesWithRuns ended_component ended_told
unfolding first_told
agrees s is certain = first_line (bytes_eq (printed s) (printed [])) refl
  where
    second_line : (b : Bool) → bytes_eq (printed s) (printed one_return) ≡ b → IfSome (cond b (Some return_told) None) (IsTrueRun ended_component s)
    second_line true e =
        subst (λ (x : Entries). IsTrueRun ended_component x return_told)
        (sym (same_printed s one_return is return_scenario ((bytes_eq-Decides (printed s) (printed one_return)).0 e))) return_true
    second_line false e = tt

    first_line : (b : Bool) → bytes_eq (printed s) (printed []) ≡ b
        → IfSome (cond b (Some none_told) (cond (bytes_eq (printed s) (printed one_return)) (Some return_told) None)) (IsTrueRun ended_component s)
    first_line true e =
        subst (λ (x : Entries). IsTrueRun ended_component x none_told)
        (sym (same_printed s [] is none_scenario ((bytes_eq-Decides (printed s) (printed [])).0 e))) none_true
    first_line false e = second_line (bytes_eq (printed s) (printed one_return)) refl
