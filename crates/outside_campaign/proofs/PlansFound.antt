-- What is found of plans that are looked at one after another.
use Rattle.std.proofs.Common.{◌≡◌, ℕ, ◌+◌, ◌≤◌, cond, List, [], ◌∷◌, ◌++◌, Option, None, Some, length, refl, ap, sym, ◌∙◌, arith, subst}
use Rattle.std.specs.Prelude.{is_some, slice_get, string_bytes}
use Rattle.std.specs.Option.{option_or}
use Rattle.std.proofs.lemmas.List.Concat.{flat_map-append}
use Rattle.std.proofs.lemmas.List.Sums.{count_by-le-length, sum_by-cons}
use Rattle.scenario_values.specs.Scenario.{Entries}
use Rattle.scenario_values.specs.Tidied.{tidied}
use Rattle.target_trait.specs.declared.judgement.Verdict.{Verdict}
use Rattle.report.specs.ReportText.{ended, text_of}
use Rattle.report.proofs.Written.{goes_on}
use Rattle.answer_text.specs.Known.{KnownVerdicts}
use Rattle.outside_campaign.specs.Partial.{answered_count, failure_of, first_so_far, known_line_of, known_lines, known_to_fail}
use Rattle.outside_campaign.specs.inside.Found.{IsAdded}
use Rattle.outside_campaign.specs.declared.partial.Found.{Found}

-- ---- the loop

-- with what the rest of the plans adds it is what is found of all
pub record IsLeft (code_name : ℕ → List ℕ) (known : KnownVerdicts) (plans rest : List Entries) (found : Found) : Type 0 where
  pub answered_is : found.answered + answered_count known rest ≡ answered_count known plans
  pub lines_are : string_bytes found.lines ++ text_of (known_lines code_name known rest) ≡ text_of (known_lines code_name known plans)
  pub first_is : option_or found.first (first_so_far known rest) ≡ first_so_far known plans

-- there is room to count one more
pub few_answered : (code_name : ℕ → List ℕ) (known : KnownVerdicts) (plans rest : List Entries) (found : Found) → IsLeft code_name known plans rest found → found.answered ≤ length plans
few_answered code_name known plans rest found left =
    let whole = left.answered_is in
    let most = count_by-le-length (λ (plan : Entries). is_some (known (tidied plan))) plans in
    omega (arith, whole, most)

first_of_both : (first : Option (ℕ × Entries)) (here later : List (ℕ × Entries)) → option_or (option_or first (slice_get here 0)) (slice_get later 0) ≡ option_or first (slice_get (here ++ later) 0)
first_of_both (Some f) here later = refl
first_of_both None [] later = refl
first_of_both None (f ∷ here) later = refl

pub adds : (code_name : ℕ → List ℕ) (known : KnownVerdicts) (plans rest more : List Entries) (plan : Entries) (old new : Found) → rest ≡ plan ∷ more → IsLeft code_name known plans rest old → IsAdded code_name plan (known (tidied plan)) old new
    → IsLeft code_name known plans more new
adds code_name known plans rest more plan old new is before added =
    let left = subst (λ (ps : List Entries). IsLeft code_name known plans ps old) is before in
    let v : Option Verdict = known (tidied plan) in
    let so_far = left.answered_is in
    let one = added.answered_is in
    let split = sum_by-cons (λ (p : Entries). cond (is_some (known (tidied p))) 1 0) plan more in
    record {
      answered_is = omega (arith, so_far, one, split);
      lines_are =
          goes_on (string_bytes old.lines) (string_bytes new.lines) (text_of (known_line_of code_name plan v)) (text_of (known_lines code_name known more)) (text_of (known_lines code_name known plans))
          (ap (λ (text : List ℕ). string_bytes old.lines ++ text) (sym (flat_map-append ended (known_line_of code_name plan v) (known_lines code_name known more))) ∙ left.lines_are) added.lines_are;
      first_is =
          ap (λ (first : Option (ℕ × Entries)). option_or first (first_so_far known more)) added.first_is
          ∙ first_of_both old.first (failure_of plan v) (known_to_fail known more) ∙ left.first_is;
    }
