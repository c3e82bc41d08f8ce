use Rattle.std.proofs.Common.{◌≡◌, ◌∙◌, ◌++◌, List, ℕ, append_assoc, ap, codes, string_bytes}
use Rattle.std.proofs.lemmas.Result.{on_ok_weaker}
use Rattle.report.proofs.ReportedLines.{on_ok_if}
use Rattle.outside_campaign.proofs.partial.write_failure.Goals as goal

regrouped : (o l n s t v : List ℕ) → ((((o ++ l) ++ n) ++ s) ++ t) ++ v ≡ o ++ (l ++ (((n ++ s) ++ t) ++ v))
regrouped o l n s t v = simp append_assoc

-- five texts behind another, one after the other
joined : (o l n s t v x y z u w : List ℕ) → x ≡ o ++ l → y ≡ x ++ n → z ≡ y ++ s → u ≡ z ++ t → w ≡ u ++ v → w ≡ o ++ (l ++ (((n ++ s) ++ t) ++ v))
joined o l n s t v x y z u w a b d e f =
    f ∙ ap (λ k. k ++ v) (e ∙ ap (λ k. k ++ t) (d ∙ ap (λ k. k ++ s) (b ∙ ap (λ k. k ++ n) a))) ∙ regrouped o l n s t v

pub returns : goal.returns
returns c =
    on_ok_weaker c.push_str-3.result
    (λ h. joined _ (codes "first so far ") _ (codes " ") _ (codes "\n") _ _ _ _ _ c.in_ok-push_str.ensures.bytes c.in_ok-write_code.ensures c.in_ok-push_str-2.ensures.bytes
    c.in_ok-write_scenario.ensures.ok h)
    (on_ok_if c.push_str-3.result (string_bytes c.push_str-3.new.self) _ _ c.push_str-3.ensures.bytes)
