use Rattle.std.proofs.Common.{◌≡◌, ℕ, ◌+◌, ◌<◌, List, [], ◌∷◌, ◌++◌, All, map, take, get_or, length, ap, sym, ◌∙◌, subst}
use Rattle.std.proofs.lemmas.List.{map-append, take_more}
use Rattle.std.proofs.lemmas.List.Elements.{All-push}
use Rattle.scenario_values.specs.Scenario.{Entries}
use Rattle.target_trait.specs.declared.judgement.Verdict.{Verdict}
use Rattle.result_book.specs.Says.{input_says}
use Rattle.report.specs.Reports.{FindingFacts}
use Rattle.campaign_core.specs.Findings.{finding, ReducesToMinimal}
use Rattle.campaign_core.proofs.reporting.findings.Goals as goal

-- one more
more : (f : ℕ × ℕ → FindingFacts) (fs : List (ℕ × ℕ)) (i : ℕ) (all new : List FindingFacts) (x : FindingFacts) → i < length fs → new ≡ all ++ x ∷ []
    → all ≡ map f (take i fs) → x ≡ f (get_or fs i (0, 0))
    → new ≡ map f (take (i + 1) fs)
more f fs i all new x lt added so_far is =
    added ∙ ap (λ xs. xs ++ x ∷ []) so_far ∙ ap (λ y. map f (take i fs) ++ y ∷ []) is
    ∙ sym (ap (map f) (take_more fs i (0, 0) lt) ∙ map-append f (take i fs) (get_or fs i (0, 0) ∷ []))

pub loop-first-preserved : goal.loop-first-preserved
loop-first-preserved g c =
    let input = c.args.input.now in
    let say : ℕ → Entries → Verdict = input_says g.T.Target c.args.target.now input in
    let all : List FindingFacts = c.loop-first.all.items in
    record {
      found =
          more (finding say input.plans.now) c.args.firsts.now c.loop-first.first-index all c.push.new.self.items c.in_ok-found.found c.loop-first-test.true
          c.in_ok-push.ensures.items c.loop-first.invariant.found c.in_ok-found.ensures.found;
      minimal =
          subst (λ (xs : List FindingFacts). All (ReducesToMinimal say) xs) (sym c.in_ok-push.ensures.items)
          (All-push (ReducesToMinimal say) all c.in_ok-found.found c.loop-first.invariant.minimal c.in_ok-found.ensures.minimal);
    }
