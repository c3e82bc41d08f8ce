-- If two scenarios mean the same, so do the runs of a case under them.
use Rattle.std.proofs.Common.{◌≡◌, ℕ, zero, suc, cond, List, [], ◌∷◌, ◌++◌, ap, ◌∙◌}
use Rattle.scenario_values.specs.Scenario.{Entries}
use Rattle.action_eval.specs.Answers.{Run, Reply, run_of, hit, cuts_short}
use Rattle.action_eval.specs.SameMeaning.{Meaning, meaning, meaning_of}
use Rattle.target_trait.specs.declared.judgement.Judgement.TheVariants.{Kept}
use Rattle.target_trait.specs.Play.{Move, Ask, Done, Unknown, move_in}
use Rattle.target_trait.specs.Outcomes.{play, moved}
use Rattle.target_trait.specs.cut_laws.KeptSets.{run_of_case}

moved_same : (move : Move) (r q : Run) (f g : ℕ → Run) → meaning r ≡ meaning q → ((p : ℕ) → meaning (f p) ≡ meaning (g p)) → meaning (moved move r f) ≡ meaning (moved move q g)
moved_same (Ask p) r q f g ended further = further p
moved_same (Done j) r q f g ended further = ended
moved_same Unknown r q f g ended further = ended

module _ (asks : List Reply → Move) (names : List (List ℕ)) (seed stream limit : ℕ) (s t : Entries)
    (same : (hits : List ℕ) → meaning_of s names seed stream limit hits ≡ meaning_of t names seed stream limit hits) where
  played_same : (n : ℕ) (hits : List ℕ) → meaning (play n asks (run_of s names seed stream limit hits)) ≡ meaning (play n asks (run_of t names seed stream limit hits))
  unfolding play
  played_same zero hits = same hits
  played_same (suc n) hits =
      let r : Run = run_of s names seed stream limit hits in
      let q : Run = run_of t names seed stream limit hits in
      ap (λ (m : Meaning). meaning (moved (cond (cuts_short m.stop) (Done Kept) (asks m.replies)) r (λ p. play n asks (hit r p)))) (same hits)
      ∙ moved_same (move_in asks q) r q (λ p. play n asks (hit r p)) (λ p. play n asks (hit q p)) (same hits) (λ p. played_same n (hits ++ p ∷ []))

  pub same_run : meaning (run_of_case asks names seed stream limit s) ≡ meaning (run_of_case asks names seed stream limit t)
  same_run = played_same (suc limit) []
