-- Verdicts of plays, and plays of scenarios of the same meaning.
use Rattle.std.proofs.Common.{◌≡◌, ℕ, zero, suc, ◌+◌, ◌≤◌, cond, List, [], ◌∷◌, ◌++◌, length, refl, ap, sym, ◌∙◌, Option, Some, None}
use Rattle.scenario_values.specs.Scenario.{Entries}
use Rattle.action_eval.specs.declared.answer.Stop.{Stop}
use Rattle.action_eval.specs.declared.answer.Stop.TheVariants as stop
use Rattle.action_eval.specs.Answers.{Given, Run, Reply, given_of, run_of, hit, replies, stopped, cuts_short}
use Rattle.action_eval.specs.SameMeaning.{Meaning, MeansTheSame, meaning_of}
use Rattle.target_trait.specs.declared.judgement.Judgement.{Judgement}
use Rattle.target_trait.specs.declared.judgement.Verdict.{Verdict}
use Rattle.target_trait.specs.declared.judgement.Verdict.TheVariants as verdict
use Rattle.target_trait.specs.declared.judgement.Judgement.TheVariants.{Kept}
use Rattle.target_trait.specs.Play.{Move, Ask, Done, Unknown, IsCutPlay, move_in}
use Rattle.target_trait.specs.Outcomes.{play, moved, Told, told, outcome, verdict_of, verdict_with, whole_play, SameVerdicts}
use Rattle.target_trait.proofs.Plays.{told_is, judged_so}

-- the verdict of a case is that of its outcome
pub verdict_is : (asks : List Reply → Move) (names : List (List ℕ)) (seed limit stream : ℕ) (scenario : Entries)
    → verdict_with asks names seed limit stream scenario ≡ (outcome asks (given_of scenario names seed stream limit)).verdict
unfolding verdict_with
verdict_is asks names seed limit stream scenario = refl

-- what is judged of a whole run is the verdict of its case
pub verdict_told : (asks : List Reply → Move) (names : List (List ℕ)) (seed limit stream : ℕ) (scenario : Entries) (r : Run) (j : Judgement) (stop : Option Stop) (v : Verdict)
    → r.given ≡ given_of scenario names seed stream limit → IsCutPlay asks r j → length r.hits ≤ r.given.limit + 1 → v ≡ verdict_of stop (Done j) → stop ≡ stopped r
    → v ≡ verdict_with asks names seed limit stream scenario
verdict_told asks names seed limit stream scenario r j stop v given is few judged stops =
    judged ∙ ap (λ s. verdict_of s (Done j)) stops ∙ judged_so asks r j is
    ∙ ap (λ (t : Told). t.verdict) (told_is asks r j (given_of scenario names seed stream limit) given is few)
    ∙ sym (verdict_is asks names seed limit stream scenario)

-- What a run returns, by its meaning.
told_by : (List Reply → Move) → Meaning → Told
told_by asks m = record { verdict = verdict_of m.stop (asks m.replies); asked = m.asked; notes = m.notes; millis = m.millis; words = m.words }

moved_same : (asks : List Reply → Move) (m : Move) (r q : Run) (f g : ℕ → Run)
    → told asks r ≡ told asks q → ((p : ℕ) → told asks (f p) ≡ told asks (g p)) → told asks (moved m r f) ≡ told asks (moved m q g)
moved_same asks (Ask p) r q f g ended further = further p
moved_same asks (Done j) r q f g ended further = ended
moved_same asks Unknown r q f g ended further = ended

unknown_so : (s : Option Stop) → verdict_of s Unknown ≡ verdict.Unresolved
unknown_so None = refl
unknown_so (Some stop.Panic) = refl
unknown_so (Some stop.Paused) = refl
unknown_so (Some stop.Limit) = refl

-- an end that nobody knows is unresolved
pub unknown_unresolved : (asks : List Reply → Move) (g : Given) → asks (replies (whole_play asks g)) ≡ Unknown → (outcome asks g).verdict ≡ verdict.Unresolved
unknown_unresolved asks g e = ap (verdict_of (stopped (whole_play asks g))) e ∙ unknown_so (stopped (whole_play asks g))

-- under these the two scenarios mean the same
record Alike (s t : Entries) (names : List (List ℕ)) (seed stream limit : ℕ) : Type 0 where
  at : (hits : List ℕ) → meaning_of s names seed stream limit hits ≡ meaning_of t names seed stream limit hits

played_same : (asks : List Reply → Move) (names : List (List ℕ)) (seed stream limit : ℕ) (s t : Entries) → Alike s t names seed stream limit → (n : ℕ) (hits : List ℕ)
    → told asks (play n asks (run_of s names seed stream limit hits)) ≡ told asks (play n asks (run_of t names seed stream limit hits))
unfolding play told_by
played_same asks names seed stream limit s t same zero hits = ap (told_by asks) (same.at hits)
played_same asks names seed stream limit s t same (suc n) hits =
    let r : Run = run_of s names seed stream limit hits in
    let q : Run = run_of t names seed stream limit hits in
    ap (λ (m : Meaning). told asks (moved (cond (cuts_short m.stop) (Done Kept) (asks m.replies)) r (λ p. play n asks (hit r p)))) (same.at hits)
    ∙ moved_same asks (move_in asks q) r q (λ p. play n asks (hit r p)) (λ p. play n asks (hit q p)) (ap (told_by asks) (same.at hits))
    (λ p. played_same asks names seed stream limit s t same n (hits ++ p ∷ []))

-- scenarios of the same meaning have the same outcome
pub outcome_same : (asks : List Reply → Move) (names : List (List ℕ)) (seed stream limit : ℕ) (s t : Entries)
    → ((hits : List ℕ) → meaning_of s names seed stream limit hits ≡ meaning_of t names seed stream limit hits)
    → outcome asks (given_of s names seed stream limit) ≡ outcome asks (given_of t names seed stream limit)
outcome_same asks names seed stream limit s t same = played_same asks names seed stream limit s t (record { at = same }) (suc limit) []

-- and the same verdict
pub verdict_same : (s t : Entries) → MeansTheSame s t → SameVerdicts s t
verdict_same s t same asks names seed limit stream =
    verdict_is asks names seed limit stream s
    ∙ ap (λ (x : Told). x.verdict) (outcome_same asks names seed stream limit s t (same.at names seed stream limit))
    ∙ sym (verdict_is asks names seed limit stream t)
