-- The outcome of a case: the run that is played by what is asked, and what is reported of it.
use Rattle.std.specs.Prelude.{◌≡◌, ℕ, zero, suc, List, Option, Some, None}
use Rattle.scenario_values.specs.Scenario.{Entries}
use Rattle.action_eval.specs.declared.answer.Stop.{Stop}
use Rattle.action_eval.specs.declared.answer.Stop.TheVariants as stop
use Rattle.action_eval.specs.declared.answer.Note.{Note}
use Rattle.action_eval.specs.Answers.{Given, Run, Reply, given_of, hit, start, replies, asked, stopped, history_of, notes_of, total_millis, words_of}
use Rattle.target_trait.specs.declared.judgement.Judgement.TheVariants as judgement
use Rattle.target_trait.specs.declared.judgement.Verdict.{Verdict}
use Rattle.target_trait.specs.declared.judgement.Verdict.TheVariants as verdict
use Rattle.target_trait.specs.Play.{Move, Ask, Done, Unknown, move_in}

-- The run after a move: if a point is asked, it is hit.
abbrev pub moved : Move → Run → (ℕ → Run) → Run
moved (Ask p) r further = further p
moved (Done j) r further = r
moved Unknown r further = r

-- The run played on, with at most n more hits: while a point is asked after the answers up to then, it
-- is hit, unless a pause or the limit has cut the run short.
unfoldable pub play : ℕ → (List Reply → Move) → Run → Run
play zero asks r = r
play (suc n) asks r = moved (move_in asks r) r (λ p. play n asks (hit r p))

-- The verdict of an end. It is unresolved if the end is unknown, or if the run hasn't ended.
abbrev pub judged : Move → Verdict
judged (Ask p) = verdict.Unresolved
judged (Done judgement.Kept) = verdict.Pass
judged (Done (judgement.Broken code)) = verdict.Fail code
judged Unknown = verdict.Unresolved

-- The verdict is that of the judgement, also after a panic. A run that was stopped by a pause
-- or by the limit is unresolved, since its result is unknown.
abbrev pub verdict_of : Option Stop → Move → Verdict
verdict_of None move = judged move
verdict_of (Some stop.Panic) move = judged move
verdict_of (Some stop.Paused) move = verdict.Unresolved
verdict_of (Some stop.Limit) move = verdict.Unresolved

-- The verdict of a run.
abbrev pub verdict_in : (List Reply → Move) → Run → Verdict
verdict_in asks r = verdict_of (stopped r) (asks (replies r))

-- The whole run, as it is played under what is given. The hit past the limit cuts it short, so it has at most limit + 1 hits.
abbrev pub whole_play : (List Reply → Move) → Given → Run
whole_play asks g = play (suc g.limit) asks (start g)

-- The verdict of a case, by what is asked, the names of the points, the seed, the limit, the stream number and the scenario. All definitions above
-- targets speak of verdicts by this one function.
unfoldable pub verdict_with : (List Reply → Move) → List (List ℕ) → ℕ → ℕ → ℕ → Entries → Verdict
verdict_with asks names seed limit stream scenario = verdict_in asks (whole_play asks (given_of scenario names seed stream limit))

-- What is reported of a run. The hit past the limit isn't among the points asked.
pub record Told : Type 0 where
  pub verdict : Verdict
  pub asked : List ℕ
  pub notes : List Note
  pub millis : ℕ
  pub words : ℕ

abbrev pub told : (List Reply → Move) → Run → Told
told asks r = record {
  verdict = verdict_in asks r;
  asked = asked r;
  notes = notes_of (history_of r);
  millis = total_millis (history_of r);
  words = words_of (history_of r);
}

-- The outcome: what is reported of the whole run.
abbrev pub outcome : (List Reply → Move) → Given → Told
outcome asks g = told asks (whole_play asks g)

-- Two scenarios have the same verdict for everything that asks, and for every catalogue, seed, limit and stream number.
abbrev pub SameVerdicts : Entries → Entries → Type 0
SameVerdicts s t = (asks : List Reply → Move) (names : List (List ℕ)) (seed limit stream : ℕ)
    → verdict_with asks names seed limit stream s ≡ verdict_with asks names seed limit stream t
