-- When some component agrees with answers. What a component does next follows from the answers to its earlier hits. So a line whose hits are recorded
-- says what the component does after no answer, after the first one, and so on up to its end. If two lines say different things after the same
-- answers, no component has both runs. Otherwise what the lines say is a function, and a component.
use Rattle.std.specs.Prelude.{◌≡◌, ◌≢◌, ◌⊎◌, ◌+◌, ◌≤◌, ◌==◌, ◌||◌, ℕ, Bool, true, false, List, take, length, slice_get, Option, None, Some, IfSome}
use Rattle.std.specs.List.{AllByRecursion, list_all}
use Rattle.scenario_values.specs.declared.term.Term.{Term}
use Rattle.scenario_values.specs.Scenario.{Entries, IsScenario}
use Rattle.action_eval.specs.Answers.{Reply, Run, run_of, replies, is_cut_short}
use Rattle.target_trait.specs.declared.judgement.Judgement.TheVariants as judgement
use Rattle.target_trait.specs.declared.judgement.Verdict.{Verdict}
use Rattle.target_trait.specs.declared.judgement.Verdict.TheVariants as verdict
use Rattle.target_trait.specs.Cuts.{IsAsking}
use Rattle.target_trait.specs.Play.{Move, Ask, Done, Unknown}
use Rattle.answer_text.specs.Runs.{told_in}
use Rattle.answer_text.specs.declared.runs.ToldRun.{ToldRun}
use Rattle.grown_runs.specs.known.Known.{Told}
use Rattle.answered_runs.specs.Answered.{Answered, told_of}
use Rattle.answered_runs.specs.declared.broken.BrokenRun.{BrokenRun}
use Rattle.answered_runs.specs.declared.broken.Conflict.{Conflict}
use Rattle.answered_runs.specs.declared.broken.Conflict.TheVariants as conflict

-- ---- what one line says

-- Each term acts whenever it is reached, or never. So the answers to hits follow from the scenario alone.
abbrev pub IsCertain : Entries → Type 0
IsCertain s = AllByRecursion (λ e. AllByRecursion (λ (t : Term). (t.share ≡ 0) ⊎ (t.share ≡ 1000000)) e.1) s

-- Whether a term acts at each hit that reaches it, or at none.
abbrev pub is_sure : Term → Bool
is_sure t = (t.share == 0) || (t.share == 1000000)

-- Whether each term of a scenario does.
abbrev pub is_certain : Entries → Bool
is_certain s = list_all (λ e. list_all is_sure e.1) s

-- A recorded run of a scenario.
pub record Line : Type 0 where
  pub scenario : Entries
  pub run : Told

abbrev pub line_of : Entries → Told → Line
line_of s run = record { scenario = s; run = run }

-- The run of a scenario over these points in which these were hit. The scenario is certain, so any seed will do.
abbrev pub run_over : List (List ℕ) → Entries → List ℕ → Run
run_over points s hits = run_of s points 0 0 (length hits) hits

-- The end with a verdict. How an unresolved run ended is unknown.
abbrev pub end_by : Verdict → Move
end_by verdict.Pass = Done judgement.Kept
end_by (verdict.Fail code) = Done (judgement.Broken code)
end_by verdict.Unresolved = Unknown

-- What comes next in a run with this verdict: a hit of the next point, or if there is none the end.
abbrev pub move_said : Verdict → Option ℕ → Move
move_said v (Some point) = Ask point
move_said v None = end_by v

-- A line says that after these answers, of its first `count` hits, the component does this. Of what comes after a pause no line says anything.
pub record Says (points : List (List ℕ)) (l : Line) (count : ℕ) (answers : List Reply) (move : Move) : Type 0 where
  pub hits : List ℕ
  pub known : l.run.hits ≡ Some hits
  pub within : count ≤ length hits
  pub reached : replies (run_over points l.scenario (take count hits)) ≡ answers
  pub goes_on : is_cut_short (run_over points l.scenario (take count hits)) ≡ false
  pub move_is : move ≡ move_said l.run.verdict (slice_get hits count)

-- If a pause stopped the run of a line, that was at its last hit, and the run is unresolved.
abbrev pub EndsAtPause : List (List ℕ) → Line → Type 0
EndsAtPause points l = IfSome l.run.hits (λ hits. (count : ℕ) → count ≤ length hits
    → is_cut_short (run_over points l.scenario (take count hits)) ≡ true → (count ≡ length hits) × (l.run.verdict ≡ verdict.Unresolved))

-- ---- what two lines say

-- They don't say different things after the same answers.
abbrev pub SayTheSame : List (List ℕ) → Line → Line → Type 0
SayTheSame points l k = (count : ℕ) (answers : List Reply) (move other : Move)
    → Says points l count answers move → Says points k count answers other → move ≡ other

-- A scenario has the whole run that a line records: each hit is answered as under the line's own scenario, and no pause stops it. And that run passes
-- or fails.
pub record HasItsRun (points : List (List ℕ)) (s : Entries) (l : Line) : Type 0 where
  pub hits : List ℕ
  pub known : l.run.hits ≡ Some hits
  pub alike : (count : ℕ) → count ≤ length hits
      → replies (run_over points s (take count hits)) ≡ replies (run_over points l.scenario (take count hits))
  pub goes_on : (count : ℕ) → count ≤ length hits → is_cut_short (run_over points s (take count hits)) ≡ false
  pub resolved : l.run.verdict ≢ verdict.Unresolved

-- A line without hits only says its verdict. So its scenario has the run of no line that passes or fails otherwise.
abbrev pub KeepsVerdict : List (List ℕ) → Line → Line → Type 0
KeepsVerdict points l k = l.run.hits ≡ None → HasItsRun points l.scenario k → l.run.verdict ≡ k.run.verdict

-- ---- all lines

-- What is recorded of certain scenarios can be recorded of one component.
pub record AreOfOne (a : Answered) : Type 0 where
  pub alone : (s : Entries) → IsScenario s → IsCertain s → IfSome (told_in a.book s) (λ r. EndsAtPause a.points (line_of s (told_of r)))
  pub same : (s u : Entries) → IsScenario s → IsCertain s → IsScenario u → IsCertain u
      → IfSome (told_in a.book s) (λ r. IfSome (told_in a.book u) (λ q. SayTheSame a.points (line_of s (told_of r)) (line_of u (told_of q))))
  pub unseen : (s u : Entries) → IsScenario s → IsCertain s → IsScenario u → IsCertain u
      → IfSome (told_in a.book s) (λ r. IfSome (told_in a.book u) (λ q. KeepsVerdict a.points (line_of s (told_of r)) (line_of u (told_of q))))

-- ---- two lines with which no component agrees

-- They say different things after the answers to the hits before this one, and one of them has this hit.
pub record SayOtherHits (points : List (List ℕ)) (l k : Line) (hit : ℕ) : Type 0 where
  pub before : ℕ
  pub hit_is : hit ≡ before + 1
  pub answers : List Reply
  pub move : Move
  pub other : Move
  pub says : Says points l before answers move
  pub said : Says points k before answers other
  pub apart : move ≢ other
  pub goes_on : IsAsking move ⊎ IsAsking other

-- They say that the same run ends with different verdicts.
pub record SayOtherEnds (points : List (List ℕ)) (l k : Line) : Type 0 where
  pub count : ℕ
  pub answers : List Reply
  pub says : Says points l count answers (end_by l.run.verdict)
  pub said : Says points k count answers (end_by k.run.verdict)
  pub apart : l.run.verdict ≢ k.run.verdict

-- A line without hits says another verdict than a line whose run its scenario has.
pub record SaysOtherVerdict (points : List (List ℕ)) (l k : Line) : Type 0 where
  pub unseen : l.run.hits ≡ None
  pub has : HasItsRun points l.scenario k
  pub apart : l.run.verdict ≢ k.run.verdict

-- How the first of two lines contradicts the other one. A run that goes on after a pause contradicts itself.
abbrev pub ContradictsBy : List (List ℕ) → Line → Line → Conflict → Type 0
ContradictsBy points l k (conflict.Hits hit) = SayOtherHits points l k hit
ContradictsBy points l k conflict.Verdict = SayOtherEnds points l k ⊎ SaysOtherVerdict points l k
ContradictsBy points l k conflict.Paused = EndsAtPause points l → ⊥

-- The lines of two certain scenarios contradict each other.
pub record IsContradiction (a : Answered) (b : BrokenRun) : Type 0 where
  pub scenario : Entries
  pub other : Entries
  pub lawful : IsScenario scenario
  pub certain : IsCertain scenario
  pub other_lawful : IsScenario other
  pub other_certain : IsCertain other
  pub run : ToldRun
  pub told : ToldRun
  pub recorded : told_in a.book scenario ≡ Some run
  pub other_recorded : told_in a.book other ≡ Some told
  pub line : b.line ≡ run.line
  pub earlier : b.earlier ≡ told.line
  pub contradicts : ContradictsBy a.points (line_of scenario (told_of run)) (line_of other (told_of told)) b.how

-- Two lines that contradict each other, or none if no two do.
abbrev pub AreContradicted : Answered → Option BrokenRun → Type 0
AreContradicted a None = AreOfOne a
AreContradicted a (Some b) = IsContradiction a b
