-- The run of a case: its hits, and how each was answered.
use Rattle.std.specs.Prelude.{◌≢◌, ℕ, ◌+◌, ◌==◌, Bool, true, false, List, [], ◌∷◌, ◌++◌, Some, count_by}
use Rattle.action_eval.specs.declared.answer.Stop.TheVariants as stop
use Rattle.action_eval.specs.declared.rig.Site.{Site}
use Rattle.action_eval.specs.Answers.{Given, Hit, Reply, Go, Return, Halt, reply_of, history_of, stopped}
use Rattle.target_trait.specs.Play.{Move}
use Rattle.target_trait.specs.Outcomes.{whole_play}

-- A hit of a run: its point; its number among the hits of this point, from 1; and its answer.
pub record Met : Type 0 where
  pub site : Site
  pub reply : Reply

abbrev pub met : Site → Reply → Met
met s reply = record { site = s; reply = reply }

-- The next hit of a point, after others.
abbrev pub site_after : List Met → ℕ → Site
site_after before p = record { point = p; hit = count_by (λ m. m.site.point == p) before + 1 }

-- These hits, followed by further answered ones.
abbrev pub met_after : List Met → List Hit → List Met
met_after before [] = before
met_after before (h ∷ hs) = met_after (before ++ met (site_after before h.point) (reply_of h.did) ∷ []) hs

-- The run of what asks under what is given: the hits of the whole play. The hit past the
-- limit isn't among them: it is no fault, and nothing was asked.
unfoldable pub run : (List Reply → Move) → Given → List Met
run asks g = met_after [] (history_of (whole_play asks g))

-- No pause stopped the run.
abbrev pub IsUnpaused : (List Reply → Move) → Given → Type 0
IsUnpaused asks g = stopped (whole_play asks g) ≢ Some stop.Paused

-- A fault acts at a hit that isn't answered with `Go`.
abbrev pub is_fault : Reply → Bool
is_fault Go = false
is_fault (Return text) = true
is_fault Halt = true

-- At how many hits of a run a fault acts.
abbrev pub acting : List Met → ℕ
acting ms = count_by (λ m. is_fault m.reply) ms
