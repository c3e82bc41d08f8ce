-- Runs with their power cut, compared with runs of the target alone: the scenario that keeps exactly some of what is pending, how much room the limit
-- needs, and what the cut judges if it loses all.
use Rattle.std.specs.Prelude.{◌≡◌, ℕ, suc, ◌+◌, ◌*◌, ◌<◌, ◌≤◌, Bool, true, false, List, [], ◌∷◌, ◌++◌, map, length, replicate, Some, None, codes}
use Rattle.scenario_values.specs.declared.term.Term.{Term}
use Rattle.scenario_values.specs.declared.term.Task.TheVariants as task
use Rattle.scenario_values.specs.Printed.{printed}
use Rattle.scenario_values.specs.Scenario.{Entries, New, all_faults}
use Rattle.action_eval.specs.Answers.{Run, Reply, given_of, start, replies}
use Rattle.action_eval.specs.RiggedScenario.{full, offs, entry}
use Rattle.target_trait.specs.declared.judgement.Judgement.{Judgement}
use Rattle.target_trait.specs.Cuts.{Cut, AsksAll, asks_with, with_keep, answer_to}
use Rattle.target_trait.specs.Outcomes.{play, judged, verdict_with}
use Rattle.target_trait.specs.Play.{Move, Done}

-- The run of a component over points with these names.
abbrev pub run_of_case : (List Reply → Move) → List (List ℕ) → ℕ → ℕ → ℕ → Entries → Run
run_of_case asks names seed stream limit s = play (suc limit) asks (start (given_of s names seed stream limit))

-- The scenario has no entry for the cut's point.
abbrev pub LacksKeep : Entries → Type 0
LacksKeep s = New (codes "power::keep") s

-- The limit of hits has room for the hits of a run, and for one more for each write that the run leaves pending.
abbrev pub HasRoom : ℕ → Cut → Run → Type 0
HasRoom limit cut own = length own.hits + cut.pending (replies own) ≤ limit

-- ---- each state

-- The terms that keep exactly these writes, after `lost` others. `1*return` keeps one, and those that are lost before it are one term, such as
-- `3*off`.
abbrev pub keep_chain : ℕ → List Bool → List Term
keep_chain lost [] = []
keep_chain lost (true ∷ keep) = offs lost ++ full (Some 1) (task.Return None) ∷ keep_chain 0 keep
keep_chain lost (false ∷ keep) = keep_chain (lost + 1) keep

-- The scenario with one more entry, for the cut's point, that keeps exactly these of the pending writes. If none is kept it stays as it is.
abbrev pub keeping : List Bool → Entries → Entries
keeping keep s = s ++ entry (codes "power::keep") (keep_chain 0 keep)

-- The target's own hits are answered as without the cut, then each hit of the cut by whether its write is kept, and the cut judges just that.
pub record LeavesJust (asks : List Reply → Move) (cut : Cut) (names : List (List ℕ)) (seed stream limit : ℕ) (s : Entries) (keep : List Bool) : Type 0 where
  pub answers : replies (run_of_case (asks_with asks cut (length names)) (with_keep names) seed stream limit (keeping keep s))
      ≡ replies (run_of_case asks names seed stream limit s) ++ map answer_to keep
  pub verdict : verdict_with (asks_with asks cut (length names)) (with_keep names) seed limit stream (keeping keep s)
      ≡ judged (Done (cut.judge (replies (run_of_case asks names seed stream limit s)) keep))

-- By this project's own limits, the scenario has room for one more entry, of `power::keep`, with this many terms.
pub record CanTakeIn (s : Entries) (terms : ℕ) : Type 0 where
  pub entries : length s < 256
  pub few : terms ≤ 256
  pub faults : all_faults s + terms ≤ 4096
  pub text : length (printed s) + 16 * terms + 13 ≤ 65536

-- ---- nothing weaker

-- A cut that loses all judges as the run itself does, after any answers each of which was asked for.
abbrev pub LosesAlike : (List Reply → Move) → Cut → Type 0
LosesAlike asks cut = (own : List Reply) (j : Judgement) → AsksAll asks [] own → asks own ≡ Done j
    → cut.judge own (replicate (cut.pending own) false) ≡ j

-- A scenario without an entry of `power::keep` has the same verdict with the cut as without it, whatever the seed and the stream number, if the limit
-- has room for one more hit for each pending write.
abbrev pub IsNoWeaker : (List Reply → Move) → Cut → List (List ℕ) → Type 0
IsNoWeaker asks cut names = (seed stream limit : ℕ) (s : Entries) → LacksKeep s
    → HasRoom limit cut (run_of_case asks names seed stream limit s)
    → verdict_with (asks_with asks cut (length names)) (with_keep names) seed limit stream s ≡ verdict_with asks names seed limit stream s
