-- The laws of every target, for this one.
use Rattle.std.proofs.Common.{◌≡◌, List, ◌∷◌, ◌++◌, refl, ap, sym, subst, arith}
use Rattle.action_eval.specs.Answers.{Reply, Go, Return, Halt}
use Rattle.target_trait.specs.declared.judgement.Judgement.{Judgement}
use Rattle.target_trait.specs.Play.{move_by, IsWithin, IsDone}
use Rattle.target_trait.specs.Machine.{EndsBy}
use Rattle.target_trait.proofs.Machine.{within_by, halts_by}
use Rattle.file_replace.specs.declared.variant.Variant.{Variant}
use Rattle.file_replace.specs.Work.{Work}
use Rattle.file_replace.specs.Judgement.{judged}
use Rattle.file_replace.specs.Steps.{Step, Clearing, Creating, Writing, WritingAgain, Syncing, Renaming, SyncingRenamed, SyncingDir, SyncingLate, Cleaning, Over}
use Rattle.file_replace.specs.Steps.{State, on_go, on_return, stepped, machine, point_at, asks_of}

step_within : (j : Judgement) (step : Step) → IsWithin 7 (move_by j (point_at step))
step_within j (Clearing chunks) = omega arith
step_within j (Creating chunks) = omega arith
step_within j (Writing c cs) = omega arith
step_within j (WritingAgain c cs) = omega arith
step_within j Syncing = omega arith
step_within j Renaming = omega arith
step_within j SyncingRenamed = omega arith
step_within j SyncingDir = omega arith
step_within j SyncingLate = omega arith
step_within j Cleaning = omega arith
step_within j Over = tt

-- Each question is of one of the seven points.
pub asks-within : (v : Variant) (w : Work) (answers : List Reply) → IsWithin 7 (asks_of v w answers)
asks-within v w = within_by (machine v w) 7 (λ s. step_within (judged s.tally.past s.effects) s.tally.step)

abbrev IsOver : State → Type 0
IsOver s = s.tally.step ≡ Over

over_stays : (v : Variant) (s : State) (a : Reply) → IsOver s → IsOver (stepped v s a)
over_stays v s Go over = ap (λ (x : Step). (on_go v s.tally s.effects x).tally.step) over
over_stays v s (Return text) over = ap (λ (x : Step). (on_return v s.tally s.effects x).tally.step) over
over_stays v s Halt over = refl

ends : (v : Variant) (w : Work) → EndsBy (machine v w) IsOver
ends v w = record {
  done = λ s over. subst (λ (x : Step). IsDone (move_by (judged s.tally.past s.effects) (point_at x))) (sym over) tt;
  stays = over_stays v;
  halts = λ s. refl;
}

-- No question follows a halt.
pub asks-halts : (v : Variant) (w : Work) (before rest : List Reply) → IsDone (asks_of v w (before ++ Halt ∷ rest))
asks-halts v w = halts_by (machine v w) IsOver (ends v w)
