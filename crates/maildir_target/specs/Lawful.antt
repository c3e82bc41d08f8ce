-- The laws of every target, for this one: each question is of a point of the catalogue, and none follows a halt.
use Rattle.std.proofs.Common.{◌≡◌, ℕ, List, ◌∷◌, ◌++◌, refl, ap, sym, subst, lit<}
use Rattle.action_eval.specs.Answers.{Reply, Go, Return, Halt}
use Rattle.target_trait.specs.declared.judgement.Judgement.{Judgement}
use Rattle.target_trait.specs.Play.{IsWithin, IsDone, move_by}
use Rattle.target_trait.proofs.Machine.{within_by, halts_by}
use Rattle.maildir_target.specs.declared.variant.Variant.{Variant}
use Rattle.maildir_target.specs.Judgement.{judged}
use Rattle.maildir_target.specs.Steps.{Step, Looking, Creating, Writing, Syncing, Linking, Unlinking, SyncingDir, Cleaning, Over}
use Rattle.maildir_target.specs.Steps.{State, on_go, on_return, stepped, point_at, machine, asks_of}

step_within : (j : Judgement) (step : Step) → IsWithin 7 (move_by j (point_at step))
step_within j Looking = lit< tt
step_within j Creating = lit< tt
step_within j (Writing c cs) = lit< tt
step_within j Syncing = lit< tt
step_within j Linking = lit< tt
step_within j Unlinking = lit< tt
step_within j SyncingDir = lit< tt
step_within j Cleaning = lit< tt
step_within j Over = tt

-- Each question is of one of the seven points.
pub asks-within : (v : Variant) (messages : List (List (List ℕ))) (answers : List Reply) → IsWithin 7 (asks_of v messages answers)
asks-within v messages = within_by (machine v messages) 7 (λ s. step_within (judged messages s.tally.acknowledged s.effects) s.tally.step)

abbrev IsOver : State → Type 0
IsOver s = s.tally.step ≡ Over

over_stays : (v : Variant) (s : State) (a : Reply) → IsOver s → IsOver (stepped v s a)
over_stays v s Go e = ap (λ (x : Step). (on_go v s.tally s.effects x).tally.step) e
over_stays v s (Return text) e = ap (λ (x : Step). (on_return v s.tally s.effects x).tally.step) e
over_stays v s Halt e = refl

over_done : (messages : List (List (List ℕ))) (s : State) → IsOver s → IsDone (move_by (judged messages s.tally.acknowledged s.effects) (point_at s.tally.step))
over_done messages s e =
    let P : Step → Type 0 = λ x. IsDone (move_by (judged messages s.tally.acknowledged s.effects) (point_at x)) in
    subst P (sym e) tt

-- No question follows a halt.
pub asks-halts : (v : Variant) (messages : List (List (List ℕ))) (before after : List Reply) → IsDone (asks_of v messages (before ++ Halt ∷ after))
asks-halts v messages = halts_by (machine v messages) IsOver (record { done = over_done messages; stays = over_stays v; halts = λ s. refl })
