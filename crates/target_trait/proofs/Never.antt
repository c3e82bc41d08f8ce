-- What never judges anything but that all was kept never fails.
use Rattle.std.proofs.Common.{◌≡◌, ℕ, suc, List, Option, None, Some, Result, Ok, Err, IfOk, refl}
use Rattle.action_eval.specs.declared.answer.Stop.{Stop}
use Rattle.action_eval.specs.declared.answer.Stop.TheVariants as stop
use Rattle.action_eval.specs.Answers.{Given, Run, Reply, replies, start}
use Rattle.target_trait.specs.declared.judgement.Judgement.{Judgement}
use Rattle.target_trait.specs.declared.judgement.Judgement.TheVariants.{Kept, Broken}
use Rattle.target_trait.specs.declared.judgement.Verdict.TheVariants as verdict
use Rattle.target_trait.specs.Play.{Move, Ask, Done, Unknown, IsPlay, move_by}
use Rattle.target_trait.specs.Outcomes.{judged, verdict_of, play, outcome}

-- If this asks nothing more, it judges that all was kept.
abbrev pub IsKept : Move → Type 0
IsKept move = (j : Judgement) → move ≡ Done j → j ≡ Kept

-- a move by a judgement is that judgement
pub done_kept : (point : Option ℕ) (i j : Judgement) → i ≡ Kept → move_by i point ≡ Done j → j ≡ Kept
done_kept (Some p) i j k e = cc
done_kept None i j k e = cc

pub kept_run : {E : Type 0} (asks : List Reply → Move) (r : Run) (result : Result Judgement E) → IsKept (asks (replies r)) → IfOk result (IsPlay asks r) → IfOk result (λ j. j ≡ Kept)
kept_run asks r (Ok j) kept h = kept j h.ended
kept_run asks r (Err x) kept h = tt

never_judged : (move : Move) (code : ℕ) → IsKept move → judged move ≡ verdict.Fail code → ⊥
never_judged (Ask p) code kept e = cc
never_judged (Done Kept) code kept e = cc
never_judged Unknown code kept e = cc
never_judged (Done (Broken n)) code kept e = let bad : Broken n ≡ Kept = kept (Broken n) refl in cc

never_verdict : (s : Option Stop) (move : Move) (code : ℕ) → IsKept move → verdict_of s move ≡ verdict.Fail code → ⊥
never_verdict None move code kept e = never_judged move code kept e
never_verdict (Some stop.Panic) move code kept e = never_judged move code kept e
never_verdict (Some stop.Paused) move code kept e = cc
never_verdict (Some stop.Limit) move code kept e = cc

pub never_fails : (asks : List Reply → Move) → ((answers : List Reply) → IsKept (asks answers)) → (g : Given) (code : ℕ) → (outcome asks g).verdict ≡ verdict.Fail code → ⊥
never_fails asks kept g code e =
    let r : Run = play (suc g.limit) asks (start g) in
    never_verdict _ (asks (replies r)) code (kept (replies r)) e
