-- The sound variant never fails.
use Rattle.std.proofs.Common.{◌≡◌, ℕ, ◌≤◌, List, Result, IfOk, ap, sym, ◌∙◌}
use Rattle.action_eval.specs.Answers.{Given, Run, Reply, replies}
use Rattle.target_trait.specs.declared.judgement.Judgement.{Judgement}
use Rattle.target_trait.specs.declared.judgement.Judgement.TheVariants.{Kept}
use Rattle.target_trait.specs.declared.judgement.Verdict.TheVariants as verdict
use Rattle.target_trait.specs.Play.{IsPlay}
use Rattle.target_trait.specs.Outcomes.{outcome}
use Rattle.target_trait.proofs.Never.{kept_run, never_fails}
use Rattle.commit_target.specs.declared.variant.Variant.{Variant}
use Rattle.commit_target.specs.declared.variant.Variant.TheVariants.{Sound}
use Rattle.commit_target.specs.Work.{Work}
use Rattle.commit_target.specs.Judgement.{was_told}
use Rattle.commit_target.specs.Protocol.{BearsOut}
use Rattle.commit_target.specs.Steps.{laid, start_of, asks_of}
use Rattle.commit_target.proofs.Agreeing.{bears_out}
use Rattle.commit_target.proofs.Safe.{sound_kept, all_settled}

pub sound_run : {E : Type 0} (v : Variant) (w : Work) (r : Run) (result : Result Judgement E) → 1 ≤ w.participants → v ≡ Sound
    → IfOk result (IsPlay (asks_of v w) r) → IfOk result (λ j. j ≡ Kept)
sound_run v w r result some e = kept_run (asks_of v w) r result (λ j d. sound_kept w some (replies r) j (ap (λ (x : Variant). asks_of x w (replies r)) (sym e) ∙ d))

pub sound_never_fails : (w : Work) → 1 ≤ w.participants → (g : Given) (code : ℕ) → (outcome (asks_of Sound w) g).verdict ≡ verdict.Fail code → ⊥
sound_never_fails w some = never_fails (asks_of Sound w) (sound_kept w some)

pub sound_bears_out : (w : Work) → 1 ≤ w.participants → (answers : List Reply) (k : ℕ)
    → let s = laid Sound w (start_of w) answers in BearsOut w.participants s.events k (was_told s.tally.told k)
sound_bears_out w some answers k =
    let s = laid Sound w (start_of w) answers in
    bears_out (was_told s.tally.told k) w.participants s.events k (all_settled w some answers k)
