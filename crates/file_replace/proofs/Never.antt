-- The sound variant never fails.
use Rattle.std.proofs.Common.{◌≡◌, ℕ, Result, IfOk, ap, sym, ◌∙◌}
use Rattle.action_eval.specs.Answers.{Given, Run, replies}
use Rattle.target_trait.specs.declared.judgement.Judgement.{Judgement}
use Rattle.target_trait.specs.declared.judgement.Judgement.TheVariants.{Kept}
use Rattle.target_trait.specs.declared.judgement.Verdict.TheVariants as verdict
use Rattle.target_trait.specs.Play.{IsPlay}
use Rattle.target_trait.specs.Outcomes.{outcome}
use Rattle.target_trait.proofs.Never.{kept_run, never_fails}
use Rattle.file_replace.specs.declared.variant.Variant.{Variant}
use Rattle.file_replace.specs.declared.variant.Variant.TheVariants.{Sound}
use Rattle.file_replace.specs.Work.{Work}
use Rattle.file_replace.specs.Steps.{asks_of}
use Rattle.file_replace.proofs.Safe.{sound_kept}

pub sound_run : {E : Type 0} (v : Variant) (w : Work) (r : Run) (result : Result Judgement E) → v ≡ Sound → IfOk result (IsPlay (asks_of v w) r) → IfOk result (λ j. j ≡ Kept)
sound_run v w r result e = kept_run (asks_of v w) r result (λ j d. sound_kept w (replies r) j (ap (λ (x : Variant). asks_of x w (replies r)) (sym e) ∙ d))

pub sound_never_fails : (w : Work) (g : Given) (code : ℕ) → (outcome (asks_of Sound w) g).verdict ≡ verdict.Fail code → ⊥
sound_never_fails w = never_fails (asks_of Sound w) (sound_kept w)
