use Rattle.std.specs.Prelude.{◌≡◌, ℕ, List, length}
use Rattle.std.proofs.Common.{refl}
use Rattle.action_eval.specs.Answers.{Reply, Go, Return, Halt}
use Rattle.sim_device.specs.FileEffects.{pending}
use Rattle.target_trait.specs.cut_laws.Texts.{without_text}
use Rattle.target_trait.proofs.CutLawsLemmas.Texts.{asks_alike, with_cut_alike}
use Rattle.maildir_target.specs.declared.variant.Variant.{Variant}
use Rattle.maildir_target.specs.Steps.{State, machine}
use Rattle.maildir_target.specs.Crash.{judged_keeping}
use Rattle.maildir_target.proofs.cut_laws.text_of_a_return_changes_nothing.Goals as goal

passes : (v : Variant) (messages : List (List (List ℕ))) (s : State) (a : Reply) → (machine v messages).step s (without_text a) ≡ (machine v messages).step s a
passes v messages s Go = refl
passes v messages s (Return text) = refl
passes v messages s Halt = refl

pub returns-clause-alone : goal.returns-clause-alone
returns-clause-alone c = λ v messages. asks_alike (machine v messages) (passes v messages)

pub returns-clause-with_cut : goal.returns-clause-with_cut
returns-clause-with_cut c = λ v messages keep. with_cut_alike (machine v messages) (passes v messages) (λ s. length (pending s.effects)) (λ s kept. judged_keeping messages s kept) keep
