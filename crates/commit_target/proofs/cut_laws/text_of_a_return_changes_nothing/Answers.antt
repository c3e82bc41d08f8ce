use Rattle.std.specs.Prelude.{◌≡◌, length}
use Rattle.std.proofs.Common.{refl}
use Rattle.action_eval.specs.Answers.{Reply, Go, Return, Halt}
use Rattle.commit_target.specs.Writes.{pending}
use Rattle.target_trait.specs.cut_laws.Texts.{without_text}
use Rattle.target_trait.proofs.CutLawsLemmas.Texts.{asks_alike, with_cut_alike}
use Rattle.commit_target.specs.declared.variant.Variant.{Variant}
use Rattle.commit_target.specs.Work.{Work}
use Rattle.commit_target.specs.Steps.{State, machine}
use Rattle.commit_target.specs.Crash.{judged_keeping}
use Rattle.commit_target.proofs.cut_laws.text_of_a_return_changes_nothing.Goals as goal

passes : (v : Variant) (workload : Work) (s : State) (a : Reply) → (machine v workload).step s (without_text a) ≡ (machine v workload).step s a
passes v workload s Go = refl
passes v workload s (Return text) = refl
passes v workload s Halt = refl

pub returns-clause-alone : goal.returns-clause-alone
returns-clause-alone c = λ v workload. asks_alike (machine v workload) (passes v workload)

pub returns-clause-with_cut : goal.returns-clause-with_cut
returns-clause-with_cut c = λ v workload keep. with_cut_alike (machine v workload) (passes v workload) (λ s. length (pending s.events)) (λ s kept. judged_keeping workload s kept) keep
