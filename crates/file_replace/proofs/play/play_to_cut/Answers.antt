use Rattle.std.proofs.Common.{◌≡◌, Bool, List, ◌∷◌, Option, Vec, Global, length, ap, ◌∙◌, subst}
use Rattle.std.specs.Prelude.{option_map}
use Rattle.std.proofs.lemmas.Result.{IfOk-weaker}
use Rattle.target_trait.specs.declared.judgement.Judgement.{Judgement}
use Rattle.target_trait.specs.declared.judgement.Judgement.TheVariants.{Kept}
use Rattle.target_trait.specs.Play.{IsCutPlay}
use Rattle.target_trait.specs.Cuts.{CutEnded, asks_with}
use Rattle.sim_device.specs.FileEffects.{Effect, PowerCut, Live, held}
use Rattle.sim_device.specs.Disk.{Tells}
use Rattle.file_replace.specs.Words.{target}
use Rattle.file_replace.specs.Judgement.{judged_by}
use Rattle.file_replace.specs.Steps.{asks_of}
use Rattle.file_replace.specs.Crash.{cut_of}
use Rattle.file_replace.proofs.Cutting.{cut_run, kept_judged}
use Rattle.file_replace.proofs.play.play_to_cut.Goals as goal

pub returns-in-Some-clause-play : goal.returns-in-Some-clause-play
returns-in-Some-clause-play c =
    let v = c.args.variant in
    let w = c.args.workload.now in
    let k = c.in_ok-progress.ensures.played in
    let asked = subst (λ (o : Option (Vec Bool Global)). CutEnded 7 (length c.pending.result.now) c.play_out.new.session c.ask_cut.new.session (option_map (λ x. x.items) o))
    c.in-Some.is c.in_ok-kept.ensures.cut in
    IfOk-weaker c.judge_keeping.result
    (λ (j : Judgement). (es : List Effect) → Tells c.play_out.new.device es → j ≡ judged_by c.in_ok-progress.progress.past (held (PowerCut c.deref.result.now ∷ es) Live target))
    (IsCutPlay (asks_with (asks_of v w) (cut_of v w) 7) c.ask_cut.new.session)
    (λ j judges.
    cut_run v w c.play_out.new.session c.ask_cut.new.session c.in_ok-progress.progress c.play_out.new.device k c.in_ok-progress.ensures.over _ (ap length c.pending.ensures) _ asked j
    (kept_judged v w c.play_out.new.session c.in_ok-progress.progress c.play_out.new.device k c.in-Some.kept.items j
    (judges k.effects k.device
    ∙ ap (λ (l : List Bool). judged_by c.in_ok-progress.progress.past (held (PowerCut l ∷ k.effects) Live target)) c.deref.ensures.value)))
    c.judge_keeping.ensures

pub returns-in-None-clause-play : goal.returns-in-None-clause-play
returns-in-None-clause-play c =
    let v = c.args.variant in
    let w = c.args.workload.now in
    let asked = subst (λ (o : Option (Vec Bool Global)). CutEnded 7 (length c.pending.result.now) c.play_out.new.session c.ask_cut.new.session (option_map (λ x. x.items) o))
    c.in-None.is c.in_ok-kept.ensures.cut in
    cut_run v w c.play_out.new.session c.ask_cut.new.session c.in_ok-progress.progress c.play_out.new.device c.in_ok-progress.ensures.played c.in_ok-progress.ensures.over _
    (ap length c.pending.ensures) _ asked Kept tt
