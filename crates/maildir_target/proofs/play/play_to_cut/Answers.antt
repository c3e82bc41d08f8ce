use Rattle.std.proofs.Common.{◌≡◌, ℕ, Bool, List, ◌∷◌, Option, Vec, Global, length, ap, ◌∙◌, subst}
use Rattle.std.specs.Prelude.{option_map}
use Rattle.std.proofs.lemmas.Result.{IfOk-weaker}
use Rattle.target_trait.specs.declared.judgement.Judgement.{Judgement}
use Rattle.target_trait.specs.declared.judgement.Judgement.TheVariants.{Kept}
use Rattle.target_trait.specs.Play.{IsCutPlay}
use Rattle.target_trait.specs.Cuts.{CutEnded, asks_with}
use Rattle.sim_device.specs.FileEffects.{Effect, PowerCut}
use Rattle.sim_device.specs.Disk.{Tells}
use Rattle.maildir_target.specs.Judgement.{judged_now, standing}
use Rattle.maildir_target.specs.Steps.{asks_of}
use Rattle.maildir_target.specs.Crash.{cut_of}
use Rattle.maildir_target.proofs.Cutting.{cut_run, kept_judged}
use Rattle.maildir_target.proofs.play.play_to_cut.Goals as goal

pub returns-in-Some-clause-play : goal.returns-in-Some-clause-play
returns-in-Some-clause-play c =
    let v = c.args.variant in
    let w = c.args.messages.now in
    let box = c.play_out.new.mailbox in
    let k = c.in_ok-play_out.ensures.over in
    let es = k.played.effects in
    let messages = c.as_slice.result.now in
    let done = c.as_slice-in-Some.result.now in
    let asked = subst (λ (o : Option (Vec Bool Global)). CutEnded 7 (length c.pending.result.now) c.play_out.new.session c.ask_cut.new.session (option_map (λ x. x.items) o))
    c.in-Some.is c.in_ok-kept.ensures.cut in
    IfOk-weaker c.judge_keeping.result
    (λ (j : Judgement). (es : List Effect) → Tells box.device es → j ≡ judged_now messages done (standing (PowerCut c.deref.result.now ∷ es)))
    (IsCutPlay (asks_with (asks_of v w) (cut_of v w) 7) c.ask_cut.new.session)
    (λ j judges.
    cut_run v w c.play_out.new.session c.ask_cut.new.session box k _ (ap length c.pending.ensures) _ asked j
    (kept_judged v w c.play_out.new.session box k c.in-Some.kept.items j
    (judges es k.played.device
    ∙ ap (λ (l : List (List (List ℕ))). judged_now l done (standing (PowerCut c.deref.result.now ∷ es))) c.as_slice.ensures.is
    ∙ ap (λ (l : List ℕ). judged_now w l (standing (PowerCut c.deref.result.now ∷ es))) c.as_slice-in-Some.ensures.value
    ∙ ap (λ (l : List Bool). judged_now w box.acknowledged.items (standing (PowerCut l ∷ es))) c.deref.ensures.value)))
    c.judge_keeping.ensures

pub returns-in-None-clause-play : goal.returns-in-None-clause-play
returns-in-None-clause-play c =
    let v = c.args.variant in
    let w = c.args.messages.now in
    let asked = subst (λ (o : Option (Vec Bool Global)). CutEnded 7 (length c.pending.result.now) c.play_out.new.session c.ask_cut.new.session (option_map (λ x. x.items) o))
    c.in-None.is c.in_ok-kept.ensures.cut in
    cut_run v w c.play_out.new.session c.ask_cut.new.session c.play_out.new.mailbox c.in_ok-play_out.ensures.over _
    (ap length c.pending.ensures) _ asked Kept tt
