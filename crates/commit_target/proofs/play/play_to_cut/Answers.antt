use Rattle.std.proofs.Common.{◌≡◌, ℕ, Bool, true, List, Option, Vec, Global, length, ap, sym, ◌∙◌, subst}
use Rattle.std.specs.Prelude.{option_map}
use Rattle.std.proofs.lemmas.Result.{IfOk-weaker}
use Rattle.target_trait.specs.declared.judgement.Judgement.{Judgement}
use Rattle.target_trait.specs.declared.judgement.Judgement.TheVariants.{Kept}
use Rattle.target_trait.specs.Play.{IsCutPlay}
use Rattle.target_trait.specs.Cuts.{CutEnded, asks_with}
use Rattle.commit_target.specs.Writes.{Event, LogsStandFor}
use Rattle.commit_target.specs.Judgement.{judged_by}
use Rattle.commit_target.specs.Steps.{Tally, asks_of}
use Rattle.commit_target.specs.Crash.{cut_of, known_keeping, own_keeping}
use Rattle.commit_target.proofs.Cutting.{cut_run, kept_judged}
use Rattle.commit_target.proofs.play.play_to_cut.Goals as goal

pub returns-in-Some-clause-play : goal.returns-in-Some-clause-play
returns-in-Some-clause-play c =
    let v = c.args.script.variant in
    let w = c.args.script.workload.now in
    let noted : c.play_out.new.logs.notes ≡ true = c.play_out.ensures.notes ∙ c.clear_to_note.ensures.notes in
    let t : Tally = c.play_out.new.progress in
    let k = c.in_ok-play_out.ensures.ended in
    let asked = subst (λ (o : Option (Vec Bool Global)). CutEnded 7 (length c.pending.result.now) c.play_out.new.session c.ask_cut.new.session (option_map (λ x. x.items) o))
    c.in-Some.is c.in_ok-kept.ensures.cut in
    IfOk-weaker c.judge_keeping.result
    (λ (j : Judgement). (es : List Event) → LogsStandFor c.participants-in-Some.result c.play_out.new.logs es
    → j ≡ judged_by c.participants-in-Some.result t.told (known_keeping es c.deref.result.now) (own_keeping es c.deref.result.now) t.begun)
    (IsCutPlay (asks_with (asks_of v w) (cut_of v w) 7) c.ask_cut.new.session)
    (λ j judges.
    cut_run v w c.play_out.new.session c.ask_cut.new.session t c.play_out.new.logs k noted _ (ap length c.pending.ensures) _ asked j
    (kept_judged v w c.play_out.new.session t c.play_out.new.logs k c.in-Some.kept.items j
    (judges k.events (subst (λ (n : ℕ). LogsStandFor n c.play_out.new.logs k.events) (sym c.participants-in-Some.ensures.count) k.written)
    ∙ ap (λ (n : ℕ). judged_by n t.told (known_keeping k.events c.deref.result.now) (own_keeping k.events c.deref.result.now) t.begun) c.participants-in-Some.ensures.count
    ∙ ap (λ (l : List Bool). judged_by w.participants t.told (known_keeping k.events l) (own_keeping k.events l) t.begun) c.deref.ensures.value)))
    c.judge_keeping.ensures

pub returns-in-None-clause-play : goal.returns-in-None-clause-play
returns-in-None-clause-play c =
    let v = c.args.script.variant in
    let w = c.args.script.workload.now in
    let noted : c.play_out.new.logs.notes ≡ true = c.play_out.ensures.notes ∙ c.clear_to_note.ensures.notes in
    let asked = subst (λ (o : Option (Vec Bool Global)). CutEnded 7 (length c.pending.result.now) c.play_out.new.session c.ask_cut.new.session (option_map (λ x. x.items) o))
    c.in-None.is c.in_ok-kept.ensures.cut in
    cut_run v w c.play_out.new.session c.ask_cut.new.session c.play_out.new.progress c.play_out.new.logs c.in_ok-play_out.ensures.ended noted _
    (ap length c.pending.ensures) _ asked Kept tt
