use Rattle.std.proofs.Common.{ℕ, Bool, Option, Vec, Global, ap, sym, ◌∙◌, subst}
use Rattle.std.specs.Prelude.{option_map}
use Rattle.target_trait.specs.declared.judgement.Judgement.TheVariants.{Kept}
use Rattle.target_trait.specs.Machine.{asks_by}
use Rattle.target_trait.specs.MachineLaws.{halts_table}
use Rattle.target_trait.specs.Play.{IsCutPlay}
use Rattle.target_trait.specs.Protocol.{by_table}
use Rattle.target_trait.specs.Cuts.{CutEnded, asks_with, cut_by}
use Rattle.target_trait.proofs.CutRuns.{with_cut}
use Rattle.target_trait.proofs.crash.play_to_cut.Goals as goal

pub returns-in-Some-clause-play : goal.returns-in-Some-clause-play
returns-in-Some-clause-play g c =
    let t = g.P.Protocol.table c.args.protocol.now c.args.workload.now in
    let cuts = g.P.CrashProtocol.cut_table c.args.protocol.now c.args.workload.now in
    let asked = subst (λ (o : Option (Vec Bool Global)). CutEnded c.keep_point.result c.pending-pending.result c.play_out.new.session c.ask_cut.new.session (option_map (λ k. k.items) o))
    c.in-Some.is c.in_ok-kept.ensures.cut in
    subst (λ (n : ℕ). IsCutPlay (asks_with (asks_by (by_table t)) (cut_by t cuts) n) c.ask_cut.new.session c.judge_kept.result) c.keep_point.ensures
    (with_cut (asks_by (by_table t)) (halts_table t) (cut_by t cuts) _ _ _ _ _ _ _ c.in_ok-state.ensures.play
    (sym (c.pending-pending.ensures ∙ ap cuts.pending c.in_ok-state.ensures.state)) asked
    (c.judge_kept.ensures ∙ ap (cuts.judge c.in_ok-state.state) c.deref.ensures.value ∙ ap (λ s. cuts.judge s c.in-Some.kept.items) c.in_ok-state.ensures.state))

pub returns-in-None-clause-play : goal.returns-in-None-clause-play
returns-in-None-clause-play g c =
    let t = g.P.Protocol.table c.args.protocol.now c.args.workload.now in
    let cuts = g.P.CrashProtocol.cut_table c.args.protocol.now c.args.workload.now in
    let asked = subst (λ (o : Option (Vec Bool Global)). CutEnded c.keep_point.result c.pending-pending.result c.play_out.new.session c.ask_cut.new.session (option_map (λ k. k.items) o))
    c.in-None.is c.in_ok-kept.ensures.cut in
    subst (λ (n : ℕ). IsCutPlay (asks_with (asks_by (by_table t)) (cut_by t cuts) n) c.ask_cut.new.session Kept) c.keep_point.ensures
    (with_cut (asks_by (by_table t)) (halts_table t) (cut_by t cuts) _ _ _ _ _ Kept _ c.in_ok-state.ensures.play
    (sym (c.pending-pending.ensures ∙ ap cuts.pending c.in_ok-state.ensures.state)) asked tt)
