use Rattle.std.proofs.Common.{◌≡◌, [], Bool, None, is_some, rules, refl, ap, ◌∙◌, subst, List, ℕ}
use Rattle.sim_device.specs.Disk.{entry_at}
use Rattle.file_replace.specs.Words.{written_name}
use Rattle.action_eval.specs.Answers.{start, stopped, replies}
use Rattle.file_replace.specs.Steps.{begun, prepared}
use Rattle.file_replace.proofs.Playing.{played_first}
use Rattle.file_replace.proofs.play.play_out.Goals as goal

pub loop-point-init : goal.loop-point-init
loop-point-init g c =
    let runs : stopped c.args.session.now ≡ None = search rules in
    let none : replies (start c.args.session.now.given) ≡ [] = search rules in
    let device = subst (λ (old : List ℕ). g.D.Device.stands c.prepare.new.device (prepared old)) c.old.ensures c.in_ok-prepare.ensures in
    let there =
    c.exists.ensures ∙ ap (λ (n : ℕ). is_some (entry_at (g.D.Device.names c.prepare.new.device) n).live) c.written.ensures
    ∙ ap is_some (g.met.D.Device.led _ _ (written_name c.args.variant) device) in
    record {
      given = refl;
      played = played_first c.args.variant c.args.workload.now _ _ _ c.requires.new none runs
          (c.begin.ensures ∙ ap (λ (b : Bool). begun b c.new-progress.result) there ∙ ap (begun _) c.new-progress.ensures) device;
    }
