use Rattle.std.proofs.Common.{rules, ◌≡◌, ℕ, List, [], None, refl, sym}
use Rattle.action_eval.specs.Answers.{replies, stopped}
use Rattle.maildir_target.specs.Steps.{before_all}
use Rattle.maildir_target.proofs.Playing.{begins}
use Rattle.maildir_target.proofs.play.play_out.Goals as goal

pub deliver_all-requires : goal.deliver_all-requires
deliver_all-requires g c =
    let none : replies c.args.session.now ≡ [] = search rules in
    let runs : stopped c.args.session.now ≡ None = search rules in
    let played = begins c.args.variant c.args.messages.now c.args.session.now c.clear.new.self c.requires.new c.requires.points none runs c.clear.ensures in
    record { between = record { last = before_all c.args.messages.now; message = refl; rest = refl; acknowledged = sym {A = List ℕ} c.clear-2.ensures.items; played = played } }
