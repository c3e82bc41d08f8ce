use Rattle.std.proofs.Common.{◌<◌, length, ap, sym, ◌∙◌, arith, length-append, [], ◌∷◌}
use Rattle.action_eval.specs.Answers.{Run}
use Rattle.target_trait.proofs.CutRuns.{asked_once}
use Rattle.target_trait.proofs.crash.ask_cut.Goals as goal

pub loop-session-preserved : goal.loop-session-preserved
loop-session-preserved c =
    let i = c.loop-session.invariant in
    let less : length c.loop-session.kept.items < c.args.pending = omega (arith, c.loop-session-test.true, c.len.ensures) in
    record {
      given = ap (λ (r : Run). r.given) c.in_ok-answer.ensures.ok ∙ i.given;
      asked = asked_once _ _ _ _ _ _ i.asked less (sym c.is_cut_short.ensures ∙ c.if-is_cut_short.false) c.in_ok-answer.ensures.ok _ c.in_ok-answer.ensures.told
          _ c.keeps.ensures _ c.in_ok-push.ensures.items;
      few = omega (arith, less, ap length c.in_ok-push.ensures.items, length-append c.loop-session.kept.items (c.keeps.result ∷ []));
    }
