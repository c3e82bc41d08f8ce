use Rattle.std.proofs.Common.{◌≡◌, map, string_bytes, ap, ◌∙◌}
use Rattle.std.proofs.lemmas.Result.{IfOk-weaker}
use Rattle.action_eval.specs.Answers.{given_of}
use Rattle.target_trait.proofs.Plays.{given_is}
use Rattle.maildir_target.specs.declared.variant.Variant.{Variant}
use Rattle.maildir_target.specs.Words.{point_names}
use Rattle.maildir_target.specs.Crash.{call_texts, calls_of}
use Rattle.maildir_target.proofs.Cutting.{calls_told}
use Rattle.maildir_target.proofs.maildir.Maildir.pending_calls.Goals as goal

pub returns-clause-calls : goal.returns-clause-calls
returns-clause-calls c =
    let case = c.args.case.now in
    let w = c.args.messages.now in
    let g = given_of case.scenario.now point_names case.seed case.stream case.max_hits in
    let given = given_is _ _ case.scenario.now _ _ case.seed case.stream case.max_hits c.play_out.ensures.given c.in_ok-session.ensures c.catalogue.ensures in
    let told : call_texts c.pending.result.now ≡ calls_of c.args.self.now w g =
    ap call_texts c.pending.ensures ∙ calls_told c.self.inside.variant w _ _ c.in_ok-play_out.ensures.over g given c.trace.ensures.within
    ∙ ap (λ (v : Variant). calls_of v w g) c.self.view_is in
    IfOk-weaker c.call_texts.result (λ texts. map string_bytes texts.items ≡ call_texts c.pending.result.now) (λ calls. map string_bytes calls.items ≡ calls_of c.args.self.now w g) (λ calls is. is ∙ told)
    c.call_texts.ensures
