use Rattle.std.proofs.Common.{◌∙◌}
use Rattle.target_trait.proofs.Halted.{whole}
use Rattle.target_trait.proofs.Plays.{given_is, parts_outcome}
use Rattle.target_trait.proofs.case.run_case.Goals as goal

pub returns-clause-ok : goal.returns-clause-ok
returns-clause-ok g c =
    let case = c.args.case.now in
    let given = given_is _ _ case.scenario.now _ _ case.seed case.stream case.max_hits c.run.ensures.given c.in_ok-session.ensures c.catalogue.ensures in
    parts_outcome _ _ _ _ (whole _ _ (g.met.T.Target.halts _ _) _ _ c.in_ok-judgement.ensures.play) given c.trace.ensures.within _ _ _ _ _ _
    c.verdict_of-verdict.ensures c.stopped.ensures (c.in_ok-asked.ensures.items ∙ c.trace.ensures.value) c.into_notes.ensures c.millis-millis.ensures c.words-words.ensures
