use Rattle.std.proofs.Common.{subst}
use Rattle.action_eval.specs.declared.session.Faults.{Faults}
use Rattle.action_eval.specs.inside.Layout.{faults_of}
use Rattle.action_eval.specs.inside.Session.{IsSpan}
use Rattle.action_eval.proofs.Spans.{span_within}
use Rattle.action_eval.proofs.session.Faults.chain.Goals as goal

pub terms-requires-clause-within : goal.terms-requires-clause-within
terms-requires-clause-within c = span_within c.in-Rigged.table.now.scenario c.args.span (subst (λ (f : Faults). IsSpan (faults_of f) c.args.span) c.in-Rigged.is c.requires)
