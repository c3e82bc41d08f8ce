use Rattle.std.proofs.Common.{ℕ, List, subst}
use Rattle.std.specs.Prelude.{IfErr, IfOk}
use Rattle.answer_text.specs.Runs.{Tells}
use Rattle.answer_text.specs.inside.Books.{Holds}
use Rattle.answer_text.proofs.RunReading.{too_long}
use Rattle.answer_text.proofs.reading.read_text.Goals as goal

pub returns-then-text-gt-LIMIT-clause-refused : goal.returns-then-text-gt-LIMIT-clause-refused
returns-then-text-gt-LIMIT-clause-refused c = too_long c.args.needed c.args.codes.now c.args.points.now c.args.text.now c.if-text-gt-LIMIT.true

pub returns-clause-found : goal.returns-clause-found
returns-clause-found c = subst (λ (points : List (List ℕ)). IfOk c.read_lines.result (Holds c.args.needed c.args.codes.now points c.args.text.now)) c.in_ok-points.ensures c.read_lines.ensures.found

pub returns-clause-refused : goal.returns-clause-refused
returns-clause-refused c = subst (λ (points : List (List ℕ)). IfErr c.read_lines.result (λ fault. Tells fault c.args.needed c.args.codes.now points c.args.text.now)) c.in_ok-points.ensures c.read_lines.ensures.refused
