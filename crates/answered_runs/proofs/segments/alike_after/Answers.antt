use Rattle.std.proofs.Common.{ℕ, arith, get_or, subst}
use Rattle.answered_runs.specs.declared.segments.Segment.{Segment}
use Rattle.answered_runs.specs.declared.tree.Next.TheVariants.{Hit}
use Rattle.answered_runs.specs.inside.Segments.{IsAlike}
use Rattle.answered_runs.proofs.Laid.{alike, lies_there, of_number}
use Rattle.answered_runs.proofs.segments.alike_after.Goals as goal

-- what is read past the end
abbrev none : Segment
none = record { first = 0; count = 0; said = record { line = 0; next = Hit 0 }; answer = 0 }

pub overflow_sub-result : goal.overflow_sub-result
overflow_sub-result c =
    let at = of_number c.args.segments.now c.args.place c.number_at.result c.requires.0 none c.number_at.ensures in
    let lies = lies_there c.args.segments.now c.requires.0 c.args.place (get_or c.args.segments.now c.number_at.result none) c.requires.1 at in
    let low = lies.0 in
    let high = lies.1 in
    omega (arith, low, high)

pub overflow_sub-result-then-segment-answer : goal.overflow_sub-result-then-segment-answer
overflow_sub-result-then-segment-answer c =
    let at = of_number c.args.segments.now c.args.place c.number_at.result c.requires.0 none c.number_at.ensures in
    (lies_there c.args.segments.now c.requires.0 c.args.place (get_or c.args.segments.now c.number_at.result none) c.requires.1 at).0

pub overflow_sub-result-then-segment-answer-2 : goal.overflow_sub-result-then-segment-answer-2
overflow_sub-result-then-segment-answer-2 c =
    let at = of_number c.args.segments.now c.args.place c.number_at.result c.requires.0 none c.number_at.ensures in
    let lies = lies_there c.args.segments.now c.requires.0 c.args.place (get_or c.args.segments.now c.number_at.result none) c.requires.1 at in
    let low = lies.0 in
    let high = lies.1 in
    omega (arith, low, high)

pub returns-then-segment-answer-clause-alike : goal.returns-then-segment-answer-clause-alike
returns-then-segment-answer-clause-alike c = λ n less.
    let at = of_number c.args.segments.now c.args.place c.number_at.result c.requires.0 none c.number_at.ensures in
    let lies = lies_there c.args.segments.now c.requires.0 c.args.place (get_or c.args.segments.now c.number_at.result none) c.requires.1 at in
    let low = lies.0 in
    let high = lies.1 in
    subst (λ (a : ℕ). IsAlike c.args.segments.now a c.args.place n) c.if-segment-answer.true
    (alike c.args.segments.now c.requires.0 c.args.place (get_or c.args.segments.now c.number_at.result none) c.requires.1 at n (omega (arith, low, high, less)))

pub returns-then-segment-answer-clause-within : goal.returns-then-segment-answer-clause-within
returns-then-segment-answer-clause-within c = λ end laid.
    let at = of_number c.args.segments.now c.args.place c.number_at.result c.requires.0 none c.number_at.ensures in
    let lies = lies_there c.args.segments.now end c.args.place (get_or c.args.segments.now c.number_at.result none) laid at in
    let low = lies.0 in
    let high = lies.1 in
    let within = lies.2 in
    omega (arith, low, high, within)

pub returns-else-segment-answer-clause-within : goal.returns-else-segment-answer-clause-within
returns-else-segment-answer-clause-within c = λ end laid.
    let at = of_number c.args.segments.now c.args.place c.number_at.result c.requires.0 none c.number_at.ensures in
    let lies = lies_there c.args.segments.now end c.args.place (get_or c.args.segments.now c.number_at.result none) laid at in
    let high = lies.1 in
    let within = lies.2 in
    omega (arith, high, within)
