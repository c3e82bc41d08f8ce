use Rattle.std.proofs.Common.{true, ◌⊎◌, ◌≤◌, ◌<◌, ◌+◌, ◌++◌, ◌∙◌, ℕ, List, Bool, Vec, Global, length, drop, ap, sym, inl, inr, arith}
use Rattle.std.proofs.lemmas.Bool.{cases_lt}
use Rattle.commit_target.specs.declared.records.PendingRecord.{PendingRecord}
use Rattle.commit_target.specs.Crash.{answers_of}
use Rattle.commit_target.proofs.Noting.{one_answered, one_passed, all_answered}
use Rattle.commit_target.proofs.order.answer.Goals as goal
use Rattle.commit_target.proofs.order.answer.Goals.{then-is+in_ok-push, else-is}

pub loop-place-preserved : goal.loop-place-preserved
loop-place-preserved c =
    let order : List PendingRecord = c.args.order.now in
    let keep : List Bool = c.args.keep.now in
    let i : ℕ = c.loop-place.place in
    let there : i < length order = omega (arith, c.min-place-end.ensures, c.loop-place-test.true) in
    let answered : i < length keep = omega (arith, c.min-place-end.ensures, c.loop-place-test.true) in
    let rest : List Bool = answers_of c.args.party (drop (i + 1) order) (drop (i + 1) keep) in
    elim c.if-is.branch [
      | then-is+in_ok-push w ↦
          ap (λ (a : Vec Bool Global). a.items ++ rest) w.answers-is
          ∙ ap (λ (l : List Bool). l ++ rest) w.in_ok-push.ensures.items
          ∙ one_answered c.args.party order keep c.loop-place.answers.items _ i _ _ there answered (sym c.is.ensures ∙ w.if-is.true) c.loop-place.invariant
      | else-is w ↦
          ap (λ (a : Vec Bool Global). a.items ++ rest) w.answers-is
          ∙ one_passed c.args.party order keep c.loop-place.answers.items _ i _ true there answered (sym c.is.ensures ∙ w.if-is.false) c.loop-place.invariant
    ]

pub returns : goal.returns
returns c =
    let order : List PendingRecord = c.args.order.now in
    let keep : List Bool = c.args.keep.now in
    let i : ℕ = c.loop-place.place in
    let past : (length order ≤ i) ⊎ (length keep ≤ i) =
    elim (cases_lt i (length order)) [
      | inl less ↦ inr (omega (arith, c.min-place-end.ensures, c.loop-place-test.false, less))
      | inr over ↦ inl over
    ] in
    all_answered c.args.party order keep c.loop-place.answers.items _ i past c.loop-place.invariant
