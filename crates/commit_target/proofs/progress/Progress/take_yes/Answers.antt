use Rattle.std.proofs.Common.{rules, List, [], ◌++◌, length, ◌≡◌, ◌≤◌, ◌<◌, ◌+◌, ◌-◌, ℕ, suc, refl, ap, sym, ◌∙◌, arith}
use Rattle.std.proofs.lemmas.List.{append-nil, nil_from_length}
use Rattle.commit_target.specs.Steps.{Tally, Over}
use Rattle.commit_target.specs.inside.Batches.{first_ones, with_all_yes}
use Rattle.commit_target.proofs.First.{with_them, all_yes}
use Rattle.commit_target.proofs.progress.Progress.take_yes.Goals as goal

pub loop-participant-init : goal.loop-participant-init
loop-participant-init c =
    let all : c.args.first + c.args.count - c.args.first ≡ c.args.count = omega arith in
    record { begun = refl; left = ap (λ (m : ℕ). with_all_yes c.args.self.now c.args.first m) all }

pub loop-participant-preserved : goal.loop-participant-preserved
loop-participant-preserved c =
    let i : ℕ = c.args.first in
    let n : ℕ = c.args.count in
    let j : ℕ = c.loop-participant.participant in
    let from : i ≤ j = omega arith in
    let before : j < i + n = omega arith in
    let one : suc (i + n - (j + 1)) ≡ i + n - j = omega arith in
    record {
      begun = ap (λ (t : Tally). t.begun) c.in_ok-take_one.ensures.ok ∙ c.loop-participant.invariant.begun;
      left = ap (λ (t : Tally). with_all_yes t (j + 1) (i + n - (j + 1))) c.in_ok-take_one.ensures.ok
          ∙ ap (λ (m : ℕ). with_all_yes c.loop-participant.self j m) one
          ∙ c.loop-participant.invariant.left;
    }

pub returns-clause-ok : goal.returns-clause-ok
returns-clause-ok c =
    let i : ℕ = c.args.first in
    let n : ℕ = c.args.count in
    let j : ℕ = c.loop-participant.participant in
    let there : i + n ≤ j = omega arith in
    let none : i + n - j ≡ 0 = omega arith in
    ap (λ (m : ℕ). with_all_yes c.loop-participant.self j m) (sym none) ∙ c.loop-participant.invariant.left

pub returns-then-is_empty-clause-ok : goal.returns-then-is_empty-clause-ok
returns-then-is_empty-clause-ok c =
    let i : ℕ = c.args.first in
    let n : ℕ = c.args.count in
    let rest : List ℕ = c.self.inside.rest.items in
    let none : length rest ≡ 0 = search rules in
    let empty : rest ≡ [] = nil_from_length rest none in
    let old : Tally = record { step = Over; begun = c.self.inside.begun; yes = first_ones c.self.inside.front ++ rest; acknowledged = c.self.inside.acknowledged; told = c.self.inside.told.items } in
    let first : old.yes ≡ first_ones i =
    ap (λ (them : List ℕ). first_ones c.self.inside.front ++ them) empty ∙ append-nil _ ∙ ap first_ones (sym c.if-first-self.true) in
    ap (λ (them : List ℕ). with_them old them) (ap (λ (them : List ℕ). first_ones (i + n) ++ them) empty ∙ append-nil _)
    ∙ sym (all_yes old i n first)
    ∙ ap (λ (t : Tally). with_all_yes t i n) c.self.view_is
