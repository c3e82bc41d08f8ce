use Rattle.std.proofs.Common.{rules, ◌≡◌, ◌≤◌, ◌-◌, ◌∙◌, ℕ, List, length, get_or, ap, sym, arith}
use Rattle.std.proofs.lemmas.List.{get_or_append_left, get_or-append_right}
use Rattle.commit_target.specs.Steps.{Tally}
use Rattle.commit_target.specs.inside.Batches.{first_ones}
use Rattle.commit_target.proofs.First.{length-first, first_at}
use Rattle.commit_target.proofs.progress.Progress.voter.Goals as goal

pub returns-then-place-self : goal.returns-then-place-self
returns-then-place-self c =
    let front : ℕ = c.self.inside.front in
    let rest : List ℕ = c.self.inside.rest.items in
    let size : length (first_ones front) ≡ front = length-first front in
    sym (first_at front c.args.place c.if-place-self.true)
    ∙ sym (get_or_append_left (first_ones front) rest 0 c.args.place (omega arith))
    ∙ ap (λ (t : Tally). get_or t.yes c.args.place 0) c.self.view_is

pub returns-else-place-self : goal.returns-else-place-self
returns-else-place-self c =
    let front : ℕ = c.self.inside.front in
    let rest : List ℕ = c.self.inside.rest.items in
    let from : front ≤ c.args.place = omega arith in
    let there : c.unwrap_or.result ≡ get_or rest (c.args.place - front) 0 = search rules in
    there
    ∙ sym (get_or-append_right (first_ones front) rest front c.args.place 0 (length-first front) from)
    ∙ ap (λ (t : Tally). get_or t.yes c.args.place 0) c.self.view_is
