use Rattle.std.proofs.Common.{rules, ◌≡◌, ◌+◌, ◌∙◌, ℕ, List, length, ap, sym}
use Rattle.std.proofs.lemmas.List.{length-append}
use Rattle.commit_target.specs.Steps.{Tally}
use Rattle.commit_target.specs.inside.Batches.{first_ones}
use Rattle.commit_target.proofs.First.{length-first}
use Rattle.commit_target.proofs.progress.Progress.voters.Goals as goal

pub returns : goal.returns
returns c =
    let front : ℕ = c.self.inside.front in
    let rest : List ℕ = c.self.inside.rest.items in
    let size : c.len.result ≡ length rest = search rules in
    ap (λ (n : ℕ). front + n) size
    ∙ ap (λ (n : ℕ). n + length rest) (sym (length-first front))
    ∙ sym (length-append (first_ones front) rest)
    ∙ ap (λ (t : Tally). length t.yes) c.self.view_is
