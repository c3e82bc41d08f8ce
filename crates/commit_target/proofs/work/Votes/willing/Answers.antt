use Rattle.std.proofs.Common.{◌≡◌, ◌+◌, ℕ, List, slice_index_or, subst, arith}
use Rattle.commit_target.specs.declared.work.Vote.{Vote}
use Rattle.commit_target.specs.declared.work.Vote.TheVariants.{Yes, No}
use Rattle.commit_target.proofs.work.Votes.willing.Goals as goal

pub returns-then-first-self-clause-yes : goal.returns-then-first-self-clause-yes
returns-then-first-self-clause-yes c = λ k h.
    let place : ℕ = c.args.first + k in
    let there : 0 + place ≡ place = omega arith in
    subst (λ (votes : List Vote). slice_index_or votes place No ≡ Yes) c.self.view_is
    (subst (λ (n : ℕ). slice_index_or c.self.inside.votes.items n No ≡ Yes) there (c.self.invariant.1 place (omega arith)))
