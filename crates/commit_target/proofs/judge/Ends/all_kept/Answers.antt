use Rattle.std.proofs.Common.{rules, ◌≡◌, ℕ, bit_or, bit_and, arith}
use Rattle.std.specs.Int.{bit_not, w64}
use Rattle.commit_target.proofs.Sets.{kept_at}
use Rattle.commit_target.proofs.judge.Ends.all_kept.Goals as goal

pub returns : goal.returns
returns c = λ all k h.
    let committed : ℕ = c.args.self.now.committed in
    let aborted : ℕ = c.args.self.now.aborted in
    let told : ℕ = c.args.self.now.told in
    let none : bit_or (bit_or (bit_and committed aborted) (bit_and committed (bit_not w64 told))) (bit_and told (bit_not w64 committed)) ≡ 0 = search rules in
    kept_at committed aborted told (omega arith) (omega arith) none k h
