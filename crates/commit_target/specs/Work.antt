-- The workload of a run.
use Rattle.std.specs.Prelude.{◌≡◌, ℕ, ◌≤◌, List, [], All, length, slice_index_or}
use Rattle.commit_target.specs.declared.work.Vote.{Vote}
use Rattle.commit_target.specs.declared.work.Vote.TheVariants.{No}

-- The number of participants, and for each transaction their wishes.
pub record Work : Type 0 where
  pub participants : ℕ
  pub transactions : List (List Vote)

-- There are 1 to 8 participants and at most 100 transactions, and each transaction has one wish for each participant.
pub record IsWork (work : Work) : Type 0 where
  pub some : 1 ≤ work.participants
  pub few : work.participants ≤ 8
  pub short : length work.transactions ≤ 100
  pub wishes : All (λ votes. length votes ≡ work.participants) work.transactions

-- The wish of a participant in a transaction, both numbered from 0.
abbrev pub wish : Work → ℕ → ℕ → Vote
wish w transaction participant = slice_index_or (slice_index_or w.transactions transaction []) participant No
