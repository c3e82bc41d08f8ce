-- The workload of a run: the chunks of each message.
use Rattle.std.specs.Prelude.{ℕ, ◌≤◌, List, length}

-- There are at most 1,000 messages.
pub record IsMessages (messages : List (List (List ℕ))) : Type 0 where
  pub few : length messages ≤ 1000
