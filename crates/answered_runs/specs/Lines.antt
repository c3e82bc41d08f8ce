-- The text that recorded runs were read from.
use Rattle.std.specs.Prelude.{◌≡◌, ℕ, ◌<◌, ◌^◌, List, length}
use Rattle.answer_text.specs.Runs.{RunBook, known_runs, told_in}

-- By these names of codes and points the text says what the book records, if it says anything.
pub record AreLinesOf (codes points : List (List ℕ)) (text : List ℕ) (book : RunBook) : Type 0 where
  pub told : told_in book ≡ known_runs codes points text
  pub few_codes : length codes < 2 ^ 32
  pub few_points : length points < 2 ^ 32
