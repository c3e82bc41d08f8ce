-- Answers as numbers from 1 on. A return with a text has a number by the text's place in a list.
use Rattle.std.specs.Prelude.{◌≡◌, ℕ, ◌+◌, List, ◌++◌, Option, None, Some, option_map, position}
use Rattle.std.specs.Str.{bytes_eq}
use Rattle.action_eval.specs.Answers.{Reply, Go, Return, Halt}

abbrev pub number_in : List (List ℕ) → Reply → Option ℕ
number_in texts Go = Some 1
number_in texts Halt = Some 2
number_in texts (Return None) = Some 3
number_in texts (Return (Some text)) = option_map (λ place. 4 + place) (position (bytes_eq text) texts)

pub record Extends (old new : List (List ℕ)) : Type 0 where
  pub more : List (List ℕ)
  pub are : new ≡ old ++ more
