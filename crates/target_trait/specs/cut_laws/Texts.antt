-- The text of a return, and targets to which it makes no difference.
use Rattle.std.specs.Prelude.{◌≡◌, List, None, map}
use Rattle.action_eval.specs.Answers.{Reply, Go, Return, Halt}
use Rattle.target_trait.specs.Play.{Move}

-- An answer without its text.
abbrev pub without_text : Reply → Reply
without_text Go = Go
without_text (Return text) = Return None
without_text Halt = Halt

-- The same is asked, and judged at the end, whatever texts the returns have.
abbrev pub PassesOverTexts : (List Reply → Move) → Type 0
PassesOverTexts asks = (answers : List Reply) → asks (map without_text answers) ≡ asks answers
