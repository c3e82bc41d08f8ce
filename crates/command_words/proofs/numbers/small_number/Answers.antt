use Rattle.command_words.proofs.WordsLemmas.{number-read, number-refused}
use Rattle.command_words.proofs.numbers.small_number.Goals as goal

pub returns-in-Ok-clause-some : goal.returns-in-Ok-clause-some
returns-in-Ok-clause-some c = number-read c.args.text.now c.in-Ok.number c.in-Ok.ensures.value.0

pub returns-in-Err-clause-none : goal.returns-in-Err-clause-none
returns-in-Err-clause-none c = λ _. number-refused c.args.text.now c.in-Err.ensures.value.0
