use Rattle.answer_text.proofs.TextLaws.{text_gives, text_read}
use Rattle.answer_text.proofs.laws.texts_say_what_is_read.Goals as goal

pub returns : goal.returns
returns c = record {
  read = text_read;
  said = λ needed names points text runs h. (text_gives needed names points text runs h).says;
}
