use Rattle.std.proofs.Common.{◌≡◌, ◌<◌, length, true, false, not, sym, ap, ◌∙◌, arith}
use Rattle.result_book.specs.Slots.{has}
use Rattle.result_book.proofs.SlotLemmas.{enter_new, enter_twice, enter_far, taken_in}
use Rattle.result_book.proofs.book.Book.put_free.Goals.{else-number-len-via-then-number-len+else-is_none, else-number-len-via-else-number-len}
use Rattle.result_book.proofs.book.Book.put_free.Goals as goal

pub returns-then-is_none : goal.returns-then-is_none
returns-then-is_none c =
    let slots = c.args.self.now in
    let n = c.args.number in
    let lt : n < length slots = omega (arith, c.if-number-len.true, c.len.ensures.many) in
    let free : has slots n ≡ false = sym (taken_in slots n c.at.result c.at.ensures) ∙ c.is_none.ensures ∙ ap not c.if-is_none.true in
    c.fill.ensures ∙ enter_new slots n c.args.verdict lt free

pub returns-else-number-len : goal.returns-else-number-len
returns-else-number-len c = elim c.else-number-len.branch [
  | else-number-len-via-then-number-len+else-is_none w ↦
      let slots = c.args.self.now in
      let n = c.args.number in
      let taken : has slots n ≡ true = sym (taken_in slots n w.at.result w.at.ensures) ∙ w.is_none.ensures ∙ ap not w.if-is_none.false in
      enter_twice slots n c.args.verdict taken
  | else-number-len-via-else-number-len w ↦ enter_far c.args.self.now c.args.number c.args.verdict (omega (arith, w.if-number-len.false, c.len.ensures.many))
]
