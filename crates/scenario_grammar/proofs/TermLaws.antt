-- What a term's text spells is what it is read as, and the other way round.
use Rattle.std.proofs.Common.{◌≡◌, ℕ, ◌≤◌, List, [], ◌∷◌, ◌++◌, true, not, eqb, leb, length, Option, Some, None, Ok, refl, ap, sym, ◌∙◌, arith, subst, ◌⊎◌, inl, inr, append_assoc}
use Rattle.std.specs.Prelude.{codes}
use Rattle.std.specs.Char.{is_ascii_digit}
use Rattle.std.specs.List.{list_all}
use Rattle.std.proofs.lemmas.Bool.Decides.{nat_tests}
use Rattle.scenario_values.specs.declared.term.Term.{Term}
use Rattle.scenario_values.specs.declared.term.Task.{Task}
use Rattle.scenario_values.specs.declared.term.Task.TheVariants as tasks
use Rattle.scenario_grammar.specs.Words.{cut}
use Rattle.scenario_values.specs.Words.{lacks}
use Rattle.scenario_grammar.specs.FirstFault.{number_up_to, share_of, head_of, share_at, count_at, task_of, term_of, millis_of}
use Rattle.scenario_grammar.specs.Words.{is_number}
use Rattle.scenario_grammar.specs.Spelling.{Numeral, WholePercent, DecimalPercent, SpellsShare, SpellsCount, Millis, Names, with_argument, SpellsTerm}
use Rattle.scenario_grammar.proofs.CutLaws.{and_true, and_both, all_implies, all_append, cut_lacks, cut_at}
use Rattle.scenario_grammar.proofs.Blanks.{without_last_push}

-- ---- what a text lacks

digits_of : (text : List ℕ) → is_number text ≡ true → list_all is_ascii_digit text ≡ true
digits_of text h = (and_true (leb 1 (length text)) (list_all is_ascii_digit text) h).1

not_point : (b : ℕ) → is_ascii_digit b ≡ true → not (eqb b 46) ≡ true
not_point b h = grind (arith, nat_tests)

-- digits hold no other byte
pub number_lacks : (c : ℕ) (text : List ℕ) → ((b : ℕ) → is_ascii_digit b ≡ true → not (eqb b c) ≡ true) → is_number text ≡ true → lacks c text ≡ true
number_lacks c text other h = all_implies is_ascii_digit (λ b. not (eqb b c)) other text (digits_of text h)

not_percent : (b : ℕ) → is_ascii_digit b ≡ true → not (eqb b 37) ≡ true
not_percent b h = grind (arith, nat_tests)

not_star : (b : ℕ) → is_ascii_digit b ≡ true → not (eqb b 42) ≡ true
not_star b h = grind (arith, nat_tests)

not_open : (b : ℕ) → is_ascii_digit b ≡ true → not (eqb b 40) ≡ true
not_open b h = grind (arith, nat_tests)

-- ---- the share

pub share_of_whole : (text : List ℕ) (share : ℕ) → WholePercent text share → share_of text ≡ Some share
unfolding share_of
share_of_whole text share h = rw (cut_lacks 46 text (number_lacks 46 text not_point h.digits), h.digits, ← h.value) refl

pub share_of_decimal : (text : List ℕ) (share : ℕ) → DecimalPercent text share → share_of text ≡ Some share
unfolding share_of
share_of_decimal text share h =
    let e : cut 46 text ≡ Some (h.whole, h.decimals) = ap (cut 46) h.parts ∙ cut_at 46 h.whole h.decimals (number_lacks 46 h.whole not_point h.whole_digits) in
    rw (e, h.whole_digits, h.decimal_digits, short (length h.decimals) h.few, ← h.value) refl
  where
    short : (n : ℕ) → n ≤ 4 → leb n 4 ≡ true
    short n le = grind (arith, nat_tests)

percent_lacks : (c : ℕ) (text : List ℕ) (share : ℕ) → ((b : ℕ) → is_ascii_digit b ≡ true → not (eqb b c) ≡ true) → not (eqb 46 c) ≡ true → WholePercent text share ⊎ DecimalPercent text share → lacks c text ≡ true
percent_lacks c text share other point (inl h) = number_lacks c text other h.digits
percent_lacks c text share other point (inr h) = rw h.parts (all_append (λ b. not (eqb b c)) h.whole (46 ∷ h.decimals) (number_lacks c h.whole other h.whole_digits) (and_both (not (eqb 46 c)) (lacks c h.decimals) point (number_lacks c h.decimals other h.decimal_digits)))

share_is : (text : List ℕ) (share : ℕ) → WholePercent text share ⊎ DecimalPercent text share → share_of text ≡ Some share
share_is text share (inl h) = share_of_whole text share h
share_is text share (inr h) = share_of_decimal text share h

pub share_read : (front rest : List ℕ) (share : ℕ) → SpellsShare front share → lacks 37 rest ≡ true → share_at (front ++ rest) ≡ Ok (share, rest)
unfolding share_at
share_read front rest share (inl h) plain = rw (h.0, cut_lacks 37 rest plain, ← h.1) refl
share_read front rest share (inr h) plain =
    let e : front ++ rest ≡ h.percent ++ (37 ∷ rest) = rw h.parts (append_assoc h.percent (37 ∷ []) rest) in
    rw (e, cut_at 37 h.percent rest (percent_lacks 37 h.percent share not_percent refl h.is), share_is h.percent share h.is) refl

numeral_read : (most : ℕ) (text : List ℕ) (n : ℕ) → Numeral text n → n ≤ most → number_up_to most text ≡ Some n
numeral_read most text n h le = rw (h.digits, h.value, fits n most le) refl
  where
    fits : (n most : ℕ) → n ≤ most → leb n most ≡ true
    fits n most le = grind (arith, nat_tests)

pub count_read : (front word : List ℕ) (count : Option ℕ) → SpellsCount front count → lacks 42 word ≡ true → count_at (front ++ word) ≡ Ok (count, word)
unfolding count_at
count_read front word None h plain = rw (h, cut_lacks 42 word plain) refl
count_read front word (Some n) h plain =
    let e : front ++ word ≡ h.count ++ (42 ∷ word) = rw h.parts (append_assoc h.count (42 ∷ []) word) in
    rw (e, cut_at 42 h.count word (number_lacks 42 h.count not_star h.is.digits), numeral_read 4294967295 h.count n h.is h.small) refl

pub head_read : (head : List ℕ) (argument : Option (List ℕ)) → lacks 40 head ≡ true → head_of (with_argument head argument) ≡ Ok (head, argument)
unfolding head_of
head_read head None plain = rw (cut_lacks 40 head plain) refl
head_read head (Some text) plain = rw (cut_at 40 head (text ++ (41 ∷ [])) plain, without_last_push 41 text) refl

-- a word of the grammar holds none of its marks
pub record Plain (word : List ℕ) : Type 0 where
  pub percent : lacks 37 word ≡ true
  pub star : lacks 42 word ≡ true
  pub opening : lacks 40 word ≡ true

plain_as : (word known : List ℕ) → word ≡ known → Plain known → Plain word
plain_as word known e h = subst Plain (sym e) h

pub word_plain : (word : List ℕ) (argument : Option (List ℕ)) (task : Task) → Names word argument task → Plain word
word_plain word argument tasks.Off h = plain_as word (codes "off") h (record { percent = refl; star = refl; opening = refl })
word_plain word argument (tasks.Return kept) h = plain_as word (codes "return") h.0 (record { percent = refl; star = refl; opening = refl })
word_plain word argument (tasks.Sleep n) h = plain_as word (codes "sleep") h.0 (record { percent = refl; star = refl; opening = refl })
word_plain word argument (tasks.Panic kept) h = plain_as word (codes "panic") h.0 (record { percent = refl; star = refl; opening = refl })
word_plain word argument (tasks.Print kept) h = plain_as word (codes "print") h.0 (record { percent = refl; star = refl; opening = refl })
word_plain word argument tasks.Pause h = plain_as word (codes "pause") h (record { percent = refl; star = refl; opening = refl })
word_plain word argument tasks.Yield h = plain_as word (codes "yield") h (record { percent = refl; star = refl; opening = refl })
word_plain word argument (tasks.Delay n) h = plain_as word (codes "delay") h.0 (record { percent = refl; star = refl; opening = refl })

millis_read : (argument : Option (List ℕ)) (n : ℕ) → Millis argument n → millis_of argument ≡ Ok n
millis_read argument n h = rw (h.given, numeral_read 1000000000 h.text n h.is h.small) refl

pub task_read : (word : List ℕ) (argument : Option (List ℕ)) (task : Task) → Names word argument task → task_of word argument ≡ Ok task
unfolding task_of
task_read word argument tasks.Off h = rw h refl
task_read word argument (tasks.Return kept) h = rw (h.0, h.1) refl
task_read word argument (tasks.Sleep n) h = rw (h.0, millis_read argument n h.1) refl
task_read word argument (tasks.Panic kept) h = rw (h.0, h.1) refl
task_read word argument (tasks.Print kept) h = rw (h.0, h.1) refl
task_read word argument tasks.Pause h = rw h refl
task_read word argument tasks.Yield h = rw h refl
task_read word argument (tasks.Delay n) h = rw (h.0, millis_read argument n h.1) refl

pub share_text_lacks : (c : ℕ) (text : List ℕ) (share : ℕ) → ((b : ℕ) → is_ascii_digit b ≡ true → not (eqb b c) ≡ true) → not (eqb 46 c) ≡ true → not (eqb 37 c) ≡ true → SpellsShare text share → lacks c text ≡ true
share_text_lacks c text share other point percent (inl h) = rw h.0 refl
share_text_lacks c text share other point percent (inr h) = rw h.parts (all_append (λ b. not (eqb b c)) h.percent (37 ∷ []) (percent_lacks c h.percent share other point h.is) (and_both (not (eqb 37 c)) true percent refl))

pub count_text_lacks : (c : ℕ) (text : List ℕ) (count : Option ℕ) → ((b : ℕ) → is_ascii_digit b ≡ true → not (eqb b c) ≡ true) → not (eqb 42 c) ≡ true → SpellsCount text count → lacks c text ≡ true
count_text_lacks c text None other star h = rw h refl
count_text_lacks c text (Some n) other star h = rw h.parts (all_append (λ b. not (eqb b c)) h.count (42 ∷ []) (number_lacks c h.count other h.is.digits) (and_both (not (eqb 42 c)) true star refl))

pub term_read : (text : List ℕ) (t : Term) → SpellsTerm text t → term_of text ≡ Ok t
unfolding term_of
term_read text t h =
    let plain = word_plain h.word h.argument t.task h.task in
    let rest_plain : lacks 37 (h.count_text ++ h.word) ≡ true = all_append (λ b. not (eqb b 37)) h.count_text h.word (count_text_lacks 37 h.count_text t.count not_percent refl h.count) plain.percent in
    let head_plain : lacks 40 (h.share_text ++ (h.count_text ++ h.word)) ≡ true =
    all_append (λ b. not (eqb b 40)) h.share_text (h.count_text ++ h.word) (share_text_lacks 40 h.share_text t.share not_open refl refl h.share)
    (all_append (λ b. not (eqb b 40)) h.count_text h.word (count_text_lacks 40 h.count_text t.count not_open refl h.count) plain.opening) in
    rw (h.parts, head_read (h.share_text ++ (h.count_text ++ h.word)) h.argument head_plain, share_read h.share_text (h.count_text ++ h.word) t.share h.share rest_plain, count_read h.count_text h.word t.count h.count plain.star, task_read h.word h.argument t.task h.task) refl
