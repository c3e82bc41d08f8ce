-- The printed form of a lawful term spells it.
use Rattle.std.proofs.Common.{◌≡◌, ℕ, ◌+◌, ◌-◌, ◌*◌, ◌/◌, ◌%◌, ◌^◌, ◌<◌, ◌≤◌, Ok, List, [], ◌∷◌, ◌++◌, Bool, true, false, ◌&&◌, eqb, leb, ltb, cond, length, min, Option, Some, None, refl, ap, sym, ◌∙◌, arith, subst, inl, inr, append_assoc}
use Rattle.std.specs.Prelude.{codes}
use Rattle.std.specs.Fmt.{decimal}
use Rattle.std.specs.List.{list_all}
use Rattle.std.specs.Option.{option_map_or}
use Rattle.std.specs.Char.{is_ascii_digit}
use Rattle.std.proofs.lemmas.Bool.Decides.{nat_tests}
use Rattle.std.proofs.lemmas.Fmt.{digits_decimal, digits_value-decimal, decimal_nonempty}
use Rattle.scenario_values.specs.declared.term.Term.{Term}
use Rattle.scenario_values.specs.declared.term.Task.{Task}
use Rattle.scenario_values.specs.declared.term.Task.TheVariants as tasks
use Rattle.scenario_values.specs.Scenario.{is_lawful_task, is_lawful_term}
use Rattle.scenario_values.specs.Printed.{decimals_of, point_and, share_text, count_text, argument_text, task_text, term_text}
use Rattle.scenario_grammar.specs.Words.{number}
use Rattle.scenario_grammar.specs.Spelling.{Numeral, WholePercent, DecimalPercent, Percentage, SpellsShare, SpellsCount, Millis, Names, with_argument, SpellsTerm}
use Rattle.scenario_grammar.proofs.CutLaws.{and_true, and_both}
use Rattle.scenario_grammar.proofs.Numbers.{own}
use Rattle.scenario_grammar.proofs.Fractions.{four_places}
use Rattle.scenario_grammar.proofs.TermLaws.{term_read}
use Rattle.scenario_grammar.specs.FirstFault.{term_of}
use Rattle.std.proofs.lemmas.List.{append-nil}

positive : (k : ℕ) → 0 < k → leb 1 k ≡ true
positive k lt = grind (arith, nat_tests)

at_most : (m n : ℕ) → leb m n ≡ true → m ≤ n
at_most m n h = grind (arith, nat_tests)

pub numeral : (n : ℕ) → n < 2 ^ 64 → Numeral (decimal n) n
numeral n small = record {
  digits = and_both (leb 1 (length (decimal n))) (list_all is_ascii_digit (decimal n)) (positive (length (decimal n)) (decimal_nonempty n small)) (digits_decimal own n small);
  value = digits_value-decimal own n small;
}

-- ---- the share

with_decimals : (w f : ℕ) → w < 100 → 0 < f → f < 10000 → DecimalPercent (decimal w ++ (46 ∷ decimals_of 4 f)) (w * 10000 + f)
with_decimals w f few some small =
    let h = four_places f small in
    let whole = numeral w (omega arith) in
    let value : number (decimals_of 4 f) * 10 ^ (4 - length (decimals_of 4 f)) ≡ f = h.value 0 ∙ omega arith in
    record {
      whole = decimal w;
      decimals = decimals_of 4 f;
      parts = refl;
      whole_digits = whole.digits;
      decimal_digits = and_both (leb 1 (length (decimals_of 4 f))) (list_all is_ascii_digit (decimals_of 4 f)) (positive (length (decimals_of 4 f)) (h.some some)) h.digits;
      few = h.few;
      value = sums (number (decimal w)) w (number (decimals_of 4 f) * 10 ^ (4 - length (decimals_of 4 f))) f whole.value value few small;
    }
  where
    sums : (m w v f : ℕ) → m ≡ w → v ≡ f → w < 100 → f < 10000 → w * 10000 + f ≡ min 1000000 (m * 10000 + v)
    sums m w v f a b few small = omega arith

whole_is : (w f : ℕ) (text : List ℕ) → w < 100 → f ≡ 0 → Numeral text w → WholePercent text (w * 10000 + f)
whole_is w f text few z h = let v = h.value in record { digits = h.digits; value = omega arith }

percent_spelled : (w f : ℕ) → w < 100 → f < 10000 → Percentage (decimal w ++ point_and f ++ (37 ∷ [])) (w * 10000 + f)
percent_spelled w f few small = by_test (eqb f 0) refl
  where
    Spelled : List ℕ → Type 0
    Spelled text = Numeral text w

    is_zero : eqb f 0 ≡ true → f ≡ 0
    is_zero is = grind (arith, nat_tests)

    is_some : eqb f 0 ≡ false → 0 < f
    is_some is = grind (arith, nat_tests)

    by_test : (t : Bool) → eqb f 0 ≡ t → Percentage (decimal w ++ cond t [] (46 ∷ decimals_of 4 f) ++ (37 ∷ [])) (w * 10000 + f)
    by_test true is = record { percent = decimal w ++ []; parts = refl; is = inl (whole_is w f (decimal w ++ []) few (is_zero is) (subst Spelled (sym (append-nil (decimal w))) (numeral w (omega arith)))) }
    by_test false is = record { percent = decimal w ++ (46 ∷ decimals_of 4 f); parts = refl; is = inr (with_decimals w f few (is_some is) small) }

pub share_spelled : (share : ℕ) → share ≤ 1000000 → SpellsShare (share_text share) share
unfolding share_text
share_spelled share le = by_test (ltb share 1000000) refl
  where
    is_less : ltb share 1000000 ≡ true → share < 1000000
    is_less is = grind (arith, nat_tests)

    is_full : ltb share 1000000 ≡ false → share ≡ 1000000
    is_full is = grind (arith, nat_tests)

    Of : ℕ → Type 0
    Of n = Percentage (decimal (share / 10000) ++ point_and (share % 10000) ++ (37 ∷ [])) n

    by_test : (t : Bool) → ltb share 1000000 ≡ t → SpellsShare (cond t (decimal (share / 10000) ++ point_and (share % 10000) ++ (37 ∷ [])) []) share
    by_test true is =
        let less = is_less is in
        inr (subst Of (omega arith) (percent_spelled (share / 10000) (share % 10000) (omega arith) (omega arith)))
    by_test false is = inl (refl, is_full is)

-- ---- counts and tasks

pub count_spelled : (count : Option ℕ) → option_map_or (λ n. leb n 4294967295) count true ≡ true → SpellsCount (count_text count) count
count_spelled None h = refl
count_spelled (Some n) h =
    let le = at_most n 4294967295 h in
    record { count = decimal n; parts = refl; is = numeral n (omega arith); small = le }

abbrev pub word_of : Task → List ℕ
word_of tasks.Off = codes "off"
word_of (tasks.Return a) = codes "return"
word_of (tasks.Sleep n) = codes "sleep"
word_of (tasks.Panic a) = codes "panic"
word_of (tasks.Print a) = codes "print"
word_of tasks.Pause = codes "pause"
word_of tasks.Yield = codes "yield"
word_of (tasks.Delay n) = codes "delay"

abbrev pub argument_of : Task → Option (List ℕ)
argument_of (tasks.Return a) = a
argument_of (tasks.Sleep n) = Some (decimal n)
argument_of (tasks.Panic a) = a
argument_of (tasks.Print a) = a
argument_of (tasks.Delay n) = Some (decimal n)
argument_of _ = None

with_text : (word : List ℕ) (a : Option (List ℕ)) → word ++ [] ≡ word → word ++ argument_text a ≡ with_argument word a
with_text word None h = h
with_text word (Some a) h = refl

pub task_is : (t : Task) → task_text t ≡ with_argument (word_of t) (argument_of t)
task_is tasks.Off = refl
task_is (tasks.Return a) = with_text (codes "return") a refl
task_is (tasks.Sleep n) = refl
task_is (tasks.Panic a) = with_text (codes "panic") a refl
task_is (tasks.Print a) = with_text (codes "print") a refl
task_is tasks.Pause = refl
task_is tasks.Yield = refl
task_is (tasks.Delay n) = refl

slept : (n : ℕ) → leb n 1000000000 ≡ true → Millis (Some (decimal n)) n
slept n h = let le = at_most n 1000000000 h in record { text = decimal n; given = refl; is = numeral n (omega arith); small = le }

named : (t : Task) → is_lawful_task t ≡ true → Names (word_of t) (argument_of t) t
named tasks.Off h = refl
named (tasks.Return a) h = (refl, refl)
named (tasks.Sleep n) h = (refl, slept n h)
named (tasks.Panic a) h = (refl, refl)
named (tasks.Print a) h = (refl, refl)
named tasks.Pause h = refl
named tasks.Yield h = refl
named (tasks.Delay n) h = (refl, slept n h)

pub regroup : (s c word : List ℕ) (a : Option (List ℕ)) → (s ++ c) ++ with_argument word a ≡ with_argument (s ++ (c ++ word)) a
regroup s c word None = append_assoc s c word
regroup s c word (Some a) = simp append_assoc

-- what makes a term lawful
pub record LawfulParts (t : Term) : Type 0 where
  pub share : t.share ≤ 1000000
  pub count : option_map_or (λ n. leb n 4294967295) t.count true ≡ true
  pub task : is_lawful_task t.task ≡ true

pub lawful_parts : (t : Term) → is_lawful_term t ≡ true → LawfulParts t
lawful_parts t h =
    let outer = and_true (leb t.share 1000000 && option_map_or (λ n. leb n 4294967295) t.count true) (is_lawful_task t.task) h in
    let inner = and_true (leb t.share 1000000) (option_map_or (λ n. leb n 4294967295) t.count true) outer.0 in
    record { share = at_most t.share 1000000 inner.0; count = inner.1; task = outer.1 }

pub term_spelled : (t : Term) → is_lawful_term t ≡ true → SpellsTerm (term_text t) t
unfolding term_text
term_spelled t lawful =
    let h = lawful_parts t lawful in
    record {
      share_text = share_text t.share;
      count_text = count_text t.count;
      word = word_of t.task;
      argument = argument_of t.task;
      parts = ap (λ (x : List ℕ). (share_text t.share ++ count_text t.count) ++ x) (task_is t.task) ∙ regroup (share_text t.share) (count_text t.count) (word_of t.task) (argument_of t.task);
      share = share_spelled t.share h.share;
      count = count_spelled t.count h.count;
      task = named t.task h.task;
    }

pub term_again : (t : Term) → is_lawful_term t ≡ true → term_of (term_text t) ≡ Ok t
term_again t lawful = term_read (term_text t) t (term_spelled t lawful)
