-- Printed terms and entries begin and end with bytes that aren't blank, so trimming leaves them.
use Rattle.std.proofs.Common.{◌≡◌, ℕ, ◌+◌, ◌-◌, ◌<◌, List, [], ◌∷◌, ◌++◌, true, false, leb, length, get_or, Option, Some, None, refl, ap, sym, ◌∙◌, arith, subst, append_assoc, length-append, ◌⊎◌, inl, inr}
use Rattle.std.specs.Prelude.{codes}
use Rattle.std.specs.Fmt.{decimal}
use Rattle.std.specs.Char.{is_ascii_digit}
use Rattle.std.specs.List.{list_all}
use Rattle.std.proofs.lemmas.Bool.Decides.{nat_tests}
use Rattle.std.proofs.lemmas.List.{append-nil}
use Rattle.scenario_values.specs.declared.term.Term.{Term}
use Rattle.scenario_values.specs.declared.term.Task.{Task}
use Rattle.scenario_values.specs.declared.term.Task.TheVariants as tasks
use Rattle.scenario_values.specs.Words.{is_blank, trimmed}
use Rattle.scenario_values.specs.Scenario.{is_lawful_term}
use Rattle.scenario_values.specs.Printed.{share_text, count_text, argument_text, task_text, term_text, chain_text}
use Rattle.scenario_grammar.specs.Words.{is_number}
use Rattle.scenario_grammar.specs.Spelling.{SpellsShare, SpellsCount, WholePercent, DecimalPercent}
use Rattle.scenario_grammar.proofs.CutLaws.{and_true}
use Rattle.scenario_grammar.proofs.Trims.{bare_stays}
use Rattle.scenario_grammar.proofs.PrintLaws.{lawful_parts, share_spelled, count_spelled}

-- the first byte isn't blank
pub record Opens (text : List ℕ) : Type 0 where
  pub byte : ℕ
  pub rest : List ℕ
  pub parts : text ≡ byte ∷ rest
  pub plain : is_blank byte ≡ false

-- the last byte isn't blank
pub record Closes (text : List ℕ) : Type 0 where
  pub front : List ℕ
  pub byte : ℕ
  pub parts : text ≡ front ++ (byte ∷ [])
  pub plain : is_blank byte ≡ false

pub opens_append : (xs ys : List ℕ) → Opens xs → Opens (xs ++ ys)
opens_append xs ys h = record { byte = h.byte; rest = h.rest ++ ys; parts = ap (λ (x : List ℕ). x ++ ys) h.parts; plain = h.plain }

pub closes_append : (xs ys : List ℕ) → Closes ys → Closes (xs ++ ys)
closes_append xs ys h = record { front = xs ++ h.front; byte = h.byte; parts = ap (λ (x : List ℕ). xs ++ x) h.parts ∙ sym (append_assoc xs h.front (h.byte ∷ [])); plain = h.plain }

pub both_ends : (text : List ℕ) → Opens text → Closes text → trimmed text ≡ text
both_ends text o c = bare_stays text (record {
  first = λ some. ap (λ (x : List ℕ). is_blank (get_or x 0 0)) o.parts ∙ o.plain;
  last = λ some.
      let long : length text ≡ length c.front + 1 = ap length c.parts ∙ length-append c.front (c.byte ∷ []) in
      let place : length text - 1 ≡ length c.front = omega arith in
      ap (λ (x : List ℕ). is_blank (get_or x (length text - 1) 0)) c.parts
      ∙ ap (λ (k : ℕ). is_blank (get_or (c.front ++ (c.byte ∷ [])) k 0)) place
      ∙ ap is_blank (at_end c.front c.byte)
      ∙ c.plain;
})
  where
    at_end : (xs : List ℕ) (b : ℕ) → get_or (xs ++ (b ∷ [])) (length xs) 0 ≡ b
    at_end [] b = refl
    at_end (x ∷ xs) b = at_end xs b

-- ---- what printed pieces begin and end with

digit_plain : (b : ℕ) → is_ascii_digit b ≡ true → is_blank b ≡ false
digit_plain b h = grind (arith, nat_tests)

number_opens : (text : List ℕ) → is_number text ≡ true → Opens text
number_opens [] h = absurd cc
number_opens (b ∷ text) h =
    let all = and_true (leb 1 (length (b ∷ text))) (list_all is_ascii_digit (b ∷ text)) h in
    let here = and_true (is_ascii_digit b) (list_all is_ascii_digit text) all.1 in
    record { byte = b; rest = text; parts = refl; plain = digit_plain b here.0 }

-- nothing, or something that opens
abbrev OpensIfAny : List ℕ → Type 0
OpensIfAny text = (text ≡ []) ⊎ Opens text

opens_as : (xs ys : List ℕ) → xs ≡ ys → Opens ys → Opens xs
opens_as xs ys e h = subst Opens (sym e) h

share_opens : (text : List ℕ) (share : ℕ) → SpellsShare text share → OpensIfAny text
share_opens text share (inl h) = inl h.0
share_opens text share (inr h) = inr (opens_as text (h.percent ++ (37 ∷ [])) h.parts (opens_append h.percent (37 ∷ []) (percent h.percent h.is)))
  where
    percent : (p : List ℕ) → WholePercent p share ⊎ DecimalPercent p share → Opens p
    percent p (inl w) = number_opens p w.digits
    percent p (inr d) = opens_as p (d.whole ++ (46 ∷ d.decimals)) d.parts (opens_append d.whole (46 ∷ d.decimals) (number_opens d.whole d.whole_digits))

count_opens : (text : List ℕ) (count : Option ℕ) → SpellsCount text count → OpensIfAny text
count_opens text None h = inl h
count_opens text (Some n) h = inr (opens_as text (h.count ++ (42 ∷ [])) h.parts (opens_append h.count (42 ∷ []) (number_opens h.count h.is.digits)))

opens_either : (xs ys : List ℕ) → OpensIfAny xs → Opens ys → Opens (xs ++ ys)
opens_either xs ys (inl e) h = subst Opens (ap (λ (x : List ℕ). x ++ ys) (sym e)) h
opens_either xs ys (inr o) h = opens_append xs ys o

either_append : (xs ys : List ℕ) → OpensIfAny xs → OpensIfAny ys → OpensIfAny (xs ++ ys)
either_append xs ys (inl e) (inl f) = inl (ap (λ (x : List ℕ). x ++ ys) e ∙ f)
either_append xs ys (inl e) (inr o) = inr (opens_either xs ys (inl e) o)
either_append xs ys (inr o) h = inr (opens_append xs ys o)

task_opens : (t : Task) → Opens (task_text t)
task_opens tasks.Off = record { byte = 111; rest = codes "ff"; parts = refl; plain = refl }
task_opens (tasks.Return a) = record { byte = 114; rest = codes "eturn" ++ argument_text a; parts = refl; plain = refl }
task_opens (tasks.Sleep n) = record { byte = 115; rest = codes "leep" ++ argument_text (Some (decimal n)); parts = refl; plain = refl }
task_opens (tasks.Panic a) = record { byte = 112; rest = codes "anic" ++ argument_text a; parts = refl; plain = refl }
task_opens (tasks.Print a) = record { byte = 112; rest = codes "rint" ++ argument_text a; parts = refl; plain = refl }
task_opens tasks.Pause = record { byte = 112; rest = codes "ause"; parts = refl; plain = refl }
task_opens tasks.Yield = record { byte = 121; rest = codes "ield"; parts = refl; plain = refl }
task_opens (tasks.Delay n) = record { byte = 100; rest = codes "elay" ++ argument_text (Some (decimal n)); parts = refl; plain = refl }

pub term_opens : (t : Term) → is_lawful_term t ≡ true → Opens (term_text t)
unfolding term_text
term_opens t lawful =
    let h = lawful_parts t lawful in
    opens_either (share_text t.share ++ count_text t.count) (task_text t.task)
    (either_append (share_text t.share) (count_text t.count) (share_opens (share_text t.share) t.share (share_spelled t.share h.share)) (count_opens (count_text t.count) t.count (count_spelled t.count h.count)))
    (task_opens t.task)

argument_closes : (word : List ℕ) (a : Option (List ℕ)) → Closes word → Closes (word ++ argument_text a)
argument_closes word None h = subst Closes (sym (append-nil word)) h
argument_closes word (Some text) h = closes_append word (40 ∷ (text ++ (41 ∷ []))) (record { front = 40 ∷ text; byte = 41; parts = refl; plain = refl })

task_closes : (t : Task) → Closes (task_text t)
task_closes tasks.Off = record { front = codes "of"; byte = 102; parts = refl; plain = refl }
task_closes (tasks.Return a) = argument_closes (codes "return") a (record { front = codes "retur"; byte = 110; parts = refl; plain = refl })
task_closes (tasks.Sleep n) = argument_closes (codes "sleep") (Some (decimal n)) (record { front = codes "slee"; byte = 112; parts = refl; plain = refl })
task_closes (tasks.Panic a) = argument_closes (codes "panic") a (record { front = codes "pani"; byte = 99; parts = refl; plain = refl })
task_closes (tasks.Print a) = argument_closes (codes "print") a (record { front = codes "prin"; byte = 116; parts = refl; plain = refl })
task_closes tasks.Pause = record { front = codes "paus"; byte = 101; parts = refl; plain = refl }
task_closes tasks.Yield = record { front = codes "yiel"; byte = 100; parts = refl; plain = refl }
task_closes (tasks.Delay n) = argument_closes (codes "delay") (Some (decimal n)) (record { front = codes "dela"; byte = 121; parts = refl; plain = refl })

pub term_closes : (t : Term) → Closes (term_text t)
unfolding term_text
term_closes t = closes_append (share_text t.share ++ count_text t.count) (task_text t.task) (task_closes t.task)

pub term_trimmed : (t : Term) → is_lawful_term t ≡ true → trimmed (term_text t) ≡ term_text t
term_trimmed t lawful = both_ends (term_text t) (term_opens t lawful) (term_closes t)

pub chain_closes : (ts : List Term) → 0 < length ts → Closes (chain_text ts)
unfolding chain_text
chain_closes [] some = absurd (omega arith)
chain_closes (t ∷ []) some = subst Closes (sym (append-nil (term_text t))) (term_closes t)
chain_closes (t ∷ u ∷ us) some = closes_append (term_text t) (45 ∷ 62 ∷ chain_text (u ∷ us)) (closes_append (45 ∷ 62 ∷ []) (chain_text (u ∷ us)) (chain_closes (u ∷ us) (omega arith)))
