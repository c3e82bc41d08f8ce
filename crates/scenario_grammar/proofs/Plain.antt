-- Printed terms and entries hold none of the marks between them.
use Rattle.std.proofs.Common.{◌≡◌, ℕ, ◌^◌, ◌<◌, ◌≤◌, List, [], ◌∷◌, ◌++◌, Bool, true, false, ◌&&◌, not, eqb, leb, Option, Some, None, refl, arith}
use Rattle.std.specs.Prelude.{codes}
use Rattle.std.specs.Fmt.{decimal}
use Rattle.std.specs.Char.{is_ascii_digit}
use Rattle.std.specs.List.{flat_map, AllByRecursion}
use Rattle.std.proofs.lemmas.Bool.Decides.{nat_tests}
use Rattle.scenario_values.specs.declared.term.Term.{Term}
use Rattle.scenario_values.specs.declared.term.Task.{Task}
use Rattle.scenario_values.specs.declared.term.Task.TheVariants as tasks
use Rattle.scenario_values.specs.Words.{lacks, lacks_arrow}
use Rattle.scenario_values.specs.Scenario.{is_lawful_argument, is_lawful_task, is_lawful_term}
use Rattle.scenario_values.specs.Printed.{share_text, count_text, argument_text, task_text, term_text, chain_text, entry_text}
use Rattle.scenario_grammar.proofs.CutLaws.{and_true, and_both, all_append}
use Rattle.scenario_grammar.proofs.TermLaws.{share_text_lacks, count_text_lacks, number_lacks}
use Rattle.scenario_grammar.proofs.PrintLaws.{lawful_parts, share_spelled, count_spelled, numeral}

not_semicolon : (b : ℕ) → is_ascii_digit b ≡ true → not (eqb b 59) ≡ true
not_semicolon b h = grind (arith, nat_tests)

not_dash : (b : ℕ) → is_ascii_digit b ≡ true → not (eqb b 45) ≡ true
not_dash b h = grind (arith, nat_tests)

-- ---- no `;`

argument_semicolon : (word : List ℕ) (a : Option (List ℕ)) → lacks 59 word ≡ true → is_lawful_argument a ≡ true → lacks 59 (word ++ argument_text a) ≡ true
argument_semicolon word None w h = all_append (λ b. not (eqb b 59)) word [] w refl
argument_semicolon word (Some text) w h =
    all_append (λ b. not (eqb b 59)) word (40 ∷ (text ++ (41 ∷ []))) w
    (all_append (λ b. not (eqb b 59)) text (41 ∷ []) (and_true (lacks 59 text) (lacks_arrow text) h).0 refl)

decimal_argument : (c : ℕ) (n : ℕ) → ((b : ℕ) → is_ascii_digit b ≡ true → not (eqb b c) ≡ true) → leb n 1000000000 ≡ true → lacks c (decimal n) ≡ true
decimal_argument c n other le = number_lacks c (decimal n) other (numeral n (small n le)).digits
  where
    small : (n : ℕ) → leb n 1000000000 ≡ true → n < 2 ^ 64
    small n h = let le = at_most n h in omega arith
      where
        at_most : (n : ℕ) → leb n 1000000000 ≡ true → n ≤ 1000000000
        at_most n h = grind (arith, nat_tests)

lawful_decimal : (n : ℕ) → leb n 1000000000 ≡ true → is_lawful_argument (Some (decimal n)) ≡ true
lawful_decimal n le = and_both (lacks 59 (decimal n)) (lacks_arrow (decimal n)) (decimal_argument 59 n not_semicolon le) (no_dash (decimal n) (decimal_argument 45 n not_dash le))
  where
    no_dash : (text : List ℕ) → lacks 45 text ≡ true → lacks_arrow text ≡ true
    no_dash [] h = refl
    no_dash (b ∷ []) h = refl
    no_dash (b ∷ c ∷ text) h =
        let parts = and_true (not (eqb b 45)) (lacks 45 (c ∷ text)) h in
        and_both (not (eqb b 45 && eqb c 62)) (lacks_arrow (c ∷ text)) (first (eqb b 45) (eqb c 62) parts.0) (no_dash (c ∷ text) parts.1)
      where
        first : (p q : Bool) → not p ≡ true → not (p && q) ≡ true
        first true q h = absurd cc
        first false q h = refl

task_semicolon : (t : Task) → is_lawful_task t ≡ true → lacks 59 (task_text t) ≡ true
task_semicolon tasks.Off h = refl
task_semicolon (tasks.Return a) h = argument_semicolon (codes "return") a refl h
task_semicolon (tasks.Sleep n) h = argument_semicolon (codes "sleep") (Some (decimal n)) refl (lawful_decimal n h)
task_semicolon (tasks.Panic a) h = argument_semicolon (codes "panic") a refl h
task_semicolon (tasks.Print a) h = argument_semicolon (codes "print") a refl h
task_semicolon tasks.Pause h = refl
task_semicolon tasks.Yield h = refl
task_semicolon (tasks.Delay n) h = argument_semicolon (codes "delay") (Some (decimal n)) refl (lawful_decimal n h)

pub term_semicolon : (t : Term) → is_lawful_term t ≡ true → lacks 59 (term_text t) ≡ true
unfolding term_text
term_semicolon t lawful =
    let h = lawful_parts t lawful in
    all_append (λ b. not (eqb b 59)) (share_text t.share ++ count_text t.count) (task_text t.task)
    (all_append (λ b. not (eqb b 59)) (share_text t.share) (count_text t.count)
    (share_text_lacks 59 (share_text t.share) t.share not_semicolon refl refl (share_spelled t.share h.share))
    (count_text_lacks 59 (count_text t.count) t.count not_semicolon refl (count_spelled t.count h.count)))
    (task_semicolon t.task h.task)

pub chain_semicolon : (ts : List Term) → AllByRecursion (λ t. is_lawful_term t ≡ true) ts → lacks 59 (chain_text ts) ≡ true
unfolding chain_text
chain_semicolon [] h = refl
chain_semicolon (t ∷ ts) h = all_append (λ b. not (eqb b 59)) (term_text t) (flat_map (λ u. 45 ∷ 62 ∷ term_text u) ts) (term_semicolon t h.0) (others ts h.1)
  where
    others : (ts : List Term) → AllByRecursion (λ t. is_lawful_term t ≡ true) ts → lacks 59 (flat_map (λ u. 45 ∷ 62 ∷ term_text u) ts) ≡ true
    others [] h = refl
    others (t ∷ ts) h = all_append (λ b. not (eqb b 59)) (45 ∷ 62 ∷ term_text t) (flat_map (λ u. 45 ∷ 62 ∷ term_text u) ts) (term_semicolon t h.0) (others ts h.1)

pub entry_semicolon : (e : List ℕ × List Term) → lacks 59 e.0 ≡ true → AllByRecursion (λ t. is_lawful_term t ≡ true) e.1 → lacks 59 (entry_text e) ≡ true
entry_semicolon e name chain = all_append (λ b. not (eqb b 59)) e.0 (61 ∷ chain_text e.1) name (chain_semicolon e.1 chain)

-- ---- no `->`

arrow_after : (xs ys : List ℕ) → lacks 45 xs ≡ true → lacks_arrow ys ≡ true → lacks_arrow (xs ++ ys) ≡ true
arrow_after [] ys h k = k
arrow_after (b ∷ []) [] h k = refl
arrow_after (b ∷ []) (c ∷ ys) h k = and_both (not (eqb b 45 && eqb c 62)) (lacks_arrow (c ∷ ys)) (first (eqb b 45) (eqb c 62) (and_true (not (eqb b 45)) true h).0) k
  where
    first : (p q : Bool) → not p ≡ true → not (p && q) ≡ true
    first true q h = absurd cc
    first false q h = refl
arrow_after (b ∷ c ∷ xs) ys h k =
    let parts = and_true (not (eqb b 45)) (lacks 45 (c ∷ xs)) h in
    and_both (not (eqb b 45 && eqb c 62)) (lacks_arrow (c ∷ (xs ++ ys))) (first (eqb b 45) (eqb c 62) parts.0) (arrow_after (c ∷ xs) ys parts.1 k)
  where
    first : (p q : Bool) → not p ≡ true → not (p && q) ≡ true
    first true q h = absurd cc
    first false q h = refl

arrow_closed : (text : List ℕ) → lacks_arrow text ≡ true → lacks_arrow (text ++ (41 ∷ [])) ≡ true
arrow_closed [] h = refl
arrow_closed (b ∷ []) h = and_both (not (eqb b 45 && false)) true (never (eqb b 45)) refl
  where
    never : (p : Bool) → not (p && false) ≡ true
    never true = refl
    never false = refl
arrow_closed (b ∷ c ∷ text) h =
    let parts = and_true (not (eqb b 45 && eqb c 62)) (lacks_arrow (c ∷ text)) h in
    and_both (not (eqb b 45 && eqb c 62)) (lacks_arrow (c ∷ (text ++ (41 ∷ [])))) parts.0 (arrow_closed (c ∷ text) parts.1)

argument_arrow : (word : List ℕ) (a : Option (List ℕ)) → lacks 45 word ≡ true → is_lawful_argument a ≡ true → lacks_arrow (word ++ argument_text a) ≡ true
argument_arrow word None w h = arrow_after word [] w refl
argument_arrow word (Some text) w h =
    arrow_after word (40 ∷ (text ++ (41 ∷ []))) w
    (arrow_after (40 ∷ []) (text ++ (41 ∷ [])) refl (arrow_closed text (and_true (lacks 59 text) (lacks_arrow text) h).1))

task_arrow : (t : Task) → is_lawful_task t ≡ true → lacks_arrow (task_text t) ≡ true
task_arrow tasks.Off h = refl
task_arrow (tasks.Return a) h = argument_arrow (codes "return") a refl h
task_arrow (tasks.Sleep n) h = argument_arrow (codes "sleep") (Some (decimal n)) refl (lawful_decimal n h)
task_arrow (tasks.Panic a) h = argument_arrow (codes "panic") a refl h
task_arrow (tasks.Print a) h = argument_arrow (codes "print") a refl h
task_arrow tasks.Pause h = refl
task_arrow tasks.Yield h = refl
task_arrow (tasks.Delay n) h = argument_arrow (codes "delay") (Some (decimal n)) refl (lawful_decimal n h)

pub term_arrow : (t : Term) → is_lawful_term t ≡ true → lacks_arrow (term_text t) ≡ true
unfolding term_text
term_arrow t lawful =
    let h = lawful_parts t lawful in
    arrow_after (share_text t.share ++ count_text t.count) (task_text t.task)
    (all_append (λ b. not (eqb b 45)) (share_text t.share) (count_text t.count)
    (share_text_lacks 45 (share_text t.share) t.share not_dash refl refl (share_spelled t.share h.share))
    (count_text_lacks 45 (count_text t.count) t.count not_dash refl (count_spelled t.count h.count)))
    (task_arrow t.task h.task)
