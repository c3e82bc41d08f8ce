-- What a text spells is lawful.
use Rattle.std.proofs.Common.{◌≡◌, ℕ, ◌<◌, ◌≤◌, List, [], ◌∷◌, ◌++◌, true, ◌&&◌, not, eqb, leb, ltb, length, Option, Some, None, refl, sym, ◌∙◌, arith, subst, inl, inr, append_assoc}
use Rattle.std.specs.Option.{option_map_or}
use Rattle.std.specs.List.{AllByRecursion}
use Rattle.std.specs.Str.{bytes_eq}
use Rattle.std.proofs.lemmas.Bool.Decides.{nat_tests}
use Rattle.std.proofs.lemmas.Slice.Eq.{bytes_eq-Decides}
use Rattle.scenario_values.specs.declared.term.Term.{Term}
use Rattle.scenario_values.specs.declared.term.Task.{Task}
use Rattle.scenario_values.specs.declared.term.Task.TheVariants as tasks
use Rattle.scenario_values.specs.Words.{lacks, lacks_arrow, trimmed}
use Rattle.scenario_values.specs.Scenario.{is_name, is_lawful_argument, is_lawful_task, is_lawful_term}
use Rattle.scenario_grammar.specs.Words.{cut_at_arrows}
use Rattle.scenario_grammar.specs.Spelling.{SpellsShare, SpellsCount, Names, with_argument, SpellsTerm, SpellsParts, SpellsAction, SpellsPieces}
use Rattle.scenario_grammar.proofs.CutLaws.{and_both}
use Rattle.scenario_grammar.proofs.Inside.{Inside, lacks_inside, arrow_inside, all_parts, trimmed_inside, parts_lack, parts_lack_arrows}
use Rattle.scenario_grammar.proofs.Trims.{trimmed_again}

at_most : (m n : ℕ) → m ≤ n → leb m n ≡ true
at_most m n le = grind (arith, nat_tests)

below : (m n : ℕ) → m < n → ltb m n ≡ true
below m n lt = grind (arith, nat_tests)

pub same_bytes : (xs ys : List ℕ) → xs ≡ ys → bytes_eq xs ys ≡ true
same_bytes xs ys e = (bytes_eq-Decides xs ys).1 e

-- the text of an argument stands in the text of its term
argument_inside : (text head argument : List ℕ) → text ≡ with_argument head (Some argument) → Inside argument text
argument_inside text head argument e = record { front = head ++ (40 ∷ []); back = 41 ∷ []; parts = e ∙ sym (append_assoc head (40 ∷ []) (argument ++ (41 ∷ []))) }

argument_lawful : (text head : List ℕ) (argument : Option (List ℕ)) → text ≡ with_argument head argument → lacks 59 text ≡ true → lacks_arrow text ≡ true → is_lawful_argument argument ≡ true
argument_lawful text head None e semi arrow = refl
argument_lawful text head (Some a) e semi arrow =
    let at = argument_inside text head a e in
    and_both (lacks 59 a) (lacks_arrow a) (lacks_inside 59 a text at semi) (arrow_inside a text at arrow)

task_lawful : (word : List ℕ) (argument : Option (List ℕ)) (task : Task) → Names word argument task → is_lawful_argument argument ≡ true → is_lawful_task task ≡ true
task_lawful word argument tasks.Off h lawful = refl
task_lawful word argument (tasks.Return kept) h lawful = rw h.1 lawful
task_lawful word argument (tasks.Sleep n) h lawful = at_most n 1000000000 h.1.small
task_lawful word argument (tasks.Panic kept) h lawful = rw h.1 lawful
task_lawful word argument (tasks.Print kept) h lawful = rw h.1 lawful
task_lawful word argument tasks.Pause h lawful = refl
task_lawful word argument tasks.Yield h lawful = refl
task_lawful word argument (tasks.Delay n) h lawful = at_most n 1000000000 h.1.small

share_lawful : (text : List ℕ) (share : ℕ) → SpellsShare text share → share ≤ 1000000
share_lawful text share (inl h) = omega (arith, h.1)
share_lawful text share (inr h) = elim h.is [ inl w ↦ omega (arith, w.value) | inr d ↦ omega (arith, d.value) ]

count_lawful : (text : List ℕ) (count : Option ℕ) → SpellsCount text count → option_map_or (λ n. leb n 4294967295) count true ≡ true
count_lawful text None h = refl
count_lawful text (Some n) h = at_most n 4294967295 h.small

pub term_lawful : (text : List ℕ) (t : Term) → SpellsTerm text t → lacks 59 text ≡ true → lacks_arrow text ≡ true → is_lawful_term t ≡ true
term_lawful text t h semi arrow =
    and_both (leb t.share 1000000 && option_map_or (λ n. leb n 4294967295) t.count true) (is_lawful_task t.task)
    (and_both (leb t.share 1000000) (option_map_or (λ n. leb n 4294967295) t.count true) (at_most t.share 1000000 (share_lawful h.share_text t.share h.share)) (count_lawful h.count_text t.count h.count))
    (task_lawful h.word h.argument t.task h.task (argument_lawful text (h.share_text ++ (h.count_text ++ h.word)) h.argument h.parts semi arrow))

chain_lawful : (parts : List (List ℕ)) (ts : List Term) → SpellsParts parts ts → AllByRecursion (λ p. lacks 59 p ≡ true) parts → AllByRecursion (λ p. lacks_arrow p ≡ true) parts → AllByRecursion (λ t. is_lawful_term t ≡ true) ts
chain_lawful [] [] h semi arrow = tt
chain_lawful [] (t ∷ ts) h semi arrow = absurd h
chain_lawful (p ∷ ps) [] h semi arrow = absurd h
chain_lawful (p ∷ ps) (t ∷ ts) h semi arrow =
    let at = trimmed_inside p in
    (term_lawful (trimmed p) t h.0 (lacks_inside 59 (trimmed p) p at semi.0) (arrow_inside (trimmed p) p at arrow.0), chain_lawful ps ts h.1 semi.1 arrow.1)

pub name_is_lawful : (front name : List ℕ) → name ≡ trimmed front → 0 < length name → lacks 59 front ≡ true → lacks 61 front ≡ true → is_name name ≡ true
name_is_lawful front name e some semi equals =
    let at = trimmed_inside front in
    let P : List ℕ → Type 0 = λ x. is_name x ≡ true in
    let long : 0 < length (trimmed front) = rw (← e) some in
    subst P (sym e)
    (and_both (ltb 0 (length (trimmed front)) && bytes_eq (trimmed (trimmed front)) (trimmed front) && lacks 59 (trimmed front)) (lacks 61 (trimmed front))
    (and_both (ltb 0 (length (trimmed front)) && bytes_eq (trimmed (trimmed front)) (trimmed front)) (lacks 59 (trimmed front))
    (and_both (ltb 0 (length (trimmed front))) (bytes_eq (trimmed (trimmed front)) (trimmed front)) (below 0 (length (trimmed front)) long) (same_bytes (trimmed (trimmed front)) (trimmed front) (trimmed_again front)))
    (lacks_inside 59 (trimmed front) front at semi))
    (lacks_inside 61 (trimmed front) front at equals))

-- an action of lawful name and terms
pub record IsLawful (e : List ℕ × List Term) : Type 0 where
  pub name : is_name e.0 ≡ true
  pub terms : AllByRecursion (λ t. is_lawful_term t ≡ true) e.1

pub action_lawful : (piece : List ℕ) (e : List ℕ × List Term) → SpellsAction piece e → lacks 59 piece ≡ true → IsLawful e
action_lawful piece e h semi =
    let whole : lacks 59 (h.front ++ (61 ∷ h.back)) ≡ true = rw (← h.parts) semi in
    let two = all_parts (λ b. not (eqb b 59)) h.front (61 ∷ h.back) whole in
    record {
      name = name_is_lawful h.front e.0 h.name h.some_name two.0 h.first;
      terms = chain_lawful (cut_at_arrows h.back) e.1 h.chain (parts_lack 59 h.back two.1) (parts_lack_arrows h.back);
    }

pub pieces_lawful : (pieces : List (List ℕ)) (actions : List (List ℕ × List Term)) → SpellsPieces pieces actions → AllByRecursion (λ p. lacks 59 p ≡ true) pieces → AllByRecursion IsLawful actions
pieces_lawful [] [] h semi = tt
pieces_lawful [] (e ∷ es) h semi = absurd h
pieces_lawful (p ∷ ps) [] h semi = tt
pieces_lawful (p ∷ ps) (e ∷ es) (inl h) semi = pieces_lawful ps (e ∷ es) h.1 semi.1
pieces_lawful (p ∷ ps) (e ∷ es) (inr h) semi = (action_lawful (trimmed p) e h.1 (lacks_inside 59 (trimmed p) p (trimmed_inside p) semi.0), pieces_lawful ps es h.2 semi.1)
