-- Terms tried by what is left of their counts are tried as by how often they acted.
use Rattle.std.proofs.Common.{◌≡◌, ℕ, suc, ◌+◌, ◌-◌, ◌≤◌, Bool, true, false, cond, eqb, leb, List, [], ◌∷◌, length, slice_index, Option, Some, None, is_some, refl, ap, sym, ◌∙◌, arith, add-zero, ◌&&◌, nat_lt, ◌%◌}
use Rattle.std.specs.Option.{option_map_or}
use Rattle.std.proofs.lemmas.Bool.Decides.{nat_tests}
use Rattle.scenario_values.specs.declared.term.Term.{Term}
use Rattle.action_eval.specs.Trial.{tried, is_spent, Trial}
use Rattle.action_eval.specs.Answers.{is_used_up}
use Rattle.action_eval.specs.inside.Session.{left_row}

zero_test : (a b : ℕ) → eqb (a - b) 0 ≡ leb a b
zero_test a b = grind (arith, nat_tests)

count_case : (o : Option ℕ) (l n : ℕ) → l ≡ option_map_or (λ c. c - n) o (4294967295 - n) → (is_some o && eqb l 0) ≡ option_map_or (λ c. leb c n) o false
count_case None l n h = refl
count_case (Some c) l n h = ap (λ x. eqb x 0) h ∙ zero_test c n

at_next : (i k : ℕ) → i + suc k ≡ (i + 1) + k
at_next i k = omega arith

pub same_trial : (word : ℕ → ℕ) (row : List ℕ) (times : ℕ → ℕ) (i : ℕ) (ts : List Term) (n : ℕ) → ((k : ℕ) → slice_index row (i + k) ≡ slice_index (left_row times i ts) k) → tried word (is_spent row) i ts n ≡ tried word (is_used_up times) i ts n
same_trial word row times i [] n h = refl
same_trial word row times i (t ∷ ts) n h =
    let spent : is_spent row i t ≡ is_used_up times i t = count_case t.count (slice_index row i) (times i) (ap (slice_index row) (sym (add-zero i)) ∙ h 0) in
    let rest : (k : ℕ) → slice_index row (i + 1 + k) ≡ slice_index (left_row times (i + 1) ts) k = λ k. ap (slice_index row) (sym (at_next i k)) ∙ h (suc k) in
    let here = same_trial word row times (i + 1) ts n rest in
    let there = same_trial word row times (i + 1) ts (n + 1) rest in
    cc

-- the next word is from n to m
abbrev pub Between : ℕ → ℕ → Trial → Type 0
Between n m t = (n ≤ t.next) × (t.next ≤ m)

between_either : (b : Bool) (x y : Trial) (n m : ℕ) → Between n m x → Between n m y → Between n m (cond b x y)
between_either true x y n m p q = p
between_either false x y n m p q = q

between_wider : (x : Trial) (n m n' m' : ℕ) → n' ≤ n → m ≤ m' → Between n m x → Between n' m' x
between_wider x n m n' m' p q b = (omega arith, omega arith)

-- no more words are taken than there are terms
pub few_words : (word : ℕ → ℕ) (spent : ℕ → Term → Bool) (i : ℕ) (ts : List Term) (n : ℕ) → Between n (n + length ts) (tried word spent i ts n)
few_words word spent i [] n = (omega arith, omega arith)
few_words word spent i (t ∷ ts) n =
    let m = n + suc (length ts) in
    let here : Between n m (tried word spent (i + 1) ts n) = between_wider (tried word spent (i + 1) ts n) n (n + length ts) n m (omega arith) (omega arith) (few_words word spent (i + 1) ts n) in
    let there : Between n m (tried word spent (i + 1) ts (n + 1)) = between_wider (tried word spent (i + 1) ts (n + 1)) (n + 1) (n + 1 + length ts) n m (omega arith) (omega arith) (few_words word spent (i + 1) ts (n + 1)) in
    let at : Between n m (record { place = Some i; next = n }) = (omega arith, omega arith) in
    let past : Between n m (record { place = Some i; next = n + 1 }) = (omega arith, omega arith) in
    between_either (spent i t) _ _ n m here (between_either (eqb t.share 1000000) _ _ n m at (between_either (nat_lt (word n % 1000000) t.share) _ _ n m past there))
