-- What a term's text is read as, it spells.
use Rattle.std.proofs.Common.{◌≡◌, ℕ, ◌+◌, ◌-◌, ◌*◌, ◌^◌, ◌≤◌, List, [], ◌∷◌, ◌++◌, Bool, true, false, ◌&&◌, leb, cond, length, min, Option, Some, None, Result, Ok, Err, refl, ap, sym, ◌∙◌, arith, subst, ◌⊎◌, inl, inr, append_assoc}
use Rattle.std.specs.Prelude.{codes}
use Rattle.std.specs.Str.{bytes_eq}
use Rattle.std.proofs.lemmas.Bool.Decides.{nat_tests}
use Rattle.std.proofs.lemmas.Slice.Eq.{bytes_eq-Decides}
use Rattle.scenario_values.specs.declared.term.Term.{Term}
use Rattle.scenario_values.specs.declared.term.Task.{Task}
use Rattle.scenario_values.specs.declared.term.Task.TheVariants as tasks
use Rattle.scenario_grammar.specs.declared.fault.Kind.{Kind}
use Rattle.scenario_grammar.specs.declared.fault.Kind.TheVariants.{BadPercent, BadCount, BadMillis, Parentheses}
use Rattle.scenario_grammar.specs.Words.{cut, without_last}
use Rattle.scenario_grammar.specs.FirstFault.{◌>>=◌, number_up_to, share_of, share_by, head_of, head_by, share_at, share_at_by, count_at, count_at_by, task_of, term_of, or_fault, millis_of}
use Rattle.scenario_grammar.specs.Words.{is_number, number}
use Rattle.scenario_grammar.specs.Spelling.{Numeral, WholePercent, DecimalPercent, SpellsShare, SpellsCount, Millis, Names, with_argument, SpellsTerm}
use Rattle.scenario_grammar.proofs.CutLaws.{and_true, cut_gives}
use Rattle.scenario_grammar.proofs.Blanks.{without_last_gives}

-- the value of a step that did not fail
pub bind_ok : {A B E : Type 0} (r : Result A E) (f : A → Result B E) (y : B) → (r >>= f) ≡ Ok y → (x : A) × (r ≡ Ok x) × (f x ≡ Ok y)
bind_ok (Ok x) f y e = (x, refl, e)
bind_ok (Err d) f y e = absurd cc

abbrev pub done : {A : Type 0} → A → Result A Kind
done x = Ok x

pub ok_is : {A : Type 0} (x y : A) → done x ≡ done y → x ≡ y
ok_is x y e = cc

-- a choice that gave something
pub chosen_some : {A : Type 0} (t : Bool) (x y : A) → cond t (Some x) None ≡ Some y → (t ≡ true) × (x ≡ y)
chosen_some true x y e = (refl, cc)
chosen_some false x y e = absurd cc

pub or_fault_ok : {A : Type 0} (kind : Kind) (o : Option A) (x : A) → or_fault kind o ≡ Ok x → o ≡ Some x
or_fault_ok kind None x e = absurd cc
or_fault_ok kind (Some y) x e = cc

at_most : (m n : ℕ) → leb m n ≡ true → m ≤ n
at_most m n h = grind (arith, nat_tests)

numeral_gives : (most : ℕ) (text : List ℕ) (n : ℕ) → number_up_to most text ≡ Some n → Numeral text n × (n ≤ most)
numeral_gives most text n h =
    let c = chosen_some (is_number text && leb (number text) most) (number text) n h in
    let tests = and_true (is_number text) (leb (number text) most) c.0 in
    (record { digits = tests.0; value = c.1 }, let le = at_most (number text) most tests.1 in let e = c.1 in omega arith)

share_by_gives : (text : List ℕ) (share : ℕ) (o : Option (List ℕ × List ℕ)) → ((front rest : List ℕ) → o ≡ Some (front, rest) → text ≡ front ++ (46 ∷ rest)) → share_by text o ≡ Some share → WholePercent text share ⊎ DecimalPercent text share
share_by_gives text share None parts h =
    let c = chosen_some (is_number text) (min 1000000 (number text * 10000)) share h in
    inl (record { digits = c.0; value = sym c.1 })
share_by_gives text share (Some (front, rest)) parts h =
    let c = chosen_some (is_number front && is_number rest && leb (length rest) 4) (min 1000000 (number front * 10000 + number rest * 10 ^ (4 - length rest))) share h in
    let outer = and_true (is_number front && is_number rest) (leb (length rest) 4) c.0 in
    let inner = and_true (is_number front) (is_number rest) outer.0 in
    inr (record { whole = front; decimals = rest; parts = parts front rest refl; whole_digits = inner.0; decimal_digits = inner.1; few = at_most (length rest) 4 outer.1; value = sym c.1 })

share_gives : (text : List ℕ) (share : ℕ) → share_of text ≡ Some share → WholePercent text share ⊎ DecimalPercent text share
unfolding share_of
share_gives text share h = share_by_gives text share (cut 46 text) (cut_gives 46 text) h

-- a head by its front and its rest
pub record Front (P : List ℕ → Type 0) (head rest : List ℕ) : Type 0 where
  pub front : List ℕ
  pub parts : head ≡ front ++ rest
  pub is : P front

share_at_by_gives : (head rest : List ℕ) (share : ℕ) (o : Option (List ℕ × List ℕ)) → ((front back : List ℕ) → o ≡ Some (front, back) → head ≡ front ++ (37 ∷ back)) → share_at_by head o ≡ Ok (share, rest) → Front (λ front. SpellsShare front share) head rest
share_at_by_gives head rest share None parts h =
    let e = ok_is (1000000, head) (share, rest) h in
    let whole : 1000000 ≡ share = ap (λ (p : ℕ × List ℕ). p.0) e in
    let same : head ≡ rest = ap (λ (p : ℕ × List ℕ). p.1) e in
    record { front = []; parts = same; is = inl (refl, sym whole) }
share_at_by_gives head rest share (Some (front, back)) parts h =
    let b = bind_ok (or_fault BadPercent (share_of front)) (λ s. Ok (s, back)) (share, rest) h in
    let e = ok_is (b.0, back) (share, rest) b.2 in
    let value : b.0 ≡ share = ap (λ (p : ℕ × List ℕ). p.0) e in
    let same : back ≡ rest = ap (λ (p : ℕ × List ℕ). p.1) e in
    let found : share_of front ≡ Some share = or_fault_ok BadPercent (share_of front) b.0 b.1 ∙ ap (λ (n : ℕ). Some n) value in
    record {
      front = front ++ (37 ∷ []);
      parts = parts front back refl ∙ ap (λ (k : List ℕ). front ++ (37 ∷ k)) same ∙ sym (append_assoc front (37 ∷ []) rest);
      is = inr (record { percent = front; parts = refl; is = share_gives front share found });
    }

pub share_sound : (head rest : List ℕ) (share : ℕ) → share_at head ≡ Ok (share, rest) → Front (λ front. SpellsShare front share) head rest
unfolding share_at
share_sound head rest share h = share_at_by_gives head rest share (cut 37 head) (cut_gives 37 head) h

count_at_by_gives : (head rest : List ℕ) (count : Option ℕ) (o : Option (List ℕ × List ℕ)) → ((front back : List ℕ) → o ≡ Some (front, back) → head ≡ front ++ (42 ∷ back)) → count_at_by head o ≡ Ok (count, rest) → Front (λ front. SpellsCount front count) head rest
count_at_by_gives head rest count None parts h =
    let e = ok_is (None, head) (count, rest) h in
    let none : None ≡ count = ap (λ (p : Option ℕ × List ℕ). p.0) e in
    let same : head ≡ rest = ap (λ (p : Option ℕ × List ℕ). p.1) e in
    let P : Option ℕ → Type 0 = λ c. SpellsCount [] c in
    record { front = []; parts = same; is = subst P none refl }
count_at_by_gives head rest count (Some (front, back)) parts h =
    let b = bind_ok (or_fault BadCount (number_up_to 4294967295 front)) (λ n. Ok (Some n, back)) (count, rest) h in
    let e = ok_is (Some b.0, back) (count, rest) b.2 in
    let value : Some b.0 ≡ count = ap (λ (p : Option ℕ × List ℕ). p.0) e in
    let same : back ≡ rest = ap (λ (p : Option ℕ × List ℕ). p.1) e in
    let found = numeral_gives 4294967295 front b.0 (or_fault_ok BadCount (number_up_to 4294967295 front) b.0 b.1) in
    let P : Option ℕ → Type 0 = λ c. SpellsCount (front ++ (42 ∷ [])) c in
    record {
      front = front ++ (42 ∷ []);
      parts = parts front back refl ∙ ap (λ (k : List ℕ). front ++ (42 ∷ k)) same ∙ sym (append_assoc front (42 ∷ []) rest);
      is = subst P value (record { count = front; parts = refl; is = found.0; small = found.1 });
    }

pub count_sound : (head rest : List ℕ) (count : Option ℕ) → count_at head ≡ Ok (count, rest) → Front (λ front. SpellsCount front count) head rest
unfolding count_at
count_sound head rest count h = count_at_by_gives head rest count (cut 42 head) (cut_gives 42 head) h

head_by_gives : (text head : List ℕ) (argument : Option (List ℕ)) (o : Option (List ℕ × List ℕ)) → ((front back : List ℕ) → o ≡ Some (front, back) → text ≡ front ++ (40 ∷ back)) → head_by text o ≡ Ok (head, argument) → text ≡ with_argument head argument
head_by_gives text head argument None parts h =
    let e = ok_is (text, None) (head, argument) h in
    let same : text ≡ head = ap (λ (p : List ℕ × Option (List ℕ)). p.0) e in
    let none : None ≡ argument = ap (λ (p : List ℕ × Option (List ℕ)). p.1) e in
    same ∙ ap (λ a. with_argument head a) none
head_by_gives text head argument (Some (front, back)) parts h =
    let b = bind_ok (or_fault Parentheses (without_last 41 back)) (λ a. Ok (front, Some a)) (head, argument) h in
    let e = ok_is (front, Some b.0) (head, argument) b.2 in
    let same : front ≡ head = ap (λ (p : List ℕ × Option (List ℕ)). p.0) e in
    let given : Some b.0 ≡ argument = ap (λ (p : List ℕ × Option (List ℕ)). p.1) e in
    let back_is : back ≡ b.0 ++ (41 ∷ []) = without_last_gives 41 back b.0 (or_fault_ok Parentheses (without_last 41 back) b.0 b.1) in
    parts front back refl ∙ ap (λ (k : List ℕ). front ++ (40 ∷ k)) back_is ∙ ap (λ (x : List ℕ). x ++ (40 ∷ (b.0 ++ (41 ∷ [])))) same ∙ ap (λ a. with_argument head a) given

pub head_sound : (text head : List ℕ) (argument : Option (List ℕ)) → head_of text ≡ Ok (head, argument) → text ≡ with_argument head argument
unfolding head_of
head_sound text head argument h = head_by_gives text head argument (cut 40 text) (cut_gives 40 text) h

millis_gives : (argument : Option (List ℕ)) (n : ℕ) → millis_of argument ≡ Ok n → Millis argument n
millis_gives None n h = absurd cc
millis_gives (Some text) n h =
    let found = numeral_gives 1000000000 text n (or_fault_ok BadMillis (number_up_to 1000000000 text) n h) in
    record { text = text; given = refl; is = found.0; small = found.1 }

-- the first word that fits
word_or : {A : Type 0} (word known : List ℕ) (x y z : A) → cond (bytes_eq word known) x y ≡ z → ((word ≡ known) × (x ≡ z)) ⊎ (y ≡ z)
word_or word known x y z h = by_test (bytes_eq word known) ((bytes_eq-Decides word known).0) h
  where
    by_test : (t : Bool) → (t ≡ true → word ≡ known) → cond t x y ≡ z → ((word ≡ known) × (x ≡ z)) ⊎ (y ≡ z)
    by_test true is h = inl (is refl, h)
    by_test false is h = inr h

named : (word : List ℕ) (argument : Option (List ℕ)) (task other : Task) → Names word argument task → done task ≡ done other → Names word argument other
named word argument task other h e = let P : Task → Type 0 = λ t. Names word argument t in subst P (ok_is task other e) h

slept : (word : List ℕ) (argument : Option (List ℕ)) (make : ℕ → Task) (task : Task) → ((n : ℕ) → Millis argument n → Names word argument (make n)) → (millis_of argument >>= (λ n. Ok (make n))) ≡ Ok task → Names word argument task
slept word argument make task names h =
    let b = bind_ok (millis_of argument) (λ n. Ok (make n)) task h in
    named word argument (make b.0) task (names b.0 (millis_gives argument b.0 b.1)) b.2

pub task_sound : (word : List ℕ) (argument : Option (List ℕ)) (task : Task) → task_of word argument ≡ Ok task → Names word argument task
unfolding task_of
task_sound word argument task h =
    elim (word_or word (codes "off") _ _ (Ok task) h) [
      | inl p ↦ named word argument tasks.Off task p.0 p.1
      | inr h ↦ elim (word_or word (codes "return") _ _ (Ok task) h) [
        | inl p ↦ named word argument (tasks.Return argument) task (p.0, refl) p.1
        | inr h ↦ elim (word_or word (codes "sleep") _ _ (Ok task) h) [
          | inl p ↦ slept word argument (λ n. tasks.Sleep n) task (λ n m. (p.0, m)) p.1
          | inr h ↦ elim (word_or word (codes "panic") _ _ (Ok task) h) [
            | inl p ↦ named word argument (tasks.Panic argument) task (p.0, refl) p.1
            | inr h ↦ elim (word_or word (codes "print") _ _ (Ok task) h) [
              | inl p ↦ named word argument (tasks.Print argument) task (p.0, refl) p.1
              | inr h ↦ elim (word_or word (codes "pause") _ _ (Ok task) h) [
                | inl p ↦ named word argument tasks.Pause task p.0 p.1
                | inr h ↦ elim (word_or word (codes "yield") _ _ (Ok task) h) [
                  | inl p ↦ named word argument tasks.Yield task p.0 p.1
                  | inr h ↦ elim (word_or word (codes "delay") _ _ (Ok task) h) [
                    | inl p ↦ slept word argument (λ n. tasks.Delay n) task (λ n m. (p.0, m)) p.1
                    | inr h ↦ absurd (cc)
                  ]
                ]
              ]
            ]
          ]
        ]
      ]
    ]

pub term_sound : (text : List ℕ) (t : Term) → term_of text ≡ Ok t → SpellsTerm text t
unfolding term_of
term_sound text t h =
    let one = bind_ok (head_of text) _ t h in
    let two = bind_ok (share_at one.0.0) _ t one.2 in
    let three = bind_ok (count_at two.0.1) _ t two.2 in
    let four = bind_ok (task_of three.0.1 one.0.1) _ t three.2 in
    let s = share_sound one.0.0 two.0.1 two.0.0 two.1 in
    let c = count_sound two.0.1 three.0.1 three.0.0 three.1 in
    let is : SpellsTerm text (record { share = two.0.0; count = three.0.0; task = four.0 }) = record {
      share_text = s.front;
      count_text = c.front;
      word = three.0.1;
      argument = one.0.1;
      parts = head_sound text one.0.0 one.0.1 one.1 ∙ ap (λ (x : List ℕ). with_argument x one.0.1) (s.parts ∙ ap (λ (x : List ℕ). s.front ++ x) c.parts);
      share = s.is;
      count = c.is;
      task = task_sound three.0.1 one.0.1 four.0 four.1;
    } in
    let P : Term → Type 0 = λ u. SpellsTerm text u in
    subst P (ok_is (record { share = two.0.0; count = three.0.0; task = four.0 }) t four.2) is
