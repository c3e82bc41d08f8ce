-- Counts by entry keep what the history says by name, if names are distinct.
use Rattle.std.proofs.Common.{◌≡◌, ℕ, zero, suc, ◌+◌, ◌-◌, ◌≤◌, ◌<◌, Bool, true, false, cond, eqb, List, [], ◌∷◌, ◌++◌, length, ◌&&◌, slice_index, slice_set, take, drop, length-append, Option, Some, None, option_map, refl, ap, sym, ◌∙◌, arith, add-zero, zero-add, subst, leb}
use Rattle.std.specs.Option.{option_map_or}
use Rattle.std.specs.List.{AllByRecursion}
use Rattle.std.specs.Prelude.{slice_get}
use Rattle.std.specs.List.{slice_range}
use Rattle.std.proofs.Math.ListN.{get_or-append}
use Rattle.std.proofs.Math.Seq.{take-append_seam, drop-append-add}
use Rattle.std.proofs.lemmas.List.{set-append_left, set-append_right, get_or-append_right}
use Rattle.std.specs.Str.{bytes_eq}
use Rattle.std.proofs.lemmas.Bool.Decides.{nat_tests}
use Rattle.std.proofs.lemmas.Slice.Eq.{bytes_eq-Decides}
use Rattle.scenario_values.specs.declared.term.Term.{Term}
use Rattle.scenario_values.specs.Scenario.{Entries, chain_of, entry_of, chain_at, New, DistinctNames}
use Rattle.action_eval.specs.Words.{word}
use Rattle.action_eval.specs.Trial.{tried, is_spent}
use Rattle.action_eval.specs.Answers.{Given, Hit, acted, is_term, trial, words_of}
use Rattle.action_eval.specs.inside.Session.{left_of, left_row, left_counts, with_one_less, start_of, found_of}
use Rattle.action_eval.proofs.Trials.{same_trial}
use Rattle.action_eval.proofs.TidiedEntries.{flipped}
use Rattle.action_eval.proofs.Alike.{acted-more, once, bytes_self}

-- rows by equal numbers are equal
same_row : (a b : ℕ → ℕ) (i : ℕ) (ts : List Term) → ((k : ℕ) → i ≤ k → b k ≡ a k) → left_row b i ts ≡ left_row a i ts
same_row a b i [] h = refl
same_row a b i (t ∷ ts) h = let head = h i (omega arith) in let tail = same_row a b (i + 1) ts (λ k le. h k (omega arith)) in cc

left_of-suc : (o : Option ℕ) (n : ℕ) → option_map_or (λ c. c - (n + 1)) o (4294967295 - (n + 1)) ≡ option_map_or (λ c. c - n) o (4294967295 - n) - 1
left_of-suc None n = omega arith
left_of-suc (Some c) n = omega arith

at_next : (i k : ℕ) → (i + 1) + k ≡ i + suc k
at_next i k = omega arith

-- one number more at a place is one less left there
row_spent : (a b : ℕ → ℕ) (i : ℕ) (ts : List Term) (p : ℕ) → b (i + p) ≡ a (i + p) + 1 → ((k : ℕ) → (k ≡ i + p → ⊥) → b k ≡ a k) → left_row b i ts ≡ slice_set (left_row a i ts) p (slice_index (left_row a i ts) p - 1)
row_spent a b i [] p more others = refl
row_spent a b i (t ∷ ts) zero more others =
    let here : b i ≡ a i + 1 = rw (← add-zero i) more in
    let head : left_of (b i) t ≡ left_of (a i) t - 1 = ap (λ n. left_of n t) here ∙ left_of-suc t.count (a i) in
    let tail = same_row a b (i + 1) ts (λ k le. others k (λ e. omega arith)) in
    cc
row_spent a b i (t ∷ ts) (suc p) more others =
    let head : left_of (b i) t ≡ left_of (a i) t = ap (λ n. left_of n t) (others i (λ e. omega arith)) in
    let tail = row_spent a b (i + 1) ts p (rw (at_next i p) more) (λ k no. others k (λ e. no (e ∙ sym (at_next i p)))) in
    cc

-- the name of the entry of a number
abbrev pub name_at : Entries → ℕ → List ℕ
name_at s i = option_map_or (λ e. e.0) (slice_get s i) []

-- the entry of a name
pub record Found (s : Entries) (name : List ℕ) (e : ℕ) : Type 0 where
  pub within : e < length s
  pub chain : chain_at s e ≡ chain_of s name
  pub named : name_at s e ≡ name

found_later : (y : List ℕ × List Term) (ys : Entries) (name : List ℕ) (o : Option ℕ) (e : ℕ) → bytes_eq name y.0 ≡ false → ((k : ℕ) → o ≡ Some k → Found ys name k) → option_map (λ n. suc n) o ≡ Some e → Found (y ∷ ys) name e
found_later y ys name None e q f h = absurd (cc)
found_later y ys name (Some k) e q f h =
    let here = f k refl in
    let P : ℕ → Type 0 = λ n. Found (y ∷ ys) name n in
    let at : suc k ≡ e = cc in
    subst P at (record { within = omega (arith, here.within); chain = here.chain ∙ sym (ap (λ b. cond b y.1 (chain_of ys name)) q); named = here.named })

found_case : (y : List ℕ × List Term) (ys : Entries) (name : List ℕ) (e : ℕ) → ((k : ℕ) → entry_of ys name ≡ Some k → Found ys name k) → (b : Bool) → bytes_eq name y.0 ≡ b
    → cond b (Some 0) (option_map (λ n. suc n) (entry_of ys name)) ≡ Some e → Found (y ∷ ys) name e
found_case y ys name e f false q h = found_later y ys name (entry_of ys name) e q f h
found_case y ys name e f true q h =
    let P : ℕ → Type 0 = λ n. Found (y ∷ ys) name n in
    let at : 0 ≡ e = cc in
    subst P at (record { within = omega arith; chain = sym (ap (λ b. cond b y.1 (chain_of ys name)) q); named = sym ((bytes_eq-Decides name y.0).0 q) })

pub found : (s : Entries) (name : List ℕ) (e : ℕ) → entry_of s name ≡ Some e → Found s name e
found [] name e h = absurd (cc)
found (y ∷ ys) name e h = found_case y ys name e (λ k g. found ys name k g) (bytes_eq name y.0) refl h

none_found : (y : List ℕ × List Term) (ys : Entries) (name : List ℕ) → (entry_of ys name ≡ None → chain_of ys name ≡ []) → (o : Option ℕ) → entry_of ys name ≡ o → (b : Bool) → cond b (Some 0) (option_map (λ n. suc n) o) ≡ None → cond b y.1 (chain_of ys name) ≡ []
none_found y ys name f None g false h = f g
none_found y ys name f (Some k) g false h = absurd (cc)
none_found y ys name f o g true h = absurd (cc)

-- a name without an entry has no chain
pub not_found : (s : Entries) (name : List ℕ) → entry_of s name ≡ None → chain_of s name ≡ []
not_found [] name h = refl
not_found (y ∷ ys) name h = none_found y ys name (not_found ys name) (entry_of ys name) refl (bytes_eq name y.0) h

-- ---- counts inside longer lists of counts

less_left : (xs ys : List ℕ) (i : ℕ) → i < length xs → with_one_less (xs ++ ys) i ≡ with_one_less xs i ++ ys
less_left xs ys i h = ap (λ v. slice_set (xs ++ ys) i (v - 1)) (get_or-append xs ys 0 i h) ∙ set-append_left xs ys i (slice_index xs i - 1) h

less_right : (xs ys : List ℕ) (n i : ℕ) → length xs ≡ n → with_one_less (xs ++ ys) (n + i) ≡ xs ++ with_one_less ys i
less_right xs ys n i h =
    let at : n + i - n ≡ i = omega arith in
    let value : slice_index (xs ++ ys) (n + i) ≡ slice_index ys i = get_or-append_right xs ys n (n + i) 0 h (omega arith) ∙ ap (slice_index ys) at in
    ap (λ v. slice_set (xs ++ ys) (n + i) (v - 1)) value ∙ set-append_right xs ys n (n + i) (slice_index ys i - 1) h (omega arith) ∙ ap (λ k. xs ++ slice_set ys k (slice_index ys i - 1)) at

pub range_left : {A : Type 0} (xs ys : List A) (n : ℕ) → length xs ≡ n → slice_range (xs ++ ys) 0 (0 + n) ≡ xs
range_left xs ys n h =
    let at : 0 + n - 0 ≡ length xs = omega arith in
    ap (λ k. take k (xs ++ ys)) at ∙ take-append_seam xs ys

pub range_right : {A : Type 0} (xs ys : List A) (n a b : ℕ) → length xs ≡ n → slice_range (xs ++ ys) (n + a) (n + a + b) ≡ slice_range ys a (a + b)
range_right xs ys n a b h =
    let from : n + a ≡ length xs + a = omega arith in
    let many : n + a + b - (n + a) ≡ a + b - a = omega arith in
    ap (λ k. take k (drop (n + a) (xs ++ ys))) many ∙ ap (λ k. take (a + b - a) (drop k (xs ++ ys))) from ∙ ap (take (a + b - a)) (drop-append-add xs ys a)

pub length-left_row : (times : ℕ → ℕ) (i : ℕ) (ts : List Term) → length (left_row times i ts) ≡ length ts
length-left_row times i [] = refl
length-left_row times i (t ∷ ts) = ap suc (length-left_row times (i + 1) ts)

-- the counts of an entry
pub counts_at : (h : List Hit) (s : Entries) (k : ℕ) → k < length s → slice_range (left_counts h s) (start_of s k) (start_of s k + length (chain_at s k)) ≡ left_row (acted h (name_at s k)) 0 (chain_at s k)
counts_at h [] k in_s = absurd (omega arith)
counts_at h (x ∷ xs) zero in_s = range_left (left_row (acted h x.0) 0 x.1) (left_counts h xs) (length x.1) (length-left_row (acted h x.0) 0 x.1)
counts_at h (x ∷ xs) (suc k) in_s =
    range_right (left_row (acted h x.0) 0 x.1) (left_counts h xs) (length x.1) (start_of xs k) (length (chain_at xs k)) (length-left_row (acted h x.0) 0 x.1) ∙ counts_at h xs k (omega arith)

-- they end with the list of counts or before
pub ends_within : (h : List Hit) (s : Entries) (k : ℕ) → k < length s → start_of s k + length (chain_at s k) ≤ length (left_counts h s)
ends_within h [] k in_s = absurd (omega arith)
ends_within h (x ∷ xs) zero in_s = omega (arith, length-left_row (acted h x.0) 0 x.1, length-append (left_row (acted h x.0) 0 x.1) (left_counts h xs))
ends_within h (x ∷ xs) (suc k) in_s =
    omega (arith, length-left_row (acted h x.0) 0 x.1, length-append (left_row (acted h x.0) 0 x.1) (left_counts h xs), ends_within h xs k (omega arith))

-- the terms of an entry are tried by its counts as the history says
pub trial_by_counts : (g : Given) (h : List Hit) (left : List ℕ) (name : List ℕ) (e : ℕ) → left ≡ left_counts h g.scenario → entry_of g.scenario name ≡ Some e
    → tried (word g.seed g.stream) (is_spent (slice_range left (start_of g.scenario e) (start_of g.scenario e + length (chain_at g.scenario e)))) 0 (chain_at g.scenario e) (words_of h) ≡ trial g h name
trial_by_counts g h left name e left_is at =
    let f = found g.scenario name e at in
    let w = word g.seed g.stream in
    let c = chain_at g.scenario e in
    let mine = slice_range left (start_of g.scenario e) (start_of g.scenario e + length c) in
    let row : mine ≡ left_row (acted h name) 0 c =
    ap (λ (l : List ℕ). slice_range l (start_of g.scenario e) (start_of g.scenario e + length c)) left_is ∙ counts_at h g.scenario e f.within ∙ ap (λ n. left_row (acted h n) 0 c) f.named
    in
    same_trial w mine (acted h name) 0 c (words_of h) (λ k. ap (slice_index mine) (zero-add k) ∙ ap (λ r. slice_index r k) row)
    ∙ ap (λ c. tried w (λ i t. option_map_or (λ count. leb count (acted h name i)) t.count false) 0 c (words_of h)) f.chain

-- ---- one is taken off if a term acted

other_name : (name other : List ℕ) (i k : ℕ) → bytes_eq name other ≡ false → once (is_term other k (Some (name, i))) ≡ 0
other_name name other i k e = ap (λ b. once (b && eqb i k)) e

other_place : (name : List ℕ) (i k : ℕ) → (k ≡ i → ⊥) → once (is_term name k (Some (name, i))) ≡ 0
other_place name i k differ = let e : eqb i k ≡ false = grind (arith, nat_tests, differ) in ap (λ b. once (b && eqb i k)) (bytes_self name) ∙ ap once e

same_place : (name : List ℕ) (i : ℕ) → once (is_term name i (Some (name, i))) ≡ 1
same_place name i = let e : eqb i i ≡ true = grind (arith, nat_tests) in ap (λ b. once (b && eqb i i)) (bytes_self name) ∙ ap once e

acted_by : (h : List Hit) (x : Hit) (o : Option (List ℕ × ℕ)) → x.term ≡ o → (name : List ℕ) (k : ℕ) → acted (h ++ x ∷ []) name k ≡ acted h name k + once (is_term name k o)
acted_by h x o e name k = acted-more h x name k ∙ ap (λ o. acted h name k + once (is_term name k o)) e

row_other : (h : List Hit) (x : Hit) (name other : List ℕ) (i : ℕ) (ts : List Term) → x.term ≡ Some (name, i) → bytes_eq name other ≡ false → left_row (acted (h ++ x ∷ []) other) 0 ts ≡ left_row (acted h other) 0 ts
row_other h x name other i ts e q = same_row (acted h other) (acted (h ++ x ∷ []) other) 0 ts (λ k le. acted_by h x _ e other k ∙ ap (λ n. acted h other k + n) (other_name name other i k q) ∙ add-zero (acted h other k))

-- no entry of these has the name
abbrev Unlike : List ℕ → Entries → Type 0
Unlike name es = AllByRecursion (λ f. bytes_eq name f.0 ≡ false) es

counts_other : (h : List Hit) (x : Hit) (name : List ℕ) (i : ℕ) (s : Entries) → x.term ≡ Some (name, i) → Unlike name s → left_counts (h ++ x ∷ []) s ≡ left_counts h s
counts_other h x name i [] e n = refl
counts_other h x name i (y ∷ ys) e n =
    ap (λ r. r ++ left_counts (h ++ x ∷ []) ys) (row_other h x name y.0 i y.1 e n.0) ∙ ap (λ l. left_row (acted h y.0) 0 y.1 ++ l) (counts_other h x name i ys e n.1)

unlike : (name other : List ℕ) (es : Entries) → name ≡ other → New other es → Unlike name es
unlike name other [] e n = tt
unlike name other (y ∷ ys) e n = (ap (λ n. bytes_eq n y.0) e ∙ flipped y.0 other n.0, unlike name other ys e n.1)

row_here : (h : List Hit) (x : Hit) (name : List ℕ) (i : ℕ) (ts : List Term) → x.term ≡ Some (name, i) → left_row (acted (h ++ x ∷ []) name) 0 ts ≡ slice_set (left_row (acted h name) 0 ts) i (slice_index (left_row (acted h name) 0 ts) i - 1)
row_here h x name i ts e =
    row_spent (acted h name) (acted (h ++ x ∷ []) name) 0 ts i
    (rw (zero-add i) (acted_by h x _ e name i ∙ ap (λ n. acted h name i + n) (same_place name i)))
    (λ k no. acted_by h x _ e name k ∙ ap (λ n. acted h name k + n) (other_place name i k (λ q. no (q ∙ sym (zero-add i)))) ∙ add-zero (acted h name k))

spent_case : (h : List Hit) (x : Hit) (name : List ℕ) (i : ℕ) (y : List ℕ × List Term) (ys : Entries) (e : ℕ) → x.term ≡ Some (name, i) → New y.0 ys
    → ((k : ℕ) → entry_of ys name ≡ Some k → i < length (chain_at ys k) → left_counts (h ++ x ∷ []) ys ≡ with_one_less (left_counts h ys) (start_of ys k + i))
    → (o : Option ℕ) → entry_of ys name ≡ o → (b : Bool) → bytes_eq name y.0 ≡ b
    → cond b (Some 0) (option_map (λ n. suc n) o) ≡ Some e → i < length (chain_at (y ∷ ys) e) → left_counts (h ++ x ∷ []) (y ∷ ys) ≡ with_one_less (left_counts h (y ∷ ys)) (start_of (y ∷ ys) e + i)
spent_case h x name i y ys e t n f o g true q m few =
    let here : name ≡ y.0 = (bytes_eq-Decides name y.0).0 q in
    let at : 0 ≡ e = cc in
    let row = left_row (acted h y.0) 0 y.1 in
    let less : left_row (acted (h ++ x ∷ []) y.0) 0 y.1 ≡ with_one_less row i =
    subst (λ (n : List ℕ). left_row (acted (h ++ x ∷ []) n) 0 y.1 ≡ with_one_less (left_row (acted h n) 0 y.1) i) here (row_here h x name i y.1 t)
    in
    let short : i < length y.1 = subst (λ (k : ℕ). i < length (chain_at (y ∷ ys) k)) (sym at) few in
    let start : i ≡ start_of (y ∷ ys) e + i = sym (zero-add i) ∙ ap (λ (k : ℕ). start_of (y ∷ ys) k + i) at in
    ap (λ r. r ++ left_counts (h ++ x ∷ []) ys) less
    ∙ ap (λ l. with_one_less row i ++ l) (counts_other h x name i ys t (unlike name y.0 ys here n))
    ∙ sym (less_left row (left_counts h ys) i (omega (arith, short, length-left_row (acted h y.0) 0 y.1)))
    ∙ ap (with_one_less (row ++ left_counts h ys)) start
spent_case h x name i y ys e t n f None g false q m few = absurd (cc)
spent_case h x name i y ys e t n f (Some k) g false q m few =
    let at : suc k ≡ e = cc in
    let row = left_row (acted h y.0) 0 y.1 in
    let short : i < length (chain_at ys k) = subst (λ (j : ℕ). i < length (chain_at (y ∷ ys) j)) (sym at) few in
    let start : length y.1 + (start_of ys k + i) ≡ start_of (y ∷ ys) e + i =
    (let one : length y.1 + (start_of ys k + i) ≡ length y.1 + start_of ys k + i = omega arith in one) ∙ ap (λ (j : ℕ). start_of (y ∷ ys) j + i) at
    in
    ap (λ r. r ++ left_counts (h ++ x ∷ []) ys) (row_other h x name y.0 i y.1 t q) ∙ ap (λ l. row ++ l) (f k g short)
    ∙ sym (less_right row (left_counts h ys) (length y.1) (start_of ys k + i) (length-left_row (acted h y.0) 0 y.1))
    ∙ ap (with_one_less (row ++ left_counts h ys)) start

-- after a hit at which the term at place i of the name's chain acted, there is one less of it
pub counts_spent : (h : List Hit) (x : Hit) (name : List ℕ) (i : ℕ) (s : Entries) (e : ℕ) → x.term ≡ Some (name, i) → DistinctNames s → entry_of s name ≡ Some e → i < length (chain_at s e)
    → left_counts (h ++ x ∷ []) s ≡ with_one_less (left_counts h s) (start_of s e + i)
counts_spent h x name i [] e t d m few = absurd (cc)
counts_spent h x name i (y ∷ ys) e t d m few = spent_case h x name i y ys e t d.0 (λ k g j. counts_spent h x name i ys k t d.1 g j) (entry_of ys name) refl (bytes_eq name y.0) refl m few

-- If no term acts, the counts stay.
pub counts_stay : (h : List Hit) (x : Hit) (s : Entries) → x.term ≡ None → left_counts (h ++ x ∷ []) s ≡ left_counts h s
counts_stay h x [] t = refl
counts_stay h x (y ∷ ys) t =
    ap (λ r. r ++ left_counts (h ++ x ∷ []) ys) (same_row (acted h y.0) (acted (h ++ x ∷ []) y.0) 0 y.1 (λ k le. acted_by h x _ t y.0 k ∙ add-zero (acted h y.0 k)))
    ∙ ap (λ l. left_row (acted h y.0) 0 y.1 ++ l) (counts_stay h x ys t)

-- ---- the place of a point's chain

-- The entry of a name, by the place at which its chain was found.
pub record Stands (s : Entries) (name : List ℕ) (f : List Term × ℕ) : Type 0 where
  pub number : ℕ
  pub entry : entry_of s name ≡ Some number
  pub chain : f.0 ≡ chain_at s number
  pub start : f.1 ≡ start_of s number

stands_case : (s : Entries) (name : List ℕ) (f : List Term × ℕ) (o : Option ℕ) → entry_of s name ≡ o → option_map {U = List Term × ℕ} (λ (e : ℕ). (chain_at s e, start_of s e)) o ≡ Some f → Stands s name f
stands_case s name f None at e = absurd (cc)
stands_case s name f (Some k) at e =
    let same : (chain_at s k, start_of s k) ≡ f = cc in
    record { number = k; entry = at; chain = sym (ap (λ (p : List Term × ℕ). p.0) same); start = sym (ap (λ (p : List Term × ℕ). p.1) same) }

pub stands : (s : Entries) (name : List ℕ) (f : List Term × ℕ) → found_of s name ≡ Some f → Stands s name f
stands s name f e = stands_case s name f (entry_of s name) refl e

none_case : (s : Entries) (name : List ℕ) (o : Option ℕ) → entry_of s name ≡ o → option_map {U = List Term × ℕ} (λ (e : ℕ). (chain_at s e, start_of s e)) o ≡ None → chain_of s name ≡ []
none_case s name None at e = not_found s name at
none_case s name (Some k) at e = let here : List Term × ℕ = (chain_at s k, start_of s k) in let bad : Some here ≡ None = e in absurd (cc)

pub stands_nowhere : (s : Entries) (name : List ℕ) → found_of s name ≡ None → chain_of s name ≡ []
stands_nowhere s name e = none_case s name (entry_of s name) refl e
