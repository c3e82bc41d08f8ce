-- The sites that a storm takes.
use Rattle.std.proofs.Common.{◌≡◌, ℕ, zero, suc, ◌+◌, ◌%◌, ◌<◌, ◌≤◌, ◌&&◌, nat_lt, Bool, true, false, cond, List, [], ◌∷◌, ◌++◌, map, take, length, get_or, refl, ap, sym, ◌∙◌, arith}
use Rattle.std.specs.Prelude.{zip, filter}
use Rattle.std.specs.List.{range_with_len}
use Rattle.std.proofs.lemmas.List.{append-nil, map-append, take_more, take_all, length-take-le}
use Rattle.std.proofs.lemmas.Bool.Decides.{nat_tests}
use Rattle.rand_chacha.specs.ChaCha.{ChaCha, word_at}
use Rattle.action_eval.specs.Words.{at_word, word}
use Rattle.action_eval.specs.declared.rig.Site.{Site}
use Rattle.action_eval.specs.declared.rig.Rig.{Rig}
use Rattle.action_eval.specs.RiggedScenario.{rig, most_rigs}
use Rattle.plan_gen.specs.PlanList.{with_words, is_taken, storm_kind, storm_by, storm}
use Rattle.plan_gen.proofs.Lists.{map_length}

-- one site more takes one word more
words_more : (word : ℕ → ℕ) (a : ℕ) (xs : List Site) (x : Site) → zip (xs ++ x ∷ []) (map word (range_with_len a (length (xs ++ x ∷ [])))) ≡ zip xs (map word (range_with_len a (length xs))) ++ (x, word (a + length xs)) ∷ []
words_more word a [] x = ap (λ k. let l : List (Site × ℕ) = (x, word k) ∷ [] in l) (let e : a ≡ a + 0 = omega arith in e)
words_more word a (y ∷ ys) x =
    ap (λ l. (y, word a) ∷ l) (words_more word (a + 1) ys x ∙ ap (λ k. zip ys (map word (range_with_len (a + 1) (length ys))) ++ (x, word k) ∷ []) (let e : a + 1 + length ys ≡ a + suc (length ys) = omega arith in e))

filter_push : {A : Type 0} (p : A → Bool) (xs : List A) (x : A) → filter p (xs ++ x ∷ []) ≡ filter p xs ++ cond (p x) (x ∷ []) []
filter_push p [] x = refl
filter_push p (y ∷ ys) x = filter_case (p y) y (filter p (ys ++ x ∷ [])) (filter p ys) (cond (p x) (x ∷ []) []) (filter_push p ys x)
  where
    filter_case : {A : Type 0} (b : Bool) (y : A) (whole ys zs : List A) → whole ≡ ys ++ zs → cond b (y ∷ whole) whole ≡ cond b (y ∷ ys) ys ++ zs
    filter_case true y whole ys zs e = ap (λ l. y ∷ l) e
    filter_case false y whole ys zs e = e

take_none : {A : Type 0} (n : ℕ) → take {A = A} n [] ≡ []
take_none zero = refl
take_none (suc n) = refl

-- one more is taken while fewer than the most are
take_push : {A : Type 0} (n : ℕ) (xs : List A) (x : A) → take n (xs ++ x ∷ []) ≡ take n xs ++ cond (nat_lt (length (take n xs)) n) (x ∷ []) []
take_push zero [] x = refl
take_push zero (y ∷ ys) x = refl
take_push (suc n) [] x = let some : nat_lt 0 (suc n) ≡ true = grind (arith, nat_tests) in ap (λ l. x ∷ l) (take_none n) ∙ ap (λ b. cond b (x ∷ []) []) (sym some)
take_push (suc n) (y ∷ ys) x =
    let less : nat_lt (length (take n ys)) n ≡ nat_lt (suc (length (take n ys))) (suc n) = grind (arith, nat_tests) in
    ap (λ l. y ∷ l) (take_push n ys x ∙ ap (λ b. take n ys ++ cond b (x ∷ []) []) less)

map_case : {A B : Type 0} (f : A → B) (b : Bool) (y : A) → map f (cond b (y ∷ []) []) ≡ cond b (f y ∷ []) []
map_case f true y = refl
map_case f false y = refl

taken_push : {A B : Type 0} (f : A → B) (n : ℕ) (xs : List A) (y : A) (b : Bool) → map f (take n (xs ++ cond b (y ∷ []) [])) ≡ map f (take n xs) ++ cond (b && nat_lt (length (map f (take n xs))) n) (f y ∷ []) []
taken_push f n xs y true =
    ap (map f) (take_push n xs y) ∙ map-append f (take n xs) (cond (nat_lt (length (take n xs)) n) (y ∷ []) [])
    ∙ ap (λ l. map f (take n xs) ++ l) (map_case f (nat_lt (length (take n xs)) n) y)
    ∙ ap (λ k. map f (take n xs) ++ cond (nat_lt k n) (f y ∷ []) []) (sym (map_length f (take n xs)))
taken_push f n xs y false = ap (λ l. map f (take n l)) (append-nil xs) ∙ sym (append-nil (map f (take n xs)))

-- what is drawn at the next site
abbrev at_next : ℕ → ℕ → List Rig → Site → List Rig
at_next rate w old x = cond (nat_lt (w % 1000) rate && nat_lt (length old) most_rigs) (rig x (storm_kind w) ∷ []) []

storm_push : (word : ℕ → ℕ) (rate : ℕ) (sites : List Site) (x : Site) → storm_by word rate (sites ++ x ∷ []) ≡ storm_by word rate sites ++ at_next rate (word (0 + length sites)) (storm_by word rate sites) x
storm_push word rate sites x =
    let f = λ (s : Site × ℕ). rig s.0 (storm_kind s.1) in
    let y : Site × ℕ = (x, word (0 + length sites)) in
    ap (λ l. map f (take most_rigs (filter (is_taken rate) l))) (words_more word 0 sites x)
    ∙ ap (λ l. map f (take most_rigs l)) (filter_push (is_taken rate) (with_words word sites) y)
    ∙ taken_push f most_rigs (filter (is_taken rate) (with_words word sites)) y (is_taken rate y)

-- one site more
pub storm_next : (word : ℕ → ℕ) (rate i : ℕ) (sites : List Site) (x d : Site) (w : ℕ) (old new : List Rig) → i < length sites → x ≡ get_or sites i d → w ≡ word i → old ≡ storm_by word rate (take i sites) → new ≡ old ++ at_next rate w old x → new ≡ storm_by word rate (take (i + 1) sites)
storm_next word rate i sites x d w old new within there is built added =
    let before = take i sites in
    let here : w ≡ word (0 + length before) = is ∙ ap word (let e : i ≡ 0 + length before = omega (arith, length-take-le i sites (omega (arith, within))) in e) in
    let more : take (i + 1) sites ≡ before ++ x ∷ [] = take_more sites i d within ∙ ap (λ (s : Site). before ++ s ∷ []) (sym there) in
    added ∙ ap (λ k. old ++ at_next rate k old x) here ∙ ap (λ l. l ++ at_next rate (word (0 + length before)) l x) built
    ∙ sym (storm_push word rate before x) ∙ ap (storm_by word rate) (sym more)

pub storm_is : (seed rate number stream : ℕ) (sites : List Site) (rng : ChaCha) → rng ≡ at_word seed stream 0 → stream ≡ 4294967296 + number → storm_by (word_at 4 rng.key rng.stream) rate sites ≡ storm seed rate sites number
unfolding storm at_word word
storm_is seed rate number stream sites rng e s =
    ap (λ (g : ChaCha). storm_by (word_at 4 g.key g.stream) rate sites) e ∙ ap (λ (k : ℕ). storm_by (word seed k) rate sites) s

pub storm_whole : (word : ℕ → ℕ) (rate i : ℕ) (sites : List Site) → length sites ≤ i → storm_by word rate (take i sites) ≡ storm_by word rate sites
storm_whole word rate i sites all = ap (storm_by word rate) (take_all i sites all)
