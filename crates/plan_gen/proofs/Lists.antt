-- Lists that a loop builds.
use Rattle.std.proofs.Common.{◌≡◌, ℕ, zero, suc, ◌+◌, ◌≤◌, List, [], ◌∷◌, ◌++◌, map, take, drop, length, refl, ap, sym, ◌∙◌, append_assoc, add-one, arith, length-append, length-drop, ◌*◌, ◌-◌}
use Rattle.std.specs.List.{range_with_len, flat_map, fold}
pub use Rattle.action_eval.proofs.Rigged.{goes_on}
pub use Rattle.action_eval.proofs.LaidChains.{next_of, none_left}

swap : (a n : ℕ) → (a + 1) + n ≡ a + suc n
swap a n = omega arith

plain : (a : ℕ) → a + 0 ≡ a
plain a = omega arith

pub range_more : (a n : ℕ) → range_with_len a (suc n) ≡ range_with_len a n ++ (a + n) ∷ []
range_more a zero = ap (λ k. let l : List ℕ = k ∷ [] in l) (sym (plain a))
range_more a (suc n) = ap (λ l. a ∷ l) (range_more (a + 1) n ∙ ap (λ k. range_with_len (a + 1) n ++ (k ∷ [])) (swap a n))

map_push : {A B : Type 0} (f : A → B) (xs : List A) (x : A) → map f (xs ++ x ∷ []) ≡ map f xs ++ f x ∷ []
map_push f [] x = refl
map_push f (y ∷ ys) x = ap (λ r. f y ∷ r) (map_push f ys x)

pub zero_plus : (n : ℕ) → 0 + n ≡ n
zero_plus n = omega arith

-- one number more
pub map_more : {B : Type 0} (f : ℕ → B) (n : ℕ) → map f (range_with_len 0 (n + 1)) ≡ map f (range_with_len 0 n) ++ f n ∷ []
map_more f n =
    ap (λ k. map f (range_with_len 0 k)) (add-one n) ∙ ap (map f) (range_more 0 n)
    ∙ map_push f (range_with_len 0 n) (0 + n) ∙ ap (λ k. map f (range_with_len 0 n) ++ (f k ∷ [])) (zero_plus n)

-- the same, counted from a
pub map_more_from : {B : Type 0} (f : ℕ → B) (a n : ℕ) → map f (range_with_len a (n + 1)) ≡ map f (range_with_len a n) ++ f (a + n) ∷ []
map_more_from f a n = ap (λ k. map f (range_with_len a k)) (add-one n) ∙ ap (map f) (range_more a n) ∙ map_push f (range_with_len a n) (a + n)

-- a loop over numbers that pushes
pub pushed : {B : Type 0} (f : ℕ → B) (a n : ℕ) (old new : List B) (x : B) → old ≡ map f (range_with_len a n) → new ≡ old ++ x ∷ [] → x ≡ f (a + n) → new ≡ map f (range_with_len a (n + 1))
pushed f a n old new x h e here = e ∙ ap (λ l. l ++ x ∷ []) h ∙ ap (λ y. map f (range_with_len a n) ++ (y ∷ [])) here ∙ sym (map_more_from f a n)

-- a loop over numbers from 0 that pushes onto a list
pub pushed_onto : {B : Type 0} (f : ℕ → B) (n : ℕ) (start old new : List B) (x : B) → old ≡ start ++ map f (range_with_len 0 n) → new ≡ old ++ x ∷ [] → x ≡ f n → new ≡ start ++ map f (range_with_len 0 (n + 1))
pushed_onto f n start old new x h e here =
    e ∙ ap (λ l. l ++ x ∷ []) h ∙ append_assoc start (map f (range_with_len 0 n)) (x ∷ [])
    ∙ ap (λ y. start ++ (map f (range_with_len 0 n) ++ (y ∷ []))) here ∙ ap (λ l. start ++ l) (sym (map_more f n))

pub range_length : (a n : ℕ) → length (range_with_len a n) ≡ n
range_length a zero = refl
range_length a (suc n) = ap suc (range_length (a + 1) n)

pub map_length : {A B : Type 0} (f : A → B) (xs : List A) → length (map f xs) ≡ length xs
map_length f [] = refl
map_length f (x ∷ xs) = ap suc (map_length f xs)

times : (k a b n : ℕ) → a ≡ k → b ≡ k * n → a + b ≡ k * suc n
times k a b n e d = omega arith

-- lists of k members each
pub flat_length : {A B : Type 0} (f : A → List B) (k : ℕ) → ((x : A) → length (f x) ≡ k) → (xs : List A) → length (flat_map f xs) ≡ k * length xs
flat_length f k h [] = omega arith
flat_length f k h (x ∷ xs) = length-append (f x) (flat_map f xs) ∙ times k (length (f x)) (length (flat_map f xs)) (length xs) (h x) (flat_length f k h xs)

take_all : {A : Type 0} (xs : List A) (n : ℕ) → length xs ≤ n → take n xs ≡ xs
take_all [] zero h = refl
take_all [] (suc n) h = refl
take_all (x ∷ xs) zero h = absurd (omega arith)
take_all (x ∷ xs) (suc n) h = ap (λ l. x ∷ l) (take_all xs n (omega (arith, h)))

-- what is left, as a slice
pub all_left : {A : Type 0} (xs : List A) (n : ℕ) → take (length xs - n) (drop n xs) ≡ drop n xs
all_left xs n = take_all (drop n xs) (length xs - n) (omega (arith, length-drop n xs))

pub flat_map_of_map : {A B C : Type 0} (f : B → List C) (g : A → B) (xs : List A) → flat_map f (map g xs) ≡ flat_map (λ x. f (g x)) xs
flat_map_of_map f g [] = refl
flat_map_of_map f g (x ∷ xs) = ap (λ l. f (g x) ++ l) (flat_map_of_map f g xs)

pub fold_append : {A B : Type 0} (f : B → A → B) (b : B) (xs ys : List A) → fold f b (xs ++ ys) ≡ fold f (fold f b xs) ys
fold_append f b [] ys = refl
fold_append f b (x ∷ xs) ys = fold_append f (f b x) xs ys
