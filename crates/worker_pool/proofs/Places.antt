-- What holds at each place of a list after one write or under a function, and sums over two lists.
use Rattle.std.proofs.Common.{◌≡◌, true, Vec, Global, vec_len, ℕ, zero, suc, ◌+◌, ◌<◌, List, [], ◌∷◌, ◌++◌, length, get_or, set, map, refl, sym, ap, ◌∙◌, arith}
use Rattle.std.specs.List.{sum_by}
use Rattle.worker_pool.specs.Tickets.{count_below}
use Rattle.std.proofs.lemmas.List.{length-map, map_push}
use Rattle.std.proofs.lemmas.List.Sums.{sum_by-cons}

module _ {A : Type 0} where
  pub holds_set : (P : ℕ → A → Type 0) (xs : List A) (i : ℕ) (v d : A) → P i v → ((j : ℕ) → P j (get_or xs j d)) → (j : ℕ) → P j (get_or (set xs i v) j d)
  holds_set P [] i v d here old j = old j
  holds_set P (x ∷ xs) zero v d here old zero = here
  holds_set P (x ∷ xs) zero v d here old (suc j) = old (suc j)
  holds_set P (x ∷ xs) (suc i) v d here old zero = old zero
  holds_set P (x ∷ xs) (suc i) v d here old (suc j) = holds_set (λ n. P (suc n)) xs i v d here (λ n. old (suc n)) j

pub sums_by_place : {X : Type 0} (f : X → ℕ) (xs ys : List X) → length xs ≡ length ys
    → ((k : ℕ) (d : X) → k < length xs → f (get_or xs k d) ≡ f (get_or ys k d)) → sum_by f xs ≡ sum_by f ys
sums_by_place f [] [] len each = refl
sums_by_place f [] (y ∷ ys) len each = absurd (omega arith)
sums_by_place f (x ∷ xs) [] len each = absurd (omega arith)
sums_by_place f (x ∷ xs) (y ∷ ys) len each =
    let here : f x ≡ f y = each 0 x (omega arith) in
    let rest = sums_by_place f xs ys (omega arith) (λ k d within. each (suc k) d (omega arith)) in
    omega (arith, sum_by-cons f x xs, sum_by-cons f y ys)

pub count_all : {A : Type 0} (xs : List A) → sum_by (λ x. 1) xs ≡ length xs
count_all [] = refl
count_all (x ∷ xs) = let rest = count_all xs in omega (arith, sum_by-cons (λ x. 1) x xs)

-- If each of three lists' places adds up, and the whole fits, the sums add up.
pub performed_sum : {H L : Type 0} (c : H → ℕ) (n : L → ℕ) (most : ℕ) (olds news : List H) (ls : List L) → length news ≡ length olds → length ls ≡ length olds
    → ((k : ℕ) (h : H) (l : L) → k < length olds → c (get_or olds k h) + n (get_or ls k l) < most
    → c (get_or news k h) ≡ c (get_or olds k h) + n (get_or ls k l))
    → sum_by c olds + sum_by n ls < most → sum_by c news ≡ sum_by c olds + sum_by n ls
performed_sum c n most [] [] [] len len' each fits = refl
performed_sum c n most [] (x ∷ news) ls len len' each fits = absurd (omega arith)
performed_sum c n most [] [] (l ∷ ls) len len' each fits = absurd (omega arith)
performed_sum c n most (o ∷ olds) [] ls len len' each fits = absurd (omega arith)
performed_sum c n most (o ∷ olds) (x ∷ news) [] len len' each fits = absurd (omega arith)
performed_sum c n most (o ∷ olds) (x ∷ news) (l ∷ ls) len len' each fits =
    let a = sum_by-cons c o olds in
    let b = sum_by-cons c x news in
    let d = sum_by-cons n l ls in
    let here : c x ≡ c o + n l = each 0 o l (omega arith) (omega arith) in
    let rest : sum_by c news ≡ sum_by c olds + sum_by n ls = performed_sum c n most olds news ls (omega arith) (omega arith)
    (λ k h i lt. each (suc k) h i (omega arith)) (omega arith) in
    omega arith

pub count_below_all : (n : ℕ) → count_below (λ _. true) n ≡ n
count_below_all zero = refl
count_below_all (suc n) = let rest = count_below_all n in omega arith

pub sum_len : {A : Type 0} (ls : List (Vec A Global)) → sum_by (λ (v : Vec A Global). sum_by (λ p. 1) v.items) ls ≡ sum_by (λ (v : Vec A Global). vec_len v) ls
sum_len {A = A} [] = refl
sum_len {A = A} (v ∷ vs) = omega (
  arith,
  sum_by-cons (λ (w : Vec A Global). sum_by (λ p. 1) w.items) v vs,
  sum_by-cons (λ (w : Vec A Global). vec_len w) v vs,
  count_all v.items,
  v.ok.0,
  sum_len vs,
)

-- a list and its images, place by place
pub map_get : {A B : Type 0} (f : A → B) (xs : List A) (k : ℕ) (x : A) (y : B) → k < length xs → f (get_or xs k x) ≡ get_or (map f xs) k y
map_get f [] k x y within = absurd (omega arith)
map_get f (z ∷ xs) zero x y within = refl
map_get f (z ∷ xs) (suc k) x y within = map_get f xs k x y (omega arith)

pub map_at : {A B : Type 0} (f : A → B) (xs : List A) (ys : List B) → map f xs ≡ ys → (k : ℕ) (x : A) (y : B) → k < length ys
    → f (get_or xs k x) ≡ get_or ys k y
map_at f xs ys same k x y within =
    map_get f xs k x y (let e : length xs ≡ length ys = sym (length-map xs f) ∙ ap length same in omega arith) ∙ ap (λ zs. get_or zs k y) same

-- two lists whose images agree place by place
pub maps_same : {A B C : Type 0} (f : A → C) (g : B → C) (xs : List A) (ys : List B) → length xs ≡ length ys
    → ((k : ℕ) (x : A) (y : B) → k < length ys → f (get_or xs k x) ≡ g (get_or ys k y)) → map f xs ≡ map g ys
maps_same f g [] [] len each = refl
maps_same f g [] (y ∷ ys) len each = absurd (omega arith)
maps_same f g (x ∷ xs) [] len each = absurd (omega arith)
maps_same f g (x ∷ xs) (y ∷ ys) len each =
    let here : f x ≡ g y = each 0 x y (omega arith) in
    let rest = maps_same f g xs ys (omega arith) (λ k a b within. each (suc k) a b (omega arith)) in
    ap (λ z. z ∷ map f xs) here ∙ ap (λ zs. g y ∷ zs) rest

-- a list of images, once an element and its image are added
pub pushed_image : {A B : Type 0} (f : A → B) (xs : List A) (x : A) (olds news : List B) → olds ≡ map f xs → news ≡ olds ++ f x ∷ []
    → news ≡ map f (xs ++ x ∷ [])
pushed_image {A = A} {B = B} f xs x olds news was now = now ∙ ap (λ (zs : List B). zs ++ f x ∷ []) was ∙ sym (map_push f xs x)

pub image_pushed : {A B : Type 0} (f : A → B) (xs news : List A) (x : A) (ys : List B) (y : B) → map f xs ≡ ys → news ≡ xs ++ x ∷ [] → f x ≡ y
    → map f news ≡ ys ++ y ∷ []
image_pushed {A = A} {B = B} f xs news x ys y was now is =
    ap (λ (zs : List A). map f zs) now ∙ map_push f xs x ∙ ap (λ (zs : List B). zs ++ f x ∷ []) was ∙ ap (λ (z : B). ys ++ z ∷ []) is
