-- What holds of each member of a list, and of each two.
use Rattle.std.proofs.Common.{◌≡◌, zero, suc, ◌≤◌, ◌⊎◌, inl, inr, List, [], ◌∷◌, ◌++◌, map, length, refl, ap, sym, subst, arith, length-append}
use Rattle.std.specs.Prelude.{Contains, flat_map}
use Rattle.std.specs.List.{AllByRecursion}
use Rattle.std.proofs.lemmas.List.Elements.{Contains-append_left, Contains-append_right, Contains-append_cases}
use Rattle.grown_plans.specs.Promises.{EachTwo, IsOfOne}

pub all_weaker : {A : Type 0} (P Q : A → Type 0) → ((x : A) → P x → Q x) → (xs : List A) → AllByRecursion P xs → AllByRecursion Q xs
all_weaker P Q h [] a = tt
all_weaker P Q h (x ∷ xs) a = (h x a.0, all_weaker P Q h xs a.1)

pub all_of : {A : Type 0} (P : A → Type 0) → ((x : A) → P x) → (xs : List A) → AllByRecursion P xs
all_of P h [] = tt
all_of P h (x ∷ xs) = (h x, all_of P h xs)

pub all_append : {A : Type 0} (P : A → Type 0) → (xs ys : List A) → AllByRecursion P xs → AllByRecursion P ys → AllByRecursion P (xs ++ ys)
all_append P [] ys a b = b
all_append P (x ∷ xs) ys a b = (a.0, all_append P xs ys a.1 b)

pub all_left : {A : Type 0} (P : A → Type 0) → (xs ys : List A) → AllByRecursion P (xs ++ ys) → AllByRecursion P xs
all_left P [] ys a = tt
all_left P (x ∷ xs) ys a = (a.0, all_left P xs ys a.1)

pub all_right : {A : Type 0} (P : A → Type 0) → (xs ys : List A) → AllByRecursion P (xs ++ ys) → AllByRecursion P ys
all_right P [] ys a = a
all_right P (x ∷ xs) ys a = all_right P xs ys a.1

pub all_map : {A B : Type 0} (P : B → Type 0) (f : A → B) → (xs : List A) → AllByRecursion (λ x. P (f x)) xs → AllByRecursion P (map f xs)
all_map P f [] a = tt
all_map P f (x ∷ xs) a = (a.0, all_map P f xs a.1)

pub all_flat : {A B : Type 0} (P : B → Type 0) (f : A → List B) → (xs : List A) → AllByRecursion (λ x. AllByRecursion P (f x)) xs → AllByRecursion P (flat_map f xs)
all_flat P f [] a = tt
all_flat P f (x ∷ xs) a = all_append P (f x) (flat_map f xs) a.0 (all_flat P f xs a.1)

pub all_both : {A : Type 0} (P Q : A → Type 0) → (xs : List A) → AllByRecursion P xs → AllByRecursion Q xs → AllByRecursion (λ x. P x × Q x) xs
all_both P Q [] a b = tt
all_both P Q (x ∷ xs) a b = ((a.0, b.0), all_both P Q xs a.1 b.1)

-- ---- members

pub contains_head : {A : Type 0} (x : A) (xs : List A) → Contains (x ∷ xs) x
contains_head x xs = (0, omega arith, refl)

pub contains_tail : {A : Type 0} (x y : A) (xs : List A) → Contains xs y → Contains (x ∷ xs) y
contains_tail x y xs (k, less, is) = (suc k, omega arith, is)

pub contains_cases : {A : Type 0} (x y : A) (xs : List A) → Contains (x ∷ xs) y → (x ≡ y) ⊎ Contains xs y
contains_cases x y xs (zero, less, is) = inl is
contains_cases x y xs (suc k, less, is) = inr (k, omega arith, is)

pub contains_none : {A : Type 0} (y : A) → Contains [] y → ⊥
contains_none y (k, less, is) = absurd (omega (arith, less))

pub all_contains : {A : Type 0} (P : A → Type 0) → (xs : List A) (y : A) → AllByRecursion P xs → Contains xs y → P y
all_contains P [] y a c = absurd (contains_none y c)
all_contains P (x ∷ xs) y a c = elim (contains_cases x y xs c) [ inl e ↦ subst P e a.0 | inr d ↦ all_contains P xs y a.1 d ]

pub all_by_contains : {A : Type 0} (P : A → Type 0) → (xs : List A) → ((x : A) → Contains xs x → P x) → AllByRecursion P xs
all_by_contains P [] h = tt
all_by_contains P (x ∷ xs) h = (h x (contains_head x xs), all_by_contains P xs (λ y c. h y (contains_tail x y xs c)))

pub all_contained : {A : Type 0} (xs : List A) → AllByRecursion (Contains xs) xs
all_contained xs = all_by_contains (Contains xs) xs (λ x c. c)

pub contains_map : {A B : Type 0} (f : A → B) → (xs : List A) (x : A) → Contains xs x → Contains (map f xs) (f x)
contains_map f [] x c = absurd (contains_none x c)
contains_map f (y ∷ xs) x c = elim (contains_cases y x xs c) [
  | inl e ↦ subst (λ z. Contains (map f (y ∷ xs)) (f z)) e (contains_head (f y) (map f xs))
  | inr d ↦ contains_tail (f y) (f x) (map f xs) (contains_map f xs x d)
]

pub contains_flat : {A B : Type 0} (f : A → List B) → (xs : List A) (x : A) (y : B) → Contains xs x → Contains (f x) y → Contains (flat_map f xs) y
contains_flat f [] x y c d = absurd (contains_none x c)
contains_flat f (z ∷ xs) x y c d = elim (contains_cases z x xs c) [
  | inl e ↦ Contains-append_left (f z) (flat_map f xs) y (subst (λ w. Contains (f w) y) (sym e) d)
  | inr m ↦ Contains-append_right (f z) (flat_map f xs) y (contains_flat f xs x y m d)
]

-- a member stands somewhere
pub contains_split : {A : Type 0} (xs : List A) (y : A) → Contains xs y → (b a : List A) × (xs ≡ b ++ y ∷ a)
contains_split [] y c = absurd (contains_none y c)
contains_split {A} (x ∷ xs) y c = elim (contains_cases x y xs c) [
  | inl e ↦ ([], xs, ap (λ (z : A). z ∷ xs) e)
  | inr d ↦ let s = contains_split xs y d in (x ∷ s.0, s.1, ap (λ (l : List A). x ∷ l) s.2)
]

-- ---- each two

pub two_append : {A : Type 0} (R : A → A → Type 0) → (xs ys : List A) → EachTwo R xs → EachTwo R ys → AllByRecursion (λ x. AllByRecursion (R x) ys) xs → EachTwo R (xs ++ ys)
two_append R [] ys a b c = b
two_append R (x ∷ xs) ys a b c = (all_append (R x) xs ys a.0 c.0, two_append R xs ys a.1 b c.1)

pub two_weaker : {A : Type 0} (R Q : A → A → Type 0) → ((x y : A) → R x y → Q x y) → (xs : List A) → EachTwo R xs → EachTwo Q xs
two_weaker R Q h [] a = tt
two_weaker R Q h (x ∷ xs) a = (all_weaker (R x) (Q x) (h x) xs a.0, two_weaker R Q h xs a.1)

pub two_map : {A B : Type 0} (R : B → B → Type 0) (f : A → B) → (xs : List A) → EachTwo (λ x y. R (f x) (f y)) xs → EachTwo R (map f xs)
two_map R f [] a = tt
two_map R f (x ∷ xs) a = (all_map (R (f x)) f xs a.0, two_map R f xs a.1)

pub two_flat : {A B : Type 0} (R : B → B → Type 0) (f : A → List B) → (xs : List A) → AllByRecursion (λ x. EachTwo R (f x)) xs
    → EachTwo (λ x y. AllByRecursion (λ u. AllByRecursion (R u) (f y)) (f x)) xs → EachTwo R (flat_map f xs)
two_flat R f [] a b = tt
two_flat R f (x ∷ xs) a b =
    two_append R (f x) (flat_map f xs) a.0 (two_flat R f xs a.1 b.1)
    (all_by_contains (λ u. AllByRecursion (R u) (flat_map f xs)) (f x) (λ u c. all_flat (R u) f xs (all_weaker _ _ (λ y h. all_contains (λ u. AllByRecursion (R u) (f y)) (f x) u h c) xs b.0)))

pub two_right : {A : Type 0} (R : A → A → Type 0) → (xs ys : List A) → EachTwo R (xs ++ ys) → EachTwo R ys
two_right R [] ys a = a
two_right R (x ∷ xs) ys a = two_right R xs ys a.1

pub two_with : {A : Type 0} (P : A → Type 0) (R : A → A → Type 0) → (xs : List A) → AllByRecursion P xs → EachTwo R xs → EachTwo (λ x y. P x × P y × R x y) xs
two_with P R [] a b = tt
two_with P R (x ∷ xs) a b = (all_weaker (λ y. P y × R x y) (λ y. P x × P y × R x y) (λ y h. (a.0, h.0, h.1)) xs (all_both P (R x) xs a.1 b.0), two_with P R xs a.1 b.1)

-- If no two members are like this, and one is, exactly one is.
pub one_of : {A : Type 0} (P : A → Type 0) → (xs : List A) (x : A) → Contains xs x → P x → EachTwo (λ a b. P a → P b → ⊥) xs → IsOfOne P xs
one_of P [] x c p e = absurd (contains_none x c)
one_of {A} P (y ∷ ys) x c p e = elim (contains_cases y x ys c) [
  | inl same ↦
      let here : P y = subst P (sym same) p in
      record { before = []; one = y; after = ys; split = refl; is = here; no_other = all_weaker (λ z. P y → P z → ⊥) (λ z. P z → ⊥) (λ z n q. n here q) ys e.0 }
  | inr d ↦
      let r = one_of P ys x d p e.1 in
      let all : AllByRecursion (λ z. P y → P z → ⊥) (r.before ++ r.one ∷ r.after) = subst (λ (l : List A). AllByRecursion (λ z. P y → P z → ⊥) l) r.split e.0 in
      record {
        before = y ∷ r.before;
        one = r.one;
        after = r.after;
        split = ap (λ (l : List A). y ∷ l) r.split;
        is = r.is;
        no_other = ((λ q. (all_right (λ z. P y → P z → ⊥) r.before (r.one ∷ r.after) all).0 q r.is), r.no_other);
      }
]

without_one : {A : Type 0} (x z : A) (b a : List A) → (x ≡ z → ⊥) → Contains (b ++ x ∷ a) z → Contains (b ++ a) z
without_one x z b a n c = elim (Contains-append_cases b (x ∷ a) z c) [
  | inl l ↦ Contains-append_left b a z l
  | inr r ↦ elim (contains_cases x z a r) [ inl e ↦ absurd (n e) | inr d ↦ Contains-append_right b a z d ]
]

-- members that differ are at most as many as the list that has them
pub no_more : {A : Type 0} (xs ys : List A) → EachTwo (λ a b. a ≡ b → ⊥) xs → AllByRecursion (Contains ys) xs → length xs ≤ length ys
no_more [] ys e c = omega arith
no_more {A} (x ∷ xs) ys e c =
    let s = contains_split ys x c.0 in
    let b : List A = s.0 in
    let a : List A = s.1 in
    let there : AllByRecursion (λ z. (x ≡ z → ⊥) × Contains ys z) xs = all_both (λ z. x ≡ z → ⊥) (Contains ys) xs e.0 c.1 in
    let fewer : length xs ≤ length (b ++ a) =
    no_more xs (b ++ a) e.1 (all_weaker (λ z. (x ≡ z → ⊥) × Contains ys z) (Contains (b ++ a)) (λ z h. without_one x z b a h.0 (subst (λ (l : List A). Contains l z) s.2 h.1)) xs there)
    in
    let whole : length ys ≡ length (b ++ x ∷ a) = ap (λ (l : List A). length l) s.2 in
    omega (arith, fewer, whole, length-append b (x ∷ a), length-append b a)

-- either none is like this, or one is
pub all_or : {A : Type 0} (P : A → Type 0) → ((x : A) → P x ⊎ (P x → ⊥)) → (xs : List A) → AllByRecursion (λ x. P x → ⊥) xs ⊎ ((x : A) × Contains xs x × P x)
all_or P d [] = inl tt
all_or P d (x ∷ xs) = elim (d x) [
  | inl p ↦ inr (x, contains_head x xs, p)
  | inr n ↦ elim (all_or P d xs) [ inl a ↦ inl (n, a) | inr h ↦ inr (h.0, contains_tail x h.0 xs h.1, h.2) ]
]
