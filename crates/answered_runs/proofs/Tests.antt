-- Tests for certain scenarios and for equal answers.
use Rattle.std.proofs.Common.{◌≡◌, ℕ, ◌&&◌, ◌||◌, ◌==◌, Bool, true, false, Option, None, Some, List, [], ◌∷◌, refl, ap, ◌∙◌, subst, ◌⊎◌, inl, inr}
use Rattle.std.specs.List.{AllByRecursion, list_all}
use Rattle.std.proofs.lemmas.Bool.Decides.{Decides-eqb}
use Rattle.std.proofs.lemmas.Slice.Eq.{bytes_eq-Decides}
use Rattle.scenario_values.specs.declared.term.Term.{Term}
use Rattle.scenario_values.specs.Scenario.{Entries}
use Rattle.action_eval.specs.Answers.{Reply, Go, Return, Halt}
use Rattle.action_eval.specs.RiggedScenario.{is_same_text}
use Rattle.answered_runs.specs.Agreement.{IsCertain, is_certain, is_sure}

pub both_true : (b c : Bool) → (b && c) ≡ true → (b ≡ true) × (c ≡ true)
both_true true c e = (refl, e)
both_true false c e = absurd cc

pub true_both : (b c : Bool) → b ≡ true → c ≡ true → (b && c) ≡ true
true_both true c e f = f
true_both false c e f = cc

or_true : (a b : Bool) → a || b ≡ true → (a ≡ true) ⊎ (b ≡ true)
or_true true b e = inl refl
or_true false b e = inr e

true_if : (a b : Bool) → (a ≡ true) ⊎ (b ≡ true) → a || b ≡ true
true_if true b h = refl
true_if false b (inl e) = absurd cc
true_if false b (inr e) = e

abbrev Sure : Term → Type 0
Sure t = (t.share ≡ 0) ⊎ (t.share ≡ 1000000)

sure_is : (t : Term) → Sure t → is_sure t ≡ true
sure_is t (inl e) = true_if (t.share == 0) (t.share == 1000000) (inl ((Decides-eqb t.share 0).1 e))
sure_is t (inr e) = true_if (t.share == 0) (t.share == 1000000) (inr ((Decides-eqb t.share 1000000).1 e))

is_sure_of : (t : Term) → is_sure t ≡ true → Sure t
is_sure_of t e = elim (or_true (t.share == 0) (t.share == 1000000) e) [
  | inl h ↦ inl ((Decides-eqb t.share 0).0 h)
  | inr h ↦ inr ((Decides-eqb t.share 1000000).0 h)
]

all_are : {X : Type 0} (P : X → Type 0) (p : X → Bool) → ((x : X) → P x → p x ≡ true) → (xs : List X) → AllByRecursion P xs → list_all p xs ≡ true
all_are P p h [] all = refl
all_are P p h (x ∷ xs) all = ap (λ (b : Bool). b && list_all p xs) (h x all.0) ∙ all_are P p h xs all.1

are_all : {X : Type 0} (P : X → Type 0) (p : X → Bool) → ((x : X) → p x ≡ true → P x) → (xs : List X) → list_all p xs ≡ true → AllByRecursion P xs
are_all P p h [] e = tt
are_all P p h (x ∷ xs) e = let both = both_true (p x) (list_all p xs) e in (h x both.0, are_all P p h xs both.1)

pub certain_scenario : (s : Entries) → IsCertain s → is_certain s ≡ true
certain_scenario s c = all_are (λ (e : List ℕ × List Term). AllByRecursion Sure e.1) (λ (e : List ℕ × List Term). list_all is_sure e.1) (λ e h. all_are Sure is_sure sure_is e.1 h) s c

pub scenario_certain : (s : Entries) → is_certain s ≡ true → IsCertain s
scenario_certain s e = are_all (λ (e : List ℕ × List Term). AllByRecursion Sure e.1) (λ (e : List ℕ × List Term). list_all is_sure e.1) (λ e h. are_all Sure is_sure is_sure_of e.1 h) s e

abbrev same_reply : Reply → Reply → Bool
same_reply Go Go = true
same_reply (Return text) (Return other) = is_same_text text other
same_reply Halt Halt = true
same_reply _ _ = false

abbrev pub same_replies : List Reply → List Reply → Bool
same_replies [] [] = true
same_replies (x ∷ xs) (y ∷ ys) = same_reply x y && same_replies xs ys
same_replies _ _ = false

texts_are : (a b : Option (List ℕ)) → is_same_text a b ≡ true → a ≡ b
texts_are None None e = refl
texts_are None (Some b) e = absurd cc
texts_are (Some a) None e = absurd cc
texts_are (Some a) (Some b) e = ap (λ (x : List ℕ). Some x) ((bytes_eq-Decides a b).0 e)

text_itself : (a : Option (List ℕ)) → is_same_text a a ≡ true
text_itself None = refl
text_itself (Some a) = (bytes_eq-Decides a a).1 refl

reply_is : (x y : Reply) → same_reply x y ≡ true → x ≡ y
reply_is Go Go e = refl
reply_is Go (Return b) e = absurd cc
reply_is Go Halt e = absurd cc
reply_is (Return a) Go e = absurd cc
reply_is (Return a) (Return b) e = ap (λ (x : Option (List ℕ)). Return x) (texts_are a b e)
reply_is (Return a) Halt e = absurd cc
reply_is Halt Go e = absurd cc
reply_is Halt (Return b) e = absurd cc
reply_is Halt Halt e = refl

reply_itself : (x : Reply) → same_reply x x ≡ true
reply_itself Go = refl
reply_itself (Return a) = text_itself a
reply_itself Halt = refl

pub replies_are : (xs ys : List Reply) → same_replies xs ys ≡ true → xs ≡ ys
replies_are [] [] e = refl
replies_are [] (y ∷ ys) e = absurd cc
replies_are (x ∷ xs) [] e = absurd cc
replies_are (x ∷ xs) (y ∷ ys) e =
    let both = both_true (same_reply x y) (same_replies xs ys) e in
    ap (λ (z : Reply). z ∷ xs) (reply_is x y both.0) ∙ ap (λ (l : List Reply). y ∷ l) (replies_are xs ys both.1)

replies_themselves : (xs : List Reply) → same_replies xs xs ≡ true
replies_themselves [] = refl
replies_themselves (x ∷ xs) = true_both (same_reply x x) (same_replies xs xs) (reply_itself x) (replies_themselves xs)

pub replies_same : (xs ys : List Reply) → xs ≡ ys → same_replies xs ys ≡ true
replies_same xs ys e = subst (λ (l : List Reply). same_replies xs l ≡ true) e (replies_themselves xs)
