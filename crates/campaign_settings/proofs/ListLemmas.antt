use Rattle.std.proofs.Common.{◌≡◌, ◌<◌, ◌≤◌, ◌+◌, ℕ, suc, List, [], ◌∷◌, ◌++◌, Option, Some, None, Result, Ok, Err, All, ◌∙◌, ap, subst, sym, false, if◌then◌else◌, is_some, length, map, nat_le, option_and_then, option_map, refl, true, ◌==◌, ◌&&◌}
use Rattle.std.proofs.lemmas.List.{length-map}
use Rattle.std.proofs.lemmas.Bool.{and_parts, eqb-true, leb-true, le-leb, lt-leb}
use Rattle.std.proofs.lemmas.List.Elements.{All-from_recursion}
use Rattle.std.proofs.lemmas.Option.{same_Some}
use Rattle.commit_target.specs.declared.work.Vote.{Vote}
use Rattle.scenario_values.specs.chunked.Chunks.{IsChunks}
use Rattle.std.specs.List.{AllByRecursion, list_all}
use Rattle.std.specs.Option.{option_map_or}
use Rattle.toml.specs.Data.{Data, Items, item, no_items}
use Rattle.toml.specs.View.{items_view, view}
use Rattle.toml.specs.declared.value.Value.{Value}
use Rattle.campaign_settings.specs.Keys.{Text}
use Rattle.campaign_settings.specs.Lists.{all_in, before, each, is_chunk, is_chunk_list, is_wish, is_wish_list, list_in, lists_in, wish_of, wishes_of}
use Rattle.campaign_settings.specs.Values.{at_most, in_ranges, typed}
use Rattle.campaign_settings.specs.declared.keys.KeyFault.{KeyFault}
use Rattle.campaign_settings.specs.declared.keys.KeyFault.TheVariants.{OutOfRange}

module _ {X : Type 0} where
  -- some, and then the others
  abbrev pub joined : List X → Option (List X) → Option (List X)
  joined xs o = option_map (λ rest. xs ++ rest) o

  -- all items are something if each is
  some-before : (a : Option X) (o : Option (List X)) → is_some (before a o) ≡ (is_some a && is_some o)
  some-before None o = refl
  some-before (Some x) None = refl
  some-before (Some x) (Some xs) = refl

  pub all-some : (f : Data → Option X) (vs : List Value) → list_all (λ v. is_some (f (view v))) vs ≡ is_some (all_in f (items_view vs))
  all-some f [] = refl
  all-some f (v ∷ vs) = rw (some-before (f (view v)) (all_in f (items_view vs)), ← all-some f vs)

  -- what each item gives has a property if all that it may give has it
  pub before-fits : (P : X → Type 0) (a : Option X) (o : Option (List X)) (xs : List X) → ((x : X) → a ≡ Some x → P x) → ((ys : List X) → o ≡ Some ys → AllByRecursion P ys) → before a o ≡ Some xs → AllByRecursion P xs
  before-fits P None o xs p q e = cc
  before-fits P (Some x) None xs p q e = cc
  before-fits P (Some x) (Some ys) xs p q e = subst (AllByRecursion P) (same_Some _ _ e) (p x refl, q ys refl)

  pub all-fit : (P : X → Type 0) (f : Data → Option X) → ((d : Data) (x : X) → f d ≡ Some x → P x) → (ds : Items) (xs : List X) → all_in f ds ≡ Some xs → AllByRecursion P xs
  all-fit P f p no_items xs e = subst (AllByRecursion P) (same_Some _ _ e) tt
  all-fit P f p (item d ds) xs e = before-fits P (f d) (all_in f ds) xs (p d) (λ ys h. all-fit P f p ds ys h) e

-- ---- what each of a list gives

module _ {X Y : Type 0} (f : Y → Option X) where
  -- all give something if each does
  pub each-some : (ys : List Y) → list_all (λ y. is_some (f y)) ys ≡ is_some (each f ys)
  each-some [] = refl
  each-some (y ∷ ys) = rw (some-before (f y) (each f ys), ← each-some ys)

  pub each-fits : (P : X → Type 0) → ((y : Y) (x : X) → f y ≡ Some x → P x) → (ys : List Y) (xs : List X) → each f ys ≡ Some xs → AllByRecursion P xs
  each-fits P p [] xs e = subst (AllByRecursion P) (same_Some _ _ e) tt
  each-fits P p (y ∷ ys) xs e = before-fits P (f y) (each f ys) xs (p y) (λ zs h. each-fits P p ys zs h) e

  -- there are as many
  before-length : (n : ℕ) (a : Option X) (o : Option (List X)) (xs : List X) → ((zs : List X) → o ≡ Some zs → length zs ≡ n) → before a o ≡ Some xs → length xs ≡ suc n
  before-length n None o xs p e = cc
  before-length n (Some x) None xs p e = cc
  before-length n (Some x) (Some zs) xs p e = ap length (sym (same_Some _ _ e)) ∙ ap (λ k. suc k) (p zs refl)

  pub each-length : (ys : List Y) (xs : List X) → each f ys ≡ Some xs → length xs ≡ length ys
  each-length [] xs e = ap length (sym (same_Some _ _ e))
  each-length (y ∷ ys) xs e = before-length (length ys) (f y) (each f ys) xs (each-length ys) e

-- ---- values in two steps: of their types, and then in their ranges

module _ {X Y : Type 0} (f : Y → Option X) where
  step-before : (a : Option Y) (o : Option (List Y)) → before (option_and_then f a) (option_and_then (each f) o) ≡ option_and_then (each f) (before a o)
  step-before None o = refl
  step-before (Some y) (Some ys) = refl
  step-before (Some y) None = none (f y)
    where
      none : (x : Option X) → before x None ≡ None
      none None = refl
      none (Some x) = refl

  -- what each of a list gives: first its values, then what these give
  each-two : {Z : Type 0} (g : Z → Option Y) (zs : List Z) → each (λ z. option_and_then f (g z)) zs ≡ option_and_then (each f) (each g zs)
  each-two g [] = refl
  each-two g (z ∷ zs) = rw (each-two g zs) (step-before (g z) (each g zs))

  typed-each : (together : List X → Result (List X) KeyFault) (o : Option (List Y)) → is_some o ≡ true
      → typed (in_ranges f together) o ≡ option_map_or together (option_and_then (each f) o) (Err OutOfRange)
  typed-each together None h = cc
  typed-each together (Some ys) h = refl

  pub each-typed : {Z : Type 0} (g : Z → Option Y) (together : List X → Result (List X) KeyFault) (zs : List Z) → is_some (each g zs) ≡ true
      → typed (in_ranges f together) (each g zs) ≡ option_map_or together (each (λ z. option_and_then f (g z)) zs) (Err OutOfRange)
  each-typed g together zs h = rw (each-two g zs) (typed-each together (each g zs) h)

  module _ (g : Data → Option Y) (together : List X → Result (List X) KeyFault) where
    -- what all items come to: first their values, then what these give
    two-steps : (ds : Items) → all_in (λ d. option_and_then f (g d)) ds ≡ option_and_then (each f) (all_in g ds)
    two-steps no_items = refl
    two-steps (item d ds) = rw (two-steps ds) (step-before (g d) (all_in g ds))

    -- what values give is what their items give
    values-read : (ds : Items) → is_some (all_in g ds) ≡ true → typed (in_ranges f together) (all_in g ds) ≡ option_map_or together (all_in (λ d. option_and_then f (g d)) ds) (Err OutOfRange)
    values-read ds h = rw (two-steps ds) (typed-each together (all_in g ds) h)

    pub values-none : (ds : Items) → is_some (all_in g ds) ≡ true → all_in (λ d. option_and_then f (g d)) ds ≡ None → typed (in_ranges f together) (all_in g ds) ≡ Err OutOfRange
    values-none ds h e = values-read ds h ∙ ap (λ o. option_map_or together o (Err OutOfRange)) e

    pub values-some : (ds : Items) (xs : List X) → is_some (all_in g ds) ≡ true → all_in (λ d. option_and_then f (g d)) ds ≡ Some xs → typed (in_ranges f together) (all_in g ds) ≡ together xs
    values-some ds xs h e = values-read ds h ∙ ap (λ o. option_map_or together o (Err OutOfRange)) e

-- ---- lists

module _ {X : Type 0} (f : List Text → Option X) (most : ℕ) (ds : Items) (lists : is_some (lists_in ds) ≡ true) where
  pub lists-none : all_in (λ d. option_and_then f (list_in d)) ds ≡ None → typed (in_ranges f (at_most most)) (lists_in ds) ≡ Err OutOfRange
  lists-none e = values-none f list_in (at_most most) ds lists e

  pub lists-many : (xs : List X) → all_in (λ d. option_and_then f (list_in d)) ds ≡ Some xs → most < length xs → typed (in_ranges f (at_most most)) (lists_in ds) ≡ Err OutOfRange
  lists-many xs e many = values-some f list_in (at_most most) ds xs lists e ∙ ap (λ b. if b then Ok xs else Err OutOfRange) (lt-leb (length xs) most many)

  pub lists-some : (xs : List X) → all_in (λ d. option_and_then f (list_in d)) ds ≡ Some xs → length xs ≤ most → typed (in_ranges f (at_most most)) (lists_in ds) ≡ Ok xs
  lists-some xs e few = values-some f list_in (at_most most) ds xs lists e ∙ ap (λ b. if b then Ok xs else Err OutOfRange) (le-leb (length xs) most few)

-- ---- ranges

short-chunks : (cs : List Text) → list_all is_chunk cs ≡ true → AllByRecursion (λ c. length c ≤ 4096) cs
short-chunks [] h = tt
short-chunks (c ∷ cs) h =
    let (here, more) = and_parts (is_chunk c) (list_all is_chunk cs) h in
    (leb-true (length c) 4096 here, short-chunks cs more)

pub chunks-fit : (cs : List Text) → is_chunk_list cs ≡ true → IsChunks cs
chunks-fit cs h =
    let (few, short) = and_parts (nat_le (length cs) 1000) (list_all is_chunk cs) h in
    record { few = leb-true (length cs) 1000 few; short = short-chunks cs short }

wishes-count : (n : ℕ) (o : Option (List Text)) (vs : List Vote) → option_and_then (wishes_of n) o ≡ Some vs → length vs ≡ n
wishes-count n None vs e = cc
wishes-count n (Some ts) vs e =
    elim (is_wish_list n ts) as (λ b. is_wish_list n ts ≡ b → (if b then Some (map wish_of ts) else None) ≡ Some vs → length vs ≡ n) [
      | true ↦ λ is same. ap length (sym (same_Some _ _ same)) ∙ length-map ts wish_of ∙ eqb-true (length ts) n (and_parts (length ts == n) (list_all is_wish ts) is).0
      | false ↦ λ _ none. cc
    ] refl e

-- the wishes of each list are as many as there are participants
pub wishes-fit : (n : ℕ) (ds : Items) (vs : List (List Vote)) → all_in (λ d. option_and_then (wishes_of n) (list_in d)) ds ≡ Some vs → All (λ v. length v ≡ n) vs
wishes-fit n ds vs e =
    All-from_recursion (λ v. length v ≡ n) vs (all-fit (λ v. length v ≡ n) (λ d. option_and_then (wishes_of n) (list_in d)) (λ d v h. wishes-count n (list_in d) v h) ds vs e)
