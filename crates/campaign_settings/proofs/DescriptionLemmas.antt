use Rattle.std.proofs.Common.{◌≡◌, ◌≤◌, ◌&&◌, ◌==◌, ◌∙◌, ap, Ok, Err, is_some, ℕ, ℤ, pos, negsuc, Bool, List, [], ◌∷◌, Option, Some, None, length, not, nat_le, nat_lt, option_and_then, refl, subst, true, false, if◌then◌else◌}
use Rattle.std.proofs.lemmas.Bool.{and_parts, leb-true, ltb-true, or_parts}
use Rattle.std.proofs.lemmas.Option.{same_Some}
use Rattle.std.specs.List.{AllByRecursion, list_all, list_any}
use Rattle.std.specs.Str.{bytes_eq}
use Rattle.toml.specs.Data.{Data, Items, as_integer}
use Rattle.scenario_grammar.proofs.CutLaws.{not_false}
use Rattle.scenario_values.specs.Scenario.{is_name}
use Rattle.action_eval.specs.Catalogue.{HasDistinct, IsCatalogue}
use Rattle.campaign_given.specs.Description.{AreCodes, are_codes, are_distinct, are_points, has_control, is_code, is_label, is_point}
use Rattle.campaign_settings.specs.Keys.{Text}
use Rattle.campaign_settings.specs.Lists.{all_in}
use Rattle.campaign_settings.specs.Outside.{count_of}
use Rattle.campaign_settings.specs.Values.{in_ranges, ranged, typed}
use Rattle.campaign_settings.specs.declared.keys.KeyFault.TheVariants.{OutOfRange}
use Rattle.campaign_settings.proofs.ListLemmas.{all-fit, values-none, values-some}

module _ {X : Type 0} (p : X → Bool) where
  -- what all pass, each passes
  pub each-passes : (xs : List X) → list_all p xs ≡ true → AllByRecursion (λ x. p x ≡ true) xs
  each-passes [] h = tt
  each-passes (x ∷ xs) h =
      let (here, more) = and_parts (p x) (list_all p xs) h in
      (here, each-passes xs more)

  -- what none passes, each fails
  each-fails : (xs : List X) → list_any p xs ≡ false → AllByRecursion (λ x. p x ≡ false) xs
  each-fails [] h = tt
  each-fails (x ∷ xs) h =
      let (here, more) = or_parts (p x) (list_any p xs) h in
      (here, each-fails xs more)

pub distinct-kept : (names : List Text) → are_distinct names ≡ true → HasDistinct names
distinct-kept [] h = tt
distinct-kept (name ∷ names) h =
    let (new, more) = and_parts (not (list_any (λ other. bytes_eq other name) names)) (are_distinct names) h in
    (each-fails (λ other. bytes_eq other name) names (not_false (list_any (λ other. bytes_eq other name) names) new), distinct-kept names more)

pub codes_kept : (names : List Text) → are_codes names ≡ true → AreCodes names
codes_kept names h =
    let (front, distinct) = and_parts (nat_le (length names) 64 && list_all is_code names) (are_distinct names) h in
    let (few, each) = and_parts (nat_le (length names) 64) (list_all is_code names) front in
    record { few = leb-true (length names) 64 few; each = each-passes is_code names each; distinct = distinct-kept names distinct }

-- a point is lawful, and short
names-lawful : (names : List Text) → list_all is_point names ≡ true → AllByRecursion (λ name. is_name name ≡ true) names
names-lawful [] h = tt
names-lawful (name ∷ names) h =
    let (here, more) = and_parts (is_point name) (list_all is_point names) h in
    ((and_parts (is_name name) (is_label name) here).0, names-lawful names more)

pub points-plain : (names : List Text) → list_all is_point names ≡ true → AllByRecursion (λ name. is_label name ≡ true) names
points-plain [] h = tt
points-plain (name ∷ names) h =
    let (here, more) = and_parts (is_point name) (list_all is_point names) h in
    ((and_parts (is_name name) (is_label name) here).1, points-plain names more)

label-short : (name : Text) → is_label name ≡ true → length name ≤ 200
label-short name h = leb-true (length name) 200 (and_parts (nat_le (length name) 200) (not (has_control name)) h).0

names-short : (names : List Text) → AllByRecursion (λ name. is_label name ≡ true) names → AllByRecursion (λ name. length name ≤ 200) names
names-short [] h = tt
names-short (name ∷ names) h = (label-short name h.0, names-short names h.1)

-- the three tests of a list of points
pub record PointsPass (names : List Text) : Type 0 where
  pub some : nat_lt 0 (length names) ≡ true
  pub few : nat_le (length names) 64 ≡ true
  pub each : list_all is_point names ≡ true
  pub distinct : are_distinct names ≡ true

points-pass : (names : List Text) → are_points names ≡ true → PointsPass names
points-pass names h =
    let (front, distinct) = and_parts (nat_lt 0 (length names) && nat_le (length names) 64 && list_all is_point names) (are_distinct names) h in
    let (sizes, each) = and_parts (nat_lt 0 (length names) && nat_le (length names) 64) (list_all is_point names) front in
    let (some, few) = and_parts (nat_lt 0 (length names)) (nat_le (length names) 64) sizes in
    record { some = some; few = few; each = each; distinct = distinct }

pub points_labelled : (names : List Text) → are_points names ≡ true → AllByRecursion (λ name. is_label name ≡ true) names
points_labelled names h = points-plain names (points-pass names h).each

pub points_kept : (names : List Text) → are_points names ≡ true → IsCatalogue names
points_kept names h =
    let pass = points-pass names h in
    record {
      some = ltb-true 0 (length names) pass.some;
      few = leb-true (length names) 64 pass.few;
      short = names-short names (points-plain names pass.each);
      lawful = names-lawful names pass.each;
      distinct = distinct-kept names pass.distinct;
    }

-- each count is in its range
count-high : (d : Data) (n : ℕ) → option_and_then count_of (as_integer d) ≡ Some n → n ≤ 100000
count-high d n e = of_integer (as_integer d) n e
  where
    of_number : (b : Bool) (m n : ℕ) → nat_le m 100000 ≡ b → (if b then Some m else None) ≡ Some n → n ≤ 100000
    of_number true m n h e = subst (λ k. k ≤ 100000) (same_Some _ _ e) (leb-true m 100000 h)
    of_number false m n h e = cc

    of_integer : (z : Option ℤ) (n : ℕ) → option_and_then count_of z ≡ Some n → n ≤ 100000
    of_integer None n e = cc
    of_integer (Some (pos m)) n e = of_number (nat_le m 100000) m n refl e
    of_integer (Some (negsuc m)) n e = cc

pub counts-high : (ds : Items) (ns : List ℕ) → all_in (λ d. option_and_then count_of (as_integer d)) ds ≡ Some ns → AllByRecursion (λ n. n ≤ 100000) ns
counts-high ds ns e = all-fit (λ n. n ≤ 100000) (λ d. option_and_then count_of (as_integer d)) count-high ds ns e

-- ---- the counts of a list of numbers

module _ (points : ℕ) (ds : Items) (numbers : is_some (all_in as_integer ds) ≡ true) where
  pub counts-none : all_in (λ d. option_and_then count_of (as_integer d)) ds ≡ None → typed (in_ranges count_of (ranged (λ counts. length counts == points))) (all_in as_integer ds) ≡ Err OutOfRange
  counts-none e = values-none count_of as_integer (ranged (λ counts. length counts == points)) ds numbers e

  module _ (ns : List ℕ) (some : all_in (λ d. option_and_then count_of (as_integer d)) ds ≡ Some ns) (b : Bool) (same : (length ns == points) ≡ b) where
    pub counts-some : typed (in_ranges count_of (ranged (λ counts. length counts == points))) (all_in as_integer ds) ≡ (if b then Ok ns else Err OutOfRange)
    counts-some = values-some count_of as_integer (ranged (λ counts. length counts == points)) ds ns numbers some ∙ ap (λ x. if x then Ok ns else Err OutOfRange) same
