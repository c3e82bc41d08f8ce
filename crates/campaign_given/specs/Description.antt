-- What the settings say of a component that somebody else runs. Its texts are printed in lines of requests, answers and reports, so none has an ASCII
-- control character.
use Rattle.std.specs.Prelude.{◌≡◌, ◌≢◌, ◌&&◌, ℕ, ◌≤◌, Bool, true, not, List, [], ◌∷◌, Some, None, length, nat_le, nat_lt}
use Rattle.std.specs.Char.{is_ascii_control}
use Rattle.std.specs.List.{AllByRecursion, list_all, list_any}
use Rattle.std.specs.Str.{bytes_eq}
use Rattle.scenario_values.specs.Scenario.{is_argument, is_name}
use Rattle.action_eval.specs.Catalogue.{HasDistinct, IsCatalogue}
use Rattle.action_eval.specs.RiggedScenario.{most_text}
use Rattle.campaign_given.specs.declared.outside.TriedFault.{TriedFault}
use Rattle.campaign_given.specs.declared.outside.TriedFault.TheVariants.{Return, Panic}

-- The component's label; the names of its failures' codes, whose numbers are their places; the names of its points; how often each point is hit in a
-- run without faults; and the faults that are tried at each point, none if these are the usual ones. With a depth the answers give the hits, and the
-- settings have 0 for each point.
pub record Description : Type 0 where
  pub label : List ℕ
  pub codes : List (List ℕ)
  pub points : List (List ℕ)
  pub hits : List ℕ
  pub kinds : List (List TriedFault)

-- Whether a byte of the text is an ASCII control character.
abbrev pub has_control : List ℕ → Bool
has_control text = list_any is_ascii_control text

abbrev pub is_label : List ℕ → Bool
is_label text = nat_le (length text) 200 && not (has_control text)

abbrev pub is_code : List ℕ → Bool
is_code name = nat_lt 0 (length name) && is_label name

abbrev pub is_point : List ℕ → Bool
is_point name = is_name name && is_label name

-- What a return may say: an argument that is lawful in a scenario, of at most 32 bytes, and without control characters.
abbrev pub is_return_text : List ℕ → Bool
is_return_text text = is_argument text && nat_le (length text) most_text && not (has_control text)

abbrev pub is_tried : TriedFault → Bool
is_tried (Return None) = true
is_tried (Return (Some text)) = is_return_text text
is_tried Panic = true

-- No text is the same as one after it.
abbrev pub are_distinct : List (List ℕ) → Bool
are_distinct [] = true
are_distinct (t ∷ ts) = not (list_any (λ other. bytes_eq other t) ts) && are_distinct ts

abbrev pub are_codes : List (List ℕ) → Bool
are_codes names = nat_le (length names) 64 && list_all is_code names && are_distinct names

-- The names can be a catalogue, like the names of a bundled target's points.
abbrev pub are_points : List (List ℕ) → Bool
are_points names = nat_lt 0 (length names) && nat_le (length names) 64 && list_all is_point names && are_distinct names

-- At most 64 distinct names of 1 to 200 bytes.
pub record AreCodes (names : List (List ℕ)) : Type 0 where
  pub few : length names ≤ 64
  pub each : AllByRecursion (λ name. is_code name ≡ true) names
  pub distinct : HasDistinct names

-- No fault is the same as one after it.
abbrev pub AreApart : List TriedFault → Type 0
AreApart [] = Unit {0}
AreApart (fault ∷ faults) = AllByRecursion (λ other. fault ≢ other) faults × AreApart faults

-- At most 8 lawful faults, none twice.
pub record AreTried (faults : List TriedFault) : Type 0 where
  pub few : length faults ≤ 8
  pub each : AllByRecursion (λ fault. is_tried fault ≡ true) faults
  pub apart : AreApart faults

-- A label of at most 200 bytes, lawful codes and points, and for each point a count of at most 100,000 and the faults that are tried.
pub record IsDescription (d : Description) : Type 0 where
  pub label : is_label d.label ≡ true
  pub codes : AreCodes d.codes
  pub catalogue : IsCatalogue d.points
  pub plain_points : AllByRecursion (λ name. is_label name ≡ true) d.points
  pub counts : length d.hits ≡ length d.points
  pub high : AllByRecursion (λ n. n ≤ 100000) d.hits
  pub points_tried : length d.kinds ≡ length d.points
  pub tried : AllByRecursion AreTried d.kinds
