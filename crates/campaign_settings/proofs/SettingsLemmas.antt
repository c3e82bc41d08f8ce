use Rattle.std.proofs.Common.{◌≡◌, ◌+◌, ◌++◌, List, [], ◌∷◌, Option, Some, None, Bool, Bor, String, Global, Ok, Err, ap, ◌∙◌, cond, find, not, option_map, refl, string_bytes, sym, true, false, if◌then◌else◌}
use Rattle.std.specs.Cmp.Lexicographic.{slice_cmp}
use Rattle.std.specs.List.{AllByRecursion}
use Rattle.std.specs.List.Sorted.{IsStrictlySortedBy}
use Rattle.std.specs.Map.{keys_of}
use Rattle.std.specs.Option.{option_copied}
use Rattle.std.specs.Ordering.{match_ordering, nat_cmp}
use Rattle.std.specs.String.{string_cmp}
use Rattle.std.specs.declared.cmp.Ordering.TheVariants.{Less, Equal, Greater}
use Rattle.toml.specs.View.{members_view}
use Rattle.toml.specs.declared.value.Value.{Value}
use Rattle.campaign_settings.specs.Keys.{Text}
use Rattle.scenario_values.specs.Scenario.{Entries}
use Rattle.campaign_settings.specs.Settings.{Read, least_unknown, lesser}

-- a key below another and below the rest is below the lesser of them
below_lesser : (name other : Text) (rest : Option Text) → slice_cmp nat_cmp name other ≡ Less → lesser name rest ≡ name → lesser name (Some (lesser other rest)) ≡ name
below_lesser name other None less h = rw less refl
below_lesser name other (Some r) less h =
    elim (slice_cmp nat_cmp other r) as (λ o. lesser name (Some (match_ordering o other other r)) ≡ name) [
      | Less ↦ rw less refl
      | Equal ↦ rw less refl
      | Greater ↦ h
    ]

-- a key below those of a map is below the least unknown one of them
below_least : (known : Text → Bool) (name : String Global) (es : List (String Global × Value)) → AllByRecursion (λ k. string_cmp name k ≡ Less) (keys_of es)
    → lesser (string_bytes name) (least_unknown known (members_view es)) ≡ string_bytes name
below_least known name [] above = refl
below_least known name (e ∷ es) above =
    let rest : lesser (string_bytes name) (least_unknown known (members_view es)) ≡ string_bytes name = below_least known name es above.1 in
    elim (known (string_bytes e.0)) as (λ b. lesser (string_bytes name) (if b then least_unknown known (members_view es) else Some (lesser (string_bytes e.0) (least_unknown known (members_view es)))) ≡ string_bytes name) [
      | true ↦ rest
      | false ↦ below_lesser (string_bytes name) (string_bytes e.0) (least_unknown known (members_view es)) above.0 rest
    ]

-- the first unknown key of a map is the least, since the keys ascend
unknown_found : (known : Text → Bool) (es : List (String Global × Value)) → IsStrictlySortedBy string_cmp (keys_of es)
    → option_map string_bytes (find (λ k. not (known (string_bytes k))) (keys_of es)) ≡ least_unknown known (members_view es)
unfolding IsStrictlySortedBy
unknown_found known [] sorted = refl
unknown_found known (e ∷ es) sorted =
    elim (known (string_bytes e.0)) as (λ b. option_map string_bytes (cond (not b) (Some e.0) (find (λ k. not (known (string_bytes k))) (keys_of es)))
    ≡ (if b then least_unknown known (members_view es) else Some (lesser (string_bytes e.0) (least_unknown known (members_view es))))) [
      | true ↦ unknown_found known es sorted.1
      | false ↦ ap (λ n. Some n) (sym (below_least known e.0 es sorted.0))
    ]

-- what a search for the first unknown key comes to
pub first-unknown : (known : Text → Bool) (es : List (String Global × Value)) (first : Option (Bor (String Global))) → IsStrictlySortedBy string_cmp (keys_of es)
    → option_copied first ≡ find (λ k. not (known (string_bytes k))) (keys_of es) → option_map (λ n. string_bytes n.now) first ≡ least_unknown known (members_view es)
first-unknown known es first sorted found = copied first ∙ ap (option_map string_bytes) found ∙ unknown_found known es sorted
  where
    copied : (o : Option (Bor (String Global))) → option_map (λ n. string_bytes n.now) o ≡ option_map string_bytes (option_copied o)
    copied None = refl
    copied (Some n) = refl

-- ---- listed scenarios

-- some, and then what the others spell
abbrev pub glued : List Entries → Read (List Entries) → Read (List Entries)
glued ss (Ok rest) = Ok (ss ++ rest)
glued ss (Err cause) = Err cause
