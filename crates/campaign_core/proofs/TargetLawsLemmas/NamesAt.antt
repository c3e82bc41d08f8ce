-- A catalogue is lawful if each of its places is.
use Rattle.std.proofs.Common.{◌≡◌, ℕ, suc, ◌<◌, ◌≤◌, List, [], ◌∷◌, true, false, length, slice_index_or, arith}
use Rattle.std.specs.List.{AllByRecursion}
use Rattle.std.specs.Str.{bytes_eq}
use Rattle.scenario_values.specs.Scenario.{is_name}
use Rattle.action_eval.specs.Catalogue.{HasDistinct, IsCatalogue}
use Rattle.action_eval.proofs.TidiedEntries.{flipped}
use Rattle.campaign_core.specs.target_laws.inside.Names.{IsLawfulAt}

each : (P : List ℕ → Type 0) (names : List (List ℕ)) → ((p : ℕ) → p < length names → P (slice_index_or names p [])) → AllByRecursion P names
each P [] at = tt
each P (n ∷ ns) at = (at 0 (omega arith), each P ns (λ p less. at (suc p) (omega arith)))

distinct : (names : List (List ℕ)) → ((p q : ℕ) → q < p → p < length names → bytes_eq (slice_index_or names q []) (slice_index_or names p []) ≡ false) → HasDistinct names
distinct [] new = tt
distinct (n ∷ ns) new = (
  each (λ (other : List ℕ). bytes_eq other n ≡ false) ns (λ p less. flipped n (slice_index_or ns p []) (new (suc p) 0 (omega arith) (omega arith))),
  distinct ns (λ p q before less. new (suc p) (suc q) (omega arith) (omega arith)),
)

pub lawful_all : (names : List (List ℕ)) → 0 < length names → length names ≤ 64 → ((p : ℕ) → p < length names → IsLawfulAt names p) → IsCatalogue names
lawful_all names some few at = record {
  some = some;
  few = few;
  short = each (λ (name : List ℕ). length name ≤ 200) names (λ p less. (at p less).short);
  lawful = each (λ (name : List ℕ). is_name name ≡ true) names (λ p less. (at p less).lawful);
  distinct = distinct names (λ p q before less. (at p less).new q before);
}
