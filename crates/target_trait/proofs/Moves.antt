-- A target is a component.
use Rattle.std.proofs.Common.{ℕ}
use Rattle.target_trait.specs.Play.{Move, Ask, Done, Unknown, IsWithin, AsksWithin}

pub asks_within : (points : ℕ) (move : Move) → IsWithin points move → AsksWithin points move
asks_within points (Ask p) within = within
asks_within points (Done j) within = tt
asks_within points Unknown within = tt
