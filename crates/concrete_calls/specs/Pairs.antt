-- A probe whose sets fail where they have two numbers.
use Rattle.std.specs.Prelude.{ℕ, Bool, ◌&&◌, nat_eq, List}
use Rattle.std.specs.List.{list_any}

abbrev pub has_both : ℕ → ℕ → List ℕ → Bool
has_both first second set = list_any (nat_eq first) set && list_any (nat_eq second) set
