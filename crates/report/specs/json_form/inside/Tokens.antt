-- The tokens that are written one after the other.
use Rattle.std.specs.Prelude.{List, ℕ, zero, suc, [], ◌∷◌, codes, flat_map, Option, None, Some}
use Rattle.json.specs.Json.{Json}
use Rattle.json.specs.Token.{Token, key}
use Rattle.json.specs.Tree.{json_tokens}
use Rattle.report.specs.explained.Told.{RunFacts}
use Rattle.report.specs.json_form.Runs.{run_value}
use Rattle.report.specs.json_form.Values.{whole}

-- A member of an object.
abbrev pub member_tokens : List ℕ → Json → List Token
member_tokens name value = key name ∷ json_tokens value

-- A member for a count, if the count isn't 0.
abbrev pub nonzero_tokens : List ℕ → ℕ → List Token
nonzero_tokens name zero = []
nonzero_tokens name (suc n) = member_tokens name (whole (suc n))

-- Values one after the other, as they are in an array.
abbrev pub all_tokens : List Json → List Token
all_tokens values = flat_map json_tokens values

-- A member for the run of the plan that a plan grew from, if that run is known.
abbrev pub parent_tokens : Option RunFacts → List Token
parent_tokens None = []
parent_tokens (Some parent) = member_tokens (codes "parent") (run_value parent)
