-- The values that a document is made of.
use Rattle.std.specs.Prelude.{ℕ, zero, suc, List}
use Rattle.std.specs.Fmt.{decimal}
use Rattle.json.specs.Json.{Json, Members, number, string, array, member}
use Rattle.json.specs.Value.{items_of}
use Rattle.scenario_values.specs.Scenario.{Entries}
use Rattle.scenario_values.specs.Printed.{printed}

-- A whole number.
abbrev pub whole : ℕ → Json
whole n = number (decimal n)

-- A member for a count, if the count isn't 0, before other members.
abbrev pub nonzero : List ℕ → ℕ → Members → Members
nonzero name zero others = others
nonzero name (suc n) others = member name (whole (suc n)) others

-- A list of values.
abbrev pub list_of : List Json → Json
list_of values = array (items_of values)

-- The printed form of a scenario. It is empty for a scenario without entries.
abbrev pub scenario_value : Entries → Json
scenario_value entries = string (printed entries)
