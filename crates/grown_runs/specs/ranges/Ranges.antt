-- Ranges of plans, which workers take one after another.
use Rattle.std.specs.Prelude.{ℕ, ◌*◌, min, nat_le, if◌then◌else◌}
use Rattle.std.specs.Int.{div_ceil}

-- How many plans a range has, except for the last one. If there are few plans each range has one, so that every worker has some until the end.
abbrev pub range_size : ℕ → ℕ
range_size plans = if nat_le plans 1024 then 1 else if nat_le plans 16384 then 16 else 64

-- How many ranges this many plans make.
abbrev pub range_count : ℕ → ℕ
range_count plans = div_ceil plans (range_size plans)

-- The plan with which a range begins, from 0 on. A range past the last one begins where the plans end.
abbrev pub range_start : ℕ → ℕ → ℕ
range_start plans range = min (range * range_size plans) plans
