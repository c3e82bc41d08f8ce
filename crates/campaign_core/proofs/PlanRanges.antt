-- Ranges of plans: each plan stands in one, and none reaches past the plans. What the range of a number says.
use Rattle.std.proofs.Common.{ℕ, ◌+◌, ◌-◌, ◌*◌, ◌/◌, ◌<◌, ◌≤◌, min, Bool, true, false, nat_le, cond, List, length, arith}
use Rattle.std.specs.Int.{div_ceil}
use Rattle.scenario_values.specs.Scenario.{Entries}
use Rattle.target_trait.specs.Outcomes.{Told}
use Rattle.target_trait.specs.declared.judgement.Verdict.{Verdict}
use Rattle.result_book.specs.Ranges.{AreSaid}
use Rattle.result_book.proofs.RangeLemmas.{range_length, range_said}
use Rattle.grown_runs.specs.ranges.Ranges.{range_count, range_start}
use Rattle.campaign_core.specs.inside.Ranges.{range_from, range_of}
use Rattle.grown_runs.proofs.RangeParts.{range_within}

-- The number stands in one of the ranges, which have one size.
abbrev InRange : (plans size m : ℕ) → Type 0
InRange plans size m = (range : ℕ) × ((range < div_ceil plans size) × (min (range * size) plans ≤ m) × (m < min ((range + 1) * size) plans))

in_sized : (few some : Bool) (plans m : ℕ) → m < plans → InRange plans (cond few 1 (cond some 16 64)) m
in_sized true some plans m lt = (m, (omega arith, omega arith, omega arith))
in_sized false true plans m lt = (m / 16, (omega arith, omega arith, omega arith))
in_sized false false plans m lt = (m / 64, (omega arith, omega arith, omega arith))

-- each plan stands in a range
in_range : (plans m : ℕ) → m < plans → (range : ℕ) × ((range < range_count plans) × (range_start plans range ≤ m) × (m < range_start plans (range + 1)))
in_range plans m lt = in_sized (nat_le plans 1024) (nat_le plans 16384) plans m lt

-- the same of the plans from a number on
pub from_within : (plans first range : ℕ) → first ≤ plans
    → (first + range_start (plans - first) range ≤ first + range_start (plans - first) (range + 1)) × (first + range_start (plans - first) (range + 1) ≤ plans)
from_within plans first range fit =
    let within = range_within (plans - first) range in
    let up = within.0 in
    let high = within.1 in
    (omega (arith, up), omega (arith, high, fit))

-- a range's verdicts are those of its plans
pub ranges_said : (say : ℕ → Entries → Verdict) (run : ℕ → Entries → Told) (plans : List Entries) (watched : List ℕ) (first range : ℕ) → first ≤ length plans
    → AreSaid say plans (range_of say run plans watched first range).first (range_of say run plans watched first range).verdicts
ranges_said say run plans watched first range fit =
    let within = from_within (length plans) first range fit in
    range_said say plans (range_from plans first range) (range_from plans first (range + 1)) within.0 within.1

-- each plan's verdict is in a range
pub range_reaches : (say : ℕ → Entries → Verdict) (run : ℕ → Entries → Told) (plans : List Entries) (watched : List ℕ) (first m : ℕ) → first ≤ m → m < length plans
    → (range : ℕ) × ((range < range_count (length plans - first)) × ((range_of say run plans watched first range).first ≤ m)
    × (m < (range_of say run plans watched first range).first + length (range_of say run plans watched first range).verdicts))
range_reaches say run plans watched first m from lt =
    let found = in_range (length plans - first) (m - first) (omega (arith, from, lt)) in
    let fit : first ≤ length plans = omega (arith, from, lt) in
    let within = from_within (length plans) first found.0 fit in
    let ends = range_length say plans (range_from plans first found.0) (range_from plans first (found.0 + 1)) within.0 within.1 in
    let low = found.1.1 in
    let high = found.1.2 in
    (found.0, (found.1.0, (omega (arith, low, from)), (omega (arith, ends, high, from))))
