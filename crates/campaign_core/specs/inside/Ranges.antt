-- The results of ranges of plans, which workers take one after another. Private contracts cite them.
use Rattle.std.specs.Prelude.{◌≡◌, ℕ, ◌+◌, ◌-◌, ◌==◌, Bool, List, [], Option, None, Some, Vec, filter, if◌then◌else◌, length, slice_index_or, slice_range}
use Rattle.std.specs.Global.{Global}
use Rattle.std.specs.List.{AllByRecursion, list_all, range_with_len}
use Rattle.scenario_values.specs.Scenario.{Entries}
use Rattle.target_trait.specs.Outcomes.{Told}
use Rattle.target_trait.specs.declared.judgement.Verdict.{Verdict}
use Rattle.grown_runs.specs.declared.levels.Grown.{Grown}
use Rattle.grown_runs.specs.ranges.Ranges.{range_count, range_start}
use Rattle.result_book.specs.Verdicts.{verdicts_from}
use Rattle.campaign_core.specs.declared.planned.Planned.{Planned}
use Rattle.result_book.specs.Ranges.{Stretch}
use Rattle.result_book.specs.Runs.{is_asked, runs_from, unreached_of}

-- The number of the plan with which a range begins, for ranges of the plans from number `first` on.
abbrev pub range_from : List Entries → ℕ → ℕ → ℕ
range_from plans first range = first + range_start (length plans - first) range

-- The plans of a range.
abbrev pub part_of : List Entries → ℕ → ℕ → List Entries
part_of plans first range = slice_range plans (range_from plans first range) (range_from plans first (range + 1))

-- The result of a range: where it begins, the verdicts of its plans, and which of the watched points none of their runs asks.
abbrev pub range_of : (ℕ → Entries → Verdict) → (ℕ → Entries → Told) → List Entries → List ℕ → ℕ → ℕ → Stretch
range_of say run plans watched first range =
    let begin = range_from plans first range in
    record {
      first = begin;
      verdicts = verdicts_from say begin (part_of plans first range);
      unreached = unreached_of watched (runs_from run begin (part_of plans first range));
    }

-- Each result in these lists is that of the range that its ticket names.
abbrev pub AreRanges : (ℕ → Stretch) → List (Vec (ℕ × Stretch) Global) → Type 0
AreRanges range lists = AllByRecursion (λ list. AllByRecursion (λ p. p.1 ≡ range p.0) list.items) lists

-- Whether a point is reported as unreached by each range of these lists.
abbrev pub is_left_in : List (Vec (ℕ × Stretch) Global) → ℕ → Bool
is_left_in lists point = list_all (λ list. list_all (λ p. is_asked point p.1.unreached) list.items) lists

-- The points without a hit, by the counts of all points.
abbrev pub uncounted : List ℕ → List ℕ
uncounted counts = filter (λ p. slice_index_or counts p 0 == 0) (range_with_len 0 (length counts))

-- The number of tickets: there is one for each range of the plans from number `first` on.
abbrev pub range_limit : ℕ → ℕ → ℕ
range_limit plans first = range_count (plans - first)

-- How often the runs that were made to plan hit each point (with a depth, the most hits in any one run); and below, how many plans they ran.
abbrev pub counts_by : List ℕ → Option Grown → List ℕ
counts_by census None = census
counts_by census (Some g) = g.outcomes.hits.items

abbrev pub counts_in : Planned → List ℕ
counts_in p = counts_by p.census.counts.items p.grown

abbrev pub known_by : Option Grown → ℕ
known_by None = 0
known_by (Some g) = length g.outcomes.verdicts.items

abbrev pub known_in : Planned → ℕ
known_in p = known_by p.grown

-- The points that are watched in a survey: those that no run made to plan hit.
abbrev pub watched_if : Bool → Planned → List ℕ
watched_if is_surveyed p = if is_surveyed then uncounted (counts_in p) else []
