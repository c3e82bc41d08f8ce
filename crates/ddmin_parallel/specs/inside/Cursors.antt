-- How far the code of the core has come in a round, and what its searches find.

use Rattle.std.specs.Prelude.{◌≡◌, ℕ, ◌≤◌, ◌<◌, Bool, true, false, List, [], ◌∷◌, ◌++◌, ◌||◌, Option, None, Some, not}
use Rattle.std.specs.List.{range_with_len, list_any}
use Rattle.ddmin_parallel.specs.Rounds.{Candidate, round}
use Rattle.ddmin_parallel.specs.inside.Candidates.{candidate, candidates, found}
use Rattle.ddmin_parallel.specs.CoreEvents.{Answers, decided, Position, Empty, Round, End, at_round, after_decision, step, furthest}
use Rattle.ddmin_parallel.specs.CoreEvents.{same_set, first_open, round_at, hoping, next_round, or_else}
use Rattle.ddmin_parallel.specs.inside.Stages.{position_of}
use Rattle.ddmin_parallel.specs.declared.stage.Cursor.{Cursor}
use Rattle.ddmin_parallel.specs.declared.stage.Stage.{Stage}
use Rattle.ddmin_parallel.specs.declared.stage.Look.{Look}
use Rattle.ddmin_parallel.specs.declared.stage.Look.TheVariants.{Stuck, Decided}
use Rattle.ddmin_parallel.specs.declared.stage.Step.{Step}
use Rattle.ddmin_parallel.specs.declared.stage.Step.TheVariants.{Stays, Moves}
use Rattle.ddmin_parallel.specs.declared.open.Scan.{Scan}
use Rattle.ddmin_parallel.specs.declared.open.Scan.TheVariants as scans

-- ---- the place that has been reached in a round

-- The candidates before the place are known to pass.
abbrev pub IsCounted : Answers → Position → ℕ → Type 0
IsCounted known (Empty faults) place = Unit {0}
IsCounted known (Round c n tests) place = (place ≤ candidates n) × ((j : ℕ) → j < place → known (candidate c n j).set ≡ Some false)
IsCounted known (End r) place = Unit {0}

-- The place where the known answers stop in a round, or what they decide of it.
abbrev pub IsLook : Answers → List ℕ → ℕ → ℕ → Look → Type 0
IsLook known c n tests (Stuck place) = (decided known (round c n) tests ≡ None) × IsCounted known (Round c n tests) place
IsLook known c n tests (Decided o looked) = decided known (round c n) tests ≡ Some (found o looked)

abbrev pub IsStep : Answers → Position → Step → Type 0
IsStep known p (Stays place) = (step known p ≡ None) × IsCounted known p place
IsStep known p (Moves stage) = step known p ≡ Some (position_of stage)

-- The furthest stage (none if the stage is unchanged), and how far its round has come.
abbrev pub IsAdvanced : Answers → Position → Option Stage → ℕ → Type 0
IsAdvanced known p None place = (furthest known p ≡ p) × IsCounted known p place
IsAdvanced known p (Some stage) place = (position_of stage ≡ furthest known p) × IsCounted known (position_of stage) place

-- ---- the place from which a round may have open candidates

-- The set can't be requested: it is known to pass, or it is out.
abbrev pub is_shut : Answers → (List ℕ → Bool) → List ℕ → Bool
is_shut known out s = elim (known s) [ None ↦ out s | Some fails ↦ not fails ]

abbrev pub IsShutBelow : Answers → (List ℕ → Bool) → Position → ℕ → Type 0
IsShutBelow known out (Empty faults) closed = Unit {0}
IsShutBelow known out (Round c n tests) closed = (closed ≤ candidates n) × ((j : ℕ) → j < closed → is_shut known out (candidate c n j).set ≡ true)
IsShutBelow known out (End r) closed = Unit {0}

-- The next position: where the known answers lead if no other candidate fails.
abbrev pub onward : Answers → Position → Position
onward known p = elim (step (hoping known) p) [ None ↦ p | Some q ↦ q ]

-- The next position, if this is the first candidate that is known to fail. Its count of tests has no meaning.
abbrev pub follow : Position → Option Candidate → Position
follow (Empty faults) o = at_round (range_with_len 0 faults) 2 1
follow (Round c n tests) o = after_decision c n (found o 0)
follow (End r) o = End r

-- The first candidate that is known to fail is this one. If none is known to fail, there is none.
abbrev pub Leads : Answers → Position → Option Candidate → Type 0
Leads known (Empty faults) o = Unit {0}
Leads known (Round c n tests) o = (looked : ℕ) × (step (hoping known) (Round c n tests) ≡ Some (after_decision c n (found o looked)))
Leads known (End r) o = Unit {0}

abbrev pub is_among : List (List ℕ) → List ℕ → Bool
is_among out s = list_any (same_set s) out

-- What is out, with one more set.
abbrev pub with_set : (List ℕ → Bool) → List ℕ → List ℕ → Bool
with_set out s t = out t || same_set t s

-- What a search for an open candidate found.
abbrev pub IsScan : Answers → (List ℕ → Bool) → Position → Scan → Type 0
IsScan known out p (scans.Open s place) = (first_open known out (round_at p) ≡ Some s) × IsShutBelow known (with_set out s) p place
IsScan known out p (scans.Fails s place) = (first_open known out (round_at p) ≡ None) × IsShutBelow known out p place × Leads known p (Some s)
IsScan known out p (scans.Shut place) = (first_open known out (round_at p) ≡ None) × IsShutBelow known out p place × Leads known p None

-- What is out after a request was handed out, if one was.
abbrev pub out_after : List (List ℕ) → Option (List ℕ) → List (List ℕ)
out_after out None = out
out_after out (Some s) = out ++ s ∷ []

-- The request that comes next at a position.
abbrev pub next_at : Answers → (List ℕ → Bool) → Position → Bool → Option (List ℕ)
next_at known out p ahead = or_else (first_open known out (round_at p)) (elim ahead [ true ↦ first_open known out (next_round known p) | false ↦ None ])

-- ---- the whole cursor

pub record IsReached (known : Answers) (out : List ℕ → Bool) (p : Position) (cursor : Cursor) : Type 0 where
  pub counted : IsCounted known p cursor.place
  pub shut : IsShutBelow known out p cursor.closed
  pub ahead : IsShutBelow known out (onward known p) cursor.ahead

-- The cursor after a stage reached a place. For a new stage, or after a set is known to fail (true), nothing else of it holds any more.
abbrev pub moved : Cursor → ℕ → Bool → Cursor
moved cursor place true = record { place = place; closed = place; ahead = 0 }
moved cursor place false = record { place = place; closed = cursor.closed; ahead = cursor.ahead }

-- The stage after an answer.
abbrev pub stage_after : Stage → Option Stage → Stage
stage_after stage None = stage
stage_after stage (Some next) = next

-- A request of the next round, if there is one, and the place where the search for the request after it begins.
pub record IsFurther (known : Answers) (out : List (List ℕ)) (p : Position) (o : Option (List ℕ)) (place : ℕ) : Type 0 where
  pub request : o ≡ first_open known (is_among out) (next_round known p)
  pub shut : IsShutBelow known (is_among (out_after out o)) (onward known p) place

-- The request that comes next, if there is one, and the cursor for the one after it.
pub record IsOpened (known : Answers) (out : List (List ℕ)) (p : Position) (ahead : Bool) (o : Option (List ℕ)) (cursor : Cursor) : Type 0 where
  pub request : o ≡ next_at known (is_among out) p ahead
  pub reached : IsReached known (is_among (out_after out o)) p cursor
