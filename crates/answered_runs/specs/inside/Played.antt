-- The recorded runs that were gone through so far. Private contracts cite it.
use Rattle.std.specs.Prelude.{◌≡◌, ℕ, true, false, List, [], Option, None, Some, Ok, Contains, slice_index_or}
use Rattle.std.specs.List.{AllByRecursion}
use Rattle.scenario_values.specs.Scenario.{Entries}
use Rattle.answer_text.specs.Runs.{run_in}
use Rattle.answer_text.specs.declared.runs.RunLine.{RunLine}
use Rattle.answer_text.specs.declared.runs.ToldRun.{ToldRun}
use Rattle.answered_runs.specs.Agreement.{IsCertain, IsContradiction, line_of}
use Rattle.answered_runs.specs.Answered.{Answered, told_of}
use Rattle.answered_runs.specs.declared.broken.BrokenRun.{BrokenRun}
use Rattle.answered_runs.specs.declared.played.Played.{Played}
use Rattle.answered_runs.specs.declared.unseen.UnseenRun.{UnseenRun}
use Rattle.answered_runs.specs.inside.Trees.{Grows, IsKept, IsSound, IsTold, IsNew, IsUnseen}

-- Nothing was gone through.
pub record IsBegun (x : Played) : Type 0 where
  pub tree : IsNew x.tree
  pub unseen : x.unseen.items ≡ []
  pub own : x.own.items ≡ []

-- What stands in the tree and in the list is recorded.
pub record IsState (a : Answered) (x : Played) : Type 0 where
  pub sound : IsSound a x.tree
  pub unseen : AllByRecursion (IsUnseen a) x.unseen.items

-- What stands in the one stands in the other.
pub record Goes (x y : Played) : Type 0 where
  pub grows : Grows x.tree y.tree
  pub listed : (run : UnseenRun) → Contains x.unseen.items run → Contains y.unseen.items run
  pub own : y.own.items ≡ x.own.items

-- A scenario stands in the list.
pub record IsListed (x : Played) (s : Entries) : Type 0 where
  pub run : UnseenRun
  pub there : Contains x.unseen.items run
  pub is : run.scenario ≡ s

-- What is recorded of a scenario was gone through.
pub record IsDone (a : Answered) (x : Played) (s : Entries) (r : ToldRun) : Type 0 where
  pub kept : IsKept a.points x.tree (line_of s (told_of r))
  pub listed : (told_of r).hits ≡ None → IsListed x s

-- Everything was gone through.
abbrev pub AreDone : Answered → Played → Type 0
AreDone a x = (s : Entries) (r : ToldRun) → IsTold a s r → IsDone a x s r

-- What marked lines record was gone through.
abbrev pub AreMarked : Answered → Played → Type 0
AreMarked a x = (s : Entries) (r : ToldRun) → IsTold a s r → slice_index_or x.own.items r.line false ≡ true → IsDone a x s r

-- One run more.
pub record Adds (a : Answered) (x y : Played) (s : Entries) (r : ToldRun) : Type 0 where
  pub state : IsState a y
  pub goes : Goes x y
  pub done : IsCertain s → IsDone a y s r

abbrev pub IsAdded : Answered → Played → Played → Entries → ToldRun → Option BrokenRun → Type 0
IsAdded a x y s r None = Adds a x y s r
IsAdded a x y s r (Some b) = IsContradiction a b

-- Some runs more.
pub record Stands (all : Answered → Played → Type 0) (a : Answered) (y : Played) : Type 0 where
  pub state : IsState a y
  pub done : all a y

abbrev pub AreAdded : (Answered → Played → Type 0) → Answered → Played → Option BrokenRun → Type 0
AreAdded all a y None = Stands all a y
AreAdded all a y (Some b) = IsContradiction a b

-- What the line of this number records, if it is the first one with its scenario.
pub record AddsLine (codes points : List (List ℕ)) (a : Answered) (x y : Played) (line : List ℕ) (number : ℕ) : Type 0 where
  pub state : IsState a y
  pub goes : Goes x y
  pub done : (s : Entries) (r : ToldRun) → IsTold a s r → r.line ≡ number → (run : RunLine) → run_in true codes points line ≡ Ok run
      → run.scenario ≡ s → IsDone a y s r

abbrev pub IsLineAdded : List (List ℕ) → List (List ℕ) → Answered → Played → Played → List ℕ → ℕ → Option BrokenRun → Type 0
IsLineAdded codes points a x y line number None = AddsLine codes points a x y line number
IsLineAdded codes points a x y line number (Some b) = IsContradiction a b
