-- Many hits at once at which certainly no fault acts.
use Rattle.std.specs.Prelude.{◌≡◌, ℕ, ◌+◌, ◌*◌, ◌<◌, ◌==◌, if◌then◌else◌, List, [], ◌∷◌, length, slice_index, slice_index_or}
use Rattle.action_eval.specs.declared.found.Head.{Head}
use Rattle.action_eval.specs.declared.found.Head.TheVariants as head

-- The most hits that a run can answer, as 32 bits count.
abbrev pub endless : ℕ
endless = 4294967295

-- How many of the next hits of a point certainly have no effect, by the head of its chain.
abbrev pub quiet_of : List ℕ → Head → ℕ
quiet_of left head.Nothing = endless
quiet_of left (head.Off i) = slice_index left i
quiet_of left head.Terms = 0

-- If the head of a chain has a count, it is one of the n counts.
abbrev pub CountsWithin : ℕ → Head → Type 0
CountsWithin n head.Nothing = Unit {0}
CountsWithin n (head.Off i) = i < n
CountsWithin n head.Terms = Unit {0}

-- The head of a point's chain.
abbrev pub head_at : List Head → ℕ → Head
head_at heads p = slice_index_or heads p head.Nothing

-- How much a hit without effect takes off count j, by the head of its point's chain.
abbrev pub taken_by : ℕ → Head → ℕ
taken_by j head.Nothing = 0
taken_by j (head.Off i) = if i == j then 1 else 0
taken_by j head.Terms = 0

-- How much hits of these points take off count j, if none has an effect.
abbrev pub taken_at : List Head → ℕ → List ℕ → ℕ
taken_at heads j [] = 0
taken_at heads j (p ∷ ps) = taken_by j (head_at heads p) + taken_at heads j ps

-- At none of these points do terms have to be tried.
abbrev pub IsCounted : Head → Type 0
IsCounted head.Nothing = Unit {0}
IsCounted (head.Off i) = Unit {0}
IsCounted head.Terms = ⊥

abbrev pub AreCounted : List Head → List ℕ → Type 0
AreCounted heads [] = Unit {0}
AreCounted heads (p ∷ ps) = IsCounted (head_at heads p) × AreCounted heads ps

-- The counts before and after n rounds of hits of these points, if none has an effect.
pub record Spent (heads : List Head) (points : List ℕ) (n : ℕ) (before after : List ℕ) : Type 0 where
  pub size : length after ≡ length before
  pub counted : 0 < n → AreCounted heads points
  pub each : (j : ℕ) → slice_index before j ≡ slice_index after j + n * taken_at heads j points

-- The counts before and after n hits of one point with this head, if none has an effect.
pub record SpentBy (h : Head) (n : ℕ) (before after : List ℕ) : Type 0 where
  pub size : length after ≡ length before
  pub each : (j : ℕ) → slice_index before j ≡ slice_index after j + n * taken_by j h
