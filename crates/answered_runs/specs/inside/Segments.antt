-- How a tree is kept: places that follow one another in segments, and beside these the ways to other places.
use Rattle.std.specs.Prelude.{◌≡◌, ◌+◌, ◌<◌, ◌==◌, ◌&&◌, ℕ, zero, suc, Bool, false, List, [], ◌∷◌, ◌++◌, length, replicate, slice_get, Option, None, Some, option_and_then, nat_lt, if◌then◌else◌}
use Rattle.std.specs.List.{AllByRecursion}
use Rattle.std.specs.Map.{lookup}
use Rattle.std.specs.Option.{option_map_or}
use Rattle.action_eval.specs.Answers.{Reply}
use Rattle.answered_runs.specs.declared.segments.Segment.{Segment}
use Rattle.answered_runs.specs.declared.tree.Said.{Said}
use Rattle.answered_runs.specs.declared.tree.Way.{Way}
use Rattle.answered_runs.specs.inside.Replies.{number_in}

-- What is said at each place, from 0 on.
abbrev pub expand : List Segment → List Said
expand [] = []
expand (s ∷ ss) = replicate s.count s.said ++ expand ss

-- Each segment begins where the one before it ends.
abbrev pub AreLaid : ℕ → List Segment → ℕ → Type 0
AreLaid first [] end = first ≡ end
AreLaid first (s ∷ ss) end = (s.first ≡ first) × (0 < s.count) × AreLaid (first + s.count) ss end

-- The segment that has a place.
abbrev pub segment_at : List Segment → ℕ → Option Segment
segment_at [] place = None
segment_at (s ∷ ss) place = if nat_lt place (s.first + s.count) then Some s else segment_at ss place

-- The number of the answer that leads from a place to the one after it.
abbrev pub answer_at : List Segment → ℕ → Option ℕ
answer_at [] place = None
answer_at (s ∷ ss) place = if nat_lt place (s.first + s.count) then Some s.answer else answer_at ss place

-- The segment of this number has a place.
pub record IsNumberAt (segments : List Segment) (place number : ℕ) : Type 0 where
  pub within : number < length segments
  pub segment : slice_get segments number ≡ segment_at segments place

-- One more place was put behind those of segments.
pub record IsPutOn (old new : List Segment) (place : ℕ) (said : Said) (answer : ℕ) : Type 0 where
  pub laid : AreLaid 0 new (place + 1)
  pub says : expand new ≡ expand old ++ said ∷ []
  pub before : (n : ℕ) → n < place → answer_at new n ≡ answer_at old n
  pub here : answer_at new place ≡ Some answer
  pub answers : (most : ℕ) → answer < most → AllByRecursion (λ (s : Segment). s.answer < most) old → AllByRecursion (λ (s : Segment). s.answer < most) new

-- So many more places were put behind those of segments, each as the one before.
abbrev pub ArePutOn : ℕ → List Segment → List Segment → ℕ → Said → ℕ → Type 0
ArePutOn zero old new place said answer = new ≡ old
ArePutOn (suc n) old new place said answer = (middle : List Segment) × IsPutOn old middle place said answer × ArePutOn n middle new (place + 1) said answer

-- The answer leads from `place + n` to the next place, and what is said at that one is said at `place` too.
pub record IsAlike (segments : List Segment) (answer place n : ℕ) : Type 0 where
  pub leads : answer_at segments (place + n) ≡ Some answer
  pub said : slice_get (expand segments) (place + n + 1) ≡ slice_get (expand segments) place

abbrev pub way_eq : Way → Way → Bool
way_eq a b = (a.place == b.place) && (a.answer == b.answer)

abbrev pub way_at : ℕ → ℕ → Way
way_at place answer = record { place = place; answer = answer }

abbrev pub is_own : Option ℕ → ℕ → Bool
is_own own answer = option_map_or (λ other. other == answer) own false

-- Where the answer of a number leads from a place.
abbrev pub leads_by : List Segment → List (Way × ℕ) → ℕ → ℕ → Option ℕ
leads_by segments ways place answer = if is_own (answer_at segments place) answer then Some (place + 1) else lookup (way_eq (way_at place answer)) ways

abbrev pub leads_in : List Segment → List (Way × ℕ) → List (List ℕ) → ℕ → Reply → Option ℕ
leads_in segments ways texts place r = option_and_then (leads_by segments ways place) (number_in texts r)

-- The answers in segments and ways have numbers, and the ways come from places before this one.
pub record AreNumbered (segments : List Segment) (ways : List (Way × ℕ)) (texts : List (List ℕ)) (places : ℕ) : Type 0 where
  pub own : AllByRecursion (λ (s : Segment). s.answer < 4 + length texts) segments
  pub others : AllByRecursion (λ (w : Way × ℕ). (w.0.place < places) × (w.0.answer < 4 + length texts)) ways
