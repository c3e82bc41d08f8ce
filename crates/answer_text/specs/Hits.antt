-- The hits of a run, as a line records them: the points in order, joined by `;`. For n > 1, n hits of one point in a row are written `n*point`. No
-- hits at all are the empty text. The format is this project's own.
use Rattle.std.specs.Prelude.{ℕ, ◌+◌, ◌==◌, ◌&&◌, List, [], ◌∷◌, ◌++◌, Bool, true, false, Option, Some, None, Result, Ok, Err, position, length, ◌-◌, slice_get, slice_index_or, map, sum, nat_lt, nat_le, if◌then◌else◌, codes, replicate}
use Rattle.std.specs.Fmt.{decimal}
use Rattle.std.specs.List.{slice_split, flat_map}
use Rattle.std.specs.Str.{bytes_eq}
use Rattle.scenario_grammar.specs.Words.{cut}
use Rattle.scenario_grammar.specs.FirstFault.{◌>>=◌, number_up_to}
use Rattle.answer_text.specs.declared.fault.LineFault.{LineFault}
use Rattle.target_trait.specs.declared.judgement.Verdict.{Verdict}
use Rattle.target_trait.specs.declared.judgement.Verdict.TheVariants as verdict
use Rattle.answer_text.specs.declared.fault.LineFault.TheVariants.{NoHits, UnknownPoint, BadCount, NotJoined}
use Rattle.answer_text.specs.declared.hits.Stretch.{Stretch}
use Rattle.answer_text.specs.FirstFault.{or_fault}

-- So many hits of a point in a row.
abbrev pub stretch : ℕ → ℕ → Stretch
stretch point count = record { point = point; count = count }

-- The points of the hits, one for each hit, in order.
abbrev pub points_of : List Stretch → List ℕ
points_of hits = flat_map (λ s. replicate s.count s.point) hits

-- How many hits there are.
abbrev pub count_of : List Stretch → ℕ
count_of hits = sum (map (λ s. s.count) hits)

-- The most hits that a line may record.
abbrev pub most_hits : ℕ
most_hits = 65536

-- The name of the point at a place.
abbrev pub name_of : List (List ℕ) → ℕ → List ℕ
name_of points point = slice_index_or points point []

-- ---- a text of hits, read

-- A number from 2 on, as it is written in decimals.
abbrev pub count_by : List ℕ → Option ℕ → Option ℕ
count_by text None = None
count_by text (Some n) = if nat_le 2 n && bytes_eq text (decimal n) then Some n else None

abbrev pub count_in : List ℕ → Option ℕ
count_in text = count_by text (number_up_to most_hits text)

-- A count of hits in a row, and the name of their point.
abbrev pub counted_in : List (List ℕ) → List ℕ → Option (List ℕ × List ℕ) → Result Stretch LineFault
counted_in points item None = Err (UnknownPoint item)
counted_in points item (Some parts) = or_fault BadCount (count_in parts.0) >>= λ count.
    or_fault (UnknownPoint parts.1) (position (bytes_eq parts.1) points) >>= λ point. Ok (stretch point count)

-- A point's whole name is one hit, even if it looks like counted hits of another point.
abbrev pub item_by : List (List ℕ) → List ℕ → Option ℕ → Result Stretch LineFault
item_by points item None = counted_in points item (cut 42 item)
item_by points item (Some point) = Ok (stretch point 1)

unfoldable pub item_in : List (List ℕ) → List ℕ → Result Stretch LineFault
item_in points item = item_by points item (position (bytes_eq item) points)

-- Whether the last of these hits are of a point.
abbrev pub is_of : Option Stretch → ℕ → Bool
is_of None point = false
is_of (Some s) point = s.point == point

abbrev pub ends_with : List Stretch → ℕ → Bool
ends_with hits point = is_of (slice_get hits (length hits - 1)) point

-- The hits with those of one more item.
unfoldable pub with_item : List (List ℕ) → List Stretch → Stretch → Result (List Stretch) LineFault
with_item points before s =
    if ends_with before s.point then Err (NotJoined (name_of points s.point))
    else if nat_lt most_hits (count_of before + s.count) then Err BadCount
    else Ok (before ++ s ∷ [])

-- The hits with those of the items between the `;`.
unfoldable pub items_from : List (List ℕ) → List Stretch → List (List ℕ) → Result (List Stretch) LineFault
items_from points before [] = Ok before
items_from points before (item ∷ items) = item_in points item >>= λ s. with_item points before s >>= λ after. items_from points after items

abbrev pub hits_in : List (List ℕ) → List ℕ → Result (List Stretch) LineFault
hits_in points [] = Ok []
hits_in points (b ∷ bs) = items_from points [] (slice_split (λ b. b == 59) (b ∷ bs))

abbrev pub known_hits : Result (List Stretch) LineFault → Result (Option (List Stretch)) LineFault
known_hits (Ok hits) = Ok (Some hits)
known_hits (Err fault) = Err fault

-- The hits of a run with this verdict. If an unresolved run's hits aren't known, `-` stands for them.
abbrev pub field_by : List (List ℕ) → Verdict → List ℕ → Result (Option (List Stretch)) LineFault
field_by points verdict.Unresolved text = if bytes_eq text (codes "-") then Ok None else known_hits (hits_in points text)
field_by points verdict.Pass text = known_hits (hits_in points text)
field_by points (verdict.Fail code) text = known_hits (hits_in points text)

-- The same for a line that may have no hits, if they aren't needed.
abbrev pub field_in : Bool → List (List ℕ) → Verdict → Option (List ℕ) → Result (Option (List Stretch)) LineFault
field_in needed points v None = if needed then Err NoHits else Ok None
field_in needed points v (Some text) = field_by points v text

-- ---- hits compared

abbrev pub are_same : List Stretch → List Stretch → Bool
are_same [] [] = true
are_same [] (t ∷ ts) = false
are_same (s ∷ ss) [] = false
are_same (s ∷ ss) (t ∷ ts) = (s.point == t.point) && (s.count == t.count) && are_same ss ts

abbrev pub same_hits : Option (List Stretch) → Option (List Stretch) → Bool
same_hits None None = true
same_hits None (Some b) = false
same_hits (Some a) None = false
same_hits (Some a) (Some b) = are_same a b
