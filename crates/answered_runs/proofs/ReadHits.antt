-- The hits that are read are of the points, and few.
use Rattle.std.proofs.Common.{◌≡◌, ◌==◌, ℕ, zero, suc, ◌+◌, ◌<◌, ◌≤◌, nat_lt, Bool, true, false, cond, Option, None, Some, List, [], ◌∷◌, ◌++◌, length, replicate, refl, ap, subst, arith, bytes_eq}
use Rattle.std.specs.Prelude.{IfSome, Result, Ok, Err, position, codes}
use Rattle.std.specs.List.{AllByRecursion, slice_split, sum_by}
use Rattle.std.proofs.lemmas.Bool.{ltb-false}
use Rattle.std.proofs.lemmas.List.{length-append, length-replicate}
use Rattle.std.proofs.lemmas.List.Sums.{sum-map, sum_by-append, sum_by-cons}
use Rattle.std.proofs.lemmas.List.Quantifiers.{position-Some}
use Rattle.scenario_grammar.specs.FirstFault.{◌>>=◌}
use Rattle.scenario_grammar.specs.Words.{cut}
use Rattle.scenario_values.specs.Scenario.{Entries}
use Rattle.scenario_values.specs.Printed.{printed}
use Rattle.target_trait.specs.declared.judgement.Verdict.{Verdict}
use Rattle.target_trait.specs.declared.judgement.Verdict.TheVariants as verdict
use Rattle.answer_text.specs.Answers.{most_bytes}
use Rattle.answer_text.specs.FirstFault.{answer_in, or_fault}
use Rattle.answer_text.specs.Hits.{count_in, count_of, counted_in, ends_with, field_by, field_in, hits_in, item_by, item_in, items_from, known_hits, most_hits, name_of, points_of, stretch, with_item}
use Rattle.answer_text.specs.Runs.{ended, first_told, is_repeated, known_of, on_line, pieces_from, reading_of, run_in, run_line, told_run, with_line, with_run}
use Rattle.answer_text.specs.declared.fault.AnswersFault.{AnswersFault}
use Rattle.answer_text.specs.declared.fault.AnswersFault.TheVariants as faults
use Rattle.answer_text.specs.declared.fault.LineFault.{LineFault}
use Rattle.answer_text.specs.declared.fault.LineFault.TheVariants.{BadCount, Contradicts, NotJoined, UnknownPoint}
use Rattle.answer_text.specs.declared.hits.Stretch.{Stretch}
use Rattle.answer_text.specs.declared.runs.RunLine.{RunLine}
use Rattle.answer_text.specs.declared.runs.ToldRun.{ToldRun}
use Rattle.grown_plans.proofs.Members.{all_append}

-- hits of so many points, and no more than a line may record
pub record AreFew (n : ℕ) (hits : List Stretch) : Type 0 where
  pub points : AllByRecursion (λ s. s.point < n) hits
  pub count : count_of hits ≤ most_hits

abbrev pub HasFew : ℕ → Option (List Stretch) → Type 0
HasFew n o = IfSome o (AreFew n)

-- ---- results

ok_is : {A E : Type 0} (x y : A) → (let r : Result A E = Ok x in r) ≡ Ok y → x ≡ y
ok_is x y e = cc

bind_ok : {A B E : Type 0} (r : Result A E) (f : A → Result B E) (y : B) → r >>= f ≡ Ok y → (x : A) × (r ≡ Ok x) × (f x ≡ Ok y)
bind_ok (Ok x) f y e = (x, refl, e)
bind_ok (Err fault) f y e = absurd cc

fault_ok : {A : Type 0} (fault : LineFault) (o : Option A) (x : A) → or_fault fault o ≡ Ok x → o ≡ Some x
fault_ok fault None x e = absurd cc
fault_ok fault (Some y) x e = let same : y ≡ x = cc in ap (λ z. Some z) same

-- ---- one item

place_below : (p : List ℕ → Bool) (points : List (List ℕ)) (i : ℕ) → position p points ≡ Some i → i < length points
place_below p points i e = (position-Some p points i [] e).0

counted_below : (points : List (List ℕ)) (item : List ℕ) (o : Option (List ℕ × List ℕ)) (s : Stretch) → counted_in points item o ≡ Ok s → s.point < length points
counted_below points item None s e = absurd cc
counted_below points item (Some parts) s e =
    let strange : LineFault = UnknownPoint parts.1 in
    let count = bind_ok (or_fault BadCount (count_in parts.0)) (λ count. or_fault strange (position (bytes_eq parts.1) points) >>= λ point. Ok (stretch point count)) s e in
    let point = bind_ok (or_fault strange (position (bytes_eq parts.1) points)) (λ point. Ok (stretch point count.0)) s count.2 in
    let at : point.0 < length points = place_below (bytes_eq parts.1) points point.0 (fault_ok strange (position (bytes_eq parts.1) points) point.0 point.1) in
    subst (λ (x : Stretch). x.point < length points) (ok_is (stretch point.0 count.0) s point.2) at

item_below : (points : List (List ℕ)) (item : List ℕ) (s : Stretch) → item_in points item ≡ Ok s → s.point < length points
unfolding item_in
item_below points item s e = by_place (position (bytes_eq item) points) refl e
  where
    by_place : (o : Option ℕ) → position (bytes_eq item) points ≡ o → item_by points item o ≡ Ok s → s.point < length points
    by_place None f g = counted_below points item (cut 42 item) s g
    by_place (Some point) f g = subst (λ (x : Stretch). x.point < length points) (ok_is (stretch point 1) s g) (place_below (bytes_eq item) points point f)

-- ---- hits

count_more : (before : List Stretch) (s : Stretch) → count_of (before ++ s ∷ []) ≡ count_of before + s.count
count_more before s =
    let whole = sum-map (λ (x : Stretch). x.count) (before ++ s ∷ []) in
    let parts = sum_by-append (λ (x : Stretch). x.count) before (s ∷ []) in
    let one = sum_by-cons (λ (x : Stretch). x.count) s [] in
    let none : sum_by (λ (x : Stretch). x.count) [] ≡ 0 = refl in
    let front = sum-map (λ (x : Stretch). x.count) before in
    omega (arith, whole, parts, one, none, front)

with_few : (points : List (List ℕ)) (n : ℕ) (before after : List Stretch) (s : Stretch) → with_item points before s ≡ Ok after → AreFew n before → s.point < n → AreFew n after
unfolding with_item
with_few points n before after s e few at = by_tests (ends_with before s.point) (nat_lt most_hits (count_of before + s.count)) refl e
  where
    by_tests : (a b : Bool) → nat_lt most_hits (count_of before + s.count) ≡ b → cond a (Err (NotJoined (name_of points s.point))) (cond b (Err BadCount) (Ok (before ++ s ∷ []))) ≡ Ok after → AreFew n after
    by_tests true b f g = absurd cc
    by_tests false true f g = absurd cc
    by_tests false false f g =
        let least : count_of before + s.count ≤ most_hits = ltb-false most_hits (count_of before + s.count) f in
        let more = count_more before s in
        subst (AreFew n) (ok_is (before ++ s ∷ []) after g)
        (record { points = all_append (λ (x : Stretch). x.point < n) before (s ∷ []) few.points (at, tt); count = omega (arith, least, more) })

items_few : (points : List (List ℕ)) (before : List Stretch) (items : List (List ℕ)) (hits : List Stretch) → items_from points before items ≡ Ok hits → AreFew (length points) before → AreFew (length points) hits
unfolding items_from
items_few points before [] hits e few = subst (AreFew (length points)) (ok_is before hits e) few
items_few points before (item ∷ items) hits e few =
    let s = bind_ok (item_in points item) (λ s. with_item points before s >>= λ after. items_from points after items) hits e in
    let after = bind_ok (with_item points before s.0) (λ after. items_from points after items) hits s.2 in
    items_few points after.0 items hits after.2 (with_few points (length points) before after.0 s.0 after.1 few (item_below points item s.0 s.1))

none_few : (n : ℕ) → AreFew n []
none_few n = record { points = tt; count = omega arith }

hits_few : (points : List (List ℕ)) (text : List ℕ) (hits : List Stretch) → hits_in points text ≡ Ok hits → AreFew (length points) hits
hits_few points [] hits e = subst (AreFew (length points)) (ok_is [] hits e) (none_few (length points))
hits_few points (b ∷ bs) hits e = items_few points [] (slice_split (λ c. c == 59) (b ∷ bs)) hits e (none_few (length points))

known_few : (n : ℕ) (r : Result (List Stretch) LineFault) → ((hits : List Stretch) → r ≡ Ok hits → AreFew n hits) → (o : Option (List Stretch)) → known_hits r ≡ Ok o → HasFew n o
known_few n (Ok hits) h o e = subst (HasFew n) (ok_is (Some hits) o e) (h hits refl)
known_few n (Err fault) h o e = absurd cc

field_few : (points : List (List ℕ)) (v : Verdict) (text : List ℕ) (o : Option (List Stretch)) → field_by points v text ≡ Ok o → HasFew (length points) o
field_few points verdict.Pass text o e = known_few (length points) (hits_in points text) (hits_few points text) o e
field_few points (verdict.Fail code) text o e = known_few (length points) (hits_in points text) (hits_few points text) o e
field_few points verdict.Unresolved text o e = by_test (bytes_eq text (codes "-")) e
  where
    by_test : (b : Bool) → cond b (Ok None) (known_hits (hits_in points text)) ≡ Ok o → HasFew (length points) o
    by_test true f = subst (HasFew (length points)) (ok_is None o f) tt
    by_test false f = known_few (length points) (hits_in points text) (hits_few points text) o f

fields_few : (needed : Bool) (points : List (List ℕ)) (v : Verdict) (text : Option (List ℕ)) (o : Option (List Stretch)) → field_in needed points v text ≡ Ok o → HasFew (length points) o
fields_few true points v None o e = absurd cc
fields_few false points v None o e = subst (HasFew (length points)) (ok_is None o e) tt
fields_few needed points v (Some text) o e = field_few points v text o e

-- ---- lines

run_few : (needed : Bool) (names points : List (List ℕ)) (line : List ℕ) (r : RunLine) → run_in needed names points line ≡ Ok r → HasFew (length points) r.hits
unfolding run_in
run_few needed names points line r e =
    let answer = bind_ok (answer_in names line) (λ answer. field_in needed points answer.0.1 answer.1 >>= λ hits. Ok (run_line answer.0.0 answer.0.1 hits)) r e in
    let hits = bind_ok (field_in needed points answer.0.0.1 answer.0.1) (λ hits. Ok (run_line answer.0.0.0 answer.0.0.1 hits)) r answer.2 in
    subst (λ (x : RunLine). HasFew (length points) x.hits) (ok_is (run_line answer.0.0.0 answer.0.0.1 hits.0) r hits.2) (fields_few needed points answer.0.0.1 answer.0.1 hits.0 hits.1)

abbrev AllFew : ℕ → List RunLine → Type 0
AllFew n runs = AllByRecursion (λ r. HasFew n r.hits) runs

pushed_few : (n : ℕ) (before after : List RunLine) (r : RunLine) (o : Option ToldRun) → with_run before r o ≡ Ok after → AllFew n before → HasFew n r.hits → AllFew n after
pushed_few n before after r None e all few = subst (AllFew n) (ok_is (before ++ r ∷ []) after e) (all_append (λ x. HasFew n x.hits) before (r ∷ []) all (few, tt))
pushed_few n before after r (Some told) e all few = by_test (is_repeated told r) e
  where
    by_test : (b : Bool) → cond b (Ok (before ++ r ∷ [])) (Err (Contradicts told.line)) ≡ Ok after → AllFew n after
    by_test true f = subst (AllFew n) (ok_is (before ++ r ∷ []) after f) (all_append (λ x. HasFew n x.hits) before (r ∷ []) all (few, tt))
    by_test false f = absurd cc

line_ok : {A : Type 0} (number : ℕ) (r : Result A LineFault) (x : A) → on_line number r ≡ Ok x → r ≡ Ok x
line_ok number (Ok y) x e = let same : y ≡ x = cc in ap (λ z. Ok z) same
line_ok number (Err fault) x e = absurd cc

line_few : (needed : Bool) (names points : List (List ℕ)) (before after : List RunLine) (line : List ℕ) → with_line needed names points before line ≡ Ok after → AllFew (length points) before → AllFew (length points) after
unfolding with_line
line_few needed names points before after line e all =
    let f = line_ok (length before + 1) (run_in needed names points line >>= λ r. with_run before r (first_told 1 before (printed r.scenario))) after e in
    let r = bind_ok (run_in needed names points line) (λ r. with_run before r (first_told 1 before (printed r.scenario))) after f in
    pushed_few (length points) before after r.0 (first_told 1 before (printed r.0.scenario)) r.2 all (run_few needed names points line r.0 r.1)

ended_few : (n : ℕ) (before after : List RunLine) (rest : List ℕ) → ended before rest ≡ Ok after → AllFew n before → AllFew n after
ended_few n before after [] e all = subst (AllFew n) (ok_is before after e) all
ended_few n before after (b ∷ bs) e all = absurd cc

pieces_few : (needed : Bool) (names points : List (List ℕ)) (before after : List RunLine) (pieces : List (List ℕ)) → pieces_from needed names points before pieces ≡ Ok after → AllFew (length points) before → AllFew (length points) after
unfolding pieces_from
pieces_few needed names points before after [] e all = subst (AllFew (length points)) (ok_is before after e) all
pieces_few needed names points before after (last ∷ []) e all = ended_few (length points) before after last e all
pieces_few needed names points before after (line ∷ next ∷ more) e all =
    let now = bind_ok (with_line needed names points before line) (λ now. pieces_from needed names points now (next ∷ more)) after e in
    pieces_few needed names points now.0 after (next ∷ more) now.2 (line_few needed names points before now.0 line now.1 all)

reading_few : (needed : Bool) (names points : List (List ℕ)) (text : List ℕ) (runs : List RunLine) → reading_of needed names points text ≡ Ok runs → AllFew (length points) runs
unfolding reading_of
reading_few needed names points text runs e = by_test (nat_lt most_bytes (length text)) e
  where
    by_test : (b : Bool) → cond b (Err faults.TooLong) (pieces_from needed names points [] (slice_split (λ c. c == 10) text)) ≡ Ok runs → AllFew (length points) runs
    by_test true f = absurd cc
    by_test false f = pieces_few needed names points [] runs (slice_split (λ c. c == 10) text) f tt

-- ---- what is known

abbrev pub ToldFew : ℕ → Option ToldRun → Type 0
ToldFew n o = IfSome o (λ r. HasFew n r.hits)

first_case : (n line : ℕ) (r : RunLine) (more : List RunLine) (b : Bool) (later : Option ToldRun) → HasFew n r.hits → ToldFew n later → ToldFew n (cond b (Some (told_run line r)) later)
first_case n line r more true later here all = here
first_case n line r more false later here all = all

first_few : (n line : ℕ) (runs : List RunLine) (key : List ℕ) → AllFew n runs → ToldFew n (first_told line runs key)
unfolding first_told
first_few n line [] key all = tt
first_few n line (r ∷ more) key all = first_case n line r more (bytes_eq key (printed r.scenario)) (first_told (line + 1) more key) all.0 (first_few n (line + 1) more key all.1)

-- What is read of a scenario's run has hits of the points, and few.
pub known_run_few : (needed : Bool) (names points : List (List ℕ)) (text : List ℕ) (s : Entries) → ToldFew (length points) (known_of (reading_of needed names points text) s)
known_run_few needed names points text s = by_result (reading_of needed names points text) refl
  where
    by_result : (r : Result (List RunLine) AnswersFault) → reading_of needed names points text ≡ r → ToldFew (length points) (known_of r s)
    by_result (Ok runs) e = first_few (length points) 1 runs (printed s) (reading_few needed names points text runs e)
    by_result (Err fault) e = tt

-- ---- the points of hits

all_replicate : (P : ℕ → Type 0) (n p : ℕ) → P p → AllByRecursion P (replicate n p)
all_replicate P zero p h = tt
all_replicate P (suc n) p h = (h, all_replicate P n p h)

pub points_below : (n : ℕ) (hits : List Stretch) → AllByRecursion (λ s. s.point < n) hits → AllByRecursion (λ p. p < n) (points_of hits)
points_below n [] all = tt
points_below n (s ∷ hits) all = all_append (λ p. p < n) (replicate s.count s.point) (points_of hits) (all_replicate (λ p. p < n) s.count s.point all.0) (points_below n hits all.1)

pub points_many : (hits : List Stretch) → length (points_of hits) ≡ count_of hits
points_many [] = refl
points_many (s ∷ hits) =
    let parts = length-append (replicate s.count s.point) (points_of hits) in
    let here = length-replicate s.count s.point in
    let later = points_many hits in
    let whole = sum-map (λ (x : Stretch). x.count) (s ∷ hits) in
    let first = sum_by-cons (λ (x : Stretch). x.count) s hits in
    let rest = sum-map (λ (x : Stretch). x.count) hits in
    omega (arith, parts, here, later, whole, first, rest)
