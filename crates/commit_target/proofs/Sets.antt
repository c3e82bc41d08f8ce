-- Sets of transactions, kept as the bits of a word.
use Rattle.std.proofs.Common.{◌≡◌, ℕ, zero, suc, ◌+◌, ◌-◌, ◌*◌, ◌^◌, ◌%◌, ◌<◌, ◌≤◌, ◌==◌, max, min, Bool, true, false, cond, List, [], ◌∷◌, ◌++◌, length, take, set, get_or, ◌||◌, ◌&&◌, not, bit_or, bit_and, refl, ap, sym, subst, ◌∙◌, arith, inl, inr}
use Rattle.std.specs.Int.{bit_at, bit_not, w64}
use Rattle.std.proofs.lemmas.Bool.{false≢true, eq-eqb, ne_eqb, cases_eq}
use Rattle.std.proofs.lemmas.Nat.{one_shl}
use Rattle.std.proofs.lemmas.Nat.Bits.{bit_at-zero, bit_at-lt, bit_at_or, bit_at_and, bit_at_not, bit_at-pow_same, bit_at-pow_other}
use Rattle.std.proofs.lemmas.List.{get_or-set_same, get_or-set_other}
use Rattle.std.proofs.lemmas.List.{length-append}
use Rattle.std.proofs.Math.Seq.{get_or-append_seam, take-append_seam, take-append-add}
use Rattle.std.proofs.lemmas.List.Folds.{list_any_more}
use Rattle.commit_target.specs.declared.records.Record.{Record}
use Rattle.commit_target.specs.declared.records.Kind.{Kind}
use Rattle.commit_target.specs.declared.records.Kind.TheVariants.{Prepare, Commit, Abort, End}
use Rattle.commit_target.specs.declared.judge.Ends.{Ends}
use Rattle.target_trait.specs.declared.judgement.Judgement.{Judgement}
use Rattle.target_trait.specs.declared.judgement.Judgement.TheVariants.{Kept}
use Rattle.commit_target.specs.Judgement.{is_kind, has, is_committed, some_ends, judged_ends, judged_one, or_then, judged_by, was_told}
use Rattle.commit_target.specs.inside.Marks.{among, place_of, AreMarks, EndsOf}
use Rattle.commit_target.proofs.Counting.{one_judged}

or_bits : (x y : ℕ) → x < 2 → y < 2 → (max x y == 1) ≡ ((x == 1) || (y == 1))
or_bits zero zero h i = refl
or_bits zero (suc zero) h i = refl
or_bits zero (suc (suc y)) h i = absurd (omega arith)
or_bits (suc zero) zero h i = refl
or_bits (suc zero) (suc zero) h i = refl
or_bits (suc zero) (suc (suc y)) h i = absurd (omega arith)
or_bits (suc (suc x)) y h i = absurd (omega arith)

and_bits : (x y : ℕ) → x < 2 → y < 2 → (min x y == 1) ≡ ((x == 1) && (y == 1))
and_bits zero zero h i = refl
and_bits zero (suc zero) h i = refl
and_bits zero (suc (suc y)) h i = absurd (omega arith)
and_bits (suc zero) zero h i = refl
and_bits (suc zero) (suc zero) h i = refl
and_bits (suc zero) (suc (suc y)) h i = absurd (omega arith)
and_bits (suc (suc x)) y h i = absurd (omega arith)

not_bit : (x : ℕ) → x < 2 → (1 - x == 1) ≡ not (x == 1)
not_bit zero h = refl
not_bit (suc zero) h = refl
not_bit (suc (suc x)) h = absurd (omega arith)

pub among_or : (a b k : ℕ) → among (bit_or a b) k ≡ (among a k || among b k)
among_or a b k = ap (λ x. x == 1) (bit_at_or a b k) ∙ or_bits (bit_at a k) (bit_at b k) (bit_at-lt a k) (bit_at-lt b k)

pub among_and : (a b k : ℕ) → among (bit_and a b) k ≡ (among a k && among b k)
among_and a b k = ap (λ x. x == 1) (bit_at_and a b k) ∙ and_bits (bit_at a k) (bit_at b k) (bit_at-lt a k) (bit_at-lt b k)

pub among_not : (a k : ℕ) → a < 2 ^ 64 → k < 64 → among (bit_not w64 a) k ≡ not (among a k)
among_not a k fits within = ap (λ x. x == 1) (bit_at_not w64 a k fits within) ∙ not_bit (bit_at a k) (bit_at-lt a k)

-- the set of one
pub among_one : (i k : ℕ) → i < 64 → among (1 * 2 ^ i % 2 ^ 64) k ≡ (k == i)
among_one i k within = ap (λ x. among x k) (one_shl i 64 within) ∙ elim (cases_eq k i) [
  | inl e ↦ ap (λ x. bit_at (2 ^ i) x == 1) e ∙ ap (λ x. x == 1) (bit_at-pow_same i) ∙ sym (eq-eqb k i e)
  | inr e ↦ ap (λ x. x == 1) (bit_at-pow_other i k e) ∙ sym (ne_eqb k i e)
]

-- ---- the sets of a log, with one record more

same_place : (a b : Kind) → is_kind a b ≡ (place_of a == place_of b)
same_place Prepare Prepare = refl
same_place Prepare Commit = refl
same_place Prepare Abort = refl
same_place Prepare End = refl
same_place Commit Prepare = refl
same_place Commit Commit = refl
same_place Commit Abort = refl
same_place Commit End = refl
same_place Abort Prepare = refl
same_place Abort Commit = refl
same_place Abort Abort = refl
same_place Abort End = refl
same_place End Prepare = refl
same_place End Commit = refl
same_place End Abort = refl
same_place End End = refl

four : (kind : Kind) → place_of kind < 4
four Prepare = omega arith
four Commit = omega arith
four Abort = omega arith
four End = omega arith

and_true : (b : Bool) → b ≡ (b && true)
and_true true = refl
and_true false = refl

and_false : (b : Bool) → false ≡ (b && false)
and_false true = refl
and_false false = refl

pub one_mark : (sets : List ℕ) (log : List Record) (first i : ℕ) (d : Record) (one : ℕ) → length sets ≡ 4 → i < length log → AreMarks sets (take i log) first
    → ((k : ℕ) → k < 64 → among one k ≡ ((get_or log i d).transaction == first + k))
    → AreMarks (set sets (place_of (get_or log i d).kind) (bit_or (get_or sets (place_of (get_or log i d).kind) 0) one)) (take (i + 1) log) first
one_mark sets log first i d one four_sets within marks is kind k h =
    let r : Record = get_or log i d in
    let at : ℕ = place_of r.kind in
    let more : has (take (i + 1) log) (first + k) kind ≡ (has (take i log) (first + k) kind || ((r.transaction == first + k) && is_kind r.kind kind)) =
    list_any_more (λ (x : Record). (x.transaction == first + k) && is_kind x.kind kind) log i d within in
    elim (cases_eq (place_of kind) at) [
      | inl e ↦
          let room : at < length sets = omega (arith, four r.kind) in
          let same : is_kind r.kind kind ≡ true = same_place r.kind kind ∙ eq-eqb at (place_of kind) (sym e) in
          ap (λ (n : ℕ). among (get_or (set sets at (bit_or (get_or sets at 0) one)) n 0) k) e
          ∙ ap (λ (n : ℕ). among n k) (get_or-set_same sets at (bit_or (get_or sets at 0) one) 0 room)
          ∙ among_or (get_or sets at 0) one k
          ∙ ap (λ (n : ℕ). among (get_or sets n 0) k || among one k) (sym e)
          ∙ ap (λ (b : Bool). b || among one k) (marks kind k h)
          ∙ ap (λ (b : Bool). has (take i log) (first + k) kind || b) (is k h ∙ and_true (r.transaction == first + k) ∙ ap (λ (b : Bool). (r.transaction == first + k) && b) (sym same))
          ∙ sym more
      | inr e ↦
          let other : is_kind r.kind kind ≡ false = same_place r.kind kind ∙ ne_eqb at (place_of kind) (λ x. e (sym x)) in
          ap (λ (n : ℕ). among n k) (get_or-set_other sets at (place_of kind) (bit_or (get_or sets at 0) one) 0 e)
          ∙ marks kind k h
          ∙ or_none (has (take i log) (first + k) kind)
          ∙ ap (λ (b : Bool). has (take i log) (first + k) kind || b) (and_false (r.transaction == first + k) ∙ ap (λ (b : Bool). (r.transaction == first + k) && b) (sym other))
          ∙ sym more
    ]
  where
    or_none : (b : Bool) → b ≡ (b || false)
    or_none true = refl
    or_none false = refl

-- The same for a log with one record more.
pub mark_added : (sets : List ℕ) (log : List Record) (first : ℕ) (r : Record) (one : ℕ) → length sets ≡ 4 → AreMarks sets log first
    → ((k : ℕ) → k < 64 → among one k ≡ (r.transaction == first + k))
    → AreMarks (set sets (place_of r.kind) (bit_or (get_or sets (place_of r.kind) 0) one)) (log ++ r ∷ []) first
mark_added sets log first r one four_sets marks is =
    let more : List Record = log ++ r ∷ [] in
    let at : ℕ = length log in
    let there : get_or more at r ≡ r = get_or-append_seam log r [] r in
    let all : take (at + 1) more ≡ more = take-append-add log (r ∷ []) 1 in
    let within : at < length more = omega (arith, length-append log (r ∷ [])) in
    subst (λ (l : List Record). AreMarks (set sets (place_of r.kind) (bit_or (get_or sets (place_of r.kind) 0) one)) l first) all
    (subst (λ (x : Record). AreMarks (set sets (place_of x.kind) (bit_or (get_or sets (place_of x.kind) 0) one)) (take (at + 1) more) first) there
    (one_mark sets more first at r one four_sets within
    (subst (λ (l : List Record). AreMarks sets l first) (sym (take-append_seam log (r ∷ []))) marks)
    (λ k h. is k h ∙ ap (λ (x : Record). x.transaction == first + k) (sym there))))

pub one_told : (told : List ℕ) (first i one s : ℕ) → i < length told → ((k : ℕ) → k < 64 → among s k ≡ was_told (take i told) (first + k))
    → ((k : ℕ) → k < 64 → among one k ≡ (get_or told i 0 == first + k)) → (k : ℕ) → k < 64 → among (bit_or s one) k ≡ was_told (take (i + 1) told) (first + k)
one_told told first i one s within was is k h =
    among_or s one k ∙ ap (λ (b : Bool). b || among one k) (was k h) ∙ ap (λ (b : Bool). was_told (take i told) (first + k) || b) (is k h)
    ∙ sym (list_any_more (λ (n : ℕ). n == first + k) told i 0 within)

-- ---- how a participant ends a transaction

-- How a transaction ends at a participant, by its records and by what the coordinator answers.
ends : (commit prepare abort answer : Bool) → (commit || (prepare && not abort && answer)) ≡ cond commit true (cond abort false (cond prepare answer false))
ends true prepare abort answer = refl
ends false true true answer = refl
ends false true false answer = refl
ends false false true answer = refl
ends false false false answer = refl

pub committed_is : (first : ℕ) (theirs own : List ℕ) (log records : List Record) → AreMarks theirs log first → AreMarks own records first
    → (commit prepare abort decided ended : ℕ) → commit ≡ get_or own 1 0 → prepare ≡ get_or own 0 0 → abort ≡ get_or own 2 0 → abort < 2 ^ 64
    → decided ≡ get_or theirs 1 0 → ended ≡ get_or theirs 3 0 → ended < 2 ^ 64 → (k : ℕ) → k < 64
    → among (bit_or commit (bit_and (bit_and prepare (bit_not w64 abort)) (bit_and decided (bit_not w64 ended)))) k ≡ is_committed log records (first + k)
committed_is first theirs own log records a b commit prepare abort decided ended commit_is prepare_is abort_is abort_fits decided_is ended_is ended_fits k h =
    let n = bit_not w64 abort in
    let e = bit_not w64 ended in
    among_or commit (bit_and (bit_and prepare n) (bit_and decided e)) k
    ∙ ap (λ (x : Bool). among commit k || x) (among_and (bit_and prepare n) (bit_and decided e) k)
    ∙ ap (λ (x : Bool). among commit k || (x && among (bit_and decided e) k)) (among_and prepare n k)
    ∙ ap (λ (x : Bool). among commit k || (among prepare k && among n k && x)) (among_and decided e k)
    ∙ ap (λ (x : Bool). among commit k || (among prepare k && x && (among decided k && among e k))) (among_not abort k abort_fits h)
    ∙ ap (λ (x : Bool). among commit k || (among prepare k && not (among abort k) && (among decided k && x))) (among_not ended k ended_fits h)
    ∙ ends (among commit k) (among prepare k) (among abort k) (among decided k && not (among ended k))
    ∙ said (among commit k) (among prepare k) (among abort k) (among decided k) (among ended k)
    (ap (λ (x : ℕ). among x k) commit_is ∙ b Commit k h)
    (ap (λ (x : ℕ). among x k) prepare_is ∙ b Prepare k h)
    (ap (λ (x : ℕ). among x k) abort_is ∙ b Abort k h)
    (ap (λ (x : ℕ). among x k) decided_is ∙ a Commit k h)
    (ap (λ (x : ℕ). among x k) ended_is ∙ a End k h)
  where
    said : (c p n d e : Bool) → c ≡ has records (first + k) Commit → p ≡ has records (first + k) Prepare → n ≡ has records (first + k) Abort
        → d ≡ has log (first + k) Commit → e ≡ has log (first + k) End
        → cond c true (cond n false (cond p (d && not e) false)) ≡ is_committed log records (first + k)
    said c p n d e ec ep en ed ee = rw (ec, ep, en, ed, ee) refl

-- ---- one transaction more

pub next_judged : (p : ℕ) (told : List ℕ) (known : List Record) (own : ℕ → List Record) (ends : Ends) → EndsOf p told known own ends → (t : ℕ) → ends.first ≤ t → t < ends.first + 64 → (j : Judgement) → j ≡ judged_by p told known own t
    → or_then j (judged_ends (among ends.committed (t - ends.first)) (among ends.aborted (t - ends.first)) (among ends.told (t - ends.first))) ≡ judged_by p told known own (t + 1)
next_judged p told known own ends k t from within j is =
    let place : ℕ = t - ends.first in
    let below : place < 64 = omega arith in
    let there : ends.first + place ≡ t = omega arith in
    ap (λ (b : Bool). or_then j (judged_ends b (among ends.aborted place) (among ends.told place))) (k.committed place below)
    ∙ ap (λ (b : Bool). or_then j (judged_ends (some_ends (λ n. is_committed known (own n) (ends.first + place)) true p) b (among ends.told place))) (k.aborted place below)
    ∙ ap (λ (b : Bool). or_then j (judged_ends (some_ends (λ n. is_committed known (own n) (ends.first + place)) true p) (some_ends (λ n. is_committed known (own n) (ends.first + place)) false p) b)) (k.told_so place below)
    ∙ ap (λ (x : ℕ). or_then j (judged_one p told known own x)) there
    ∙ ap (λ (x : Judgement). or_then x (judged_one p told known own t)) is
    ∙ sym (one_judged p told known own t)

-- ---- none is broken

nothing_at : (k : ℕ) → among 0 k ≡ false
nothing_at k = ap (λ (x : ℕ). x == 1) (bit_at-zero k)

kept_by : (c a t : Bool) → ((c && a) || (c && not t) || (t && not c)) ≡ false → judged_ends c a t ≡ Kept
kept_by true true t e = absurd (false≢true (sym e))
kept_by true false true e = refl
kept_by true false false e = absurd (false≢true (sym e))
kept_by false a true e = absurd (false≢true (sym e))
kept_by false a false e = refl

pub kept_at : (c a t : ℕ) → c < 2 ^ 64 → t < 2 ^ 64 → bit_or (bit_or (bit_and c a) (bit_and c (bit_not w64 t))) (bit_and t (bit_not w64 c)) ≡ 0
    → (k : ℕ) → k < 64 → judged_ends (among c k) (among a k) (among t k) ≡ Kept
kept_at c a t c_fits t_fits none k h = kept_by (among c k) (among a k) (among t k) (
    sym (among_or (bit_or (bit_and c a) (bit_and c (bit_not w64 t))) (bit_and t (bit_not w64 c)) k
    ∙ ap (λ (x : Bool). x || among (bit_and t (bit_not w64 c)) k) (among_or (bit_and c a) (bit_and c (bit_not w64 t)) k)
    ∙ ap (λ (x : Bool). (x || among (bit_and c (bit_not w64 t)) k) || among (bit_and t (bit_not w64 c)) k) (among_and c a k)
    ∙ ap (λ (x : Bool). ((among c k && among a k) || x) || among (bit_and t (bit_not w64 c)) k) (among_and c (bit_not w64 t) k ∙ ap (λ (y : Bool). among c k && y) (among_not t k t_fits h))
    ∙ ap (λ (x : Bool). ((among c k && among a k) || (among c k && not (among t k))) || x) (among_and t (bit_not w64 c) k ∙ ap (λ (y : Bool). among t k && y) (among_not c k c_fits h)))
    ∙ ap (λ (x : ℕ). among x k) none ∙ nothing_at k)

pub all_kept : (p : ℕ) (told : List ℕ) (known : List Record) (own : ℕ → List Record) (ends : Ends) → EndsOf p told known own ends → ends.first ≡ 0
    → ((k : ℕ) → k < 64 → judged_ends (among ends.committed k) (among ends.aborted k) (among ends.told k) ≡ Kept) → (n : ℕ) → n ≤ 64 → judged_by p told known own n ≡ Kept
all_kept p told known own ends k first kept zero h = refl
all_kept p told known own ends k first kept (suc n) h =
    let place : n - ends.first ≡ n = omega (arith, first) in
    let before : judged_by p told known own n ≡ Kept = all_kept p told known own ends k first kept n (omega arith) in
    ap (judged_by p told known own) (the_next n)
    ∙ sym (next_judged p told known own ends k n (omega (arith, first)) (omega (arith, first)) Kept (sym before))
    ∙ kept (n - ends.first) (omega (arith, first))
  where
    the_next : (n : ℕ) → suc n ≡ n + 1
    the_next n = omega arith
