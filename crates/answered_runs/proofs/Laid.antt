-- Segments that lie one after another.
use Rattle.std.proofs.Common.{◌≡◌, ℕ, zero, suc, ◌+◌, ◌<◌, ◌≤◌, nat_lt, Bool, true, false, cond, List, [], ◌∷◌, ◌++◌, length, replicate, Some, None, refl, ap, sym, ◌∙◌, subst, arith, append_assoc, slice_set, get_or, ◌-◌}
use Rattle.std.specs.Prelude.{slice_get}
use Rattle.std.specs.List.{AllByRecursion}
use Rattle.std.proofs.lemmas.List.{append-nil, replicate-append-replicate}
use Rattle.std.proofs.lemmas.Bool.Decides.{nat_tests}
use Rattle.std.proofs.lemmas.Option.{slice_get-get_or, slice_get_within}
use Rattle.answered_runs.specs.declared.segments.Segment.{Segment}
use Rattle.answered_runs.specs.declared.tree.Next.TheVariants.{Hit}
use Rattle.answered_runs.specs.declared.tree.Said.{Said}
use Rattle.answered_runs.specs.inside.Segments.{AreLaid, ArePutOn, IsAlike, IsNumberAt, IsPutOn, answer_at, expand, segment_at}

pub laid_up : (first : ℕ) (ss : List Segment) (end : ℕ) → AreLaid first ss end → first ≤ end
laid_up first [] end e = omega (arith, e)
laid_up first (s ∷ ss) end (is, some, rest) = let up = laid_up (first + s.count) ss end rest in omega (arith, up)

below : (n m : ℕ) → n < m → nat_lt n m ≡ true
below n m h = grind (arith, nat_tests, h)

not_below : (n m : ℕ) → m ≤ n → nat_lt n m ≡ false
not_below n m h = grind (arith, nat_tests, h)

-- ---- one more place

record PutFrom (first : ℕ) (old new : List Segment) (place : ℕ) (said : Said) (answer : ℕ) : Type 0 where
  pub laid : AreLaid first new (place + 1)
  pub says : expand new ≡ expand old ++ said ∷ []
  pub before : (n : ℕ) → first ≤ n → n < place → answer_at new n ≡ answer_at old n
  pub here : answer_at new place ≡ Some answer
  pub answers : (most : ℕ) → answer < most → AllByRecursion (λ (s : Segment). s.answer < most) old → AllByRecursion (λ (s : Segment). s.answer < most) new

-- behind a segment that stays
behind : (first : ℕ) (s : Segment) (old new : List Segment) (place : ℕ) (said : Said) (answer : ℕ) → s.first ≡ first → 0 < s.count → first + s.count ≤ place
    → PutFrom (first + s.count) old new place said answer → PutFrom first (s ∷ old) (s ∷ new) place said answer
behind first s old new place said answer is some up p = record {
  laid = (is, some, p.laid);
  says = ap (λ (l : List Said). replicate s.count s.said ++ l) p.says ∙ sym (append_assoc (replicate s.count s.said) (expand old) (said ∷ []));
  before = λ n low less. by_test n low less (nat_lt n (s.first + s.count)) refl;
  here = ap (λ (b : Bool). cond b (Some s.answer) (answer_at new place)) (not_below place (s.first + s.count) (omega (arith, is, up))) ∙ p.here;
  answers = λ most less all. (all.0, p.answers most less all.1);
}
  where
    by_test : (n : ℕ) → first ≤ n → n < place → (b : Bool) → nat_lt n (s.first + s.count) ≡ b
        → cond (nat_lt n (s.first + s.count)) (Some s.answer) (answer_at new n) ≡ cond (nat_lt n (s.first + s.count)) (Some s.answer) (answer_at old n)
    by_test n low less true e = ap (λ (b : Bool). cond b (Some s.answer) (answer_at new n)) e ∙ sym (ap (λ (b : Bool). cond b (Some s.answer) (answer_at old n)) e)
    by_test n low less false e =
        let there : first + s.count ≤ n = grind (arith, nat_tests, e, is) in
        ap (λ (b : Bool). cond b (Some s.answer) (answer_at new n)) e ∙ p.before n there less ∙ sym (ap (λ (b : Bool). cond b (Some s.answer) (answer_at old n)) e)

pushed : (first : ℕ) (old : List Segment) (place : ℕ) (said : Said) (answer : ℕ) → AreLaid first old place
    → PutFrom first old (old ++ record { first = place; count = 1; said = said; answer = answer } ∷ []) place said answer
pushed first [] place said answer is = record {
  laid = (sym is, omega arith, omega (arith, is));
  says = refl;
  before = λ n low less. absurd (omega (arith, is, low, less));
  here = ap (λ (b : Bool). cond b (Some answer) None) (below place (place + 1) (omega arith));
  answers = λ most less all. (less, tt);
}
pushed first (s ∷ old) place said answer (is, some, rest) =
    behind first s old _ place said answer is some (laid_up (first + s.count) old place rest) (pushed (first + s.count) old place said answer rest)

abbrev longer : Segment → Segment
longer s = record s { count = s.count + 1 }

joined : (first : ℕ) (old : List Segment) (i : ℕ) (s : Segment) (place : ℕ) (said : Said) (answer : ℕ) → AreLaid first old place → suc i ≡ length old
    → slice_get old i ≡ Some s → s.said ≡ said → s.answer ≡ answer → PutFrom first old (slice_set old i (longer s)) place said answer
joined first [] i s place said answer laid long e f g = absurd (omega (arith, long))
joined first (x ∷ []) zero s place said answer (is, some, rest) long e f g =
    let same : x ≡ s = cc in
    subst (λ (y : Segment). PutFrom first (y ∷ []) (longer s ∷ []) place said answer) (sym same)
    (record {
      laid = (sym (ap (λ (y : Segment). y.first) same) ∙ is, omega arith, omega (arith, rest, ap (λ (y : Segment). y.count) same));
      says = append-nil (replicate (s.count + 1) s.said) ∙ sym (replicate-append-replicate s.count 1 s.said) ∙ ap (λ (y : Said). replicate s.count s.said ++ y ∷ []) f
          ∙ ap (λ (l : List Said). l ++ said ∷ []) (sym (append-nil (replicate s.count s.said)));
      before = λ n low less.
          let begins : s.first ≡ first = sym (ap (λ (y : Segment). y.first) same) ∙ is in
          let counts : x.count ≡ s.count = ap (λ (y : Segment). y.count) same in
          ap (λ (b : Bool). cond b (Some s.answer) None) (below n (s.first + (s.count + 1)) (omega (arith, begins, counts, rest, less)))
          ∙ sym (ap (λ (b : Bool). cond b (Some s.answer) None) (below n (s.first + s.count) (omega (arith, begins, counts, rest, less))));
      here =
          let begins : s.first ≡ first = sym (ap (λ (y : Segment). y.first) same) ∙ is in
          let counts : x.count ≡ s.count = ap (λ (y : Segment). y.count) same in
          ap (λ (b : Bool). cond b (Some s.answer) None) (below place (s.first + (s.count + 1)) (omega (arith, begins, counts, rest))) ∙ ap (λ (n : ℕ). Some n) g;
      answers = λ most less all. (all.0, tt);
    })
joined first (x ∷ []) (suc i) s place said answer laid long e f g = absurd (omega (arith, long))
joined first (x ∷ y ∷ ys) zero s place said answer laid long e f g = absurd (omega (arith, long))
joined first (x ∷ y ∷ ys) (suc i) s place said answer (is, some, rest) long e f g =
    behind first x (y ∷ ys) _ place said answer is some (laid_up (first + x.count) (y ∷ ys) place rest)
    (joined (first + x.count) (y ∷ ys) i s place said answer rest (omega (arith, long)) e f g)

put_on : (old new : List Segment) (place : ℕ) (said : Said) (answer : ℕ) → PutFrom 0 old new place said answer → IsPutOn old new place said answer
put_on old new place said answer p = record {
  laid = p.laid;
  says = p.says;
  before = λ n less. p.before n (omega arith) less;
  here = p.here;
  answers = p.answers;
}

pub put_pushed : (old : List Segment) (place : ℕ) (said : Said) (answer : ℕ) → AreLaid 0 old place
    → IsPutOn old (old ++ record { first = place; count = 1; said = said; answer = answer } ∷ []) place said answer
put_pushed old place said answer laid = put_on old _ place said answer (pushed 0 old place said answer laid)

pub put_joined : (old : List Segment) (i : ℕ) (s : Segment) (place : ℕ) (said : Said) (answer : ℕ) → AreLaid 0 old place → suc i ≡ length old
    → slice_get old i ≡ Some s → s.said ≡ said → s.answer ≡ answer → IsPutOn old (slice_set old i (record s { count = s.count + 1 })) place said answer
put_joined old i s place said answer laid long e f g = put_on old _ place said answer (joined 0 old i s place said answer laid long e f g)

-- the last segment ends where all end
pub last_ends : (first : ℕ) (ss : List Segment) (i : ℕ) (s : Segment) (end : ℕ) → AreLaid first ss end → suc i ≡ length ss → slice_get ss i ≡ Some s → s.first + s.count ≡ end
last_ends first [] i s end laid long e = absurd (omega (arith, long))
last_ends first (x ∷ []) zero s end (is, some, rest) long e = let same : x ≡ s = cc in sym (ap (λ (y : Segment). y.first + y.count) same) ∙ ap (λ (n : ℕ). n + x.count) is ∙ rest
last_ends first (x ∷ []) (suc i) s end laid long e = absurd (omega (arith, long))
last_ends first (x ∷ y ∷ ys) zero s end laid long e = absurd (omega (arith, long))
last_ends first (x ∷ y ∷ ys) (suc i) s end (is, some, rest) long e = last_ends (first + x.count) (y ∷ ys) i s end rest (omega (arith, long)) e

-- ---- the segment of a place

-- the segment of this number has the place, if it begins no later and the one after it does
pub at_number : (first : ℕ) (ss : List Segment) (i : ℕ) (s : Segment) (place end : ℕ) → AreLaid first ss end → first ≤ place → place < end → slice_get ss i ≡ Some s
    → s.first ≤ place → ((t : Segment) → slice_get ss (suc i) ≡ Some t → place < t.first) → segment_at ss place ≡ Some s
at_number first [] i s place end laid low less e begins later = absurd cc
at_number first (x ∷ []) zero s place end (is, some, rest) low less e begins later =
    ap (λ (b : Bool). cond b (Some x) None) (below place (x.first + x.count) (omega (arith, is, rest, less))) ∙ e
at_number first (x ∷ []) (suc i) s place end laid low less e begins later = absurd cc
at_number first (x ∷ y ∷ ys) zero s place end (is, some, rest) low less e begins later =
    let next : place < y.first = later y refl in
    let at : y.first ≡ first + x.count = rest.0 in
    ap (λ (b : Bool). cond b (Some x) (segment_at (y ∷ ys) place)) (below place (x.first + x.count) (omega (arith, is, next, at))) ∙ e
at_number first (x ∷ y ∷ ys) (suc i) s place end (is, some, rest) low less e begins later =
    let up : first + x.count ≤ place = up_to i e begins in
    ap (λ (b : Bool). cond b (Some x) (segment_at (y ∷ ys) place)) (not_below place (x.first + x.count) (omega (arith, is, up)))
    ∙ at_number (first + x.count) (y ∷ ys) i s place end rest up less e begins later
  where
    no_earlier : (first : ℕ) (ss : List Segment) (i : ℕ) (s : Segment) (end : ℕ) → AreLaid first ss end → slice_get ss i ≡ Some s → first ≤ s.first
    no_earlier first [] i s end laid e = absurd cc
    no_earlier first (x ∷ ss) zero s end (is, some, rest) e = let same : x ≡ s = cc in omega (arith, is, ap (λ (y : Segment). y.first) same)
    no_earlier first (x ∷ ss) (suc i) s end (is, some, rest) e = let up = no_earlier (first + x.count) ss i s end rest e in omega (arith, up)

    up_to : (i : ℕ) → slice_get (y ∷ ys) i ≡ Some s → s.first ≤ place → first + x.count ≤ place
    up_to i e begins = let early = no_earlier (first + x.count) (y ∷ ys) i s end rest e in omega (arith, early, begins)

-- The segment at `low` begins no later than a place, and the one at `high`, if there is one, begins later.
pub record Between (segments : List Segment) (place low high : ℕ) : Type 0 where
  pub order : low < high
  pub within : high ≤ length segments
  pub early : (s : Segment) → slice_get segments low ≡ Some s → s.first ≤ place
  pub late : (s : Segment) → slice_get segments high ≡ Some s → place < s.first

pub between_first : (ss : List Segment) (place end : ℕ) → AreLaid 0 ss end → place < end → Between ss place 0 (length ss)
between_first [] place end e less = absurd (omega (arith, e, less))
between_first (x ∷ ss) place end laid less = record {
  order = omega arith;
  within = omega arith;
  early = λ s e. let same : x ≡ s = cc in omega (arith, laid.0, ap (λ (y : Segment). y.first) same);
  late = λ s e. absurd (let within = slice_get_within (x ∷ ss) (length (x ∷ ss)) s e in omega (arith, within));
}

pub between_number : (ss : List Segment) (place low high end : ℕ) → AreLaid 0 ss end → place < end → Between ss place low high → high ≤ suc low → IsNumberAt ss place low
between_number ss place low high end laid less b near =
    let order = b.order in
    let within = b.within in
    let next : high ≡ suc low = omega (arith, order, near) in
    let there : low < length ss = omega (arith, order, within) in
    let at : slice_get ss low ≡ Some (get_or ss low none) = slice_get-get_or ss low none there in
    record {
      within = there;
      segment = at ∙ sym (at_number 0 ss low (get_or ss low none) place end laid (omega arith) less at (b.early (get_or ss low none) at)
          (λ t e. b.late t (ap (slice_get ss) next ∙ e)));
    }
  where
    none : Segment
    none = record { first = 0; count = 0; said = record { line = 0; next = Hit 0 }; answer = 0 }

in_all : (n : ℕ) (y : Said) (m : ℕ) (ys : List Said) → m < n → slice_get (replicate n y ++ ys) m ≡ Some y
in_all zero y m ys h = absurd (omega (arith, h))
in_all (suc n) y zero ys h = refl
in_all (suc n) y (suc m) ys h = in_all n y m ys (omega (arith, h))

past_all : (n : ℕ) (y : Said) (m : ℕ) (ys : List Said) → slice_get (replicate n y ++ ys) (n + m) ≡ slice_get ys m
past_all zero y m ys = ap (slice_get ys) (let e : 0 + m ≡ m = omega arith in e)
past_all (suc n) y m ys = ap (slice_get (replicate (suc n) y ++ ys)) (let e : suc n + m ≡ suc (n + m) = omega arith in e) ∙ past_all n y m ys

-- what is said at a place
pub said_in : (first : ℕ) (ss : List Segment) (end place : ℕ) (s : Segment) → AreLaid first ss end → segment_at ss (first + place) ≡ Some s → slice_get (expand ss) place ≡ Some s.said
said_in first [] end place s laid e = absurd cc
said_in first (x ∷ ss) end place s (is, some, rest) e = by_test (λ n f. said_in (first + x.count) ss end n s rest f) (nat_lt (first + place) (x.first + x.count)) refl e
  where
    by_test : ((n : ℕ) → segment_at ss ((first + x.count) + n) ≡ Some s → slice_get (expand ss) n ≡ Some s.said) → (b : Bool) → nat_lt (first + place) (x.first + x.count) ≡ b
        → cond (nat_lt (first + place) (x.first + x.count)) (Some x) (segment_at ss (first + place)) ≡ Some s → slice_get (replicate x.count x.said ++ expand ss) place ≡ Some s.said
    by_test later true f h =
        let found : Some x ≡ Some s = sym (ap (λ (b : Bool). cond b (Some x) (segment_at ss (first + place))) f) ∙ h in
        let same : x ≡ s = cc in
        in_all x.count x.said place (expand ss) (grind (arith, nat_tests, f, is)) ∙ ap (λ (y : Segment). Some y.said) same
    by_test later false f h =
        let up : x.count ≤ place = grind (arith, nat_tests, f, is) in
        let found : segment_at ss (first + place) ≡ Some s = sym (ap (λ (b : Bool). cond b (Some x) (segment_at ss (first + place))) f) ∙ h in
        let moved : first + place ≡ (first + x.count) + (place - x.count) = omega (arith, up) in
        ap (slice_get (replicate x.count x.said ++ expand ss)) (let there : place ≡ x.count + (place - x.count) = omega (arith, up) in there)
        ∙ past_all x.count x.said (place - x.count) (expand ss) ∙ later (place - x.count) (sym (ap (segment_at ss) moved) ∙ found)

pub answer_in : (ss : List Segment) (place : ℕ) (s : Segment) → segment_at ss place ≡ Some s → answer_at ss place ≡ Some s.answer
answer_in [] place s e = absurd cc
answer_in (x ∷ ss) place s e = by_test (answer_in ss place s) (nat_lt place (x.first + x.count)) e
  where
    by_test : (segment_at ss place ≡ Some s → answer_at ss place ≡ Some s.answer) → (b : Bool) → cond b (Some x) (segment_at ss place) ≡ Some s → cond b (Some x.answer) (answer_at ss place) ≡ Some s.answer
    by_test later true f = let same : x ≡ s = cc in ap (λ (y : Segment). Some y.answer) same
    by_test later false f = later f

-- the loop goes on
pub between_up : (ss : List Segment) (place low high middle : ℕ) (d : Segment) → Between ss place low high → low < middle → middle < high → (get_or ss middle d).first ≤ place → Between ss place middle high
between_up ss place low high middle d b up down begins = record {
  order = down;
  within = b.within;
  early = λ s e. let same : get_or ss middle d ≡ s = (let within = b.within in let at = slice_get-get_or ss middle d (omega (arith, down, within)) in cc) in omega (arith, begins, ap (λ (y : Segment). y.first) same);
  late = b.late;
}

pub between_down : (ss : List Segment) (place low high middle : ℕ) (d : Segment) → Between ss place low high → low < middle → middle < high → place < (get_or ss middle d).first → Between ss place low middle
between_down ss place low high middle d b up down begins = record {
  order = up;
  within = let within = b.within in omega (arith, down, within);
  early = b.early;
  late = λ s e. let same : get_or ss middle d ≡ s = (let within = b.within in let at = slice_get-get_or ss middle d (omega (arith, down, within)) in cc) in omega (arith, begins, ap (λ (y : Segment). y.first) same);
}

-- the segment of a number, as it is read
pub of_number : (ss : List Segment) (place number end : ℕ) (d : Segment) → IsNumberAt ss place number → segment_at ss place ≡ Some (get_or ss number d)
of_number ss place number end d is = sym is.segment ∙ slice_get-get_or ss number d is.within

pub said_of : (ss : List Segment) (end place : ℕ) (s : Segment) → AreLaid 0 ss end → segment_at ss place ≡ Some s → slice_get (expand ss) place ≡ Some s.said
said_of ss end place s laid e = said_in 0 ss end place s laid (ap (segment_at ss) (let same : 0 + place ≡ place = omega arith in same) ∙ e)

-- ---- places of one segment

-- where a segment lies that has a place
lies : (first : ℕ) (ss : List Segment) (end place : ℕ) (s : Segment) → AreLaid first ss end → first ≤ place → segment_at ss place ≡ Some s
    → (s.first ≤ place) × (place < s.first + s.count) × (s.first + s.count ≤ end)
lies first [] end place s laid low e = absurd cc
lies first (x ∷ ss) end place s (is, some, rest) low e = by_test (lies (first + x.count) ss end place s rest) (nat_lt place (x.first + x.count)) refl e
  where
    by_test : (first + x.count ≤ place → segment_at ss place ≡ Some s → (s.first ≤ place) × (place < s.first + s.count) × (s.first + s.count ≤ end)) → (b : Bool) → nat_lt place (x.first + x.count) ≡ b
        → cond b (Some x) (segment_at ss place) ≡ Some s → (s.first ≤ place) × (place < s.first + s.count) × (s.first + s.count ≤ end)
    by_test later true f h =
        let same : x ≡ s = cc in
        let up = laid_up (first + x.count) ss end rest in
        subst (λ (y : Segment). (y.first ≤ place) × (place < y.first + y.count) × (y.first + y.count ≤ end)) same
        (omega (arith, is, low), grind (arith, nat_tests, f), omega (arith, is, up))
    by_test later false f h = later (grind (arith, nat_tests, f, is)) h

-- a segment that has a place has the further ones before its end
also_there : (first : ℕ) (ss : List Segment) (end place n : ℕ) (s : Segment) → AreLaid first ss end → first ≤ place → segment_at ss place ≡ Some s → place ≤ n → n < s.first + s.count
    → segment_at ss n ≡ Some s
also_there first [] end place n s laid low e up less = absurd cc
also_there first (x ∷ ss) end place n s (is, some, rest) low e up less =
    by_test (λ past. also_there (first + x.count) ss end place n s rest past) (nat_lt place (x.first + x.count)) refl e
  where
    by_test : (first + x.count ≤ place → segment_at ss place ≡ Some s → place ≤ n → n < s.first + s.count → segment_at ss n ≡ Some s) → (b : Bool) → nat_lt place (x.first + x.count) ≡ b
        → cond b (Some x) (segment_at ss place) ≡ Some s → cond (nat_lt n (x.first + x.count)) (Some x) (segment_at ss n) ≡ Some s
    by_test later true f h =
        let same : x ≡ s = cc in
        let within : n < x.first + x.count = subst (λ (y : Segment). n < y.first + y.count) (sym same) less in
        ap (λ (b : Bool). cond b (Some x) (segment_at ss n)) (below n (x.first + x.count) within) ∙ h
    by_test later false f h =
        let past : x.first + x.count ≤ place = grind (arith, nat_tests, f) in
        ap (λ (b : Bool). cond b (Some x) (segment_at ss n)) (not_below n (x.first + x.count) (omega (arith, past, up))) ∙ later (omega (arith, past, is)) h up less

module _ (ss : List Segment) (end place : ℕ) (s : Segment) (laid : AreLaid 0 ss end) (at : segment_at ss place ≡ Some s) where
  pub lies_there : (s.first ≤ place) × (place < s.first + s.count) × (s.first + s.count ≤ end)
  lies_there = lies 0 ss end place s laid (omega arith) at

  pub alike : (n : ℕ) → place + n + 1 < s.first + s.count → IsAlike ss s.answer place n
  alike n less = record {
    leads = answer_in ss (place + n) s (also_there 0 ss end place (place + n) s laid (omega arith) at (omega arith) (omega (arith, less)));
    said = said_of ss end (place + n + 1) s laid (also_there 0 ss end place (place + n + 1) s laid (omega arith) at (omega arith) less) ∙ sym (said_of ss end place s laid at);
  }

-- ---- several places more

set_same : (ss : List Segment) (i : ℕ) (s : Segment) → slice_get ss i ≡ Some s → slice_set ss i s ≡ ss
set_same [] i s e = absurd cc
set_same (x ∷ ss) zero s e = let same : x ≡ s = cc in ap (λ (y : Segment). y ∷ ss) (sym same)
set_same (x ∷ ss) (suc i) s e = ap (λ (l : List Segment). x ∷ l) (set_same ss i s e)

set_twice : (ss : List Segment) (i : ℕ) (s t : Segment) → slice_set (slice_set ss i s) i t ≡ slice_set ss i t
set_twice [] i s t = refl
set_twice (x ∷ ss) zero s t = refl
set_twice (x ∷ ss) (suc i) s t = ap (λ (l : List Segment). x ∷ l) (set_twice ss i s t)

get_set : (ss : List Segment) (i : ℕ) (s t : Segment) → slice_get ss i ≡ Some s → slice_get (slice_set ss i t) i ≡ Some t
get_set [] i s t e = absurd cc
get_set (x ∷ ss) zero s t e = refl
get_set (x ∷ ss) (suc i) s t e = get_set ss i s t e

long_set : (ss : List Segment) (i : ℕ) (s : Segment) → length (slice_set ss i s) ≡ length ss
long_set [] i s = refl
long_set (x ∷ ss) zero s = refl
long_set (x ∷ ss) (suc i) s = ap suc (long_set ss i s)

set_end : (ss : List Segment) (s t : Segment) → slice_set (ss ++ s ∷ []) (length ss) t ≡ ss ++ t ∷ []
set_end [] s t = refl
set_end (x ∷ ss) s t = ap (λ (l : List Segment). x ∷ l) (set_end ss s t)

get_end : (ss : List Segment) (s : Segment) → slice_get (ss ++ s ∷ []) (length ss) ≡ Some s
get_end [] s = refl
get_end (x ∷ ss) s = get_end ss s

long_end : (ss : List Segment) (s : Segment) → suc (length ss) ≡ length (ss ++ s ∷ [])
long_end [] s = refl
long_end (x ∷ ss) s = ap suc (long_end ss s)

pub all_joined : (n : ℕ) (old : List Segment) (i : ℕ) (s : Segment) (place : ℕ) (said : Said) (answer : ℕ) → AreLaid 0 old place → suc i ≡ length old
    → slice_get old i ≡ Some s → s.said ≡ said → s.answer ≡ answer → ArePutOn n old (slice_set old i (record s { count = s.count + n })) place said answer
all_joined zero old i s place said answer laid long e f g =
    ap (λ (m : ℕ). slice_set old i (record s { count = m })) (let none : s.count + 0 ≡ s.count = omega arith in none) ∙ set_same old i s e
all_joined (suc n) old i s place said answer laid long e f g =
    let put = put_joined old i s place said answer laid long e f g in
    let middle : List Segment = slice_set old i (longer s) in
    let rest = all_joined n middle i (longer s) (place + 1) said answer put.laid (long ∙ sym (long_set old i (longer s))) (get_set old i s (longer s) e) f g in
    let same : slice_set middle i (record s { count = (s.count + 1) + n }) ≡ slice_set old i (record s { count = s.count + suc n }) =
    set_twice old i (longer s) (record s { count = (s.count + 1) + n }) ∙ ap (λ (m : ℕ). slice_set old i (record s { count = m })) (let more : (s.count + 1) + n ≡ s.count + suc n = omega arith in more)
    in
    (middle, put, subst (λ (l : List Segment). ArePutOn n middle l (place + 1) said answer) same rest)

pub all_pushed : (n : ℕ) (old : List Segment) (place : ℕ) (said : Said) (answer : ℕ) → AreLaid 0 old place
    → ArePutOn (suc n) old (old ++ record { first = place; count = suc n; said = said; answer = answer } ∷ []) place said answer
all_pushed n old place said answer laid =
    let one : Segment = record { first = place; count = 1; said = said; answer = answer } in
    let middle : List Segment = old ++ one ∷ [] in
    let put = put_pushed old place said answer laid in
    let rest = all_joined n middle (length old) one (place + 1) said answer put.laid (long_end old one) (get_end old one) refl refl in
    let same : slice_set middle (length old) (record one { count = 1 + n }) ≡ old ++ record { first = place; count = suc n; said = said; answer = answer } ∷ [] =
    set_end old one (record one { count = 1 + n }) ∙ ap (λ (m : ℕ). old ++ record { first = place; count = m; said = said; answer = answer } ∷ []) (let more : 1 + n ≡ suc n = omega arith in more)
    in
    (middle, put, subst (λ (l : List Segment). ArePutOn n middle l (place + 1) said answer) same rest)

-- one place more
pub one_put : (old new : List Segment) (place : ℕ) (said : Said) (answer : ℕ) → ArePutOn 1 old new place said answer → IsPutOn old new place said answer
one_put old new place said answer (middle, put, same) = subst (λ (l : List Segment). IsPutOn old l place said answer) (sym same) put
