-- How often points are among the first hits of a run, and where in it a fault's hit stands.
use Rattle.std.proofs.Common.{◌≡◌, ℕ, zero, suc, ◌+◌, ◌-◌, ◌<◌, ◌≤◌, ◌⊎◌, inl, inr, ◌==◌, ◌&&◌, ◌||◌, nat_lt, Bool, true, false, cond, List, [], ◌∷◌, ◌++◌, take, drop, length, get_or, refl, ap, sym, ◌∙◌, subst, arith, append_assoc, Some, None}
use Rattle.std.specs.List.{flat_map, list_any, AllByRecursion}
use Rattle.std.proofs.lemmas.Bool.Decides.{nat_tests}
use Rattle.std.specs.Prelude.{min}
use Rattle.std.proofs.lemmas.List.{append-nil, take_more, take_all, get_or_past, take-append-drop, take-append-le, length-append, length-map, drop_all}
use Rattle.std.proofs.Math.Nat.{zero-add, min-eq_left, min-eq_right}
use Rattle.std.proofs.Math.Seq.{take-append-add}
use Rattle.std.proofs.lemmas.List.Sums.{sum_by-append, sum_by-cons}
use Rattle.action_eval.specs.declared.rig.Site.{Site}
use Rattle.action_eval.specs.declared.rig.Rig.{Rig}
use Rattle.action_eval.specs.declared.rig.Kind.{Kind}
use Rattle.action_eval.specs.RiggedScenario.{rig}
use Rattle.plan_gen.specs.LoopRuns.{times}
use Rattle.grown_plans.specs.AskedPoints.{AreCounts, AskAlike, sites_from, sites_after, is_point_of, is_asked_again}
use Rattle.grown_plans.specs.Kept.{grew, kept_at, kept_children}
use Rattle.grown_plans.specs.inside.Counted.{next_site}
use Rattle.grown_plans.specs.Begun.{CountsFirst, IsBegun, Serves}
use Rattle.grown_plans.specs.declared.begun.Begun.{Begun}
use Rattle.grown_plans.specs.inside.Ends.{EndsAt, EndsPlan, last_site}
use Rattle.grown_plans.proofs.HitByHit.{sites_ahead}

-- ---- how often a point is asked

pub times_parts : (p : ℕ) (xs ys : List ℕ) → times p (xs ++ ys) ≡ times p xs + times p ys
times_parts p xs ys = sum_by-append (λ q. cond (q == p) 1 0) xs ys

pub times_first : (p q : ℕ) (xs : List ℕ) → times p (q ∷ xs) ≡ cond (q == p) 1 0 + times p xs
times_first p q xs = sum_by-cons (λ x. cond (x == p) 1 0) q xs

self_is : (p : ℕ) → (p == p) ≡ true
self_is p = grind (arith, nat_tests)

pub times_next : (p : ℕ) (xs : List ℕ) → times p (xs ++ p ∷ []) ≡ times p xs + 1
times_next p xs = times_parts p xs (p ∷ []) ∙ ap (λ (k : ℕ). times p xs + k) (times_first p p [] ∙ ap (λ (b : Bool). cond b 1 0 + times p []) (self_is p))

apart : (p q : ℕ) → q < 64 → 64 ≤ p → (q == p) ≡ false
apart p q low high = let other : q < p = omega (arith, low, high) in grind (arith, nat_tests, other)

times_none : (p : ℕ) (xs : List ℕ) → AllByRecursion (λ q. q < 64) xs → 64 ≤ p → times p xs ≡ 0
times_none p [] all high = refl
times_none p (q ∷ xs) all high = times_first p q xs ∙ ap (λ (b : Bool). cond b 1 0 + times p xs) (apart p q all.0 high) ∙ zero-add (times p xs) ∙ times_none p xs all.1 high

lt_or_le : (j m : ℕ) → (j < m) ⊎ (m ≤ j)
lt_or_le zero zero = inr (omega arith)
lt_or_le zero (suc m) = inl (omega arith)
lt_or_le (suc j) zero = inr (omega arith)
lt_or_le (suc j) (suc m) = elim (lt_or_le j m) [ inl low ↦ inl (omega (arith, low)) | inr high ↦ inr (omega (arith, high)) ]

-- Each count is right, also for points that no catalogue has.
pub counted : (counts asked : List ℕ) → AreCounts counts asked → AllByRecursion (λ q. q < 64) asked → (p : ℕ) → get_or counts p 0 ≡ times p asked
counted counts asked are all p = elim (lt_or_le p 64) [
  | inl low ↦ are.1 p low
  | inr high ↦ let many = are.0 in get_or_past counts p 0 (omega (arith, many, high)) ∙ sym (times_none p asked all high)
]

pub all_take : (n : ℕ) (xs : List ℕ) → AllByRecursion (λ q. q < 64) xs → AllByRecursion (λ q. q < 64) (take n xs)
all_take zero xs all = tt
all_take (suc n) [] all = tt
all_take (suc n) (x ∷ xs) all = (all.0, all_take n xs all.1)

-- ---- before a fault's hit

apart_at : (s : Site) (x : ℕ) (pre xs : List ℕ) (b : Bool) → (x == s.point) ≡ b → times s.point (pre ++ x ∷ xs) < s.hit → (b && (times x pre + 1 == s.hit)) ≡ false
apart_at s x pre xs false e few = refl
apart_at s x pre xs true e few =
    let same : x ≡ s.point = grind (arith, nat_tests, e) in
    let parts = times_parts s.point pre (x ∷ xs) in
    let first : times s.point (x ∷ xs) ≡ 1 + times s.point xs = times_first s.point x xs ∙ ap (λ (b : Bool). cond b 1 0 + times s.point xs) e in
    let moved : times x pre ≡ times s.point pre = ap (λ (p : ℕ). times p pre) same in
    let other : times x pre + 1 < s.hit = omega (arith, parts, first, moved, few) in
    grind (arith, nat_tests, other)

not_met : (s : Site) (pre xs ys : List ℕ) → times s.point (pre ++ xs) < s.hit → sites_after s (sites_from pre (xs ++ ys)) ≡ sites_after s (sites_from (pre ++ xs) ys)
not_met s pre [] ys few = ap (λ (l : List ℕ). sites_after s (sites_from l ys)) (sym (append-nil pre))
not_met s pre (x ∷ xs) ys few =
    let rest : List Site = sites_from (pre ++ x ∷ []) (xs ++ ys) in
    ap (λ (b : Bool). cond b rest (sites_after s rest)) (apart_at s x pre xs (x == s.point) refl few)
    ∙ not_met s (pre ++ x ∷ []) xs ys (subst (λ (l : List ℕ). times s.point l < s.hit) (sym (append_assoc pre (x ∷ []) xs)) few)
    ∙ ap (λ (l : List ℕ). sites_after s (sites_from l ys)) (append_assoc pre (x ∷ []) xs)

up_to : (s : Site) (asked : List ℕ) (n : ℕ) → times s.point (take n asked) < s.hit → sites_after s (sites_from [] asked) ≡ sites_after s (sites_from (take n asked) (drop n asked))
up_to s asked n few = ap (λ (l : List ℕ). sites_after s (sites_from [] l)) (sym (take-append-drop n asked)) ∙ not_met s [] (take n asked) (drop n asked) few

meets : (s : Site) (p : ℕ) (before : List ℕ) (xs : List Site) → p ≡ s.point → times s.point before + 1 ≡ s.hit → sites_after s (next_site before p ∷ xs) ≡ xs
meets s p before xs e h =
    let hit : (times s.point before + 1 == s.hit) ≡ true = grind (arith, nat_tests, h) in
    ap (λ (q : ℕ). sites_after s (next_site before q ∷ xs)) e
    ∙ ap (λ (b : Bool). cond (b && (times s.point before + 1 == s.hit)) xs (sites_after s xs)) (self_is s.point)
    ∙ ap (λ (b : Bool). cond b xs (sites_after s xs)) hit

met_at : (s : Site) (asked : List ℕ) (n : ℕ) → times s.point (take n asked) < s.hit → n < length asked → get_or asked n 0 ≡ s.point → times s.point (take n asked) + 1 ≡ s.hit
    → sites_after s (sites_from [] asked) ≡ sites_from (take (n + 1) asked) (drop (n + 1) asked)
met_at s asked n few lt at hit =
    up_to s asked n few ∙ ap (sites_after s) (sites_ahead asked n 0 lt)
    ∙ meets s (get_or asked n 0) (take n asked) (sites_from (take (n + 1) asked) (drop (n + 1) asked)) at hit

not_at_all : (s : Site) (asked : List ℕ) (n : ℕ) → times s.point (take n asked) < s.hit → n ≡ length asked → sites_after s (sites_from [] asked) ≡ []
not_at_all s asked n few all =
    let whole : take n asked ≡ asked = take_all n asked (omega (arith, all)) in
    ap (λ (l : List ℕ). sites_after s (sites_from [] l)) (sym (append-nil asked))
    ∙ not_met s [] asked [] (subst (λ (l : List ℕ). times s.point l < s.hit) whole few)

-- ---- what follows from counts alone

-- as many as there are kinds for the points that are hit
children_many : (kinds : ℕ → List Kind) (number : ℕ) (before asked : List ℕ)
    → length (flat_map (kept_at kinds number) (sites_from before asked)) ≡ length (flat_map kinds asked)
children_many kinds number before [] = refl
children_many kinds number before (p ∷ ps) =
    let s : Site = record { point = p; hit = times p before + 1 } in
    let here = length-map (kinds p) (λ kind. grew number (rig s kind)) in
    let more = children_many kinds number (before ++ p ∷ []) ps in
    let whole = length-append (kinds p) (flat_map kinds ps) in
    length-append (kept_at kinds number s) (flat_map (kept_at kinds number) (sites_from (before ++ p ∷ []) ps)) ∙ omega (arith, here, more, whole)

ends_children : (kinds : ℕ → List Kind) (number : ℕ) (s : Site) (asked : List ℕ) (n after : ℕ) → EndsAt s asked n → after ≡ min (n + 1) (length asked)
    → length (flat_map (kept_at kinds number) (sites_after s (sites_from [] asked))) ≡ length (flat_map kinds (drop after asked))
ends_children kinds number s asked n after e is = elim e.2 [
  | inl all ↦
      let past : after ≡ length asked = is ∙ min-eq_right {n = length asked} {m = n + 1} (omega (arith, all)) in
      ap (λ (l : List Site). length (flat_map (kept_at kinds number) l)) (not_at_all s asked n e.1 all)
      ∙ ap (λ (l : List ℕ). length (flat_map kinds l)) (sym (drop_all after asked (omega (arith, past))))
  | inr met ↦
      let lt = met.0 in
      let next : after ≡ n + 1 = is ∙ min-eq_left {n = n + 1} {m = length asked} (omega (arith, lt)) in
      ap (λ (l : List Site). length (flat_map (kept_at kinds number) l)) (met_at s asked n e.1 met.0 met.1 met.2)
      ∙ children_many kinds number (take (n + 1) asked) (drop (n + 1) asked)
      ∙ ap (λ k. length (flat_map kinds (drop k asked))) (sym next)
]

some_more : (b : Bool) (k : ℕ) → (b || nat_lt 0 k) ≡ nat_lt 0 (cond b 1 0 + k)
some_more true k = let some : nat_lt 0 (1 + k) ≡ true = grind (arith, nat_tests) in sym some
some_more false k = ap (nat_lt 0) (sym (zero-add k))

asks_some : (p : ℕ) (before ys : List ℕ) → list_any (λ (s : Site). s.point == p) (sites_from before ys) ≡ nat_lt 0 (times p ys)
asks_some p before [] = refl
asks_some p before (y ∷ ys) =
    ap (λ (b : Bool). (y == p) || b) (asks_some p (before ++ y ∷ []) ys) ∙ some_more (y == p) (times p ys) ∙ ap (nat_lt 0) (sym (times_first p y ys))

gained : (a k : ℕ) → nat_lt a (a + k) ≡ nat_lt 0 k
gained a zero = let no : nat_lt a (a + 0) ≡ false = grind (arith, nat_tests) in no
gained a (suc k) =
    let yes : nat_lt a (a + suc k) ≡ true = grind (arith, nat_tests) in
    let some : nat_lt 0 (suc k) ≡ true = grind (arith, nat_tests) in
    yes ∙ sym some

-- The last fault's point is asked again if there are more hits of it than up to that fault.
pub ends_again : (r : Rig) (rs : List Rig) (asked : List ℕ) (n : ℕ) → EndsAt r.site asked n → nat_lt r.site.hit (times r.site.point asked) ≡ is_asked_again (r ∷ rs) asked
ends_again r rs asked n e = elim e.2 [
  | inl all ↦
      let s = r.site in
      let whole : take n asked ≡ asked = take_all n asked (omega (arith, all)) in
      let few : times s.point asked < s.hit = subst (λ (l : List ℕ). times s.point l < s.hit) whole e.1 in
      let no : nat_lt s.hit (times s.point asked) ≡ false = grind (arith, nat_tests, few) in
      no ∙ ap (list_any (λ (x : Site). x.point == s.point)) (sym (not_at_all s asked n e.1 all))
  | inr met ↦
      let s = r.site in
      let p = s.point in
      let many : times p (take (n + 1) asked) ≡ s.hit =
      ap (times p) (take_more asked n 0 met.0 ∙ ap (λ (q : ℕ). take n asked ++ q ∷ []) met.1) ∙ times_next p (take n asked) ∙ met.2
      in
      let whole : times p asked ≡ s.hit + times p (drop (n + 1) asked) =
      ap (times p) (sym (take-append-drop (n + 1) asked)) ∙ times_parts p (take (n + 1) asked) (drop (n + 1) asked) ∙ ap (λ (k : ℕ). k + times p (drop (n + 1) asked)) many
      in
      ap (nat_lt s.hit) whole ∙ gained s.hit (times p (drop (n + 1) asked)) ∙ sym (asks_some p (take (n + 1) asked) (drop (n + 1) asked))
      ∙ ap (list_any (λ (x : Site). x.point == p)) (sym (met_at s asked n e.1 met.0 met.1 met.2))
]

-- ---- the steps of the code, of a plan whose last fault's hit is known

is_site : (r : Rig) (rs : List Rig) (s : Site) → last_site (r ∷ rs) ≡ Some s → r.site ≡ s
is_site r rs s e = cc

pub begun_is : (b : Begun) (parent : ℕ) (plan : List Rig) (asked : List ℕ) (s : Site) → last_site plan ≡ Some s → b.parent ≡ Some parent → AreCounts b.counts.items (take b.hits asked)
    → EndsAt s asked b.hits → IsBegun b parent plan asked
begun_is b parent [] asked s e of counts ends = absurd cc
begun_is b parent (r ∷ rs) asked s e of counts ends =
    let few : times r.site.point (take b.hits asked) < r.site.hit = subst (λ (x : Site). times x.point (take b.hits asked) < x.hit) (sym (is_site r rs s e)) ends.1 in
    (of, (ends.0, counts), few)

pub ends_is : (plan : List Rig) (asked : List ℕ) (n : ℕ) (s : Site) → last_site plan ≡ Some s → EndsAt s asked n → EndsPlan plan asked n
ends_is [] asked n s e ends = absurd cc
ends_is (r ∷ rs) asked n s e ends = subst (λ (x : Site). EndsAt x asked n) (sym (is_site r rs s e)) ends

pub ends_of : (plan : List Rig) (asked : List ℕ) (n : ℕ) (s : Site) → last_site plan ≡ Some s → EndsPlan plan asked n → EndsAt s asked n
ends_of [] asked n s e ends = absurd cc
ends_of (r ∷ rs) asked n s e ends = subst (λ (x : Site). EndsAt x asked n) (is_site r rs s e) ends

-- a count that grows by a hit of this point stays below the fault's, unless that hit is the fault's
pub still_early : (s : Site) (asked : List ℕ) (i : ℕ) (b : Bool) → i < length asked → (get_or asked i 0 == s.point) ≡ b → times s.point (take i asked) < s.hit
    → (b ≡ true → times s.point (take i asked) + 1 ≡ s.hit → ⊥) → times s.point (take (i + 1) asked) < s.hit
still_early s asked i true lt e few other =
    let same : get_or asked i 0 ≡ s.point = grind (arith, nat_tests, e) in
    let many = ap (times s.point) (take_more asked i 0 lt ∙ ap (λ (q : ℕ). take i asked ++ q ∷ []) same) ∙ times_next s.point (take i asked) in
    let no : times s.point (take i asked) + 1 ≡ s.hit → ⊥ = other refl in
    elim (lt_or_le (times s.point (take i asked) + 1) s.hit) [
      | inl low ↦ omega (arith, many, low)
      | inr high ↦ absurd (no (omega (arith, few, high)))
    ]
still_early s asked i false lt e few other =
    let one : times s.point (get_or asked i 0 ∷ []) ≡ 0 =
    times_first s.point (get_or asked i 0) [] ∙ ap (λ (b : Bool). cond b 1 0 + times s.point []) e
    in
    let many = ap (times s.point) (take_more asked i 0 lt) ∙ times_parts s.point (take i asked) (get_or asked i 0 ∷ []) in
    omega (arith, many, one, few)

-- ---- two runs that ask alike up to a hit, and with it

pub record SplitAlike (s : Site) (one other : List ℕ) : Type 0 where
  pub before : List ℕ
  pub after : List ℕ
  pub others : List ℕ
  pub first : one ≡ before ++ s.point ∷ after
  pub second : other ≡ before ++ s.point ∷ others
  pub hit : times s.point before + 1 ≡ s.hit

longer : (s : Site) (before after : List ℕ) (n : ℕ) → times s.point before + 1 ≡ s.hit → length before < n → s.hit ≤ times s.point (take n (before ++ s.point ∷ after))
longer s before after n hit lt =
    let k : ℕ = n - length before - 1 in
    let at : n ≡ length before + suc k = omega (arith, lt) in
    let taken : take n (before ++ s.point ∷ after) ≡ before ++ s.point ∷ take k after =
    ap (λ (m : ℕ). take m (before ++ s.point ∷ after)) at ∙ take-append-add before (s.point ∷ after) (suc k)
    in
    let whole = ap (times s.point) taken ∙ times_parts s.point before (s.point ∷ take k after) in
    let first : times s.point (s.point ∷ take k after) ≡ 1 + times s.point (take k after) =
    times_first s.point s.point (take k after) ∙ ap (λ (b : Bool). cond b 1 0 + times s.point (take k after)) (self_is s.point)
    in
    omega (arith, whole, first, hit)

-- the first hits of one run, before that hit, are those of the other
begin_alike : (s : Site) (one other : List ℕ) (n : ℕ) → SplitAlike s one other → n ≤ length one → times s.point (take n one) < s.hit → (n ≤ length other) × (take n one ≡ take n other)
begin_alike s one other n a le few = elim (lt_or_le (length a.before) n) [
  | inl past ↦
      let more : s.hit ≤ times s.point (take n one) =
      subst (λ (l : List ℕ). s.hit ≤ times s.point (take n l)) (sym a.first) (longer s a.before a.after n a.hit past)
      in
      absurd (omega (arith, more, few))
  | inr within ↦
      let many = ap (λ (l : List ℕ). length l) a.second ∙ length-append a.before (s.point ∷ a.others) in (
        omega (arith, many, within),
        ap (take n) a.first ∙ take-append-le n a.before (s.point ∷ a.after) within ∙ sym (take-append-le n a.before (s.point ∷ a.others) within)
            ∙ ap (take n) (sym a.second),
      )
]

alike_back : (s : Site) (one other : List ℕ) → SplitAlike s one other → SplitAlike s other one
alike_back s one other a = record { before = a.before; after = a.others; others = a.after; first = a.second; second = a.first; hit = a.hit }

pub ask_alike : (s : Site) (one other : List ℕ) → SplitAlike s one other → AskAlike s one other
ask_alike s one other a =
    let hit = a.hit in (
      omega (arith, hit),
      (λ n le few. begin_alike s one other n a le few),
      (λ n le few. begin_alike s other one n (alike_back s one other a) le few),
    )

-- what was counted of the parent's run serves its child, and what was counted of the child's is counted of the parent's
pub serves_child : (b : Begun) (parent : ℕ) (r : Rig) (rs : List Rig) (own parents : List ℕ) → AllByRecursion (λ p. p < 64) parents → AskAlike r.site own parents
    → (b.parent ≡ Some parent → CountsFirst b parents) → Serves b parent (r ∷ rs) own
serves_child b parent r rs own parents all alike tells = λ of few.
    let counts = tells of in
    let less : times r.site.point (take b.hits parents) < r.site.hit =
    subst (λ (k : ℕ). k < r.site.hit) (counted b.counts.items (take b.hits parents) counts.1 (all_take b.hits parents all) r.site.point) few
    in
    let same = alike.2 b.hits counts.0 less in
    (same.0, subst (AreCounts b.counts.items) same.1 counts.1)

pub tells_parent : (b : Begun) (parent : ℕ) (r : Rig) (rs : List Rig) (own parents : List ℕ) → AskAlike r.site own parents → IsBegun b parent (r ∷ rs) own → CountsFirst b parents
tells_parent b parent r rs own parents alike begun =
    let same = alike.1 b.hits begun.1.0 begun.2 in
    (same.0, subst (AreCounts b.counts.items) same.1 begun.1.1)

-- ---- how a plan grows, by counts alone

none_again : (xs : List Site) → false ≡ list_any (λ (s : Site). is_point_of [] s.point) xs
none_again [] = refl
none_again (x ∷ xs) = none_again xs

pub no_last_children : (kinds : ℕ → List Kind) (number : ℕ) (plan : List Rig) (asked : List ℕ) → last_site plan ≡ None
    → length (flat_map kinds asked) ≡ length (kept_children kinds number plan asked)
no_last_children kinds number [] asked e = sym (children_many kinds number [] asked)
no_last_children kinds number (r ∷ rs) asked e = absurd cc

pub no_last_again : (plan : List Rig) (asked : List ℕ) → last_site plan ≡ None → false ≡ is_asked_again plan asked
no_last_again [] asked e = none_again (sites_from [] asked)
no_last_again (r ∷ rs) asked e = absurd cc

pub last_children : (kinds : ℕ → List Kind) (number : ℕ) (plan : List Rig) (asked : List ℕ) (n after : ℕ) (s : Site) → last_site plan ≡ Some s → EndsAt s asked n
    → after ≡ min (n + 1) (length asked) → length (flat_map kinds (drop after asked)) ≡ length (kept_children kinds number plan asked)
last_children kinds number [] asked n after s e ends is = absurd cc
last_children kinds number (r ∷ rs) asked n after s e ends is =
    sym (ends_children kinds number r.site asked n after (subst (λ (x : Site). EndsAt x asked n) (sym (is_site r rs s e)) ends) is)

pub last_again : (plan : List Rig) (asked : List ℕ) (n : ℕ) (s : Site) → last_site plan ≡ Some s → EndsAt s asked n
    → nat_lt s.hit (times s.point asked) ≡ is_asked_again plan asked
last_again [] asked n s e ends = absurd cc
last_again (r ∷ rs) asked n s e ends =
    ap (λ (x : Site). nat_lt x.hit (times x.point asked)) (sym (is_site r rs s e))
    ∙ ends_again r rs asked n (subst (λ (x : Site). EndsAt x asked n) (sym (is_site r rs s e)) ends)
