-- The places of chains among the terms of all entries.
use Rattle.std.proofs.Common.{◌≡◌, ℕ, zero, suc, ◌+◌, ◌-◌, ◌*◌, ◌<◌, ◌≤◌, Bool, true, false, cond, eqb, not, List, [], ◌∷◌, ◌++◌, length, map, take, drop, get_or, slice_set, slice_range, Option, Some, None, IfSome, option_map, refl, ap, sym, subst, ◌∙◌, arith, append_assoc, length-append}
use mir.Val.{bool_byte}
use Rattle.std.proofs.Math.ListN.{get_or-map}
use Rattle.std.specs.List.{AllByRecursion}
use Rattle.std.proofs.lemmas.List.{drop-drop, drop-take, drop_at, take-append-drop, take-take, take_at, take_more_set, length-drop, length-take-le, map_push, map_more, map-set}
use Rattle.std.proofs.lemmas.Bool.Decides.{nat_tests}
use Rattle.scenario_values.specs.declared.term.Term.{Term}
use Rattle.scenario_values.specs.Scenario.{Entries, chain_at, entry_of}
use Rattle.action_eval.specs.declared.found.Span.{Span}
use Rattle.action_eval.specs.declared.found.Head.{Head}
use Rattle.action_eval.specs.RiggedScenario.{entry}
use Rattle.action_eval.specs.inside.Session.{found_of, start_of, terms_of, seen_in, Rest, IsSpan, AreSpans, spanned, first_head, head_of}
use Rattle.action_eval.specs.inside.Laid.{laid, AreSizes}
use Rattle.action_eval.proofs.NamedCounts.{range_left, range_right}

-- ---- entries, one after another

pub start_zero : (s : Entries) → start_of s 0 ≡ 0
start_zero [] = refl
start_zero (x ∷ xs) = refl

pub start_next : (s : Entries) (e : ℕ) → e < length s → start_of s (e + 1) ≡ start_of s e + length (chain_at s e)
start_next [] e h = absurd (omega arith)
start_next (x ∷ xs) zero h = ap (λ n. length x.1 + n) (start_zero xs) ∙ (let one : length x.1 + 0 ≡ 0 + length x.1 = omega arith in one)
start_next (x ∷ xs) (suc e) h =
    let at : start_of (x ∷ xs) (suc e + 1) ≡ length x.1 + start_of xs (e + 1) = ap (start_of (x ∷ xs)) (let one : suc e + 1 ≡ suc (e + 1) = omega arith in one) in
    let next = start_next xs e (omega arith) in
    omega (arith, at, next)

-- chains have at most 256 terms
pub few_terms : (s : Entries) (e : ℕ) → AllByRecursion (λ e. length e.1 ≤ 256) s → start_of s e ≤ 256 * e
few_terms [] e h = omega arith
few_terms (x ∷ xs) zero h = omega arith
few_terms (x ∷ xs) (suc e) h = omega (arith, h.0, few_terms xs e h.1)

-- the terms of an entry
terms_at : (s : Entries) (e : ℕ) → e < length s → slice_range (terms_of s) (start_of s e) (start_of s e + length (chain_at s e)) ≡ chain_at s e
terms_at [] e h = absurd (omega arith)
terms_at (x ∷ xs) zero h = range_left x.1 (terms_of xs) (length x.1) refl
terms_at (x ∷ xs) (suc e) h = range_right x.1 (terms_of xs) (length x.1) (start_of xs e) (length (chain_at xs e)) refl ∙ terms_at xs e (omega arith)

-- no span ends behind the last term
ends_by : (s : Entries) (e : ℕ) → e < length s → start_of s e + length (chain_at s e) ≤ length (terms_of s)
ends_by [] e h = absurd (omega arith)
ends_by (x ∷ xs) zero h = omega (arith, length-append x.1 (terms_of xs))
ends_by (x ∷ xs) (suc e) h = omega (arith, length-append x.1 (terms_of xs), ends_by xs e (omega arith))

pub span_within : (s : Entries) (p : Span) → IsSpan s p → p.end ≤ length (terms_of s)
span_within s p is = omega (arith, is.ends, ends_by s p.entry is.within)

-- ---- parts of a list

-- A part of a part that ends at the same place.
part_of : (xs : List Term) (a k b : ℕ) → a + k ≤ b → drop k (slice_range xs a b) ≡ slice_range xs (a + k) b
part_of xs a k b h =
    let size : b - a ≡ k + (b - (a + k)) = omega arith in
    ap (λ (n : ℕ). drop k (take n (drop a xs))) size ∙ drop-take k (b - (a + k)) (drop a xs) ∙ ap (take (b - (a + k))) (drop-drop k a xs)

part_from : (xs : List Term) (a i b : ℕ) → a ≤ i → i ≤ b → drop (i - a) (slice_range xs a b) ≡ slice_range xs i b
part_from xs a i b h g =
    let at : a + (i - a) ≡ i = omega arith in
    part_of xs a (i - a) b (omega arith) ∙ ap (λ (n : ℕ). slice_range xs n b) at

-- a part of the first n
part_of_first : (xs : List Term) (n a b : ℕ) → a ≤ b → b ≤ n → slice_range (take n xs) a b ≡ slice_range xs a b
part_of_first xs n a b h g =
    let m = b - a in
    let size : n ≡ a + (n - a) = omega (arith, h, g) in
    ap (λ (k : ℕ). take m (drop a (take k xs))) size ∙ ap (take m) (drop-take a (n - a) xs) ∙ take-take m (n - a) (drop a xs) (omega (arith, h, g))

pub slice_length : {A : Type 0} (xs : List A) (a b : ℕ) → b ≤ length xs → length (slice_range xs a b) ≡ b - a
slice_length xs a b h = length-take-le (b - a) (drop a xs) (omega (arith, length-drop a xs, h))

-- ---- what stands at a span

-- it is the last part of its entry's chain
pub span_is : (s : Entries) (p : Span) → IsSpan s p → drop (length (chain_at s p.entry) - (p.end - p.start)) (chain_at s p.entry) ≡ slice_range (terms_of s) p.start p.end
span_is s p is =
    let a = start_of s p.entry in
    let c = chain_at s p.entry in
    let by : length c - (p.end - p.start) ≡ p.start - a = omega (arith, is.ends, is.begins, is.ordered) in
    ap (λ (n : ℕ). drop n c) by ∙ ap (drop (p.start - a)) (sym (terms_at s p.entry is.within)) ∙ ap (λ (b : ℕ). drop (p.start - a) (slice_range (terms_of s) a b)) (sym is.ends)
    ∙ part_from (terms_of s) a p.start p.end is.begins is.ordered

pub span_length : (s : Entries) (p : Span) → IsSpan s p → (chain : List Term) → chain ≡ slice_range (terms_of s) p.start p.end → p.end ≡ p.start + length chain
span_length s p is chain e = omega (arith, is.ordered, ap length e, slice_length (terms_of s) p.start p.end (span_within s p is))

-- what is left of it stands at a span that begins later
pub record Later (s : Entries) (p q : Span) (rest : List Term × ℕ) : Type 0 where
  pub seen : seen_in s (Some q) ≡ Some rest
  pub span : IsSpan s q

pub later : (s : Entries) (p q : Span) (left : List ℕ) (rest : List Term × ℕ) → IsSpan s p → Rest left (slice_range (terms_of s) p.start p.end, p.start) rest → q.entry ≡ p.entry → q.start ≡ rest.1 → q.end ≡ p.end → Later s p q rest
later s p q left rest is r entry start end =
    let before = r.before in
    let all = slice_range (terms_of s) p.start p.end in
    let size = slice_length (terms_of s) p.start p.end (span_within s p is) in
    let parts : length all ≡ length before + length rest.0 = ap length r.chain_is ∙ length-append before rest.0 in
    let chain : slice_range (terms_of s) q.start q.end ≡ rest.0 =
    ap (λ (n : ℕ). slice_range (terms_of s) n q.end) (start ∙ r.start_is) ∙ ap (slice_range (terms_of s) (p.start + length before)) end
    ∙ sym (part_of (terms_of s) p.start (length before) p.end (omega (arith, size, parts, is.ordered))) ∙ ap (drop (length before)) r.chain_is ∙ drop_at before rest.0 (length before) refl
    in
    let o : List Term → ℕ → Option (List Term × ℕ) = λ c k. Some (c, k) in
    record {
      seen = ap (λ (c : List Term). o c q.start) chain ∙ ap (o rest.0) start;
      span = record {
        within = subst (λ (e : ℕ). e < length s) (sym entry) is.within;
        begins = subst (λ (e : ℕ). start_of s e ≤ q.start) (sym entry) (omega (arith, is.begins, start, r.start_is));
        ordered = omega (arith, start, r.start_is, end, size, parts, is.ordered);
        ends = end ∙ is.ends ∙ ap (λ (e : ℕ). start_of s e + length (chain_at s e)) (sym entry);
      };
    }

-- that of a name
pub record There (s : Entries) (name : List ℕ) (p : Span) : Type 0 where
  pub seen : seen_in s (Some p) ≡ found_of s name
  pub span : IsSpan s p

pub there : (s : Entries) (name : List ℕ) (e start : ℕ) (chain : List Term) → entry_of s name ≡ Some e → e < length s → start ≡ start_of s e → chain ≡ chain_at s e → There s name (record { entry = e; start = start; end = start + length chain })
there s name e start chain at within from is =
    let o : Option ℕ → Option (List Term × ℕ) = λ x. option_map (λ e. (chain_at s e, start_of s e)) x in
    let pair : ℕ → ℕ → Option (List Term × ℕ) = λ a n. Some (slice_range (terms_of s) a (a + n), a) in
    let begins : Option (List Term × ℕ) = Some (slice_range (terms_of s) (start_of s e) (start_of s e + length (chain_at s e)), start_of s e) in
    let whole : begins ≡ Some (chain_at s e, start_of s e) = ap (λ (c : List Term). let x : Option (List Term × ℕ) = Some (c, start_of s e) in x) (terms_at s e within) in
    record {
      seen = ap (λ (a : ℕ). pair a (length chain)) from ∙ ap (λ (c : List Term). pair (start_of s e) (length c)) is ∙ whole ∙ sym (ap o at);
      span = record { within = within; begins = omega (arith, from); ordered = omega arith; ends = omega (arith, from, ap length is) };
    }

-- ---- the spans of points

pub spans_at : (s : Entries) (spans : List (Option Span)) (p : ℕ) (d o : Option Span) → p < length spans → AreSpans s spans → o ≡ get_or spans p d → IfSome o (λ q. IsSpan s q)
spans_at s [] p d o h are e = absurd (omega arith)
spans_at s (x ∷ xs) zero d o h are e = subst (λ (y : Option Span). IfSome y (λ q. IsSpan s q)) (sym e) are.0
spans_at s (x ∷ xs) (suc p) d o h are e = spans_at s xs p d o (omega arith) are.1 e

pub spans_set : (s : Entries) (spans : List (Option Span)) (p : ℕ) (o : Option Span) → AreSpans s spans → IfSome o (λ q. IsSpan s q) → AreSpans s (slice_set spans p o)
spans_set s [] p o are is = tt
spans_set s (x ∷ xs) zero o are is = (is, are.1)
spans_set s (x ∷ xs) (suc p) o are is = (are.0, spans_set s xs p o are.1 is)

pub spans_push : (s : Entries) (spans : List (Option Span)) (o : Option Span) → AreSpans s spans → IfSome o (λ q. IsSpan s q) → AreSpans s (spans ++ o ∷ [])
spans_push s [] o are is = (is, tt)
spans_push s (x ∷ xs) o are is = (are.0, spans_push s xs o are.1 is)

-- The chain of a point, and the chains after the span of one point is replaced.
pub seen_at : (s : Entries) (spans : List (Option Span)) (p : ℕ) (d o : Option Span) → o ≡ get_or spans p d → seen_in s o ≡ get_or (map (seen_in s) spans) p (seen_in s d)
seen_at s spans p d o e = ap (seen_in s) e ∙ sym (get_or-map (seen_in s) spans p d)

pub seen_set : (s : Entries) (spans : List (Option Span)) (p : ℕ) (q : Span) (rest : List Term × ℕ) → seen_in s (Some q) ≡ Some rest → map (seen_in s) (slice_set spans p (Some q)) ≡ slice_set (map (seen_in s) spans) p (Some rest)
seen_set s spans p q rest e = map-set (seen_in s) spans p (Some q) ∙ ap (λ (o : Option (List Term × ℕ)). slice_set (map (seen_in s) spans) p o) e

-- a loop that goes over points, one point more
pub more_of : {A B C : Type 0} (f : A → C) (g : B → C) (names : List B) (n : B) (found : List A) (i : ℕ) (x : A) → i < length names → i < length found
    → map f (take i found) ≡ map g (take i names) → f x ≡ g (get_or names i n) → map f (take (i + 1) (slice_set found i x)) ≡ map g (take (i + 1) names)
more_of {A} {B} {C} f g names n found i x less within so_far is =
    ap (map f) (take_more_set found i x within) ∙ map_push f (take i found) x ∙ ap (λ (l : List C). l ++ f x ∷ []) so_far ∙ ap (λ (y : C). map g (take i names) ++ y ∷ []) is
    ∙ sym (map_more g names i n less)

pub heads_more : {A C : Type 0} (head : C → Head) (f : A → C) (heads : List Head) (found : List A) (i : ℕ) (h : Head) (x : A) → i < length heads → i < length found
    → take i heads ≡ map head (map f (take i found)) → h ≡ head (f x) → take (i + 1) (slice_set heads i h) ≡ map head (map f (take (i + 1) (slice_set found i x)))
heads_more {A} {C} head f heads found i h x less within so_far is =
    take_more_set heads i h less ∙ ap (λ (l : List Head). l ++ h ∷ []) so_far ∙ ap (λ (y : Head). map head (map f (take i found)) ++ y ∷ []) is
    ∙ sym (map_push head (map f (take i found)) (f x)) ∙ ap (map head) (sym (map_push f (take i found) x)) ∙ ap (λ (l : List A). map head (map f l)) (sym (take_more_set found i x within))

pub spans_more : (s : Entries) (spans : List (Option Span)) (i : ℕ) (o : Option Span) → i < length spans → AreSpans s (take i spans) → IfSome o (λ q. IsSpan s q) → AreSpans s (take (i + 1) (slice_set spans i o))
spans_more s spans i o within are is = subst (AreSpans s) (sym (take_more_set spans i o within)) (spans_push s (take i spans) o are is)

-- ---- entries that are laid, one after another

-- after so many entries and terms these stand
pub record Stands (s : Entries) (e k : ℕ) (rest : Entries) : Type 0 where
  pub rest_is : drop e s ≡ rest
  pub start_is : start_of s e ≡ k

pub stands_first : (s : Entries) → Stands s 0 0 s
stands_first s = record { rest_is = refl; start_is = start_zero s }

record First (s : Entries) (e : ℕ) (x : List ℕ × List Term) (rest : Entries) : Type 0 where
  pub within : e < length s
  pub chain : chain_at s e ≡ x.1
  pub behind : drop (e + 1) s ≡ rest

first : (s : Entries) (e : ℕ) (x : List ℕ × List Term) (rest : Entries) → drop e s ≡ x ∷ rest → First s e x rest
first [] zero x rest h = absurd (cc)
first [] (suc e) x rest h = absurd (cc)
first (y ∷ ys) zero x rest h =
    let same : y ≡ x = cc in
    record { within = omega arith; chain = ap (λ (z : List ℕ × List Term). z.1) same; behind = (let tail : ys ≡ rest = cc in tail) }
first (y ∷ ys) (suc e) x rest h =
    let f = first ys e x rest h in
    let one : suc e + 1 ≡ suc (e + 1) = omega arith in
    record { within = omega (arith, f.within); chain = f.chain; behind = ap (λ (n : ℕ). drop n (y ∷ ys)) one ∙ f.behind }

-- how many entries a point's chain makes
abbrev pub entries_of : List Term → ℕ
entries_of [] = 0
entries_of (t ∷ ts) = 1

-- That is one if the chain has a term.
pub entries_is : (c : List Term) (b : Bool) (n : ℕ) → b ≡ eqb (length c) 0 → n ≡ bool_byte (not b) → n ≡ entries_of c
entries_is [] b n e h = h ∙ ap (λ (x : Bool). bool_byte (not x)) e
entries_is (t ∷ ts) b n e h = let some : eqb (length (t ∷ ts)) 0 ≡ false = grind (arith, nat_tests) in h ∙ ap (λ (x : Bool). bool_byte (not x)) (e ∙ some)

pub entries_few : (c : List Term) → entries_of c ≤ 1
entries_few [] = omega arith
entries_few (t ∷ ts) = omega arith

-- a chain and its start; of no term, none
abbrev pub placed : List Term → ℕ → Option (List Term × ℕ)
placed [] start = None
placed (t ∷ ts) start = Some (t ∷ ts, start)

-- the span of a point's chain
pub record Placed (s : Entries) (e k m : ℕ) (c : List Term) (rest : Entries) : Type 0 where
  pub seen : seen_in s (spanned e k m) ≡ placed c k
  pub span : IfSome (spanned e k m) (λ p. IsSpan s p)
  pub next : Stands s (e + entries_of c) m rest

nowhere : (e k m : ℕ) → m ≡ k → spanned e k m ≡ None
nowhere e k m same =
    let test : eqb k m ≡ true = grind (arith, nat_tests, same) in
    ap (λ (b : Bool). let o : Option Span = cond b None (Some (record { entry = e; start = k; end = m })) in o) test

somewhere : (e k m : ℕ) → k < m → spanned e k m ≡ Some (record { entry = e; start = k; end = m })
somewhere e k m less =
    let test : eqb k m ≡ false = grind (arith, nat_tests, less) in
    ap (λ (b : Bool). let o : Option Span = cond b None (Some (record { entry = e; start = k; end = m })) in o) test

pub placed_in : (s : Entries) (e k m : ℕ) (n : List ℕ) (c : List Term) (rest : Entries) → Stands s e k (entry n c ++ rest) → m ≡ k + length c → Placed s e k m c rest
placed_in s e k m n [] rest at is =
    let same : m ≡ k = omega (arith, is) in
    let none = nowhere e k m same in
    let still : e + 0 ≡ e = omega arith in
    record {
      seen = ap (seen_in s) none;
      span = subst (λ (o : Option Span). IfSome o (λ p. IsSpan s p)) (sym none) tt;
      next = record { rest_is = ap (λ (j : ℕ). drop j s) still ∙ at.rest_is; start_is = ap (start_of s) still ∙ at.start_is ∙ sym same };
    }
placed_in s e k m n (t ∷ ts) rest at is =
    let f = first s e (n, t ∷ ts) rest at.rest_is in
    let some = somewhere e k m (omega (arith, is)) in
    let size : length (chain_at s e) ≡ length (t ∷ ts) = ap length f.chain in
    let ends : start_of s e + length (chain_at s e) ≡ m = omega (arith, at.start_is, size, is) in
    let chain : slice_range (terms_of s) k m ≡ t ∷ ts =
    ap (λ (a : ℕ). slice_range (terms_of s) a m) (sym at.start_is) ∙ ap (slice_range (terms_of s) (start_of s e)) (sym ends) ∙ terms_at s e f.within ∙ f.chain
    in
    record {
      seen = ap (seen_in s) some ∙ ap (λ (l : List Term). let o : Option (List Term × ℕ) = Some (l, k) in o) chain;
      span =
          subst (λ (o : Option Span). IfSome o (λ p. IsSpan s p)) (sym some)
          (record { within = f.within; begins = omega (arith, at.start_is); ordered = omega (arith, is); ends = sym ends });
      next = record { rest_is = f.behind; start_is = start_next s e f.within ∙ ends };
    }

pub head_placed : (c : List Term) (k : ℕ) → first_head c k ≡ head_of (placed c k)
head_placed [] k = refl
head_placed (t ∷ ts) k = refl

-- the terms of laid entries are the first of those that are laid
entry_terms : (n : List ℕ) (c : List Term) (es : Entries) → terms_of (entry n c ++ es) ≡ c ++ terms_of es
entry_terms n [] es = refl
entry_terms n (t ∷ ts) es = refl

record Front (terms first : List Term) : Type 0 where
  pub rest : List Term
  pub is : terms ≡ first ++ rest

laid_front : (names : List (List ℕ)) (sizes : List ℕ) (terms : List Term) → AreSizes names sizes terms → Front terms (terms_of (laid names sizes terms))
laid_front [] sizes terms are = record { rest = terms; is = refl }
laid_front (n ∷ ns) [] terms are = absurd are
laid_front (n ∷ ns) (size ∷ sizes) terms are =
    let c = take size terms in
    let es = laid ns sizes (drop size terms) in
    let f = laid_front ns sizes (drop size terms) are.1 in
    record {
      rest = f.rest;
      is = sym (take-append-drop size terms) ∙ ap (λ (l : List Term). c ++ l) f.is ∙ sym (append_assoc c (terms_of es) f.rest) ∙ ap (λ (l : List Term). l ++ f.rest) (sym (entry_terms n c es));
    }

pub laid_part : (names : List (List ℕ)) (sizes : List ℕ) (terms : List Term) (a b : ℕ) → AreSizes names sizes terms → a ≤ b → b ≤ length (terms_of (laid names sizes terms)) → slice_range terms a b ≡ slice_range (terms_of (laid names sizes terms)) a b
laid_part names sizes terms a b are h g =
    let all = terms_of (laid names sizes terms) in
    let f = laid_front names sizes terms are in
    let same : take (length all) terms ≡ all = ap (take (length all)) f.is ∙ take_at all f.rest (length all) refl in
    sym (part_of_first terms (length all) a b h g) ∙ ap (λ (l : List Term). slice_range l a b) same

pub laid_within : (names : List (List ℕ)) (sizes : List ℕ) (terms : List Term) → AreSizes names sizes terms → length (terms_of (laid names sizes terms)) ≤ length terms
laid_within names sizes terms are =
    let f = laid_front names sizes terms are in
    omega (arith, ap length f.is, length-append (terms_of (laid names sizes terms)) f.rest)
