-- Hits that surely come to nothing, many at once.
use Rattle.std.proofs.Common.{◌≡◌, ℕ, zero, suc, ◌+◌, ◌-◌, ◌*◌, ◌<◌, ◌≤◌, cond, Bool, true, false, eqb, List, [], ◌∷◌, ◌++◌, length, map, replicate, slice_index, take, drop, get_or, All, Option, Some, None, inl, inr, refl, ap, sym, ◌∙◌, arith, subst, append_assoc, length-append, get_or-set_same, get_or-set_other, ext_get_or, nat_lt}
use Rattle.std.proofs.lemmas.List.{append-nil, length-set, get_or_past}
use Rattle.std.proofs.lemmas.Bool.Decides.{nat_tests}
use Rattle.std.proofs.lemmas.Bool.{cases_lt}
use Rattle.scenario_values.specs.declared.term.Term.{Term}
use Rattle.scenario_values.specs.declared.term.Task.TheVariants as task
use Rattle.action_eval.specs.declared.answer.Stop.{Stop}
use Rattle.action_eval.specs.declared.answer.Stop.TheVariants as stop
use Rattle.action_eval.specs.declared.answer.Note.{Note}
use Rattle.action_eval.specs.declared.found.Head.{Head}
use Rattle.action_eval.specs.declared.found.Head.TheVariants as head
use Rattle.action_eval.specs.Answers.{Run, Reply, Go, AllGo, GoesOn, hit, hits_of, replies, rounds, reply_to, stopped, stopped_by, history_of}
use Rattle.action_eval.specs.inside.Session.{Keeps, head_of, with_one_less}
use Rattle.action_eval.specs.inside.Quiet.{CountsWithin, head_at, taken_by, taken_at, IsCounted, AreCounted, Spent, SpentBy}
use Rattle.action_eval.proofs.Steps.{Finds, keeps_off, reply_found}
use Rattle.action_eval.proofs.Heads.{known_head, nothing_by, off_by}
use Rattle.action_eval.proofs.CallerLemmas.{replies_more, goes_on}

-- ---- counts

-- the counts after a hit that comes to nothing
abbrev pub after_head : List ℕ → Head → List ℕ
after_head left head.Nothing = left
after_head left (head.Off i) = with_one_less left i
after_head left head.Terms = left

abbrev pub after_all : List Head → List ℕ → List ℕ → List ℕ
after_all heads left [] = left
after_all heads left (p ∷ ps) = after_all heads (after_head left (head_at heads p)) ps

-- the next hit of a point with this head comes to nothing
abbrev pub IsQuiet : List ℕ → Head → Type 0
IsQuiet left head.Nothing = Unit {0}
IsQuiet left (head.Off i) = 0 < slice_index left i
IsQuiet left head.Terms = ⊥

abbrev pub AreQuiet : List Head → List ℕ → List ℕ → Type 0
AreQuiet heads left [] = Unit {0}
AreQuiet heads left (p ∷ ps) = IsQuiet left (head_at heads p) × AreQuiet heads (after_head left (head_at heads p)) ps

-- ---- what many hits that come to nothing leave

pub record Passed (r : Run) (found : List (Option (List Term × ℕ))) (left : List ℕ) (taken : ℕ) (notes : List Note) (millis : ℕ) (ps : List ℕ) : Type 0 where
  pub keeps : Keeps (hits_of r ps) found left taken notes millis None
  pub go : AllGo r ps
  pub running : stopped (hits_of r ps) ≡ None

finds_quiet : (r : Run) (found : List (Option (List Term × ℕ))) (left : List ℕ) (taken : ℕ) (notes : List Note) (millis : ℕ) → Keeps r found left taken notes millis None
    → (heads : List Head) → heads ≡ map head_of found → (p : ℕ) → p < length r.given.catalogue → (o : Head) → o ≡ head_at heads p → IsQuiet left o → Finds r p (after_head left o) task.Off taken
finds_quiet r found left taken notes millis k heads e p h head.Nothing at q = nothing_by r r found left taken notes millis None k heads e refl p h head.Nothing head.Nothing at refl
finds_quiet r found left taken notes millis k heads e p h (head.Off i) at q = (off_by r r found left taken notes millis None k heads e refl p h head.Nothing (head.Off i) at i refl).finds q
finds_quiet r found left taken notes millis k heads e p h head.Terms at q = absurd q

pub passed_all : (heads : List Head) (found : List (Option (List Term × ℕ))) (taken : ℕ) (notes : List Note) (millis : ℕ) → heads ≡ map head_of found → (ps : List ℕ) (r : Run) (left : List ℕ)
    → Keeps r found left taken notes millis None → All (λ p. p < length r.given.catalogue) ps → stopped r ≡ None → length r.hits + length ps ≤ r.given.limit → AreQuiet heads left ps
    → Passed r found (after_all heads left ps) taken notes millis ps
passed_all heads found taken notes millis e [] r left k known running room q =
    let same : hits_of r [] ≡ r = ap (λ (l : List ℕ). let x : Run = record { given = r.given; hits = l } in x) (append-nil r.hits) in
    record {
      keeps = subst (λ (x : Run). Keeps x found left taken notes millis None) (sym same) k;
      go = tt;
      running = ap stopped same ∙ running;
    }
passed_all heads found taken notes millis e (p ∷ ps) r left k known running room q =
    let o = head_at heads p in
    let f = finds_quiet r found left taken notes millis k heads e p (known 0 0 (omega arith)) o refl q.0 in
    let kept = keeps_off r p found left taken notes millis None k (omega arith) (after_head left o) f (r.hits ++ p ∷ []) refl (after_head left o) refl found k.found_is in
    let says : reply_to r p ≡ Go = sym (reply_found r p (after_head left o) task.Off taken f (omega arith)) in
    let goes : stopped (hit r p) ≡ None = subst (λ (a : Reply). GoesOn a (hit r p)) says (goes_on r p running) in
    let longer : length (hit r p).hits ≡ length r.hits + 1 = length-append r.hits (p ∷ []) in
    let rest = passed_all heads found taken notes millis e ps (hit r p) (after_head left o) kept (λ i d less. known (suc i) d (omega arith)) goes (omega (arith, longer)) q.1 in
    let same : hits_of (hit r p) ps ≡ hits_of r (p ∷ ps) = ap (λ (l : List ℕ). let x : Run = record { given = r.given; hits = l } in x) (append_assoc r.hits (p ∷ []) ps) in
    record {
      keeps = subst (λ (x : Run). Keeps x found (after_all heads (after_head left o) ps) taken notes millis None) same rest.keeps;
      go = (replies_more r p running ∙ ap (λ (a : Reply). replies r ++ a ∷ []) says, rest.go);
      running = ap stopped (sym same) ∙ rest.running;
    }

-- ---- the counts that many hits leave

-- counts that agree at each place
counts_same : (xs ys : List ℕ) → length ys ≡ length xs → ((j : ℕ) → slice_index xs j ≡ slice_index ys j) → xs ≡ ys
counts_same xs ys size each = ext_get_or 0 xs ys (sym size) (λ i less. each i)

off_step : (i : ℕ) (before : List ℕ) (m : ℕ → ℕ) → i < length before → (j : ℕ) → slice_index before j ≡ cond (eqb i j) 1 0 + m j → slice_index (with_one_less before i) j ≡ m j
off_step i before m h j e = other (eqb i j) refl
  where
    other : (b : Bool) → eqb i j ≡ b → slice_index (with_one_less before i) j ≡ m j
    other true s =
        let same : i ≡ j = grind (arith, nat_tests, s) in
        let here : slice_index (with_one_less before i) i ≡ slice_index before i - 1 = get_or-set_same before i (slice_index before i - 1) 0 h in
        let value : slice_index before j ≡ 1 + m j = e ∙ ap (λ (b : Bool). cond b 1 0 + m j) s in
        ap (slice_index (with_one_less before i)) (sym same) ∙ here ∙ ap (λ (n : ℕ). slice_index before n - 1) same ∙ (let less : slice_index before j - 1 ≡ m j = omega (arith, value) in less)
    other false s =
        let apart : i ≡ j → ⊥ = λ same. absurd (grind (arith, nat_tests, s, same)) in
        let value : slice_index before j ≡ 0 + m j = e ∙ ap (λ (b : Bool). cond b 1 0 + m j) s in
        get_or-set_other before i j (slice_index before i - 1) 0 (λ same. apart (sym same)) ∙ (let less : slice_index before j ≡ m j = omega (arith, value) in less)

-- what many hits that come to nothing need and leave
pub record Leaves (heads : List Head) (before after : List ℕ) (ps : List ℕ) : Type 0 where
  pub quiet : AreQuiet heads before ps
  pub left : after_all heads before ps ≡ after

leaves_head : (heads : List Head) (before after : List ℕ) (ps : List ℕ) (o : Head) → IsCounted o → length after ≡ length before → ((j : ℕ) → slice_index before j ≡ taken_by j o + (slice_index after j + taken_at heads j ps))
    → ((b : List ℕ) → length after ≡ length b → ((j : ℕ) → slice_index b j ≡ slice_index after j + taken_at heads j ps) → Leaves heads b after ps)
    → IsQuiet before o × Leaves heads (after_head before o) after ps
leaves_head heads before after ps head.Nothing c size each rest = (tt, rest before size (λ j. omega (arith, each j)))
leaves_head heads before after ps (head.Off i) c size each rest =
    let some : 0 < slice_index before i = (let one : eqb i i ≡ true = grind (arith, nat_tests) in omega (arith, each i ∙ ap (λ (b : Bool). cond b 1 0 + (slice_index after i + taken_at heads i ps)) one)) in
    let within : i < length before = elim (cases_lt i (length before)) [ inl h ↦ h | inr h ↦ absurd (omega (arith, some, get_or_past before i 0 h)) ] in
    (some, rest (with_one_less before i) (size ∙ sym (length-set before i (slice_index before i - 1))) (λ j. off_step i before (λ k. slice_index after k + taken_at heads k ps) within j (each j)))
leaves_head heads before after ps head.Terms c size each rest = absurd c

pub leaves : (heads : List Head) (ps : List ℕ) (before after : List ℕ) → AreCounted heads ps → length after ≡ length before → ((j : ℕ) → slice_index before j ≡ slice_index after j + taken_at heads j ps) → Leaves heads before after ps
leaves heads [] before after c size each = record { quiet = tt; left = counts_same before after size (λ j. omega (arith, each j)) }
leaves heads (p ∷ ps) before after c size each =
    let h = leaves_head heads before after ps (head_at heads p) c.0 size (λ j. omega (arith, each j)) (λ b s e. leaves heads ps b after c.1 s e) in
    record { quiet = (h.0, h.1.quiet); left = h.1.left }

-- ---- rounds

taken_both : (heads : List Head) (j : ℕ) (xs ys : List ℕ) → taken_at heads j (xs ++ ys) ≡ taken_at heads j xs + taken_at heads j ys
taken_both heads j [] ys = omega arith
taken_both heads j (x ∷ xs) ys = omega (arith, taken_both heads j xs ys)

counted_both : (heads : List Head) (xs ys : List ℕ) → AreCounted heads xs → AreCounted heads ys → AreCounted heads (xs ++ ys)
counted_both heads [] ys a b = b
counted_both heads (x ∷ xs) ys a b = (a.0, counted_both heads xs ys a.1 b)

taken_rounds : (heads : List Head) (j n : ℕ) (ps : List ℕ) → taken_at heads j (rounds n ps) ≡ n * taken_at heads j ps
taken_rounds heads j zero ps = omega arith
taken_rounds heads j (suc n) ps =
    let t = taken_at heads j ps in
    let more : suc n * t ≡ t + n * t = grind arith in
    taken_both heads j ps (rounds n ps) ∙ ap (λ (m : ℕ). t + m) (taken_rounds heads j n ps) ∙ sym more

counted_rounds : (heads : List Head) (n : ℕ) (ps : List ℕ) → AreCounted heads ps → AreCounted heads (rounds n ps)
counted_rounds heads zero ps c = tt
counted_rounds heads (suc n) ps c = counted_both heads ps (rounds n ps) c (counted_rounds heads n ps c)

leaves_rounds : (heads : List Head) (n : ℕ) (ps : List ℕ) (before after : List ℕ) → Spent heads ps n before after → Leaves heads before after (rounds n ps)
leaves_rounds heads zero ps before after s = record { quiet = tt; left = counts_same before after s.size (λ j. omega (arith, s.each j)) }
leaves_rounds heads (suc n) ps before after s =
    leaves heads (rounds (suc n) ps) before after (counted_rounds heads (suc n) ps (s.counted (omega arith))) s.size
    (λ j. s.each j ∙ ap (λ (m : ℕ). slice_index after j + m) (sym (taken_rounds heads j (suc n) ps)))

length_rounds : (n : ℕ) (ps : List ℕ) → length (rounds n ps) ≡ n * length ps
length_rounds zero ps = omega arith
length_rounds (suc n) ps =
    let more : suc n * length ps ≡ length ps + n * length ps = grind arith in
    length-append ps (rounds n ps) ∙ ap (λ (m : ℕ). length ps + m) (length_rounds n ps) ∙ sym more

all_first : (m x : ℕ) (xs : List ℕ) → x < m → All (λ p. p < m) xs → All (λ p. p < m) (x ∷ xs)
all_first m x xs h a = at
  where
    at : (i d : ℕ) → i < length (x ∷ xs) → get_or (x ∷ xs) i d < m
    at zero d less = h
    at (suc i) d less = a i d (omega arith)

none_of : (m : ℕ) → All (λ p. p < m) []
none_of m = λ i d less. absurd (omega arith)

all_both : (m : ℕ) (xs ys : List ℕ) → All (λ p. p < m) xs → All (λ p. p < m) ys → All (λ p. p < m) (xs ++ ys)
all_both m [] ys a b = b
all_both m (x ∷ xs) ys a b = all_first m x (xs ++ ys) (a 0 0 (omega arith)) (all_both m xs ys (λ j e l. a (suc j) e (omega arith)) b)

all_rounds : (m n : ℕ) (ps : List ℕ) → All (λ p. p < m) ps → All (λ p. p < m) (rounds n ps)
all_rounds m zero ps a = none_of m
all_rounds m (suc n) ps a = all_both m ps (rounds n ps) a (all_rounds m n ps a)

-- rounds, point after point
take_more : (i : ℕ) (xs : List ℕ) (x : ℕ) → i < length xs → x ≡ get_or xs i x → take (i + 1) xs ≡ take i xs ++ x ∷ []
take_more i [] x h e = absurd (omega arith)
take_more zero (y ∷ ys) x h e = ap (λ (z : ℕ). z ∷ []) (sym e)
take_more (suc i) (y ∷ ys) x h e = let one : suc i + 1 ≡ suc (i + 1) = omega arith in ap (λ (n : ℕ). take n (y ∷ ys)) one ∙ ap (λ (l : List ℕ). y ∷ l) (take_more i ys x (omega arith) e)

pub spent_more : (heads : List Head) (points : List ℕ) (n i x : ℕ) (before mid after : List ℕ) → i < length points → x ≡ get_or points i x → Spent heads (take i points) n before mid
    → IsCounted (head_at heads x) × SpentBy (head_at heads x) n mid after → Spent heads (take (i + 1) points) n before after
spent_more heads points n i x before mid after less is s b =
    subst (λ (l : List ℕ). Spent heads l n before after) (sym (take_more i points x less is)) record {
      size = b.1.size ∙ s.size;
      counted = λ some. counted_both heads (take i points) (x ∷ []) (s.counted some) (b.0, tt);
      each = λ j.
          let t = taken_at heads j (take i points) in
          let u = taken_by j (head_at heads x) in
          let both : n * taken_at heads j (take i points ++ x ∷ []) ≡ n * t + n * u = ap (λ (m : ℕ). n * m) (taken_both heads j (take i points) (x ∷ [])) ∙ (let e : n * (t + (u + 0)) ≡ n * t + n * u = grind arith in e) in
          omega (arith, s.each j, b.1.each j, both);
    }

pub spent_less : (heads : List Head) (points : List ℕ) (n i x : ℕ) (whole mid after : List ℕ) → i < length points → x ≡ get_or points i x → Spent heads (drop i points) n whole mid → ((j : ℕ) → slice_index whole j < 4294967296)
    → length after ≡ length mid → ((j : ℕ) → slice_index mid j + n * taken_by j (head_at heads x) < 4294967296 → slice_index after j ≡ slice_index mid j + n * taken_by j (head_at heads x)) → Spent heads (drop (i + 1) points) n whole after
spent_less heads points n i x whole mid after less is s fits size each =
    let split : drop i points ≡ x ∷ drop (i + 1) points = drop_next i points x less is in
    let t = subst (λ (l : List ℕ). Spent heads l n whole mid) split s in
    record {
      size = size ∙ t.size;
      counted = λ some. (t.counted some).1;
      each = λ j.
          let u = taken_by j (head_at heads x) in
          let v = taken_at heads j (drop (i + 1) points) in
          let both : n * (u + v) ≡ n * u + n * v = grind arith in
          let here : slice_index mid j + n * u < 4294967296 = omega (arith, t.each j, both, fits j) in
          omega (arith, t.each j, both, each j here);
    }
  where
    drop_next : (i : ℕ) (xs : List ℕ) (x : ℕ) → i < length xs → x ≡ get_or xs i x → drop i xs ≡ x ∷ drop (i + 1) xs
    drop_next i [] x h e = absurd (omega arith)
    drop_next zero (y ∷ ys) x h e = ap (λ (z : ℕ). z ∷ ys) (sym e)
    drop_next (suc i) (y ∷ ys) x h e = drop_next i ys x (omega arith) e ∙ (let one : suc (i + 1) ≡ suc i + 1 = omega arith in ap (λ (n : ℕ). x ∷ drop n (y ∷ ys)) one)

pub all_given : (heads : List Head) (points : List ℕ) (n i : ℕ) (whole left : List ℕ) → length points ≤ i → Spent heads (drop i points) n whole left → left ≡ whole
all_given heads points n i whole left le s =
    let t = subst (λ (l : List ℕ). Spent heads l n whole left) (drop_past i points le) s in
    sym (counts_same whole left t.size (λ j. omega (arith, t.each j)))
  where
    drop_past : (i : ℕ) (xs : List ℕ) → length xs ≤ i → drop i xs ≡ []
    drop_past zero [] h = refl
    drop_past (suc i) [] h = refl
    drop_past zero (x ∷ xs) h = absurd (omega arith)
    drop_past (suc i) (x ∷ xs) h = drop_past i xs (omega arith)

pub rounds_more : (n : ℕ) (ps : List ℕ) → rounds (n + 1) ps ≡ rounds n ps ++ ps
rounds_more zero ps = append-nil ps
rounds_more (suc n) ps = let one : suc n + 1 ≡ suc (n + 1) = omega arith in ap (λ (m : ℕ). rounds m ps) one ∙ ap (λ (l : List ℕ). ps ++ l) (rounds_more n ps) ∙ sym (append_assoc ps (rounds n ps) ps)

-- a run that goes on is within its limit
pub within_limit : (r : Run) → stopped r ≡ None → length r.hits ≤ r.given.limit
within_limit r running = elim (cases_lt r.given.limit (length r.hits)) [ inl h ↦ absurd (over (nat_lt r.given.limit (length r.hits)) (grind (arith, nat_tests, h)) (stopped_by (history_of r)) running) | inr h ↦ h ]
  where
    over : (b : Bool) → b ≡ true → (s : Option Stop) → cond b (Some stop.Limit) s ≡ None → ⊥
    over true e s n = cc
    over false e s n = cc

-- The fields of a session after these rounds of hits, and what the session returns to callers about them.
pub record After (r now : Run) (found : List (Option (List Term × ℕ))) (left : List ℕ) (taken : ℕ) (notes : List Note) (millis : ℕ) (halt : Option Stop) (hits ps : List ℕ) : Type 0 where
  pub keeps : Keeps (record { given = r.given; hits = hits }) found left taken notes millis halt
  pub ok : (let x : Run = record { given = r.given; hits = hits } in x) ≡ hits_of now ps
  pub go : AllGo now ps
  pub running : stopped (record { given = r.given; hits = hits }) ≡ None

after_passed : (r : Run) (found : List (Option (List Term × ℕ))) (left : List ℕ) (taken : ℕ) (notes : List Note) (millis : ℕ) (ps : List ℕ) → Passed r found left taken notes millis ps
    → (now : Run) → r ≡ now → (halt : Option Stop) → halt ≡ None → (after : List ℕ) → left ≡ after → (hits : List ℕ) → hits ≡ r.hits ++ ps → After r now found after taken notes millis halt hits ps
after_passed r found left taken notes millis ps p now same halt none after is hits more =
    let run : Run = record { given = r.given; hits = hits } in
    let is_run : run ≡ hits_of r ps = ap (λ (l : List ℕ). let x : Run = record { given = r.given; hits = l } in x) more in
    record {
      keeps = subst (λ (s : Option Stop). Keeps run found after taken notes millis s) (sym none)
          (subst (λ (l : List ℕ). Keeps run found l taken notes millis None) is (subst (λ (x : Run). Keeps x found left taken notes millis None) (sym is_run) p.keeps));
      ok = is_run ∙ ap (λ (x : Run). hits_of x ps) same;
      go = subst (λ (x : Run). AllGo x ps) same p.go;
      running = ap stopped is_run ∙ p.running;
    }

pub rounds_after : (r now : Run) (found : List (Option (List Term × ℕ))) (left : List ℕ) (taken : ℕ) (notes : List Note) (millis : ℕ) (halt : Option Stop) → Keeps r found left taken notes millis halt
    → r ≡ now → stopped now ≡ None → (heads : List Head) → heads ≡ map head_of found → (n : ℕ) (ps : List ℕ) → All (λ p. p < length now.given.catalogue) ps → (read : List Head) → read ≡ heads → (after : List ℕ) → Spent read ps n left after
    → n * length ps ≤ r.given.limit - length r.hits → (hits : List ℕ) → hits ≡ r.hits ++ rounds n ps → After r now found after taken notes millis halt hits (rounds n ps)
rounds_after r now found left taken notes millis halt k same running heads e n ps known read is after s room hits more =
    let still : stopped r ≡ None = ap stopped same ∙ running in
    let none : halt ≡ None = k.stop_is ∙ still in
    let l = leaves_rounds heads n ps left after (subst (λ (h : List Head). Spent h ps n left after) is s) in
    let here = subst (λ (x : Run). All (λ p. p < length x.given.catalogue) ps) (sym same) known in
    let passed = passed_all heads found taken notes millis e (rounds n ps) r left (subst (λ (s : Option Stop). Keeps r found left taken notes millis s) none k)
    (all_rounds (length r.given.catalogue) n ps here) still (omega (arith, length_rounds n ps, room, within_limit r still)) l.quiet in
    after_passed r found _ taken notes millis (rounds n ps) passed now same halt none after l.left hits more

one_point : (n p : ℕ) → rounds n (p ∷ []) ≡ replicate n p
one_point zero p = refl
one_point (suc n) p = ap (λ (l : List ℕ). p ∷ l) (one_point n p)

pub many_after : (r now : Run) (found : List (Option (List Term × ℕ))) (left : List ℕ) (taken : ℕ) (notes : List Note) (millis : ℕ) (halt : Option Stop) → Keeps r found left taken notes millis halt
    → r ≡ now → stopped now ≡ None → (heads : List Head) → heads ≡ map head_of found → (n p : ℕ) → p < length now.given.catalogue → (read : List Head) → read ≡ heads → (after : List ℕ) → Spent read (p ∷ []) n left after
    → n ≤ r.given.limit - length r.hits → (hits : List ℕ) → hits ≡ r.hits ++ replicate n p → After r now found after taken notes millis halt hits (replicate n p)
many_after r now found left taken notes millis halt k same running heads e n p known read is after s room hits more =
    let one : n * length (p ∷ []) ≡ n = omega arith in
    let all = all_first (length now.given.catalogue) p [] known (none_of (length now.given.catalogue)) in
    subst (λ (ps : List ℕ). After r now found after taken notes millis halt hits ps) (one_point n p)
    (rounds_after r now found left taken notes millis halt k same running heads e n (p ∷ []) all read is after s (omega (arith, one, room)) hits (more ∙ ap (λ (l : List ℕ). r.hits ++ l) (sym (one_point n p))))

-- the count at the head of a point's chain is one of the counts
within_head : (r now : Run) (found : List (Option (List Term × ℕ))) (left : List ℕ) (taken : ℕ) (notes : List Note) (millis : ℕ) (halt : Option Stop) → Keeps r found left taken notes millis halt
    → (heads : List Head) → heads ≡ map head_of found → r ≡ now → (p : ℕ) → p < length now.given.catalogue → (o : Head) → o ≡ head_at heads p → CountsWithin (length left) o
within_head r now found left taken notes millis halt k heads e same p h head.Nothing at = tt
within_head r now found left taken notes millis halt k heads e same p h (head.Off i) at = (off_by r now found left taken notes millis halt k heads e same p h head.Nothing (head.Off i) at i refl).within
within_head r now found left taken notes millis halt k heads e same p h head.Terms at = tt

pub within_by : (r now : Run) (found : List (Option (List Term × ℕ))) (left : List ℕ) (taken : ℕ) (notes : List Note) (millis : ℕ) (halt : Option Stop) → Keeps r found left taken notes millis halt
    → (heads : List Head) → heads ≡ map head_of found → r ≡ now → (p : ℕ) → p < length now.given.catalogue → (read : List Head) → read ≡ heads → CountsWithin (length left) (head_at read p)
within_by r now found left taken notes millis halt k heads e same p h read is =
    subst (λ (l : List Head). CountsWithin (length left) (head_at l p)) (sym is) (within_head r now found left taken notes millis halt k heads e same p h (head_at heads p) refl)

-- the same of all points of a list
pub known_all : (r now : Run) (found : List (Option (List Term × ℕ))) (left : List ℕ) (taken : ℕ) (notes : List Note) (millis : ℕ) (halt : Option Stop) → Keeps r found left taken notes millis halt
    → (heads : List Head) → heads ≡ map head_of found → r ≡ now → (ps : List ℕ) → All (λ p. p < length now.given.catalogue) ps → (read : List Head) → read ≡ heads → All (λ p. p < length read) ps
known_all r now found left taken notes millis halt k heads e same ps known read is = λ i d less.
    omega (arith, known_head r now found left taken notes millis halt k same (get_or ps i d) (known i d less) heads e, ap length is)

pub within_all : (r now : Run) (found : List (Option (List Term × ℕ))) (left : List ℕ) (taken : ℕ) (notes : List Note) (millis : ℕ) (halt : Option Stop) → Keeps r found left taken notes millis halt
    → (heads : List Head) → heads ≡ map head_of found → r ≡ now → (ps : List ℕ) → All (λ p. p < length now.given.catalogue) ps → (read : List Head) → read ≡ heads → (counts : List ℕ) → counts ≡ left
    → All (λ p. CountsWithin (length counts) (head_at read p)) ps
within_all r now found left taken notes millis halt k heads e same ps known read is counts are = λ i d less.
    subst (λ (l : List ℕ). CountsWithin (length l) (head_at read (get_or ps i d))) (sym are)
    (within_by r now found left taken notes millis halt k heads e same (get_or ps i d) (known i d less) read is)
