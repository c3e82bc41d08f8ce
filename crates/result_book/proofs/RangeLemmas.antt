-- What a range of verdicts is, and what a book comes to into which ranges were put.
use Rattle.std.proofs.Common.{◌≡◌, ℕ, zero, suc, ◌+◌, ◌-◌, ◌<◌, ◌≤◌, Bool, true, false, cond, nat_eq, Option, None, Some, List, [], ◌∷◌, ◌++◌, length, map, get_or, replicate, take, drop, Vec, Global, count_by, refl, sym, ap, ◌∙◌, subst, arith, add-zero, ◌⊎◌, inl, inr}
use Rattle.std.specs.List.{sum_by, slice_range, AllByRecursion}
use Rattle.std.proofs.lemmas.List.{take_more, length-take, length-drop, get_or-take, get_or-drop}
use Rattle.std.proofs.lemmas.List.Sums.{sum_by-cons}
use Rattle.std.proofs.lemmas.Bool.{false≢true}
use Rattle.target_trait.specs.declared.judgement.Verdict.{Verdict}
use Rattle.target_trait.specs.declared.judgement.Verdict.TheVariants as verdict
use Rattle.scenario_values.specs.Scenario.{Entries}
use Rattle.result_book.specs.Verdicts.{verdicts_from}
use Rattle.result_book.specs.Slots.{Pair, has, enter}
use Rattle.result_book.specs.Ranges.{Stretch, AreSaid, IsLast, enter_range, enter_ranges, enter_lists}
use Rattle.result_book.proofs.SlotLemmas.{Agrees, length_enter, has_enter, has_entered, agrees_enter, agrees_empty, full_is, length_verdicts, verdict_at}

pub moved : (n k : ℕ) → n + 1 + k ≡ n + suc k
moved n k = omega arith

-- plans of a range, and their verdicts
pub length_range : {X : Type 0} (xs : List X) (first end : ℕ) → first ≤ end → end ≤ length xs → first + length (slice_range xs first end) ≡ end
length_range xs first end up fits = omega (arith, length-take (end - first) (drop first xs), length-drop first xs)

range_at : {X : Type 0} (xs : List X) (first end k : ℕ) (d : X) → first ≤ end → first + k < end → get_or (slice_range xs first end) k d ≡ get_or xs (first + k) d
range_at xs first end k d up lt = get_or-take (end - first) (drop first xs) k d (omega arith) ∙ get_or-drop first xs k d

pub none_in : {X : Type 0} (xs : List X) (n : ℕ) → slice_range xs n n ≡ []
none_in xs n = ap (λ k. take k (drop n xs)) (let none : n - n ≡ 0 = omega arith in none)

pub range_more : {X : Type 0} (xs : List X) (first end : ℕ) (d : X) → first ≤ end → end < length xs → slice_range xs first (end + 1) ≡ slice_range xs first end ++ get_or xs end d ∷ []
range_more xs first end d up lt =
    let n : ℕ = end - first in
    let to : end + 1 - first ≡ n + 1 = omega arith in
    let at : first + n ≡ end = omega arith in
    ap (λ k. take k (drop first xs)) to ∙ take_more (drop first xs) n d (omega (arith, length-drop first xs))
    ∙ ap (λ x. take n (drop first xs) ++ x ∷ []) (get_or-drop first xs n d ∙ ap (λ k. get_or xs k d) at)

verdicts_last : (say : ℕ → Entries → Verdict) (n : ℕ) (plans : List Entries) (plan : Entries) → verdicts_from say n (plans ++ plan ∷ []) ≡ verdicts_from say n plans ++ say (n + length plans) plan ∷ []
verdicts_last say n [] plan = ap (λ k. say k plan ∷ []) (sym (add-zero n))
verdicts_last say n (p ∷ plans) plan = ap (λ vs. say n p ∷ vs) (verdicts_last say (n + 1) plans plan ∙ ap (λ k. verdicts_from say (n + 1) plans ++ say k plan ∷ []) (moved n (length plans)))

-- a range to which the next plan's verdict is added
pub plan_range_more : (say : ℕ → Entries → Verdict) (plans : List Entries) (first end : ℕ) → first ≤ end → end < length plans
    → verdicts_from say first (slice_range plans first (end + 1)) ≡ verdicts_from say first (slice_range plans first end) ++ say end (get_or plans end []) ∷ []
plan_range_more say plans first end up lt =
    ap (verdicts_from say first) (range_more plans first end [] up lt) ∙ verdicts_last say first (slice_range plans first end) (get_or plans end [])
    ∙ ap (λ k. verdicts_from say first (slice_range plans first end) ++ say k (get_or plans end []) ∷ []) (length_range plans first end up (omega arith))

pub range_length : (say : ℕ → Entries → Verdict) (plans : List Entries) (first end : ℕ) → first ≤ end → end ≤ length plans → first + length (verdicts_from say first (slice_range plans first end)) ≡ end
range_length say plans first end up fits = omega (arith, length_verdicts say first (slice_range plans first end), length_range plans first end up fits)

pub range_said : (say : ℕ → Entries → Verdict) (plans : List Entries) (first end : ℕ) → first ≤ end → end ≤ length plans → AreSaid say plans first (verdicts_from say first (slice_range plans first end))
range_said say plans first end up fits k d lt =
    let run : List Entries = slice_range plans first end in
    let ends : first + length run ≡ end = length_range plans first end up fits in
    let in_run : k < length run = omega (arith, length_verdicts say first run) in
    sym (verdict_at say first run k d in_run) ∙ ap (say (first + k)) (range_at plans first end k [] up (omega arith))

-- the last one is put first
pub enter_range_last : (slots : List (Option Verdict)) (n : ℕ) (vs : List Verdict) (v : Verdict) → enter_range slots n (vs ++ v ∷ []) ≡ enter_range (enter slots (n + length vs) v) n vs
enter_range_last slots n [] v = ap (λ k. enter slots k v) (sym (add-zero n))
enter_range_last slots n (w ∷ vs) v = ap (λ s. enter s n w) (enter_range_last slots (n + 1) vs v ∙ ap (λ k. enter_range (enter slots k v) (n + 1) vs) (moved n (length vs)))

pub enter_popped : (slots : List (Option Verdict)) (before after : Stretch) (last : Pair) → IsLast before after last
    → enter_range slots before.first before.verdicts ≡ enter_range (enter slots last.number last.verdict) after.first after.verdicts
enter_popped slots before after last is =
    ap (λ (r : Stretch). enter_range slots r.first r.verdicts) is.0 ∙ enter_range_last slots after.first after.verdicts last.verdict
    ∙ ap (λ k. enter_range (enter slots k last.verdict) after.first after.verdicts) (sym is.1)

pub enter_ranges_last : (slots : List (Option Verdict)) (ps : List (ℕ × Stretch)) (p : ℕ × Stretch) → enter_ranges slots (ps ++ p ∷ []) ≡ enter_ranges (enter_range slots p.1.first p.1.verdicts) ps
enter_ranges_last slots [] p = refl
enter_ranges_last slots (q ∷ ps) p = ap (λ s. enter_range s q.1.first q.1.verdicts) (enter_ranges_last slots ps p)

pub enter_lists_last : (slots : List (Option Verdict)) (ls : List (Vec (ℕ × Stretch) Global)) (l : Vec (ℕ × Stretch) Global) → enter_lists slots (ls ++ l ∷ []) ≡ enter_lists (enter_ranges slots l.items) ls
enter_lists_last slots [] l = refl
enter_lists_last slots (m ∷ ls) l = ap (λ s. enter_ranges s m.items) (enter_lists_last slots ls l)

-- the length stays
length_plan_range : (slots : List (Option Verdict)) (n : ℕ) (vs : List Verdict) → length (enter_range slots n vs) ≡ length slots
length_plan_range slots n [] = refl
length_plan_range slots n (v ∷ vs) = length_enter (enter_range slots (n + 1) vs) n v ∙ length_plan_range slots (n + 1) vs

length_plan_ranges : (slots : List (Option Verdict)) (ps : List (ℕ × Stretch)) → length (enter_ranges slots ps) ≡ length slots
length_plan_ranges slots [] = refl
length_plan_ranges slots (p ∷ ps) = length_plan_range (enter_ranges slots ps) p.1.first p.1.verdicts ∙ length_plan_ranges slots ps

length_lists : (slots : List (Option Verdict)) (ls : List (Vec (ℕ × Stretch) Global)) → length (enter_lists slots ls) ≡ length slots
length_lists slots [] = refl
length_lists slots (l ∷ ls) = length_plan_ranges (enter_lists slots ls) l.items ∙ length_lists slots ls

-- Each range is the range of its ticket.
abbrev pub AreOf : (ℕ → Stretch) → List (ℕ × Stretch) → Type 0
AreOf range ps = AllByRecursion (λ (p : ℕ × Stretch). p.1 ≡ range p.0) ps

abbrev pub AllAreOf : (ℕ → Stretch) → List (Vec (ℕ × Stretch) Global) → Type 0
AllAreOf range ls = AllByRecursion (λ (l : Vec (ℕ × Stretch) Global). AreOf range l.items) ls

-- what is there stays, and what is put is there
has_kept_range : (slots : List (Option Verdict)) (n : ℕ) (vs : List Verdict) (m : ℕ) → has slots m ≡ true → has (enter_range slots n vs) m ≡ true
has_kept_range slots n [] m there = there
has_kept_range slots n (v ∷ vs) m there = has_enter (enter_range slots (n + 1) vs) n m v (has_kept_range slots (n + 1) vs m there)

has_kept_ranges : (slots : List (Option Verdict)) (ps : List (ℕ × Stretch)) (m : ℕ) → has slots m ≡ true → has (enter_ranges slots ps) m ≡ true
has_kept_ranges slots [] m there = there
has_kept_ranges slots (p ∷ ps) m there = has_kept_range (enter_ranges slots ps) p.1.first p.1.verdicts m (has_kept_ranges slots ps m there)

has_kept_lists : (slots : List (Option Verdict)) (ls : List (Vec (ℕ × Stretch) Global)) (m : ℕ) → has slots m ≡ true → has (enter_lists slots ls) m ≡ true
has_kept_lists slots [] m there = there
has_kept_lists slots (l ∷ ls) m there = has_kept_ranges (enter_lists slots ls) l.items m (has_kept_lists slots ls m there)

has_put_range : (slots : List (Option Verdict)) (n : ℕ) (vs : List Verdict) (k : ℕ) → n + k < length slots → k < length vs → has (enter_range slots n vs) (n + k) ≡ true
has_put_range slots n [] k lt within = absurd (omega arith)
has_put_range slots n (v ∷ vs) zero lt within = subst (λ m. has (enter (enter_range slots (n + 1) vs) n v) m ≡ true) (sym (add-zero n)) (has_entered (enter_range slots (n + 1) vs) n v (omega (arith, length_plan_range slots (n + 1) vs)))
has_put_range slots n (v ∷ vs) (suc k) lt within =
    has_enter (enter_range slots (n + 1) vs) n (n + suc k) v (subst (λ m. has (enter_range slots (n + 1) vs) m ≡ true) (moved n k) (has_put_range slots (n + 1) vs k (omega arith) (omega arith)))

-- a number between a range's first one and its end
abbrev Reaches : Stretch → ℕ → Type 0
Reaches r m = (r.first ≤ m) × (m < r.first + length r.verdicts)

has_put_at : (slots : List (Option Verdict)) (r : Stretch) (m : ℕ) → m < length slots → Reaches r m → has (enter_range slots r.first r.verdicts) m ≡ true
has_put_at slots r m lt reaches =
    let k : ℕ = m - r.first in
    let from : r.first ≤ m = reaches.0 in
    let to : m < r.first + length r.verdicts = reaches.1 in
    let at : r.first + k ≡ m = omega arith in
    subst (λ j. has (enter_range slots r.first r.verdicts) j ≡ true) at (has_put_range slots r.first r.verdicts k (omega arith) (omega arith))

no_here : (b : Bool) (n : ℕ) → b ≡ false → 0 < cond b 1 0 + n → 0 < n
no_here true n is some = absurd (false≢true (sym is))
no_here false n is some = omega arith

has_put_ranges : (range : ℕ → Stretch) (slots : List (Option Verdict)) (ps : List (ℕ × Stretch)) (t m : ℕ) → m < length slots → AreOf range ps → Reaches (range t) m → 0 < count_by (λ p. nat_eq p.0 t) ps
    → has (enter_ranges slots ps) m ≡ true
has_put_ranges range slots [] t m lt own reaches some = absurd (omega arith)
has_put_ranges range slots (p ∷ ps) t m lt own reaches some =
    here range slots ps p t m lt own.0 reaches (λ more. has_put_ranges range slots ps t m lt own.1 reaches more) (nat_eq p.0 t) refl
    (subst (λ n. 0 < n) (sum_by-cons (λ (q : ℕ × Stretch). cond (nat_eq q.0 t) 1 0) p ps) some)
  where
    here : (range : ℕ → Stretch) (slots : List (Option Verdict)) (ps : List (ℕ × Stretch)) (p : ℕ × Stretch) (t m : ℕ) → m < length slots → p.1 ≡ range p.0 → Reaches (range t) m
        → (0 < count_by (λ (q : ℕ × Stretch). nat_eq q.0 t) ps → has (enter_ranges slots ps) m ≡ true) → (b : Bool) → nat_eq p.0 t ≡ b → 0 < cond (nat_eq p.0 t) 1 0 + count_by (λ (q : ℕ × Stretch). nat_eq q.0 t) ps
        → has (enter_range (enter_ranges slots ps) p.1.first p.1.verdicts) m ≡ true
    here range slots ps p t m lt own reaches more true is some =
        let same : p.0 ≡ t = search (is, Rattle.std.proofs.Common.rules) in
        has_put_at (enter_ranges slots ps) p.1 m (omega (arith, length_plan_ranges slots ps)) (subst (λ r. Reaches r m) (sym (own ∙ ap range same)) reaches)
    here range slots ps p t m lt own reaches more false is some =
        has_kept_range (enter_ranges slots ps) p.1.first p.1.verdicts m (more (no_here (nat_eq p.0 t) (count_by (λ (q : ℕ × Stretch). nat_eq q.0 t) ps) is some))

has_put_lists : (range : ℕ → Stretch) (slots : List (Option Verdict)) (ls : List (Vec (ℕ × Stretch) Global)) (t m : ℕ) → m < length slots → AllAreOf range ls → Reaches (range t) m
    → 0 < sum_by (λ (l : Vec (ℕ × Stretch) Global). count_by (λ p. nat_eq p.0 t) l.items) ls → has (enter_lists slots ls) m ≡ true
has_put_lists range slots [] t m lt own reaches some = absurd (omega arith)
has_put_lists range slots (l ∷ ls) t m lt own reaches some =
    either range (enter_lists slots ls) l t m (omega (arith, length_lists slots ls)) own.0 reaches (sum_by (λ (k : Vec (ℕ × Stretch) Global). count_by (λ p. nat_eq p.0 t) k.items) ls)
    (λ more. has_put_lists range slots ls t m lt own.1 reaches more)
    (count_by (λ p. nat_eq p.0 t) l.items) refl (subst (λ n. 0 < n) (sum_by-cons (λ (k : Vec (ℕ × Stretch) Global). count_by (λ p. nat_eq p.0 t) k.items) l ls) some)
  where
    either : (range : ℕ → Stretch) (slots : List (Option Verdict)) (l : Vec (ℕ × Stretch) Global) (t m : ℕ) → m < length slots → AreOf range l.items → Reaches (range t) m → (rest : ℕ) → (0 < rest → has slots m ≡ true)
        → (here : ℕ) → here ≡ count_by (λ (p : ℕ × Stretch). nat_eq p.0 t) l.items → 0 < here + rest → has (enter_ranges slots l.items) m ≡ true
    either range slots l t m lt own reaches rest more zero is some = has_kept_ranges slots l.items m (more (omega arith))
    either range slots l t m lt own reaches rest more (suc k) is some = has_put_ranges range slots l.items t m lt own reaches (omega (arith, is))

-- what is put agrees
agrees_range : (slots : List (Option Verdict)) (all : List Verdict) (d : Verdict) (n : ℕ) (vs : List Verdict) → Agrees slots all → ((k : ℕ) → k < length vs → n + k < length all → get_or vs k d ≡ get_or all (n + k) d)
    → Agrees (enter_range slots n vs) all
agrees_range slots all d n [] agrees is = agrees
agrees_range slots all d n (v ∷ vs) agrees is =
    agrees_enter (enter_range slots (n + 1) vs) all n v d
    (agrees_range slots all d (n + 1) vs agrees (λ k lt within. is (suc k) (omega arith) (omega arith) ∙ ap (λ j. get_or all j d) (sym (moved n k))))
    (λ lt. is zero (omega arith) (omega arith) ∙ ap (λ j. get_or all j d) (add-zero n))

-- a range whose verdicts are those of its places
abbrev AreThere : List Verdict → Verdict → Stretch → Type 0
AreThere all d r = (k : ℕ) → k < length r.verdicts → r.first + k < length all → get_or r.verdicts k d ≡ get_or all (r.first + k) d

agrees_ranges : (range : ℕ → Stretch) (all : List Verdict) (d : Verdict) → ((t : ℕ) → AreThere all d (range t)) → (slots : List (Option Verdict)) (ps : List (ℕ × Stretch)) → Agrees slots all → AreOf range ps
    → Agrees (enter_ranges slots ps) all
agrees_ranges range all d there slots [] agrees own = agrees
agrees_ranges range all d there slots (p ∷ ps) agrees own =
    agrees_range (enter_ranges slots ps) all d p.1.first p.1.verdicts (agrees_ranges range all d there slots ps agrees own.1) (subst (AreThere all d) (sym own.0) (there p.0))

agrees_lists : (range : ℕ → Stretch) (all : List Verdict) (d : Verdict) → ((t : ℕ) → AreThere all d (range t)) → (slots : List (Option Verdict)) (ls : List (Vec (ℕ × Stretch) Global)) → Agrees slots all → AllAreOf range ls
    → Agrees (enter_lists slots ls) all
agrees_lists range all d there slots [] agrees own = agrees
agrees_lists range all d there slots (l ∷ ls) agrees own = agrees_ranges range all d there (enter_lists slots ls) l.items (agrees_lists range all d there slots ls agrees own.1) own.0

said_there : (say : ℕ → Entries → Verdict) (plans : List Entries) (d : Verdict) (r : Stretch) → AreSaid say plans r.first r.verdicts → AreThere (verdicts_from say 0 plans) d r
said_there say plans d r said k lt within =
    let at : 0 + (r.first + k) ≡ r.first + k = omega arith in
    said k d lt ∙ ap (λ n. say n (get_or plans (r.first + k) [])) (sym at) ∙ verdict_at say 0 plans (r.first + k) d (omega (arith, length_verdicts say 0 plans))

length_empty : (n : ℕ) → length (replicate {A = Option Verdict} n None) ≡ n
length_empty zero = refl
length_empty (suc n) = ap suc (length_empty n)

empty_agrees : (say : ℕ → Entries → Verdict) (plans : List Entries) → Agrees (replicate (length plans) None) (verdicts_from say 0 plans)
empty_agrees say plans = let all : List Verdict = verdicts_from say 0 plans in subst (λ n. Agrees (replicate n None) all) (length_verdicts say 0 plans) (agrees_empty all)

-- ranges that have their plans' verdicts are put into a book that agrees with them: where each number is there in the end, it is full of the verdicts
full_after : (say : ℕ → Entries → Verdict) (plans : List Entries) (range : ℕ → Stretch) (ls : List (Vec (ℕ × Stretch) Global)) (slots : List (Option Verdict))
    → length slots ≡ length plans
    → Agrees slots (verdicts_from say 0 plans)
    → AllAreOf range ls
    → ((t : ℕ) → AreSaid say plans (range t).first (range t).verdicts)
    → ((m : ℕ) → m < length plans → has (enter_lists slots ls) m ≡ true)
    → enter_lists slots ls ≡ map Some (verdicts_from say 0 plans)
full_after say plans range ls slots fits agrees own said each =
    full_is (enter_lists slots ls) (verdicts_from say 0 plans)
    (agrees_lists range (verdicts_from say 0 plans) verdict.Pass (λ t. said_there say plans verdict.Pass (range t) (said t)) slots ls agrees own)
    (λ m lt. each m (omega (arith, fits, length_lists slots ls)))

-- the same where the verdicts of the first plans are known, and were put first: each other number is in a range that was put
pub book_after_known : (say : ℕ → Entries → Verdict) (plans : List Entries) (known : List Verdict) (range : ℕ → Stretch) (ls : List (Vec (ℕ × Stretch) Global))
    → AreSaid say plans 0 known
    → length known ≤ length plans
    → AllAreOf range ls
    → ((t : ℕ) → AreSaid say plans (range t).first (range t).verdicts)
    → ((m : ℕ) → length known ≤ m → m < length plans
    → (t : ℕ) × (((range t).first ≤ m) × (m < (range t).first + length (range t).verdicts) × (0 < sum_by (λ (l : Vec (ℕ × Stretch) Global). count_by (λ p. nat_eq p.0 t) l.items) ls)))
    → enter_lists (enter_range (replicate (length plans) None) 0 known) ls ≡ map Some (verdicts_from say 0 plans)
book_after_known say plans known range ls known_said few own said each =
    let empty : List (Option Verdict) = replicate (length plans) None in
    let start : List (Option Verdict) = enter_range empty 0 known in
    let fits : length start ≡ length plans = length_plan_range empty 0 known ∙ length_empty (length plans) in
    let first : Stretch = record { first = 0; verdicts = known; unreached = [] } in
    let there : AreThere (verdicts_from say 0 plans) verdict.Pass first = said_there say plans verdict.Pass first known_said in
    full_after say plans range ls start fits (agrees_range empty (verdicts_from say 0 plans) verdict.Pass 0 known (empty_agrees say plans) there) own said
    (λ m lt. elim (known_or_after (length known) m) [
      | inl before ↦ has_kept_lists start ls m (has_put_at empty first m (omega (arith, lt, length_empty (length plans))) (omega arith, before))
      | inr after ↦ let put = each m after lt in has_put_lists range start ls put.0 m (omega (arith, lt, fits)) own (put.1.0, put.1.1) put.1.2
    ])
  where
    known_or_after : (n m : ℕ) → (m < 0 + n) ⊎ (n ≤ m)
    known_or_after zero m = inr (omega arith)
    known_or_after (suc n) zero = inl (omega arith)
    known_or_after (suc n) (suc m) = elim (known_or_after n m) [ inl before ↦ inl (omega (arith, before)) | inr after ↦ inr (omega (arith, after)) ]
