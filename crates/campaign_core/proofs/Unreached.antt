-- Which points no run asks, by what ranges leave that workers ran in whatever order.
use Rattle.std.proofs.Common.{◌≡◌, ℕ, zero, suc, ◌+◌, ◌-◌, ◌<◌, ◌≤◌, ◌==◌, ◌||◌, ◌&&◌, Bool, true, false, not, cond, nat_eq, List, [], ◌∷◌, ◌++◌, filter, length, drop, Vec, Global, count_by, refl, sym, ap, ◌∙◌, arith, zero-add, add-one, eq-eqb}
use Rattle.std.specs.List.{list_all, range_with_len, slice_range, sum_by}
use Rattle.std.proofs.lemmas.Bool.{ne_eqb}
use Rattle.std.proofs.lemmas.List.{drop_all}
use Rattle.std.proofs.lemmas.List.Elements.{filter-append}
use Rattle.std.proofs.lemmas.List.Folds.{drop_split, list_any-append}
use Rattle.std.proofs.lemmas.List.Sums.{sum_by-cons}
use Rattle.std.proofs.lemmas.Map.Views.{any-filter_same}
use Rattle.plan_gen.proofs.Lists.{range_more, zero_plus}
use Rattle.scenario_values.specs.Scenario.{Entries}
use Rattle.target_trait.specs.Outcomes.{Told}
use Rattle.target_trait.specs.declared.judgement.Verdict.{Verdict}
use Rattle.worker_pool.specs.Tickets.{count_below}
use Rattle.worker_pool.specs.Workers.{EachOnce}
use Rattle.grown_runs.specs.ranges.Ranges.{range_count, range_start}
use Rattle.result_book.specs.Ranges.{Stretch}
use Rattle.result_book.specs.Runs.{is_asked, is_reached, runs_from, unreached_of}
use Rattle.result_book.proofs.RangeLemmas.{length_range}
use Rattle.result_book.proofs.Reached.{runs_append}
use Rattle.campaign_core.specs.inside.Ranges.{AreRanges, is_left_in, part_of, range_from, range_of}
use Rattle.campaign_core.proofs.PlanRanges.{from_within}
use Rattle.grown_runs.proofs.RangeParts.{range_begin, range_end}

-- ---- truth and counts

pub some_none : (n : ℕ) → 0 < n → nat_eq n 0 ≡ false
some_none n lt = ne_eqb n 0 (λ e. omega (arith, lt, e))

none_of : (a b : ℕ) → nat_eq (a + b) 0 ≡ (nat_eq a 0 && nat_eq b 0)
none_of zero b = ap (λ n. nat_eq n 0) (zero-add b)
none_of (suc a) b = some_none (suc a + b) (omega arith) ∙ sym (ap (λ x. x && nat_eq b 0) (some_none (suc a) (omega arith)))

pub one_or_more : (b : Bool) (n : ℕ) → (not b && nat_eq n 0) ≡ nat_eq (cond {A = ℕ} b 1 0 + n) 0
one_or_more true n = sym (none_of 1 n)
one_or_more false n = sym (none_of 0 n)

some_by : (x b : Bool) → not (x && nat_eq (cond {A = ℕ} b 1 0) 0) ≡ (not x || b)
some_by true true = refl
some_by true false = refl
some_by false true = refl
some_by false false = refl

or_assoc : (a b c : Bool) → (a || (b || c)) ≡ ((a || b) || c)
or_assoc true b c = refl
or_assoc false b c = refl

not_some : (b : Bool) → b ≡ not (not b || false)
not_some true = refl
not_some false = refl

true_both : (b : Bool) → (b && true) ≡ b
true_both true = refl
true_both false = refl

-- ---- filters

or_right : (a b : Bool) → b ≡ true → (a || b) ≡ true
or_right true b e = refl
or_right false b e = e

-- two tests that agree on the elements keep the same
pub filter_in : (f g : ℕ → Bool) (points : List ℕ) → ((p : ℕ) → is_asked p points ≡ true → f p ≡ g p) → filter f points ≡ filter g points
filter_in f g [] same = refl
filter_in f g (p ∷ points) same =
    let here : f p ≡ g p = same p (ap (λ b. b || is_asked p points) (eq-eqb p p refl)) in
    let rest : filter f points ≡ filter g points = filter_in f g points (λ q among. same q (or_right (p == q) (is_asked q points) among)) in
    ap (λ b. cond b (p ∷ filter f points) (filter f points)) here ∙ ap (λ l. cond (g p) (p ∷ l) l) rest

-- what is among those that pass a test
among_passed : (f : ℕ → Bool) (p : ℕ) (points : List ℕ) → is_asked p points ≡ true → is_asked p (filter f points) ≡ f p
among_passed f p points among =
    any-filter_same (λ q. q == p) f (f p) (λ q is. ap f (search (is, Rattle.std.proofs.Common.rules))) points
    ∙ ap (λ b. f p && b) among ∙ true_both (f p)

-- what passes a test of the numbers up to one more
pub kept_more : (f : ℕ → Bool) (n : ℕ) → filter f (range_with_len 0 (n + 1)) ≡ filter f (range_with_len 0 n) ++ cond (f n) (n ∷ []) []
kept_more f n =
    ap (filter f) (ap (range_with_len 0) (add-one n) ∙ range_more 0 n ∙ ap (λ k. range_with_len 0 n ++ (k ∷ [])) (zero_plus n))
    ∙ filter-append f (range_with_len 0 n) (n ∷ [])

-- ---- ranges, one after another

begins : (plans first : ℕ) → first ≡ first + range_start (plans - first) 0
begins plans first = let none = range_begin (plans - first) in omega (arith, none)

ends : (plans first : ℕ) → first ≤ plans → first + range_start (plans - first) (range_count (plans - first)) ≡ plans
ends plans first fit = let all = range_end (plans - first) in omega (arith, all, fit)

reached_split : (run : ℕ → Entries → Told) (plans : List Entries) (p at end : ℕ) → at ≤ end → end ≤ length plans
    → is_reached (runs_from run at (drop at plans)) p
    ≡ (is_reached (runs_from run at (slice_range plans at end)) p || is_reached (runs_from run end (drop end plans)) p)
reached_split run plans p at end up fits =
    let part : List Entries = slice_range plans at end in
    ap (λ ps. is_reached (runs_from run at ps) p) (drop_split plans at end up)
    ∙ ap (λ rs. is_reached rs p) (runs_append run at part (drop end plans))
    ∙ list_any-append (λ (r : Told). is_asked p r.asked) (runs_from run at part) (runs_from run (at + length part) (drop end plans))
    ∙ ap (λ k. is_reached (runs_from run at part) p || is_reached (runs_from run k (drop end plans)) p) (length_range plans at end up fits)

-- whether a run of a range asks the point
abbrev in_range : (ℕ → Entries → Told) → List Entries → ℕ → ℕ → ℕ → Bool
in_range run plans first p n = is_reached (runs_from run (range_from plans first n) (part_of plans first n)) p

-- A run asks it exactly if one of the first ranges does, or one of what comes behind them.
ranges_reach : (run : ℕ → Entries → Told) (plans : List Entries) (first p k : ℕ) → first ≤ length plans
    → is_reached (runs_from run first (drop first plans)) p
    ≡ (not (nat_eq (count_below (in_range run plans first p) k) 0) || is_reached (runs_from run (range_from plans first k) (drop (range_from plans first k) plans)) p)
ranges_reach run plans first p zero fit = ap (λ n. is_reached (runs_from run n (drop n plans)) p) (begins (length plans) first)
ranges_reach run plans first p (suc k) fit =
    let behind : ℕ → Bool = λ n. is_reached (runs_from run n (drop n plans)) p in
    let below : ℕ = count_below (in_range run plans first p) k in
    let here : Bool = in_range run plans first p k in
    let within = from_within (length plans) first k fit in
    let next : k + 1 ≡ suc k = omega arith in
    ranges_reach run plans first p k fit
    ∙ ap (λ b. not (nat_eq below 0) || b) (reached_split run plans p (range_from plans first k) (range_from plans first (k + 1)) within.0 within.1)
    ∙ or_assoc (not (nat_eq below 0)) here (behind (range_from plans first (k + 1)))
    ∙ ap (λ b. b || behind (range_from plans first (k + 1))) (sym (ap not (none_of below (cond {A = ℕ} here 1 0)) ∙ some_by (nat_eq below 0) here))
    ∙ ap (λ n. not (nat_eq (below + cond {A = ℕ} here 1 0) 0) || behind (range_from plans first n)) next

-- In all ranges none asks it exactly if no run does.
unreached_by_ranges : (run : ℕ → Entries → Told) (plans : List Entries) (first p : ℕ) → first ≤ length plans
    → nat_eq (count_below (in_range run plans first p) (range_count (length plans - first))) 0 ≡ not (is_reached (runs_from run first (drop first plans)) p)
unreached_by_ranges run plans first p fit =
    let count : ℕ = range_count (length plans - first) in
    let none : Bool = nat_eq (count_below (in_range run plans first p) count) 0 in
    let last : range_from plans first count ≡ length plans = ends (length plans) first fit in
    not_some none
    ∙ ap (λ b. not (not none || b)) (sym (ap (λ n. is_reached (runs_from run n (drop n plans)) p) last
    ∙ ap (λ ps. is_reached (runs_from run (length plans) ps) p) (drop_all (length plans) plans (omega arith))))
    ∙ ap not (sym (ranges_reach run plans first p count fit))

-- ---- the same by lists of ranges

abbrev AreOf : (ℕ → Stretch) → List (ℕ × Stretch) → Type 0
AreOf range ps = Rattle.std.specs.List.AllByRecursion (λ (p : ℕ × Stretch). p.1 ≡ range p.0) ps

left_in_list : (range : ℕ → Stretch) (asks : ℕ → Bool) (p : ℕ) → ((n : ℕ) → is_asked p (range n).unreached ≡ not (asks n)) → (ps : List (ℕ × Stretch)) → AreOf range ps
    → list_all (λ q. is_asked p q.1.unreached) ps ≡ nat_eq (count_by (λ q. asks q.0) ps) 0
left_in_list range asks p each [] own = refl
left_in_list range asks p each (q ∷ ps) own =
    ap (λ b. b && list_all (λ (r : ℕ × Stretch). is_asked p r.1.unreached) ps) (ap (λ (r : Stretch). is_asked p r.unreached) own.0 ∙ each q.0)
    ∙ ap (λ b. not (asks q.0) && b) (left_in_list range asks p each ps own.1)
    ∙ one_or_more (asks q.0) (count_by (λ (r : ℕ × Stretch). asks r.0) ps)
    ∙ ap (λ n. nat_eq n 0) (sym (sum_by-cons (λ (r : ℕ × Stretch). cond {A = ℕ} (asks r.0) 1 0) q ps))

left_in_lists : (range : ℕ → Stretch) (asks : ℕ → Bool) (p : ℕ) → ((n : ℕ) → is_asked p (range n).unreached ≡ not (asks n)) → (ls : List (Vec (ℕ × Stretch) Global)) → AreRanges range ls
    → is_left_in ls p ≡ nat_eq (sum_by (λ (l : Vec (ℕ × Stretch) Global). count_by (λ q. asks q.0) l.items) ls) 0
left_in_lists range asks p each [] own = refl
left_in_lists range asks p each (l ∷ ls) own =
    ap (λ b. b && is_left_in ls p) (left_in_list range asks p each l.items own.0)
    ∙ ap (λ b. nat_eq (count_by (λ (q : ℕ × Stretch). asks q.0) l.items) 0 && b) (left_in_lists range asks p each ls own.1)
    ∙ sym (none_of (count_by (λ (q : ℕ × Stretch). asks q.0) l.items) (sum_by (λ (k : Vec (ℕ × Stretch) Global). count_by (λ q. asks q.0) k.items) ls))
    ∙ ap (λ n. nat_eq n 0) (sym (sum_by-cons (λ (k : Vec (ℕ × Stretch) Global). count_by (λ (q : ℕ × Stretch). asks q.0) k.items) l ls))

-- what stays of the watched points in each range is what no run asks
pub left_is : (say : ℕ → Entries → Verdict) (run : ℕ → Entries → Told) (plans : List Entries) (watched : List ℕ) (first : ℕ) (ls : List (Vec (ℕ × Stretch) Global))
    → first ≤ length plans → AreRanges (range_of say run plans watched first) ls → EachOnce ls (range_count (length plans - first))
    → filter (is_left_in ls) watched ≡ unreached_of watched (runs_from run first (drop first plans))
left_is say run plans watched first ls fit own once =
    filter_in (is_left_in ls) (λ p. not (is_reached (runs_from run first (drop first plans)) p)) watched
    (λ p among.
    let asks : ℕ → Bool = in_range run plans first p in
    left_in_lists (range_of say run plans watched first) asks p (λ n. among_passed (λ q. not (in_range run plans first q n)) p watched among) ls own
    ∙ ap (λ n. nat_eq n 0) (once asks)
    ∙ unreached_by_ranges run plans first p fit)
