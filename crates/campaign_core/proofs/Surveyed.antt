-- The points that no run of a campaign asks: those that the runs made to plan don't ask, and then the others.
use Rattle.std.proofs.Common.{◌≡◌, ℕ, zero, suc, ◌+◌, ◌<◌, ◌≤◌, ◌==◌, All, ◌||◌, ◌&&◌, Bool, true, false, not, cond, nat_eq, nat_lt, Option, None, Some, List, [], ◌∷◌, ◌++◌, map, filter, length, get_or, drop, count_by, refl, sym, ap, ◌∙◌, subst, arith, zero-add}
use Rattle.std.specs.List.{range_with_len}
use Rattle.std.proofs.Math.Seq.{drop-append_seam}
use Rattle.std.proofs.lemmas.Bool.{le-ltb, lt-ltb}
use Rattle.std.proofs.lemmas.List.{drop_all, drop_more, length-map}
use Rattle.std.proofs.lemmas.List.Elements.{All-filter, filter_agree}
use Rattle.std.proofs.lemmas.List.FromFn.{get_or-map-range_with_len, get_or-range_with_len, length-map-range_with_len, length-range_with_len}
use Rattle.std.proofs.lemmas.List.Sums.{sum_by-cons}
use Rattle.scenario_values.specs.Scenario.{Entries}
use Rattle.action_eval.specs.declared.rig.Rig.{Rig}
use Rattle.action_eval.specs.Answers.{given_of}
use Rattle.target_trait.specs.Outcomes.{Told, outcome}
use Rattle.plan_gen.specs.LoopRuns.{times}
use Rattle.plan_gen.specs.PlanList.{Asked, plan_list, further_list}
use Rattle.grown_plans.specs.GrownPlans.{Subject, grown, most, reached, scenario_of}
use Rattle.grown_plans.specs.Promises.{IsLawful}
use Rattle.grown_runs.specs.GrownRuns.{over, hits_at, told}
use Rattle.grown_runs.specs.declared.levels.Grown.{Grown}
use Rattle.grown_runs.proofs.LevelRuns.{reached_is}
use Rattle.result_book.specs.Runs.{is_asked, is_reached, runs_from, unreached_of, unreached_in}
use Rattle.result_book.proofs.Reached.{runs_append, unreached_append}
use Rattle.campaign_core.specs.CommandTexts.{tried}
use Rattle.campaign_core.specs.Headline.{Campaign, census, grower, plans, plans_to}
use Rattle.campaign_core.specs.Planned.{IsGrownTo, IsPlanned}
use Rattle.campaign_core.specs.Ran.{unreached}
use Rattle.campaign_core.specs.declared.planned.Planned.{Planned}
use Rattle.campaign_core.specs.inside.Ranges.{counts_by, counts_in, known_by, known_in, uncounted}
use Rattle.campaign_core.proofs.Grown.{list_is, verdicts_few}
use Rattle.campaign_core.proofs.Unreached.{filter_in, one_or_more, some_none}

-- ---- no hit

-- a point that isn't asked is asked no time
times_none : (p : ℕ) (asked : List ℕ) → nat_eq (times p asked) 0 ≡ not (is_asked p asked)
times_none p [] = refl
times_none p (q ∷ asked) =
    ap (λ n. nat_eq n 0) (sum_by-cons (λ r. cond {A = ℕ} (r == p) 1 0) q asked)
    ∙ sym (one_or_more (q == p) (times p asked))
    ∙ ap (λ b. not (q == p) && b) (times_none p asked)
    ∙ both_not (q == p) (is_asked p asked)
  where
    both_not : (a b : Bool) → (not a && not b) ≡ not (a || b)
    both_not true b = refl
    both_not false b = refl

either_more : (b : Bool) (n m : ℕ) → nat_eq (cond b (suc n) (suc m)) 0 ≡ false
either_more true n m = some_none (suc n) (omega arith)
either_more false n m = some_none (suc m) (omega arith)

most_none : (n m : ℕ) → nat_eq (cond (nat_lt m n) n m) 0 ≡ (nat_eq n 0 && nat_eq m 0)
most_none zero m = ap (λ (b : Bool). nat_eq (cond b 0 m) 0) (le-ltb m 0 (omega arith))
most_none (suc n) zero =
    ap (λ (b : Bool). nat_eq (cond b (suc n) 0) 0) (lt-ltb 0 (suc n) (omega arith)) ∙ some_none (suc n) (omega arith)
    ∙ sym (ap (λ b. b && nat_eq 0 0) (some_none (suc n) (omega arith)))
most_none (suc n) (suc m) = either_more (nat_lt (suc m) (suc n)) n m ∙ sym (ap (λ b. b && nat_eq (suc m) 0) (some_none (suc n) (omega arith)))

-- The most hits of a point are none exactly if no run of these plans asks it.
hits_none : (t : Subject) (seed p : ℕ) (plans : List (List Rig)) (first count : ℕ) → first + count ≡ length plans
    → nat_eq (most (over (hits_at t seed p) plans first count)) 0
    ≡ not (is_reached (runs_from (λ n s. outcome t.asks (given_of s t.names seed n t.limit)) first (map (scenario_of t) (drop first plans))) p)
hits_none t seed p plans first zero all =
    let run : ℕ → Entries → Told = λ n s. outcome t.asks (given_of s t.names seed n t.limit) in
    ap (λ (ps : List (List Rig)). not (is_reached (runs_from run first (map (scenario_of t) ps)) p)) (sym (drop_all first plans (omega (arith, all))))
hits_none t seed p plans first (suc count) all =
    let run : ℕ → Entries → Told = λ n s. outcome t.asks (given_of s t.names seed n t.limit) in
    let plan : List Rig = get_or plans first [] in
    let rest : Bool = is_reached (runs_from run (first + 1) (map (scenario_of t) (drop (first + 1) plans))) p in
    most_none (times p (told t seed first plan).asked) (most (over (hits_at t seed p) plans (first + 1) count))
    ∙ ap (λ b. b && nat_eq (most (over (hits_at t seed p) plans (first + 1) count)) 0) (times_none p (told t seed first plan).asked)
    ∙ ap (λ b. not (is_asked p (told t seed first plan).asked) && b) (hits_none t seed p plans (first + 1) count (omega (arith, all)))
    ∙ both_not (is_asked p (told t seed first plan).asked) rest
    ∙ ap (λ (ps : List (List Rig)). not (is_reached (runs_from run first (map (scenario_of t) ps)) p)) (sym (drop_more plans first [] (omega (arith, all))))
  where
    both_not : (a b : Bool) → (not a && not b) ≡ not (a || b)
    both_not true b = refl
    both_not false b = refl

-- ---- points by their counts

among_range : (a n p : ℕ) → is_asked p (range_with_len a n) ≡ true → p < a + n
among_range a zero p among = absurd cc
among_range a (suc n) p among = at (a == p) refl (among_range (a + 1) n p) among
  where
    at : (b : Bool) → (a == p) ≡ b → (is_asked p (range_with_len (a + 1) n) ≡ true → p < a + 1 + n) → (b || is_asked p (range_with_len (a + 1) n)) ≡ true → p < a + suc n
    at true is rest e = let same : a ≡ p = search (is, Rattle.std.proofs.Common.rules) in omega (arith, same)
    at false is rest e = let later = rest e in omega (arith, later)

-- If each count is none exactly when no run asks its point, the points without a count are those that no run asks.
uncounted_is : (counts : List ℕ) (n : ℕ) (runs : List Told) → length counts ≡ n → ((p : ℕ) → p < n → nat_eq (get_or counts p 0) 0 ≡ not (is_reached runs p))
    → uncounted counts ≡ unreached_in n runs
uncounted_is counts n runs many each =
    ap (λ k. filter (λ p. get_or counts p 0 == 0) (range_with_len 0 k)) many
    ∙ filter_in (λ p. get_or counts p 0 == 0) (λ p. not (is_reached runs p)) (range_with_len 0 n)
    (λ p among. each p (let low = among_range 0 n p among in omega (arith, low)))

at_range : (f : ℕ → ℕ) (n p : ℕ) → p < n → get_or (map f (range_with_len 0 n)) p 0 ≡ f p
at_range f n p lt = get_or-map-range_with_len f 0 n p p 0 lt (zero-add p)

-- ---- without a depth: the plan of no fault is the run of the census

or_twice : (a b : Bool) → (a || (a || b)) ≡ (a || b)
or_twice true b = refl
or_twice false b = refl

or_none : (a : Bool) → not a ≡ not (a || false)
or_none true = refl
or_none false = refl

plan_first : (run : ℕ → Entries → Told) (names : List (List ℕ)) (counts : List ℕ) (asked : Asked)
    → runs_from run 0 (plan_list names counts asked) ≡ run 0 [] ∷ runs_from run 1 (drop 1 (plan_list names counts asked))
unfolding plan_list
plan_first run names counts asked = refl

by_census : (c : Campaign)
    → unreached_of (uncounted (census c)) (runs_from (tried c) 0 (plans_to c None)) ≡ unreached_in (length c.points) (runs_from (tried c) 0 (plans_to c None))
by_census c =
    let n : ℕ = length c.points in
    let clean : Told = tried c 0 [] in
    let more : List Told = runs_from (tried c) 1 (drop 1 (plans_to c None)) in
    ap (λ points. unreached_of points (runs_from (tried c) 0 (plans_to c None)))
    (uncounted_is (census c) n (clean ∷ []) (length-map-range_with_len (λ p. count_by (λ q. q == p) clean.asked) 0 n)
    (λ p lt. ap (λ k. nat_eq k 0) (at_range (λ q. times q clean.asked) n p lt) ∙ times_none p clean.asked ∙ or_none (is_asked p clean.asked)))
    ∙ ap (unreached_of (unreached_in n (clean ∷ []))) (plan_first (tried c) c.points (census c) c.given.plans)
    ∙ unreached_append (range_with_len 0 n) (clean ∷ []) (clean ∷ more)
    ∙ filter_agree (λ p. not (is_reached (clean ∷ clean ∷ more) p)) (λ p. not (is_reached (clean ∷ more) p))
    (λ p. ap not (or_twice (is_asked p clean.asked) (is_reached more p))) (range_with_len 0 n)
    ∙ ap (unreached_in n) (sym (plan_first (tried c) c.points (census c) c.given.plans))

-- ---- with a depth: the plans that grew come first

by_growth : (c : Campaign) (d : ℕ) (g : Grown) → IsLawful (grower c) → IsGrownTo c (Some d) (Some g)
    → unreached_of (uncounted g.outcomes.hits.items) (runs_from (tried c) (length g.outcomes.verdicts.items) (drop (length g.outcomes.verdicts.items) (plans_to c (Some d))))
    ≡ unreached_in (length c.points) (runs_from (tried c) 0 (plans_to c (Some d)))
by_growth c d g lawful is =
    let t : Subject = grower c in
    let seed : ℕ = c.given.plans.seed in
    let n : ℕ = length c.points in
    let grew : List (List Rig) = grown t d in
    let first : List Entries = map (scenario_of t) grew in
    let further : List Entries = further_list c.points (census c) c.given.plans in
    let many : length first ≡ length grew = length-map grew (scenario_of t) in
    let known : length g.outcomes.verdicts.items ≡ length first = verdicts_few t seed d g.outcomes.verdicts.items is.has_grown.verdicts ∙ sym many in
    let none : (p : ℕ) → p < n → nat_eq (get_or g.outcomes.hits.items p 0) 0 ≡ not (is_reached (runs_from (tried c) 0 first) p) =
    λ p lt.
    ap (λ counts. nat_eq (get_or counts p 0) 0) is.has_grown.reached ∙ ap (λ k. nat_eq k 0) (at_range (reached t d) n p lt ∙ sym (reached_is t seed d p lawful))
    ∙ hits_none t seed p grew 0 (length grew) (zero-add (length grew)) in
    let watched : uncounted g.outcomes.hits.items ≡ unreached_in n (runs_from (tried c) 0 first) =
    uncounted_is g.outcomes.hits.items n (runs_from (tried c) 0 first) (ap length is.has_grown.reached ∙ length-map-range_with_len (reached t d) 0 n) none in
    ap (λ points. unreached_of points (runs_from (tried c) (length g.outcomes.verdicts.items) (drop (length g.outcomes.verdicts.items) (plans_to c (Some d))))) watched
    ∙ ap (λ k. unreached_of (unreached_in n (runs_from (tried c) 0 first)) (runs_from (tried c) k (drop k (plans_to c (Some d))))) known
    ∙ ap (λ ps. unreached_of (unreached_in n (runs_from (tried c) 0 first)) (runs_from (tried c) (length first) (drop (length first) ps))) (sym (list_is t d c.given.plans (census c)))
    ∙ ap (λ ps. unreached_of (unreached_in n (runs_from (tried c) 0 first)) (runs_from (tried c) (length first) ps)) (drop-append_seam first further)
    ∙ unreached_append (range_with_len 0 n) (runs_from (tried c) 0 first) (runs_from (tried c) (length first) further)
    ∙ ap (λ k. unreached_in n (runs_from (tried c) 0 first ++ runs_from (tried c) k further)) (sym (zero-add (length first)))
    ∙ ap (unreached_in n) (sym (runs_append (tried c) 0 first further))
    ∙ ap (λ ps. unreached_in n (runs_from (tried c) 0 ps)) (list_is t d c.given.plans (census c))

by_depth : (c : Campaign) (depth : Option ℕ) (g : Option Grown) (counts : List ℕ) → IsLawful (grower c) → counts ≡ census c → IsGrownTo c depth g
    → unreached_of (uncounted (counts_by counts g)) (runs_from (tried c) (known_by g) (drop (known_by g) (plans_to c depth)))
    ≡ unreached_in (length c.points) (runs_from (tried c) 0 (plans_to c depth))
by_depth c None None counts lawful are is =
    ap (λ ns. unreached_of (uncounted ns) (runs_from (tried c) 0 (plans_to c None))) are ∙ by_census c
by_depth c None (Some g) counts lawful are is = absurd is
by_depth c (Some d) None counts lawful are is = absurd is
by_depth c (Some d) (Some g) counts lawful are is = by_growth c d g lawful is

-- what is left of the watched points is what no run asks
pub surveyed_is : (c : Campaign) (p : Planned) (left : List ℕ) → IsPlanned c p → IsLawful (grower c)
    → left ≡ unreached_of (uncounted (counts_in p)) (runs_from (tried c) (known_in p) (drop (known_in p) (plans c)))
    → left ≡ unreached c
surveyed_is c p left planned lawful is = is ∙ by_depth c c.given.depth p.grown p.census.counts.items lawful planned.census planned.grown

-- they are numbers of points
below : (a n m : ℕ) → a + n ≤ m → All (λ p. p < m) (range_with_len a n)
below a n m h =
    λ k d less.
    let small : k < n = subst (λ len. k < len) (length-range_with_len a n) less in
    subst (λ x. x < m) (sym (get_or-range_with_len a n k d small)) (omega (arith, h, small))

pub unreached_below : (c : Campaign) (left : List ℕ) → left ≡ unreached c → All (λ p. p < length c.points) left
unreached_below c left is =
    let n : ℕ = length c.points in
    subst (All (λ p. p < n)) (sym is)
    (All-filter (λ p. not (is_reached (runs_from (tried c) 0 (plans c)) p)) (λ p. p < n) (range_with_len 0 n) (below 0 n n (omega arith)))

-- there are few counts
pub counts_few : (c : Campaign) (p : Planned) → IsPlanned c p → length (counts_in p) ≤ 64
counts_few c p planned = by c.given.depth p.grown planned.grown
  where
    by : (depth : Option ℕ) (g : Option Grown) → IsGrownTo c depth g → length (counts_by p.census.counts.items g) ≤ 64
    by None None is = let many = planned.counts in let few = planned.points in omega (arith, many, few)
    by None (Some g) is = absurd is
    by (Some d) None is = absurd is
    by (Some d) (Some g) is =
        let many : length g.outcomes.hits.items ≡ length c.points = ap length is.has_grown.reached ∙ length-map-range_with_len (reached (grower c) d) 0 (length c.points) in
        let few = planned.points in omega (arith, many, few)
