-- How many plans there are.
use Rattle.std.proofs.Common.{◌≡◌, ℕ, zero, suc, ◌+◌, ◌-◌, ◌*◌, ◌/◌, ◌<◌, ◌≤◌, Bool, true, false, cond, List, [], ◌∷◌, ◌++◌, map, length, get_or, length-append, refl, ap, sym, ◌∙◌, arith}
use Rattle.std.specs.List.{flat_map, range_with_len}
use Rattle.std.proofs.lemmas.Grind.{flat_map-append}
use Rattle.action_eval.specs.declared.rig.Site.{Site}
use Rattle.plan_gen.specs.PlanList.{Asked, pairs_of, site_plans, pair_plans, pair_part, storm_part, plans_over, plan_list, further_list, storm}
use Rattle.plan_gen.specs.Census.{sites_at, sites_from, sites_of}
use Rattle.plan_gen.specs.inside.Counts.{total_of, pairs_count, plan_count}
use Rattle.action_eval.specs.RiggedScenario.{rigged_scenario}
use Rattle.plan_gen.proofs.Lists.{goes_on, range_length, map_length, flat_length, flat_map_of_map}

pub pairs_small : (n : ℕ) → n ≤ 65536 → pairs_count n ≤ 65536 * n
pairs_small zero h = omega arith
pairs_small (suc n) h = next n (pairs_count n) h (pairs_small n (omega arith))
  where
    next : (n p : ℕ) → suc n ≤ 65536 → p ≤ 65536 * n → n + p ≤ 65536 * suc n
    next n p h k = omega arith

twice : (n : ℕ) → pairs_count (suc n) * 2 ≡ suc n * n
twice zero = refl
twice (suc n) = next n (pairs_count (suc n)) (twice n)
  where
    next : (n p : ℕ) → p * 2 ≡ suc n * n → (suc n + p) * 2 ≡ suc (suc n) * suc n
    next n p e = omega arith

half : (a b : ℕ) → b * 2 ≡ a → a / 2 ≡ b
half a b e = omega arith

less_one : (n : ℕ) → suc n - 1 ≡ n
less_one n = omega arith

pub pairs_are : (n : ℕ) → 0 < n → n * (n - 1) / 2 ≡ pairs_count n
pairs_are zero h = absurd (omega arith)
pairs_are (suc n) h = half (suc n * (suc n - 1)) (pairs_count (suc n)) (twice n ∙ ap (λ k. suc n * k) (sym (less_one n)))

sites_at_length : (p n : ℕ) → length (sites_at p n) ≡ n
sites_at_length p n = map_length (λ (k : ℕ). let s : Site = record { point = p; hit = k + 1 } in s) (range_with_len 0 n) ∙ range_length 0 n

pub sites_length : (p : ℕ) (counts : List ℕ) → length (sites_from p counts) ≡ total_of counts
sites_length p [] = refl
sites_length p (n ∷ ns) = length-append (sites_at p n) (sites_from (p + 1) ns) ∙ sums (sites_at_length p n) (sites_length (p + 1) ns)
  where
    sums : {a b c d : ℕ} → a ≡ c → b ≡ d → a + b ≡ c + d
    sums e f = omega arith

pairs_length : (sites : List Site) → length (pairs_of sites) ≡ pairs_count (length sites)
pairs_length [] = refl
pairs_length (a ∷ rest) = length-append (map (λ b. (a, b)) rest) (pairs_of rest) ∙ sums (map_length (λ b. (a, b)) rest) (pairs_length rest)
  where
    sums : {a b c d : ℕ} → a ≡ c → b ≡ d → a + b ≡ c + d
    sums e f = omega arith

pair_part_length : (names : List (List ℕ)) (wanted : Bool) (sites : List Site) → length (pair_part names wanted sites) ≡ cond wanted (2 * pairs_count (length sites)) 0
pair_part_length names true sites = flat_length (pair_plans names) 2 (λ p. refl) (pairs_of sites) ∙ ap (λ n. 2 * n) (pairs_length sites)
pair_part_length names false sites = refl

storm_part_length : (names : List (List ℕ)) (seed rate storms : ℕ) (sites : List Site) → length (storm_part names seed rate storms sites) ≡ storms
storm_part_length names seed rate storms sites = map_length (λ j. rigged_scenario names (storm seed rate sites j)) (range_with_len 0 storms) ∙ range_length 0 storms

parts : (a b c d e n p s l t : ℕ) → a ≡ 1 → b ≡ 3 * n → c ≡ p → d ≡ s → e ≡ l → t ≡ a + b + c + d + e → t ≡ 1 + 3 * n + p + s + l
parts a b c d e n p s l t h1 h2 h3 h4 h5 h6 = omega arith

five : {A : Type 0} (a b c d e : List A) → length (a ++ b ++ c ++ d ++ e) ≡ length a + length b + length c + length d + length e
five a b c d e =
    length-append (a ++ b ++ c ++ d) e ∙ ap (λ n. n + length e) (length-append (a ++ b ++ c) d ∙ ap (λ n. n + length d) (length-append (a ++ b) c ∙ ap (λ n. n + length c) (length-append a b)))

over_length : (names : List (List ℕ)) (asked : Asked) (sites : List Site) → length (plans_over names asked sites) ≡ plan_count (length sites) asked
over_length names asked sites =
    parts 1 _ _ _ (length asked.listed) (length sites) _ _ (length asked.listed) _ refl (flat_length (site_plans names) 3 (λ s. refl) sites) (pair_part_length names asked.pairs sites) (storm_part_length names asked.seed asked.rate asked.storms sites) refl
    (five ([] ∷ []) (flat_map (site_plans names) sites) (pair_part names asked.pairs sites) (storm_part names asked.seed asked.rate asked.storms sites) asked.listed)

-- the list has as many plans as are counted
pub plans_length : (names : List (List ℕ)) (counts : List ℕ) (asked : Asked) → length (plan_list names counts asked) ≡ plan_count (total_of counts) asked
unfolding plan_list
plans_length names counts asked = over_length names asked (sites_of counts) ∙ ap (λ n. plan_count n asked) (sites_length 0 counts)

further_length : (names : List (List ℕ)) (counts : List ℕ) (asked : Asked) → length (further_list names counts asked) ≡ asked.storms + length asked.listed
further_length names counts asked =
    length-append (storm_part names asked.seed asked.rate asked.storms (sites_of counts)) asked.listed
    ∙ ap (λ n. n + length asked.listed) (storm_part_length names asked.seed asked.rate asked.storms (sites_of counts))

-- and what stands behind others
pub further_judged : (names : List (List ℕ)) (counts : List ℕ) (asked : Asked) (before storms listed : ℕ) → storms ≡ asked.storms → listed ≡ length asked.listed
    → before + storms + listed ≡ before + length (further_list names counts asked)
further_judged names counts asked before storms listed a b = omega (arith, a, b, further_length names counts asked)

-- the pairs of one site more
pub pairs_next : {B : Type 0} (of : Site × Site → List B) (old new : List B) (a : Site) (sites rest part : List Site) (whole : List B) → sites ≡ a ∷ rest → part ≡ rest → new ≡ old ++ flat_map (λ b. of (a, b)) part → old ++ flat_map of (pairs_of sites) ≡ whole → new ++ flat_map of (pairs_of rest) ≡ whole
pairs_next of old new a sites rest part whole split same added h =
    goes_on old new (flat_map (λ b. of (a, b)) rest) (flat_map of (pairs_of rest)) whole
    (ap (λ l. old ++ (l ++ flat_map of (pairs_of rest))) (sym (flat_map_of_map of (λ b. (a, b)) rest))
    ∙ ap (λ l. old ++ l) (sym (flat_map-append of (map (λ b. (a, b)) rest) (pairs_of rest)))
    ∙ ap (λ l. old ++ flat_map of (pairs_of l)) (sym split) ∙ h) (added ∙ ap (λ l. old ++ flat_map (λ b. of (a, b)) l) same)

-- what is counted is how many plans there are
pub judged : (names : List (List ℕ)) (counts : List ℕ) (asked : Asked) (sites : ℕ) (wanted : Bool) (storms listed : ℕ) → sites ≡ total_of counts → wanted ≡ asked.pairs → storms ≡ asked.storms → listed ≡ length asked.listed → 1 + 3 * sites + cond wanted (2 * pairs_count sites) 0 + storms + listed ≡ length (plan_list names counts asked)
judged names counts asked sites wanted storms listed a b c d =
    ap (λ n. 1 + 3 * n + cond wanted (2 * pairs_count n) 0 + storms + listed) a
    ∙ ap (λ w. 1 + 3 * total_of counts + cond w (2 * pairs_count (total_of counts)) 0 + storms + listed) b
    ∙ ap (λ n. 1 + 3 * total_of counts + cond asked.pairs (2 * pairs_count (total_of counts)) 0 + n + listed) c
    ∙ ap (λ n. 1 + 3 * total_of counts + cond asked.pairs (2 * pairs_count (total_of counts)) 0 + asked.storms + n) d
    ∙ sym (plans_length names counts asked)

-- a count is at most what all come to
pub counted_within : (counts : List ℕ) (i d : ℕ) → i < length counts → get_or counts i d ≤ total_of counts
counted_within [] i d lt = absurd (omega arith)
counted_within (n ∷ ns) zero d lt = omega arith
counted_within (n ∷ ns) (suc i) d lt = omega (arith, counted_within ns i d (omega arith))
