-- The plans that aren't listed are of rigged hits in order.
use Rattle.std.proofs.Common.{◌≡◌, ℕ, zero, suc, ◌+◌, ◌<◌, ◌≤◌, inl, inr, Bool, true, false, cond, None, List, [], ◌∷◌, ◌++◌, map, take, refl, ap, sym, subst, arith}
use Rattle.std.specs.Prelude.{zip, filter}
use Rattle.std.specs.List.{AllByRecursion, range_with_len, flat_map}
use Rattle.scenario_values.specs.Scenario.{Entries}
use Rattle.action_eval.specs.Words.{word}
use Rattle.action_eval.specs.declared.rig.Site.{Site}
use Rattle.action_eval.specs.declared.rig.Rig.{Rig}
use Rattle.action_eval.specs.declared.rig.Kind.TheVariants.{OnceReturn, OnwardReturn, OncePanic}
use Rattle.plan_gen.specs.Census.{sites_at, sites_from, sites_of}
use Rattle.action_eval.specs.RiggedScenario.{rig, rigged_scenario, most_rigs}
use Rattle.plan_gen.specs.PlanList.{Asked, first_stream, with_words, is_taken, storm_kind, storm, pairs_of, site_plans, pair_plans, pair_part, storm_part, plans_over, plan_list}
use Rattle.plan_gen.specs.RiggedAnswers.{IsBefore, AreInOrder, IsOfHits}
use Rattle.plan_gen.proofs.Rigged.{rigged_scenario_nothing}

-- ---- all members of a list

all_any : {A : Type 0} (P : A → Type 0) → ((x : A) → P x) → (xs : List A) → AllByRecursion P xs
all_any P h [] = tt
all_any P h (x ∷ xs) = (h x, all_any P h xs)

all_by : {A : Type 0} (P Q : A → Type 0) → ((x : A) → P x → Q x) → (xs : List A) → AllByRecursion P xs → AllByRecursion Q xs
all_by P Q h [] a = tt
all_by P Q h (x ∷ xs) a = (h x a.0, all_by P Q h xs a.1)

all_both : {A : Type 0} (P : A → Type 0) (xs ys : List A) → AllByRecursion P xs → AllByRecursion P ys → AllByRecursion P (xs ++ ys)
all_both P [] ys a b = b
all_both P (x ∷ xs) ys a b = (a.0, all_both P xs ys a.1 b)

all_map : {A B : Type 0} (P : B → Type 0) (f : A → B) (xs : List A) → AllByRecursion (λ x. P (f x)) xs → AllByRecursion P (map f xs)
all_map P f [] a = tt
all_map P f (x ∷ xs) a = (a.0, all_map P f xs a.1)

all_flat : {A B : Type 0} (P : A → Type 0) (Q : B → Type 0) (f : A → List B) → ((x : A) → P x → AllByRecursion Q (f x)) → (xs : List A) → AllByRecursion P xs → AllByRecursion Q (flat_map f xs)
all_flat P Q f h [] a = tt
all_flat P Q f h (x ∷ xs) a = all_both Q (f x) (flat_map f xs) (h x a.0) (all_flat P Q f h xs a.1)

-- ---- sites

abbrev site : ℕ → ℕ → Site
site p k = record { point = p; hit = k + 1 }

abbrev IsAfter : ℕ → ℕ → Site → Type 0
IsAfter p a s = (s.point ≡ p) × (a < s.hit)

hits_after : (p a n : ℕ) → AllByRecursion (IsAfter p a) (map (site p) (range_with_len a n))
hits_after p a zero = tt
hits_after p a (suc n) = ((refl, omega arith), all_by (IsAfter p (a + 1)) (IsAfter p a) (λ s h. (h.0, omega (arith, h.1))) (map (site p) (range_with_len (a + 1) n)) (hits_after p (a + 1) n))

hits_in_order : (p a n : ℕ) → AreInOrder (map (site p) (range_with_len a n))
hits_in_order p a zero = tt
hits_in_order p a (suc n) =
    (omega arith, all_by (IsAfter p (a + 1)) (λ t. IsBefore (site p a) t) (λ s h. inr (sym h.0, h.1)) (map (site p) (range_with_len (a + 1) n)) (hits_after p (a + 1) n), hits_in_order p (a + 1) n)

later_points : (p : ℕ) (counts : List ℕ) → AllByRecursion (λ (s : Site). p ≤ s.point) (sites_from p counts)
later_points p [] = tt
later_points p (n ∷ ns) =
    all_both (λ (s : Site). p ≤ s.point) (sites_at p n) (sites_from (p + 1) ns) (all_by (IsAfter p 0) (λ (s : Site). p ≤ s.point) (λ s h. omega (arith, h.0)) (sites_at p n) (hits_after p 0 n))
    (all_by (λ (s : Site). p + 1 ≤ s.point) (λ (s : Site). p ≤ s.point) (λ s h. omega (arith, h)) (sites_from (p + 1) ns) (later_points (p + 1) ns))

in_order_both : (a b : List Site) → AreInOrder a → AreInOrder b → AllByRecursion (λ s. AllByRecursion (λ t. IsBefore s t) b) a → AreInOrder (a ++ b)
in_order_both [] b o q h = q
in_order_both (s ∷ ss) b o q h = (o.0, all_both (λ t. IsBefore s t) ss b o.1 h.0, in_order_both ss b o.2 q h.1)

pub sites_in_order : (p : ℕ) (counts : List ℕ) → AreInOrder (sites_from p counts)
sites_in_order p [] = tt
sites_in_order p (n ∷ ns) =
    let rest = sites_from (p + 1) ns in
    in_order_both (sites_at p n) rest (hits_in_order p 0 n) (sites_in_order (p + 1) ns)
    (all_by (IsAfter p 0) (λ s. AllByRecursion (λ t. IsBefore s t) rest)
    (λ s h. all_by (λ (t : Site). p + 1 ≤ t.point) (λ t. IsBefore s t) (λ t k. let less : s.point < t.point = omega (arith, h.0, k) in inl less) rest (later_points (p + 1) ns))
    (sites_at p n) (hits_after p 0 n))

counted : (ss : List Site) → AreInOrder ss → AllByRecursion (λ (s : Site). 0 < s.hit) ss
counted [] o = tt
counted (s ∷ ss) o = (o.0, counted ss o.2)

-- ---- plans of one site, and of two

one_site : (names : List (List ℕ)) (s : Site) → 0 < s.hit → AllByRecursion (IsOfHits names) (site_plans names s)
one_site names s h = ((rig s (OnceReturn None) ∷ [], (refl, (h, tt, tt))), ((rig s (OnwardReturn None) ∷ [], (refl, (h, tt, tt))), ((rig s OncePanic ∷ [], (refl, (h, tt, tt))), tt)))

abbrev TwoInOrder : Site × Site → Type 0
TwoInOrder p = AreInOrder (p.0 ∷ p.1 ∷ [])

two_sites : (names : List (List ℕ)) (p : Site × Site) → TwoInOrder p → AllByRecursion (IsOfHits names) (pair_plans names p)
two_sites names p o = ((rig p.0 (OnceReturn None) ∷ rig p.1 (OnceReturn None) ∷ [], (refl, o)), ((rig p.0 (OnceReturn None) ∷ rig p.1 OncePanic ∷ [], (refl, o)), tt))

with_each : (a : Site) (rest : List Site) → 0 < a.hit → AllByRecursion (λ t. IsBefore a t) rest → AreInOrder rest → AllByRecursion (λ b. TwoInOrder (a, b)) rest
with_each a [] h before o = tt
with_each a (b ∷ rest) h before o = ((h, (before.0, tt), (o.0, tt, tt)), with_each a rest h before.1 o.2)

pairs_in_order : (sites : List Site) → AreInOrder sites → AllByRecursion TwoInOrder (pairs_of sites)
pairs_in_order [] o = tt
pairs_in_order (a ∷ rest) o =
    all_both TwoInOrder (map (λ b. (a, b)) rest) (pairs_of rest) (all_map TwoInOrder (λ b. (a, b)) rest (with_each a rest o.0 o.1 o.2)) (pairs_in_order rest o.2)

-- ---- storms

abbrev keys : List (Site × ℕ) → List Site
keys xs = map (λ (x : Site × ℕ). x.0) xs

abbrev After : Site → List (Site × ℕ) → Type 0
After s xs = AllByRecursion (λ t. IsBefore s t) (keys xs)

zip_after : (s : Site) (ss : List Site) (ws : List ℕ) → AllByRecursion (λ t. IsBefore s t) ss → After s (zip ss ws)
zip_after s [] ws a = tt
zip_after s (x ∷ xs) [] a = tt
zip_after s (x ∷ xs) (w ∷ ws) a = (a.0, zip_after s xs ws a.1)

zip_in_order : (ss : List Site) (ws : List ℕ) → AreInOrder ss → AreInOrder (keys (zip ss ws))
zip_in_order [] ws o = tt
zip_in_order (s ∷ ss) [] o = tt
zip_in_order (s ∷ ss) (w ∷ ws) o = (o.0, zip_after s ss ws o.1, zip_in_order ss ws o.2)

filter_after : (p : Site × ℕ → Bool) (s : Site) (xs : List (Site × ℕ)) → After s xs → After s (filter p xs)
filter_after p s [] a = tt
filter_after p s (x ∷ xs) a = after_case (p x) (filter p xs) (filter_after p s xs a.1)
  where
    after_case : (b : Bool) (ys : List (Site × ℕ)) → After s ys → After s (cond b (x ∷ ys) ys)
    after_case true ys h = (a.0, h)
    after_case false ys h = h

filter_in_order : (p : Site × ℕ → Bool) (xs : List (Site × ℕ)) → AreInOrder (keys xs) → AreInOrder (keys (filter p xs))
filter_in_order p [] o = tt
filter_in_order p (x ∷ xs) o = order_case (p x) (filter p xs) (filter_after p x.0 xs o.1) (filter_in_order p xs o.2)
  where
    order_case : (b : Bool) (ys : List (Site × ℕ)) → After x.0 ys → AreInOrder (keys ys) → AreInOrder (keys (cond b (x ∷ ys) ys))
    order_case true ys h q = (o.0, h, q)
    order_case false ys h q = q

take_after : (n : ℕ) (s : Site) (xs : List (Site × ℕ)) → After s xs → After s (take n xs)
take_after zero s [] a = tt
take_after zero s (x ∷ xs) a = tt
take_after (suc n) s [] a = tt
take_after (suc n) s (x ∷ xs) a = (a.0, take_after n s xs a.1)

take_in_order : (n : ℕ) (xs : List (Site × ℕ)) → AreInOrder (keys xs) → AreInOrder (keys (take n xs))
take_in_order zero [] o = tt
take_in_order zero (x ∷ xs) o = tt
take_in_order (suc n) [] o = tt
take_in_order (suc n) (x ∷ xs) o = (o.0, take_after n x.0 xs o.1, take_in_order n xs o.2)

abbrev by_word : Site × ℕ → Rig
by_word s = rig s.0 (storm_kind s.1)

keys_are : (xs : List (Site × ℕ)) → keys xs ≡ map (λ (r : Rig). r.site) (map by_word xs)
keys_are [] = refl
keys_are (x ∷ xs) = ap (λ l. x.0 ∷ l) (keys_are xs)

storm_in_order : (seed rate : ℕ) (sites : List Site) (j : ℕ) → AreInOrder sites → AreInOrder (map (λ (r : Rig). r.site) (storm seed rate sites j))
unfolding storm
storm_in_order seed rate sites j o =
    let drawn = with_words (word seed (first_stream + j)) sites in
    let taken = take most_rigs (filter (is_taken rate) drawn) in
    subst AreInOrder (keys_are taken) (take_in_order most_rigs (filter (is_taken rate) drawn) (filter_in_order (is_taken rate) drawn (zip_in_order sites _ o)))

-- ---- the list

pair_part_of_hits : (names : List (List ℕ)) (wanted : Bool) (sites : List Site) → AreInOrder sites → AllByRecursion (IsOfHits names) (pair_part names wanted sites)
pair_part_of_hits names true sites o = all_flat TwoInOrder (IsOfHits names) (pair_plans names) (two_sites names) (pairs_of sites) (pairs_in_order sites o)
pair_part_of_hits names false sites o = tt

over_of_hits : (names : List (List ℕ)) (asked : Asked) (sites : List Site) → AreInOrder sites → AllByRecursion (IsOfHits names) (plans_over names (record asked { listed = [] }) sites)
over_of_hits names asked sites o =
    let P = IsOfHits names in
    let empty : List Entries = [] ∷ [] in
    let alone = flat_map (site_plans names) sites in
    let pairs = pair_part names asked.pairs sites in
    let storms = storm_part names asked.seed asked.rate asked.storms sites in
    let first : AllByRecursion P empty = (([], (sym (rigged_scenario_nothing names [] refl), tt)), tt) in
    all_both P (empty ++ alone ++ pairs ++ storms) []
    (all_both P (empty ++ alone ++ pairs) storms
    (all_both P (empty ++ alone) pairs (all_both P empty alone first (all_flat (λ (s : Site). 0 < s.hit) P (site_plans names) (one_site names) sites (counted sites o))) (pair_part_of_hits names asked.pairs sites o))
    (all_map P (λ j. rigged_scenario names (storm asked.seed asked.rate sites j)) (range_with_len 0 asked.storms)
    (all_any (λ j. P (rigged_scenario names (storm asked.seed asked.rate sites j))) (λ j. (storm asked.seed asked.rate sites j, (refl, storm_in_order asked.seed asked.rate sites j o))) (range_with_len 0 asked.storms))))
    tt

pub list_of_hits : (names : List (List ℕ)) (counts : List ℕ) (asked : Asked) → AllByRecursion (IsOfHits names) (plan_list names counts (record asked { listed = [] }))
unfolding plan_list
list_of_hits names counts asked = over_of_hits names asked (sites_of counts) (sites_in_order 0 counts)
