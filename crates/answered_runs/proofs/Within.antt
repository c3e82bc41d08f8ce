-- A scenario can be made of each known plan: the plan has few faults, and these are at hits that answers record, which are few.
use Rattle.std.proofs.Common.{◌≡◌, ℕ, zero, suc, ◌+◌, ◌≤◌, Bool, true, false, cond, List, [], ◌∷◌, ◌++◌, length, map, refl, arith, ◌==◌, ◌&&◌}
use Rattle.std.specs.Prelude.{Option, Some, None, IfSome, flat_map, nat_le, option_map, option_and_then}
use Rattle.std.specs.List.{AllByRecursion, list_all}
use Rattle.std.proofs.lemmas.Bool.{leb-true}
use Rattle.std.proofs.lemmas.List.{length_push}
use Rattle.std.proofs.lemmas.List.Sums.{count_by-le-length}
use Rattle.scenario_values.specs.Tidied.{tidied}
use Rattle.action_eval.specs.declared.rig.Kind.{Kind}
use Rattle.action_eval.specs.declared.rig.Rig.{Rig}
use Rattle.action_eval.specs.declared.rig.Site.{Site}
use Rattle.action_eval.specs.RiggedScenario.{CanBeRigged, HasLawfulText, rig}
use Rattle.answer_text.specs.Hits.{most_hits, points_of}
use Rattle.answer_text.specs.Runs.{KnownRuns as Answers}
use Rattle.answer_text.specs.declared.hits.Stretch.{Stretch}
use Rattle.answer_text.specs.declared.runs.ToldRun.{ToldRun}
use Rattle.grown_plans.specs.numbered.GrownScenarios.{grown_scenario}
use Rattle.grown_plans.specs.AskedPoints.{from_then_on, goes_onward, sites_after, sites_from, sites_past}
use Rattle.grown_plans.specs.GrownPlans.{levels_to, rigs_of}
use Rattle.grown_plans.proofs.Members.{all_append, all_both, all_flat, all_map, all_weaker}
use Rattle.grown_plans.proofs.Rigged.{rigs_can}
use Rattle.grown_runs.specs.known.Known.{KnownRuns, hits_of, hits_told}
use Rattle.grown_runs.specs.known.ToldPart.{children_known, children_told, level_known, levels_known, onward_told, part_known}
use Rattle.grown_runs.proofs.KnownLemmas.Kept.{part_short}
use Rattle.answered_runs.specs.Answered.{hits_by, is_low, plan_runs, told_of}

-- ---- the hits of points are counted up to how many there are

sites_within : (most : ℕ) (before asked : List ℕ) → length before + length asked ≤ most → AllByRecursion (λ s. s.hit ≤ most) (sites_from before asked)
sites_within most before [] le = tt
sites_within most before (p ∷ ps) le =
    let counted = count_by-le-length (λ (q : ℕ). q == p) before in
    let longer = length_push before p in
    (omega (arith, le, counted), sites_within most (before ++ p ∷ []) ps (omega (arith, le, longer)))

after_all : (P : Site → Type 0) (s : Site) (xs : List Site) → AllByRecursion P xs → AllByRecursion P (sites_after s xs)
after_all P s [] all = tt
after_all P s (x ∷ xs) all = by_test ((x.point == s.point) && (x.hit == s.hit)) (after_all P s xs all.1)
  where
    by_test : (b : Bool) → AllByRecursion P (sites_after s xs) → AllByRecursion P (cond b xs (sites_after s xs))
    by_test true later = all.1
    by_test false later = later

past_all : (P : Site → Type 0) (plan : List Rig) (xs : List Site) → AllByRecursion P xs → AllByRecursion P (sites_past plan xs)
past_all P [] xs all = all
past_all P (r ∷ rs) xs all = after_all P r.site xs all

-- ---- plans that grow from few hits

-- a fault at a hit that isn't past so many, with a text that may stand in a scenario
abbrev IsSound : ℕ → Rig → Type 0
IsSound most r = (r.site.hit ≤ most) × HasLawfulText r.kind

abbrev Within : ℕ → List Rig → Type 0
Within most plan = AllByRecursion (IsSound most) plan

abbrev AreWithin : ℕ → List (List Rig) → Type 0
AreWithin most plans = AllByRecursion (λ plan. Within most plan) plans

abbrev HaveTexts : (ℕ → List Kind) → Type 0
HaveTexts kinds = (point : ℕ) → AllByRecursion HasLawfulText (kinds point)

abbrev HaveFew : ℕ → KnownRuns → Type 0
HaveFew most known = (plan : List Rig) → IfSome (hits_of known plan) (λ hits. length hits ≤ most)

told_within : (kinds : ℕ → List Kind) → HaveTexts kinds → (most : ℕ) (plan : List Rig) (o : Option (List ℕ)) → IfSome o (λ hits. length hits ≤ most) → Within most plan → AreWithin most (children_told kinds plan o)
told_within kinds texts most plan None few all = tt
told_within kinds texts most plan (Some hits) few all =
    all_flat (λ (longer : List Rig). Within most longer) (λ (s : Site). map (λ kind. rig s kind ∷ plan) (kinds s.point)) (sites_past plan (sites_from [] hits))
    (all_weaker (λ (s : Site). s.hit ≤ most) (λ (s : Site). AreWithin most (map (λ kind. rig s kind ∷ plan) (kinds s.point)))
    (λ s le. all_map (λ (longer : List Rig). Within most longer) (λ kind. rig s kind ∷ plan) (kinds s.point) (all_weaker HasLawfulText _ (λ kind lawful. ((le, lawful), all)) (kinds s.point) (texts s.point)))
    (sites_past plan (sites_from [] hits)) (past_all (λ (s : Site). s.hit ≤ most) plan (sites_from [] hits) (sites_within most [] hits (let le : length hits ≤ most = few in omega (arith, le)))))

level_within : (kinds : ℕ → List Kind) → HaveTexts kinds → (known : KnownRuns) (most : ℕ) → HaveFew most known → (n : ℕ) → AreWithin most (level_known kinds known n)
unfolding level_known
level_within kinds texts known most few zero = (tt, tt)
level_within kinds texts known most few (suc n) =
    all_flat (λ (plan : List Rig). Within most plan) (children_known kinds known) (level_known kinds known n)
    (all_weaker (λ (plan : List Rig). Within most plan) (λ (plan : List Rig). AreWithin most (children_known kinds known plan)) (λ plan all. told_within kinds texts most plan (hits_of known plan) (few plan) all) (level_known kinds known n)
    (level_within kinds texts known most few n))

levels_within : (kinds : ℕ → List Kind) → HaveTexts kinds → (known : KnownRuns) (most : ℕ) → HaveFew most known → (n : ℕ) → AreWithin most (levels_known kinds known n)
unfolding levels_to
levels_within kinds texts known most few zero = level_within kinds texts known most few zero
levels_within kinds texts known most few (suc n) =
    all_append (λ (plan : List Rig). Within most plan) (levels_known kinds known n) (level_known kinds known (suc n)) (levels_within kinds texts known most few n) (level_within kinds texts known most few (suc n))

onward_within : (most : ℕ) (plan : List Rig) (o : Option (List ℕ)) → Within most plan → AreWithin most (onward_told plan o)
onward_within most plan None all = tt
onward_within most plan (Some hits) all = at plan (goes_onward plan hits) all
  where
    at : (plan : List Rig) (b : Bool) → Within most plan → AreWithin most (cond b (from_then_on plan ∷ []) [])
    at plan false all = tt
    at [] true all = (tt, tt)
    at (r ∷ rs) true all = ((all.0, all.1), tt)

part_within : (kinds : ℕ → List Kind) → HaveTexts kinds → (known : KnownRuns) (most d : ℕ) → HaveFew most known → AreWithin most (part_known kinds known d)
part_within kinds texts known most d few =
    all_append (λ (plan : List Rig). Within most plan) (levels_known kinds known d) (flat_map (λ plan. onward_told plan (hits_of known plan)) (level_known kinds known d)) (levels_within kinds texts known most few d)
    (all_flat (λ (plan : List Rig). Within most plan) (λ plan. onward_told plan (hits_of known plan)) (level_known kinds known d)
    (all_weaker (λ (plan : List Rig). Within most plan) (λ (plan : List Rig). AreWithin most (onward_told plan (hits_of known plan))) (λ plan all. onward_within most plan (hits_of known plan) all) (level_known kinds known d)
    (level_within kinds texts known most few d)))

-- ---- a line records few hits

few_told : (points : List (List ℕ)) (answers : Answers) → HaveFew most_hits (plan_runs points answers)
few_told points answers plan = by_length (nat_le (length plan) 64)
  where
    right : (a b : Bool) → (a && b) ≡ true → b ≡ true
    right true b e = e
    right false b e = absurd cc

    by_test : (hits : List Stretch) (b : Bool) → (list_all is_low hits && nat_le (length (points_of hits)) most_hits) ≡ b → IfSome (cond b (Some (points_of hits)) None) (λ told. length told ≤ most_hits)
    by_test hits true e = leb-true (length (points_of hits)) most_hits (right (list_all is_low hits) (nat_le (length (points_of hits)) most_hits) e)
    by_test hits false e = tt

    by_hits : (o : Option (List Stretch)) → IfSome (option_and_then hits_by o) (λ told. length told ≤ most_hits)
    by_hits None = tt
    by_hits (Some hits) = by_test hits (list_all is_low hits && nat_le (length (points_of hits)) most_hits) refl

    by_told : (o : Option ToldRun) → IfSome (hits_told (option_map told_of o)) (λ told. length told ≤ most_hits)
    by_told None = tt
    by_told (Some r) = by_hits r.hits

    by_length : (b : Bool) → IfSome (hits_told (cond b (option_map told_of (answers (tidied (grown_scenario points plan)))) None)) (λ told. length told ≤ most_hits)
    by_length true = by_told (answers (tidied (grown_scenario points plan)))
    by_length false = tt

-- ---- the whole

pub part_can : (points : List (List ℕ)) (answers : Answers) (kinds : ℕ → List Kind) → ((point : ℕ) → AllByRecursion HasLawfulText (kinds point)) → (d : ℕ) → d ≤ 64 → AllByRecursion (λ plan. CanBeRigged (rigs_of plan)) (part_known kinds (plan_runs points answers) d)
part_can points answers kinds texts d low =
    all_weaker (λ (plan : List Rig). (length plan ≤ d) × Within most_hits plan) (λ (plan : List Rig). CanBeRigged (rigs_of plan))
    (λ plan s. rigs_can most_hits plan (omega arith) (let le = s.0 in omega (arith, le, low))
    (all_weaker (IsSound most_hits) (λ (r : Rig). r.site.hit ≤ most_hits) (λ r h. h.0) plan s.1) (all_weaker (IsSound most_hits) (λ (r : Rig). HasLawfulText r.kind) (λ r h. h.1) plan s.1)) (part_known kinds (plan_runs points answers) d)
    (all_both (λ (plan : List Rig). length plan ≤ d) (λ (plan : List Rig). Within most_hits plan) (part_known kinds (plan_runs points answers) d) (part_short kinds (plan_runs points answers) d)
    (part_within kinds texts (plan_runs points answers) most_hits d (few_told points answers)))
