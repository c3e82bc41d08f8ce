-- What the runs of a level lead to: the next level, and the plans with a sticky last fault.
use Rattle.std.proofs.Common.{◌≡◌, ℕ, zero, suc, ◌+◌, ◌-◌, ◌<◌, ◌≤◌, ◌==◌, List, [], ◌∷◌, ◌++◌, map, length, get_or, refl, ap, sym, ◌∙◌, subst, arith, append_assoc}
use Rattle.std.specs.List.{AllByRecursion, flat_map, count_by, range_with_len}
use Rattle.std.proofs.lemmas.List.{map-append, length-append, length_push, length-map}
use Rattle.std.proofs.Math.Seq.{get_or-append_seam}
use Rattle.action_eval.specs.Answers.{Reply}
use Rattle.action_eval.specs.declared.rig.Rig.{Rig}
use Rattle.action_eval.specs.RiggedScenario.{CanBeRigged}
use Rattle.target_trait.specs.Play.{Move}
use Rattle.grown_plans.specs.Runs.{Met}
use Rattle.grown_plans.specs.GrownPlans.{Subject, usual_subject, rigs_of, children, onward_of, run_of_plan, level, levels, levels_to, onward, grown, most, reached}
use Rattle.grown_plans.specs.AskedPoints.{sites_from, sites_past, children_by, GrowsByAsked, GoesOnwardByAsked, ReachesByAsked}
use Rattle.grown_plans.specs.Promises.{IsLawful}
use Rattle.grown_plans.specs.Kept.{Grew, GrewFrom, plan_of}
use Rattle.grown_plans.proofs.KeptChildren.{kept_low, kept_plans}
use Rattle.grown_plans.proofs.Members.{all_append, all_left, all_weaker}
use Rattle.grown_plans.proofs.AskedSites.{grows_by_asked, goes_onward_by_asked, reaches_by_asked}
use Rattle.grown_plans.proofs.Rigged.{grown_can_be_rigged}
use Rattle.grown_runs.specs.GrownRuns.{over, told, children_at, onward_at, hits_at, verdict_at, cause_at, AreMost}
use Rattle.grown_runs.specs.Grown.{reached_each}
use Rattle.grown_plans.specs.AskedPoints.{AsksLikeParent}
use Rattle.grown_plans.proofs.AskedSites.{asks_like_parents}
use Rattle.grown_runs.specs.inside.Beginnings.{AskLikeParents}
use Rattle.grown_plans.specs.Lists.{AreLevels, AreNext}
use Rattle.grown_plans.specs.declared.grown_list.GrownLevels.{GrownLevels}
use Rattle.grown_runs.specs.inside.Growths.{AreTold}
use Rattle.grown_runs.specs.inside.Growths.{if_report}
use Rattle.grown_runs.specs.declared.input.Purpose.{Purpose}
use Rattle.grown_runs.specs.declared.outcomes.Outcomes.{Outcomes}
use Rattle.grown_runs.proofs.Overs.{over_same}

-- ---- each parent was run

pub parents_low : (t : Subject) (seed : ℕ) (plans : List (List Rig)) (first count m : ℕ) → first + count ≤ m → GrewFrom m (over (children_at t seed) plans first count)
parents_low t seed plans first zero m le = tt
parents_low t seed plans first (suc count) m le =
    all_append (λ (g : Grew). g.parent < m) (children_at t seed first (get_or plans first [])) (over (children_at t seed) plans (first + 1) count)
    (kept_low t.kinds first m (sites_past (get_or plans first []) (sites_from [] (told t seed first (get_or plans first [])).asked)) (omega (arith, le)))
    (parents_low t seed plans (first + 1) count m (omega (arith, le)))

-- ---- the children of a level's plans are the next level

level_children : (asks : List Reply → Move) (names : List (List ℕ)) (limit seed : ℕ) (plans before ls : List (List Rig)) → plans ≡ before ++ ls
    → AllByRecursion (GrowsByAsked (usual_subject asks names limit)) ls
    → map (plan_of plans) (over (children_at (usual_subject asks names limit) seed) plans (length before) (length ls)) ≡ flat_map (children (usual_subject asks names limit)) ls
level_children asks names limit seed plans before [] is grows = refl
level_children asks names limit seed plans before (plan ∷ rest) is grows =
    let t : Subject = usual_subject asks names limit in
    let n : ℕ = length before in
    let mine : get_or plans n [] ≡ plan = ap (λ (ps : List (List Rig)). get_or ps n []) is ∙ get_or-append_seam before plan rest [] in
    let more : length (before ++ plan ∷ []) ≡ n + 1 = length_push before plan in
    map-append (plan_of plans) (children_at t seed n (get_or plans n [])) (over (children_at t seed) plans (n + 1) (length rest))
    ∙ ap (λ l. l ++ map (plan_of plans) (over (children_at t seed) plans (n + 1) (length rest)))
    (kept_plans t.kinds plans n (sites_past (get_or plans n []) (sites_from [] (told t seed n (get_or plans n [])).asked))
    ∙ ap (λ (p : List Rig). children_by t.kinds p (told t seed n p).asked) mine ∙ sym (grows.0 seed n))
    ∙ ap (λ k. children t plan ++ map (plan_of plans) (over (children_at t seed) plans k (length rest))) (sym more)
    ∙ ap (λ l. children t plan ++ l)
    (level_children asks names limit seed plans (before ++ plan ∷ []) rest (is ∙ sym (append_assoc before (plan ∷ []) rest)) grows.1)

-- what each plan gives, whatever its number
over_is : {A : Type 0} (f : ℕ → List Rig → List A) (h : List Rig → List A) (plans before ls : List (List Rig)) → plans ≡ before ++ ls
    → AllByRecursion (λ plan. (n : ℕ) → f n plan ≡ h plan) ls → over f plans (length before) (length ls) ≡ flat_map h ls
over_is f h plans before [] is all = refl
over_is f h plans before (plan ∷ rest) is all =
    let n : ℕ = length before in
    let mine : get_or plans n [] ≡ plan = ap (λ (ps : List (List Rig)). get_or ps n []) is ∙ get_or-append_seam before plan rest [] in
    ap (λ (p : List Rig). f n p ++ over f plans (n + 1) (length rest)) mine
    ∙ ap (λ l. l ++ over f plans (n + 1) (length rest)) (all.0 n)
    ∙ ap (λ k. h plan ++ over f plans k (length rest)) (sym (length_push before plan))
    ∙ ap (λ l. h plan ++ l) (over_is f h plans (before ++ plan ∷ []) rest (is ∙ sym (append_assoc before (plan ∷ []) rest)) all.1)

-- levels end with the last one
levels_end : (t : Subject) (n : ℕ) → (before : List (List Rig)) × (levels t n ≡ before ++ level t n)
unfolding levels_to
levels_end t zero = ([], refl)
levels_end t (suc n) = (levels t n, refl)

record Split (t : Subject) (n : ℕ) (l : GrownLevels) : Type 0 where
  before : List (List Rig)
  is : l.plans ≡ before ++ level t n
  first : l.last ≡ length before
  many : length l.plans - l.last ≡ length (level t n)

split : (t : Subject) (n : ℕ) (l : GrownLevels) → AreLevels (level t) n l → Split t n l
split t n l are =
    let end = levels_end t n in
    let is : l.plans ≡ end.0 ++ level t n = are.are ∙ end.1 in
    let long = ap length is ∙ length-append end.0 (level t n) in
    let begins = are.begins in
    record { before = end.0; is = is; first = omega (arith, long, begins); many = omega (arith, begins) }

pub level_zero : (t : Subject) → level t 0 ≡ [] ∷ []
unfolding level
level_zero t = refl

pub next_level : (asks : List Reply → Move) (names : List (List ℕ)) (limit seed n : ℕ) (l : GrownLevels) → IsLawful (usual_subject asks names limit) → AreLevels (level (usual_subject asks names limit)) n l
    → AreNext (level (usual_subject asks names limit)) n l (over (children_at (usual_subject asks names limit) seed) l.plans l.last (length l.plans - l.last))
unfolding level
next_level asks names limit seed n l lawful are =
    let t : Subject = usual_subject asks names limit in
    let s = split t n l are in
    ap (λ k. map (plan_of l.plans) (over (children_at t seed) l.plans k (length l.plans - l.last))) s.first
    ∙ ap (λ k. map (plan_of l.plans) (over (children_at t seed) l.plans (length s.before) k)) s.many
    ∙ level_children asks names limit seed l.plans s.before (level t n) s.is (grows_by_asked t lawful n)

-- how many there are
pub next_many : (asks : List Reply → Move) (names : List (List ℕ)) (limit seed n : ℕ) (l : GrownLevels) → IsLawful (usual_subject asks names limit) → AreLevels (level (usual_subject asks names limit)) n l
    → length (over (children_at (usual_subject asks names limit) seed) l.plans l.last (length l.plans - l.last)) ≡ length (level (usual_subject asks names limit) (suc n))
next_many asks names limit seed n l lawful are =
    let t : Subject = usual_subject asks names limit in
    sym (length-map (over (children_at t seed) l.plans l.last (length l.plans - l.last)) (plan_of l.plans)) ∙ ap length (next_level asks names limit seed n l lawful are)

-- ---- the plans with a sticky last fault

pub onward_is : (t : Subject) (seed n : ℕ) (l : GrownLevels) → IsLawful t → AreLevels (level t) n l → over (onward_at t seed) l.plans l.last (length l.plans - l.last) ≡ onward t n
unfolding onward
onward_is t seed n l lawful are =
    let s = split t n l are in
    ap (λ k. over (onward_at t seed) l.plans k (length l.plans - l.last)) s.first
    ∙ ap (over (onward_at t seed) l.plans (length s.before)) s.many
    ∙ over_is (onward_at t seed) (onward_of t) l.plans s.before (level t n) s.is
    (all_weaker (GoesOnwardByAsked t) (λ plan. (k : ℕ) → onward_at t seed k plan ≡ onward_of t plan) (λ plan by k. sym (by seed k)) (level t n) (goes_onward_by_asked t lawful n))

-- ---- how often points are hit

singles : (h : List Rig → ℕ) (plans : List (List Rig)) → flat_map (λ plan. h plan ∷ []) plans ≡ map h plans
singles h [] = refl
singles h (p ∷ ps) = ap (λ l. h p ∷ l) (singles h ps)

pub reached_is : (t : Subject) (seed d p : ℕ) → IsLawful t → most (over (hits_at t seed p) (grown t d) 0 (length (grown t d))) ≡ reached t d p
reached_is t seed d p lawful =
    let count : List Rig → ℕ = λ plan. count_by (λ (m : Met). m.site.point == p) (run_of_plan t plan) in
    ap most
    (over_is (hits_at t seed p) (λ plan. count plan ∷ []) (grown t d) [] (grown t d) refl
    (all_weaker (ReachesByAsked t) (λ plan. (k : ℕ) → hits_at t seed p k plan ≡ count plan ∷ []) (λ plan by k. ap (λ m. m ∷ []) (sym (by seed k p))) (grown t d)
    (reaches_by_asked t lawful d))
    ∙ singles count (grown t d))

each_is : (counts : List ℕ) (f : ℕ → ℕ) (n : ℕ) → ((p : ℕ) → p < length counts → get_or counts p 0 ≡ f (n + p)) → counts ≡ map f (range_with_len n (length counts))
each_is [] f n at = refl
each_is (x ∷ xs) f n at =
    ap (λ y. y ∷ xs) (at 0 (omega arith) ∙ ap f (let e : n + 0 ≡ n = omega arith in e))
    ∙ ap (λ l. f n ∷ l) (each_is xs f (n + 1) (λ p lt. at (suc p) (omega (arith, lt)) ∙ ap f (let e : n + suc p ≡ n + 1 + p = omega arith in e)))

pub reached_by : (t : Subject) (seed d : ℕ) (counts : List ℕ) → IsLawful t → length counts ≡ length t.names → AreMost t seed (grown t d) 0 (length (grown t d)) counts
    → counts ≡ reached_each t d
reached_by t seed d counts lawful many at =
    each_is counts (reached t d) 0 (λ p lt. at p lt ∙ reached_is t seed d p lawful ∙ ap (reached t d) (let e : p ≡ 0 + p = omega arith in e))
    ∙ ap (λ k. map (reached t d) (range_with_len 0 k)) many

-- ---- plans that come behind make no difference

pub told_more : (t : Subject) (seed : ℕ) (purpose : Purpose) (count : ℕ) (plans more new : List (List Rig)) (o : Outcomes) → count ≤ length plans → new ≡ plans ++ more
    → AreTold t seed purpose plans 0 count o → AreTold t seed purpose new 0 count o
told_more t seed purpose count plans more new o le is was =
    subst (λ ps. AreTold t seed purpose ps 0 count o) (sym is)
    (record {
      verdicts = was.verdicts ∙ sym (over_same (verdict_at t seed) plans more 0 count (omega (arith, le)));
      causes = was.causes ∙ ap (if_report purpose) (sym (over_same (cause_at t seed) plans more 0 count (omega (arith, le))));
      hits = was.hits;
      most = λ p lt. was.most p lt ∙ ap most (sym (over_same (hits_at t seed p) plans more 0 count (omega (arith, le))));
    })

-- ---- each plan can be rigged

all_in : {A : Type 0} (P : A → Type 0) (xs : List A) (n : ℕ) (d : A) → AllByRecursion P xs → n < length xs → P (get_or xs n d)
all_in P [] n d all lt = absurd (omega (arith, lt))
all_in P (x ∷ xs) zero d all lt = all.0
all_in P (x ∷ xs) (suc n) d all lt = all_in P xs n d all.1 (omega (arith, lt))

-- What holds of each grown plan.
each_of : (P : List Rig → Type 0) (whole plans : List (List Rig)) → AllByRecursion P whole → plans ≡ whole → (n : ℕ) → n < length plans → P (get_or plans n [])
each_of P whole plans all is n lt = all_in P plans n [] (subst (λ (ps : List (List Rig)). AllByRecursion P ps) (sym is) all) lt

pub record AreAll (P : List Rig → Type 0) (plans : List (List Rig)) : Type 0 where
  pub each : (n : ℕ) → n < length plans → P (get_or plans n [])

-- those of the levels, and of the whole list
pub can_rig : (t : Subject) → IsLawful t → t.limit < 4294967296 → (d : ℕ) → d ≤ 64 → (plans : List (List Rig)) → plans ≡ levels t d → AreAll (λ plan. CanBeRigged (rigs_of plan)) plans
can_rig t lawful small d few plans is = record { each = each_of (λ plan. CanBeRigged (rigs_of plan)) (levels t d) plans (all_left (λ (plan : List Rig). CanBeRigged (rigs_of plan)) (levels t d) (onward t d) (grown_can_be_rigged t lawful small d few)) is }

pub can_rig_all : (t : Subject) → IsLawful t → t.limit < 4294967296 → (d : ℕ) → d ≤ 64 → (plans : List (List Rig)) → plans ≡ grown t d → AreAll (λ plan. CanBeRigged (rigs_of plan)) plans
can_rig_all t lawful small d few plans is = record { each = each_of (λ plan. CanBeRigged (rigs_of plan)) (grown t d) plans (grown_can_be_rigged t lawful small d few) is }

-- their runs ask like those of their parents
pub ask_alike : (t : Subject) → IsLawful t → (d : ℕ) (plans : List (List Rig)) → plans ≡ levels t d → AskLikeParents t plans
ask_alike t lawful d plans is = each_of (AsksLikeParent t) (levels t d) plans (all_left (AsksLikeParent t) (levels t d) (onward t d) (asks_like_parents t lawful d)) is

pub ask_alike_all : (t : Subject) → IsLawful t → (d : ℕ) (plans : List (List Rig)) → plans ≡ grown t d → AskLikeParents t plans
ask_alike_all t lawful d plans is = each_of (AsksLikeParent t) (grown t d) plans (asks_like_parents t lawful d) is
