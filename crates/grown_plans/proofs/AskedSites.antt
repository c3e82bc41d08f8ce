-- The hits of a run follow from the points that it asked, and so do a plan's children.
use Rattle.std.proofs.Common.{◌≡◌, ℕ, zero, suc, ◌+◌, ◌<◌, ◌==◌, ◌&&◌, ◌||◌, Bool, true, false, cond, List, [], ◌∷◌, ◌++◌, map, length, take, refl, ap, sym, ◌∙◌, subst, append_assoc, count_by}
use Rattle.std.specs.Prelude.{flat_map}
use Rattle.std.specs.List.{AllByRecursion, list_any}
use Rattle.std.proofs.lemmas.List.{append-nil, map-append}
use Rattle.action_eval.specs.declared.rig.Site.{Site}
use Rattle.action_eval.specs.declared.rig.Rig.{Rig}
use Rattle.action_eval.specs.declared.rig.Kind.{Kind}
use Rattle.action_eval.specs.declared.rig.Kind.TheVariants.{OnwardReturn}
use Rattle.action_eval.specs.RiggedScenario.{rig, text_of}
use Rattle.action_eval.specs.Answers.{Given, Run, Hit, Reply, start, hit, replies, is_cut_short, history_of, asked, reply_of}
use Rattle.target_trait.specs.declared.judgement.Judgement.TheVariants.{Kept}
use Rattle.target_trait.specs.Play.{Move, Ask, Done, Unknown, AsksWithin, move_in}
use Rattle.target_trait.specs.Outcomes.{play, moved, outcome}
use Rattle.plan_gen.specs.LoopRuns.{times}
use Rattle.grown_plans.specs.Runs.{Met, met, site_after, met_after, run}
use Rattle.grown_plans.specs.GrownPlans.{Subject, given_for, run_of_plan, is_at, is_once_return, is_hit_again, hits_after, hits_past, grown_at, children, level, grown}
use Rattle.grown_plans.specs.AskedPoints.{sites_from, sites_after, sites_past, is_asked_again, AskAlike, AsksLikeParent, GrowsByAsked, GoesOnwardByAsked, ReachesByAsked}
use Rattle.grown_plans.specs.Promises.{IsLawful, NeedsNoSeed}
use Rattle.grown_plans.proofs.Members.{all_weaker, all_both, all_append}
use Rattle.grown_plans.proofs.PlayedRuns.{points_of, history_points}
use Rattle.grown_plans.proofs.PlanRuns.{count_points, needs_no_seed, plan_path}
use Rattle.grown_plans.proofs.Levels.{IsGrown, level_grown}
use Rattle.grown_plans.proofs.FirstHits.{ask_alike}
use Rattle.grown_plans.proofs.Onward.{no_seed_needed, RunsAlike, grown_runs_alike}
use Rattle.grown_plans.proofs.Paths.{IsPath, hit_is, times_met}

abbrev pub sites_of : List Met → List Site
sites_of ms = map (λ m. m.site) ms

site_is : (before : List Met) (p : ℕ) → site_after before p ≡ record { point = p; hit = times p (points_of before) + 1 }
site_is before p = ap (λ n. let s : Site = record { point = p; hit = n + 1 } in s) (sym (count_points p 0 before))

sites_met : (before : List Met) (hs : List Hit) → sites_of (met_after before hs) ≡ sites_of before ++ sites_from (points_of before) (map (λ h. h.point) hs)
sites_met before [] = sym (append-nil (sites_of before))
sites_met before (h ∷ hs) =
    let m : Met = met (site_after before h.point) (reply_of h.did) in
    let rest : List ℕ = map (λ (x : Hit). x.point) hs in
    sites_met (before ++ m ∷ []) hs
    ∙ ap (λ l. l ++ sites_from (points_of (before ++ m ∷ [])) rest) (map-append (λ (x : Met). x.site) before (m ∷ []))
    ∙ append_assoc (sites_of before) (m.site ∷ []) (sites_from (points_of (before ++ m ∷ [])) rest)
    ∙ ap (λ l. sites_of before ++ m.site ∷ sites_from l rest) (map-append (λ (x : Met). x.site.point) before (m ∷ []))
    ∙ ap (λ (s : Site). sites_of before ++ s ∷ sites_from (points_of before ++ h.point ∷ []) rest) (site_is before h.point)

-- a run's hits are those of the points that its case asked
pub run_sites : (asks : List Reply → Move) (g : Given) → sites_of (run asks g) ≡ sites_from [] (outcome asks g).asked
unfolding run
run_sites asks g =
    let r : Run = play (suc g.limit) asks (start g) in
    sites_met [] (history_of r) ∙ ap (sites_from []) (history_points r.given [] (asked r))

pub after_case : (s : Site) (m : Met) (ms : List Met) (b : Bool) → sites_of (hits_after s ms) ≡ sites_after s (sites_of ms) → sites_of (cond b ms (hits_after s ms)) ≡ cond b (sites_of ms) (sites_after s (sites_of ms))
after_case s m ms true e = refl
after_case s m ms false e = e

pub after_sites : (s : Site) (ms : List Met) → sites_of (hits_after s ms) ≡ sites_after s (sites_of ms)
after_sites s [] = refl
after_sites s (m ∷ ms) = after_case s m ms (is_at s m) (after_sites s ms)

pub past_sites : (plan : List Rig) (ms : List Met) → sites_of (hits_past plan ms) ≡ sites_past plan (sites_of ms)
past_sites [] ms = refl
past_sites (r ∷ rs) ms = after_sites r.site ms

abbrev grown_by : (ℕ → List Kind) → List Rig → Site → List (List Rig)
grown_by kinds plan s = map (λ kind. rig s kind ∷ plan) (kinds s.point)

by_sites : (t : Subject) (plan : List Rig) (ms : List Met) → flat_map (grown_at t plan) ms ≡ flat_map (grown_by t.kinds plan) (sites_of ms)
by_sites t plan [] = refl
by_sites t plan (m ∷ ms) = ap (λ l. grown_at t plan m ++ l) (by_sites t plan ms)

children_are : (t : Subject) (plan : List Rig) (ms : List Met) → run_of_plan t plan ≡ ms → children t plan ≡ flat_map (grown_by t.kinds plan) (sites_past plan (sites_of ms))
children_are t plan ms e =
    by_sites t plan (hits_past plan (run_of_plan t plan))
    ∙ ap (flat_map (grown_by t.kinds plan)) (past_sites plan (run_of_plan t plan))
    ∙ ap (λ (l : List Met). flat_map (grown_by t.kinds plan) (sites_past plan (sites_of l))) e

pub grows_by_asked : (t : Subject) → IsLawful t → (n : ℕ) → AllByRecursion (GrowsByAsked t) (level t n)
grows_by_asked t l n =
    all_weaker (IsGrown t n) (GrowsByAsked t)
    (λ plan g seed stream.
    children_are t plan (run t.asks (given_for t plan seed stream)) (sym (needs_no_seed t l plan g.can seed stream))
    ∙ ap (λ (l : List Site). flat_map (grown_by t.kinds plan) (sites_past plan l)) (run_sites t.asks (given_for t plan seed stream)))
    (level t n) (level_grown t l n)

-- ---- how often a run hits a point

points_sites : (ms : List Met) → points_of ms ≡ map (λ s. s.point) (sites_of ms)
points_sites [] = refl
points_sites (m ∷ ms) = ap (λ l. m.site.point ∷ l) (points_sites ms)

sites_points : (before asked : List ℕ) → map (λ s. s.point) (sites_from before asked) ≡ asked
sites_points before [] = refl
sites_points before (p ∷ ps) = ap (λ l. p ∷ l) (sites_points (before ++ p ∷ []) ps)

asked_points : (asks : List Reply → Move) (g : Given) → points_of (run asks g) ≡ (outcome asks g).asked
asked_points asks g = points_sites (run asks g) ∙ ap (map (λ (s : Site). s.point)) (run_sites asks g) ∙ sites_points [] (outcome asks g).asked

reaches : (t : Subject) (plan : List Rig) → NeedsNoSeed t plan → ReachesByAsked t plan
reaches t plan same seed stream point =
    ap (count_by (λ (m : Met). m.site.point == point)) (sym (same seed stream))
    ∙ sym (count_points point 0 (run t.asks (given_for t plan seed stream)))
    ∙ ap (times point) (asked_points t.asks (given_for t plan seed stream))

pub reaches_by_asked : (t : Subject) → IsLawful t → (d : ℕ) → AllByRecursion (ReachesByAsked t) (grown t d)
reaches_by_asked t l d = all_weaker (NeedsNoSeed t) (ReachesByAsked t) (reaches t) (grown t d) (no_seed_needed t l d)

-- ---- whether its last fault's point is hit again

any_sites : (f : Site → Bool) (ms : List Met) → list_any (λ m. f m.site) ms ≡ list_any f (sites_of ms)
any_sites f [] = refl
any_sites f (m ∷ ms) = ap (λ b. f m.site || b) (any_sites f ms)

hit_again : (t : Subject) (r : Rig) (rs : List Rig) (g : Given) → run t.asks g ≡ run_of_plan t (r ∷ rs)
    → is_hit_again r.site (run_of_plan t (r ∷ rs)) ≡ is_asked_again (r ∷ rs) (outcome t.asks g).asked
hit_again t r rs g same =
    any_sites (λ s. s.point == r.site.point) (hits_after r.site (run_of_plan t (r ∷ rs)))
    ∙ ap (list_any (λ (s : Site). s.point == r.site.point))
    (after_sites r.site (run_of_plan t (r ∷ rs)) ∙ ap (λ (ms : List Met). sites_after r.site (sites_of ms)) (sym same) ∙ ap (sites_after r.site) (run_sites t.asks g))

goes_onward : (t : Subject) (plan : List Rig) → NeedsNoSeed t plan → GoesOnwardByAsked t plan
goes_onward t [] same seed stream = refl
goes_onward t (r ∷ rs) same seed stream =
    ap (λ b. cond (is_once_return r.kind && b) ((rig r.site (OnwardReturn (text_of r.kind)) ∷ rs) ∷ []) [])
    (hit_again t r rs (given_for t (r ∷ rs) seed stream) (same seed stream))

pub goes_onward_by_asked : (t : Subject) → IsLawful t → (n : ℕ) → AllByRecursion (GoesOnwardByAsked t) (level t n)
goes_onward_by_asked t l n =
    all_weaker (IsGrown t n) (GoesOnwardByAsked t) (λ plan g. goes_onward t plan (needs_no_seed t l plan g.can)) (level t n) (level_grown t l n)

-- ---- a run asks points of the catalogue

move_within : (b : Bool) (points : ℕ) (move : Move) → AsksWithin points move → AsksWithin points (cond b (Done Kept) move)
move_within true points move w = tt
move_within false points move w = w

moved_within : (points : ℕ) (move : Move) (r : Run) (f : ℕ → Run) → AsksWithin points move → AllByRecursion (λ p. p < points) r.hits
    → ((p : ℕ) → p < points → AllByRecursion (λ q. q < points) (f p).hits) → AllByRecursion (λ p. p < points) (moved move r f).hits
moved_within points (Ask p) r f w all further = further p w
moved_within points (Done j) r f w all further = all
moved_within points Unknown r f w all further = all

played_within : (asks : List Reply → Move) (points : ℕ) → ((answers : List Reply) → AsksWithin points (asks answers)) → (n : ℕ) (r : Run)
    → AllByRecursion (λ p. p < points) r.hits → AllByRecursion (λ p. p < points) (play n asks r).hits
unfolding play
played_within asks points within zero r all = all
played_within asks points within (suc n) r all =
    moved_within points (move_in asks r) r (λ p. play n asks (hit r p)) (move_within (is_cut_short r) points (asks (replies r)) (within (replies r))) all
    (λ p few. played_within asks points within n (hit r p) (all_append (λ q. q < points) r.hits (p ∷ []) all (few, tt)))

taken_within : (points n : ℕ) (ps : List ℕ) → AllByRecursion (λ p. p < points) ps → AllByRecursion (λ p. p < points) (take n ps)
taken_within points zero [] all = tt
taken_within points zero (p ∷ ps) all = tt
taken_within points (suc n) [] all = tt
taken_within points (suc n) (p ∷ ps) all = (all.0, taken_within points n ps all.1)

pub asked_within : (t : Subject) → IsLawful t → (g : Given) → AllByRecursion (λ p. p < length t.names) (outcome t.asks g).asked
asked_within t l g =
    let r : Run = play (suc g.limit) t.asks (start g) in
    taken_within (length t.names) r.given.limit r.hits (played_within t.asks (length t.names) l.within (suc g.limit) (start g) tt)

-- ---- a plan's run asks like its parent's

asked_split : (t : Subject) (plan : List Rig) (seed stream : ℕ) → NeedsNoSeed t plan → (b : List Met) (m : Met) (x : List Met) → run_of_plan t plan ≡ b ++ m ∷ x
    → (outcome t.asks (given_for t plan seed stream)).asked ≡ points_of b ++ m.site.point ∷ points_of x
asked_split t plan seed stream same b m x e =
    sym (asked_points t.asks (given_for t plan seed stream)) ∙ ap points_of (same seed stream ∙ e) ∙ map-append (λ (k : Met). k.site.point) b (m ∷ x)

like_at : (t : Subject) → IsLawful t → (r : Rig) (rs : List Rig) → NeedsNoSeed t (r ∷ rs) → RunsAlike t (r ∷ rs) → (seed stream other : ℕ)
    → AskAlike r.site (outcome t.asks (given_for t (r ∷ rs) seed stream)).asked (outcome t.asks (given_for t rs seed other)).asked
like_at t l r rs same alike seed stream other =
    let (b, m, n, x, y, own, parents, at, there, can) = alike in
    let path : IsPath t.asks t.limit [] (b ++ n ∷ y) = subst (λ (ms : List Met). IsPath t.asks t.limit [] ms) parents (plan_path t rs) in
    ask_alike r.site (outcome t.asks (given_for t (r ∷ rs) seed stream)).asked (outcome t.asks (given_for t rs seed other)).asked (record {
      before = points_of b;
      after = points_of x;
      others = points_of y;
      first = asked_split t (r ∷ rs) seed stream same b m x own ∙ ap (λ (s : Site). points_of b ++ s.point ∷ points_of x) at;
      second = asked_split t rs seed other (needs_no_seed t l rs can) b n y parents ∙ ap (λ (s : Site). points_of b ++ s.point ∷ points_of y) there;
      hit =
          ap (λ k. k + 1) (count_points r.site.point 0 b) ∙ ap (λ (s : Site). times_met s.point b + 1) (sym there) ∙ sym (hit_is t.asks t.limit b n y path)
          ∙ ap (λ (s : Site). s.hit) there;
    })

like_parent : (t : Subject) → IsLawful t → (plan : List Rig) → NeedsNoSeed t plan → RunsAlike t plan → AsksLikeParent t plan
like_parent t l plan same alike = λ r rs e seed stream other.
    subst (λ (p : List Rig). AskAlike r.site (outcome t.asks (given_for t p seed stream)).asked (outcome t.asks (given_for t rs seed other)).asked) (sym e)
    (like_at t l r rs (subst (NeedsNoSeed t) e same) (subst (RunsAlike t) e alike) seed stream other)

pub asks_like_parents : (t : Subject) → IsLawful t → (d : ℕ) → AllByRecursion (AsksLikeParent t) (grown t d)
asks_like_parents t l d =
    all_weaker (λ plan. NeedsNoSeed t plan × RunsAlike t plan) (AsksLikeParent t) (λ plan h. like_parent t l plan h.0 h.1) (grown t d)
    (all_both (NeedsNoSeed t) (RunsAlike t) (grown t d) (no_seed_needed t l d) (grown_runs_alike t l d))
