-- The run of rigged hits: each hit is answered as rigged, under every seed and stream number, and no pause stops it.
use Rattle.std.proofs.Common.{◌≡◌, ℕ, zero, suc, ◌+◌, ◌-◌, ◌<◌, ◌==◌, Bool, true, false, cond, Option, Some, None, List, [], ◌∷◌, ◌++◌, map, length, refl, ap, sym, ◌∙◌, subst, arith, bytes_eq}
use Rattle.std.specs.Prelude.{slice_get}
use Rattle.std.specs.List.{AllByRecursion, fold}
use Rattle.std.specs.Option.{option_or, option_map_or}
use Rattle.std.proofs.lemmas.List.{length_push, length-map}
use Rattle.scenario_values.specs.declared.term.Term.{Term}
use Rattle.scenario_values.specs.declared.term.Task.{Task}
use Rattle.scenario_values.specs.declared.term.Task.TheVariants as task
use Rattle.scenario_values.specs.Scenario.{Entries, chain_of}
use Rattle.action_eval.specs.declared.answer.Stop.{Stop}
use Rattle.action_eval.specs.declared.answer.Stop.TheVariants as stop
use Rattle.action_eval.specs.declared.rig.Site.{Site}
use Rattle.action_eval.specs.declared.rig.Rig.{Rig}
use Rattle.action_eval.specs.declared.rig.Kind.{Kind}
use Rattle.action_eval.specs.declared.rig.Kind.TheVariants.{OnceReturn, OnwardReturn, OncePanic}
use Rattle.action_eval.specs.Answers.{Given, Run, Hit, Reply, given_of, start, history_of, and_then, next, stopped, stopped_by, stop_of, task_at, name_of, is_over, asked, hit}
use Rattle.action_eval.specs.RiggedScenario.{rigged_scenario, entries_from, entry, chain_from, terms_at, done_after, rigged, term_of, full}
use Rattle.target_trait.specs.Play.{Move, Ask, Done, Unknown, AsksWithin, move_in}
use Rattle.target_trait.specs.Outcomes.{play, moved, judged}
use Rattle.plan_gen.specs.LoopRuns.{times}
use Rattle.plan_gen.specs.RiggedAnswers.{AreInOrder, AnswersAsRigged, rigged_reply}
use Rattle.plan_gen.proofs.RiggedRuns.{answers_as_rigged}
use Rattle.grown_plans.specs.Runs.{Met, run, IsUnpaused}
use Rattle.grown_plans.specs.GrownPlans.{Subject, rigs_of, given_for, run_of_plan}
use Rattle.grown_plans.specs.Promises.{IsLawful, verdict_of_rigs, verdict_of_plan, NeedsNoSeed}
use Rattle.grown_plans.proofs.Members.{all_weaker, all_append}
use Rattle.grown_plans.proofs.Paths.{replies_of, next_is, IsPath, AnsweredBy, same_path}
use Rattle.grown_plans.proofs.PlayedRuns.{points_of, Answered, run_path, run_answered, run_judged}
use Rattle.grown_plans.proofs.RiggedScenarios.{CanAct, rigs_reply, rigs_order}

-- ---- each hit is answered as rigged

pub count_points : (p n : ℕ) (ms : List Met) → fold (λ a q. a + cond (q == p) 1 0) n (points_of ms) ≡ fold (λ a (m : Met). a + cond (m.site.point == p) 1 0) n ms
count_points p n [] = refl
count_points p n (m ∷ ms) = count_points p (n + cond (m.site.point == p) 1 0) ms

pub is_within : (points p : ℕ) (move : Move) → move ≡ Ask p → AsksWithin points move → p < points
is_within points p move e w = subst (AsksWithin points) e w

as_rigged : (asks : List Reply → Move) (names : List (List ℕ)) → ((answers : List Reply) → AsksWithin (length names) (asks answers)) → (rigs : List Rig) → AnswersAsRigged names rigs
    → (seed stream limit room : ℕ) (before ms : List Met) → length before + room ≡ limit → IsPath asks room before ms → Answered (given_of (rigged_scenario names rigs) names seed stream limit) before ms
    → AnsweredBy (λ s. rigged_reply rigs s.point s.hit) ms
as_rigged asks names within rigs law seed stream limit room before [] e p a = tt
as_rigged asks names within rigs law seed stream limit zero before (m ∷ ms) e p a = absurd p
as_rigged asks names within rigs law seed stream limit (suc room) before (m ∷ ms) e p a =
    let is = next_is asks before m.site p.0 in
    let inside : m.site.point < length names = is_within (length names) m.site.point (asks (replies_of before)) is.0 (within (replies_of before)) in
    let longer : length (before ++ m ∷ []) ≡ length before + 1 = length_push before m in
    let few : length (points_of before) < limit = omega (arith, e, length-map before (λ (x : Met). x.site.point)) in
    let hit : times m.site.point (points_of before) + 1 ≡ m.site.hit = ap (λ n. n + 1) (count_points m.site.point 0 before) ∙ sym (ap (λ (s : Site). s.hit) is.1) in (
      a.0 ∙ law seed stream limit (points_of before) m.site.point inside few ∙ ap (rigged_reply rigs m.site.point) hit,
      as_rigged asks names within rigs law seed stream limit room (before ++ m ∷ []) ms (omega (arith, e, longer)) p.1 a.1,
    )

-- ---- no pause

abbrev Calm : Task → Type 0
Calm k = stop_of k ≡ Some stop.Paused → ⊥

abbrev CalmChain : List Term → Type 0
CalmChain chain = AllByRecursion (λ (t : Term). Calm t.task) chain

calm_off : Calm task.Off
calm_off e = absurd cc

calm_full : (kind : Kind) → Calm (term_of kind).task
calm_full (OnceReturn text) e = absurd cc
calm_full (OnwardReturn text) e = absurd cc
calm_full OncePanic e = absurd cc

calm_offs : (b : Bool) (n : ℕ) (rest : List Term) → CalmChain rest → CalmChain (cond b [] (full (Some n) task.Off ∷ []) ++ rest)
calm_offs true n rest c = c
calm_offs false n rest c = (calm_off, c)

calm_rigged_case : (b : Bool) (done : ℕ) (r : Rig) → CalmChain (cond b (rigged done r) [])
calm_rigged_case true done r = calm_offs (r.site.hit - done - 1 == 0) (r.site.hit - done - 1) (term_of r.kind ∷ []) (calm_full r.kind, tt)
calm_rigged_case false done r = tt

calm_chain : (p done : ℕ) (rigs : List Rig) → CalmChain (chain_from p done rigs)
calm_chain p done [] = tt
calm_chain p done (r ∷ rs) =
    all_append (λ (t : Term). Calm t.task) (terms_at p done r) (chain_from p (done_after p done r) rs) (calm_rigged_case (r.site.point == p) done r) (calm_chain p (done_after p done r) rs)

abbrev CalmEntries : Entries → Type 0
CalmEntries es = AllByRecursion (λ (e : List ℕ × List Term). CalmChain e.1) es

calm_entry : (name : List ℕ) (chain : List Term) → CalmChain chain → CalmEntries (entry name chain)
calm_entry name [] c = tt
calm_entry name (t ∷ ts) c = (c, tt)

calm_entries : (p : ℕ) (names : List (List ℕ)) (rigs : List Rig) → CalmEntries (entries_from p names rigs)
calm_entries p [] rigs = tt
calm_entries p (n ∷ ns) rigs =
    all_append (λ (e : List ℕ × List Term). CalmChain e.1) (entry n (chain_from p 0 rigs)) (entries_from (p + 1) ns rigs) (calm_entry n (chain_from p 0 rigs) (calm_chain p 0 rigs)) (calm_entries (p + 1) ns rigs)

calm_case : (b : Bool) (c d : List Term) → CalmChain c → CalmChain d → CalmChain (cond b c d)
calm_case true c d x y = x
calm_case false c d x y = y

calm_of : (es : Entries) (name : List ℕ) → CalmEntries es → CalmChain (chain_of es name)
calm_of [] name c = tt
calm_of (e ∷ es) name c = calm_case (bytes_eq name e.0) e.1 (chain_of es name) c.0 (calm_of es name c.1)

calm_at : (chain : List Term) (i : ℕ) → CalmChain chain → Calm (option_map_or (λ (t : Term). t.task) (slice_get chain i) task.Off)
calm_at [] i c = calm_off
calm_at (t ∷ ts) zero c = c.0
calm_at (t ∷ ts) (suc i) c = calm_at ts i c.1

calm_task : (chain : List Term) (place : Option ℕ) → CalmChain chain → Calm (task_at chain place)
calm_task chain None c = calm_off
calm_task chain (Some i) c = calm_at chain i c

calm_history : (g : Given) → CalmEntries g.scenario → (h : List Hit) (ps : List ℕ) → AllByRecursion (λ (x : Hit). Calm x.did) h → AllByRecursion (λ (x : Hit). Calm x.did) (and_then g h ps)
calm_history g c h [] a = a
calm_history g c h (p ∷ ps) a =
    calm_history g c (h ++ next g h p ∷ []) ps (all_append (λ (x : Hit). Calm x.did) h (next g h p ∷ []) a (calm_task (chain_of g.scenario (name_of g p)) _ (calm_of g.scenario (name_of g p) c), tt))

calm_or : (o q : Option Stop) → (o ≡ Some stop.Paused → ⊥) → (q ≡ Some stop.Paused → ⊥) → option_or o q ≡ Some stop.Paused → ⊥
calm_or None q a b e = b e
calm_or (Some s) q a b e = a e

calm_stop : (h : List Hit) → AllByRecursion (λ (x : Hit). Calm x.did) h → stopped_by h ≡ Some stop.Paused → ⊥
calm_stop [] a e = absurd cc
calm_stop (x ∷ h) a e = calm_or (stopped_by h) (stop_of x.did) (calm_stop h a.1) a.0 e

calm_over : (b : Bool) (o : Option Stop) → (o ≡ Some stop.Paused → ⊥) → cond b (Some stop.Limit) o ≡ Some stop.Paused → ⊥
calm_over true o a e = absurd cc
calm_over false o a e = a e

calm_run : (r : Run) → CalmEntries r.given.scenario → stopped r ≡ Some stop.Paused → ⊥
calm_run r c e = calm_over (is_over r) (stopped_by (history_of r)) (calm_stop (history_of r) (calm_history r.given c [] (asked r) tt)) e

given_moved : (move : Move) (r : Run) (f : ℕ → Run) → ((p : ℕ) → (f p).given ≡ r.given) → (moved move r f).given ≡ r.given
given_moved (Ask p) r f h = h p
given_moved (Done j) r f h = refl
given_moved Unknown r f h = refl

same_given : (n : ℕ) (asks : List Reply → Move) (r : Run) → (play n asks r).given ≡ r.given
unfolding play
same_given zero asks r = refl
same_given (suc n) asks r = given_moved (move_in asks r) r (λ p. play n asks (hit r p)) (λ p. same_given n asks (hit r p))

pub rigs_unpaused : (t : Subject) (rigs : List Rig) (seed stream : ℕ) → IsUnpaused t.asks (given_of (rigged_scenario t.names rigs) t.names seed stream t.limit)
unfolding rigged_scenario
rigs_unpaused t rigs seed stream =
    let g = given_of (rigged_scenario t.names rigs) t.names seed stream t.limit in
    let r = play (suc t.limit) t.asks (start g) in
    calm_run r (subst (λ (x : Given). CalmEntries x.scenario) (sym (same_given (suc t.limit) t.asks (start g))) (calm_entries 0 t.names rigs))

-- the run of rigged hits is a path
pub rigs_path : (t : Subject) (rigs : List Rig) (seed stream : ℕ) → IsPath t.asks t.limit [] (run t.asks (given_of (rigged_scenario t.names rigs) t.names seed stream t.limit))
rigs_path t rigs seed stream = run_path t.asks (given_of (rigged_scenario t.names rigs) t.names seed stream t.limit) (rigs_unpaused t rigs seed stream)

-- ---- what it comes to

-- the run of these rigged hits
pub rigs_answered : (t : Subject) → IsLawful t → (rigs : List Rig) → AreInOrder (map (λ (r : Rig). r.site) rigs) → (seed stream : ℕ)
    → AnsweredBy (λ s. rigged_reply rigs s.point s.hit) (run t.asks (given_of (rigged_scenario t.names rigs) t.names seed stream t.limit))
rigs_answered t l rigs o seed stream =
    let g = given_of (rigged_scenario t.names rigs) t.names seed stream t.limit in
    as_rigged t.asks t.names l.within rigs (answers_as_rigged t.names rigs l.catalogue o) seed stream t.limit t.limit [] (run t.asks g) (omega arith) (rigs_path t rigs seed stream) (run_answered t.asks g)

-- the verdict of rigged hits, by their run
pub rigs_judged : (t : Subject) (rigs : List Rig) (seed stream : ℕ)
    → verdict_of_rigs t seed stream rigs ≡ judged (t.asks (replies_of (run t.asks (given_of (rigged_scenario t.names rigs) t.names seed stream t.limit))))
rigs_judged t rigs seed stream = run_judged t.asks (rigged_scenario t.names rigs) t.names seed stream t.limit (rigs_unpaused t rigs seed stream)

-- ---- plans

-- what a plan answers at a site
abbrev pub answers_of : List Rig → Site → Reply
answers_of plan s = rigged_reply plan s.point s.hit

pub plan_path : (t : Subject) (plan : List Rig) → IsPath t.asks t.limit [] (run_of_plan t plan)
unfolding run_of_plan
plan_path t plan = rigs_path t (rigs_of plan) 0 0

given_answered : (t : Subject) → IsLawful t → (plan : List Rig) → CanAct plan → (seed stream : ℕ) → AnsweredBy (answers_of plan) (run t.asks (given_for t plan seed stream))
given_answered t l plan c seed stream =
    all_weaker (λ (m : Met). m.reply ≡ rigged_reply (rigs_of plan) m.site.point m.site.hit) (λ (m : Met). m.reply ≡ answers_of plan m.site)
    (λ m e. e ∙ rigs_reply m.site.point m.site.hit plan c) (run t.asks (given_for t plan seed stream)) (rigs_answered t l (rigs_of plan) (rigs_order plan c) seed stream)

pub plan_answered : (t : Subject) → IsLawful t → (plan : List Rig) → CanAct plan → AnsweredBy (answers_of plan) (run_of_plan t plan)
unfolding run_of_plan
plan_answered t l plan c = given_answered t l plan c 0 0

pub needs_no_seed : (t : Subject) → IsLawful t → (plan : List Rig) → CanAct plan → NeedsNoSeed t plan
unfolding run_of_plan
needs_no_seed t l plan c seed stream =
    same_path t.asks (answers_of plan) t.limit [] (run t.asks (given_for t plan seed stream)) (run t.asks (given_for t plan 0 0))
    (rigs_path t (rigs_of plan) seed stream) (rigs_path t (rigs_of plan) 0 0) (given_answered t l plan c seed stream) (given_answered t l plan c 0 0)

pub plan_judged : (t : Subject) → IsLawful t → (plan : List Rig) → CanAct plan → (seed stream : ℕ) → verdict_of_plan t seed stream plan ≡ judged (t.asks (replies_of (run_of_plan t plan)))
plan_judged t l plan c seed stream =
    rigs_judged t (rigs_of plan) seed stream ∙ ap (λ ms. judged (t.asks (replies_of ms))) (needs_no_seed t l plan c seed stream)
