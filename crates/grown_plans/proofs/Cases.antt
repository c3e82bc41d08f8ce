-- Each case in which at most d faults act has the run of one plan of levels 0 to d.
use Rattle.std.proofs.Common.{◌≡◌, ℕ, zero, suc, ◌+◌, ◌-◌, ◌≤◌, ◌==◌, ◌&&◌, ◌⊎◌, inl, inr, Bool, true, false, List, [], ◌∷◌, map, length, refl, ap, sym, ◌∙◌, subst, arith}
use Rattle.std.specs.Prelude.{Contains, flat_map}
use Rattle.std.specs.List.{AllByRecursion}
use Rattle.std.proofs.lemmas.List.{append-nil}
use Rattle.std.proofs.lemmas.Bool.{cases_lt}
use Rattle.std.proofs.lemmas.Bool.Decides.{nat_tests}
use Rattle.action_eval.specs.declared.rig.Site.{Site}
use Rattle.action_eval.specs.declared.rig.Rig.{Rig}
use Rattle.action_eval.specs.declared.rig.Kind.{Kind}
use Rattle.action_eval.specs.Answers.{Reply, Go, given_of}
use Rattle.action_eval.specs.RiggedScenario.{rig, rigged_scenario}
use Rattle.target_trait.specs.Outcomes.{judged}
use Rattle.target_trait.specs.declared.judgement.Verdict.TheVariants.{Fail}
use Rattle.plan_gen.specs.RiggedAnswers.{AreInOrder, is_onward, acts_at, reply_by, rigged_reply}
use Rattle.grown_plans.specs.Runs.{Met, run, acting}
use Rattle.grown_plans.specs.GrownPlans.{Subject, run_of_plan, children, level, levels}
use Rattle.grown_plans.specs.Promises.{EachTwo, IsLawful, IsOfKinds, FaultCase, run_in, verdict_in, IsTried, KeepsPrefix, SkipsNothing, IsLeast, IsWhole}
use Rattle.grown_plans.proofs.Members.{all_weaker, all_contains, contains_head, contains_tail, two_weaker, one_of, no_more}
use Rattle.grown_plans.proofs.Paths.{replies_of, IsPath, AnsweredBy, same_path}
use Rattle.grown_plans.proofs.PlayedRuns.{run_path, run_judged}
use Rattle.grown_plans.proofs.RiggedScenarios.{CanAct, reply_here, reply_there, same_site}
use Rattle.grown_plans.proofs.PlanRuns.{answers_of, plan_path, plan_answered, plan_judged, rigs_answered, rigs_path, rigs_unpaused}
use Rattle.grown_plans.proofs.Faults.{noted, faults, faults_length, acts_once, can_act, faults_answer, faults_among, noted_kind}
use Rattle.grown_plans.proofs.Levels.{IsGrown, level_grown, in_level}
use Rattle.grown_plans.proofs.Apart.{RunApart, level_in_levels, levels_run_apart}

-- ---- the plan of a run

pub whole_can : (t : Subject) (ms : List Met) → IsPath t.asks t.limit [] ms → CanAct (faults [] ms)
whole_can t ms p = can_act (faults [] ms) ms (faults_among t.asks t.limit ms [] (subst (λ (x : List Met). IsPath t.asks t.limit [] x) (sym (append-nil ms)) p))

pub whole_run : (t : Subject) → IsLawful t → (ms : List Met) → IsPath t.asks t.limit [] ms → run_of_plan t (faults [] ms) ≡ ms
whole_run t l ms p =
    let plan : List Rig = faults [] ms in
    same_path t.asks (answers_of plan) t.limit [] (run_of_plan t plan) ms (plan_path t plan) p (plan_answered t l plan (whole_can t ms p))
    (faults_answer t.asks t.limit ms [] (subst (λ (x : List Met). IsPath t.asks t.limit [] x) (sym (append-nil ms)) p))

pub case_path : (t : Subject) (c : FaultCase t) → IsPath t.asks t.limit [] (run_in t c)
case_path t c = run_path t.asks (given_of c.scenario t.names c.seed c.stream t.limit) c.unpaused

pub is_tried : (t : Subject) → IsLawful t → (c : FaultCase t) (plan : List Rig) → CanAct plan → run_of_plan t plan ≡ run_in t c → IsTried t c plan
is_tried t l c plan can e =
    (e, λ seed stream. plan_judged t l plan can seed stream ∙ ap (λ ms. judged (t.asks (replies_of ms))) e ∙ sym (run_judged t.asks c.scenario t.names c.seed c.stream t.limit c.unpaused))

pub case_plan : (t : Subject) → IsLawful t → (c : FaultCase t) → IsTried t c (faults [] (run_in t c))
case_plan t l c =
    let ms : List Met = run_in t c in
    is_tried t l c (faults [] ms) (whole_can t ms (case_path t c)) (whole_run t l ms (case_path t c))

pub case_in_level : (t : Subject) → IsLawful t → (c : FaultCase t) → Contains (level t (acting (run_in t c))) (faults [] (run_in t c))
case_in_level t l c = in_level t l (acting (run_in t c)) (run_in t c) (case_path t c) c.of_kinds (faults_length (run_in t c))

pub no_two_tried : (t : Subject) (c : FaultCase t) (plans : List (List Rig)) → EachTwo (RunApart t) plans → EachTwo (λ a b. IsTried t c a → IsTried t c b → ⊥) plans
no_two_tried t c plans e = two_weaker (RunApart t) (λ a b. IsTried t c a → IsTried t c b → ⊥) (λ a b h x y. h (x.0 ∙ sym y.0)) plans e

pub skips_nothing : (t : Subject) → IsLawful t → (d : ℕ) → SkipsNothing t d
skips_nothing t l d c few =
    one_of (IsTried t c) (levels t d) (faults [] (run_in t c)) (level_in_levels t d (acting (run_in t c)) (faults [] (run_in t c)) few (case_in_level t l c)) (case_plan t l c)
    (no_two_tried t c (levels t d) (levels_run_apart t l d))

pub keeps_prefix : (t : Subject) → IsLawful t → (n : ℕ) → AllByRecursion (KeepsPrefix t) (level t n)
keeps_prefix t l n = all_weaker (IsGrown t n) (KeepsPrefix t) (λ plan g. g.prefix) (level t n) (level_grown t l n)

-- ---- whole

none_further : (t : Subject) (n k : ℕ) → level t n ≡ [] → level t (k + n) ≡ []
unfolding level
none_further t n zero e = ap (level t) (let s : 0 + n ≡ n = omega arith in s) ∙ e
none_further t n (suc k) e = ap (level t) (let s : suc k + n ≡ suc (k + n) = omega arith in s) ∙ ap (flat_map (children t)) (none_further t n k e)

in_none : {A : Type 0} (xs : List A) (x : A) → xs ≡ [] → Contains xs x → ⊥
in_none {A} xs x e (k, less, is) = let none : length xs ≡ 0 = ap (λ (l : List A). length l) e in absurd (omega (arith, less, none))

at_most : (t : Subject) (d n : ℕ) (plan : List Rig) → level t (suc d) ≡ [] → Contains (level t n) plan → n ≤ d
at_most t d n plan e c = elim (cases_lt d n) [
  | inl more ↦
      let k : ℕ = n - suc d in
      let at : k + suc d ≡ n = omega (arith, more) in
      absurd (in_none (level t n) plan (ap (level t) (sym at) ∙ none_further t (suc d) k e) c)
  | inr less ↦ omega (arith, less)
]

pub is_whole : (t : Subject) → IsLawful t → (d : ℕ) → IsWhole t d
is_whole t l d e c = skips_nothing t l d c (at_most t d (acting (run_in t c)) (faults [] (run_in t c)) e (case_in_level t l c))

-- ---- rigged hits as a case

record Found (rigs : List Rig) (p k : ℕ) : Type 0 where
  r : Rig
  in' : Contains rigs r
  point : r.site.point ≡ p
  hit : r.site.hit ≡ k
  replies : rigged_reply rigs p k ≡ reply_by r.kind

acts_so : (r : Rig) (p k : ℕ) (x y : Bool) → (r.site.point == p) ≡ x → (r.site.hit == k) ≡ y → (x && y) ≡ true → (r.site.point ≡ p) × (r.site.hit ≡ k)
acts_so r p k true true e h a = ((let goal : r.site.point ≡ p = grind (arith, nat_tests, e) in goal), (let goal : r.site.hit ≡ k = grind (arith, nat_tests, h) in goal))
acts_so r p k true false e h a = absurd cc
acts_so r p k false y e h a = absurd cc

found_case : (r : Rig) (rs : List Rig) (p k : ℕ) (b : Bool) → acts_at p k r ≡ b → is_onward r.kind ≡ false → (rigged_reply rs p k ≡ Go) ⊎ Found rs p k → (rigged_reply (r ∷ rs) p k ≡ Go) ⊎ Found (r ∷ rs) p k
found_case r rs p k true e once f =
    let at = acts_so r p k (r.site.point == p) (r.site.hit == k) refl refl (sym (acts_once r.site r.kind p k once) ∙ e) in
    inr (record { r = r; in' = contains_head r rs; point = at.0; hit = at.1; replies = reply_here p k r rs e })
found_case r rs p k false e once (inl go) = inl (reply_there p k r rs e ∙ go)
found_case r rs p k false e once (inr f) = inr (record { r = f.r; in' = contains_tail r f.r rs f.in'; point = f.point; hit = f.hit; replies = reply_there p k r rs e ∙ f.replies })

found : (rigs : List Rig) (p k : ℕ) → AllByRecursion (λ r. is_onward r.kind ≡ false) rigs → (rigged_reply rigs p k ≡ Go) ⊎ Found rigs p k
found [] p k o = inl refl
found (r ∷ rs) p k o = found_case r rs p k (acts_at p k r) refl o.0 (found rs p k o.1)

pub rigs_kinds : (kinds : ℕ → List Kind) (rigs : List Rig) → AllByRecursion (λ r. is_onward r.kind ≡ false) rigs → AllByRecursion (λ r. Contains (kinds r.site.point) r.kind) rigs
    → (ms : List Met) → AnsweredBy (λ s. rigged_reply rigs s.point s.hit) ms → IsOfKinds kinds ms
rigs_kinds kinds rigs o k ms a =
    all_weaker (λ (m : Met). m.reply ≡ rigged_reply rigs m.site.point m.site.hit) _
    (λ m e. elim (found rigs m.site.point m.site.hit o) [
      | inl go ↦ inl (e ∙ go)
      | inr f ↦ inr (f.r.kind, subst (λ p. Contains (kinds p) f.r.kind) f.point (all_contains (λ r. Contains (kinds r.site.point) r.kind) rigs f.r k f.in'), e ∙ f.replies)
    ]) ms a

noted_in : (rigs acc : List Rig) (m : Met) → AllByRecursion (λ r. is_onward r.kind ≡ false) rigs → m.reply ≡ rigged_reply rigs m.site.point m.site.hit → AllByRecursion (Contains rigs) acc
    → (rigged_reply rigs m.site.point m.site.hit ≡ Go) ⊎ Found rigs m.site.point m.site.hit → AllByRecursion (Contains rigs) (noted m.site m.reply acc)
noted_in rigs acc m o e a (inl go) = subst (λ (r : Reply). AllByRecursion (Contains rigs) (noted m.site r acc)) (sym (e ∙ go)) a
noted_in rigs acc m o e a (inr f) =
    let same : f.r ≡ rig m.site f.r.kind = ap (λ (s : Site). rig s f.r.kind) (same_site f.r.site m.site f.point f.hit) in
    let once : is_onward f.r.kind ≡ false = all_contains (λ r. is_onward r.kind ≡ false) rigs f.r o f.in' in
    let is : noted m.site m.reply acc ≡ rig m.site f.r.kind ∷ acc = ap (λ (r : Reply). noted m.site r acc) (e ∙ f.replies) ∙ noted_kind m.site f.r.kind acc once in
    subst (AllByRecursion (Contains rigs)) (sym is) (subst (Contains rigs) same f.in', a)

pub faults_in : (rigs acc : List Rig) (ms : List Met) → AllByRecursion (λ r. is_onward r.kind ≡ false) rigs → AnsweredBy (λ s. rigged_reply rigs s.point s.hit) ms → AllByRecursion (Contains rigs) acc
    → AllByRecursion (Contains rigs) (faults acc ms)
faults_in rigs acc [] o a c = c
faults_in rigs acc (m ∷ ms) o a c = faults_in rigs (noted m.site m.reply acc) ms o a.1 (noted_in rigs acc m o a.0 c (found rigs m.site.point m.site.hit o))

pub kinds_once : (t : Subject) → IsLawful t → (rigs : List Rig) → AllByRecursion (λ r. Contains (t.kinds r.site.point) r.kind) rigs → AllByRecursion (λ r. is_onward r.kind ≡ false) rigs
kinds_once t l rigs k = all_weaker (λ r. Contains (t.kinds r.site.point) r.kind) (λ r. is_onward r.kind ≡ false) (λ r c. all_contains (λ kind. is_onward kind ≡ false) (t.kinds r.site.point) r.kind (l.once r.site.point) c) rigs k

abbrev pub rigs_case : (t : Subject) → IsLawful t → (rigs : List Rig) → AreInOrder (map (λ (r : Rig). r.site) rigs) → AllByRecursion (λ r. Contains (t.kinds r.site.point) r.kind) rigs → (seed stream : ℕ) → FaultCase t
rigs_case t l rigs o k seed stream = record {
  scenario = rigged_scenario t.names rigs;
  seed = seed;
  stream = stream;
  unpaused = rigs_unpaused t rigs seed stream;
  of_kinds = rigs_kinds t.kinds rigs (kinds_once t l rigs k) k (run t.asks (given_of (rigged_scenario t.names rigs) t.names seed stream t.limit)) (rigs_answered t l rigs o seed stream);
}

apart_rigs : (rigs : List Rig) → EachTwo (λ r t. r.site ≡ t.site → ⊥) rigs → EachTwo (λ (a b : Rig). a ≡ b → ⊥) rigs
apart_rigs rigs e = two_weaker (λ (r t : Rig). r.site ≡ t.site → ⊥) (λ (a b : Rig). a ≡ b → ⊥) (λ a b h same. h (ap (λ (r : Rig). r.site) same)) rigs e

-- the faults that act are rigged ones, so there are no more of them
pub rigs_faults : (t : Subject) → IsLawful t → (rigs : List Rig) → AreInOrder (map (λ (r : Rig). r.site) rigs) → AllByRecursion (λ r. Contains (t.kinds r.site.point) r.kind) rigs → (seed stream : ℕ)
    → AllByRecursion (Contains rigs) (faults [] (run t.asks (given_of (rigged_scenario t.names rigs) t.names seed stream t.limit)))
rigs_faults t l rigs o k seed stream =
    faults_in rigs [] (run t.asks (given_of (rigged_scenario t.names rigs) t.names seed stream t.limit)) (kinds_once t l rigs k) (rigs_answered t l rigs o seed stream) tt

pub rigs_few : (t : Subject) → IsLawful t → (rigs : List Rig) → AreInOrder (map (λ (r : Rig). r.site) rigs) → AllByRecursion (λ r. Contains (t.kinds r.site.point) r.kind) rigs → (seed stream : ℕ)
    → acting (run t.asks (given_of (rigged_scenario t.names rigs) t.names seed stream t.limit)) ≤ length rigs
rigs_few t l rigs o k seed stream =
    let ms : List Met = run t.asks (given_of (rigged_scenario t.names rigs) t.names seed stream t.limit) in
    let can : CanAct (faults [] ms) = whole_can t ms (rigs_path t rigs seed stream) in
    let few : length (faults [] ms) ≤ length rigs = no_more (faults [] ms) rigs (apart_rigs (faults [] ms) can.sites_apart) (rigs_faults t l rigs o k seed stream) in
    let is = faults_length ms in
    omega (arith, few, is)

-- ---- least

pub is_least : (t : Subject) → IsLawful t → (d : ℕ) → IsLeast t d
is_least t l d seed stream code none =
    (least, λ rigs o k few. least (rigs_case t l rigs o k seed stream) (let acts = rigs_few t l rigs o k seed stream in let goal : acting (run_in t (rigs_case t l rigs o k seed stream)) ≤ d = below _ _ _ acts few in goal))
  where
    least : (c : FaultCase t) → acting (run_in t c) ≤ d → verdict_in t c ≡ Fail code → ⊥
    least c few e =
        let plan : List Rig = faults [] (run_in t c) in
        all_contains _ (levels t d) plan none (level_in_levels t d (acting (run_in t c)) plan few (case_in_level t l c)) ((case_plan t l c).1 seed stream ∙ e)

    below : (a b c : ℕ) → a ≤ b → b ≤ c → a ≤ c
    below a b c h k = omega (arith, h, k)
