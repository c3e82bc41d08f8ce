-- A reduction while known answers are put.
use Rattle.std.proofs.Common.{◌≡◌, ℕ, ◌<◌, List, [], ◌∷◌, ◌++◌, Bool, true, false, cond, length, map, fold, Option, Some, None, refl, ap, sym, ◌∙◌, arith, subst, ◌⊎◌, inl, inr}
use Rattle.std.specs.Prelude.{◌||◌, ◌&&◌, option_map, IfSome}
use Rattle.std.specs.List.{AllByRecursion, list_any}
use Rattle.std.specs.FinMap.{get, insert, empty, get-insert, get-empty}
use Rattle.std.specs.Cmp.Lexicographic.{slice_cmp}
use Rattle.std.specs.Ordering.{nat_cmp}
use Rattle.std.proofs.lemmas.Cmp.{nat_list_cmp_total}
use Rattle.std.specs.Cmp.{eq_by_cmp_equiv}
use Rattle.indexmap.specs.IndexSet.{insert_key}
use Rattle.scenario_values.specs.Scenario.{Entries, IsScenario, all_faults}
use Rattle.scenario_values.specs.Keep.{are_faults, kept}
use Rattle.scenario_values.specs.Tidied.{tidied}
use Rattle.scenario_values.proofs.Limits.{kept_scenario, tidied_scenario}
use Rattle.target_trait.specs.declared.judgement.Verdict.{Verdict}
use Rattle.ddmin_parallel.specs.Ddmin.{Decision, Reduced, counted}
use Rattle.ddmin_parallel.specs.Rounds.{Candidate, round}
use Rattle.ddmin_parallel.specs.CoreEvents.{Answers, Agrees as AgreesOn, Known, Position, Empty, Round, End, State, Put, begin, apply, decided, position, next, or_else, first_open, furthest, option_then, after_decision, after_empty, round_at, after_take, is_out, same_set, start, step, without}
use Rattle.ddmin_parallel.proofs.CoreLemmas.{none_open, same_exact, next_gives}
use Rattle.ddmin_parallel.proofs.Walk.{decided_more, furthest_more, furthest_stop, start_lawful, passes_through, ends}
use Rattle.answer_text.specs.Known.{KnownVerdicts, Agrees}
use Rattle.campaign_core.specs.FaultTest.{fails_with, fault_test}
use Rattle.campaign_core.specs.Findings.{reduction}
use Rattle.outside_campaign.specs.Outside.{Component, Components, say, say_each, EachAgrees}
use Rattle.outside_campaign.specs.Reached.{known_tests, place_of, unknown_sets, open_sets, open_candidates, ComesTo, IsReached}
use Rattle.outside_campaign.specs.inside.Tests.{IsTested, IsSettled, IsEnded}
use Rattle.outside_campaign.specs.declared.reduction.Test.{Test}
use Rattle.outside_campaign.specs.declared.reduction.Test.TheVariants.{Told, Untold}
use Rattle.outside_campaign.specs.declared.reduction.Reached.{Reached}
use Rattle.outside_campaign.specs.declared.reduction.Reached.TheVariants.{Reduced as Ended, Open}

-- ---- what is known grows

abbrev pub Grows : Answers → Answers → Type 0
Grows known more = (s : List ℕ) (b : Bool) → known s ≡ Some b → more s ≡ Some b

abbrev sure : Bool → Option Bool
sure b = Some b

sure_is : (b c : Bool) → sure b ≡ sure c → b ≡ c
sure_is b c e = cc

get_after : (known : Known) (s t : List ℕ) (b : Bool) → get (insert known s b) t ≡ cond (same_set t s) (Some b) (get known t)
get_after known s t b = get-insert nat_list_cmp_total known s b t

put_within : (known : Known) (all : Answers) (s : List ℕ) (b : Bool) → Grows (get known) all → all s ≡ Some b → Grows (get (insert known s b)) all
put_within known all s b grows own t d is = at (same_set t s) refl (sym (get_after known s t b) ∙ is)
  where
    at : (c : Bool) → same_set t s ≡ c → cond c (Some b) (get known t) ≡ Some d → all t ≡ Some d
    at true e h = ap all (same_exact t s e) ∙ own ∙ h
    at false e h = grows t d h

put_more : (known : Known) (all : Answers) (s : List ℕ) (b : Bool) → Grows (get known) all → all s ≡ Some b → Grows (get known) (get (insert known s b))
put_more known all s b grows own t d is = at (same_set t s) refl
  where
    at : (c : Bool) → same_set t s ≡ c → get (insert known s b) t ≡ Some d
    at true e = get_after known s t b ∙ ap (λ (c : Bool). cond c (Some b) (get known t)) e ∙ sym own ∙ ap all (sym (same_exact t s e)) ∙ grows t d is
    at false e = get_after known s t b ∙ ap (λ (c : Bool). cond c (Some b) (get known t)) e ∙ is

-- a step that what is known decides, more decides too
step_more : (known more : Answers) → Grows known more → (p q : Position) → step known p ≡ Some q → step more p ≡ Some q
step_more known more grows (Empty faults) q is = at (known []) refl is
  where
    at : (k : Option Bool) → known [] ≡ k → option_then (after_empty faults) k ≡ Some q → step more (Empty faults) ≡ Some q
    at None e is = cc
    at (Some b) e is = rw (grows [] b e, step) is
step_more known more grows (Round c n tests) q is = at (decided known (round c n) tests) (decided_more known more grows (round c n) tests) is
  where
    at : (o : Option Decision) → IfSome o (λ d. decided more (round c n) tests ≡ Some d) → option_then (after_decision c n) o ≡ Some q → step more (Round c n tests) ≡ Some q
    at None e is = cc
    at (Some d) e is = ap (option_then (after_decision c n)) e ∙ is
step_more known more grows (End x) q is = cc

step_less : (known more : Answers) → Grows known more → (p : Position) → step more p ≡ None → step known p ≡ None
step_less known more grows p stuck = at (step known p) refl
  where
    at : (o : Option Position) → step known p ≡ o → o ≡ None
    at None e = refl
    at (Some q) e = absurd (let there = step_more known more grows p q e in cc)

-- ---- the sets of a round of which nothing is known

abbrev Unknown : Answers → List (List ℕ) → Type 0
Unknown all out = AllByRecursion (λ s. all s ≡ None) out

abbrev added : Answers → List (List ℕ) → List Candidate → List (List ℕ)
added all out cs = fold (insert_key same_set) out (unknown_sets all cs)

same_self : (s : List ℕ) → same_set s s ≡ true
same_self s = (eq_by_cmp_equiv nat_list_cmp_total).refl s

out_unknown : (all : Answers) (s : List ℕ) (out : List (List ℕ)) → Unknown all out → list_any (same_set s) out ≡ true → all s ≡ None
out_unknown all s [] h is = absurd cc
out_unknown all s (t ∷ out) h is = at (same_set s t) refl (out_unknown all s out h.1) is
  where
    at : (b : Bool) → same_set s t ≡ b → (list_any (same_set s) out ≡ true → all s ≡ None) → (b || list_any (same_set s) out) ≡ true → all s ≡ None
    at true e later k = ap all (same_exact s t e) ∙ h.0
    at false e later k = later k

any_push : (s t : List ℕ) (out : List (List ℕ)) → list_any (same_set s) out ≡ true → list_any (same_set s) (out ++ t ∷ []) ≡ true
any_push s t [] h = absurd cc
any_push s t (u ∷ out) h = at (same_set s u) (any_push s t out) h
  where
    at : (c : Bool) → (list_any (same_set s) out ≡ true → list_any (same_set s) (out ++ t ∷ []) ≡ true) → (c || list_any (same_set s) out) ≡ true → (c || list_any (same_set s) (out ++ t ∷ [])) ≡ true
    at true later k = refl
    at false later k = later k

any_last : (s : List ℕ) (out : List (List ℕ)) → list_any (same_set s) (out ++ s ∷ []) ≡ true
any_last s [] = rw (same_self s) refl
any_last s (u ∷ out) = at (same_set s u) (any_last s out)
  where
    at : (c : Bool) → list_any (same_set s) (out ++ s ∷ []) ≡ true → (c || list_any (same_set s) (out ++ s ∷ [])) ≡ true
    at true h = refl
    at false h = h

unknown_at : (all : Answers) (c : Candidate) (cs : List Candidate) → all c.set ≡ None → unknown_sets all (c ∷ cs) ≡ c.set ∷ unknown_sets all cs
unknown_at all c cs e = rw (e, unknown_sets) refl

passed_at : (all : Answers) (c : Candidate) (cs : List Candidate) → all c.set ≡ Some false → unknown_sets all (c ∷ cs) ≡ unknown_sets all cs
passed_at all c cs e = rw (e, unknown_sets) refl

failed_at : (all : Answers) (c : Candidate) (cs : List Candidate) → all c.set ≡ Some true → unknown_sets all (c ∷ cs) ≡ []
failed_at all c cs e = rw (e, unknown_sets) refl

abbrev put : List (List ℕ) → List (List ℕ) → List (List ℕ)
put out xs = fold (insert_key same_set) out xs

put_there : (s : List ℕ) (out xs : List (List ℕ)) → list_any (same_set s) out ≡ true → put out (s ∷ xs) ≡ put out xs
put_there s out xs e = ap (λ (b : Bool). put (cond b out (out ++ s ∷ [])) xs) e

put_new : (s : List ℕ) (out xs : List (List ℕ)) → list_any (same_set s) out ≡ false → put out (s ∷ xs) ≡ put (out ++ s ∷ []) xs
put_new s out xs e = ap (λ (b : Bool). put (cond b out (out ++ s ∷ [])) xs) e

abbrev opened : Answers → List (List ℕ) → List Candidate → Option (List ℕ)
opened known out cs = first_open known (λ s. list_any (same_set s) out) cs

abbrev request_is : List ℕ → Option (List ℕ)
request_is s = Some s

set_is : (s t : List ℕ) → request_is s ≡ request_is t → s ≡ t
set_is s t e = cc

-- what the search for a request finds, where what is known is among what all know, and of what is out nothing is known
record Scan (all : Answers) (out : List (List ℕ)) (cs : List Candidate) (o : Option (List ℕ)) : Type 0 where
  same : (s : List ℕ) → o ≡ Some s → all s ≡ None → put (out ++ s ∷ []) (unknown_sets all cs) ≡ put out (unknown_sets all cs)
  stuck : (s : List ℕ) → o ≡ Some s → all s ≡ None → (tests : ℕ) → decided all cs tests ≡ None
  ended : o ≡ None → put out (unknown_sets all cs) ≡ out

scan : (known all : Answers) (out : List (List ℕ)) → Grows known all → Unknown all out → (cs : List Candidate) → Scan all out cs (opened known out cs)
scan known all out grows unknown [] = record { same = λ s h. absurd cc; stuck = λ s h. absurd cc; ended = λ h. refl }
scan known all out grows unknown (c ∷ cs) = at (known c.set) (list_any (same_set c.set) out) refl refl (scan known all out grows unknown cs)
  where
    u : List (List ℕ)
    u = unknown_sets all cs

    waits : all c.set ≡ None → (tests : ℕ) → decided all (c ∷ cs) tests ≡ None
    waits e tests = rw (e, decided) refl

    at : (k : Option Bool) (b : Bool) → known c.set ≡ k → list_any (same_set c.set) out ≡ b → Scan all out cs (opened known out cs)
        → Scan all out (c ∷ cs) (elim k [ None ↦ elim b [ true ↦ opened known out cs | false ↦ Some c.set ] | Some fails ↦ elim fails [ true ↦ None | false ↦ opened known out cs ] ])
    at None true e f r =
        let none : all c.set ≡ None = out_unknown all c.set out unknown f in
        let first = unknown_at all c cs none in
        record {
          same = λ s h n. ap (put (out ++ s ∷ [])) first ∙ put_there c.set (out ++ s ∷ []) u (any_push c.set s out f) ∙ r.same s h n ∙ sym (put_there c.set out u f) ∙ ap (put out) (sym first);
          stuck = λ s h n tests. waits none tests;
          ended = λ h. ap (put out) first ∙ put_there c.set out u f ∙ r.ended h;
        }
    at None false e f r = record {
      same = λ s h n.
          let mine : c.set ≡ s = set_is c.set s h in
          let none : all c.set ≡ None = ap all mine ∙ n in
          let first = unknown_at all c cs none in
          let P : List ℕ → Type 0 = λ x. list_any (same_set c.set) (out ++ x ∷ []) ≡ true in
          ap (put (out ++ s ∷ [])) first ∙ put_there c.set (out ++ s ∷ []) u (subst P mine (any_last c.set out)) ∙ ap (λ (x : List ℕ). put (out ++ x ∷ []) u) (sym mine) ∙ sym (put_new c.set out u f) ∙ ap (put out) (sym first);
      stuck = λ s h n tests. waits (ap all (set_is c.set s h) ∙ n) tests;
      ended = λ h. absurd cc;
    }
    at (Some true) b e f r = record {
      same = λ s h. absurd cc;
      stuck = λ s h. absurd cc;
      ended = λ h. ap (put out) (failed_at all c cs (grows c.set true e));
    }
    at (Some false) b e f r =
        let next = passed_at all c cs (grows c.set false e) in
        record {
          same = λ s h n. ap (put (out ++ s ∷ [])) next ∙ r.same s h n ∙ ap (put out) (sym next);
          stuck = λ s h n tests. rw (grows c.set false e, decided) (r.stuck s h n (counted tests));
          ended = λ h. ap (put out) next ∙ r.ended h;
        }

-- ---- the loop

abbrev scenario_of : Entries → List ℕ → Entries
scenario_of s set = tidied (kept set s)

abbrev tests_of : KnownVerdicts → ℕ → Entries → Answers
tests_of known code s = known_tests known code s

pub record Running (known : KnownVerdicts) (code : ℕ) (s : Entries) (core : State) (untried : List Entries) : Type 0 where
  pub count : core.faults ≡ all_faults s
  pub grows : Grows (get core.known) (tests_of known code s)
  pub unknown : Unknown (tests_of known code s) core.out
  pub same : added (tests_of known code s) core.out (round_at (position core)) ≡ open_sets (tests_of known code s) (round_at (position core))
  pub still : (core.out ≡ []) ⊎ (step (tests_of known code s) (position core) ≡ None)
  pub untried_are : untried ≡ map (scenario_of s) core.out

abbrev empty_map : Known
empty_map = empty

nothing_known : (all : Answers) (faults : ℕ) → Grows (get (begin faults).known) all
nothing_known all faults s b h = let e : get empty_map s ≡ None = get-empty (slice_cmp nat_cmp) s in cc

pub begins : (known : KnownVerdicts) (code : ℕ) (s : Entries) (faults : ℕ) (core : State) → faults ≡ all_faults s → core ≡ begin faults → Running known code s core []
begins known code s faults core e is =
    let P : State → Type 0 = λ c. Running known code s c [] in
    subst P (sym is) (record { count = e; grows = nothing_known (tests_of known code s) faults; unknown = tt; same = refl; still = inl refl; untried_are = refl })

-- where nothing is known of a request, its round waits for it
waits_at : (all : Answers) (out : List (List ℕ)) (known : Answers) (p : Position) (set : List ℕ) → Grows known all → Unknown all out → opened known out (round_at p) ≡ Some set → all set ≡ None → step all p ≡ None
waits_at all out known (Empty faults) set grows unknown h n = by_first (list_any (same_set []) out) (known []) refl h
  where
    by_first : (b : Bool) (k : Option Bool) → known [] ≡ k → elim k [ None ↦ elim b [ true ↦ None | false ↦ request_is [] ] | Some fails ↦ elim fails [ true ↦ None | false ↦ None ] ] ≡ Some set → step all (Empty faults) ≡ None
    by_first true None e k = absurd cc
    by_first false None e k = let mine : [] ≡ set = set_is [] set k in rw (ap all mine ∙ n, step) refl
    by_first b (Some true) e k = absurd cc
    by_first b (Some false) e k = absurd cc
waits_at all out known (Round c n' tests) set grows unknown h n = rw ((scan known all out grows unknown (round c n')).stuck set h n tests, step) refl
waits_at all out known (End r) set grows unknown h n = absurd cc

unknown_push : (all : Answers) (out : List (List ℕ)) (s : List ℕ) → Unknown all out → all s ≡ None → Unknown all (out ++ s ∷ [])
unknown_push all [] s h n = (n, tt)
unknown_push all (t ∷ out) s h n = (h.0, unknown_push all out s h.1 n)

map_push : (f : List ℕ → Entries) (out : List (List ℕ)) (s : List ℕ) → map f (out ++ s ∷ []) ≡ map f out ++ f s ∷ []
map_push f [] s = refl
map_push f (t ∷ out) s = ap (λ (r : List Entries). f t ∷ r) (map_push f out s)

or_first : (o : Option (List ℕ)) (r : Option (List ℕ)) → r ≡ or_else o None → o ≡ r
or_first None r h = sym h
or_first (Some t) r h = sym h

request_of : (core : State) (o : Option (List ℕ)) → o ≡ next core false → opened (get core.known) core.out (round_at (position core)) ≡ o
unfolding next
request_of core o h = or_first (first_open (get core.known) (is_out core) (round_at (position core))) o h

request_opens : (known : KnownVerdicts) (code : ℕ) (s t : Entries) (core : State) (untried : List Entries) (set : List ℕ) → Running known code s core untried → Some set ≡ next core false
    → (tests_of known code s set ≡ None) × (t ≡ scenario_of s set) → Running known code s (after_take core (Some set)) (untried ++ t ∷ [])
unfolding position
request_opens known code s t core untried set r request h =
    let all = tests_of known code s in
    let found = request_of core (Some set) request in
    record {
      count = r.count;
      grows = r.grows;
      unknown = unknown_push all core.out set r.unknown h.0;
      same = (scan (get core.known) all core.out r.grows r.unknown (round_at (position core))).same set found h.0 ∙ r.same;
      still = inr (waits_at all core.out (get core.known) (position core) set r.grows r.unknown found h.0);
      untried_are = ap (λ (u : List Entries). u ++ t ∷ []) r.untried_are ∙ ap (λ (x : Entries). map (scenario_of s) core.out ++ x ∷ []) h.1 ∙ sym (map_push (scenario_of s) core.out set);
    }

without_last : (s : List ℕ) (out : List (List ℕ)) → list_any (same_set s) out ≡ false → without s (out ++ s ∷ []) ≡ out
without_last s [] h = rw (same_self s, without) refl
without_last s (t ∷ out) h = at (same_set s t) (without_last s out) h
  where
    at : (b : Bool) → (list_any (same_set s) out ≡ false → without s (out ++ s ∷ []) ≡ out) → (b || list_any (same_set s) out) ≡ false
        → elim b as (λ _. List (List ℕ)) [ true ↦ out ++ s ∷ [] | false ↦ t ∷ without s (out ++ s ∷ []) ] ≡ t ∷ out
    at true later k = absurd cc
    at false later k = ap (λ (r : List (List ℕ)). t ∷ r) (later k)

-- the position stays where its round waits
stays : (known more all : Answers) (faults : ℕ) → Grows known more → Grows more all → step all (furthest known (start faults)) ≡ None → furthest more (start faults) ≡ furthest known (start faults)
stays known more all faults grows within stuck =
    sym (furthest_more known more grows (start faults) (start_lawful faults)) ∙ furthest_stop more (furthest known (start faults)) (step_less more all within (furthest known (start faults)) stuck)

abbrev told : State → List ℕ → Bool → State
told core set fails = record core { known = insert core.known set fails }

answer_told : (known : KnownVerdicts) (code : ℕ) (s : Entries) (core : State) (untried : List Entries) (set : List ℕ) (fails : Bool) → Running known code s core untried → tests_of known code s set ≡ Some fails → Running known code s (told core set fails) untried
unfolding position
answer_told known code s core untried set fails r own = by_still r.still
  where
    all : Answers
    all = tests_of known code s

    grown : Grows (get (insert core.known set fails)) (tests_of known code s)
    grown = put_within core.known (tests_of known code s) set fails r.grows own

    by_still : (core.out ≡ []) ⊎ (step (tests_of known code s) (position core) ≡ None) → Running known code s (told core set fails) untried
    by_still (inl clear) = record {
      count = r.count;
      grows = grown;
      unknown = r.unknown;
      same = ap (λ (out : List (List ℕ)). put out (unknown_sets (tests_of known code s) (round_at (position (told core set fails))))) clear;
      still = inl clear;
      untried_are = r.untried_are;
    }
    by_still (inr stuck) =
        let same : position (told core set fails) ≡ position core =
        stays (get core.known) (get (insert core.known set fails)) (tests_of known code s) core.faults (put_more core.known (tests_of known code s) set fails r.grows own) grown stuck in
        record {
          count = r.count;
          grows = grown;
          unknown = r.unknown;
          same = let P : Position → Type 0 = λ p. added (tests_of known code s) core.out (round_at p) ≡ open_sets (tests_of known code s) (round_at p) in subst P (sym same) r.same;
          still = inr (ap (step (tests_of known code s)) same ∙ stuck);
          untried_are = r.untried_are;
        }

pub settle_keeps : (known : KnownVerdicts) (code : ℕ) (s : Entries) (core taken new : State) (untried after : List Entries) (set : List ℕ) (test : Test) → Running known code s core untried → Some set ≡ next core false → taken ≡ after_take core (Some set)
    → IsTested known code s set test → IsSettled taken new untried after set test → Running known code s new after
settle_keeps known code s core taken new untried after set (Told fails) r request event tested settled =
    let P : State → List Entries → Type 0 = λ c u. Running known code s c u in
    let none : list_any (same_set set) core.out ≡ false = (next_gives core false set (sym request)).1 in
    let out_is : without set (core.out ++ set ∷ []) ≡ core.out = without_last set core.out none in
    let whole : new ≡ told core set fails = settled.1 ∙ ap (λ (c : State). apply c (Put set fails)) event ∙ ap (λ (out : List (List ℕ)). record (told core set fails) { out = out }) out_is in
    subst (λ c. P c after) (sym whole) (subst (λ u. P (told core set fails) u) (sym settled.2) (answer_told known code s core untried set fails r tested))
settle_keeps known code s core taken new untried after set (Untold t) r request event tested settled =
    let P : State → List Entries → Type 0 = λ c u. Running known code s c u in
    subst (λ c. P c after) (sym (settled.0 ∙ event)) (subst (λ u. P (after_take core (Some set)) u) (sym settled.1) (request_opens known code s t core untried set r request tested))

-- ---- no request came

place_is : (known : KnownVerdicts) (code : ℕ) (s : Entries) (core : State) (untried : List Entries) → Running known code s core untried → step (tests_of known code s) (position core) ≡ None → place_of known code s ≡ position core
unfolding position
place_is known code s core untried r stuck =
    let all = tests_of known code s in
    ap (λ (n : ℕ). furthest all (start n)) (sym r.count) ∙ sym (furthest_more (get core.known) all r.grows (start core.faults) (start_lawful core.faults)) ∙ furthest_stop all (position core) stuck

end_stuck : (all : Answers) (p : Position) (r : Reduced) → p ≡ End r → step all p ≡ None
end_stuck all p r is = ap (step all) is

some_out : (s : Entries) (out : List (List ℕ)) → (out ≡ [] → ⊥) → 0 < length (map (scenario_of s) out)
some_out s [] h = absurd (h refl)
some_out s (t ∷ out) h = omega arith

open_reached : (known : KnownVerdicts) (code : ℕ) (s : Entries) (core : State) (untried : List Entries) → Running known code s core untried → None ≡ next core false → ((r : Reduced) → position core ≡ End r → ⊥)
    → (0 < length untried) × (untried ≡ open_candidates known code s)
open_reached known code s core untried r request goes_on = by_still r.still
  where
    ended : core.out ≡ [] → ⊥
    ended clear = let e = none_open core false clear (sym request) in goes_on e.0 e.1

    by_still : (core.out ≡ []) ⊎ (step (tests_of known code s) (position core) ≡ None) → (0 < length untried) × (untried ≡ open_candidates known code s)
    by_still (inl clear) = absurd (ended clear)
    by_still (inr stuck) =
        let all = tests_of known code s in
        let p = position core in
        let all_out : added all core.out (round_at p) ≡ core.out = (scan (get core.known) all core.out r.grows r.unknown (round_at p)).ended (request_of core None request) in
        let P : List Entries → Type 0 = λ u. 0 < length u in (
          subst P (sym r.untried_are) (some_out s core.out ended),
          r.untried_are ∙ ap (map (scenario_of s)) (sym all_out ∙ r.same) ∙ ap (λ (q : Position). map (scenario_of s) (open_sets all (round_at q))) (sym (place_is known code s core untried r stuck)),
        )

pub end_reached : (known : KnownVerdicts) (code : ℕ) (s : Entries) (core taken : State) (untried : List Entries) → Running known code s core untried → None ≡ next core false → taken ≡ after_take core None
    → (reached : Reached) → IsEnded taken untried reached → IsReached known code s reached
end_reached known code s core taken untried r request event (Ended e) h =
    let is : position core ≡ End e = ap position (sym event) ∙ h in
    place_is known code s core untried r (end_stuck (tests_of known code s) (position core) e is) ∙ is
end_reached known code s core taken untried r request event (Open given) h =
    let P : List Entries → Type 0 = λ u. (0 < length u) × (u ≡ open_candidates known code s) in
    subst P (sym h.0) (open_reached known code s core untried r request (λ e is. h.1 e (ap position event ∙ is)))

-- ---- a component that agrees

tests_agree : (known : KnownVerdicts) (code : ℕ) (s : Entries) (component : Component) → IsScenario s → Agrees component known → AgreesOn (tests_of known code s) (fault_test (say component 0) code s)
tests_agree known code s component ok agrees set fails = by_faults (are_faults (all_faults s) set)
  where
    by_verdict : (o : Option Verdict) → known (tidied (kept set s)) ≡ o → option_map (fails_with code) o ≡ Some fails → fails_with code (component (tidied (kept set s))) ≡ fails
    by_verdict None e h = absurd cc
    by_verdict (Some v) e h = ap (fails_with code) (agrees (tidied (kept set s)) v (tidied_scenario (kept set s) (kept_scenario set s ok)) e) ∙ sure_is (fails_with code v) fails h

    by_faults : (b : Bool) → cond b (option_map (fails_with code) (known (tidied (kept set s)))) (Some false) ≡ Some fails → (b && fails_with code (component (tidied (kept set s)))) ≡ fails
    by_faults true h = by_verdict (known (tidied (kept set s))) refl h
    by_faults false h = sure_is false fails h

pub reduced_is : (known : KnownVerdicts) (code : ℕ) (s : Entries) (r : Reduced) → IsScenario s → place_of known code s ≡ End r → (components : Components) → EachAgrees components known → (stream : ℕ) → r ≡ reduction (say_each components) stream code s
reduced_is known code s r ok is components agrees stream =
    ends (tests_of known code s) (fault_test (say_each components stream) code s) (all_faults s) r (tests_agree known code s (components stream) ok (agrees stream)) is

pub comes_to : (known : KnownVerdicts) (code : ℕ) (s : Entries) → IsScenario s → (component : Component) → Agrees component known → ComesTo component code s (place_of known code s)
comes_to known code s ok component agrees = passes_through (tests_of known code s) (fault_test (say component 0) code s) (all_faults s) (tests_agree known code s component ok agrees)

-- ---- one set looked up

pub told_by : (known : KnownVerdicts) (code : ℕ) (s : Entries) (set : List ℕ) (v : Verdict) (fails : Bool) → are_faults (all_faults s) set ≡ true → Some v ≡ known (tidied (kept set s)) → fails ≡ fails_with code v
    → known_tests known code s set ≡ Some fails
told_by known code s set v fails faults is e = rw faults (ap (option_map (fails_with code)) (sym is) ∙ ap sure (sym e))
