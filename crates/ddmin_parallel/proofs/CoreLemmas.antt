use Rattle.std.proofs.Common.{◌≡◌, ℕ, zero, suc, ◌≤◌, Bool, true, false, ◌||◌, List, [], ◌∷◌, ◌++◌, refl, sym, ◌∙◌, ap, subst, cond, Option, None, Some}
use Rattle.std.proofs.Common.{unwrap_or, inl, inr}
use Rattle.std.specs.List.{list_any}
use Rattle.std.specs.Ordering.{nat_cmp}
use Rattle.std.specs.FinMap.{get, insert, empty, get-insert, get-empty}
use Rattle.std.specs.Cmp.Lexicographic.{slice_cmp}
use Rattle.std.proofs.lemmas.Cmp.{nat_list_cmp_total}
use Rattle.std.specs.Cmp.{eq_by_cmp_equiv}
use Rattle.ddmin_parallel.specs.Rounds.{Candidate, round}
use Rattle.ddmin_parallel.specs.Ddmin.{Decision, Fails, NoneFails, counted, Reduced}
use Rattle.ddmin_parallel.specs.CoreEvents.{Known, Answers, State, same_set, without, Position, Empty, Round, End, furthest, step, decided, after_decision}
use Rattle.ddmin_parallel.specs.CoreEvents.{start, option_then, after_empty, position, next, or_else, first_open, is_out, round_at, hoping, next_round}
use Rattle.ddmin_parallel.specs.inside.CoreStates.{AreOpen, IsLawful, IsSmall}
use Rattle.ddmin_parallel.proofs.SetLemmas.{exact_sets, is_equal}
use Rattle.ddmin_parallel.proofs.Walk.{furthest_more, furthest_lawful, furthest_small, furthest_stop, furthest_stuck, start_lawful, start_small}
use Rattle.std.specs.Prelude.{is_some, Result, Ok, Err, IfOk, OnErr}
use Rattle.ddmin_parallel.specs.inside.Candidates.{candidate}
use Rattle.ddmin_parallel.specs.inside.Stages.{position_of}
use Rattle.ddmin_parallel.specs.inside.Cursors.{is_shut, is_among, IsShutBelow, IsCounted, IsReached, IsAdvanced, onward, moved, stage_after, next_at}
use Rattle.ddmin_parallel.specs.inside.Cursors.{out_after}
use Rattle.ddmin_parallel.specs.inside.Searches.{IsSettled}
use Rattle.ddmin_parallel.specs.declared.reducer_core.Progress.{Progress}
use Rattle.ddmin_parallel.specs.declared.stage.Cursor.{Cursor}
use Rattle.ddmin_parallel.specs.declared.stage.Stage.{Stage}
use Rattle.ddmin_parallel.proofs.Counted.{counted_more}
use Rattle.ddmin_parallel.proofs.Scans.{shut_cases, shut_pass, shut_out, reset}

pub same_exact : (s t : List ℕ) → same_set s t ≡ true → s ≡ t
same_exact s t is = exact_sets s t (is_equal _ is)

same_turned : (s t : List ℕ) → same_set s t ≡ same_set t s
same_turned s t = (eq_by_cmp_equiv nat_list_cmp_total).symm s t

-- a set that is out is not known
pub out_unknown : (known : Known) (s : List ℕ) (out : List (List ℕ)) → AreOpen known out → list_any (same_set s) out ≡ true → get known s ≡ None
out_unknown known s [] open_sets is = cc
out_unknown known s (t ∷ out) open_sets is = at (same_set s t) refl (out_unknown known s out open_sets.2) is
  where
    at : (b : Bool) → same_set s t ≡ b → (list_any (same_set s) out ≡ true → get known s ≡ None) → (b || list_any (same_set s) out) ≡ true → get known s ≡ None
    at true e rest is = ap (get known) (same_exact s t e) ∙ open_sets.0
    at false e rest is = rest is

any_without : (s u : List ℕ) (out : List (List ℕ)) → list_any (same_set u) out ≡ false → list_any (same_set u) (without s out) ≡ false
any_without s u [] is = refl
any_without s u (t ∷ out) is = at (same_set u t) refl (any_without s u out) is
  where
    rest_of : (b : Bool) → (list_any (same_set u) (without s out) ≡ false) → list_any (same_set u) out ≡ false → same_set u t ≡ false
        → list_any (same_set u) (elim b [ true ↦ out | false ↦ t ∷ without s out ]) ≡ false
    rest_of true e h unlike = h
    rest_of false e h unlike = rw unlike e

    at : (b : Bool) → same_set u t ≡ b → (list_any (same_set u) out ≡ false → list_any (same_set u) (without s out) ≡ false)
        → (b || list_any (same_set u) out) ≡ false
        → list_any (same_set u) (elim (same_set s t) [ true ↦ out | false ↦ t ∷ without s out ]) ≡ false
    at true e rest is = cc
    at false e rest is = rest_of (same_set s t) (rest is) is e

pub open_without : (known : Known) (s : List ℕ) (out : List (List ℕ)) → AreOpen known out → AreOpen known (without s out)
open_without known s [] h = tt
open_without known s (t ∷ out) h = at (same_set s t) (open_without known s out h.2)
  where
    at : (b : Bool) → AreOpen known (without s out) → AreOpen known (elim b [ true ↦ out | false ↦ t ∷ without s out ])
    at true rest = h.2
    at false rest = (h.0, any_without s t out h.1, rest)

get_other : (known : Known) (s u : List ℕ) (b : Bool) → same_set s u ≡ false → get (insert known s b) u ≡ get known u
get_other known s u b unlike =
    get-insert nat_list_cmp_total known s b u ∙ ap (λ c. cond c (Some b) (get known u)) (same_turned u s ∙ unlike)

-- what is out and none of it s stays open when s is known
open_other : (known : Known) (s : List ℕ) (b : Bool) (out : List (List ℕ)) → AreOpen known out → list_any (same_set s) out ≡ false
    → AreOpen (insert known s b) out
open_other known s b [] h is = tt
open_other known s b (t ∷ out) h is = at (same_set s t) refl (open_other known s b out h.2) is
  where
    at : (d : Bool) → same_set s t ≡ d → (list_any (same_set s) out ≡ false → AreOpen (insert known s b) out) → (d || list_any (same_set s) out) ≡ false
        → AreOpen (insert known s b) (t ∷ out)
    at true e rest is = absurd (let unlike : true ≡ false = is in cc)
    at false e rest is = (get_other known s t b e ∙ h.0, h.1, rest is)

pub open_put : (known : Known) (s : List ℕ) (b : Bool) (out : List (List ℕ)) → AreOpen known out → AreOpen (insert known s b) (without s out)
open_put known s b [] h = tt
open_put known s b (t ∷ out) h = at (same_set s t) refl (open_put known s b out h.2)
  where
    at : (d : Bool) → same_set s t ≡ d → AreOpen (insert known s b) (without s out)
        → AreOpen (insert known s b) (elim d [ true ↦ out | false ↦ t ∷ without s out ])
    at true e rest = open_other known s b out h.2 (ap (λ v. list_any (same_set v) out) (same_exact s t e) ∙ h.1)
    at false e rest = (get_other known s t b e ∙ h.0, any_without s t out h.1, rest)

grows : (known : Known) (s : List ℕ) (b : Bool) → get known s ≡ None → (t : List ℕ) (d : Bool) → get known t ≡ Some d → get (insert known s b) t ≡ Some d
grows known s b none t d is = at (same_set s t) refl
  where
    at : (c : Bool) → same_set s t ≡ c → get (insert known s b) t ≡ Some d
    at true e = let unlike : get known t ≡ None = ap (get known) (sym (same_exact s t e)) ∙ none in cc
    at false e = get_other known s t b e ∙ is

-- What a core keeps, said of its parts.
pub record IsGood (faults : ℕ) (known : Known) (out : List (List ℕ)) (p : Position) : Type 0 where
  pub few : faults ≤ 4096
  pub stands : p ≡ furthest (get known) (start faults)
  pub open_sets : AreOpen known out

pub good_lawful : (faults : ℕ) (known : Known) (out : List (List ℕ)) (p : Position) → IsGood faults known out p → IsLawful p
good_lawful faults known out p good = subst IsLawful (sym good.stands) (furthest_lawful (get known) (start faults) (start_lawful faults))

pub good_small : (faults : ℕ) (known : Known) (out : List (List ℕ)) (p : Position) → IsGood faults known out p → IsSmall p
good_small faults known out p good =
    subst IsSmall (sym good.stands) (furthest_small (get known) (start faults) (start_lawful faults) (start_small faults good.few))

pub good_stuck : (faults : ℕ) (known : Known) (out : List (List ℕ)) (p : Position) → IsGood faults known out p → step (get known) p ≡ None
good_stuck faults known out p good = ap (step (get known)) good.stands ∙ furthest_stuck (get known) (start faults) (start_lawful faults)

pub good_settled : (faults : ℕ) (p : Progress) (s : List ℕ) (b : Bool) (p' : Progress) → IsGood faults p.known p.out.items (position_of p.stage)
    → IsSettled p s b p' → IsGood faults p'.known p'.out.items (position_of p'.stage)
good_settled faults p s b p' good is =
    let known = p.known in
    let out = p.out.items in
    let more = get (insert known s b) in
    let stands : position_of p'.stage ≡ furthest more (start faults) =
    is.position_is ∙ ap (furthest more) good.stands
    ∙ furthest_more (get known) more (grows known s b (out_unknown known s out good.open_sets is.was_out)) (start faults) (start_lawful faults) in
    record {
      few = good.few;
      stands = stands ∙ ap (λ k. furthest (get k) (start faults)) (sym is.known_is);
      open_sets = subst (λ k. AreOpen k p'.out.items) (sym is.known_is)
          (subst (AreOpen (insert known s b)) (sym is.out_is) (open_put known s b out good.open_sets));
    }

abbrev nothing : Known
nothing = empty

empty_stays : (n : ℕ) → furthest (get nothing) (start n) ≡ start n
empty_stays zero = furthest_stop (get nothing) (start zero) refl
empty_stays (suc more) = furthest_stop (get nothing) (Empty (suc more)) (ap (option_then (after_empty (suc more))) (get-empty (slice_cmp nat_cmp) []))

pub good_start : (faults : ℕ) (p : Position) → faults ≤ 4096 → p ≡ start faults → IsGood faults nothing [] p
good_start faults p few is = record { few = few; stands = is ∙ sym (empty_stays faults); open_sets = tt }

-- ---- the request rule

pub next_is : (state : State) (ahead : Bool) (p : Position) (o : Option (List ℕ)) → p ≡ position state
    → o ≡ next_at (get state.known) (is_among state.out) p ahead → o ≡ next state ahead
unfolding next
next_is state ahead p o at is = is ∙ ap (λ q. next_at (get state.known) (is_among state.out) q ahead) at

-- a request is neither known nor out
pub open_gives : (known : Answers) (out : List ℕ → Bool) (ss : List Candidate) (s : List ℕ) → first_open known out ss ≡ Some s
    → (known s ≡ None) × (out s ≡ false)
open_gives known out [] s is = absurd (let never : ◌≡◌ {A = Option (List ℕ)} None (Some s) = is in cc)
open_gives known out (t ∷ ss) s is = at (open_gives known out ss s) (known t.set) refl is
  where
    chosen : ((first_open known out ss ≡ Some s) → (known s ≡ None) × (out s ≡ false)) → known t.set ≡ None → (b : Bool) → out t.set ≡ b
        → elim b [ true ↦ first_open known out ss | false ↦ Some t.set ] ≡ Some s → (known s ≡ None) × (out s ≡ false)
    chosen deeper unknown true e is = deeper is
    chosen deeper unknown false e is = let same : t.set ≡ s = cc in (ap known (sym same) ∙ unknown, ap out (sym same) ∙ e)

    at : ((first_open known out ss ≡ Some s) → (known s ≡ None) × (out s ≡ false)) → (k : Option Bool) → known t.set ≡ k
        → elim k [
          | None ↦ elim (out t.set) [ true ↦ first_open known out ss | false ↦ Some t.set ]
          | Some fails ↦ elim fails
              [ true ↦ None | false ↦ first_open known out ss ]
        ] ≡ Some s
        → (known s ≡ None) × (out s ≡ false)
    at deeper None e is = chosen deeper e (out t.set) refl is
    at deeper (Some true) e is = absurd (let never : ◌≡◌ {A = Option (List ℕ)} None (Some s) = is in cc)
    at deeper (Some false) e is = deeper is

pub next_open : (known : Answers) (out : List ℕ → Bool) (p : Position) (ahead : Bool) (s : List ℕ) → next_at known out p ahead ≡ Some s
    → (known s ≡ None) × (out s ≡ false)
next_open known out p ahead s is = at (first_open known out (round_at p)) refl is
  where
    beyond : (b : Bool) → ◌≡◌ {A = Option (List ℕ)} (elim b [ true ↦ first_open known out (next_round known p) | false ↦ None ]) (Some s)
        → (known s ≡ None) × (out s ≡ false)
    beyond true is = open_gives known out (next_round known p) s is
    beyond false is = absurd (let never : ◌≡◌ {A = Option (List ℕ)} None (Some s) = is in cc)

    at : (o : Option (List ℕ)) → first_open known out (round_at p) ≡ o → or_else o
        (elim ahead [ true ↦ first_open known out (next_round known p) | false ↦ None ]) ≡ Some s → (known s ≡ None) × (out s ≡ false)
    at None e is = beyond ahead is
    at (Some t) e is = open_gives known out (round_at p) s (e ∙ is)

pub next_gives : (state : State) (ahead : Bool) (s : List ℕ) → next state ahead ≡ Some s → (get state.known s ≡ None) × (is_out state s ≡ false)
unfolding next
next_gives state ahead s is = next_open (get state.known) (is_among state.out) (position state) ahead s is

pub open_push : (known : Known) (s : List ℕ) (out : List (List ℕ)) → AreOpen known out → get known s ≡ None → list_any (same_set s) out ≡ false
    → AreOpen known (out ++ s ∷ [])
open_push known s [] h unknown is = (unknown, refl, tt)
open_push known s (t ∷ out) h unknown is = at (same_set s t) refl (open_push known s out h.2 unknown) is
  where
    any_push : (ts : List (List ℕ)) → list_any (same_set t) ts ≡ false → same_set t s ≡ false → list_any (same_set t) (ts ++ s ∷ []) ≡ false
    any_push [] e d = rw d refl
    any_push (u ∷ ts) e d = split (same_set t u) refl (any_push ts) e d
      where
        split : (b : Bool) → same_set t u ≡ b → (list_any (same_set t) ts ≡ false → same_set t s ≡ false → list_any (same_set t) (ts ++ s ∷ []) ≡ false)
            → (b || list_any (same_set t) ts) ≡ false → same_set t s ≡ false → (same_set t u || list_any (same_set t) (ts ++ s ∷ [])) ≡ false
        split true f more e d = absurd (let never : true ≡ false = e in cc)
        split false f more e d = rw f (more e d)

    at : (b : Bool) → same_set s t ≡ b → (list_any (same_set s) out ≡ false → AreOpen known (out ++ s ∷ [])) → (b || list_any (same_set s) out) ≡ false
        → AreOpen known (t ∷ (out ++ s ∷ []))
    at true e rest is = absurd (let never : true ≡ false = is in cc)
    at false e rest is = (h.0, any_push out h.1 (same_turned t s ∙ e), rest is)

-- If no request is open and none is out, the round is decided.
open_none : (known : Answers) (out : List ℕ → Bool) → ((s : List ℕ) → out s ≡ false) → (ss : List Candidate) (tests : ℕ)
    → first_open known out ss ≡ None → decided known ss tests ≡ None → ⊥
open_none known out clear [] tests open_is is = let never : ◌≡◌ {A = Option Decision} (Some (NoneFails tests)) None = is in cc
open_none known out clear (s ∷ ss) tests open_is is = at (open_none known out clear ss (counted tests)) (known s.set) open_is is
  where
    chosen : (b : Bool) → out s.set ≡ b → ◌≡◌ {A = Option (List ℕ)} (elim b [ true ↦ first_open known out ss | false ↦ Some s.set ]) None → ⊥
    chosen true e h = let never : true ≡ false = sym e ∙ clear s.set in cc
    chosen false e h = let never : ◌≡◌ {A = Option (List ℕ)} (Some s.set) None = h in cc

    at : (first_open known out ss ≡ None → decided known ss (counted tests) ≡ None → ⊥) → (k : Option Bool)
        → ◌≡◌ {A = Option (List ℕ)} (elim k [
          | None ↦ elim (out s.set) [ true ↦ first_open known out ss | false ↦ Some s.set ]
          | Some fails ↦ elim fails
              [ true ↦ None | false ↦ first_open known out ss ]
        ]) None
        → ◌≡◌ {A = Option Decision} (elim k [
          | None ↦ None
          | Some fails ↦ elim fails [
            | true ↦ Some (Fails s (counted tests))
            | false ↦ decided known ss
                (counted tests)
          ]
        ]) None → ⊥
    at deeper None h e = chosen (out s.set) refl h
    at deeper (Some true) h e = let never : ◌≡◌ {A = Option Decision} (Some (Fails s (counted tests))) None = e in cc
    at deeper (Some false) h e = deeper h e

-- No request comes only at the end, or if one is out.
or_else_first : (o o' : Option (List ℕ)) → or_else o o' ≡ None → o ≡ None
or_else_first None o' is = refl
or_else_first (Some s) o' is = is

pub none_open : (state : State) (ahead : Bool) → state.out ≡ [] → next state ahead ≡ None → (r : Reduced) × (position state ≡ End r)
unfolding next position
none_open state ahead clear none = at (furthest (get state.known) (start state.faults))
    (furthest_stuck (get state.known) (start state.faults) (start_lawful state.faults)) (or_else_first _ _ none)
  where
    free : (s : List ℕ) → is_out state s ≡ false
    free s = ap (list_any (same_set s)) clear

    at : (p : Position) → step (get state.known) p ≡ None → first_open (get state.known) (is_out state) (round_at p) ≡ None → (r : Reduced) × (p ≡ End r)
    at (Empty faults) stuck h = empty_case (get state.known []) refl stuck h
      where
        empty_case : (k : Option Bool) → get state.known [] ≡ k → option_then (after_empty faults) k ≡ None
            → first_open (get state.known) (is_out state) (record { set = []; parts = 2 } ∷ []) ≡ None → (r : Reduced) × (Empty faults ≡ End r)
        empty_case (Some b) e stuck h = absurd (let never : ◌≡◌ {A = Option Position} (Some (after_empty faults b)) None = stuck in cc)
        empty_case None e stuck h = absurd (open_none (get state.known) (is_out state) free (record { set = []; parts = 2 } ∷ []) 0 h (rw (e, decided) refl))
    at (Round c n tests) stuck h = round_case (decided (get state.known) (round c n) tests) refl stuck
      where
        round_case : (o : Option Decision) → decided (get state.known) (round c n) tests ≡ o → option_then (after_decision c n) o ≡ None
            → (r : Reduced) × (Round c n tests ≡ End r)
        round_case (Some d) e stuck = absurd (let never : ◌≡◌ {A = Option Position} (Some (after_decision c n d)) None = stuck in cc)
        round_case None e stuck = absurd (open_none (get state.known) (is_out state) free (round c n) tests h e)
    at (End r) stuck h = (r, refl)

-- ---- the cursor once an answer was put

get_same : (known : Known) (s t : List ℕ) (b : Bool) → same_set s t ≡ true → get (insert known s b) t ≡ Some b
get_same known s t b alike = get-insert nat_list_cmp_total known s b t ∙ ap (λ c. cond c (Some b) (get known t)) (same_turned t s ∙ alike)

-- A set that is out stays out, except the one that was put.
among_without : (s t : List ℕ) (out : List (List ℕ)) → same_set s t ≡ false → list_any (same_set t) out ≡ true → list_any (same_set t) (without s out) ≡ true
among_without s t [] unlike is = is
among_without s t (u ∷ out) unlike is = at (same_set s u) refl (same_set t u) refl (among_without s t out unlike) is
  where
    at : (b : Bool) → same_set s u ≡ b → (d : Bool) → same_set t u ≡ d → (list_any (same_set t) out ≡ true → list_any (same_set t) (without s out) ≡ true)
        → (d || list_any (same_set t) out) ≡ true → list_any (same_set t) (elim b [ true ↦ out | false ↦ u ∷ without s out ]) ≡ true
    at true e true f rest h =
        let same : same_set s t ≡ true = ap (same_set s) (same_exact t u f) ∙ e in
        absurd (let never : true ≡ false = sym same ∙ unlike in cc)
    at true e false f rest h = h
    at false e true f rest h = rw f refl
    at false e false f rest h = rw f (rest h)

-- If an answer says that its set passes, what was shut stays shut.
shut_put : (known : Known) (out : List (List ℕ)) (s : List ℕ) (t : List ℕ) → is_shut (get known) (is_among out) t ≡ true
    → is_shut (get (insert known s false)) (is_among (without s out)) t ≡ true
shut_put known out s t is = at (same_set s t) refl
  where
    at : (b : Bool) → same_set s t ≡ b → is_shut (get (insert known s false)) (is_among (without s out)) t ≡ true
    at true e = shut_pass (get (insert known s false)) (is_among (without s out)) t (get_same known s t false e)
    at false e = elim (shut_cases (get known) (is_among out) t is) [
      | inl h ↦ shut_pass (get (insert known s false)) (is_among (without s out)) t (get_other known s t false e ∙ h)
      | inr h ↦ shut_out (get (insert known s false)) (is_among (without s out)) t (get_other known s t false e ∙ h.0) (among_without s t out e h.1)
    ]

below_put : (known : Known) (out : List (List ℕ)) (s : List ℕ) (p : Position) (k : ℕ) → IsShutBelow (get known) (is_among out) p k
    → IsShutBelow (get (insert known s false)) (is_among (without s out)) p k
below_put known out s (Empty faults) k h = tt
below_put known out s (Round c n tests) k h = (h.0, λ j lt. shut_put known out s (candidate c n j).set (h.1 j lt))
below_put known out s (End r) k h = tt

hoping_put : (known : Known) (s t : List ℕ) → get known s ≡ None → hoping (get (insert known s false)) t ≡ hoping (get known) t
hoping_put known s t unknown = at (same_set s t) refl
  where
    at : (b : Bool) → same_set s t ≡ b → hoping (get (insert known s false)) t ≡ hoping (get known) t
    at true e =
        let before : get known t ≡ None = ap (get known) (sym (same_exact s t e)) ∙ unknown in
        ap (λ k. Some (unwrap_or k false)) (get_same known s t false e) ∙ sym (ap (λ k. Some (unwrap_or k false)) before)
    at false e = ap (λ k. Some (unwrap_or k false)) (get_other known s t false e)

decided_alike : (known more : Answers) → ((t : List ℕ) → more t ≡ known t) → (ss : List Candidate) (tests : ℕ) → decided more ss tests ≡ decided known ss tests
decided_alike known more same [] tests = refl
decided_alike known more same (s ∷ ss) tests = at (decided_alike known more same ss (counted tests)) (known s.set) (same s.set)
  where
    at : decided more ss (counted tests) ≡ decided known ss (counted tests) → (k : Option Bool) → more s.set ≡ k → decided more (s ∷ ss) tests
        ≡ elim k [ None ↦ None | Some fails ↦ elim fails [ true ↦ Some (Fails s (counted tests)) | false ↦ decided known ss (counted tests) ] ]
    at rest None e = rw (e, decided) refl
    at rest (Some true) e = rw (e, decided) refl
    at rest (Some false) e = rw (e, decided) rest

onward_put : (known : Known) (s : List ℕ) (p : Position) → get known s ≡ None → onward (get (insert known s false)) p ≡ onward (get known) p
onward_put known s (Empty faults) unknown = ap (λ k. elim (option_then (after_empty faults) k) [ None ↦ Empty faults | Some q ↦ q ])
    (hoping_put known s [] unknown)
onward_put known s (Round c n tests) unknown =
    ap (λ d. elim (option_then (after_decision c n) d) [ None ↦ Round c n tests | Some q ↦ q ])
    (decided_alike (hoping (get known)) (hoping (get (insert known s false))) (λ t. hoping_put known s t unknown) (round c n) tests)
onward_put known s (End r) unknown = refl

passing_reached : (known : Known) (out : List (List ℕ)) (p : Position) (s : List ℕ) (cursor : Cursor) (place : ℕ) → get known s ≡ None
    → IsReached (get known) (is_among out) p cursor → IsCounted (get (insert known s false)) p place
    → IsReached (get (insert known s false)) (is_among (without s out)) p (record { place = place; closed = cursor.closed; ahead = cursor.ahead })
passing_reached known out p s cursor place unknown reached counted_to = record {
  counted = counted_to;
  shut = below_put known out s p cursor.closed reached.shut;
  ahead = subst (λ q. IsShutBelow (get (insert known s false)) (is_among (without s out)) q cursor.ahead) (sym (onward_put known s p unknown))
      (below_put known out s (onward (get known) p) cursor.ahead reached.ahead);
}

pub counted_put : (known : Known) (out : List (List ℕ)) (p : Position) (s : List ℕ) (b : Bool) (cursor : Cursor) → AreOpen known out
    → list_any (same_set s) out ≡ true
    → IsReached (get known) (is_among out) p cursor → IsCounted (get (insert known s b)) p cursor.place
counted_put known out p s b cursor open_sets was_out reached =
    counted_more (get known) (get (insert known s b)) (grows known s b (out_unknown known s out open_sets was_out)) p cursor.place reached.counted

pub settled_reached : (known : Known) (out : List (List ℕ)) (stage : Stage) (s : List ℕ) (b : Bool) (cursor : Cursor) (o : Option Stage) (place : ℕ)
    → AreOpen known out → list_any (same_set s) out ≡ true
    → IsReached (get known) (is_among out) (position_of stage) cursor → IsAdvanced (get (insert known s b)) (position_of stage) o place
    → IsReached (get (insert known s b)) (is_among (without s out)) (position_of (stage_after stage o)) (moved cursor place (b || is_some o))
settled_reached known out stage s true cursor None place open_sets was_out reached advance =
    reset (get (insert known s true)) (is_among (without s out)) (position_of stage) place advance.1
settled_reached known out stage s false cursor None place open_sets was_out reached advance =
    passing_reached known out (position_of stage) s cursor place (out_unknown known s out open_sets was_out) reached advance.1
settled_reached known out stage s true cursor (Some next) place open_sets was_out reached advance =
    reset (get (insert known s true)) (is_among (without s out)) (position_of next) place advance.1
settled_reached known out stage s false cursor (Some next) place open_sets was_out reached advance =
    reset (get (insert known s false)) (is_among (without s out)) (position_of next) place advance.1

-- ---- what is out after a take

pub handed_open : {X E : Type 0} (f : X → Option (List ℕ)) (r : Result X E) (known : Known) (out out' : List (List ℕ)) (p : Position) (ahead : Bool)
    → AreOpen known out
    → IfOk r (λ x. f x ≡ next_at (get known) (is_among out) p ahead) → IfOk r (λ x. out' ≡ out_after out (f x)) → OnErr r (out' ≡ out) → AreOpen known out'
handed_open f (Err e) known out out' p ahead h request list err = subst (AreOpen known) (sym err) h
handed_open f (Ok x) known out out' p ahead h request list err = at (f x) request list
  where
    at : (o : Option (List ℕ)) → o ≡ next_at (get known) (is_among out) p ahead → out' ≡ out_after out o → AreOpen known out'
    at None is same = subst (AreOpen known) (sym same) h
    at (Some s) is same =
        let fresh = next_open (get known) (is_among out) p ahead s (sym is) in
        subst (AreOpen known) (sym same) (open_push known s out h fresh.0 fresh.1)
