use Rattle.std.proofs.Common.{◌≡◌, ℕ, ◌+◌, Bool, true, false, List, [], ◌∷◌, ◌++◌, map, refl, sym, ◌∙◌, ap, subst, cond, Option, None, Some}
use Rattle.std.specs.List.{AllByRecursion}
use Rattle.std.specs.FinMap.{get, insert, get-insert, get-empty}
use Rattle.std.specs.Cmp.Lexicographic.{slice_cmp}
use Rattle.std.specs.Ordering.{nat_cmp}
use Rattle.std.proofs.lemmas.Cmp.{nat_list_cmp_total}
use Rattle.ddmin_parallel.specs.Ddmin.{Reduced, ddmin}
use Rattle.ddmin_parallel.specs.CoreEvents as core
use Rattle.ddmin_parallel.specs.CoreEvents.{Known, State, begin, apply, replay, position, Agrees, End, same_set, start, furthest}
use Rattle.ddmin_parallel.specs.Logs.{AreOwn, Tells, says, is_told, is_event_backed, is_backed, AreAnswers, AllAnswers, Log, state_of}
use Rattle.std.proofs.lemmas.Bool.Decides.{nat_tests}
use Rattle.std.proofs.Common.{arith, eqb, length, ℕ}
use Rattle.std.specs.Prelude.{Vec, not, ◌&&◌, ◌||◌}
use Rattle.std.specs.Global.{Global}
use Rattle.std.specs.List.{list_any, list_all}
use Rattle.ddmin_parallel.specs.InsideBoard.{event_of}
use Rattle.ddmin_parallel.specs.declared.board.Event.{Event}
use Rattle.ddmin_parallel.proofs.CoreLemmas.{same_exact}
use Rattle.ddmin_parallel.proofs.Walk.{ends}
use Rattle.ddmin_parallel.proofs.Places.{without_none}
use Rattle.std.proofs.lemmas.List.{length_push}

apply_faults : (s : State) (e : core.Event) → (apply s e).faults ≡ s.faults
apply_faults s (core.Take t) = refl
apply_faults s (core.Put t b) = refl
apply_faults s (core.GiveBack t) = refl
apply_faults s core.Recall = refl

pub replay_faults : (s : State) (es : List core.Event) → (replay s es).faults ≡ s.faults
replay_faults s [] = refl
replay_faults s (e ∷ es) = replay_faults (apply s e) es ∙ apply_faults s e

pub replay_push : (s : State) (es : List core.Event) (e : core.Event) → replay s (es ++ e ∷ []) ≡ apply (replay s es) e
replay_push s [] e = refl
replay_push s (x ∷ es) e = replay_push (apply s x) es e

map_push : (es : List Event) (e : Event) → map event_of (es ++ e ∷ []) ≡ map event_of es ++ event_of e ∷ []
map_push [] e = refl
map_push (x ∷ es) e = ap (λ ts. event_of x ∷ ts) (map_push es e)

-- a board that did one event more
pub board_push : (old new : State) (events events' : List Event) (event : core.Event) (added : Event)
    → old ≡ replay (begin old.faults) (map event_of events) → new ≡ apply old event → events' ≡ events ++ added ∷ [] → event_of added ≡ event
    → new ≡ replay (begin new.faults) (map event_of events')
board_push old new events events' event added is step more same =
    let faults : old.faults ≡ new.faults = sym (ap (λ (s : State). s.faults) step ∙ apply_faults old event) in
    let list : map event_of events' ≡ map event_of events ++ event ∷ [] = ap (map event_of) more ∙ map_push events added
    ∙ ap (λ e. map event_of events ++ e ∷ []) same in
    step ∙ ap (λ s. apply s event) is ∙ sym (replay_push (begin old.faults) (map event_of events) event)
    ∙ ap (λ f. replay (begin f) (map event_of events ++ event ∷ [])) faults ∙ ap (replay (begin new.faults)) (sym list)

-- ---- if each answer that was put is the test's own

pub put_agrees : (known : Known) (test : List ℕ → Bool) (s : List ℕ) (b : Bool) → Agrees (get known) test → b ≡ test s → Agrees (get (insert known s b)) test
put_agrees known test s b agrees own t d is = at (same_set t s) refl
  where
    at : (c : Bool) → same_set t s ≡ c → test t ≡ d
    at true e =
        let here : get (insert known s b) t ≡ Some b = get-insert nat_list_cmp_total known s b t ∙ ap (λ c. cond c (Some b) (get known t)) e in
        let same : b ≡ d = cc in
        ap test (same_exact t s e) ∙ sym own ∙ same
    at false e =
        let here : get (insert known s b) t ≡ get known t = get-insert nat_list_cmp_total known s b t ∙ ap (λ c. cond c (Some b) (get known t)) e in
        agrees t d (sym here ∙ is)

replay_agrees : (test : List ℕ → Bool) (s : State) (es : List core.Event) → Agrees (get s.known) test → AreOwn test es → Agrees (get (replay s es).known) test
replay_agrees test s [] agrees own = agrees
replay_agrees test s (core.Take t ∷ es) agrees own = replay_agrees test (apply s (core.Take t)) es agrees own.1
replay_agrees test s (core.Put t b ∷ es) agrees own = replay_agrees test (apply s (core.Put t b)) es (put_agrees s.known test t b agrees own.0) own.1
replay_agrees test s (core.GiveBack t ∷ es) agrees own = replay_agrees test (apply s (core.GiveBack t)) es agrees own.1
replay_agrees test s (core.Recall ∷ es) agrees own = replay_agrees test (apply s core.Recall) es agrees own.1

pub none_known : (test : List ℕ → Bool) → Agrees (get (begin 0).known) test
none_known test t d is = let no_answer : get (begin 0).known t ≡ None = get-empty (slice_cmp nat_cmp) t in cc

pub events_decide : (test : List ℕ → Bool) (faults : ℕ) (events : List core.Event) (r : Reduced) → AreOwn test events
    → position (replay (begin faults) events) ≡ End r → r ≡ ddmin test faults
unfolding position
events_decide test faults events r own is =
    let agrees = replay_agrees test (begin faults) events (none_known test) own in
    let same : (replay (begin faults) events).faults ≡ faults = replay_faults (begin faults) events in
    ends (get (replay (begin faults) events).known) test faults r agrees
    (subst (λ f. furthest (get (replay (begin faults) events).known) (start f) ≡ End r) same is)

-- ---- a core that is by_core

pub tells_start : (faults : ℕ) (test : List ℕ → Bool) → Tells faults test (begin faults)
tells_start faults test = record { count = refl; agrees = none_known test }

pub tells_take : (faults : ℕ) (test : List ℕ → Bool) (state : State) (o : Option (List ℕ)) → Tells faults test state
    → Tells faults test (core.after_take state o)
tells_take faults test state None t = t
tells_take faults test state (Some s) t = record { count = t.count; agrees = t.agrees }

pub tells_put : (faults : ℕ) (test : List ℕ → Bool) (state : State) (s : List ℕ) (b : Bool) → Tells faults test state → b ≡ test s
    → Tells faults test (apply state (core.Put s b))
tells_put faults test state s b t own = record { count = t.count; agrees = put_agrees state.known test s b t.agrees own }

pub tells_end : (faults : ℕ) (test : List ℕ → Bool) (state : State) (r : Reduced) → Tells faults test state → position state ≡ End r → r ≡ ddmin test faults
unfolding position
tells_end faults test state r t is =
    ends (get state.known) test faults r t.agrees (subst (λ f. furthest (get state.known) (start f) ≡ End r) t.count is)

-- ---- what is backed

said : (test : List ℕ → Bool) (s : List ℕ) (fails : Bool) (told : List (List ℕ × Bool)) → AreAnswers test told → list_any (says s fails) told ≡ true
    → fails ≡ test s
said test s fails [] own is = cc
said test s fails (t ∷ told) own is = at (same_set s t.0) refl t.1 refl fails refl is (said test s fails told own.1)
  where
    at : (b : Bool) → same_set s t.0 ≡ b → (d : Bool) → t.1 ≡ d → (f : Bool) → fails ≡ f
        → ((b && cond f d (not d)) || list_any (says s fails) told) ≡ true → (list_any (says s fails) told ≡ true → fails ≡ test s) → fails ≡ test s
    at false e d x f y is rest = rest is
    at true e true x true y is rest = y ∙ sym x ∙ own.0 ∙ ap test (sym (same_exact s t.0 e))
    at true e true x false y is rest = rest is
    at true e false x true y is rest = rest is
    at true e false x false y is rest = y ∙ sym x ∙ own.0 ∙ ap test (sym (same_exact s t.0 e))

told_own : (test : List ℕ → Bool) (s : List ℕ) (fails : Bool) (pairs : List (Vec (List ℕ × Bool) Global)) → AllAnswers test pairs
    → is_told s fails pairs ≡ true → fails ≡ test s
told_own test s fails [] own is = cc
told_own test s fails (told ∷ pairs) own is = at (list_any (says s fails) told.items) refl is (told_own test s fails pairs own.1)
  where
    at : (b : Bool) → list_any (says s fails) told.items ≡ b → (b || is_told s fails pairs) ≡ true → (is_told s fails pairs ≡ true → fails ≡ test s)
        → fails ≡ test s
    at true e is rest = said test s fails told.items own.0 e
    at false e is rest = rest is

both : (a b : Bool) → (a && b) ≡ true → (a ≡ true) × (b ≡ true)
both true b is = (refl, is)
both false b is = (is, absurd (let never : false ≡ true = is in cc))

pub backed_own : (test : List ℕ → Bool) (pairs : List (Vec (List ℕ × Bool) Global)) → AllAnswers test pairs → (events : List core.Event)
    → list_all (is_event_backed pairs) events ≡ true → AreOwn test events
backed_own test pairs own [] is = tt
backed_own test pairs own (core.Take s ∷ events) is = (tt, backed_own test pairs own events is)
backed_own test pairs own (core.Put s b ∷ events) is = let h = both (is_told s b pairs) (list_all (is_event_backed pairs) events) is in
    (told_own test s b pairs own h.0, backed_own test pairs own events h.1)
backed_own test pairs own (core.GiveBack s ∷ events) is = (tt, backed_own test pairs own events is)
backed_own test pairs own (core.Recall ∷ events) is = (tt, backed_own test pairs own events is)

-- A board's core, if each answer that was put is the test's own.
pub own_tells : (test : List ℕ → Bool) (faults : ℕ) (events : List core.Event) → AreOwn test events → Tells faults test (replay (begin faults) events)
own_tells test faults events own = record {
  count = replay_faults (begin faults) events;
  agrees = replay_agrees test (begin faults) events (none_known test) own;
}

same_count : (m n : ℕ) → eqb m n ≡ true → m ≡ n
same_count m n is = grind (arith, nat_tests)

pub backed_tells : (test : List ℕ → Bool) (log : Log) (faults : ℕ) (pairs : List (Vec (List ℕ × Bool) Global)) → AllAnswers test pairs
    → is_backed log faults pairs ≡ true → Tells faults test (apply (state_of log) core.Recall)
backed_tells test log faults pairs own is =
    let h = both (eqb log.faults faults) (list_all (is_event_backed pairs) log.events) is in
    let t = own_tells test log.faults log.events (backed_own test pairs own log.events h.1) in
    record { count = t.count ∙ same_count log.faults faults h.0; agrees = t.agrees }

-- ---- what the workers told

pub parted_own : {P : Type 0} (answers : P → List ℕ → Bool) (test : List ℕ → Bool) (all : List (P × Vec (List ℕ × Bool) Global))
    → AllByRecursion (λ r. (answers r.0 ≡ test) × AreAnswers test r.1.items) all
    → AllByRecursion (λ p. answers p ≡ test) (map (λ r. r.0) all) × AllAnswers test (map (λ r. r.1) all)
parted_own answers test [] h = (tt, tt)
parted_own answers test (r ∷ all) h = let rest = parted_own answers test all h.1 in ((h.0.0, rest.0), (h.0.1, rest.1))

pub last_of : {P : Type 0} (Q : P → Type 0) (xs : List P) (x : P) → AllByRecursion Q (xs ++ x ∷ []) → Q x
last_of Q [] x h = h.0
last_of Q (y ∷ xs) x h = last_of Q xs x h.1

-- ---- room for the events that end the requests

pub length_without : (s : List ℕ) (out : List (List ℕ)) → list_any (same_set s) out ≡ true → length (core.without s out) + 1 ≡ length out
length_without s [] is = cc
length_without s (t ∷ out) is = at (same_set s t) refl (length_without s out) is
  where
    at : (b : Bool) → same_set s t ≡ b → (list_any (same_set s) out ≡ true → length (core.without s out) + 1 ≡ length out)
        → (b || list_any (same_set s) out) ≡ true
        → length {A = List ℕ} (elim b [ true ↦ out | false ↦ t ∷ core.without s out ]) + 1 ≡ length (t ∷ out)
    at true e rest is = omega arith
    at false e rest is = omega (arith, rest is)

pub out_given_back : (state new : State) (s : List ℕ) → list_any (same_set s) state.out ≡ true → new ≡ apply state (core.GiveBack s)
    → length new.out + 1 ≡ length state.out
out_given_back state new s was is = ap (λ (x : State). length x.out + 1) is ∙ length_without s state.out was

pub out_put : (state new : State) (s : List ℕ) (b : Bool) → list_any (same_set s) state.out ≡ true → new ≡ apply state (core.Put s b)
    → length new.out + 1 ≡ length state.out
out_put state new s b was is = ap (λ (x : State). length x.out + 1) is ∙ length_without s state.out was

pub out_taken : (state new : State) (s : List ℕ) → new ≡ apply state (core.Take s) → length new.out ≡ length state.out + 1
out_taken state new s is = ap (λ (x : State). length x.out) is ∙ length_push state.out s

pub out_recalled : (state new : State) → new ≡ apply state core.Recall → length new.out ≡ 0
out_recalled state new is = ap (λ (x : State). length x.out) is

pub given_back_same : (state : State) (s : List ℕ) → list_any (same_set s) state.out ≡ false → apply state (core.GiveBack s) ≡ state
given_back_same state s is = ap (λ out. record { faults = state.faults; known = state.known; out = out }) (without_none s state.out is)
