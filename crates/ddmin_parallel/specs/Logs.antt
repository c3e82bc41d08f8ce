use Rattle.std.specs.Prelude.{◌≡◌, ℕ, zero, suc, Bool, true, false, List, [], ◌∷◌, ◌++◌, ◌&&◌, ◌==◌, refl, if◌then◌else◌, not, Vec, Option, None, Some}
use Rattle.std.specs.Global.{Global}
use Rattle.std.specs.FinMap.{get}
use Rattle.std.specs.List.{list_any, list_all, AllByRecursion}
use Rattle.std.specs.Coded.{Coded, code_by, coded×, coded_ℕ, coded_bool, coded_list}
use Rattle.ddmin_parallel.specs.CoreEvents.{State, begin, replay, Event, Take, Put, GiveBack, Recall, is_out, same_set, Agrees}

-- How many faults there are, and what happened.
pub record Log : Type 0 where
  pub faults : ℕ
  pub events : List Event

-- An event as a number, a set and an answer.
abbrev pub event_parts : Event → ℕ × (List ℕ × Bool)
event_parts (Take s) = (0, (s, false))
event_parts (Put s fails) = (1, (s, fails))
event_parts (GiveBack s) = (2, (s, false))
event_parts Recall = (3, ([], false))

abbrev pub event_from : ℕ → List ℕ → Bool → Event
event_from zero s fails = Take s
event_from (suc zero) s fails = Put s fails
event_from (suc (suc zero)) s fails = GiveBack s
event_from (suc (suc (suc n))) s fails = Recall

abbrev pub event_back : (e : Event) → event_from (event_parts e).0 (event_parts e).1.0 (event_parts e).1.1 ≡ e
event_back (Take s) = refl
event_back (Put s fails) = refl
event_back (GiveBack s) = refl
event_back Recall = refl

abbrev pub event_code : Coded Event
event_code = code_by (ℕ × (List ℕ × Bool)) (coded× coded_ℕ (coded× (coded_list coded_ℕ) coded_bool)) event_parts (λ p. event_from p.0 p.1.0 p.1.1) event_back

abbrev pub log_code : Coded Log
log_code = code_by (ℕ × List Event) (coded× coded_ℕ (coded_list event_code))
    (λ l. (l.faults, l.events)) (λ p. record { faults = p.0; events = p.1 }) (λ _. refl)

-- The state that the events lead to.
abbrev pub state_of : Log → State
state_of log = replay (begin log.faults) log.events

abbrev pub with_event : Log → Event → Log
with_event log event = record { faults = log.faults; events = log.events ++ event ∷ [] }

-- Each answer that was put is that of the test.
abbrev pub IsOwn : (List ℕ → Bool) → Event → Type 0
IsOwn test (Take s) = Unit {0}
IsOwn test (Put s fails) = fails ≡ test s
IsOwn test (GiveBack s) = Unit {0}
IsOwn test Recall = Unit {0}

abbrev pub AreOwn : (List ℕ → Bool) → List Event → Type 0
AreOwn test events = AllByRecursion (IsOwn test) events

-- The pair gives this answer for this set.
abbrev pub says : List ℕ → Bool → List ℕ × Bool → Bool
says s fails t = same_set s t.0 && (if fails then t.1 else not t.1)

abbrev pub is_told : List ℕ → Bool → List (Vec (List ℕ × Bool) Global) → Bool
is_told s fails pairs = list_any (λ told. list_any (says s fails) told.items) pairs

-- The event puts no answer, or its answer is among the pairs.
abbrev pub is_event_backed : List (Vec (List ℕ × Bool) Global) → Event → Bool
is_event_backed pairs (Take s) = true
is_event_backed pairs (Put s fails) = is_told s fails pairs
is_event_backed pairs (GiveBack s) = true
is_event_backed pairs Recall = true

abbrev pub is_backed : Log → ℕ → List (Vec (List ℕ × Bool) Global) → Bool
is_backed log faults pairs = (log.faults == faults) && list_all (is_event_backed pairs) log.events

-- Each pair is a set and the test's answer for it.
abbrev pub AreAnswers : (List ℕ → Bool) → List (List ℕ × Bool) → Type 0
AreAnswers test told = AllByRecursion (λ t. t.1 ≡ test t.0) told

-- All pairs of all workers have the test's answers.
abbrev pub AllAnswers : (List ℕ → Bool) → List (Vec (List ℕ × Bool) Global) → Type 0
AllAnswers test pairs = AllByRecursion (λ told. AreAnswers test told.items) pairs

-- The state has this many faults, and all that it knows agrees with the test.
pub record Tells (faults : ℕ) (test : List ℕ → Bool) (state : State) : Type 0 where
  pub count : state.faults ≡ faults
  pub agrees : Agrees (get state.known) test

-- The logs after a board's calls. A call that hands out nothing or changes nothing is no event.
abbrev pub log_after_take : Log → Option (List ℕ) → Log
log_after_take log None = log
log_after_take log (Some s) = with_event log (Take s)

abbrev pub log_after_give_back : Log → List ℕ → Log
log_after_give_back log s = elim (is_out (state_of log) s) [ true ↦ with_event log (GiveBack s) | false ↦ log ]

abbrev pub log_after_recall : Log → Log
log_after_recall log = elim ((state_of log).out) [ [] ↦ log | s ∷ out ↦ with_event log Recall ]
