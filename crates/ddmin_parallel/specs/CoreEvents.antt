-- The reducer as a core of events: it hands out requests, each a set to be tested, and takes the answers in any order. What it knows, which requests
-- are out and how far the recursion has come depends only on the events.

use Rattle.std.specs.Prelude.{◌≡◌, ℕ, zero, suc, ◌*◌, Bool, true, false, List, [], ◌∷◌, ◌++◌, length, nat_lt, nat_le, min, Option, None, Some, unwrap_or}
use Rattle.std.specs.List.{range_with_len, list_any}
use Rattle.std.specs.Ordering.{nat_cmp, is_eq}
use Rattle.std.specs.Cmp.Lexicographic.{slice_cmp}
use Rattle.std.specs.FinMap.{FinMap, get, insert, empty}
use Rattle.ddmin_parallel.specs.Rounds.{Candidate, round}
use Rattle.ddmin_parallel.specs.Ddmin.{Decision, Fails, NoneFails, counted, Reduced, kept_after, rank, ddmin2, ddmin}

-- ---- how far the recursion goes by known answers alone

-- What is known of each set.
abbrev pub Answers : Type 0
Answers = List ℕ → Option Bool

-- What the known answers decide of a round. They decide it if each candidate up to the first that fails is known.
abbrev pub decided : Answers → List Candidate → ℕ → Option Decision
decided known [] tests = Some (NoneFails tests)
decided known (s ∷ ss) tests = elim (known s.set) [
  | None ↦ None
  | Some fails ↦ elim fails [ true ↦ Some (Fails s (counted tests)) | false ↦ decided known ss (counted tests) ]
]

-- A position in the recursion: at the empty set, with this many faults; at ddmin2(c, n) after this many tests; or at its end.
pub data Position : Type 0 where
  Empty : ℕ → Position
  Round : List ℕ → ℕ → ℕ → Position
  End : Reduced → Position

abbrev pub at_round : List ℕ → ℕ → ℕ → Position
at_round c n tests = elim (nat_le (length c) 1) [ true ↦ End (kept_after c tests) | false ↦ Round c n tests ]

abbrev pub start : ℕ → Position
start zero = End (kept_after [] 0)
start (suc more) = Empty (suc more)

abbrev pub after_empty : ℕ → Bool → Position
after_empty faults true = End (kept_after [] 1)
after_empty faults false = at_round (range_with_len 0 faults) 2 1

abbrev pub after_decision : List ℕ → ℕ → Decision → Position
after_decision c n (Fails s tests) = at_round s.set s.parts tests
after_decision c n (NoneFails tests) = elim (nat_lt n (length c)) [ true ↦ Round c (min (length c) (2 * n)) tests | false ↦ End (kept_after c tests) ]

abbrev pub option_then : {A B : Type 0} → (A → B) → Option A → Option B
option_then f None = None
option_then f (Some x) = Some (f x)

-- The position after this one, if the known answers decide it.
abbrev pub step : Answers → Position → Option Position
step known (Empty faults) = option_then (after_empty faults) (known [])
step known (Round c n tests) = option_then (after_decision c n) (decided known (round c n) tests)
step known (End r) = None

-- A number that becomes smaller with each step.
abbrev pub position_rank : Position → ℕ
position_rank (Empty faults) = suc (suc (rank (range_with_len 0 faults) 2))
position_rank (Round c n tests) = suc (rank c n)
position_rank (End r) = 0

-- The position after at most this many steps.
unfoldable pub walk : ℕ → Answers → Position → Position
walk zero known p = p
walk (suc steps) known p = elim (step known p) [ None ↦ p | Some q ↦ walk steps known q ]

-- The furthest position that the known answers lead to.
unfoldable pub furthest : Answers → Position → Position
furthest known p = walk (position_rank p) known p

-- The reduction that a position leads to.
abbrev pub finish : (List ℕ → Bool) → Position → Reduced
finish test (Empty faults) = ddmin test faults
finish test (Round c n tests) = ddmin2 test c n tests
finish test (End r) = r

-- All known answers are those of the test.
abbrev pub Agrees : Answers → (List ℕ → Bool) → Type 0
Agrees known test = (s : List ℕ) (fails : Bool) → known s ≡ Some fails → test s ≡ fails

-- ---- states and events

abbrev pub Known : Type 0
Known = FinMap (slice_cmp nat_cmp) Bool

abbrev pub same_set : List ℕ → List ℕ → Bool
same_set s t = is_eq (slice_cmp nat_cmp s t)

-- How many faults there are, what is known, and which sets are out.
pub record State : Type 0 where
  pub faults : ℕ
  pub known : Known
  pub out : List (List ℕ)

unfoldable pub position : State → Position
position state = furthest (get state.known) (start state.faults)

abbrev pub is_out : State → List ℕ → Bool
is_out state s = list_any (same_set s) state.out

-- The sets that are still out after s is back.
abbrev pub without : List ℕ → List (List ℕ) → List (List ℕ)
without s [] = []
without s (t ∷ out) = elim (same_set s t) [ true ↦ out | false ↦ t ∷ without s out ]

-- What happens to a reducer. A call that is refused, hands out nothing or changes nothing is no event.
pub data Event : Type 0 where
  Take : List ℕ → Event
  Put : List ℕ → Bool → Event
  GiveBack : List ℕ → Event
  Recall : Event

abbrev pub apply : State → Event → State
apply state (Take s) = record state { out = state.out ++ s ∷ [] }
apply state (Put s fails) = record state { known = insert state.known s fails; out = without s state.out }
apply state (GiveBack s) = record state { out = without s state.out }
apply state Recall = record state { out = [] }

abbrev pub begin : ℕ → State
begin faults = record { faults = faults; known = empty; out = [] }

-- The state after these events, the first one first.
abbrev pub replay : State → List Event → State
replay state [] = state
replay state (event ∷ events) = replay (apply state event) events

-- ---- which request comes next

-- The first candidate that is neither known nor out, before any that is known to fail.
abbrev pub first_open : Answers → (List ℕ → Bool) → List Candidate → Option (List ℕ)
first_open known out [] = None
first_open known out (s ∷ ss) = elim (known s.set) [
  | None ↦ elim (out s.set) [ true ↦ first_open known out ss | false ↦ Some s.set ]
  | Some fails ↦ elim fails [ true ↦ None | false ↦ first_open known out ss ]
]

-- The candidates at a position. The empty set is a round of its own.
abbrev pub round_at : Position → List Candidate
round_at (Empty faults) = record { set = []; parts = 2 } ∷ []
round_at (Round c n tests) = round c n
round_at (End r) = []

-- The known answers, and the assumption that each other set doesn't fail.
abbrev pub hoping : Answers → Answers
hoping known s = Some (unwrap_or (known s) false)

-- The next round after this one: the one that a candidate known to fail leads to, or else the one that follows if no open candidate fails.
abbrev pub next_round : Answers → Position → List Candidate
next_round known p = elim (step (hoping known) p) [ None ↦ [] | Some q ↦ round_at q ]

abbrev pub or_else : Option (List ℕ) → Option (List ℕ) → Option (List ℕ)
or_else None o = o
or_else (Some s) o = Some s

-- The request of the present round. If there is none and `ahead` is on, a request of the next round.
unfoldable pub next : State → Bool → Option (List ℕ)
next state ahead =
    or_else (first_open (get state.known) (is_out state) (round_at (position state)))
    (elim ahead [ true ↦ first_open (get state.known) (is_out state) (next_round (get state.known) (position state)) | false ↦ None ])

-- The state after a request was taken, if there was one to take.
abbrev pub after_take : State → Option (List ℕ) → State
after_take state None = state
after_take state (Some s) = apply state (Take s)
