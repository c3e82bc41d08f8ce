-- One deque's part of the tickets, and its rule. Its owner pushes at the back before the work begins and pops
-- from the front. Its only thief steals from the front too.
use Rattle.std.specs.Prelude.{◌≡◌, ℕ, ◌+◌, ◌<◌, Bool, List, [], ◌∷◌, ◌++◌, count_by}
use Rattle.std.specs.List.{sum_by}
use mathlib.Core.Option.{some}
use lib.ListN.{get_elem?}
use Rattle.worker_pool.specs.declared.rule.View.{View}

-- Who takes: the owner by a pop, or the thief by a steal.
pub data Taker : Type 0 where
  owner : Taker
  thief : Taker

pub data Move : Type 0 where
  add : ℕ → Move
  take : Taker → Move

-- What was pushed, what is in the deque, from front to back, and what each of the two took.
pub record Part : Type 0 where
  pub pushed : List ℕ
  pub held : List ℕ
  pub popped : List ℕ
  pub stolen : List ℕ

abbrev pub taken : Taker → ℕ → List ℕ → Part → Part
taken owner x rest p = record { pushed = p.pushed; held = rest; popped = p.popped ++ x ∷ []; stolen = p.stolen }
taken thief x rest p = record { pushed = p.pushed; held = rest; popped = p.popped; stolen = p.stolen ++ x ∷ [] }

-- The front is taken. At an empty deque nothing happens.
abbrev pub front_taken : Taker → List ℕ → Part → Part
front_taken who [] p = p
front_taken who (x ∷ rest) p = taken who x rest p

abbrev pub moved : Move → Part → Part
moved (add x) p = record { pushed = p.pushed ++ x ∷ []; held = p.held ++ x ∷ []; popped = p.popped; stolen = p.stolen }
moved (take who) p = front_taken who p.held p

-- The part after a list of moves, the latest of which comes first.
abbrev pub part_after : List Move → Part
part_after [] = record { pushed = []; held = []; popped = []; stolen = [] }
part_after (move ∷ earlier) = moved move (part_after earlier)

-- What a pass at a deque knows.
abbrev pub view_of : ℕ → ℕ → List ℕ → List ℕ → List ℕ → View
view_of pop_right steal_right pushed popped stolen =
    record { pop_right = pop_right; steal_right = steal_right; pushed = pushed; popped = popped; stolen = stolen }

-- The pass after it learns of more numbers pushed, popped or stolen.
abbrev pub more_pushed : List ℕ → View → View
more_pushed xs v = view_of v.pop_right v.steal_right (v.pushed ++ xs) v.popped v.stolen

abbrev pub more_popped : List ℕ → View → View
more_popped xs v = view_of v.pop_right v.steal_right v.pushed (v.popped ++ xs) v.stolen

abbrev pub more_stolen : List ℕ → View → View
more_stolen xs v = view_of v.pop_right v.steal_right v.pushed v.popped (v.stolen ++ xs)

-- A pass with both rights is split into an owner's and a thief's, and these two are joined into one again.
abbrev pub owner_of : View → View
owner_of v = view_of v.pop_right 0 v.pushed v.popped []

abbrev pub thief_of : View → View
thief_of v = view_of 0 v.steal_right v.pushed [] v.stolen

abbrev pub joined : View → View → View
joined v w = view_of v.pop_right w.steal_right v.pushed v.popped w.stolen

-- The numbers are among those pushed: if none of those passes a test, none of these does.
abbrev pub IsAmong : List ℕ → View → Type 0
IsAmong xs v = (test : ℕ → Bool) → count_by test v.pushed ≡ 0 → count_by test xs ≡ 0

-- Everything that was pushed was taken.
abbrev pub AllTaken : View → Type 0
AllTaken v = (test : ℕ → Bool) → count_by test v.pushed ≡ count_by test v.popped + count_by test v.stolen

-- The owner's pass has the right to pop and knows all that was popped. The thief's pass has the right to steal and knows all that was stolen. Both
-- know what was pushed. A pass without rights knows nothing.
pub record Knows (p : Part) (v : View) : Type 0 where
  pub pushed : 0 < v.pop_right + v.steal_right → v.pushed ≡ p.pushed
  pub popped : 0 < v.pop_right → v.popped ≡ p.popped
  pub stolen : 0 < v.steal_right → v.stolen ≡ p.stolen

-- The rule of one deque: some list of moves leads to what it holds and to what its passes know. One
-- pass has the right to pop, and one has the right to steal.
pub record Dealt (items : List ℕ) (views : List View) : Type 0 where
  pub moves : List Move
  pub held : (part_after moves).held ≡ items
  pub known : (port : ℕ) (v : View) → get_elem? views port ≡ some v → Knows (part_after moves) v
  pub owner : sum_by (λ (v : View). v.pop_right) views ≡ 1
  pub thief : sum_by (λ (v : View). v.steal_right) views ≡ 1

-- Some list of moves leads to what a pass knows, with these numbers in the deque.
pub record IsWhole (v : View) (items : List ℕ) : Type 0 where
  pub moves : List Move
  pub pushed : (part_after moves).pushed ≡ v.pushed
  pub held : (part_after moves).held ≡ items
  pub popped : (part_after moves).popped ≡ v.popped
  pub stolen : (part_after moves).stolen ≡ v.stolen
