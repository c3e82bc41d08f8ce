-- The two laws of a target, for every machine and for every table.
use Rattle.std.specs.Prelude.{◌≡◌, ℕ, Bool, true, false, List, [], ◌∷◌, ◌++◌}
use Rattle.std.proofs.Common.{refl}
use Rattle.action_eval.specs.Answers.{Reply, Halt}
use Rattle.target_trait.specs.Play.{move_by, IsWithin, IsDone}
use Rattle.target_trait.specs.Machine.{Machine, led, after, asks_by, EndsBy}
use Rattle.target_trait.specs.Protocol.{Table, table_step, table_move, by_table}

-- ---- machines
pub within_by : {S : Type 0} (m : Machine S) (points : ℕ) → ((s : S) → IsWithin points (m.move s)) → (answers : List Reply)
    → IsWithin points (asks_by m answers)
within_by m points each answers = each (after m answers)

stays_done : {S : Type 0} (m : Machine S) (IsOver : S → Type 0) → EndsBy m IsOver → (s : S) → IsOver s → (answers : List Reply)
    → IsDone (m.move (led m s answers))
stays_done m IsOver k s over [] = k.done s over
stays_done m IsOver k s over (a ∷ answers) = stays_done m IsOver k (m.step s a) (k.stays s a over) answers

halts_from : {S : Type 0} (m : Machine S) (IsOver : S → Type 0) → EndsBy m IsOver → (s : S) (before rest : List Reply)
    → IsDone (m.move (led m s (before ++ Halt ∷ rest)))
halts_from m IsOver k s [] rest = stays_done m IsOver k (m.step s Halt) (k.halts s) rest
halts_from m IsOver k s (a ∷ before) rest = halts_from m IsOver k (m.step s a) before rest

pub halts_by : {S : Type 0} (m : Machine S) (IsOver : S → Type 0) → EndsBy m IsOver → (before rest : List Reply) → IsDone (asks_by m (before ++ Halt ∷ rest))
halts_by m IsOver k before rest = halts_from m IsOver k m.first before rest

-- ---- tables

within_move : {S : Type 0} (t : Table S) (points : ℕ) → ((s : S) → IsWithin points (move_by (t.judge s) (t.point s))) → (x : S × Bool)
    → IsWithin points (table_move t x)
within_move t points each (s, true) = tt
within_move t points each (s, false) = each s

pub within_table : {S : Type 0} (t : Table S) (points : ℕ) → ((s : S) → IsWithin points (move_by (t.judge s) (t.point s))) → (answers : List Reply)
    → IsWithin points (asks_by (by_table t) answers)
within_table t points each answers = within_by (by_table t) points (within_move t points each) answers

done_halted : {S : Type 0} (t : Table S) (x : S × Bool) → x.1 ≡ true → IsDone (table_move t x)
done_halted t (s, true) e = tt
done_halted t (s, false) e = absurd cc

stays_halted : {S : Type 0} (t : Table S) (x : S × Bool) (a : Reply) → x.1 ≡ true → (table_step t x a).1 ≡ true
stays_halted t (s, true) a e = refl
stays_halted t (s, false) a e = absurd cc

is_halted : {S : Type 0} (t : Table S) (x : S × Bool) → (table_step t x Halt).1 ≡ true
is_halted t (s, true) = refl
is_halted t (s, false) = refl

pub halts_table : {S : Type 0} (t : Table S) (before rest : List Reply) → IsDone (asks_by (by_table t) (before ++ Halt ∷ rest))
halts_table {S} t before rest =
    let ends : EndsBy (by_table t) (λ (x : S × Bool). x.1 ≡ true) = record { done = done_halted t; stays = stays_halted t; halts = is_halted t } in
    halts_by (by_table t) (λ (x : S × Bool). x.1 ≡ true) ends before rest
