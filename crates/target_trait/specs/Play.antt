-- What a target asks, and the runs in which exactly that is hit.
use Rattle.std.specs.Prelude.{◌≡◌, ℕ, ◌<◌, Bool, true, false, List, [], ◌∷◌, ◌++◌, Option, Some, None, if◌then◌else◌}
use Rattle.target_trait.specs.declared.judgement.Judgement.{Judgement}
use Rattle.target_trait.specs.declared.judgement.Judgement.TheVariants.{Kept}
use Rattle.action_eval.specs.Answers.{Given, Run, Reply, replies, stopped, is_cut_short}

-- What comes next: a question, the end with a judgement, or an unknown end, after which nobody can say what the run came to (somebody else may have
-- ended it). Targets never end in the unknown way.
pub data Move : Type 0 where
  Ask : ℕ → Move
  Done : Judgement → Move
  Unknown : Move

-- A point is asked. If there is none, the run is over, with this judgement.
abbrev pub move_by : Judgement → Option ℕ → Move
move_by j (Some p) = Ask p
move_by j None = Done j

-- What comes next in a run: what is asked after its answers. A run that a pause or the limit cut short is
-- over, and its verdict is unresolved whatever the judgement is.
abbrev pub move_in : (List Reply → Move) → Run → Move
move_in asks r = if is_cut_short r then Done Kept else asks (replies r)

-- Nothing has stopped a run that still has a question.
abbrev pub IsRunning : Option ℕ → Run → Type 0
IsRunning None r = Unit {0}
IsRunning (Some p) r = stopped r ≡ None

-- After the hits `done`, each further hit is of the point that is asked after the answers up to then.
abbrev pub Follows : (List Reply → Move) → Given → List ℕ → List ℕ → Type 0
Follows asks g done [] = Unit {0}
Follows asks g done (p ∷ ps) = (asks (replies (record { given = g; hits = done })) ≡ Ask p) × Follows asks g (done ++ p ∷ []) ps

-- A whole run, in which exactly the points that were asked were hit, up to the end with this judgement.
pub record IsPlay (asks : List Reply → Move) (r : Run) (judgement : Judgement) : Type 0 where
  pub asked : Follows asks r.given [] r.hits
  pub ended : asks (replies r) ≡ Done judgement

-- A target's move: a question of one of this many points, or the end with a judgement.
abbrev pub IsWithin : ℕ → Move → Type 0
IsWithin points (Ask p) = p < points
IsWithin points (Done j) = Unit {0}
IsWithin points Unknown = ⊥

-- A component's move: the same, or an unknown end.
abbrev pub AsksWithin : ℕ → Move → Type 0
AsksWithin points (Ask p) = p < points
AsksWithin points (Done j) = Unit {0}
AsksWithin points Unknown = Unit {0}

-- The end, with a judgement.
abbrev pub IsDone : Move → Type 0
IsDone (Ask p) = ⊥
IsDone (Done j) = Unit {0}
IsDone Unknown = ⊥

-- ---- runs whose power cut is asked, also after a panic

-- The same as `Follows`, and no hit comes after the run was cut short.
abbrev pub FollowsOn : (List Reply → Move) → Given → List ℕ → List ℕ → Type 0
FollowsOn asks g done [] = Unit {0}
FollowsOn asks g done (p ∷ ps) = (move_in asks (record { given = g; hits = done }) ≡ Ask p) × FollowsOn asks g (done ++ p ∷ []) ps

-- A run is over with this judgement. If it was cut short, any judgement will do.
abbrev pub EndsSo : Bool → Move → Judgement → Type 0
EndsSo true move judgement = Unit {0}
EndsSo false move judgement = move ≡ Done judgement

-- A whole run, in which exactly the points that were asked were hit, up to the end or to where it was cut short.
pub record IsCutPlay (asks : List Reply → Move) (r : Run) (judgement : Judgement) : Type 0 where
  pub asked : FollowsOn asks r.given [] r.hits
  pub ended : EndsSo (is_cut_short r) (asks (replies r)) judgement

-- A whole run, of a target whose power cut is asked (true) or isn't (false).
abbrev pub IsWhole : Bool → (List Reply → Move) → Run → Judgement → Type 0
IsWhole true asks r judgement = IsCutPlay asks r judgement
IsWhole false asks r judgement = IsPlay asks r judgement

-- What may follow a halt: nothing but the end, unless the power cut is asked.
abbrev pub MayFollowHalt : Bool → Move → Type 0
MayFollowHalt true move = Unit {0}
MayFollowHalt false move = IsDone move
