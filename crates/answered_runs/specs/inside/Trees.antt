-- What lines say comes next after answers, as a tree of places. Private contracts cite it.
use Rattle.std.specs.Prelude.{◌≡◌, ◌≢◌, ◌⊎◌, ◌<◌, ◌+◌, ℕ, zero, suc, List, [], ◌∷◌, ◌++◌, length, replicate, Option, None, Some, option_and_then, slice_get, IfSome}
use Rattle.std.specs.List.{AllByRecursion}
use Rattle.action_eval.specs.Answers.{AllGo, Reply, Go, Run, given_of, hits_of, start}
use Rattle.target_trait.specs.Cuts.{IsAsking}
use Rattle.target_trait.specs.Play.{Move, Ask}
use Rattle.target_trait.specs.declared.judgement.Verdict.{Verdict}
use Rattle.target_trait.specs.declared.judgement.Verdict.TheVariants.{Unresolved}
use Rattle.scenario_values.specs.Scenario.{Entries, IsScenario}
use Rattle.answered_runs.specs.Agreement.{EndsAtPause, HasItsRun, IsCertain, IsContradiction, Line, Says, end_by, line_of}
use Rattle.answered_runs.specs.declared.unseen.UnseenRun.{UnseenRun}
use Rattle.answered_runs.specs.declared.saying.SeenRun.{SeenRun}
use Rattle.answered_runs.specs.declared.broken.BrokenRun.{BrokenRun}
use Rattle.answered_runs.specs.Answered.{Answered, told_of}
use Rattle.answer_text.specs.Runs.{told_in}
use Rattle.answer_text.specs.declared.runs.ToldRun.{ToldRun}
use Rattle.answered_runs.specs.declared.broken.Conflict.{Conflict}
use Rattle.answered_runs.specs.declared.broken.Conflict.TheVariants as conflict
use Rattle.answered_runs.specs.declared.tree.Next.{Next}
use Rattle.answered_runs.specs.declared.tree.Next.TheVariants.{End, Hit}
use Rattle.answered_runs.specs.declared.tree.Said.{Said}
use Rattle.answered_runs.specs.declared.tree.Way.{Way}
use Rattle.answered_runs.specs.declared.segments.Segment.{Segment}
use Rattle.answered_runs.specs.inside.Segments.{leads_in}

-- What is said at each place, and where each answer leads from there.
pub record Tree : Type 0 where
  pub said : List Said
  pub segments : List Segment
  pub ways : List (Way × ℕ)
  pub texts : List (List ℕ)

-- A tree of which place 0 alone is there.
pub record IsNew (t : Tree) : Type 0 where
  pub said : t.said ≡ record { line = 0; next = End Unresolved } ∷ []
  pub leads : (place : ℕ) (r : Reply) → leads_in t.segments t.ways t.texts place r ≡ None

-- Where an answer leads from a place.
abbrev pub way : Tree → ℕ → Reply → Option ℕ
way t place r = leads_in t.segments t.ways t.texts place r

-- Where answers lead from a place.
abbrev pub walk : Tree → ℕ → List Reply → Option ℕ
walk t place [] = Some place
walk t place (r ∷ rs) = option_and_then (λ next. walk t next rs) (way t place r)

-- A new place, to which an answer leads.
pub record Adds (t u : Tree) (place : ℕ) (r : Reply) (x : Said) (next : ℕ) : Type 0 where
  pub next_is : next ≡ length t.said
  pub said : u.said ≡ t.said ++ x ∷ []
  pub leads : way u place r ≡ Some next
  pub kept : (n : ℕ) (q : Reply) (m : ℕ) → way t n q ≡ Some m → way u n q ≡ Some m
  pub only : (n : ℕ) (q : Reply) (m : ℕ) → way u n q ≡ Some m → (way t n q ≡ Some m) ⊎ ((n ≡ place) × (q ≡ r) × (m ≡ next))

-- So many new places, each of which `Go` leads to from the one before; the same is said at each.
abbrev pub AddsOn : ℕ → Tree → Tree → ℕ → Said → Type 0
AddsOn zero t u place x = u ≡ t
AddsOn (suc n) t u place x = (middle : Tree) × Adds t middle place Go x (place + 1) × AddsOn n middle u (place + 1) x

-- `Go` leads from `place + n` to the next place, and what is said at that one is said at `place` too.
pub record IsAlike (t : Tree) (place n : ℕ) : Type 0 where
  pub leads : way t (place + n) Go ≡ Some (place + n + 1)
  pub said : slice_get t.said (place + n + 1) ≡ slice_get t.said place

-- ---- what lines say, in a tree

abbrev pub move_of : Next → Move
move_of (Hit point) = Ask point
move_of (End v) = end_by v

-- Some line says that the component does this after these answers.
pub record Leads (t : Tree) (answers : List Reply) (move : Move) : Type 0 where
  pub place : ℕ
  pub said : Said
  pub there : walk t 0 (Go ∷ answers) ≡ Some place
  pub at : slice_get t.said place ≡ Some said
  pub move_is : move_of said.next ≡ move

-- A line's run ends at a pause, if one stops it, and whatever the line says stands in the tree.
pub record IsKept (points : List (List ℕ)) (t : Tree) (l : Line) : Type 0 where
  pub pauses : EndsAtPause points l
  pub says : (count : ℕ) (answers : List Reply) (move : Move) → Says points l count answers move → Leads t answers move

-- A recorded run of a certain scenario.
pub record IsTold (a : Answered) (s : Entries) (r : ToldRun) : Type 0 where
  pub lawful : IsScenario s
  pub certain : IsCertain s
  pub recorded : told_in a.book s ≡ Some r

-- A recorded run says what stands at a place that these answers lead to.
pub record IsSaid (a : Answered) (name : List Reply) (x : Said) : Type 0 where
  pub scenario : Entries
  pub run : ToldRun
  pub told : IsTold a scenario run
  pub line : x.line ≡ run.line
  pub answers : List Reply
  pub name_is : name ≡ Go ∷ answers
  pub count : ℕ
  pub says : Says a.points (line_of scenario (told_of run)) count answers (move_of x.next)

-- An answer leads to a later place.
pub record IsStep (t : Tree) (names : ℕ → List Reply) (n m : ℕ) (r : Reply) : Type 0 where
  pub later : n < m
  pub within : m < length t.said
  pub name_is : names m ≡ names n ++ r ∷ []

-- Each place has the answers that lead to it, and a recorded run says what stands there.
pub record IsSound (a : Answered) (t : Tree) : Type 0 where
  pub some : 0 < length t.said
  pub names : ℕ → List Reply
  pub root : names 0 ≡ []
  pub ways : (n : ℕ) (r : Reply) (m : ℕ) → way t n r ≡ Some m → IsStep t names n m r
  pub sources : (m : ℕ) (x : Said) → 0 < m → slice_get t.said m ≡ Some x → IsSaid a (names m) x

-- What stands in the one tree stands in the other.
pub record Grows (t u : Tree) : Type 0 where
  pub said : (m : ℕ) (x : Said) → slice_get t.said m ≡ Some x → slice_get u.said m ≡ Some x
  pub ways : (n : ℕ) (r : Reply) (m : ℕ) → way t n r ≡ Some m → way u n r ≡ Some m

-- The place to which an answer leads: it was there, or it is new.
abbrev pub Enters : Tree → Tree → ℕ → Reply → Said → ℕ → Type 0
Enters t u place r x next = ((u ≡ t) × (way t place r ≡ Some next)) ⊎ Adds t u place r x next

-- What comes next at a place.
pub record IsNext (t : Tree) (place : ℕ) (move : Move) : Type 0 where
  pub said : Said
  pub at : slice_get t.said place ≡ Some said
  pub move_is : move_of said.next ≡ move

-- So many times `Go` leads on from a place, each time to the place after it, at which the same comes next: the places were there, or they are new.
abbrev pub Follows : ℕ → Tree → Tree → ℕ → Said → Type 0
Follows zero t u place x = u ≡ t
Follows (suc n) t u place x =
    (middle : Tree) × Enters t middle place Go x (place + 1) × IsNext middle (place + 1) (move_of x.next) × Follows n middle u (place + 1) x

-- How two moves differ, at the hit of this number.
abbrev pub IsConflict : Next → Next → ℕ → Option Conflict → Type 0
IsConflict x y hit None = move_of x ≡ move_of y
IsConflict x y hit (Some (conflict.Hits n)) = (n ≡ hit) × (move_of x ≢ move_of y) × (IsAsking (move_of y) ⊎ IsAsking (move_of x))
IsConflict x y hit (Some conflict.Verdict) = (v : Verdict) × (w : Verdict) × (x ≡ End v) × (y ≡ End w) × (v ≢ w)
IsConflict x y hit (Some conflict.Paused) = ⊥

abbrev pub IsBroken : Said → Said → ℕ → Option BrokenRun → Type 0
IsBroken there x hit None = move_of there.next ≡ move_of x.next
IsBroken there x hit (Some b) = (b.line ≡ x.line) × (b.earlier ≡ there.line) × IsConflict there.next x.next hit (Some b.how)

-- ---- a run with hits

-- What a line says that records the hits of a scenario's run.
abbrev pub line_seen : Entries → SeenRun → Line
line_seen s run = line_of s (record { verdict = run.verdict; hits = Some run.hits.now })

-- A recorded run of a certain scenario, with its hits.
pub record IsSeen (a : Answered) (s : Entries) (run : SeenRun) : Type 0 where
  pub recorded : ToldRun
  pub told : IsTold a s recorded
  pub seen : line_of s (told_of recorded) ≡ line_seen s run
  pub line : run.line ≡ recorded.line

-- A run over these points without a hit yet, in which so many hits are answered. Nothing is drawn in it, so any seed will do.
abbrev pub HasBegun : List (List ℕ) → ℕ → Run → Type 0
HasBegun points limit r = r ≡ start (given_of r.given.scenario points 0 0 limit)

-- So many hits of a point, from this number on, were played. They all go, and the tree has them.
pub record GoesAlong (t u : Tree) (r now : Run) (run : SeenRun) (number place point n : ℕ) : Type 0 where
  pub hits : (m : ℕ) → m < n → slice_get run.hits.now (number + m) ≡ Some point
  pub follows : Follows n t u place (record { line = run.line; next = Hit point })
  pub played : now ≡ hits_of r (replicate n point)
  pub go : AllGo r (replicate n point)

-- A run that a pause stopped after so many hits has no further hit, and is unresolved.
abbrev pub EndsThere : SeenRun → ℕ → Type 0
EndsThere run count = (count ≡ length run.hits.now) × (run.verdict ≡ Unresolved)

-- How a run that a pause stopped after so many hits contradicts itself.
abbrev pub IsPauseFault : SeenRun → ℕ → Option BrokenRun → Type 0
IsPauseFault run count None = EndsThere run count
IsPauseFault run count (Some b) = (b.line ≡ run.line) × (b.earlier ≡ run.line) × (b.how ≡ conflict.Paused) × (EndsThere run count → ⊥)

-- What a line says was put into the tree, or it contradicts another line.
pub record Puts (a : Answered) (t u : Tree) (l : Line) : Type 0 where
  pub sound : IsSound a u
  pub grows : Grows t u
  pub kept : IsKept a.points u l

abbrev pub IsPut : Answered → Tree → Tree → Line → Option BrokenRun → Type 0
IsPut a t u l None = Puts a t u l
IsPut a t u l (Some b) = IsContradiction a b

-- ---- a run without hits

-- Whatever is recorded of certain scenarios stands in the tree.
abbrev pub AreKept : Answered → Tree → Type 0
AreKept a t = (s : Entries) (r : ToldRun) → IsTold a s r → IsKept a.points t (line_of s (told_of r))

-- The hits that are recorded are of the points.
abbrev pub HaveKnownPoints : Answered → Type 0
HaveKnownPoints a = (s : Entries) (r : ToldRun) → told_in a.book s ≡ Some r
    → IfSome (told_of r).hits (λ hits. AllByRecursion (λ p. p < length a.points) hits)

-- A recorded run of a certain scenario, without hits.
pub record IsUnseen (a : Answered) (run : UnseenRun) : Type 0 where
  pub recorded : ToldRun
  pub told : IsTold a run.scenario recorded
  pub unseen : (told_of recorded).hits ≡ None
  pub line : run.line ≡ recorded.line
  pub verdict : run.verdict ≡ (told_of recorded).verdict

-- A run without hits, with the verdict `own`, has come to an end with this verdict.
abbrev pub IsEndFault : UnseenRun → ℕ → Verdict → Option BrokenRun → Type 0
IsEndFault run earlier v None = v ≢ Unresolved → run.verdict ≡ v
IsEndFault run earlier v (Some b) = (v ≢ Unresolved) × (run.verdict ≢ v) × (b.line ≡ run.line) × (b.earlier ≡ earlier) × (b.how ≡ conflict.Verdict)

-- The scenario has the run of no recorded one that passes or fails otherwise; or it has, which is a contradiction.
abbrev pub StaysApart : Answered → UnseenRun → Option BrokenRun → Type 0
StaysApart a run None = (s : Entries) (r : ToldRun) → IsTold a s r → HasItsRun a.points run.scenario (line_of s (told_of r)) → run.verdict ≡ (told_of r).verdict
StaysApart a run (Some b) = IsContradiction a b
