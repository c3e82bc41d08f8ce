-- How the hits of a run are answered, by the actions of fail-rs's fail points. Nothing is counted
-- down here: each answer follows from all the hits before it.
use Rattle.std.specs.Prelude.{◌≡◌, ℕ, zero, suc, ◌-◌, ◌==◌, ◌&&◌, nat_lt, nat_le, if◌then◌else◌, Bool, true, false, List, [], ◌∷◌, ◌++◌, Option, Some, None, map, take, length, sum_by, count_by, slice_get, slice_index_or}
use Rattle.std.specs.Option.{option_map_or, option_or}
use Rattle.std.specs.List.{flat_map}
use Rattle.std.specs.Borrow.{Bor}
use Rattle.scenario_values.specs.declared.term.Term.{Term}
use Rattle.scenario_values.specs.declared.term.Task.{Task}
use Rattle.scenario_values.specs.declared.term.Task.TheVariants as task
use Rattle.std.specs.Str.{bytes_eq}
use Rattle.scenario_values.specs.Scenario.{Entries, chain_of}
use Rattle.action_eval.specs.declared.answer.Answer.{Answer}
use Rattle.action_eval.specs.declared.answer.Answer.TheVariants as answer
use Rattle.action_eval.specs.declared.answer.Stop.{Stop}
use Rattle.action_eval.specs.declared.answer.Stop.TheVariants as stop
use Rattle.action_eval.specs.declared.answer.Note.{Note}
use Rattle.action_eval.specs.Words.{word}
use Rattle.action_eval.specs.Trial.{Trial, tried}

-- An answer as contracts see it.
pub data Reply : Type 0 where
  Go : Reply
  Return : Option (List ℕ) → Reply
  Halt : Reply

abbrev pub reply_of_answer : Answer → Reply
reply_of_answer answer.Go = Go
reply_of_answer (answer.Return None) = Return None
reply_of_answer (answer.Return (Some text)) = Return (Some text.now)
reply_of_answer answer.Halt = Halt

-- The task that was done. If no term acted, it is `off`.
abbrev pub did : Option (Bor Task) → Task
did None = task.Off
did (Some t) = t.now

-- The answer to a hit at which a task acts.
abbrev pub reply_of : Task → Reply
reply_of (task.Return text) = Return text
reply_of (task.Panic text) = Halt
reply_of task.Pause = Halt
reply_of _ = Go

-- What stops the run if a task acts.
abbrev pub stop_of : Task → Option Stop
stop_of (task.Panic text) = Some stop.Panic
stop_of task.Pause = Some stop.Paused
stop_of _ = None

-- The milliseconds of a task that acts.
abbrev pub millis_of : Task → ℕ
millis_of (task.Sleep n) = n
millis_of (task.Delay n) = n
millis_of _ = 0

-- The notes of a task that acts at a point.
abbrev pub notes_of_task : ℕ → Task → List Note
notes_of_task p (task.Print text) = record { point = p; text = text } ∷ []
notes_of_task p _ = []

-- What a run is given.
pub record Given : Type 0 where
  pub scenario : Entries
  pub catalogue : List (List ℕ)
  pub seed : ℕ
  pub stream : ℕ
  pub limit : ℕ

-- What a run is given, and the points that were hit, in order.
pub record Run : Type 0 where
  pub given : Given
  pub hits : List ℕ

abbrev pub given_of : Entries → List (List ℕ) → ℕ → ℕ → ℕ → Given
given_of scenario catalogue seed stream limit = record { scenario = scenario; catalogue = catalogue; seed = seed; stream = stream; limit = limit }

-- The run in which these points were hit.
abbrev pub run_of : Entries → List (List ℕ) → ℕ → ℕ → ℕ → List ℕ → Run
run_of scenario catalogue seed stream limit hits = record { given = given_of scenario catalogue seed stream limit; hits = hits }

-- The names behind these references.
abbrev pub texts : List (Bor (List ℕ)) → List (List ℕ)
texts names = map (λ n. n.now) names

-- A run without hits.
abbrev pub start : Given → Run
start g = record { given = g; hits = [] }

-- An answered hit: its point; the term that acted, as the name of its chain and its place there;
-- what that term did; and how many random words were taken.
pub record Hit : Type 0 where
  pub point : ℕ
  pub term : Option (List ℕ × ℕ)
  pub did : Task
  pub words : ℕ

-- Whether the term that acted is the one at place i in the chain of this name.
abbrev pub is_term : List ℕ → ℕ → Option (List ℕ × ℕ) → Bool
is_term name i None = false
is_term name i (Some t) = bytes_eq t.0 name && (t.1 == i)

-- How often a term acted.
abbrev pub acted : List Hit → List ℕ → ℕ → ℕ
acted history name i = count_by (λ h. is_term name i h.term) history

-- How many random words were taken.
abbrev pub words_of : List Hit → ℕ
words_of history = sum_by (λ h. h.words) history

-- Whether a term's count is used up, given how often each term of its chain acted.
abbrev pub is_used_up : (ℕ → ℕ) → ℕ → Term → Bool
is_used_up times i t = option_map_or (λ count. nat_le count (times i)) t.count false

-- The name of a point.
abbrev pub name_of : Given → ℕ → List ℕ
name_of g p = slice_index_or g.catalogue p []

-- The trial of the terms of a name's chain after these hits.
abbrev pub trial : Given → List Hit → List ℕ → Trial
trial g history name = tried (word g.seed g.stream) (is_used_up (acted history name)) 0 (chain_of g.scenario name) (words_of history)

-- What the term at a place does. If no term acts, nothing is done.
abbrev pub task_at : List Term → Option ℕ → Task
task_at chain None = task.Off
task_at chain (Some i) = option_map_or (λ t. t.task) (slice_get chain i) task.Off

-- A place in the chain of a name.
abbrev pub place_in : List ℕ → Option ℕ → Option (List ℕ × ℕ)
place_in name None = None
place_in name (Some i) = Some (name, i)

abbrev pub hit_by : List Term → List ℕ → ℕ → ℕ → Trial → Hit
hit_by chain name taken p t = record { point = p; term = place_in name t.place; did = task_at chain t.place; words = t.next - taken }

-- The hit of point p that follows these hits.
abbrev pub next : Given → List Hit → ℕ → Hit
next g history p = hit_by (chain_of g.scenario (name_of g p)) (name_of g p) (words_of history) p (trial g history (name_of g p))

-- These hits, followed by hits of further points.
abbrev pub and_then : Given → List Hit → List ℕ → List Hit
and_then g history [] = history
and_then g history (p ∷ ps) = and_then g (history ++ next g history p ∷ []) ps

-- The points that were asked: the hits within the limit.
abbrev pub asked : Run → List ℕ
asked r = take r.given.limit r.hits

-- The answered hits of a run.
abbrev pub history_of : Run → List Hit
history_of r = and_then r.given [] (asked r)

-- Whether a hit went past the limit.
abbrev pub is_over : Run → Bool
is_over r = nat_lt r.given.limit (length r.hits)

-- The answers of a run, in order.
abbrev pub replies : Run → List Reply
replies r = map (λ h. reply_of h.did) (history_of r) ++ (if is_over r then Halt ∷ [] else [])

abbrev pub notes_of : List Hit → List Note
notes_of history = flat_map (λ h. notes_of_task h.point h.did) history

abbrev pub total_millis : List Hit → ℕ
total_millis history = sum_by (λ h. millis_of h.did) history

-- The stop of the last hit that stops the run. There may be several, since a power cut is still asked after a panic.
abbrev pub stopped_by : List Hit → Option Stop
stopped_by [] = None
stopped_by (h ∷ hs) = option_or (stopped_by hs) (stop_of h.did)

-- What stopped a run.
abbrev pub stopped : Run → Option Stop
stopped r = if is_over r then Some stop.Limit else stopped_by (history_of r)

-- A pause and the limit end a run, and what it would have come to is unknown. After a panic the power cut is still to come.
abbrev pub cuts_short : Option Stop → Bool
cuts_short None = false
cuts_short (Some stop.Panic) = false
cuts_short (Some stop.Paused) = true
cuts_short (Some stop.Limit) = true

abbrev pub is_cut_short : Run → Bool
is_cut_short r = cuts_short (stopped r)

-- A run with further hits.
abbrev pub hits_of : Run → List ℕ → Run
hits_of r ps = record { given = r.given; hits = r.hits ++ ps }

-- A run with one more hit.
abbrev pub hit : Run → ℕ → Run
hit r p = record { given = r.given; hits = r.hits ++ p ∷ [] }

-- Each of these further hits is answered with `Go`.
abbrev pub AllGo : Run → List ℕ → Type 0
AllGo r [] = Unit {0}
AllGo r (p ∷ ps) = (replies (hit r p) ≡ replies r ++ Go ∷ []) × AllGo (hit r p) ps

-- These points in turn, n times.
abbrev pub rounds : ℕ → List ℕ → List ℕ
rounds zero ps = []
rounds (suc n) ps = ps ++ rounds n ps

-- The answer to the next hit of a run, if it is of this point.
abbrev pub reply_to : Run → ℕ → Reply
reply_to r p = if nat_lt (length r.hits) r.given.limit then reply_of (next r.given (history_of r) p).did else Halt

-- If the answer isn't a halt, nothing has stopped the run.
abbrev pub GoesOn : Reply → Run → Type 0
GoesOn Go r = stopped r ≡ None
GoesOn (Return text) r = stopped r ≡ None
GoesOn Halt r = Unit {0}
