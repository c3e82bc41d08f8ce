-- The judgement of a run. Two-phase commit with presumed abort promises that a transaction ends alike at all participants, and as the client was
-- told. This is judged by the records that are in the logs after all parties have restarted.
use Rattle.std.specs.Prelude.{ℕ, zero, suc, ◌==◌, ◌&&◌, ◌||◌, not, Bool, true, false, if◌then◌else◌, List, ◌∷◌}
use Rattle.std.specs.List.{list_any}
use Rattle.sim_device.specs.FileEffects.{Live}
use Rattle.sim_device.specs.LogEffects.{records}
use Rattle.target_trait.specs.declared.judgement.Judgement.{Judgement}
use Rattle.target_trait.specs.declared.judgement.Judgement.TheVariants.{Kept, Broken}
use Rattle.commit_target.specs.declared.records.Record.{Record}
use Rattle.commit_target.specs.declared.records.Kind.{Kind}
use Rattle.commit_target.specs.declared.records.Kind.TheVariants.{Prepare, Commit, Abort, End}
use Rattle.commit_target.specs.Words.{split, lost, phantom}
use Rattle.commit_target.specs.Writes.{Event, AllRestart, on_coordinator, on_participant}

abbrev pub is_kind : Kind → Kind → Bool
is_kind Prepare Prepare = true
is_kind Commit Commit = true
is_kind Abort Abort = true
is_kind End End = true
is_kind _ _ = false

-- Whether a log has a record of this transaction and this kind.
abbrev pub has : List Record → ℕ → Kind → Bool
has log transaction kind = list_any (λ r. (r.transaction == transaction) && is_kind r.kind kind) log

-- Whether the coordinator answers an inquiry with commit: it does if its log has a commit record of the transaction and no end record.
abbrev pub answers_commit : List Record → ℕ → Bool
answers_commit coordinator transaction = has coordinator transaction Commit && not (has coordinator transaction End)

-- Whether a transaction ends as committed at the participant with this log. Its own commit or abort record decides; if it only prepared, it asks the
-- coordinator; and if it didn't prepare, it aborts.
abbrev pub is_committed : List Record → List Record → ℕ → Bool
is_committed coordinator own transaction =
    if has own transaction Commit then true
    else (if has own transaction Abort then false
    else (if has own transaction Prepare then answers_commit coordinator transaction else false))

-- Whether one of the first n participants ends in this way: committed (true) or aborted (false).
abbrev pub some_ends : (ℕ → Bool) → Bool → ℕ → Bool
some_ends committed true zero = false
some_ends committed false zero = false
some_ends committed true (suc n) = some_ends committed true n || committed n
some_ends committed false (suc n) = some_ends committed false n || not (committed n)

-- The judgement of a transaction, by whether a participant committed it, whether one aborted it, and whether the client was told of a commit.
abbrev pub judged_ends : Bool → Bool → Bool → Judgement
judged_ends true true told = Broken split
judged_ends false aborted true = Broken lost
judged_ends false aborted false = Kept
judged_ends true false true = Kept
judged_ends true false false = Broken phantom

abbrev pub was_told : List ℕ → ℕ → Bool
was_told told transaction = list_any (λ n. n == transaction) told

-- The judgement of one transaction, by the records in the coordinator's log and in each participant's log.
abbrev pub judged_one : ℕ → List ℕ → List Record → (ℕ → List Record) → ℕ → Judgement
judged_one participants told known own transaction =
    judged_ends (some_ends (λ n. is_committed known (own n) transaction) true participants)
    (some_ends (λ n. is_committed known (own n) transaction) false participants) (was_told told transaction)

-- The first broken promise decides the judgement.
abbrev pub or_then : Judgement → Judgement → Judgement
or_then Kept next = next
or_then (Broken code) next = Broken code

-- The judgement of the transactions that were begun, in order.
abbrev pub judged_by : ℕ → List ℕ → List Record → (ℕ → List Record) → ℕ → Judgement
judged_by participants told known own zero = Kept
judged_by participants told known own (suc begun) =
    or_then (judged_by participants told known own begun) (judged_one participants told known own begun)

-- The records in the coordinator's log after all parties have restarted.
abbrev pub known : List Event → List Record
known events = records (on_coordinator (AllRestart ∷ events)) Live

abbrev pub own : List Event → ℕ → List Record
own events participant = records (on_participant (AllRestart ∷ events) participant) Live

abbrev pub judged : ℕ → List ℕ → List Event → ℕ → Judgement
judged participants told events begun = judged_by participants told (known events) (own events) begun
