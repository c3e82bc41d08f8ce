-- What a run leaves to the power cut at its end: how many records are pending, which ones, and what the judgement is if the cut keeps some of them.
-- Also scenarios in which a flaw shows only if a pending record is kept.
use Rattle.std.specs.Prelude.{ℕ, suc, ◌+◌, if◌then◌else◌, Bool, List, [], ◌∷◌, ◌++◌, map, length, Some, None, codes}
use Rattle.std.specs.Fmt.{decimal}
use Rattle.scenario_values.specs.declared.term.Term.{Term}
use Rattle.scenario_values.specs.declared.term.Task.TheVariants.{Panic}
use Rattle.scenario_values.specs.Scenario.{Entries}
use Rattle.action_eval.specs.Answers.{Given, replies, start}
use Rattle.sim_device.specs.LogEffects.{survivors}
use Rattle.target_trait.specs.declared.judgement.Judgement.{Judgement}
use Rattle.target_trait.specs.Machine.{after}
use Rattle.target_trait.specs.Outcomes.{play}
use Rattle.target_trait.specs.Failing.{fails_once}
use Rattle.target_trait.specs.Cuts.{Cut}
use Rattle.commit_target.specs.declared.variant.Variant.{Variant}
use Rattle.commit_target.specs.declared.records.Record.{Record}
use Rattle.commit_target.specs.declared.records.PendingRecord.{PendingRecord}
use Rattle.commit_target.specs.declared.records.Party.{Party}
use Rattle.commit_target.specs.declared.records.Party.TheVariants.{Coordinator, Participant}
use Rattle.commit_target.specs.Words.{party_text, kind_text}
use Rattle.commit_target.specs.Work.{Work}
use Rattle.commit_target.specs.Writes.{Event, is_party, pending, on_coordinator, on_participant}
use Rattle.commit_target.specs.Judgement.{judged_by}
use Rattle.commit_target.specs.Steps.{State, machine, asks_of}

-- The answers for one party's pending records, out of the answers for all pending records. Records without an answer are lost.
abbrev pub answers_of : Party → List PendingRecord → List Bool → List Bool
answers_of party [] keep = []
answers_of party (p ∷ records) [] = []
answers_of party (p ∷ records) (keeps ∷ keep) =
    if is_party p.party party then keeps ∷ answers_of party records keep else answers_of party records keep

-- The records in the logs after a cut with these answers: those that last, and in each log the pending ones up to the last that is kept.
abbrev pub known_keeping : List Event → List Bool → List Record
known_keeping events keep = survivors (on_coordinator events) (answers_of Coordinator (pending events) keep)

abbrev pub own_keeping : List Event → List Bool → ℕ → List Record
own_keeping events keep n = survivors (on_participant events n) (answers_of (Participant n) (pending events) keep)

abbrev pub judged_keeping : Work → State → List Bool → Judgement
judged_keeping w s keep = judged_by w.participants s.tally.told (known_keeping s.events keep) (own_keeping s.events keep) s.tally.begun

-- The power cut of a commit, as a function of the answers of its run.
abbrev pub cut_of : Variant → Work → Cut
cut_of v w = record {
  pending = λ own. length (pending (after (machine v w) own).events);
  judge = λ own keep. judged_keeping w (after (machine v w) own) keep;
}

-- ---- what is pending, in words

-- A pending record as a text, such as `append coordinator end 1`: whose log it is in, its kind, and its transaction, numbered from 1.
abbrev pub call_text : PendingRecord → List ℕ
call_text p = codes "append " ++ party_text p.party ++ codes " " ++ kind_text p.entry.kind ++ codes " " ++ decimal (p.entry.transaction + 1)

abbrev pub call_texts : List PendingRecord → List (List ℕ)
call_texts records = map call_text records

-- The texts of the records that are pending at the end of a run, in the order in which they were made over all logs.
abbrev pub calls_of : Variant → Work → Given → List (List ℕ)
calls_of v w g = call_texts (pending (after (machine v w) (replies (play (suc g.limit) (asks_of v w) (start g)))).events)

-- ---- scenarios

-- `power::keep=1*return`: the first pending record is kept, and no other.
abbrev pub keeps_first : List ℕ × List Term
keeps_first = fails_once (codes "power::keep")

-- The commit is lost on its way to the first participant, and the cut keeps the first pending record, the end record.
abbrev pub outcome_lost_end_kept : Entries
outcome_lost_end_kept = fails_once (codes "commit::send_outcome") ∷ keeps_first ∷ []

-- `commit::send_outcome=1*panic`: the run ends before any participant is told.
abbrev pub panic_before_outcome : List ℕ × List Term
panic_before_outcome = (codes "commit::send_outcome", record { share = 1000000; count = Some 1; task = Panic None } ∷ [])

abbrev pub outcome_never_sent : Entries
outcome_never_sent = panic_before_outcome ∷ []

-- The same, and the cut keeps the first pending record, the end record.
abbrev pub outcome_never_sent_end_kept : Entries
outcome_never_sent_end_kept = panic_before_outcome ∷ keeps_first ∷ []
