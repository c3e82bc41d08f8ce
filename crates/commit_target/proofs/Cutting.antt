-- A run up to its power cut.
use Rattle.std.proofs.Common.{◌≡◌, ℕ, ◌+◌, ◌≤◌, Bool, true, List, length, Option, refl, ap, sym, ◌∙◌}
use Rattle.action_eval.specs.Answers.{Given, Run, Reply, replies}
use Rattle.target_trait.specs.declared.judgement.Judgement.{Judgement}
use Rattle.target_trait.specs.Play.{IsCutPlay}
use Rattle.target_trait.specs.Machine.{after}
use Rattle.target_trait.specs.Cuts.{CutEnded, asks_with}
use Rattle.target_trait.proofs.Machine.{reached_end}
use Rattle.target_trait.proofs.Halted.{halting}
use Rattle.target_trait.proofs.Plays.{replies_are}
use Rattle.target_trait.proofs.CutRuns.{with_cut, IsJudged}
use Rattle.commit_target.specs.declared.variant.Variant.{Variant}
use Rattle.commit_target.specs.Work.{Work}
use Rattle.commit_target.specs.Writes.{AllLogs, pending}
use Rattle.commit_target.specs.Steps.{Tally, State, Over, at_step, machine, judged_at, asks_of, asks-halts}
use Rattle.commit_target.specs.Crash.{cut_of, judged_keeping, call_texts, calls_of}
use Rattle.commit_target.specs.inside.Seen.{Ended}

pub cut_run : (v : Variant) (w : Work) (old new : Run) (t : Tally) (l : AllLogs) → Ended v w old (at_step t Over) l → l.notes ≡ true → (count : ℕ) → count ≡ length l.pending
    → (kept : Option (List Bool)) → CutEnded 7 count old new kept → (j : Judgement) → IsJudged (cut_of v w) (replies old) kept j
    → IsCutPlay (asks_with (asks_of v w) (cut_of v w) 7) new j
cut_run v w old new t l k notes count count_is kept ended j is_judged =
    let s : State = record { tally = at_step t Over; events = k.events } in
    let waiting : length (pending (after (machine v w) (replies old)).events) ≡ count =
    ap (λ (x : State). length (pending x.events)) k.reached.here ∙ sym (count_is ∙ ap length (k.written.pending notes)) in
    with_cut (asks_of v w) (asks-halts v w) (cut_of v w) 7 count old new (judged_at w s) j kept
    (reached_end (machine v w) old s (judged_at w s) k.reached refl) waiting ended is_judged

-- what is judged is what the answers of the run say
pub kept_judged : (v : Variant) (w : Work) (r : Run) (t : Tally) (l : AllLogs) (k : Ended v w r (at_step t Over) l) (keep : List Bool) (j : Judgement)
    → j ≡ judged_keeping w (record { tally = at_step t Over; events = k.events }) keep
    → j ≡ judged_keeping w (after (machine v w) (replies r)) keep
kept_judged v w r t l k keep j is = is ∙ ap (λ (s : State). judged_keeping w s keep) (sym k.reached.here)

-- What the logs note at the end of a run is pending after the play of what the run is given.
pub calls_told : (v : Variant) (w : Work) (r : Run) (t : Tally) (l : AllLogs) → Ended v w r (at_step t Over) l → l.notes ≡ true → (g : Given) → r.given ≡ g
    → length r.hits ≤ r.given.limit + 1 → call_texts l.pending ≡ calls_of v w g
calls_told v w r t l k notes g given few =
    let s : State = record { tally = at_step t Over; events = k.events } in
    let is = reached_end (machine v w) r s (judged_at w s) k.reached refl in
    ap call_texts
    (k.written.pending notes ∙ ap (λ (x : State). pending x.events) (sym k.reached.here)
    ∙ ap (λ (a : List Reply). pending (after (machine v w) a).events)
    (replies_are (asks_of v w) r (judged_at w s) g given (halting (asks_of v w) (asks-halts v w) r (judged_at w s) is) few))
