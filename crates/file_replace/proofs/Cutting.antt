-- A run on a device that notes what is pending, up to its power cut.
use Rattle.std.proofs.Common.{◌≡◌, ℕ, ◌+◌, ◌≤◌, Bool, List, length, Option, None, ap, sym, ◌∙◌}
use Rattle.sim_device.specs.FileEffects.{pending}
use Rattle.sim_device.specs.Disk.{Noted, Tells}
use Rattle.action_eval.specs.Answers.{Given, Run, Reply, replies}
use Rattle.target_trait.specs.declared.judgement.Judgement.{Judgement}
use Rattle.target_trait.specs.Play.{IsCutPlay, move_by}
use Rattle.target_trait.specs.Machine.{after}
use Rattle.target_trait.specs.Cuts.{CutEnded, asks_with}
use Rattle.target_trait.proofs.Machine.{reached_end}
use Rattle.target_trait.proofs.Halted.{halting}
use Rattle.target_trait.proofs.Plays.{replies_are}
use Rattle.target_trait.proofs.CutRuns.{with_cut, IsJudged}
use Rattle.file_replace.specs.declared.variant.Variant.{Variant}
use Rattle.file_replace.specs.Work.{Work}
use Rattle.file_replace.specs.Judgement.{judged}
use Rattle.file_replace.specs.Steps.{Tally, State, state, machine, point_at, asks_of}
use Rattle.file_replace.specs.Crash.{cut_of, judged_keeping, call_texts, calls_of}
use Rattle.file_replace.specs.Lawful.{asks-halts}
use Rattle.file_replace.specs.inside.Seen.{Played}

pub cut_run : (v : Variant) (w : Work) (old new : Run) (t : Tally) (d : Noted) → Played Tells v w old t d → point_at t.step ≡ None
    → (count : ℕ) → count ≡ length d.pending → (kept : Option (List Bool)) → CutEnded 7 count old new kept → (j : Judgement)
    → IsJudged (cut_of v w) (replies old) kept j
    → IsCutPlay (asks_with (asks_of v w) (cut_of v w) 7) new j
cut_run v w old new t d k at count count_is kept ended j is_judged =
    let none = ap (move_by (judged t.past k.effects)) at in
    let waiting : length (pending (after (machine v w) (replies old)).effects) ≡ count =
    ap (λ (s : State). length (pending s.effects)) k.reached.here ∙ sym (count_is ∙ ap length k.device.pending) in
    with_cut (asks_of v w) (asks-halts v w) (cut_of v w) 7 count old new (judged t.past k.effects) j kept
    (reached_end (machine v w) old (state t k.effects) (judged t.past k.effects) k.reached none) waiting ended is_judged

-- what is judged is what the answers of the run say
pub kept_judged : (v : Variant) (w : Work) (r : Run) (t : Tally) (d : Noted) (k : Played Tells v w r t d) (keep : List Bool) (j : Judgement) → j ≡ judged_keeping (state t k.effects) keep
    → j ≡ judged_keeping (after (machine v w) (replies r)) keep
kept_judged v w r t d k keep j is = is ∙ ap (λ (s : State). judged_keeping s keep) (sym k.reached.here)

-- What a device notes at the end of a run is pending after the play of what the run is given.
pub calls_told : (v : Variant) (w : Work) (r : Run) (t : Tally) (d : Noted) → Played Tells v w r t d → point_at t.step ≡ None
    → (g : Given) → r.given ≡ g → length r.hits ≤ r.given.limit + 1 → call_texts d.pending ≡ calls_of v w g
calls_told v w r t d k at g given few =
    let j : Judgement = judged t.past k.effects in
    let is = reached_end (machine v w) r (state t k.effects) j k.reached (ap (move_by j) at) in
    ap call_texts
    (k.device.pending ∙ ap (λ (s : State). pending s.effects) (sym k.reached.here)
    ∙ ap (λ (a : List Reply). pending (after (machine v w) a).effects) (replies_are (asks_of v w) r j g given (halting (asks_of v w) (asks-halts v w) r j is) few))
