-- A run on a device that notes what is pending, up to its power cut.
use Rattle.std.proofs.Common.{◌≡◌, ℕ, ◌+◌, ◌≤◌, Bool, List, ◌∷◌, length, Option, ap, sym, ◌∙◌}
use Rattle.sim_device.specs.FileEffects.{PowerCut, pending}
use Rattle.sim_device.specs.Disk.{Noted, Tells}
use Rattle.action_eval.specs.Answers.{Given, Run, Reply, replies}
use Rattle.target_trait.specs.declared.judgement.Judgement.{Judgement}
use Rattle.target_trait.specs.Play.{IsCutPlay, move_by}
use Rattle.target_trait.specs.Machine.{after}
use Rattle.target_trait.specs.Cuts.{CutEnded, asks_with}
use Rattle.target_trait.proofs.Machine.{reached_end}
use Rattle.target_trait.proofs.Halted.{halting}
use Rattle.target_trait.proofs.Plays.{replies_are}
use Rattle.target_trait.proofs.CutRuns.{with_cut, IsJudged}
use Rattle.maildir_target.specs.declared.variant.Variant.{Variant}
use Rattle.maildir_target.specs.declared.mailbox.Mailbox.{Mailbox}
use Rattle.maildir_target.specs.Judgement.{judged, judged_now, standing}
use Rattle.maildir_target.specs.Steps.{State, state, machine, point_at, asks_of}
use Rattle.maildir_target.specs.Crash.{cut_of, judged_keeping, call_texts, calls_of}
use Rattle.maildir_target.specs.Lawful.{asks-halts}
use Rattle.maildir_target.specs.inside.Seen.{IsOver}

pub cut_run : (v : Variant) (w : List (List (List ℕ))) (old new : Run) (box : Mailbox Noted) → IsOver Tells v w old box
    → (count : ℕ) → count ≡ length box.device.pending → (kept : Option (List Bool)) → CutEnded 7 count old new kept → (j : Judgement)
    → IsJudged (cut_of v w) (replies old) kept j
    → IsCutPlay (asks_with (asks_of v w) (cut_of v w) 7) new j
cut_run v w old new box k count count_is kept ended j is_judged =
    let t = k.last in
    let played = k.played in
    let i : Judgement = judged w t.acknowledged played.effects in
    let none = ap (λ x. move_by i (point_at x)) k.over in
    let waiting : length (pending (after (machine v w) (replies old)).effects) ≡ count =
    ap (λ (s : State). length (pending s.effects)) played.reached.here ∙ sym (count_is ∙ ap length played.device.pending) in
    with_cut (asks_of v w) (asks-halts v w) (cut_of v w) 7 count old new i j kept
    (reached_end (machine v w) old (state t played.effects) i played.reached none) waiting ended is_judged

-- what is judged is what the answers of the run say
pub kept_judged : (v : Variant) (w : List (List (List ℕ))) (r : Run) (box : Mailbox Noted) (k : IsOver Tells v w r box) (keep : List Bool) (j : Judgement)
    → j ≡ judged_now w box.acknowledged.items (standing (PowerCut keep ∷ k.played.effects))
    → j ≡ judged_keeping w (after (machine v w) (replies r)) keep
kept_judged v w r box k keep j is =
    is
    ∙ ap (λ (l : List ℕ). judged_now w l (standing (PowerCut keep ∷ k.played.effects))) (sym k.acknowledged)
    ∙ ap (λ (s : State). judged_keeping w s keep) (sym k.played.reached.here)

-- What a device notes at the end of a run is pending after the play of what the run is given.
pub calls_told : (v : Variant) (w : List (List (List ℕ))) (r : Run) (box : Mailbox Noted) → IsOver Tells v w r box
    → (g : Given) → r.given ≡ g → length r.hits ≤ r.given.limit + 1 → call_texts box.device.pending ≡ calls_of v w g
calls_told v w r box k g given few =
    let t = k.last in
    let played = k.played in
    let j : Judgement = judged w t.acknowledged played.effects in
    let is = reached_end (machine v w) r (state t played.effects) j played.reached (ap (λ x. move_by j (point_at x)) k.over) in
    ap call_texts
    (played.device.pending ∙ ap (λ (s : State). pending s.effects) (sym played.reached.here)
    ∙ ap (λ (a : List Reply). pending (after (machine v w) a).effects) (replies_are (asks_of v w) r j g given (halting (asks_of v w) (asks-halts v w) r j is) few))
