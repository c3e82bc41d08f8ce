-- A delivery is judged after a cut that loses all as without a cut.
use Rattle.std.proofs.Common.{ℕ, List, length, ap, ◌∙◌}
use Rattle.sim_device.specs.FileEffects.{Lasting, leads, contents, pending}
use Rattle.sim_device.specs.Pending.{Pending, leads_with, holds_with}
use Rattle.target_trait.specs.Machine.{after}
use Rattle.maildir_target.specs.declared.variant.Variant.{Variant}
use Rattle.maildir_target.specs.Judgement.{Standing, judged, judged_now}
use Rattle.maildir_target.specs.Steps.{State, machine, point_at, asks_of}
use Rattle.maildir_target.specs.Crash.{cut_of}
use Rattle.target_trait.specs.cut_laws.KeptSets.{LosesAlike}
use Rattle.target_trait.proofs.CutLawsLemmas.LosesAlike.{ends_by}
use Rattle.sim_device.proofs.LostAll.{none_kept}

pub delivery_alike : (v : Variant) (messages : List (List (List ℕ))) → LosesAlike (asks_of v messages) (cut_of v messages)
delivery_alike v messages own j all e =
    let s : State = after (machine v messages) own in
    let es = s.effects in
    let left : List Pending → Standing = λ writes. record { leads = λ n. leads_with writes n (leads es Lasting n); contents = λ f. holds_with writes f (contents es Lasting f) } in
    ap (λ (writes : List Pending). judged_now messages s.tally.acknowledged (left writes)) (none_kept (length (pending es)) (pending es))
    ∙ ends_by (judged messages s.tally.acknowledged s.effects) j (point_at s.tally.step) e
