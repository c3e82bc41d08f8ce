-- A replacement is judged after a cut that loses all as without a cut.
use Rattle.std.proofs.Common.{List, length, option_map, ap, ◌∙◌}
use Rattle.sim_device.specs.FileEffects.{Lasting, leads, contents, pending}
use Rattle.sim_device.specs.Pending.{Pending, leads_with, holds_with}
use Rattle.target_trait.specs.Machine.{after}
use Rattle.file_replace.specs.declared.variant.Variant.{Variant}
use Rattle.file_replace.specs.Words.{target}
use Rattle.file_replace.specs.Work.{Work}
use Rattle.file_replace.specs.Judgement.{judged, judged_by}
use Rattle.file_replace.specs.Steps.{State, machine, point_at, asks_of}
use Rattle.file_replace.specs.Crash.{cut_of}
use Rattle.target_trait.specs.cut_laws.KeptSets.{LosesAlike}
use Rattle.target_trait.proofs.CutLawsLemmas.LosesAlike.{ends_by}
use Rattle.sim_device.proofs.LostAll.{none_kept}

pub replacement_alike : (v : Variant) (w : Work) → LosesAlike (asks_of v w) (cut_of v w)
replacement_alike v w own j all e =
    let s : State = after (machine v w) own in
    let es = s.effects in
    ap (λ (writes : List Pending). judged_by s.tally.past (option_map (λ f. holds_with writes f (contents es Lasting f)) (leads_with writes target (leads es Lasting target))))
    (none_kept (length (pending es)) (pending es))
    ∙ ends_by (judged s.tally.past s.effects) j (point_at s.tally.step) e
