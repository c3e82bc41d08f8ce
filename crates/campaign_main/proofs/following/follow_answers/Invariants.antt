use Rattle.std.proofs.Common.{◌≡◌, ◌≤◌, ◌-◌, ◌⊎◌, false, length, List}
use Rattle.std.specs.Io.KnownBytes.{Appends, Consumes, IsAtEnd}
use Rattle.campaign_main.specs.Following.{AreLooks, IsOfLines, Look, told_by}
use Rattle.campaign_main.specs.Questions.{subject_in}
use Rattle.campaign_main.specs.inside.Looks.{IsOfItsLines}
use Rattle.campaign_main.proofs.following.follow_answers.Given as goal

abbrev pub invariant-loop-told : goal.invariant-loop-told
invariant-loop-told g l =
    (length l.known.items ≤ 268435456) × Consumes (g.A.Read.remaining l.fn.answers) (g.A.Read.remaining l.answers) l.known.items
    × (IsOfLines l.known.items ⊎ IsAtEnd (g.A.Read.remaining l.answers)) × (g.W.Sink.has_failed l.output ≡ false) × IsOfItsLines l.told
    × ((looks : List Look) × AreLooks (subject_in l.campaign) looks l.known.items × (l.told.lines.keys ≡ told_by looks)
    × Appends (g.W.Sink.told l.fn.output) (g.W.Sink.told l.output) l.told.text.items)

abbrev pub decreases-loop-told : goal.decreases-loop-told
decreases-loop-told g l = 268435456 - length l.known.items
