use Rattle.std.proofs.Common.{◌≡◌, ℕ, sym, ◌∙◌, subst}
use Rattle.std.specs.FinMap.{get}
use Rattle.ddmin_parallel.specs.CoreEvents.{Position, Answers, furthest}
use Rattle.ddmin_parallel.specs.inside.CoreStates.{IsLawful, IsSmall}
use Rattle.ddmin_parallel.specs.inside.Stages.{position_of}
use Rattle.ddmin_parallel.specs.inside.Cursors.{IsStep, IsCounted}
use Rattle.ddmin_parallel.specs.declared.stage.Stage.{Stage}
use Rattle.ddmin_parallel.specs.declared.stage.Step.{Step}
use Rattle.ddmin_parallel.specs.declared.stage.Step.TheVariants.{Stays, Moves}
use Rattle.ddmin_parallel.proofs.Walk.{IsOn, step_on, furthest_stop}
use Rattle.ddmin_parallel.proofs.stage.advanced.Goals as goal

-- a step that was made, and one that could not be
made : (known : Answers) (p : Position) (o : Step) (s : Stage) → IsLawful p → IsSmall p → IsStep known p o → o ≡ Moves s → IsOn known p (position_of s)
made known p o s lawful small e is = step_on known p (position_of s) lawful small (subst (IsStep known p) is e)

stays : (known : Answers) (p : Position) (o : Step) (place : ℕ) → IsStep known p o → o ≡ Stays place → (furthest known p ≡ p) × IsCounted known p place
stays known p o place e is = let h = subst (IsStep known p) is e in (furthest_stop known p h.0, h.1)

pub returns-in-Stays : goal.returns-in-Stays
returns-in-Stays c =
    stays (get c.args.heard.now) (position_of c.args.stage.now) c.in_ok-place.field-0 c.in-Stays.place
    c.in_ok-place.ensures c.in-Stays.is

pub loop-current-init : goal.loop-current-init
loop-current-init c =
    let known = get c.args.heard.now in
    let on = made known (position_of c.args.stage.now) c.in_ok-place.field-0 c.in-Moves.next c.requires.lawful c.requires.small c.in_ok-place.ensures
    c.in-Moves.is in
    record { lawful = on.lawful; small = on.small; same = on.same }

pub loop-current-smaller : goal.loop-current-smaller
loop-current-smaller c =
    let known = get c.args.heard.now in
    let i = c.loop-current.invariant in
    let on = made known (position_of c.loop-current.current) c.in_ok-next.field-0 c.in-Moves-2.next i.lawful i.small c.in_ok-next.ensures c.in-Moves-2.is in
    on.nearer

pub loop-current-preserved : goal.loop-current-preserved
loop-current-preserved c =
    let known = get c.args.heard.now in
    let i = c.loop-current.invariant in
    let on = made known (position_of c.loop-current.current) c.in_ok-next.field-0 c.in-Moves-2.next i.lawful i.small c.in_ok-next.ensures c.in-Moves-2.is in
    record { lawful = on.lawful; small = on.small; same = on.same ∙ i.same }

pub returns-in-Stays-2 : goal.returns-in-Stays-2
returns-in-Stays-2 c =
    let i = c.loop-current.invariant in
    let end = stays (get c.args.heard.now)
    (position_of c.loop-current.current) c.in_ok-next.field-0 c.in-Stays-2.place c.in_ok-next.ensures c.in-Stays-2.is in
    (sym end.0 ∙ i.same, end.1)
