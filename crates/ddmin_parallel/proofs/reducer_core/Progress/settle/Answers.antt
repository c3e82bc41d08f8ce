use Rattle.std.proofs.Common.{◌≡◌, ℕ, Bool, true, ◌||◌, List, sym, ◌∙◌, ap, subst, Option}
use Rattle.std.specs.FinMap.{get, insert}
use Rattle.std.specs.Prelude.{is_some}
use Rattle.std.specs.List.{list_any}
use Rattle.ddmin_parallel.specs.CoreEvents.{Known, same_set, without}
use Rattle.ddmin_parallel.specs.inside.CoreStates.{IsPlaceOf, AreOpen}
use Rattle.ddmin_parallel.specs.inside.Stages.{position_of}
use Rattle.ddmin_parallel.specs.inside.Cursors.{is_among, IsReached, IsAdvanced, moved, stage_after}
use Rattle.ddmin_parallel.specs.declared.stage.Cursor.{Cursor}
use Rattle.ddmin_parallel.specs.declared.stage.Stage.{Stage}
use Rattle.ddmin_parallel.proofs.Places.{placed}
use Rattle.ddmin_parallel.proofs.CoreLemmas.{counted_put, settled_reached}
use Rattle.ddmin_parallel.proofs.reducer_core.Progress.settle.Goals as goal

was_out : (s : List ℕ) (xs ys : List (List ℕ)) (o : Option ℕ) → IsPlaceOf s xs o → is_some o ≡ true → xs ≡ ys → list_any (same_set s) ys ≡ true
was_out s xs ys o h is list = ap (list_any (same_set s)) (sym list) ∙ placed s xs o h is

pub advanced-requires-clause-counted : goal.advanced-requires-clause-counted
advanced-requires-clause-counted c =
    rw c.of-heard.ensures (counted_put c.args.self.now.known c.args.self.now.out.items (position_of c.args.self.now.stage) c.request.inside.packed c.args.fails c.args.self.now.cursor
    c.requires.open_sets
    (was_out c.request.inside.packed c.as_slice.result.now c.args.self.now.out.items c.place_of.result c.place_of.ensures c.if-is_none.ensures c.as_slice.ensures.value)
    c.requires.reached)

-- the cursor after the answer, if each value is known by an equation
reached_then : (known known' : Known) (out out' : List (List ℕ)) (stage stage' : Stage) (s : List ℕ) (b anew : Bool) (cursor cursor' : Cursor)
    (o : Option Stage) (place : ℕ)
    → AreOpen known out → list_any (same_set s) out ≡ true → IsReached (get known) (is_among out) (position_of stage) cursor
    → IsAdvanced (get (insert known s b)) (position_of stage) o place
    → known' ≡ insert known s b → out' ≡ without s out → position_of stage' ≡ position_of (stage_after stage o) → anew ≡ (b || is_some o)
    → cursor' ≡ moved cursor place anew
    → IsReached (get known') (is_among out') (position_of stage') cursor'
reached_then known known' out out' stage stage' s b anew cursor cursor' o place open_sets was reached advance known_is out_is stage_is anew_is cursor_is =
    let there = settled_reached known out stage s b cursor o place open_sets was reached advance in
    subst (λ k. IsReached (get k) (is_among out') (position_of stage') cursor') (sym known_is)
    (subst (λ u. IsReached (get (insert known s b)) (is_among u) (position_of stage') cursor') (sym out_is)
    (subst (λ p. IsReached (get (insert known s b)) (is_among (without s out)) p cursor') (sym stage_is)
    (subst (IsReached (get (insert known s b)) (is_among (without s out)) (position_of (stage_after stage o)))
    (sym (cursor_is ∙ ap (moved cursor place) anew_is)) there)))

pub returns-clause-reached : goal.returns-clause-reached
returns-clause-reached c =
    let s = c.request.inside.packed in
    reached_then c.args.self.now.known c.learn.new.known c.args.self.now.out.items
    c.take_from.new.out.items c.args.self.now.stage c.go_on.new.stage s c.args.fails (c.args.fails || c.is_some.result)
    c.args.self.now.cursor c.moved_cursor-self.result c.in-Ok.advance.0 c.in-Ok.advance.1 c.requires.open_sets
    (was_out s c.as_slice.result.now c.args.self.now.out.items c.place_of.result c.place_of.ensures c.if-is_none.ensures c.as_slice.ensures.value)
    c.requires.reached (subst (λ k. IsAdvanced (get k) (position_of c.args.self.now.stage) c.in-Ok.advance.0 c.in-Ok.advance.1) c.of-heard.ensures c.in-Ok.ensures)
    c.in-Ok-learn.ensures.ok c.take_from.ensures.rest c.go_on.ensures (ap (λ b. c.args.fails || b) c.is_some.ensures) c.moved_cursor-self.ensures
