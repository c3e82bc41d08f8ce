-- Each step finds what it needs.
use Rattle.std.proofs.Common.{◌≡◌, ℕ, ◌==◌, cond, Bool, true, false, List, [], ◌∷◌, Option, None, Some, is_some, is_none, refl, ap, sym, subst}
use Rattle.std.proofs.lemmas.Bool.{eq-eqb}
use Rattle.sim_device.specs.FileEffects.{Effect, Create, Link, Unlink, SyncDir, Live, leads, created}
use Rattle.sim_device.specs.Disk.{entry_at}
use Rattle.sim_device.specs.declared.names.Entry.{Entry}
use Rattle.action_eval.specs.Answers.{Run, Reply, Go, Return, Halt, replies}
use Rattle.target_trait.specs.Machine.{led}
use Rattle.maildir_target.specs.declared.variant.Variant.{Variant}
use Rattle.maildir_target.specs.declared.variant.Variant.TheVariants.{Sound, LinkFirst, IgnoreWrite, AppendTmp, DeliverInNew}
use Rattle.maildir_target.specs.declared.name.Attempt.{Attempt}
use Rattle.maildir_target.specs.declared.name.Attempt.TheVariants.{First, Second}
use Rattle.maildir_target.specs.Steps.{Step, Looking, Creating, Writing, Syncing, Linking, Unlinking, SyncingDir, Cleaning, Over, Tally, State, first_step, begun_of, acknowledged, failed_of, not_cleaned, looked, linked, is_there, write_step, create_unless, created_by, after_create, after_link, after_sync, after_half, written_of, new_of, on_go, on_return, stepped, start_of, before_all, state, machine}
use Rattle.maildir_target.specs.inside.Seen.{Played, CanCreate}
use Rattle.maildir_target.proofs.Playing.{AreLed}

-- the step finds what it needs, by the file that the name which is written leads to
abbrev pub IsReady : Variant → Step → Option ℕ → Type 0
IsReady v Looking file = Unit {0}
IsReady v Creating file = CanCreate v file
IsReady v (Writing c cs) file = is_none file ≡ false
IsReady v Syncing file = is_none file ≡ false
IsReady v Linking file = is_none file ≡ false
IsReady v Unlinking file = is_none file ≡ false
IsReady v SyncingDir file = Unit {0}
IsReady v Cleaning file = is_none file ≡ false
IsReady v Over file = Unit {0}

abbrev IsReadyAfter : Variant → Tally → List Effect → Type 0
IsReadyAfter v t es = IsReady v t.step (leads es Live (written_of v t))

abbrev Ready : Variant → State → Type 0
Ready v s = IsReadyAfter v s.tally s.effects

first_ready : (v : Variant) (file : Option ℕ) → IsReady v (first_step v) file
first_ready Sound file = tt
first_ready LinkFirst file = tt
first_ready IgnoreWrite file = tt
first_ready AppendTmp file = tt
first_ready DeliverInNew file = tt

begun_ready : (v : Variant) (t : Tally) (rest : List (List (List ℕ))) (es : List Effect) → IsReadyAfter v (begun_of v t rest) es
begun_ready v t [] es = tt
begun_ready v t (chunks ∷ more) es = first_ready v (leads es Live (written_of v (begun_of v t (chunks ∷ more))))

failed_ready : (v : Variant) (t : Tally) (attempt : Attempt) (es : List Effect) → IsReadyAfter v (failed_of v t attempt) es
failed_ready v t First es = first_ready v (leads es Live (written_of v (failed_of v t First)))
failed_ready v t Second es = begun_ready v t t.rest es

not_cleaned_ready : (v : Variant) (t : Tally) (es : List Effect) → IsReadyAfter v (not_cleaned v t) es
not_cleaned_ready Sound t es = failed_ready Sound t t.attempt es
not_cleaned_ready LinkFirst t es = failed_ready LinkFirst t t.attempt es
not_cleaned_ready IgnoreWrite t es = failed_ready IgnoreWrite t t.attempt es
not_cleaned_ready AppendTmp t es = failed_ready AppendTmp t t.attempt es
not_cleaned_ready DeliverInNew t es = tt

write_ready : (v : Variant) (cs : List (List ℕ)) (file : Option ℕ) → is_none file ≡ false → IsReady v (write_step cs) file
write_ready v [] file r = r
write_ready v (c ∷ cs) file r = r

create_ready : (v : Variant) (cs : List (List ℕ)) (file : Option ℕ) → is_none file ≡ false → IsReady v (after_create v cs) file
create_ready Sound cs file r = write_ready Sound cs file r
create_ready LinkFirst cs file r = r
create_ready IgnoreWrite cs file r = write_ready IgnoreWrite cs file r
create_ready AppendTmp cs file r = write_ready AppendTmp cs file r
create_ready DeliverInNew cs file r = write_ready DeliverInNew cs file r

link_ready : (v : Variant) (cs : List (List ℕ)) (file : Option ℕ) → is_none file ≡ false → IsReady v (after_link v cs) file
link_ready Sound cs file r = r
link_ready LinkFirst cs file r = write_ready LinkFirst cs file r
link_ready IgnoreWrite cs file r = r
link_ready AppendTmp cs file r = r
link_ready DeliverInNew cs file r = tt

sync_ready : (v : Variant) (file : Option ℕ) → is_none file ≡ false → IsReady v (after_sync v) file
sync_ready Sound file r = r
sync_ready LinkFirst file r = r
sync_ready IgnoreWrite file r = r
sync_ready AppendTmp file r = r
sync_ready DeliverInNew file r = tt

half_ready : (v : Variant) (cs : List (List ℕ)) (file : Option ℕ) → is_none file ≡ false → IsReady v (after_half v cs) file
half_ready Sound cs file r = r
half_ready LinkFirst cs file r = r
half_ready IgnoreWrite cs file r = write_ready IgnoreWrite cs file r
half_ready AppendTmp cs file r = r
half_ready DeliverInNew cs file r = r

-- a name that was created is there
there_now : (n : ℕ) (es : List Effect) → is_none (leads (Create n ∷ es) Live n) ≡ false
there_now n es = ap (λ b. is_none (cond b (Some (created es)) (leads es Live n))) (eq-eqb n n refl)

not_none : (o : Option ℕ) → is_some o ≡ true → is_none o ≡ false
not_none (Some f) e = refl
not_none None e = cc

there_unless : (b : Bool) (n : ℕ) (es : List Effect) → is_there n es ≡ b → is_none (leads (create_unless b n es) Live n) ≡ false
there_unless false n es e = there_now n es
there_unless true n es e = not_none (leads es Live n) e

there_created : (v : Variant) (n : ℕ) (es : List Effect) → is_none (leads (created_by v n es) Live n) ≡ false
there_created Sound n es = there_now n es
there_created LinkFirst n es = there_now n es
there_created IgnoreWrite n es = there_now n es
there_created AppendTmp n es = there_unless (is_there n es) n es refl
there_created DeliverInNew n es = there_now n es

-- a link leaves the name that it comes from
linked_there : (b : Bool) (x y : Option ℕ) → is_none x ≡ false → is_none y ≡ false → is_none (cond b x y) ≡ false
linked_there true x y p q = p
linked_there false x y p q = q

can_create : (v : Variant) (file : Option ℕ) → is_some file ≡ false → CanCreate v file
can_create Sound file e = e
can_create LinkFirst file e = e
can_create IgnoreWrite file e = e
can_create AppendTmp file e = tt
can_create DeliverInNew file e = e

looked_ready : (b : Bool) (v : Variant) (t : Tally) (es : List Effect) → is_there (written_of v t) es ≡ b → IsReadyAfter v (looked b v t) es
looked_ready true v t es e = failed_ready v t t.attempt es
looked_ready false v t es e = can_create v (leads es Live (written_of v t)) e

linked_ready : (b : Bool) (v : Variant) (t : Tally) (es : List Effect) → is_none (leads es Live (written_of v t)) ≡ false → Ready v (linked b v t es)
linked_ready true v t es r = r
linked_ready false v t es r =
    link_ready v t.chunks (leads (Link (written_of v t) (new_of v t) ∷ es) Live (written_of v t))
    (linked_there (written_of v t == new_of v t) (leads es Live (written_of v t)) (leads es Live (written_of v t)) r r)

go_ready : (v : Variant) (t : Tally) (es : List Effect) (step : Step) → IsReady v step (leads es Live (written_of v t)) → Ready v (on_go v t es step)
go_ready v t es Looking r = looked_ready (is_there (written_of v t) es) v t es refl
go_ready v t es Creating r = create_ready v t.chunks (leads (created_by v (written_of v t) es) Live (written_of v t)) (there_created v (written_of v t) es)
go_ready v t es (Writing c cs) r = write_ready v cs (leads es Live (written_of v t)) r
go_ready v t es Syncing r = sync_ready v (leads es Live (written_of v t)) r
go_ready v t es Linking r = linked_ready (is_there (new_of v t) es) v t es r
go_ready v t es Unlinking r = tt
go_ready v t es SyncingDir r = begun_ready v (acknowledged t) t.rest (SyncDir ∷ es)
go_ready v t es Cleaning r = failed_ready v t t.attempt (Unlink (written_of v t) ∷ es)
go_ready v t es Over r = tt

return_ready : (v : Variant) (t : Tally) (es : List Effect) (step : Step) → IsReady v step (leads es Live (written_of v t)) → Ready v (on_return v t es step)
return_ready v t es Looking r = failed_ready v t t.attempt es
return_ready v t es Creating r = failed_ready v t t.attempt es
return_ready v t es (Writing c cs) r = half_ready v cs (leads es Live (written_of v t)) r
return_ready v t es Syncing r = r
return_ready v t es Linking r = r
return_ready v t es Unlinking r = tt
return_ready v t es SyncingDir r = begun_ready v t t.rest es
return_ready v t es Cleaning r = not_cleaned_ready v t es
return_ready v t es Over r = tt

step_ready : (v : Variant) (s : State) (a : Reply) → Ready v s → Ready v (stepped v s a)
step_ready v s Go r = go_ready v s.tally s.effects s.tally.step r
step_ready v s (Return text) r = return_ready v s.tally s.effects s.tally.step r
step_ready v s Halt r = tt

led_ready : (v : Variant) (w : List (List (List ℕ))) (s : State) (answers : List Reply) → Ready v s → Ready v (led (machine v w) s answers)
led_ready v w s [] r = r
led_ready v w s (a ∷ answers) r = led_ready v w (stepped v s a) answers (step_ready v s a r)

-- whatever was answered, the next step is not refused
pub ready_now : {D : Type 0} {stands : D → List Effect → Type 0} (names : D → List Entry) → AreLed stands names → (v : Variant) (w : List (List (List ℕ))) (r : Run) (t : Tally) (d : D)
    → Played stands v w r t d → IsReady v t.step (entry_at (names d) (written_of v t)).live
ready_now names led v w r t d k =
    let ready : Ready v (state t k.effects) = subst (Ready v) k.reached.here (led_ready v w (start_of v w) (replies r) (begun_ready v (before_all w) w [])) in
    let P : Option ℕ → Type 0 = IsReady v t.step in
    subst P (sym (led d k.effects (written_of v t) k.device)) ready
