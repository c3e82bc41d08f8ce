-- Each step's step finds what it needs.
use Rattle.std.proofs.Common.{◌≡◌, ℕ, false, List, [], ◌∷◌, Option, None, Some, is_some, is_none, refl, ap, sym, ◌∙◌, subst}
use Rattle.sim_device.specs.FileEffects.{Effect, Append, Create, Sync, Rename, Unlink, SyncDir, Live, leads}
use Rattle.sim_device.specs.Disk.{entry_at}
use Rattle.sim_device.specs.declared.names.Entry.{Entry}
use Rattle.file_replace.specs.inside.Devices.{Adds}
use Rattle.action_eval.specs.Answers.{Run, Reply, Go, Return, Halt, replies}
use Rattle.target_trait.specs.Machine.{led, after}
use Rattle.scenario_values.specs.chunked.Chunks.{half}
use Rattle.file_replace.specs.inside.Seen.{Played}
use Rattle.file_replace.specs.declared.variant.Variant.{Variant}
use Rattle.file_replace.specs.declared.variant.Variant.TheVariants.{Sound, LateSync, IgnoreSync, RetryWrite, RenameFirst, InPlace}
use Rattle.file_replace.specs.Work.{Work}
use Rattle.file_replace.specs.Steps.{Step, Clearing, Creating, Writing, WritingAgain, Syncing, Renaming, SyncingRenamed, SyncingDir, SyncingLate, Cleaning, Over, Tally, State, state, first_step, begun_of, acknowledged, is_there, write_step, given_up, after_half, after_no_sync, after_sync, after_rename, after_sync_dir, on_go, on_return, stepped, start_of, machine, prepared, before_all}
use Rattle.file_replace.specs.Words.{written_name}
use Rattle.file_replace.specs.inside.Ready.{IsReady, IsReadyAfter, IsReadyOn}

abbrev Ready : Variant → State → Type 0
Ready v s = IsReadyAfter v s.tally.step s.effects

first_ready : (target tmp mine : Option ℕ) (chunks : List (List ℕ)) → IsReady (first_step (is_some mine) chunks) target tmp mine
first_ready target tmp None chunks = refl
first_ready target tmp (Some f) chunks = refl

begun_ready : (v : Variant) (t : Tally) (rest : List (List (List ℕ))) (es : List Effect) → Ready v (state (begun_of (is_there v es) t rest) es)
begun_ready v t [] es = tt
begun_ready v t (chunks ∷ more) es = first_ready (leads es Live 0) (leads es Live 1) (leads es Live (written_name v)) chunks

-- what is written is there
abbrev Mine : Variant → List Effect → Type 0
Mine v es = is_none (leads es Live (written_name v)) ≡ false

cleared : (v : Variant) (es : List Effect) → is_some (leads (Unlink (written_name v) ∷ es) Live (written_name v)) ≡ false
cleared Sound es = refl
cleared LateSync es = refl
cleared IgnoreSync es = refl
cleared RetryWrite es = refl
cleared RenameFirst es = refl
cleared InPlace es = refl

new_mine : (v : Variant) (es : List Effect) → Mine v (Create (written_name v) ∷ es)
new_mine Sound es = refl
new_mine LateSync es = refl
new_mine IgnoreSync es = refl
new_mine RetryWrite es = refl
new_mine RenameFirst es = refl
new_mine InPlace es = refl

write_ready : (v : Variant) (cs : List (List ℕ)) (es : List Effect) → Mine v es → IsReadyAfter v (write_step v cs) es
write_ready Sound [] es r = r
write_ready LateSync [] es r = r
write_ready IgnoreSync [] es r = r
write_ready RetryWrite [] es r = r
write_ready RenameFirst [] es r = r
write_ready InPlace [] es r = r
write_ready v (c ∷ cs) es r = r

given_up_ready : (v : Variant) (t : Tally) (es : List Effect) → Mine v es → Ready v (given_up v t es)
given_up_ready Sound t es r = r
given_up_ready LateSync t es r = r
given_up_ready IgnoreSync t es r = r
given_up_ready RetryWrite t es r = r
given_up_ready RenameFirst t es r = r
given_up_ready InPlace t es r = begun_ready InPlace t t.rest es

half_ready : (v : Variant) (t : Tally) (es : List Effect) (c : List ℕ) (cs : List (List ℕ)) → Mine v es → Ready v (after_half v t es c cs)
half_ready Sound t es c cs r = given_up_ready Sound t es r
half_ready LateSync t es c cs r = given_up_ready LateSync t es r
half_ready IgnoreSync t es c cs r = given_up_ready IgnoreSync t es r
half_ready RetryWrite t es c cs r = r
half_ready RenameFirst t es c cs r = given_up_ready RenameFirst t es r
half_ready InPlace t es c cs r = given_up_ready InPlace t es r

sync_ready : (v : Variant) (es : List Effect) → Mine v es → IsReadyAfter v (after_sync v) es
sync_ready Sound es r = r
sync_ready LateSync es r = r
sync_ready IgnoreSync es r = r
sync_ready RetryWrite es r = r
sync_ready RenameFirst es r = r
sync_ready InPlace es r = r

no_sync_ready : (v : Variant) (t : Tally) (es : List Effect) → Mine v es → Ready v (after_no_sync v t es)
no_sync_ready Sound t es r = given_up_ready Sound t es r
no_sync_ready LateSync t es r = given_up_ready LateSync t es r
no_sync_ready IgnoreSync t es r = r
no_sync_ready RetryWrite t es r = given_up_ready RetryWrite t es r
no_sync_ready RenameFirst t es r = given_up_ready RenameFirst t es r
no_sync_ready InPlace t es r = given_up_ready InPlace t es r

rename_ready : (v : Variant) (es : List Effect) → is_none (leads es Live 0) ≡ false → IsReadyAfter v (after_rename v) es
rename_ready Sound es r = r
rename_ready LateSync es r = r
rename_ready IgnoreSync es r = r
rename_ready RetryWrite es r = r
rename_ready RenameFirst es r = r
rename_ready InPlace es r = r

sync_dir_ready : (v : Variant) (t : Tally) (es : List Effect) → is_none (leads es Live 0) ≡ false → Ready v (after_sync_dir v t es)
sync_dir_ready Sound t es r = begun_ready Sound (acknowledged t) t.rest es
sync_dir_ready LateSync t es r = r
sync_dir_ready IgnoreSync t es r = begun_ready IgnoreSync (acknowledged t) t.rest es
sync_dir_ready RetryWrite t es r = begun_ready RetryWrite (acknowledged t) t.rest es
sync_dir_ready RenameFirst t es r = begun_ready RenameFirst (acknowledged t) t.rest es
sync_dir_ready InPlace t es r = begun_ready InPlace (acknowledged t) t.rest es

go_ready : (v : Variant) (t : Tally) (es : List Effect) (step : Step) → IsReadyAfter v step es → Ready v (on_go v t es step)
go_ready v t es (Clearing chunks) r = cleared v es
go_ready v t es (Creating chunks) r = write_ready v chunks (Create (written_name v) ∷ es) (new_mine v es)
go_ready v t es (Writing c cs) r = write_ready v cs (Append (written_name v) c ∷ es) r
go_ready v t es (WritingAgain c cs) r = write_ready v cs (Append (written_name v) c ∷ es) r
go_ready v t es Syncing r = sync_ready v (Sync (written_name v) ∷ es) r
go_ready v t es Renaming r = rename_ready v (Rename 1 0 ∷ es) r
go_ready v t es SyncingRenamed r = r
go_ready v t es SyncingDir r = sync_dir_ready v t (SyncDir ∷ es) r
go_ready v t es SyncingLate r = begun_ready v (acknowledged t) t.rest (Sync 0 ∷ es)
go_ready v t es Cleaning r = begun_ready v t t.rest (Unlink 1 ∷ es)
go_ready v t es Over r = tt

return_ready : (v : Variant) (t : Tally) (es : List Effect) (step : Step) → IsReadyAfter v step es → Ready v (on_return v t es step)
return_ready v t es (Clearing chunks) r = begun_ready v t t.rest es
return_ready v t es (Creating chunks) r = begun_ready v t t.rest es
return_ready v t es (Writing c cs) r = half_ready v t (Append (written_name v) (half c) ∷ es) c cs r
return_ready v t es (WritingAgain c cs) r = given_up_ready v t (Append (written_name v) (half c) ∷ es) r
return_ready v t es Syncing r = no_sync_ready v t es r
return_ready v t es Renaming r = r
return_ready v t es SyncingRenamed r = begun_ready v t t.rest es
return_ready v t es SyncingDir r = begun_ready v t t.rest es
return_ready v t es SyncingLate r = begun_ready v t t.rest es
return_ready v t es Cleaning r = begun_ready v t t.rest es
return_ready v t es Over r = tt

step_ready : (v : Variant) (s : State) (a : Reply) → Ready v s → Ready v (stepped v s a)
step_ready v s Go r = go_ready v s.tally s.effects s.tally.step r
step_ready v s (Return text) r = return_ready v s.tally s.effects s.tally.step r
step_ready v s Halt r = tt

led_ready : (v : Variant) (w : Work) (s : State) (answers : List Reply) → Ready v s → Ready v (led (machine v w) s answers)
led_ready v w s [] r = r
led_ready v w s (a ∷ answers) r = led_ready v w (stepped v s a) answers (step_ready v s a r)

-- whatever was answered, the next step is not refused
pub steps_ready : (v : Variant) (w : Work) (answers : List Reply) → Ready v (after (machine v w) answers)
steps_ready v w answers = led_ready v w (start_of v w) answers (begun_ready v (before_all w) w.replacements (prepared w.old))

pub ready_on : (v : Variant) (step : Step) (names : List Entry) (es : List Effect) → ((n : ℕ) → (entry_at names n).live ≡ leads es Live n) → IsReadyAfter v step es → IsReadyOn v step names
ready_on v step names es led r =
    let P : Option ℕ → Type 0 = λ o. IsReady step o (leads es Live 1) (leads es Live (written_name v)) in
    let Q : Option ℕ → Type 0 = λ o. IsReady step (entry_at names 0).live o (leads es Live (written_name v)) in
    let R : Option ℕ → Type 0 = λ o. IsReady step (entry_at names 0).live (entry_at names 1).live o in
    subst R (sym (led (written_name v))) (subst Q (sym (led 1)) (subst P (sym (led 0)) r))

pub ready_now : {D : Type 0} {stands : D → List Effect → Type 0} (names : D → List Entry) → ((d : D) (es : List Effect) (n : ℕ) → stands d es → (entry_at (names d) n).live ≡ leads es Live n)
    → (v : Variant) (w : Work) (r : Run) (t : Tally) (d : D) → Played stands v w r t d → IsReadyOn v t.step (names d)
ready_now names led v w r t d k = ready_on v t.step (names d) k.effects (λ n. led d k.effects n k.device) (subst (Ready v) k.reached.here (steps_ready v w (replies r)))

-- a name is there after an append too
pub name_stays : {D : Type 0} {stands : D → List Effect → Type 0} (names : D → List Entry) → ((d : D) (es : List Effect) (n : ℕ) → stands d es → (entry_at (names d) n).live ≡ leads es Live n)
    → (v : Variant) (w : Work) (r : Run) (t : Tally) (d d' : D) (name : ℕ) (bytes : List ℕ) → Played stands v w r t d → Adds stands d d' (Append name bytes)
    → is_none (entry_at (names d) name).live ≡ false → is_none (entry_at (names d') name).live ≡ false
name_stays names led v w r t d d' name bytes k adds there =
    ap is_none (led d' (Append name bytes ∷ k.effects) name (adds k.effects k.device) ∙ sym (led d k.effects name k.device)) ∙ there
