-- The sound delivery: whatever part of what is pending a power cut keeps, each name under `new/` leads to a whole message, and no acknowledged one is missing.
use Rattle.std.proofs.Common.{◌≡◌, ℕ, ◌==◌, Bool, true, false, not, cond, List, [], ◌∷◌, ◌++◌, filter, Option, Some, None, is_some, refl, ap, sym, ◌∙◌, subst, eqb-true}
use Rattle.sim_device.specs.FileEffects.{Effect, Create, Append, Sync, Link, Unlink, SyncDir, PowerCut, Side, Live, Lasting, leads, contents, created, pending}
use Rattle.sim_device.specs.declared.pending.Call.{Call}
use Rattle.sim_device.specs.declared.pending.Call.TheVariants as call
use Rattle.sim_device.specs.Pending.{Pending, kept, is_to, is_of_contents, led_by, leads_with, renames, further, written, long}
use Rattle.sim_device.proofs.EffectLaws.{names_alone, link_shares}
use Rattle.sim_device.proofs.Untouched.{Untouched, untouched_push, untouched_filter, untouched_kept, synced_untouched, written_untouched, holds_same}
use Rattle.action_eval.specs.Answers.{Reply, Go, Return, Halt}
use Rattle.target_trait.specs.declared.judgement.Judgement.TheVariants.{Kept}
use Rattle.target_trait.specs.Machine.{led, after}
use Rattle.scenario_values.specs.chunked.Chunks.{half}
use Rattle.maildir_target.specs.declared.variant.Variant.TheVariants.{Sound}
use Rattle.maildir_target.specs.declared.name.Attempt.{Attempt}
use Rattle.maildir_target.specs.declared.name.Attempt.TheVariants.{First, Second}
use Rattle.maildir_target.specs.Words.{tmp_name, new_name}
use Rattle.maildir_target.specs.Judgement.{Standing, standing}
use Rattle.maildir_target.specs.Crash.{judged_keeping}
use Rattle.maildir_target.specs.Steps.{Step, Looking, Creating, Writing, Syncing, Linking, Unlinking, SyncingDir, Cleaning, Over, Tally, State, state, begun_of, acknowledged, failed_of, looked, linked, is_there, write_step, on_go, on_return, stepped, before_all, start_of, machine}
use Rattle.maildir_target.proofs.Safe.{Solid, Delivered, IsOwn, StepSafe, Safe, Stand, tmp, new, not_tmp, same_message, some_same, not_own, step_safe, start_safe, whole_of, whole_tells, none_torn, none_lost, judged_kept}

-- ---- changes of names

-- by where names lead now, the write changes no name but one under `tmp/`, or links the file that a name under `new/` leads to under that name
abbrev NameOk : (ℕ → Option ℕ) → Call → Option ℕ → Type 0
NameOk at (call.Create m) file = (i : ℕ) × ((a : Attempt) × (m ≡ tmp_name i a))
NameOk at (call.Append m place) file = Unit {0}
NameOk at (call.WriteAt m place) file = Unit {0}
NameOk at (call.Truncate m count) file = Unit {0}
NameOk at (call.Rename x y) file = ⊥
NameOk at (call.Link x y) file = (i : ℕ) × ((a : Attempt) × ((f : ℕ) × ((y ≡ new_name i a) × ((file ≡ Some f) × (at (new_name i a) ≡ Some f)))))
NameOk at (call.Unlink m) file = (i : ℕ) × ((a : Attempt) × (m ≡ tmp_name i a))

abbrev Names : (ℕ → Option ℕ) → List Pending → Type 0
Names at [] = Unit {0}
Names at (p ∷ ps) = NameOk at p.call p.file × Names at ps

-- names under `new/` that lead somewhere go on to do so
abbrev Stays : (ℕ → Option ℕ) → (ℕ → Option ℕ) → Type 0
Stays at now = (m : ℕ) (a : Attempt) (f : ℕ) → at (new_name m a) ≡ Some f → now (new_name m a) ≡ Some f

name_map : (at now : ℕ → Option ℕ) → Stays at now → (c : Call) (file : Option ℕ) → NameOk at c file → NameOk now c file
name_map at now m (call.Create n) file k = k
name_map at now m (call.Append n place) file k = tt
name_map at now m (call.WriteAt n place) file k = tt
name_map at now m (call.Truncate n count) file k = tt
name_map at now m (call.Rename x y) file k = k
name_map at now m (call.Link x y) file k = (k.0, (k.1.0, (k.1.1.0, (k.1.1.1.0, (k.1.1.1.1.0, m k.0 k.1.0 k.1.1.0 k.1.1.1.1.1)))))
name_map at now m (call.Unlink n) file k = k

names_map : (at now : ℕ → Option ℕ) → Stays at now → (ps : List Pending) → Names at ps → Names now ps
names_map at now m [] k = tt
names_map at now m (p ∷ ps) k = (name_map at now m p.call p.file k.0, names_map at now m ps k.1)

names_push : (at : ℕ → Option ℕ) (ps : List Pending) (q : Pending) → Names at ps → NameOk at q.call q.file → Names at (ps ++ q ∷ [])
names_push at [] q k h = (h, tt)
names_push at (p ∷ ps) q k h = (k.0, names_push at ps q k.1 h)

names_case : (at : ℕ → Option ℕ) (b : Bool) (p : Pending) (ps : List Pending) → NameOk at p.call p.file → Names at ps → Names at (cond b (p ∷ ps) ps)
names_case at true p ps h k = (h, k)
names_case at false p ps h k = k

names_filter : (at : ℕ → Option ℕ) (t : Pending → Bool) (ps : List Pending) → Names at ps → Names at (filter t ps)
names_filter at t [] k = tt
names_filter at t (p ∷ ps) k = names_case at (t p) p (filter t ps) k.0 (names_filter at t ps k.1)

names_kept : (at : ℕ → Option ℕ) (keep : List Bool) (ps : List Pending) → Names at ps → Names at (kept keep ps)
names_kept at [] ps k = tt
names_kept at (b ∷ keep) [] k = tt
names_kept at (true ∷ keep) (p ∷ ps) k = (k.0, names_kept at keep ps k.1)
names_kept at (false ∷ keep) (p ∷ ps) k = names_kept at keep ps k.1

further_names : (at : ℕ → Option ℕ) (ps : List Pending) (n place : ℕ) (bytes : List ℕ) (o : Option ℕ) → Names at ps → Names at (further ps (written (call.Append n place) bytes o))
further_names at ps n place bytes None k = k
further_names at ps n place [] (Some f) k = k
further_names at ps n place (b ∷ bytes) (Some f) k = names_push at ps (record { call = call.Append n place; file = Some f; bytes = b ∷ bytes }) k tt

-- a change of contents changes no name
content_case : (at : ℕ → Option ℕ) (c : Call) (p : Pending) (ps : List Pending) → p.call ≡ c → Names at ps → Names at (cond (is_of_contents c) (p ∷ ps) ps)
content_case at (call.Create m) p ps e k = k
content_case at (call.Append m place) p ps e k = (subst (λ c. NameOk at c p.file) (sym e) tt, k)
content_case at (call.WriteAt m place) p ps e k = (subst (λ c. NameOk at c p.file) (sym e) tt, k)
content_case at (call.Truncate m count) p ps e k = (subst (λ c. NameOk at c p.file) (sym e) tt, k)
content_case at (call.Rename x y) p ps e k = k
content_case at (call.Link x y) p ps e k = k
content_case at (call.Unlink m) p ps e k = k

contents_name_nothing : (at : ℕ → Option ℕ) (ps : List Pending) → Names at (filter (λ p. is_of_contents p.call) ps)
contents_name_nothing at [] = tt
contents_name_nothing at (p ∷ ps) = content_case at p.call p (filter (λ q. is_of_contents q.call) ps) refl (contents_name_nothing at ps)

-- ---- what a cut leaves of a name under `new/`

-- the file that it leads to is good for this message
abbrev Good : (ℕ → ℕ → Type 0) → ℕ → Option ℕ → Type 0
Good P m o = (f : ℕ) → o ≡ Some f → P m f

good_link : (P : ℕ → ℕ → Type 0) (m i g : ℕ) (a b : Attempt) (same : Bool) (file old : Option ℕ) → (new_name m a == new_name i b) ≡ same → file ≡ Some g → P i g → Good P m old
    → Good P m (cond same file old)
good_link P m i g a b true file old e is good k = λ f at. subst (λ x. P x f) (sym (same_message m i a b e)) (subst (P i) (some_same g f (sym is ∙ at)) good)
good_link P m i g a b false file old e is good k = k

good_led : (at : ℕ → Option ℕ) (P : ℕ → ℕ → Type 0) → ((i : ℕ) (b : Attempt) (g : ℕ) → at (new_name i b) ≡ Some g → P i g) → (m : ℕ) (a : Attempt) (c : Call) (file old : Option ℕ)
    → NameOk at c file → Good P m old → Good P m (led_by c file (new_name m a) old)
good_led at P all m a (call.Create n) file old k h =
    subst (λ x. Good P m (cond (new_name m a == x) file old)) (sym k.1.1) (subst (λ b. Good P m (cond b file old)) (sym (not_tmp m k.0 a k.1.0)) h)
good_led at P all m a (call.Append n place) file old k h = h
good_led at P all m a (call.WriteAt n place) file old k h = h
good_led at P all m a (call.Truncate n count) file old k h = h
good_led at P all m a (call.Rename x y) file old k h = absurd k
good_led at P all m a (call.Link x y) file old k h =
    subst (λ z. Good P m (cond (new_name m a == z) file old)) (sym k.1.1.1.0)
    (good_link P m k.0 k.1.1.0 a k.1.0 (new_name m a == new_name k.0 k.1.0) file old refl k.1.1.1.1.0 (all k.0 k.1.0 k.1.1.0 k.1.1.1.1.1) h)
good_led at P all m a (call.Unlink n) file old k h =
    subst (λ x. Good P m (cond (new_name m a == x) None old)) (sym k.1.1) (subst (λ b. Good P m (cond b None old)) (sym (not_tmp m k.0 a k.1.0)) h)

good_leads : (at : ℕ → Option ℕ) (P : ℕ → ℕ → Type 0) → ((i : ℕ) (b : Attempt) (g : ℕ) → at (new_name i b) ≡ Some g → P i g) → (m : ℕ) (a : Attempt) (ps : List Pending) (old : Option ℕ)
    → Names at ps → Good P m old → Good P m (leads_with ps (new_name m a) old)
good_leads at P all m a [] old k h = h
good_leads at P all m a (p ∷ ps) old k h = good_leads at P all m a ps (led_by p.call p.file (new_name m a) old) k.1 (good_led at P all m a p.call p.file old k.0 h)

abbrev IsSome : Option ℕ → Type 0
IsSome o = (f : ℕ) × (o ≡ Some f)

there_link : (b : Bool) (file old : Option ℕ) → IsSome file → IsSome old → IsSome (cond b file old)
there_link true file old x y = x
there_link false file old x y = y

there_led : (at : ℕ → Option ℕ) (m : ℕ) (a : Attempt) (c : Call) (file old : Option ℕ) → NameOk at c file → IsSome old → IsSome (led_by c file (new_name m a) old)
there_led at m a (call.Create n) file old k h =
    subst (λ x. IsSome (cond (new_name m a == x) file old)) (sym k.1.1) (subst (λ b. IsSome (cond b file old)) (sym (not_tmp m k.0 a k.1.0)) h)
there_led at m a (call.Append n place) file old k h = h
there_led at m a (call.WriteAt n place) file old k h = h
there_led at m a (call.Truncate n count) file old k h = h
there_led at m a (call.Rename x y) file old k h = absurd k
there_led at m a (call.Link x y) file old k h = there_link (new_name m a == y) file old (k.1.1.0, k.1.1.1.1.0) h
there_led at m a (call.Unlink n) file old k h =
    subst (λ x. IsSome (cond (new_name m a == x) None old)) (sym k.1.1) (subst (λ b. IsSome (cond b None old)) (sym (not_tmp m k.0 a k.1.0)) h)

there_leads : (at : ℕ → Option ℕ) (m : ℕ) (a : Attempt) (ps : List Pending) (old : Option ℕ) → Names at ps → IsSome old → IsSome (leads_with ps (new_name m a) old)
there_leads at m a [] old k h = h
there_leads at m a (p ∷ ps) old k h = there_leads at m a ps (led_by p.call p.file (new_name m a) old) k.1 (there_led at m a p.call p.file old k.0 h)

-- ---- what is kept from step to step

-- nothing is pending to a file that a name under `new/` leads to
abbrev Calm : List Effect → Type 0
Calm es = (side : Side) (m : ℕ) (a : Attempt) (f : ℕ) → leads es side (new_name m a) ≡ Some f → Untouched (pending es) f

record Sturdy (es : List Effect) : Type 0 where
  calm : Calm es
  names : Names (leads es Live) (pending es)

-- ---- each effect

stays_create : (es : List Effect) (i : ℕ) (b : Attempt) → Stays (leads es Live) (leads (Create (tmp_name i b) ∷ es) Live)
stays_create es i b m a f e = names_alone (Create (tmp_name i b) ∷ []) es (new_name m a) (not_tmp m i a b, tt) ∙ e

stays_unlink : (es : List Effect) (i : ℕ) (b : Attempt) → Stays (leads es Live) (leads (Unlink (tmp_name i b) ∷ es) Live)
stays_unlink es i b m a f e = names_alone (Unlink (tmp_name i b) ∷ []) es (new_name m a) (not_tmp m i a b, tt) ∙ e

sturdy_create : (es : List Effect) (i : ℕ) (b : Attempt) → Sturdy es → Sturdy (Create (tmp_name i b) ∷ es)
sturdy_create es i b k = record { calm = calm; names = names_push (leads (Create (tmp_name i b) ∷ es) Live) (pending es) (renames (call.Create (tmp_name i b)) (Some (created es))) (names_map (leads es Live) (leads (Create (tmp_name i b) ∷ es) Live) (stays_create es i b) (pending es) k.names) (i, (b, refl)) }
  where
    calm : Calm (Create (tmp_name i b) ∷ es)
    calm Live m a f e =
        untouched_push (pending es) (renames (call.Create (tmp_name i b)) (Some (created es))) f
        (k.calm Live m a f (sym (names_alone (Create (tmp_name i b) ∷ []) es (new_name m a) (not_tmp m i a b, tt)) ∙ e)) refl
    calm Lasting m a f e = untouched_push (pending es) (renames (call.Create (tmp_name i b)) (Some (created es))) f (k.calm Lasting m a f e) refl

sturdy_unlink : (es : List Effect) (i : ℕ) (b : Attempt) → Sturdy es → Sturdy (Unlink (tmp_name i b) ∷ es)
sturdy_unlink es i b k = record { calm = calm; names = names_push (leads (Unlink (tmp_name i b) ∷ es) Live) (pending es) (renames (call.Unlink (tmp_name i b)) None) (names_map (leads es Live) (leads (Unlink (tmp_name i b) ∷ es) Live) (stays_unlink es i b) (pending es) k.names) (i, (b, refl)) }
  where
    calm : Calm (Unlink (tmp_name i b) ∷ es)
    calm Live m a f e =
        untouched_push (pending es) (renames (call.Unlink (tmp_name i b)) None) f
        (k.calm Live m a f (sym (names_alone (Unlink (tmp_name i b) ∷ []) es (new_name m a) (not_tmp m i a b, tt)) ∙ e)) refl
    calm Lasting m a f e = untouched_push (pending es) (renames (call.Unlink (tmp_name i b)) None) f (k.calm Lasting m a f e) refl

sturdy_append : (es : List Effect) (n own : ℕ) (bytes : List ℕ) → leads es Live n ≡ Some own → IsOwn es own → Sturdy es → Sturdy (Append n bytes ∷ es)
sturdy_append es n own bytes at alone k = record { calm = calm; names = further_names (leads es Live) (pending es) n (long (contents es Live) (leads es Live n)) bytes (leads es Live n) k.names }
  where
    calm : Calm (Append n bytes ∷ es)
    calm Live m a f e =
        written_untouched (pending es) (call.Append n (long (contents es Live) (leads es Live n))) bytes (leads es Live n) f (k.calm Live m a f e)
        (not_own es n own f at (λ same. alone Live m a (e ∙ ap Some (sym same))))
    calm Lasting m a f e =
        written_untouched (pending es) (call.Append n (long (contents es Live) (leads es Live n))) bytes (leads es Live n) f (k.calm Lasting m a f e)
        (not_own es n own f at (λ same. alone Lasting m a (e ∙ ap Some (sym same))))

sturdy_sync : (es : List Effect) (n : ℕ) → Sturdy es → Sturdy (Sync n ∷ es)
sturdy_sync es n k = record { calm = calm; names = names_filter (leads es Live) (λ p. not (is_to (leads es Live n) p)) (pending es) k.names }
  where
    calm : Calm (Sync n ∷ es)
    calm Live m a f e = untouched_filter (λ p. not (is_to (leads es Live n) p)) (pending es) f (k.calm Live m a f e)
    calm Lasting m a f e = untouched_filter (λ p. not (is_to (leads es Live n) p)) (pending es) f (k.calm Lasting m a f e)

sturdy_sync_dir : (es : List Effect) → Sturdy es → Sturdy (SyncDir ∷ es)
sturdy_sync_dir es k = record { calm = calm; names = contents_name_nothing (leads es Live) (pending es) }
  where
    calm : Calm (SyncDir ∷ es)
    calm Live m a f e = untouched_filter (λ p. is_of_contents p.call) (pending es) f (k.calm Live m a f e)
    calm Lasting m a f e = untouched_filter (λ p. is_of_contents p.call) (pending es) f (k.calm Live m a f e)

no_file : (o : Option ℕ) (f : ℕ) → is_some o ≡ false → o ≡ Some f → ⊥
no_file None f e is = cc
no_file (Some g) f e is = cc

linked_stays : (es : List Effect) (n m : ℕ) (x : Option ℕ) (f : ℕ) (same : Bool) → (m == n) ≡ same → is_there n es ≡ false → leads es Live m ≡ Some f → cond same x (leads es Live m) ≡ Some f
linked_stays es n m x f true e free at = absurd (no_file (leads es Live n) f free (subst (λ z. leads es Live z ≡ Some f) (eqb-true m n e) at))
linked_stays es n m x f false e free at = at

linked_calm : (es : List Effect) (own : ℕ) (x old : Option ℕ) (f : ℕ) (same : Bool) → x ≡ Some own → Untouched (pending es) own → (old ≡ Some f → Untouched (pending es) f) → cond same x old ≡ Some f → Untouched (pending es) f
linked_calm es own x old f true at u k e = subst (Untouched (pending es)) (some_same own f (sym at ∙ e)) u
linked_calm es own x old f false at u k e = k e

linked_at : (es : List Effect) (from to : ℕ) (own : ℕ) → leads es Live from ≡ Some own → leads (Link from to ∷ es) Live to ≡ Some own
linked_at es from to own at = link_shares es from to ∙ at

sturdy_link : (es : List Effect) (from i own : ℕ) (b : Attempt) → leads es Live from ≡ Some own → Untouched (pending es) own → is_there (new_name i b) es ≡ false → Sturdy es
    → Sturdy (Link from (new_name i b) ∷ es)
sturdy_link es from i own b at u free k = record {
  calm = calm;
  names = names_push (leads (Link from (new_name i b) ∷ es) Live) (pending es) (renames (call.Link from (new_name i b)) (leads es Live from)) (names_map (leads es Live) (leads (Link from (new_name i b) ∷ es) Live) stays (pending es) k.names)
      (i, (b, (own, (refl, (at, linked_at es from (new_name i b) own at)))));
}
  where
    stays : Stays (leads es Live) (leads (Link from (new_name i b) ∷ es) Live)
    stays m a f e = linked_stays es (new_name i b) (new_name m a) (leads es Live from) f (new_name m a == new_name i b) refl free e

    calm : Calm (Link from (new_name i b) ∷ es)
    calm Live m a f e =
        untouched_push (pending es) (renames (call.Link from (new_name i b)) (leads es Live from)) f
        (linked_calm es own (leads es Live from) (leads es Live (new_name m a)) f (new_name m a == new_name i b) at u (k.calm Live m a f) e) refl
    calm Lasting m a f e = untouched_push (pending es) (renames (call.Link from (new_name i b)) (leads es Live from)) f (k.calm Lasting m a f e) refl

-- ---- each step

-- what is linked next is synced
abbrev StepCalm : Step → ℕ → List Effect → Type 0
StepCalm Looking n es = Unit {0}
StepCalm Creating n es = Unit {0}
StepCalm (Writing c cs) n es = Unit {0}
StepCalm Syncing n es = Unit {0}
StepCalm Linking n es = (f : ℕ) → leads es Live n ≡ Some f → Untouched (pending es) f
StepCalm Unlinking n es = Unit {0}
StepCalm SyncingDir n es = Unit {0}
StepCalm Cleaning n es = Unit {0}
StepCalm Over n es = Unit {0}

record Firm (s : State) : Type 0 where
  sturdy : Sturdy s.effects
  step : StepCalm s.tally.step (tmp s.tally) s.effects

calm_write : (cs : List (List ℕ)) (n : ℕ) (es : List Effect) → StepCalm (write_step cs) n es
calm_write [] n es = tt
calm_write (c ∷ cs) n es = tt

begun_firm : (t : Tally) (rest : List (List (List ℕ))) (es : List Effect) → Sturdy es → Firm (state (begun_of Sound t rest) es)
begun_firm t [] es k = record { sturdy = k; step = tt }
begun_firm t (chunks ∷ more) es k = record { sturdy = k; step = tt }

failed_firm : (t : Tally) (attempt : Attempt) (es : List Effect) → Sturdy es → Firm (state (failed_of Sound t attempt) es)
failed_firm t First es k = record { sturdy = k; step = tt }
failed_firm t Second es k = begun_firm t t.rest es k

looked_firm : (there : Bool) (t : Tally) (es : List Effect) → Sturdy es → Firm (state (looked there Sound t) es)
looked_firm true t es k = failed_firm t t.attempt es k
looked_firm false t es k = record { sturdy = k; step = tt }

linked_firm : (there : Bool) (t : Tally) (es : List Effect) (own : ℕ) → is_there (new t) es ≡ there → leads es Live (tmp t) ≡ Some own → Untouched (pending es) own → Sturdy es
    → Firm (linked there Sound t es)
linked_firm true t es own e at u k = record { sturdy = k; step = tt }
linked_firm false t es own e at u k = record { sturdy = sturdy_link es (tmp t) t.message own t.attempt at u e k; step = tt }

go_firm : (whole : List ℕ) (t : Tally) (es : List Effect) (step : Step) → Sturdy es → StepSafe step (tmp t) t.message whole es → StepCalm step (tmp t) es → Firm (on_go Sound t es step)
go_firm whole t es Looking k r c = looked_firm (is_there (tmp t) es) t es k
go_firm whole t es Creating k r c = record { sturdy = sturdy_create es t.message t.attempt k; step = calm_write t.chunks (tmp t) (Create (tmp t) ∷ es) }
go_firm whole t es (Writing b cs) k r c = record { sturdy = sturdy_append es (tmp t) r.0 b r.1.0 r.1.1.0 k; step = calm_write cs (tmp t) (Append (tmp t) b ∷ es) }
go_firm whole t es Syncing k r c = record {
  sturdy = sturdy_sync es (tmp t) k;
  step = λ f e. subst (λ o. Untouched (filter (λ p. not (is_to o p)) (pending es)) f) (sym e) (synced_untouched (pending es) f);
}
go_firm whole t es Linking k r c = linked_firm (is_there (new t) es) t es r.0 refl r.1.0 (c r.0 r.1.0) k
go_firm whole t es Unlinking k r c = record { sturdy = sturdy_unlink es t.message t.attempt k; step = tt }
go_firm whole t es SyncingDir k r c = begun_firm (acknowledged t) t.rest (SyncDir ∷ es) (sturdy_sync_dir es k)
go_firm whole t es Cleaning k r c = failed_firm t t.attempt (Unlink (tmp t) ∷ es) (sturdy_unlink es t.message t.attempt k)
go_firm whole t es Over k r c = record { sturdy = k; step = tt }

return_firm : (whole : List ℕ) (t : Tally) (es : List Effect) (step : Step) → Sturdy es → StepSafe step (tmp t) t.message whole es → Firm (on_return Sound t es step)
return_firm whole t es Looking k r = failed_firm t t.attempt es k
return_firm whole t es Creating k r = failed_firm t t.attempt es k
return_firm whole t es (Writing b cs) k r = record { sturdy = sturdy_append es (tmp t) r.0 (half b) r.1.0 r.1.1.0 k; step = tt }
return_firm whole t es Syncing k r = record { sturdy = k; step = tt }
return_firm whole t es Linking k r = record { sturdy = k; step = tt }
return_firm whole t es Unlinking k r = record { sturdy = k; step = tt }
return_firm whole t es SyncingDir k r = begun_firm t t.rest es k
return_firm whole t es Cleaning k r = failed_firm t t.attempt es k
return_firm whole t es Over k r = record { sturdy = k; step = tt }

step_firm : (w : ℕ → List ℕ) (s : State) (a : Reply) → Safe w s → Firm s → Firm (stepped Sound s a)
step_firm w s Go k f = go_firm (w s.tally.message) s.tally s.effects s.tally.step f.sturdy k.step f.step
step_firm w s (Return text) k f = return_firm (w s.tally.message) s.tally s.effects s.tally.step f.sturdy k.step
step_firm w s Halt k f = record { sturdy = f.sturdy; step = tt }

record Both (w : ℕ → List ℕ) (s : State) : Type 0 where
  safe : Safe w s
  firm : Firm s

led_both : (w : ℕ → List ℕ) (messages : List (List (List ℕ))) (s : State) (answers : List Reply) → Both w s → Both w (led (machine Sound messages) s answers)
led_both w messages s [] k = k
led_both w messages s (a ∷ answers) k =
    led_both w messages (stepped Sound s a) answers (record { safe = step_safe w s a k.safe; firm = step_firm w s a k.safe k.firm })

start_both : (messages : List (List (List ℕ))) → Both (whole_of messages) (start_of Sound messages)
start_both messages = record {
  safe = start_safe messages;
  firm = begun_firm (before_all messages) messages [] (record { calm = λ side m a f e. tt; names = tt });
}

-- ---- what a cut leaves

-- whole, and as it lasts
record IsWhole (w : ℕ → List ℕ) (es : List Effect) (m f : ℕ) : Type 0 where
  holds : contents es Lasting f ≡ w m
  untouched : Untouched (pending es) f

whole_left : (w : ℕ → List ℕ) (es : List Effect) (keep : List Bool) → Solid w es → Sturdy es → (m : ℕ) (a : Attempt) (f : ℕ)
    → leads (PowerCut keep ∷ es) Live (new_name m a) ≡ Some f → contents (PowerCut keep ∷ es) Live f ≡ w m
whole_left w es keep solid k m a f e =
    let all : (side : Side) (i : ℕ) (b : Attempt) (g : ℕ) → leads es side (new_name i b) ≡ Some g → IsWhole w es i g =
    λ side i b g at. record { holds = solid side i b g at; untouched = k.calm side i b g at } in
    let good = good_leads (leads es Live) (IsWhole w es) (all Live) m a (kept keep (pending es)) (leads es Lasting (new_name m a)) (names_kept (leads es Live) keep (pending es) k.names) (all Lasting m a) f e in
    holds_same (kept keep (pending es)) f (contents es Lasting f) (untouched_kept keep (pending es) f good.untouched) ∙ good.holds

stand_left : (es : List Effect) (keep : List Bool) → Sturdy es → (ms : List ℕ) → Delivered es ms → Stand (standing (PowerCut keep ∷ es)) ms
stand_left es keep k [] d = tt
stand_left es keep k (m ∷ ms) d =
    let at = d.0 Lasting in
    ((at.0, there_leads (leads es Live) m at.0 (kept keep (pending es)) (leads es Lasting (new_name m at.0)) (names_kept (leads es Live) keep (pending es) k.names) at.1), stand_left es keep k ms d.1)

-- whatever was answered, and whatever of it a cut keeps, the sound delivery keeps its word
pub sound_keeps : (messages : List (List (List ℕ))) (own : List Reply) (keep : List Bool) → judged_keeping messages (after (machine Sound messages) own) keep ≡ Kept
sound_keeps messages own keep =
    let w = whole_of messages in
    let s = after (machine Sound messages) own in
    let k = led_both w messages (start_of Sound messages) own (start_both messages) in
    let left : Standing = standing (PowerCut keep ∷ s.effects) in
    judged_kept messages s.tally.acknowledged left
    (none_torn w left 1 messages (whole_left w s.effects keep k.safe.base.solid k.firm.sturdy) (whole_tells 0 ([] ∷ messages)).1)
    (none_lost left s.tally.acknowledged (stand_left s.effects keep k.firm.sturdy s.tally.acknowledged k.safe.base.delivered))
