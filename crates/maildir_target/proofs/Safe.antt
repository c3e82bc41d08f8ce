-- Whatever is answered, the sound delivery keeps its word: each name under `new/` leads to a file that lasts whole, and a message is acknowledged
-- only once its name lasts.
use Rattle.std.proofs.Common.{◌≡◌, ℕ, ◌+◌, ◌<◌, ◌≤◌, ◌==◌, Bool, true, false, ◌||◌, not, cond, option_map, List, [], ◌∷◌, ◌++◌, Option, Some, None, is_none, refl, ap, sym, ◌∙◌, arith, append_assoc, eqb-true}
use Rattle.std.proofs.lemmas.Bool.{eq-eqb, ne_eqb}
use Rattle.std.proofs.lemmas.List.{append-nil}
use Rattle.std.proofs.lemmas.Slice.Eq.{bytes_eq-Decides}
use Rattle.sim_device.specs.FileEffects.{Effect, Create, Append, Sync, Link, Unlink, SyncDir, PowerCut, Side, Live, Lasting, leads, contents, created}
use Rattle.sim_device.specs.Pending.{is_file}
use Rattle.sim_device.proofs.EffectLaws.{names_alone, contents_stay, link_shares, create_names, create_empties, append_adds, synced_stays}
use Rattle.sim_device.proofs.InUse.{leads_created}
use Rattle.action_eval.specs.Answers.{Reply, Go, Return, Halt}
use Rattle.target_trait.specs.declared.judgement.Judgement.{Judgement}
use Rattle.target_trait.specs.declared.judgement.Judgement.TheVariants.{Kept}
use Rattle.target_trait.specs.Play.{Done}
use Rattle.target_trait.specs.Machine.{led, after}
use Rattle.target_trait.proofs.Never.{done_kept}
use Rattle.scenario_values.specs.chunked.Chunks.{joined}
use Rattle.scenario_values.specs.chunked.Chunks.{half}
use Rattle.maildir_target.specs.declared.variant.Variant.TheVariants.{Sound}
use Rattle.maildir_target.specs.declared.name.Attempt.{Attempt}
use Rattle.maildir_target.specs.declared.name.Attempt.TheVariants.{First, Second}
use Rattle.maildir_target.specs.declared.name.Name.{Name}
use Rattle.maildir_target.specs.declared.name.Folder.TheVariants as folder
use Rattle.maildir_target.specs.Words.{tmp_name, new_name}
use Rattle.maildir_target.specs.Judgement.{Standing, standing, differs, has_torn, is_delivered, has_lost, judged_by, judged_now}
use Rattle.maildir_target.specs.Steps.{Step, Looking, Creating, Writing, Syncing, Linking, Unlinking, SyncingDir, Cleaning, Over, Tally, State, state, begun_of, acknowledged, failed_of, looked, linked, is_there, write_step, on_go, on_return, stepped, before_all, start_of, point_at, machine, asks_of}
use Rattle.maildir_target.proofs.Numbers.{apart, named}

-- ---- what is claimed

-- the whole of each message, by its number, is that of these messages, numbered from this number on
abbrev pub Tells : (ℕ → List ℕ) → ℕ → List (List (List ℕ)) → Type 0
Tells w n [] = Unit {0}
Tells w n (chunks ∷ more) = (w n ≡ joined chunks) × Tells w (n + 1) more

-- each name under `new/` leads, now and after a power cut, to a file that lasts whole
abbrev pub Solid : (ℕ → List ℕ) → List Effect → Type 0
Solid w es = (side : Side) (m : ℕ) (a : Attempt) (f : ℕ) → leads es side (new_name m a) ≡ Some f → contents es Lasting f ≡ w m

-- the message has a name under `new/`
abbrev pub There : List Effect → Side → ℕ → Type 0
There es side m = (a : Attempt) × ((f : ℕ) × (leads es side (new_name m a) ≡ Some f))

-- and so have these messages, now and after a power cut
abbrev pub Delivered : List Effect → List ℕ → Type 0
Delivered es [] = Unit {0}
Delivered es (m ∷ ms) = ((side : Side) → There es side m) × Delivered es ms

-- no name under `new/` leads to this file
abbrev pub IsOwn : List Effect → ℕ → Type 0
IsOwn es f = (side : Side) (m : ℕ) (a : Attempt) → leads es side (new_name m a) ≡ Some f → ⊥

-- what stands at all times, by the message under way, its chunks, the messages after it, and those acknowledged
pub record Base (w : ℕ → List ℕ) (m : ℕ) (chunks : List (List ℕ)) (rest : List (List (List ℕ))) (done : List ℕ) (es : List Effect) : Type 0 where
  pub solid : Solid w es
  pub delivered : Delivered es done
  pub mine : w m ≡ joined chunks
  pub others : Tells w (m + 1) rest

abbrev pub Stands : (ℕ → List ℕ) → Tally → List Effect → Type 0
Stands w t es = Base w t.message t.chunks t.rest t.acknowledged es

-- the names of the attempt under way
abbrev pub tmp : Tally → ℕ
tmp t = tmp_name t.message t.attempt

abbrev pub new : Tally → ℕ
new t = new_name t.message t.attempt

-- what stands before a step, by the name under `tmp/`, and the message with its whole contents
abbrev pub StepSafe : Step → ℕ → ℕ → List ℕ → List Effect → Type 0
StepSafe Looking n m whole es = Unit {0}
StepSafe Creating n m whole es = Unit {0}
StepSafe (Writing c cs) n m whole es = (f : ℕ) × ((leads es Live n ≡ Some f) × (IsOwn es f × (contents es Live f ++ (c ++ joined cs) ≡ whole)))
StepSafe Syncing n m whole es = (f : ℕ) × ((leads es Live n ≡ Some f) × (IsOwn es f × (contents es Live f ≡ whole)))
StepSafe Linking n m whole es = (f : ℕ) × ((leads es Live n ≡ Some f) × (contents es Lasting f ≡ whole))
StepSafe Unlinking n m whole es = There es Live m
StepSafe SyncingDir n m whole es = There es Live m
StepSafe Cleaning n m whole es = Unit {0}
StepSafe Over n m whole es = Unit {0}

pub record Safe (w : ℕ → List ℕ) (s : State) : Type 0 where
  pub base : Base w s.tally.message s.tally.chunks s.tally.rest s.tally.acknowledged s.effects
  pub step : StepSafe s.tally.step (tmp_name s.tally.message s.tally.attempt) s.tally.message (w s.tally.message) s.effects

-- ---- names

no_tmp : (m i : ℕ) (a b : Attempt) → new_name m a ≡ tmp_name i b → ⊥
no_tmp m i a b e = let bad : folder.New ≡ folder.Tmp = ap (λ (n : Name). n.folder) (apart (named folder.New m a) (named folder.Tmp i b) e) in cc

-- no name under `new/` is one under `tmp/`
pub not_tmp : (m i : ℕ) (a b : Attempt) → (new_name m a == tmp_name i b) ≡ false
not_tmp m i a b = ne_eqb (new_name m a) (tmp_name i b) (no_tmp m i a b)

pub same_message : (m i : ℕ) (a b : Attempt) → (new_name m a == new_name i b) ≡ true → m ≡ i
same_message m i a b e = ap (λ (n : Name). n.message) (apart (named folder.New m a) (named folder.New i b) (eqb-true (new_name m a) (new_name i b) e))

pub some_same : (f g : ℕ) → Some f ≡ Some g → f ≡ g
some_same f g e = cc

-- ---- what each call leaves

-- names under `new/` that were there are there
deliver : (es es' : List Effect) → ((m : ℕ) → There es Live m → There es' Live m) → ((m : ℕ) → ((side : Side) → There es side m) → There es' Lasting m) → (ms : List ℕ) → Delivered es ms → Delivered es' ms
deliver es es' live lasting [] k = tt
deliver es es' live lasting (m ∷ ms) k = (both, deliver es es' live lasting ms k.1)
  where
    both : (side : Side) → There es' side m
    both Live = live m (k.0 Live)
    both Lasting = lasting m k.0

create_solid : (w : ℕ → List ℕ) (es : List Effect) (i : ℕ) (b : Attempt) → Solid w es → Solid w (Create (tmp_name i b) ∷ es)
create_solid w es i b k Live m a f e =
    let at : leads es Live (new_name m a) ≡ Some f = sym (names_alone (Create (tmp_name i b) ∷ []) es (new_name m a) (not_tmp m i a b, tt)) ∙ e in
    contents_stay (Create (tmp_name i b) ∷ []) es f (leads_created es Live (new_name m a) f at) tt ∙ k Live m a f at
create_solid w es i b k Lasting m a f e = contents_stay (Create (tmp_name i b) ∷ []) es f (leads_created es Lasting (new_name m a) f e) tt ∙ k Lasting m a f e

create_there : (es : List Effect) (i : ℕ) (b : Attempt) (m : ℕ) → There es Live m → There (Create (tmp_name i b) ∷ es) Live m
create_there es i b m k = (k.0, (k.1.0, names_alone (Create (tmp_name i b) ∷ []) es (new_name m k.0) (not_tmp m i k.0 b, tt) ∙ k.1.1))

create_base : (w : ℕ → List ℕ) (t : Tally) (es : List Effect) → Stands w t es → Stands w t (Create (tmp t) ∷ es)
create_base w t es k = record {
  solid = create_solid w es t.message t.attempt k.solid;
  delivered = deliver es (Create (tmp t) ∷ es) (create_there es t.message t.attempt) (λ i there. there Lasting) t.acknowledged k.delivered;
  mine = k.mine;
  others = k.others;
}

not_below : (n : ℕ) → n < n → ⊥
not_below n h = omega arith

-- the file just created
create_own : (es : List Effect) (i : ℕ) (b : Attempt) → IsOwn (Create (tmp_name i b) ∷ es) (created es)
create_own es i b Live m a e =
    let at : leads es Live (new_name m a) ≡ Some (created es) = sym (names_alone (Create (tmp_name i b) ∷ []) es (new_name m a) (not_tmp m i a b, tt)) ∙ e in
    not_below (created es) (leads_created es Live (new_name m a) (created es) at)
create_own es i b Lasting m a e = not_below (created es) (leads_created es Lasting (new_name m a) (created es) e)

append_base : (w : ℕ → List ℕ) (t : Tally) (es : List Effect) (n : ℕ) (bytes : List ℕ) → Stands w t es → Stands w t (Append n bytes ∷ es)
append_base w t es n bytes k = record {
  solid = same_solid;
  delivered = deliver es (Append n bytes ∷ es) (λ i there. there) (λ i there. there Lasting) t.acknowledged k.delivered;
  mine = k.mine;
  others = k.others;
}
  where
    same_solid : Solid w (Append n bytes ∷ es)
    same_solid Live m a f e = k.solid Live m a f e
    same_solid Lasting m a f e = k.solid Lasting m a f e

-- a sync touches no other file
pub not_own : (es : List Effect) (n own f : ℕ) → leads es Live n ≡ Some own → (own ≡ f → ⊥) → is_file f (leads es Live n) ≡ false
not_own es n own f at other = ap (is_file f) at ∙ ne_eqb own f other

sync_solid : (w : ℕ → List ℕ) (es : List Effect) (n own : ℕ) → leads es Live n ≡ Some own → IsOwn es own → Solid w es → Solid w (Sync n ∷ es)
sync_solid w es n own at alone k Live m a f e =
    contents_stay (Sync n ∷ []) es f (leads_created es Live (new_name m a) f e) (not_own es n own f at (λ same. alone Live m a (e ∙ ap Some (sym same))), tt) ∙ k Live m a f e
sync_solid w es n own at alone k Lasting m a f e =
    contents_stay (Sync n ∷ []) es f (leads_created es Lasting (new_name m a) f e) (not_own es n own f at (λ same. alone Lasting m a (e ∙ ap Some (sym same))), tt) ∙ k Lasting m a f e

sync_base : (w : ℕ → List ℕ) (t : Tally) (es : List Effect) (n own : ℕ) → leads es Live n ≡ Some own → IsOwn es own → Stands w t es → Stands w t (Sync n ∷ es)
sync_base w t es n own at alone k = record {
  solid = sync_solid w es n own at alone k.solid;
  delivered = deliver es (Sync n ∷ es) (λ i there. there) (λ i there. there Lasting) t.acknowledged k.delivered;
  mine = k.mine;
  others = k.others;
}

-- the name that the link made, or another
link_whole : (w : ℕ → List ℕ) (es : List Effect) (i : ℕ) (b : Attempt) (own : ℕ) → leads es Live (tmp_name i b) ≡ Some own → contents es Lasting own ≡ w i → Solid w es
    → (m : ℕ) (a : Attempt) (f : ℕ) (same : Bool) → (new_name m a == new_name i b) ≡ same → cond same (leads es Live (tmp_name i b)) (leads es Live (new_name m a)) ≡ Some f → contents es Lasting f ≡ w m
link_whole w es i b own at is k m a f true same e = ap (contents es Lasting) (some_same f own (sym e ∙ at)) ∙ is ∙ ap w (sym (same_message m i a b same))
link_whole w es i b own at is k m a f false same e = k Live m a f e

link_solid : (w : ℕ → List ℕ) (es : List Effect) (i : ℕ) (b : Attempt) (own : ℕ) → leads es Live (tmp_name i b) ≡ Some own → contents es Lasting own ≡ w i → Solid w es → Solid w (Link (tmp_name i b) (new_name i b) ∷ es)
link_solid w es i b own at is k Live m a f e = link_whole w es i b own at is k m a f (new_name m a == new_name i b) refl e
link_solid w es i b own at is k Lasting m a f e = k Lasting m a f e

link_leads : (x y : Option ℕ) (own f : ℕ) (same : Bool) → x ≡ Some own → y ≡ Some f → (g : ℕ) × (cond same x y ≡ Some g)
link_leads x y own f true at e = (own, at)
link_leads x y own f false at e = (f, e)

link_there : (es : List Effect) (i : ℕ) (b : Attempt) (own : ℕ) → leads es Live (tmp_name i b) ≡ Some own → (m : ℕ) → There es Live m → There (Link (tmp_name i b) (new_name i b) ∷ es) Live m
link_there es i b own at m k = (k.0, link_leads (leads es Live (tmp_name i b)) (leads es Live (new_name m k.0)) own k.1.0 (new_name m k.0 == new_name i b) at k.1.1)

link_base : (w : ℕ → List ℕ) (t : Tally) (es : List Effect) (own : ℕ) → leads es Live (tmp t) ≡ Some own → contents es Lasting own ≡ w t.message
    → Stands w t es → Stands w t (Link (tmp t) (new t) ∷ es)
link_base w t es own at is k = record {
  solid = link_solid w es t.message t.attempt own at is k.solid;
  delivered = deliver es (Link (tmp t) (new t) ∷ es) (link_there es t.message t.attempt own at) (λ i there. there Lasting) t.acknowledged k.delivered;
  mine = k.mine;
  others = k.others;
}

unlink_solid : (w : ℕ → List ℕ) (es : List Effect) (i : ℕ) (b : Attempt) → Solid w es → Solid w (Unlink (tmp_name i b) ∷ es)
unlink_solid w es i b k Live m a f e = k Live m a f (sym (names_alone (Unlink (tmp_name i b) ∷ []) es (new_name m a) (not_tmp m i a b, tt)) ∙ e)
unlink_solid w es i b k Lasting m a f e = k Lasting m a f e

unlink_there : (es : List Effect) (i : ℕ) (b : Attempt) (m : ℕ) → There es Live m → There (Unlink (tmp_name i b) ∷ es) Live m
unlink_there es i b m k = (k.0, (k.1.0, names_alone (Unlink (tmp_name i b) ∷ []) es (new_name m k.0) (not_tmp m i k.0 b, tt) ∙ k.1.1))

unlink_base : (w : ℕ → List ℕ) (t : Tally) (es : List Effect) → Stands w t es → Stands w t (Unlink (tmp t) ∷ es)
unlink_base w t es k = record {
  solid = unlink_solid w es t.message t.attempt k.solid;
  delivered = deliver es (Unlink (tmp t) ∷ es) (unlink_there es t.message t.attempt) (λ i there. there Lasting) t.acknowledged k.delivered;
  mine = k.mine;
  others = k.others;
}

sync_dir_solid : (w : ℕ → List ℕ) (es : List Effect) → Solid w es → Solid w (SyncDir ∷ es)
sync_dir_solid w es k Live m a f e = k Live m a f e
sync_dir_solid w es k Lasting m a f e = k Live m a f e

more_delivered : (es : List Effect) (m : ℕ) → ((side : Side) → There es side m) → (ms : List ℕ) → Delivered es ms → Delivered es (ms ++ m ∷ [])
more_delivered es m there [] k = (there, tt)
more_delivered es m there (i ∷ ms) k = (k.0, more_delivered es m there ms k.1)

sync_dir_there : (es : List Effect) (m : ℕ) → There es Live m → (side : Side) → There (SyncDir ∷ es) side m
sync_dir_there es m k Live = k
sync_dir_there es m k Lasting = k

-- what is there when the directory is synced is acknowledged
sync_dir_base : (w : ℕ → List ℕ) (t : Tally) (es : List Effect) → There es Live t.message → Stands w t es → Stands w (acknowledged t) (SyncDir ∷ es)
sync_dir_base w t es there k = record {
  solid = sync_dir_solid w es k.solid;
  delivered = more_delivered (SyncDir ∷ es) t.message (sync_dir_there es t.message there) t.acknowledged (deliver es (SyncDir ∷ es) (λ i at. at) (λ i at. at Live) t.acknowledged k.delivered);
  mine = k.mine;
  others = k.others;
}

-- ---- step by step

begun_safe : (w : ℕ → List ℕ) (t : Tally) (rest : List (List (List ℕ))) (es : List Effect) → Stands w t es → Tells w (t.message + 1) rest → Safe w (state (begun_of Sound t rest) es)
begun_safe w t [] es k tells = record { base = k; step = tt }
begun_safe w t (chunks ∷ more) es k tells = record { base = record { solid = k.solid; delivered = k.delivered; mine = tells.0; others = tells.1 }; step = tt }

failed_safe : (w : ℕ → List ℕ) (t : Tally) (attempt : Attempt) (es : List Effect) → Stands w t es → Safe w (state (failed_of Sound t attempt) es)
failed_safe w t First es k = record { base = k; step = tt }
failed_safe w t Second es k = begun_safe w t t.rest es k k.others

looked_safe : (w : ℕ → List ℕ) (there : Bool) (t : Tally) (es : List Effect) → Stands w t es → Safe w (state (looked there Sound t) es)
looked_safe w true t es k = failed_safe w t t.attempt es k
looked_safe w false t es k = record { base = k; step = tt }

write_safe : (es : List Effect) (n m f : ℕ) (whole : List ℕ) (cs : List (List ℕ)) → leads es Live n ≡ Some f → IsOwn es f → contents es Live f ++ joined cs ≡ whole → StepSafe (write_step cs) n m whole es
write_safe es n m f whole [] at own is = (f, (at, (own, sym (append-nil (contents es Live f)) ∙ is)))
write_safe es n m f whole (c ∷ cs) at own is = (f, (at, (own, is)))

linked_safe : (w : ℕ → List ℕ) (there : Bool) (t : Tally) (es : List Effect) (own : ℕ) → leads es Live (tmp t) ≡ Some own → contents es Lasting own ≡ w t.message → Stands w t es → Safe w (linked there Sound t es)
linked_safe w true t es own at is k = record { base = k; step = tt }
linked_safe w false t es own at is k = record {
  base = link_base w t es own at is k;
  step = (t.attempt, (own, link_shares es (tmp t) (new t) ∙ at));
}

pub append_own : (es : List Effect) (n f : ℕ) (bytes : List ℕ) → IsOwn es f → IsOwn (Append n bytes ∷ es) f
append_own es n f bytes own Live m a e = own Live m a e
append_own es n f bytes own Lasting m a e = own Lasting m a e

go_safe : (w : ℕ → List ℕ) (t : Tally) (es : List Effect) (step : Step) → Stands w t es → StepSafe step (tmp t) t.message (w t.message) es → Safe w (on_go Sound t es step)
go_safe w t es Looking k r = looked_safe w (is_there (tmp t) es) t es k
go_safe w t es Creating k r = record {
  base = create_base w t es k;
  step =
      let n = tmp t in
      write_safe (Create n ∷ es) n t.message (created es) (w t.message) t.chunks (create_names es n) (create_own es t.message t.attempt)
      (ap (λ x. x ++ joined t.chunks) (create_empties es n) ∙ sym k.mine);
}
go_safe w t es (Writing c cs) k r = record {
  base = append_base w t es (tmp t) c k;
  step =
      let n = tmp t in
      write_safe (Append n c ∷ es) n t.message r.0 (w t.message) cs r.1.0 (append_own es n r.0 c r.1.1.0)
      (ap (λ x. x ++ joined cs) (append_adds es n r.0 c r.1.0) ∙ append_assoc (contents es Live r.0) c (joined cs) ∙ r.1.1.1);
}
go_safe w t es Syncing k r = record {
  base = sync_base w t es (tmp t) r.0 r.1.0 r.1.1.0 k;
  step = (r.0, (r.1.0, synced_stays [] es (tmp t) r.0 [] r.1.0 tt ∙ r.1.1.1));
}
go_safe w t es Linking k r = linked_safe w (is_there (new t) es) t es r.0 r.1.0 r.1.1 k
go_safe w t es Unlinking k r = record { base = unlink_base w t es k; step = unlink_there es t.message t.attempt t.message r }
go_safe w t es SyncingDir k r = begun_safe w (acknowledged t) t.rest (SyncDir ∷ es) (sync_dir_base w t es r k) k.others
go_safe w t es Cleaning k r = failed_safe w t t.attempt (Unlink (tmp t) ∷ es) (unlink_base w t es k)
go_safe w t es Over k r = record { base = k; step = tt }

return_safe : (w : ℕ → List ℕ) (t : Tally) (es : List Effect) (step : Step) → Stands w t es → StepSafe step (tmp t) t.message (w t.message) es → Safe w (on_return Sound t es step)
return_safe w t es Looking k r = failed_safe w t t.attempt es k
return_safe w t es Creating k r = failed_safe w t t.attempt es k
return_safe w t es (Writing c cs) k r = record { base = append_base w t es (tmp t) (half c) k; step = tt }
return_safe w t es Syncing k r = record { base = k; step = tt }
return_safe w t es Linking k r = record { base = k; step = tt }
return_safe w t es Unlinking k r = record { base = k; step = r }
return_safe w t es SyncingDir k r = begun_safe w t t.rest es k k.others
return_safe w t es Cleaning k r = failed_safe w t t.attempt es k
return_safe w t es Over k r = record { base = k; step = tt }

pub step_safe : (w : ℕ → List ℕ) (s : State) (a : Reply) → Safe w s → Safe w (stepped Sound s a)
step_safe w s Go k = go_safe w s.tally s.effects s.tally.step k.base k.step
step_safe w s (Return text) k = return_safe w s.tally s.effects s.tally.step k.base k.step
step_safe w s Halt k = record { base = k.base; step = tt }

pub led_safe : (w : ℕ → List ℕ) (messages : List (List (List ℕ))) (s : State) (answers : List Reply) → Safe w s → Safe w (led (machine Sound messages) s answers)
led_safe w messages s [] k = k
led_safe w messages s (a ∷ answers) k = led_safe w messages (stepped Sound s a) answers (step_safe w s a k)

-- ---- the start

-- The whole of each message, by its number, if these are numbered from this number on.
abbrev whole_from : ℕ → List (List (List ℕ)) → ℕ → List ℕ
whole_from n [] m = []
whole_from n (chunks ∷ more) m = cond (m == n) (joined chunks) (whole_from (n + 1) more m)

tells_same : (v w : ℕ → List ℕ) (n : ℕ) (messages : List (List (List ℕ))) → ((m : ℕ) → n ≤ m → w m ≡ v m) → Tells v n messages → Tells w n messages
tells_same v w n [] same k = tt
tells_same v w n (chunks ∷ more) same k = (same n (omega arith) ∙ k.0, tells_same v w (n + 1) more (λ m h. same m (omega arith)) k.1)

later_whole : (n : ℕ) (chunks : List (List ℕ)) (more : List (List (List ℕ))) (m : ℕ) → n + 1 ≤ m → whole_from n (chunks ∷ more) m ≡ whole_from (n + 1) more m
later_whole n chunks more m h = ap (λ b. cond b (joined chunks) (whole_from (n + 1) more m)) (ne_eqb m n (λ e. omega arith))

pub whole_tells : (n : ℕ) (messages : List (List (List ℕ))) → Tells (whole_from n messages) n messages
whole_tells n [] = tt
whole_tells n (chunks ∷ more) = (
  ap (λ b. cond b (joined chunks) (whole_from (n + 1) more n)) (eq-eqb n n refl),
  tells_same (whole_from (n + 1) more) (whole_from n (chunks ∷ more)) (n + 1) more (later_whole n chunks more) (whole_tells (n + 1) more),
)

-- before the first message there is one without a number of its own, which holds nothing
abbrev pub whole_of : List (List (List ℕ)) → ℕ → List ℕ
whole_of messages = whole_from 0 ([] ∷ messages)

nowhere : (f : ℕ) → None ≡ Some f → ⊥
nowhere f e = cc

pub start_safe : (messages : List (List (List ℕ))) → Safe (whole_of messages) (start_of Sound messages)
start_safe messages =
    let tells = whole_tells 0 ([] ∷ messages) in
    begun_safe (whole_of messages) (before_all messages) messages [] (record { solid = λ side m a f e. absurd (nowhere f e); delivered = tt; mine = tells.0; others = tells.1 }) tells.1

-- ---- the judgement

not_differs : (s : Standing) (file : Option ℕ) (whole : List ℕ) → ((f : ℕ) → file ≡ Some f → s.contents f ≡ whole) → differs whole (option_map s.contents file) ≡ false
not_differs s None whole is = refl
not_differs s (Some f) whole is = ap not ((bytes_eq-Decides (s.contents f) whole).1 (is f refl))

or_none : (a b : Bool) → a ≡ false → b ≡ false → (a || b) ≡ false
or_none true b p q = p
or_none false b p q = q

-- If each name under `new/` leads to a whole message, none is torn.
pub none_torn : (w : ℕ → List ℕ) (s : Standing) (n : ℕ) (messages : List (List (List ℕ))) → ((m : ℕ) (a : Attempt) (f : ℕ) → s.leads (new_name m a) ≡ Some f → s.contents f ≡ w m)
    → Tells w n messages → has_torn s n messages ≡ false
none_torn w s n [] k tells = refl
none_torn w s n (chunks ∷ more) k tells =
    or_none _ _
    (or_none _ _ (whole_under First) (whole_under Second))
    (none_torn w s (n + 1) more k tells.1)
  where
    whole_under : (a : Attempt) → differs (joined chunks) (option_map s.contents (s.leads (new_name n a))) ≡ false
    whole_under a = not_differs s (s.leads (new_name n a)) (joined chunks) (λ f e. k n a f e ∙ tells.0)

or_right : (a b : Bool) → b ≡ true → (a || b) ≡ true
or_right true b e = refl
or_right false b e = e

or_left : (a b : Bool) → a ≡ true → (a || b) ≡ true
or_left true b e = refl
or_left false b e = cc

seen : (file : Option ℕ) (f : ℕ) → file ≡ Some f → not (is_none file) ≡ true
seen file f e = ap (λ (o : Option ℕ). not (is_none o)) e

there_delivered : (s : Standing) (m : ℕ) (a : Attempt) (f : ℕ) → s.leads (new_name m a) ≡ Some f → is_delivered s m ≡ true
there_delivered s m First f e = or_left _ _ (seen (s.leads (new_name m First)) f e)
there_delivered s m Second f e = or_right _ _ (seen (s.leads (new_name m Second)) f e)

-- these messages have names under `new/`
abbrev pub Stand : Standing → List ℕ → Type 0
Stand s [] = Unit {0}
Stand s (m ∷ ms) = ((a : Attempt) × ((f : ℕ) × (s.leads (new_name m a) ≡ Some f))) × Stand s ms

pub none_lost : (s : Standing) (ms : List ℕ) → Stand s ms → has_lost s ms ≡ false
none_lost s [] k = refl
none_lost s (m ∷ ms) k = or_none _ _ (let at = k.0 in ap not (there_delivered s m at.0 at.1.0 at.1.1)) (none_lost s ms k.1)

pub judged_kept : (messages : List (List (List ℕ))) (done : List ℕ) (s : Standing) → has_torn s 1 messages ≡ false → has_lost s done ≡ false → judged_now messages done s ≡ Kept
judged_kept messages done s whole there = ap (λ b. judged_by b (has_lost s done)) whole ∙ ap (judged_by false) there

lasting_stand : (es : List Effect) (ms : List ℕ) → Delivered es ms → Stand (standing (PowerCut [] ∷ es)) ms
lasting_stand es [] k = tt
lasting_stand es (m ∷ ms) k = (k.0 Lasting, lasting_stand es ms k.1)

-- whatever is answered, the sound variant keeps its word
pub sound_kept : (messages : List (List (List ℕ))) (answers : List Reply) (j : Judgement) → asks_of Sound messages answers ≡ Done j → j ≡ Kept
sound_kept messages answers j e =
    let w = whole_of messages in
    let s = after (machine Sound messages) answers in
    let k = (led_safe w messages (start_of Sound messages) answers (start_safe messages)).base in
    let left : Standing = standing (PowerCut [] ∷ s.effects) in
    let kept =
    judged_kept messages s.tally.acknowledged left (none_torn w left 1 messages (λ m a f e. k.solid Lasting m a f e) (whole_tells 0 ([] ∷ messages)).1)
    (none_lost left s.tally.acknowledged (lasting_stand s.effects s.tally.acknowledged k.delivered)) in
    done_kept (point_at s.tally.step) _ j kept e
