-- The sound variant: whatever part of what is pending a power cut keeps, `target` holds whole contents that are allowed.
use Rattle.std.proofs.Common.{◌≡◌, ℕ, ◌<◌, Bool, true, false, not, cond, List, [], ◌∷◌, ◌++◌, filter, option_map, Option, Some, None, refl, ap, sym, ◌∙◌, subst, arith, nat_eq}
use Rattle.sim_device.specs.FileEffects.{Effect, Create, Append, Sync, Rename, Unlink, SyncDir, PowerCut, Live, Lasting, leads, contents, created, pending, held}
use Rattle.sim_device.specs.declared.pending.Call.{Call}
use Rattle.sim_device.specs.declared.pending.Call.TheVariants as call
use Rattle.sim_device.specs.Pending.{Pending, kept, is_to, is_of_contents, led_by, leads_with, renames, further, written, long}
use Rattle.sim_device.proofs.InUse.{leads_created}
use Rattle.sim_device.proofs.Untouched.{Untouched, untouched_push, untouched_filter, untouched_kept, synced_untouched, written_untouched, holds_same}
use Rattle.action_eval.specs.Answers.{Reply, Go, Return, Halt}
use Rattle.target_trait.specs.declared.judgement.Judgement.TheVariants.{Kept, Broken}
use Rattle.target_trait.specs.Machine.{led, after}
use Rattle.scenario_values.specs.chunked.Chunks.{joined, half}
use Rattle.file_replace.specs.declared.variant.Variant.TheVariants.{Sound}
use Rattle.file_replace.specs.Work.{Work}
use Rattle.file_replace.specs.Words.{torn, stale}
use Rattle.file_replace.specs.Judgement.{Past, judged_by}
use Rattle.file_replace.specs.Crash.{judged_keeping}
use Rattle.file_replace.specs.Steps.{Step, Clearing, Creating, Writing, WritingAgain, Syncing, Renaming, SyncingRenamed, SyncingDir, SyncingLate, Cleaning, Over, Tally, State, state, begun_of, is_there, acknowledged, write_step, on_go, on_return, stepped, first_step, prepared, before_all, start_of, machine}
use Rattle.file_replace.proofs.Safe.{Safe, StepSafe, among, more_among, among_same, first_among, other_file, not_new, new_apart, absurd_none, step_safe, start_safe}

-- ---- lists of pending writes

-- the write changes no name but `tmp`, or renames a file of which this holds to `target`
abbrev NameOk : (ℕ → Type 0) → Call → Option ℕ → Type 0
NameOk P (call.Create m) file = m ≡ 1
NameOk P (call.Append m place) file = Unit {0}
NameOk P (call.WriteAt m place) file = Unit {0}
NameOk P (call.Truncate m count) file = Unit {0}
NameOk P (call.Rename a b) file = (f : ℕ) × (file ≡ Some f) × P f × (b ≡ 0)
NameOk P (call.Link a b) file = ⊥
NameOk P (call.Unlink m) file = m ≡ 1

abbrev Names : (ℕ → Type 0) → List Pending → Type 0
Names P [] = Unit {0}
Names P (p ∷ ps) = NameOk P p.call p.file × Names P ps

name_map : (P Q : ℕ → Type 0) → ((f : ℕ) → P f → Q f) → (c : Call) (file : Option ℕ) → NameOk P c file → NameOk Q c file
name_map P Q m (call.Create n) file k = k
name_map P Q m (call.Append n place) file k = tt
name_map P Q m (call.WriteAt n place) file k = tt
name_map P Q m (call.Truncate n count) file k = tt
name_map P Q m (call.Rename a b) file k = (k.0, k.1, m k.0 k.2, k.3)
name_map P Q m (call.Link a b) file k = k
name_map P Q m (call.Unlink n) file k = k

names_map : (P Q : ℕ → Type 0) → ((f : ℕ) → P f → Q f) → (ps : List Pending) → Names P ps → Names Q ps
names_map P Q m [] k = tt
names_map P Q m (p ∷ ps) k = (name_map P Q m p.call p.file k.0, names_map P Q m ps k.1)

names_push : (P : ℕ → Type 0) (ps : List Pending) (q : Pending) → Names P ps → NameOk P q.call q.file → Names P (ps ++ q ∷ [])
names_push P [] q k h = (h, tt)
names_push P (p ∷ ps) q k h = (k.0, names_push P ps q k.1 h)

names_case : (P : ℕ → Type 0) (b : Bool) (p : Pending) (ps : List Pending) → NameOk P p.call p.file → Names P ps → Names P (cond b (p ∷ ps) ps)
names_case P true p ps h k = (h, k)
names_case P false p ps h k = k

names_filter : (P : ℕ → Type 0) (t : Pending → Bool) (ps : List Pending) → Names P ps → Names P (filter t ps)
names_filter P t [] k = tt
names_filter P t (p ∷ ps) k = names_case P (t p) p (filter t ps) k.0 (names_filter P t ps k.1)

names_kept : (P : ℕ → Type 0) (keep : List Bool) (ps : List Pending) → Names P ps → Names P (kept keep ps)
names_kept P [] ps k = tt
names_kept P (b ∷ keep) [] k = tt
names_kept P (true ∷ keep) (p ∷ ps) k = (k.0, names_kept P keep ps k.1)
names_kept P (false ∷ keep) (p ∷ ps) k = names_kept P keep ps k.1

-- a change of contents changes no name
content_case : (P : ℕ → Type 0) (c : Call) (p : Pending) (ps : List Pending) → p.call ≡ c → Names P ps → Names P (cond (is_of_contents c) (p ∷ ps) ps)
content_case P (call.Create m) p ps e k = k
content_case P (call.Append m place) p ps e k = (subst (λ c. NameOk P c p.file) (sym e) tt, k)
content_case P (call.WriteAt m place) p ps e k = (subst (λ c. NameOk P c p.file) (sym e) tt, k)
content_case P (call.Truncate m count) p ps e k = (subst (λ c. NameOk P c p.file) (sym e) tt, k)
content_case P (call.Rename a b) p ps e k = k
content_case P (call.Link a b) p ps e k = k
content_case P (call.Unlink m) p ps e k = k

contents_name_nothing : (P : ℕ → Type 0) (ps : List Pending) → Names P (filter (λ p. is_of_contents p.call) ps)
contents_name_nothing P [] = tt
contents_name_nothing P (p ∷ ps) = content_case P p.call p (filter (λ q. is_of_contents q.call) ps) refl (contents_name_nothing P ps)

-- ---- what a cut leaves

record Found (P : ℕ → Type 0) (o : Option ℕ) : Type 0 where
  f : ℕ
  is : o ≡ Some f
  good : P f

led_found : (P : ℕ → Type 0) (c : Call) (file : Option ℕ) (old : Option ℕ) → NameOk P c file → Found P old → Found P (led_by c file 0 old)
led_found P (call.Create m) file old k h = subst (λ n. Found P (cond (nat_eq 0 n) file old)) (sym k) h
led_found P (call.Append m place) file old k h = h
led_found P (call.WriteAt m place) file old k h = h
led_found P (call.Truncate m count) file old k h = h
led_found P (call.Rename a b) file old k h =
    subst (λ n. Found P (cond (nat_eq 0 n) file (cond (nat_eq 0 a) None old))) (sym k.3) (record { f = k.0; is = k.1; good = k.2 })
led_found P (call.Link a b) file old k h = absurd k
led_found P (call.Unlink m) file old k h = subst (λ n. Found P (cond (nat_eq 0 n) None old)) (sym k) h

leads_found : (P : ℕ → Type 0) (ps : List Pending) (old : Option ℕ) → Names P ps → Found P old → Found P (leads_with ps 0 old)
leads_found P [] old k h = h
leads_found P (p ∷ ps) old k h = leads_found P ps (led_by p.call p.file 0 old) k.1 (led_found P p.call p.file old k.0 h)

-- ---- what is kept from step to step

-- the file holds what is allowed, nothing is pending to it, and it isn't that of `tmp`
record Good (es : List Effect) (allowed : List (List ℕ)) (x : ℕ) : Type 0 where
  made : x < created es
  holds : among (contents es Lasting x) allowed ≡ true
  untouched : Untouched (pending es) x
  apart : (f : ℕ) → leads es Live 1 ≡ Some f → f ≡ x → ⊥

record Sturdy (es : List Effect) (allowed : List (List ℕ)) : Type 0 where
  lasting : Found (Good es allowed) (leads es Lasting 0)
  live : Found (Good es allowed) (leads es Live 0)
  names : Names (Good es allowed) (pending es)

found_map : (P Q : ℕ → Type 0) (o : Option ℕ) → ((f : ℕ) → P f → Q f) → Found P o → Found Q o
found_map P Q o m k = record { f = k.f; is = k.is; good = m k.f k.good }

-- with the same names of `target` and further pending writes
sturdy_kept : (past : Past) (es : List Effect) (keep : List Bool) → Sturdy es past.allowed → judged_by past (held (PowerCut keep ∷ es) Live 0) ≡ Kept
sturdy_kept past es keep k =
    let writes : List Pending = kept keep (pending es) in
    let at = leads_found (Good es past.allowed) writes (leads es Lasting 0) (names_kept (Good es past.allowed) keep (pending es) k.names) k.lasting in
    ap (λ o. judged_by past (option_map (contents (PowerCut keep ∷ es) Live) o)) at.is
    ∙ ap (λ x. judged_by past (Some x)) (holds_same writes at.f (contents es Lasting at.f) (untouched_kept keep (pending es) at.f at.good.untouched))
    ∙ ap (λ b. cond b Kept (cond (among (contents es Lasting at.f) past.known) (Broken stale) (Broken torn))) at.good.holds

-- ---- each effect

good_unlink : (es : List Effect) (allowed : List (List ℕ)) (x : ℕ) → Good es allowed x → Good (Unlink 1 ∷ es) allowed x
good_unlink es allowed x k = record {
  made = k.made;
  holds = k.holds;
  untouched = untouched_push (pending es) (renames (call.Unlink 1) None) x k.untouched refl;
  apart = λ f e _. absurd_none f e;
}

sturdy_unlink : (es : List Effect) (allowed : List (List ℕ)) → Sturdy es allowed → Sturdy (Unlink 1 ∷ es) allowed
sturdy_unlink es allowed k =
    let P = Good es allowed in
    let Q = Good (Unlink 1 ∷ es) allowed in
    record {
      lasting = found_map P Q (leads es Lasting 0) (good_unlink es allowed) k.lasting;
      live = found_map P Q (leads es Live 0) (good_unlink es allowed) k.live;
      names = names_push Q (pending es) (renames (call.Unlink 1) None) (names_map P Q (good_unlink es allowed) (pending es) k.names) refl;
    }

good_create : (es : List Effect) (allowed : List (List ℕ)) (x : ℕ) → Good es allowed x → Good (Create 1 ∷ es) allowed x
good_create es allowed x k =
    let older : x < created es = k.made in
    record {
      made = omega (arith, older);
      holds =
          among_same (contents es Lasting x) (contents (Create 1 ∷ es) Lasting x) allowed
          (ap (λ b. cond b [] (contents es Lasting x)) (not_new (created es) x older)) k.holds;
      untouched = untouched_push (pending es) (renames (call.Create 1) (Some (created es))) x k.untouched refl;
      apart = λ f e same. new_apart (created es) f x older e same;
    }

sturdy_create : (es : List Effect) (allowed : List (List ℕ)) → Sturdy es allowed → Sturdy (Create 1 ∷ es) allowed
sturdy_create es allowed k =
    let P = Good es allowed in
    let Q = Good (Create 1 ∷ es) allowed in
    record {
      lasting = found_map P Q (leads es Lasting 0) (good_create es allowed) k.lasting;
      live = found_map P Q (leads es Live 0) (good_create es allowed) k.live;
      names = names_push Q (pending es) (renames (call.Create 1) (Some (created es))) (names_map P Q (good_create es allowed) (pending es) k.names) refl;
    }

further_names : (P : ℕ → Type 0) (ps : List Pending) (place : ℕ) (bytes : List ℕ) (o : Option ℕ) → Names P ps → Names P (further ps (written (call.Append 1 place) bytes o))
further_names P ps place bytes None k = k
further_names P ps place [] (Some f) k = k
further_names P ps place (b ∷ bytes) (Some f) k = names_push P ps (record { call = call.Append 1 place; file = Some f; bytes = b ∷ bytes }) k tt

good_append : (es : List Effect) (allowed : List (List ℕ)) (bytes : List ℕ) (x : ℕ) → Good es allowed x → Good (Append 1 bytes ∷ es) allowed x
good_append es allowed bytes x k = record {
  made = k.made;
  holds = k.holds;
  untouched = written_untouched (pending es) (call.Append 1 (long (contents es Live) (leads es Live 1))) bytes (leads es Live 1) x k.untouched (other_file (leads es Live 1) x k.apart);
  apart = k.apart;
}

sturdy_append : (es : List Effect) (allowed : List (List ℕ)) (bytes : List ℕ) → Sturdy es allowed → Sturdy (Append 1 bytes ∷ es) allowed
sturdy_append es allowed bytes k =
    let P = Good es allowed in
    let Q = Good (Append 1 bytes ∷ es) allowed in
    record {
      lasting = found_map P Q (leads es Lasting 0) (good_append es allowed bytes) k.lasting;
      live = found_map P Q (leads es Live 0) (good_append es allowed bytes) k.live;
      names = further_names Q (pending es) (long (contents es Live) (leads es Live 1)) bytes (leads es Live 1) (names_map P Q (good_append es allowed bytes) (pending es) k.names);
    }

good_sync : (es : List Effect) (allowed : List (List ℕ)) (x : ℕ) → Good es allowed x → Good (Sync 1 ∷ es) allowed x
good_sync es allowed x k = record {
  made = k.made;
  holds =
      among_same (contents es Lasting x) (contents (Sync 1 ∷ es) Lasting x) allowed
      (ap (λ b. cond b (contents es Live x) (contents es Lasting x)) (other_file (leads es Live 1) x k.apart)) k.holds;
  untouched = untouched_filter (λ p. not (is_to (leads es Live 1) p)) (pending es) x k.untouched;
  apart = k.apart;
}

sturdy_sync : (es : List Effect) (allowed : List (List ℕ)) → Sturdy es allowed → Sturdy (Sync 1 ∷ es) allowed
sturdy_sync es allowed k =
    let P = Good es allowed in
    let Q = Good (Sync 1 ∷ es) allowed in
    record {
      lasting = found_map P Q (leads es Lasting 0) (good_sync es allowed) k.lasting;
      live = found_map P Q (leads es Live 0) (good_sync es allowed) k.live;
      names = names_filter Q (λ p. not (is_to (leads es Live 1) p)) (pending es) (names_map P Q (good_sync es allowed) (pending es) k.names);
    }

good_rename : (es : List Effect) (allowed : List (List ℕ)) (x : ℕ) → Good es allowed x → Good (Rename 1 0 ∷ es) allowed x
good_rename es allowed x k = record {
  made = k.made;
  holds = k.holds;
  untouched = untouched_push (pending es) (renames (call.Rename 1 0) (leads es Live 1)) x k.untouched refl;
  apart = λ f e _. absurd_none f e;
}

sturdy_rename : (es : List Effect) (allowed : List (List ℕ)) (whole : List ℕ) (f : ℕ) → Sturdy es allowed → among whole allowed ≡ true → leads es Live 1 ≡ Some f
    → contents es Lasting f ≡ whole → Untouched (pending es) f → Sturdy (Rename 1 0 ∷ es) allowed
sturdy_rename es allowed whole f k m at is u =
    let P = Good es allowed in
    let Q = Good (Rename 1 0 ∷ es) allowed in
    let good : Q f = record {
      made = leads_created es Live 1 f at;
      holds = among_same whole (contents es Lasting f) allowed is m;
      untouched = untouched_push (pending es) (renames (call.Rename 1 0) (leads es Live 1)) f u refl;
      apart = λ x e _. absurd_none x e;
    } in
    record {
      lasting = found_map P Q (leads es Lasting 0) (good_rename es allowed) k.lasting;
      live = record { f = f; is = at; good = good };
      names = names_push Q (pending es) (renames (call.Rename 1 0) (leads es Live 1)) (names_map P Q (good_rename es allowed) (pending es) k.names) (f, at, good, refl);
    }

some_same : (a b : ℕ) → Some a ≡ Some b → a ≡ b
some_same a b e = cc

sturdy_sync_dir : (es : List Effect) (allowed : List (List ℕ)) (whole : List ℕ) (f : ℕ) → Sturdy es allowed → leads es Live 0 ≡ Some f → contents es Lasting f ≡ whole
    → Sturdy (SyncDir ∷ es) (whole ∷ [])
sturdy_sync_dir es allowed whole f k at is =
    let Q = Good (SyncDir ∷ es) (whole ∷ []) in
    let old = k.live.good in
    let same : contents es Lasting k.live.f ≡ whole = ap (contents es Lasting) (some_same k.live.f f (sym k.live.is ∙ at)) ∙ is in
    let good : Q k.live.f = record {
      made = old.made;
      holds = among_same whole (contents es Lasting k.live.f) (whole ∷ []) same (first_among whole []);
      untouched = untouched_filter (λ p. is_of_contents p.call) (pending es) k.live.f old.untouched;
      apart = old.apart;
    } in
    record {
      lasting = record { f = k.live.f; is = k.live.is; good = good };
      live = record { f = k.live.f; is = k.live.is; good = good };
      names = contents_name_nothing Q (pending es);
    }

good_more : (es : List Effect) (allowed : List (List ℕ)) (y : List ℕ) (x : ℕ) → Good es allowed x → Good es (allowed ++ y ∷ []) x
good_more es allowed y x k = record { made = k.made; holds = more_among (contents es Lasting x) y allowed k.holds; untouched = k.untouched; apart = k.apart }

sturdy_more : (es : List Effect) (allowed : List (List ℕ)) (y : List ℕ) → Sturdy es allowed → Sturdy es (allowed ++ y ∷ [])
sturdy_more es allowed y k =
    let P = Good es allowed in
    let Q = Good es (allowed ++ y ∷ []) in
    record {
      lasting = found_map P Q (leads es Lasting 0) (good_more es allowed y) k.lasting;
      live = found_map P Q (leads es Live 0) (good_more es allowed y) k.live;
      names = names_map P Q (good_more es allowed y) (pending es) k.names;
    }

-- ---- each step

-- what is renamed next is synced
StepCalm : Step → List Effect → Type 0
StepCalm (Clearing chunks) es = Unit {0}
StepCalm (Creating chunks) es = Unit {0}
StepCalm (Writing c cs) es = Unit {0}
StepCalm (WritingAgain c cs) es = Unit {0}
StepCalm Syncing es = Unit {0}
StepCalm Renaming es = (f : ℕ) → leads es Live 1 ≡ Some f → Untouched (pending es) f
StepCalm SyncingRenamed es = Unit {0}
StepCalm SyncingDir es = Unit {0}
StepCalm SyncingLate es = Unit {0}
StepCalm Cleaning es = Unit {0}
StepCalm Over es = Unit {0}

record Firm (s : State) : Type 0 where
  sturdy : Sturdy s.effects s.tally.past.allowed
  calm : StepCalm s.tally.step s.effects

calm_write : (cs : List (List ℕ)) (es : List Effect) → StepCalm (write_step Sound cs) es
unfolding StepCalm
calm_write [] es = tt
calm_write (c ∷ cs) es = tt

calm_first : (there : Bool) (chunks : List (List ℕ)) (es : List Effect) → StepCalm (first_step there chunks) es
unfolding StepCalm
calm_first false chunks es = tt
calm_first true chunks es = tt

begun_firm : (there : Bool) (t : Tally) (rest : List (List (List ℕ))) (es : List Effect) → Sturdy es t.past.allowed → Firm (state (begun_of there t rest) es)
unfolding StepCalm
begun_firm there t [] es k = record { sturdy = k; calm = tt }
begun_firm there t (chunks ∷ more) es k = record { sturdy = sturdy_more es t.past.allowed (joined chunks) k; calm = calm_first there chunks es }

go_firm : (t : Tally) (es : List Effect) (step : Step) → Sturdy es t.past.allowed → among t.whole t.past.allowed ≡ true → StepSafe step t.whole es → StepCalm step es
    → Firm (on_go Sound t es step)
unfolding StepCalm
go_firm t es (Clearing chunks) k m r c = record { sturdy = sturdy_unlink es t.past.allowed k; calm = tt }
go_firm t es (Creating chunks) k m r c = record { sturdy = sturdy_create es t.past.allowed k; calm = calm_write chunks (Create 1 ∷ es) }
go_firm t es (Writing b cs) k m r c = record { sturdy = sturdy_append es t.past.allowed b k; calm = calm_write cs (Append 1 b ∷ es) }
go_firm t es (WritingAgain b cs) k m r c = absurd r
go_firm t es Syncing k m r c = record {
  sturdy = sturdy_sync es t.past.allowed k;
  calm = λ f e. subst (λ o. Untouched (filter (λ p. not (is_to o p)) (pending es)) f) (sym e) (synced_untouched (pending es) f);
}
go_firm t es Renaming k m r c = record { sturdy = sturdy_rename es t.past.allowed t.whole r.0 k m r.1 r.2 (c r.0 r.1); calm = tt }
go_firm t es SyncingRenamed k m r c = absurd r
go_firm t es SyncingDir k m r c =
    begun_firm (is_there Sound (SyncDir ∷ es)) (acknowledged t) t.rest (SyncDir ∷ es) (sturdy_sync_dir es t.past.allowed t.whole r.0 k r.1 r.2)
go_firm t es SyncingLate k m r c = absurd r
go_firm t es Cleaning k m r c = begun_firm (is_there Sound (Unlink 1 ∷ es)) t t.rest (Unlink 1 ∷ es) (sturdy_unlink es t.past.allowed k)
go_firm t es Over k m r c = record { sturdy = k; calm = tt }

return_firm : (t : Tally) (es : List Effect) (step : Step) → Sturdy es t.past.allowed → StepSafe step t.whole es → Firm (on_return Sound t es step)
unfolding StepCalm
return_firm t es (Clearing chunks) k r = begun_firm (is_there Sound es) t t.rest es k
return_firm t es (Creating chunks) k r = begun_firm (is_there Sound es) t t.rest es k
return_firm t es (Writing c cs) k r = record { sturdy = sturdy_append es t.past.allowed (half c) k; calm = tt }
return_firm t es (WritingAgain c cs) k r = absurd r
return_firm t es Syncing k r = record { sturdy = k; calm = tt }
return_firm t es Renaming k r = record { sturdy = k; calm = tt }
return_firm t es SyncingRenamed k r = absurd r
return_firm t es SyncingDir k r = begun_firm (is_there Sound es) t t.rest es k
return_firm t es SyncingLate k r = absurd r
return_firm t es Cleaning k r = begun_firm (is_there Sound es) t t.rest es k
return_firm t es Over k r = record { sturdy = k; calm = tt }

step_firm : (s : State) (a : Reply) → Safe s → Firm s → Firm (stepped Sound s a)
unfolding StepCalm
step_firm s Go k f = go_firm s.tally s.effects s.tally.step f.sturdy k.mine k.step f.calm
step_firm s (Return text) k f = return_firm s.tally s.effects s.tally.step f.sturdy k.step
step_firm s Halt k f = record { sturdy = f.sturdy; calm = tt }

led_firm : (w : Work) (s : State) (answers : List Reply) → Safe s → Firm s → Firm (led (machine Sound w) s answers)
led_firm w s [] k f = f
led_firm w s (a ∷ answers) k f = led_firm w (stepped Sound s a) answers (step_safe s a k) (step_firm s a k f)

prepared_sturdy : (old : List ℕ) → Sturdy (prepared old) (old ∷ [])
prepared_sturdy [] =
    let good : Good (prepared []) ([] ∷ []) 0 = record { made = omega arith; holds = first_among [] []; untouched = tt; apart = λ f e _. absurd_none f e } in
    record { lasting = record { f = 0; is = refl; good = good }; live = record { f = 0; is = refl; good = good }; names = tt }
prepared_sturdy (b ∷ bs) =
    let good : Good (prepared (b ∷ bs)) ((b ∷ bs) ∷ []) 0 = record { made = omega arith; holds = first_among (b ∷ bs) []; untouched = tt; apart = λ f e _. absurd_none f e } in
    record { lasting = record { f = 0; is = refl; good = good }; live = record { f = 0; is = refl; good = good }; names = tt }

start_firm : (w : Work) → Firm (start_of Sound w)
start_firm w = begun_firm false (before_all w) w.replacements (prepared w.old) (prepared_sturdy w.old)

-- whatever was answered, and whatever of it a cut keeps, is allowed
pub sound_keeps : (w : Work) (own : List Reply) (keep : List Bool) → judged_keeping (after (machine Sound w) own) keep ≡ Kept
sound_keeps w own keep =
    let s = after (machine Sound w) own in
    sturdy_kept s.tally.past s.effects keep (led_firm w (start_of Sound w) own (start_safe w) (start_firm w)).sturdy
