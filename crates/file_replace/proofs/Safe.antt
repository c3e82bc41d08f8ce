-- The sound variant: `target`, as it is and as it lasts, leads to files whose lasting contents are allowed, and `tmp` to another.
use Rattle.std.proofs.Common.{◌≡◌, ℕ, ◌<◌, Bool, true, false, ◌||◌, ◌&&◌, option_map, cond, List, [], ◌∷◌, ◌++◌, Option, Some, None, refl, ap, sym, ◌∙◌, arith, append_assoc, nat_eq}
use Rattle.std.proofs.lemmas.Bool.{eq-eqb, ne_eqb}
use Rattle.std.proofs.lemmas.List.{append-nil}
use Rattle.std.specs.List.{list_any}
use Rattle.std.specs.Str.{bytes_eq}
use Rattle.sim_device.specs.FileEffects.{Effect, Create, Append, Sync, Rename, Unlink, SyncDir, PowerCut, Live, Lasting, leads, contents, created}
use Rattle.sim_device.specs.Pending.{is_file}
use Rattle.sim_device.proofs.InUse.{leads_created}
use Rattle.action_eval.specs.Answers.{Reply, Go, Return, Halt}
use Rattle.target_trait.specs.declared.judgement.Judgement.{Judgement}
use Rattle.target_trait.specs.declared.judgement.Judgement.TheVariants.{Kept, Broken}
use Rattle.target_trait.specs.Play.{Done}
use Rattle.target_trait.proofs.Never.{done_kept}
use Rattle.file_replace.specs.declared.variant.Variant.TheVariants.{Sound}
use Rattle.target_trait.specs.Machine.{led, after}
use Rattle.scenario_values.specs.chunked.Chunks.{joined, half}
use Rattle.file_replace.specs.Work.{Work}
use Rattle.file_replace.specs.Words.{torn, stale}
use Rattle.file_replace.specs.Judgement.{Past, judged_by, judged}
use Rattle.file_replace.specs.Steps.{Step, Clearing, Creating, Writing, WritingAgain, Syncing, Renaming, SyncingRenamed, SyncingDir, SyncingLate, Cleaning, Over, Tally, State, state, first_step, begun_of, is_there, acknowledged, write_step, on_go, on_return, stepped, prepared, before_all, start_of, machine, point_at, asks_of}

abbrev pub among : List ℕ → List (List ℕ) → Bool
among x xs = list_any (bytes_eq x) xs

eq_self : (n : ℕ) → nat_eq n n ≡ true
eq_self n = eq-eqb n n refl

same_bytes : (x : List ℕ) → bytes_eq x x ≡ true
same_bytes [] = refl
same_bytes (n ∷ x) = ap (λ b. b && bytes_eq x x) (eq_self n) ∙ same_bytes x

or_true : (b : Bool) → (b || true) ≡ true
or_true true = refl
or_true false = refl

pub first_among : (x : List ℕ) (xs : List (List ℕ)) → among x (x ∷ xs) ≡ true
first_among x xs = ap (λ b. b || among x xs) (same_bytes x)

or_false : (b : Bool) → (b || false) ≡ b
or_false true = refl
or_false false = refl

or_assoc : (a b c : Bool) → (a || (b || c)) ≡ ((a || b) || c)
or_assoc true b c = refl
or_assoc false b c = refl

any_more : (x y : List ℕ) (xs : List (List ℕ)) → among x (xs ++ y ∷ []) ≡ (among x xs || bytes_eq x y)
any_more x y [] = or_false (bytes_eq x y)
any_more x y (z ∷ xs) = ap (λ b. bytes_eq x z || b) (any_more x y xs) ∙ or_assoc (bytes_eq x z) (among x xs) (bytes_eq x y)

pub more_among : (x y : List ℕ) (xs : List (List ℕ)) → among x xs ≡ true → among x (xs ++ y ∷ []) ≡ true
more_among x y xs h = any_more x y xs ∙ ap (λ b. b || bytes_eq x y) h

last_among : (x : List ℕ) (xs : List (List ℕ)) → among x (xs ++ x ∷ []) ≡ true
last_among x [] = first_among x []
last_among x (z ∷ xs) = ap (λ b. bytes_eq x z || b) (last_among x xs) ∙ or_true (bytes_eq x z)

pub among_same : (x y : List ℕ) (xs : List (List ℕ)) → y ≡ x → among x xs ≡ true → among y xs ≡ true
among_same x y xs e h = ap (λ z. among z xs) e ∙ h

pub record Solid (es : List Effect) (allowed : List (List ℕ)) : Type 0 where
  pub g : ℕ
  pub h : ℕ
  pub lasting : leads es Lasting 0 ≡ Some g
  pub live : leads es Live 0 ≡ Some h
  pub good_g : among (contents es Lasting g) allowed ≡ true
  pub good_h : among (contents es Lasting h) allowed ≡ true
  pub apart_g : (f : ℕ) → leads es Live 1 ≡ Some f → f ≡ g → ⊥
  pub apart_h : (f : ℕ) → leads es Live 1 ≡ Some f → f ≡ h → ⊥

abbrev pub StepSafe : Step → List ℕ → List Effect → Type 0
StepSafe (Clearing chunks) whole es = joined chunks ≡ whole
StepSafe (Creating chunks) whole es = joined chunks ≡ whole
StepSafe (Writing c cs) whole es = (f : ℕ) × (leads es Live 1 ≡ Some f) × (contents es Live f ++ (c ++ joined cs) ≡ whole)
StepSafe (WritingAgain c cs) whole es = ⊥
StepSafe Syncing whole es = (f : ℕ) × (leads es Live 1 ≡ Some f) × (contents es Live f ≡ whole)
StepSafe Renaming whole es = (f : ℕ) × (leads es Live 1 ≡ Some f) × (contents es Lasting f ≡ whole)
StepSafe SyncingRenamed whole es = ⊥
StepSafe SyncingDir whole es = (f : ℕ) × (leads es Live 0 ≡ Some f) × (contents es Lasting f ≡ whole)
StepSafe SyncingLate whole es = ⊥
StepSafe Cleaning whole es = Unit {0}
StepSafe Over whole es = Unit {0}

pub record Safe (s : State) : Type 0 where
  pub solid : Solid s.effects s.tally.past.allowed
  pub mine : among s.tally.whole s.tally.past.allowed ≡ true
  pub step : StepSafe s.tally.step s.tally.whole s.effects

more_solid : (es : List Effect) (allowed : List (List ℕ)) (x : List ℕ) → Solid es allowed → Solid es (allowed ++ x ∷ [])
more_solid es allowed x k = record {
  g = k.g;
  h = k.h;
  lasting = k.lasting;
  live = k.live;
  good_g = more_among (contents es Lasting k.g) x allowed k.good_g;
  good_h = more_among (contents es Lasting k.h) x allowed k.good_h;
  apart_g = k.apart_g;
  apart_h = k.apart_h;
}

first_safe : (there : Bool) (chunks : List (List ℕ)) (es : List Effect) → StepSafe (first_step there chunks) (joined chunks) es
first_safe false chunks es = refl
first_safe true chunks es = refl

begun_safe : (there : Bool) (t : Tally) (rest : List (List (List ℕ))) (es : List Effect) → Solid es t.past.allowed → among t.whole t.past.allowed ≡ true → Safe (state (begun_of there t rest) es)
begun_safe there t [] es k m = record { solid = k; mine = m; step = tt }
begun_safe there t (chunks ∷ more) es k m = record {
  solid = more_solid es t.past.allowed (joined chunks) k;
  mine = last_among (joined chunks) t.past.allowed;
  step = first_safe there chunks es;
}

pub absurd_none : (f : ℕ) → None ≡ Some f → ⊥
absurd_none f e = cc

unlink_solid : (es : List Effect) (allowed : List (List ℕ)) → Solid es allowed → Solid (Unlink 1 ∷ es) allowed
unlink_solid es allowed k = record {
  g = k.g;
  h = k.h;
  lasting = k.lasting;
  live = k.live;
  good_g = k.good_g;
  good_h = k.good_h;
  apart_g = λ f e _. absurd_none f e;
  apart_h = λ f e _. absurd_none f e;
}

pub not_new : (n g : ℕ) → g < n → nat_eq g n ≡ false
not_new n g h = ne_eqb g n (λ e. omega arith)

pub new_apart : (n f g : ℕ) → g < n → Some n ≡ Some f → f ≡ g → ⊥
new_apart n f g h e same = let is : n ≡ f = cc in omega arith

create_solid : (es : List Effect) (allowed : List (List ℕ)) → Solid es allowed → Solid (Create 1 ∷ es) allowed
create_solid es allowed k =
    let old_g : k.g < created es = leads_created es Lasting 0 k.g k.lasting in
    let old_h : k.h < created es = leads_created es Live 0 k.h k.live in
    record {
      g = k.g;
      h = k.h;
      lasting = k.lasting;
      live = k.live;
      good_g = among_same (contents es Lasting k.g) (contents (Create 1 ∷ es) Lasting k.g) allowed (ap (λ b. cond b [] (contents es Lasting k.g)) (not_new (created es) k.g old_g)) k.good_g;
      good_h = among_same (contents es Lasting k.h) (contents (Create 1 ∷ es) Lasting k.h) allowed (ap (λ b. cond b [] (contents es Lasting k.h)) (not_new (created es) k.h old_h)) k.good_h;
      apart_g = λ f e same. new_apart (created es) f k.g old_g e same;
      apart_h = λ f e same. new_apart (created es) f k.h old_h e same;
    }

append_solid : (es : List Effect) (allowed : List (List ℕ)) (bytes : List ℕ) → Solid es allowed → Solid (Append 1 bytes ∷ es) allowed
append_solid es allowed bytes k = record {
  g = k.g;
  h = k.h;
  lasting = k.lasting;
  live = k.live;
  good_g = k.good_g;
  good_h = k.good_h;
  apart_g = k.apart_g;
  apart_h = k.apart_h;
}

-- another file is not touched by the sync of `tmp`
pub other_file : (o : Option ℕ) (g : ℕ) → ((f : ℕ) → o ≡ Some f → f ≡ g → ⊥) → is_file g o ≡ false
other_file None g apart = refl
other_file (Some f) g apart = ne_eqb f g (apart f refl)

sync_solid : (es : List Effect) (allowed : List (List ℕ)) → Solid es allowed → Solid (Sync 1 ∷ es) allowed
sync_solid es allowed k = record {
  g = k.g;
  h = k.h;
  lasting = k.lasting;
  live = k.live;
  good_g = among_same (contents es Lasting k.g) (contents (Sync 1 ∷ es) Lasting k.g) allowed (ap (λ b. cond b (contents es Live k.g) (contents es Lasting k.g)) (other_file (leads es Live 1) k.g k.apart_g)) k.good_g;
  good_h = among_same (contents es Lasting k.h) (contents (Sync 1 ∷ es) Lasting k.h) allowed (ap (λ b. cond b (contents es Live k.h) (contents es Lasting k.h)) (other_file (leads es Live 1) k.h k.apart_h)) k.good_h;
  apart_g = k.apart_g;
  apart_h = k.apart_h;
}

rename_solid : (es : List Effect) (allowed : List (List ℕ)) (whole : List ℕ) (f : ℕ) → Solid es allowed → among whole allowed ≡ true → leads es Live 1 ≡ Some f → contents es Lasting f ≡ whole → Solid (Rename 1 0 ∷ es) allowed
rename_solid es allowed whole f k m at is = record {
  g = k.g;
  h = f;
  lasting = k.lasting;
  live = at;
  good_g = k.good_g;
  good_h = among_same whole (contents es Lasting f) allowed is m;
  apart_g = λ f e _. absurd_none f e;
  apart_h = λ f e _. absurd_none f e;
}

sync_dir_solid : (es : List Effect) (allowed : List (List ℕ)) (whole : List ℕ) (f : ℕ) → Solid es allowed → leads es Live 0 ≡ Some f → contents es Lasting f ≡ whole → Solid (SyncDir ∷ es) (whole ∷ [])
sync_dir_solid es allowed whole f k at is =
    let good : among (contents es Lasting f) (whole ∷ []) ≡ true = among_same whole (contents es Lasting f) (whole ∷ []) is (first_among whole []) in
    let same : f ≡ k.h = some_same f k.h (sym at ∙ k.live) in
    record {
      g = f;
      h = f;
      lasting = at;
      live = at;
      good_g = good;
      good_h = good;
      apart_g = λ x e is_f. k.apart_h x e (is_f ∙ same);
      apart_h = λ x e is_f. k.apart_h x e (is_f ∙ same);
    }
  where
    some_same : (a b : ℕ) → Some a ≡ Some b → a ≡ b
    some_same a b e = cc

-- the file of `tmp` just created holds nothing
new_empty : (es : List Effect) → contents (Create 1 ∷ es) Live (created es) ≡ []
new_empty es = ap (λ b. cond b [] (contents es Live (created es))) (eq_self (created es))

gstepn : (es : List Effect) (f : ℕ) (bytes : List ℕ) → leads es Live 1 ≡ Some f → contents (Append 1 bytes ∷ es) Live f ≡ contents es Live f ++ bytes
gstepn es f bytes at =
    ap (λ o. cond (is_file f o) (contents es Live f ++ bytes) (contents es Live f)) at
    ∙ ap (λ b. cond b (contents es Live f ++ bytes) (contents es Live f)) (eq_self f)

synced : (es : List Effect) (f : ℕ) → leads es Live 1 ≡ Some f → contents (Sync 1 ∷ es) Lasting f ≡ contents es Live f
synced es f at =
    ap (λ o. cond (is_file f o) (contents es Live f) (contents es Lasting f)) at
    ∙ ap (λ b. cond b (contents es Live f) (contents es Lasting f)) (eq_self f)

write_safe : (es : List Effect) (f : ℕ) (whole : List ℕ) (cs : List (List ℕ)) → leads es Live 1 ≡ Some f → contents es Live f ++ joined cs ≡ whole → StepSafe (write_step Sound cs) whole es
write_safe es f whole [] at is = (f, at, sym (append-nil (contents es Live f)) ∙ is)
write_safe es f whole (c ∷ cs) at is = (f, at, is)

go_safe : (t : Tally) (es : List Effect) (step : Step) → Solid es t.past.allowed → among t.whole t.past.allowed ≡ true → StepSafe step t.whole es → Safe (on_go Sound t es step)
go_safe t es (Clearing chunks) k m r = record { solid = unlink_solid es t.past.allowed k; mine = m; step = r }
go_safe t es (Creating chunks) k m r = record {
  solid = create_solid es t.past.allowed k;
  mine = m;
  step = write_safe (Create 1 ∷ es) (created es) t.whole chunks refl (ap (λ x. x ++ joined chunks) (new_empty es) ∙ r);
}
go_safe t es (Writing c cs) k m r = record {
  solid = append_solid es t.past.allowed c k;
  mine = m;
  step = write_safe (Append 1 c ∷ es) r.0 t.whole cs r.1 (ap (λ x. x ++ joined cs) (gstepn es r.0 c r.1) ∙ append_assoc (contents es Live r.0) c (joined cs) ∙ r.2);
}
go_safe t es (WritingAgain c cs) k m r = absurd r
go_safe t es Syncing k m r = record { solid = sync_solid es t.past.allowed k; mine = m; step = (r.0, r.1, synced es r.0 r.1 ∙ r.2) }
go_safe t es Renaming k m r = record { solid = rename_solid es t.past.allowed t.whole r.0 k m r.1 r.2; mine = m; step = (r.0, r.1, r.2) }
go_safe t es SyncingDir k m r =
    begun_safe (is_there Sound (SyncDir ∷ es)) (acknowledged t) t.rest (SyncDir ∷ es) (sync_dir_solid es t.past.allowed t.whole r.0 k r.1 r.2) (first_among t.whole [])
go_safe t es SyncingRenamed k m r = absurd r
go_safe t es SyncingLate k m r = absurd r
go_safe t es Cleaning k m r = begun_safe (is_there Sound (Unlink 1 ∷ es)) t t.rest (Unlink 1 ∷ es) (unlink_solid es t.past.allowed k) m
go_safe t es Over k m r = record { solid = k; mine = m; step = tt }

return_safe : (t : Tally) (es : List Effect) (step : Step) → Solid es t.past.allowed → among t.whole t.past.allowed ≡ true → StepSafe step t.whole es → Safe (on_return Sound t es step)
return_safe t es (Clearing chunks) k m r = begun_safe (is_there Sound es) t t.rest es k m
return_safe t es (Creating chunks) k m r = begun_safe (is_there Sound es) t t.rest es k m
return_safe t es (Writing c cs) k m r = record { solid = append_solid es t.past.allowed (half c) k; mine = m; step = tt }
return_safe t es (WritingAgain c cs) k m r = absurd r
return_safe t es Syncing k m r = record { solid = k; mine = m; step = tt }
return_safe t es Renaming k m r = record { solid = k; mine = m; step = tt }
return_safe t es SyncingDir k m r = begun_safe (is_there Sound es) t t.rest es k m
return_safe t es SyncingRenamed k m r = absurd r
return_safe t es SyncingLate k m r = absurd r
return_safe t es Cleaning k m r = begun_safe (is_there Sound es) t t.rest es k m
return_safe t es Over k m r = record { solid = k; mine = m; step = tt }

pub step_safe : (s : State) (a : Reply) → Safe s → Safe (stepped Sound s a)
step_safe s Go k = go_safe s.tally s.effects s.tally.step k.solid k.mine k.step
step_safe s (Return text) k = return_safe s.tally s.effects s.tally.step k.solid k.mine k.step
step_safe s Halt k = record { solid = k.solid; mine = k.mine; step = tt }

led_safe : (w : Work) (s : State) (answers : List Reply) → Safe s → Safe (led (machine Sound w) s answers)
led_safe w s [] k = k
led_safe w s (a ∷ answers) k = led_safe w (stepped Sound s a) answers (step_safe s a k)

prepared_solid : (old : List ℕ) → Solid (prepared old) (old ∷ [])
prepared_solid old = record {
  g = 0;
  h = 0;
  lasting = refl;
  live = refl;
  good_g = first_among old [];
  good_h = first_among old [];
  apart_g = λ f e _. absurd_none f e;
  apart_h = λ f e _. absurd_none f e;
}

pub start_safe : (w : Work) → Safe (start_of Sound w)
start_safe w = begun_safe false (before_all w) w.replacements (prepared w.old) (prepared_solid w.old) (first_among w.old [])

judged_kept : (past : Past) (es : List Effect) → Solid es past.allowed → judged past es ≡ Kept
judged_kept past es k =
    ap (λ o. judged_by past (option_map (contents (PowerCut [] ∷ es) Live) o)) k.lasting
    ∙ ap (λ b. cond b Kept (cond (among (contents es Lasting k.g) past.known) (Broken stale) (Broken torn))) k.good_g

-- whatever is answered, the sound variant keeps its word
pub sound_kept : (w : Work) (answers : List Reply) (j : Judgement) → asks_of Sound w answers ≡ Done j → j ≡ Kept
sound_kept w answers j e =
    let s = after (machine Sound w) answers in
    done_kept (point_at s.tally.step) _ j (judged_kept s.tally.past s.effects (led_safe w (start_of Sound w) answers (start_safe w)).solid) e
