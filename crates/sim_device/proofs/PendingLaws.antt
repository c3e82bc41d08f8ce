-- Laws of pending writes.
use Rattle.std.proofs.Common.{◌≡◌, ℕ, ◌+◌, ◌<◌, ◌≤◌, ◌&&◌, not, nat_eq, nat_lt, Bool, true, false, cond, List, [], ◌∷◌, ◌++◌, take, drop, filter, length, Option, Some, None, replicate, refl, ap, sym, subst, ◌∙◌, arith}
use Rattle.std.proofs.lemmas.Bool.{eqb-true, eqb-false, ltb-false, ne_eqb}
use Rattle.std.proofs.lemmas.List.{append-nil, drop_all, take_all, take_at}
use Rattle.sim_device.specs.declared.pending.Call.{Call}
use Rattle.sim_device.specs.declared.pending.Call.TheVariants as call
use Rattle.sim_device.specs.FileEffects.{Effect, Create, Append, Write, Truncate, Sync, Rename, Link, Unlink, SyncDir, PowerCut, Side, Live, Lasting, created, leads, contents, pending}
use Rattle.sim_device.specs.Disk.{Noted, AddsNoted}
use Rattle.sim_device.specs.Pending.{Pending, is_file, overwritten, kept, further, written, shortened, long, renames, is_to, is_of_contents, led_by, held_by, held_with, leads_with, holds_with}
use Rattle.sim_device.specs.inside.Laid.{SettlesTo, AreOfFiles}
use Rattle.sim_device.proofs.InUse.{InUse, pending_of_files}
use Rattle.sim_device.proofs.Untouched.{held_case, held_untouched, holds_same, synced_untouched}

-- ---- what the device does is what a cut leaves

pub cuts_keeping : (old new : Noted) (keep : List Bool) → (AreOfFiles old.pending (length old.disk.files) → SettlesTo old.disk new.disk (kept keep old.pending)) → new.pending ≡ []
    → AddsNoted old new (PowerCut keep)
cuts_keeping old new keep settles none es k =
    let of_files : AreOfFiles old.pending (length old.disk.files) =
    subst (λ used. AreOfFiles old.pending used) (sym k.disk.made) (subst (λ (l : List Pending). AreOfFiles l (created es)) (sym k.pending) (pending_of_files es)) in
    let s : SettlesTo old.disk new.disk (kept keep (pending es)) = subst (λ (l : List Pending). SettlesTo old.disk new.disk (kept keep l)) k.pending (settles of_files) in
    record {
      disk = record {
        live = λ n. s.live n ∙ ap (leads_with (kept keep (pending es)) n) (k.disk.lasting n);
        lasting = λ n. s.lasting n ∙ ap (leads_with (kept keep (pending es)) n) (k.disk.lasting n);
        made = s.made ∙ k.disk.made;
        now = λ f within.
            let used : f < length old.disk.files = subst (λ m. f < m) s.made within in
            s.now f used ∙ ap (holds_with (kept keep (pending es)) f) (k.disk.disk f used);
        disk = λ f within.
            let used : f < length old.disk.files = subst (λ m. f < m) s.made within in
            s.disk f used ∙ ap (holds_with (kept keep (pending es)) f) (k.disk.disk f used);
      };
      pending = none;
    }

-- ---- names, if all is kept

leads_more : (writes : List Pending) (p : Pending) (n : ℕ) (x : Option ℕ) → leads_with (writes ++ p ∷ []) n x ≡ led_by p.call p.file n (leads_with writes n x)
leads_more [] p n x = refl
leads_more (q ∷ writes) p n x = leads_more writes p n (led_by q.call q.file n x)

led_same : (c : Call) (file : Option ℕ) (n : ℕ) (x : Option ℕ) → is_of_contents c ≡ true → led_by c file n x ≡ x
led_same (call.Create m) file n x e = absurd cc
led_same (call.Append m place) file n x e = refl
led_same (call.WriteAt m place) file n x e = refl
led_same (call.Truncate m count) file n x e = refl
led_same (call.Rename a b) file n x e = absurd cc
led_same (call.Link a b) file n x e = absurd cc
led_same (call.Unlink m) file n x e = absurd cc

leads_written : (writes : List Pending) (c : Call) (bytes : List ℕ) (o : Option ℕ) (n : ℕ) (x : Option ℕ) → is_of_contents c ≡ true
    → leads_with (further writes (written c bytes o)) n x ≡ leads_with writes n x
leads_written writes c bytes None n x e = refl
leads_written writes c [] (Some f) n x e = refl
leads_written writes c (byte ∷ bytes) (Some f) n x e =
    leads_more writes (record { call = c; file = Some f; bytes = byte ∷ bytes }) n x ∙ led_same c (Some f) n (leads_with writes n x) e

leads_test : (b : Bool) (writes : List Pending) (p : Pending) (n : ℕ) (x : Option ℕ) → is_of_contents p.call ≡ true
    → leads_with (further writes (cond b (Some p) None)) n x ≡ leads_with writes n x
leads_test true writes p n x e = leads_more writes p n x ∙ led_same p.call p.file n (leads_with writes n x) e
leads_test false writes p n x e = refl

leads_shortened : (writes : List Pending) (m count size : ℕ) (o : Option ℕ) (n : ℕ) (x : Option ℕ)
    → leads_with (further writes (shortened m count size o)) n x ≡ leads_with writes n x
leads_shortened writes m count size None n x = refl
leads_shortened writes m count size (Some f) n x =
    leads_test (nat_lt count size) writes (record { call = call.Truncate m count; file = Some f; bytes = [] }) n x refl

first_of : (a b : Bool) → not (a && b) ≡ false → a ≡ true
first_of true b e = refl
first_of false b e = absurd cc

of_contents : (o : Option ℕ) (p : Pending) → not (is_to o p) ≡ false → is_of_contents p.call ≡ true
of_contents None p e = absurd cc
of_contents (Some f) p e = first_of (is_of_contents p.call) (is_file f p.file) e

leads_left : (b : Bool) (p : Pending) (rest writes : List Pending) (n : ℕ) (x : Option ℕ) → (b ≡ false → led_by p.call p.file n x ≡ x)
    → ((y : Option ℕ) → leads_with rest n y ≡ leads_with writes n y) → leads_with (cond b (p ∷ rest) rest) n x ≡ leads_with (p ∷ writes) n x
leads_left true p rest writes n x h k = k (led_by p.call p.file n x)
leads_left false p rest writes n x h k = k x ∙ sym (ap (leads_with writes n) (h refl))

leads_unsynced : (o : Option ℕ) (writes : List Pending) (n : ℕ) (x : Option ℕ) → leads_with (filter (λ p. not (is_to o p)) writes) n x ≡ leads_with writes n x
leads_unsynced o [] n x = refl
leads_unsynced o (p ∷ writes) n x =
    leads_left (not (is_to o p)) p (filter (λ p. not (is_to o p)) writes) writes n x (λ e. led_same p.call p.file n x (of_contents o p e)) (leads_unsynced o writes n)

leads_none : (b : Bool) (p : Pending) (rest : List Pending) (n : ℕ) (x : Option ℕ) → (b ≡ true → led_by p.call p.file n x ≡ x) → leads_with rest n x ≡ x
    → leads_with (cond b (p ∷ rest) rest) n x ≡ x
leads_none true p rest n x h k = ap (leads_with rest n) (h refl) ∙ k
leads_none false p rest n x h k = k

leads_contents : (writes : List Pending) (n : ℕ) (x : Option ℕ) → leads_with (filter (λ p. is_of_contents p.call) writes) n x ≡ x
leads_contents [] n x = refl
leads_contents (p ∷ writes) n x =
    leads_none (is_of_contents p.call) p (filter (λ p. is_of_contents p.call) writes) n x (led_same p.call p.file n x) (leads_contents writes n x)

pub all_names : (es : List Effect) (n : ℕ) → leads_with (pending es) n (leads es Lasting n) ≡ leads es Live n
all_names [] n = refl
all_names (Create m ∷ es) n =
    leads_more (pending es) (renames (call.Create m) (Some (created es))) n (leads es Lasting n)
    ∙ ap (led_by (call.Create m) (Some (created es)) n) (all_names es n)
all_names (Append m bytes ∷ es) n =
    leads_written (pending es) (call.Append m (long (contents es Live) (leads es Live m))) bytes (leads es Live m) n (leads es Lasting n) refl ∙ all_names es n
all_names (Write m place bytes ∷ es) n = leads_written (pending es) (call.WriteAt m place) bytes (leads es Live m) n (leads es Lasting n) refl ∙ all_names es n
all_names (Truncate m count ∷ es) n = leads_shortened (pending es) m count (long (contents es Live) (leads es Live m)) (leads es Live m) n (leads es Lasting n) ∙ all_names es n
all_names (Sync m ∷ es) n = leads_unsynced (leads es Live m) (pending es) n (leads es Lasting n) ∙ all_names es n
all_names (Rename a b ∷ es) n =
    leads_more (pending es) (renames (call.Rename a b) (leads es Live a)) n (leads es Lasting n)
    ∙ ap (led_by (call.Rename a b) (leads es Live a) n) (all_names es n)
all_names (Link a b ∷ es) n =
    leads_more (pending es) (renames (call.Link a b) (leads es Live a)) n (leads es Lasting n)
    ∙ ap (led_by (call.Link a b) (leads es Live a) n) (all_names es n)
all_names (Unlink m ∷ es) n =
    leads_more (pending es) (renames (call.Unlink m) None) n (leads es Lasting n) ∙ ap (led_by (call.Unlink m) None n) (all_names es n)
all_names (SyncDir ∷ es) n = leads_contents (pending es) n (leads es Live n)
all_names (PowerCut keep ∷ es) n = refl

-- ---- contents, if all is kept

holds_more : (writes : List Pending) (p : Pending) (f : ℕ) (x : List ℕ) → holds_with (writes ++ p ∷ []) f x ≡ held_with p f (holds_with writes f x)
holds_more [] p f x = refl
holds_more (q ∷ writes) p f x = holds_more writes p f (held_with q f x)

-- a change of names leaves contents as they are
names_alone_held : (p : Pending) (f : ℕ) (x : List ℕ) → is_of_contents p.call ≡ false → held_with p f x ≡ x
names_alone_held p f x e = held_untouched p f x (ap (λ b. b && is_file f p.file) e)

-- and so does a write to another file
other_held : (p : Pending) (f : ℕ) (x : List ℕ) → is_file f p.file ≡ false → held_with p f x ≡ x
other_held p f x e = ap (λ b. cond b (held_by p.call p.bytes x) x) e

holds_named : (writes : List Pending) (c : Call) (o : Option ℕ) (f : ℕ) (x live : List ℕ) → is_of_contents c ≡ false → holds_with writes f x ≡ live
    → holds_with (writes ++ renames c o ∷ []) f x ≡ live
holds_named writes c o f x live e h = holds_more writes (renames c o) f x ∙ names_alone_held (renames c o) f (holds_with writes f x) e ∙ h

holds_written : (writes : List Pending) (c : Call) (bytes : List ℕ) (o : Option ℕ) (f : ℕ) (x live : List ℕ) → held_by c [] live ≡ live
    → holds_with writes f x ≡ live
    → holds_with (further writes (written c bytes o)) f x ≡ cond (is_file f o) (held_by c bytes live) live
holds_written writes c bytes None f x live none h = h
holds_written writes c [] (Some g) f x live none h = h ∙ sym (ap (λ (l : List ℕ). cond (is_file f (Some g)) l live) none ∙ held_case (is_file f (Some g)) live)
holds_written writes c (byte ∷ bytes) (Some g) f x live none h =
    holds_more writes (record { call = c; file = Some g; bytes = byte ∷ bytes }) f x
    ∙ ap (held_with (record { call = c; file = Some g; bytes = byte ∷ bytes }) f) h

at_end : (bytes old : List ℕ) → overwritten (length old) bytes old ≡ old ++ bytes
at_end [] old = sym (append-nil old)
at_end (byte ∷ bytes) old =
    ap (λ (l : List ℕ). l ++ (byte ∷ bytes) ++ drop (length old + length (byte ∷ bytes)) old) (take_at old (replicate (length old) 0) (length old) refl)
    ∙ ap (λ (l : List ℕ). old ++ (byte ∷ bytes) ++ l) (drop_all (length old + length (byte ∷ bytes)) old (omega arith))
    ∙ append-nil (old ++ (byte ∷ bytes))

-- What is appended is written at the end of the file.
appended_here : (b : Bool) (place : ℕ) (bytes old : List ℕ) → (b ≡ true → place ≡ length old)
    → cond b (overwritten place bytes old) old ≡ cond b (old ++ bytes) old
appended_here true place bytes old h = ap (λ p. overwritten p bytes old) (h refl) ∙ at_end bytes old
appended_here false place bytes old h = refl

-- the file of a name is this one
long_here : (es : List Effect) (o : Option ℕ) (f : ℕ) → is_file f o ≡ true → long (contents es Live) o ≡ length (contents es Live f)
long_here es None f e = absurd cc
long_here es (Some g) f e = ap (λ h. length (contents es Live h)) (eqb-true g f e)

cut_here : (b : Bool) (count : ℕ) (old : List ℕ) → (b ≡ true → length old ≤ count) → old ≡ cond b (take count old) old
cut_here true count old h = sym (take_all count old (h refl))
cut_here false count old h = refl

holds_cut : (b : Bool) (writes : List Pending) (m count g f : ℕ) (x live : List ℕ) → holds_with writes f x ≡ live
    → (b ≡ false → is_file f (Some g) ≡ true → length live ≤ count)
    → holds_with (further writes (cond b (Some (record { call = call.Truncate m count; file = Some g; bytes = [] })) None)) f x ≡ cond (is_file f (Some g)) (take count live) live
holds_cut true writes m count g f x live h k =
    holds_more writes (record { call = call.Truncate m count; file = Some g; bytes = [] }) f x
    ∙ ap (held_with (record { call = call.Truncate m count; file = Some g; bytes = [] }) f) h
holds_cut false writes m count g f x live h k = h ∙ cut_here (is_file f (Some g)) count live (k refl)

holds_shortened : (es : List Effect) (writes : List Pending) (m count : ℕ) (o : Option ℕ) (f : ℕ) (x : List ℕ) → holds_with writes f x ≡ contents es Live f
    → holds_with (further writes (shortened m count (long (contents es Live) o) o)) f x ≡ cond (is_file f o) (take count (contents es Live f)) (contents es Live f)
holds_shortened es writes m count None f x h = h
holds_shortened es writes m count (Some g) f x h =
    holds_cut (nat_lt count (length (contents es Live g))) writes m count g f x (contents es Live f) h
    (λ less is. subst (λ k. k ≤ count) (long_here es (Some g) f is) (ltb-false count (length (contents es Live g)) less))

-- after a sync the writes to other files stay
holds_kept : (b : Bool) (p : Pending) (rest writes : List Pending) (f : ℕ) (x : List ℕ) → (b ≡ false → held_with p f x ≡ x)
    → ((y : List ℕ) → holds_with rest f y ≡ holds_with writes f y) → holds_with (cond b (p ∷ rest) rest) f x ≡ holds_with (p ∷ writes) f x
holds_kept true p rest writes f x h k = k (held_with p f x)
holds_kept false p rest writes f x h k = k x ∙ sym (ap (holds_with writes f) (h refl))

second_of : (a b : Bool) → not (a && b) ≡ false → b ≡ true
second_of true true e = refl
second_of true false e = absurd cc
second_of false b e = absurd cc

other_file : (f g : ℕ) (o : Option ℕ) → is_file g o ≡ true → is_file f (Some g) ≡ false → is_file f o ≡ false
other_file f g None is other = refl
other_file f g (Some h) is other = subst (λ k. nat_eq k f ≡ false) (sym (eqb-true h g is)) other

to_other : (o : Option ℕ) (p : Pending) (f : ℕ) (x : List ℕ) → is_file f o ≡ false → not (is_to o p) ≡ false → held_with p f x ≡ x
to_other None p f x other e = absurd cc
to_other (Some g) p f x other e = other_held p f x (other_file f g p.file (second_of (is_of_contents p.call) (is_file g p.file) e) other)

holds_unsynced : (o : Option ℕ) (f : ℕ) → is_file f o ≡ false → (writes : List Pending) (x : List ℕ)
    → holds_with (filter (λ p. not (is_to o p)) writes) f x ≡ holds_with writes f x
holds_unsynced o f other [] x = refl
holds_unsynced o f other (p ∷ writes) x =
    holds_kept (not (is_to o p)) p (filter (λ p. not (is_to o p)) writes) writes f x (to_other o p f x other) (holds_unsynced o f other writes)

holds_sync : (o : Option ℕ) (f : ℕ) (b : Bool) → b ≡ is_file f o → (writes : List Pending) (live lasting : List ℕ) → holds_with writes f lasting ≡ live
    → holds_with (filter (λ p. not (is_to o p)) writes) f (cond b live lasting) ≡ live
holds_sync None f true is writes live lasting h = absurd cc
holds_sync (Some g) f true is writes live lasting h =
    subst (λ k. holds_with (filter (λ p. not (is_to (Some k) p)) writes) f live ≡ live) (sym (eqb-true g f (sym is))) (holds_same (filter (λ p. not (is_to (Some f) p)) writes) f live (synced_untouched writes f))
holds_sync o f false is writes live lasting h = holds_unsynced o f (sym is) writes lasting ∙ h

-- a sync of names leaves them
holds_contents : (f : ℕ) (writes : List Pending) (x : List ℕ) → holds_with (filter (λ p. is_of_contents p.call) writes) f x ≡ holds_with writes f x
holds_contents f [] x = refl
holds_contents f (p ∷ writes) x =
    holds_kept (is_of_contents p.call) p (filter (λ p. is_of_contents p.call) writes) writes f x (names_alone_held p f x) (holds_contents f writes)

-- no write is to a file that isn't made
unmade : (o : Option ℕ) (used f : ℕ) → InUse used o → used ≤ f → is_file f o ≡ false
unmade None used f h past = refl
unmade (Some g) used f h past = ne_eqb g f (λ e. omega (arith, h, past, e))

holds_unmade : (writes : List Pending) (used f : ℕ) (x : List ℕ) → AreOfFiles writes used → used ≤ f → holds_with writes f x ≡ x
holds_unmade [] used f x h past = refl
holds_unmade (p ∷ writes) used f x h past = ap (holds_with writes f) (other_held p f x (unmade p.file used f h.0 past)) ∙ holds_unmade writes used f x h.1 past

holds_created : (es : List Effect) (m f : ℕ) (b : Bool) (live lasting : List ℕ) → b ≡ nat_eq f (created es)
    → (b ≡ false → holds_with (pending es) f lasting ≡ live)
    → holds_with (pending es ++ renames (call.Create m) (Some (created es)) ∷ []) f (cond b [] lasting) ≡ cond b [] live
holds_created es m f true live lasting is h =
    holds_named (pending es) (call.Create m) (Some (created es)) f [] [] refl
    (subst (λ k. holds_with (pending es) k [] ≡ []) (sym (eqb-true f (created es) (sym is))) (holds_unmade (pending es) (created es) (created es) [] (pending_of_files es) (omega arith)))
holds_created es m f false live lasting is h = holds_named (pending es) (call.Create m) (Some (created es)) f lasting live refl (h refl)

pub all_contents : (es : List Effect) (f : ℕ) → f < created es → holds_with (pending es) f (contents es Lasting f) ≡ contents es Live f
all_contents [] f made = refl
all_contents (Create m ∷ es) f made =
    holds_created es m f (nat_eq f (created es)) (contents es Live f) (contents es Lasting f) refl
    (λ other. all_contents es f (omega (arith, made, eqb-false f (created es) other)))
all_contents (Append m bytes ∷ es) f made =
    let o : Option ℕ = leads es Live m in
    holds_written (pending es) (call.Append m (long (contents es Live) o)) bytes o f (contents es Lasting f) (contents es Live f) refl (all_contents es f made)
    ∙ appended_here (is_file f o) (long (contents es Live) o) bytes (contents es Live f) (long_here es o f)
all_contents (Write m place bytes ∷ es) f made =
    holds_written (pending es) (call.WriteAt m place) bytes (leads es Live m) f (contents es Lasting f) (contents es Live f) refl (all_contents es f made)
all_contents (Truncate m count ∷ es) f made = holds_shortened es (pending es) m count (leads es Live m) f (contents es Lasting f) (all_contents es f made)
all_contents (Sync m ∷ es) f made =
    holds_sync (leads es Live m) f (is_file f (leads es Live m)) refl (pending es) (contents es Live f) (contents es Lasting f) (all_contents es f made)
all_contents (Rename a b ∷ es) f made =
    holds_named (pending es) (call.Rename a b) (leads es Live a) f (contents es Lasting f) (contents es Live f) refl (all_contents es f made)
all_contents (Link a b ∷ es) f made =
    holds_named (pending es) (call.Link a b) (leads es Live a) f (contents es Lasting f) (contents es Live f) refl (all_contents es f made)
all_contents (Unlink m ∷ es) f made = holds_named (pending es) (call.Unlink m) None f (contents es Lasting f) (contents es Live f) refl (all_contents es f made)
all_contents (SyncDir ∷ es) f made = holds_contents f (pending es) (contents es Lasting f) ∙ all_contents es f made
all_contents (PowerCut keep ∷ es) f made = refl

-- ---- laws of power cuts

pub all_kept_names : (es : List Effect) (keep : List Bool) (side : Side) (n : ℕ) → kept keep (pending es) ≡ pending es → leads (PowerCut keep ∷ es) side n ≡ leads es Live n
all_kept_names es keep side n all = ap (λ (writes : List Pending). leads_with writes n (leads es Lasting n)) all ∙ all_names es n

pub all_kept_contents : (es : List Effect) (keep : List Bool) (side : Side) (f : ℕ) → kept keep (pending es) ≡ pending es → f < created es
    → contents (PowerCut keep ∷ es) side f ≡ contents es Live f
all_kept_contents es keep side f all made = ap (λ (writes : List Pending). holds_with writes f (contents es Lasting f)) all ∙ all_contents es f made

pub none_kept_names : (es : List Effect) (keep : List Bool) (side : Side) (n : ℕ) → kept keep (pending es) ≡ [] → leads (PowerCut keep ∷ es) side n ≡ leads es Lasting n
none_kept_names es keep side n none = ap (λ (writes : List Pending). leads_with writes n (leads es Lasting n)) none

pub none_kept_contents : (es : List Effect) (keep : List Bool) (side : Side) (f : ℕ) → kept keep (pending es) ≡ []
    → contents (PowerCut keep ∷ es) side f ≡ contents es Lasting f
none_kept_contents es keep side f none = ap (λ (writes : List Pending). holds_with writes f (contents es Lasting f)) none
