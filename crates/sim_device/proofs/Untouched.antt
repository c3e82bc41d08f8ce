-- Pending writes that leave the contents of a file as they are.
use Rattle.std.proofs.Common.{◌≡◌, ℕ, nat_lt, ◌&&◌, not, Bool, true, false, cond, List, [], ◌∷◌, ◌++◌, filter, Option, Some, None, refl, ap, ◌∙◌}
use Rattle.sim_device.specs.declared.pending.Call.{Call}
use Rattle.sim_device.specs.declared.pending.Call.TheVariants as call
use Rattle.sim_device.specs.Pending.{Pending, kept, is_to, is_file, is_of_contents, held_by, holds_with, further, written, shortened}

-- none of these writes changes what the file holds
abbrev pub Untouched : List Pending → ℕ → Type 0
Untouched [] f = Unit {0}
Untouched (p ∷ ps) f = (is_to (Some f) p ≡ false) × Untouched ps f

pub untouched_push : (ps : List Pending) (q : Pending) (f : ℕ) → Untouched ps f → is_to (Some f) q ≡ false → Untouched (ps ++ q ∷ []) f
untouched_push [] q f u h = (h, tt)
untouched_push (p ∷ ps) q f u h = (u.0, untouched_push ps q f u.1 h)

untouched_case : (b : Bool) (p : Pending) (ps : List Pending) (f : ℕ) → is_to (Some f) p ≡ false → Untouched ps f → Untouched (cond b (p ∷ ps) ps) f
untouched_case true p ps f h u = (h, u)
untouched_case false p ps f h u = u

pub untouched_filter : (t : Pending → Bool) (ps : List Pending) (f : ℕ) → Untouched ps f → Untouched (filter t ps) f
untouched_filter t [] f u = tt
untouched_filter t (p ∷ ps) f u = untouched_case (t p) p (filter t ps) f u.0 (untouched_filter t ps f u.1)

synced_case : (b : Bool) (p : Pending) (ps : List Pending) (f : ℕ) → is_to (Some f) p ≡ b → Untouched ps f → Untouched (cond (not b) (p ∷ ps) ps) f
synced_case true p ps f h u = u
synced_case false p ps f h u = (h, u)

-- after its sync no write to a file is pending
pub synced_untouched : (ps : List Pending) (f : ℕ) → Untouched (filter (λ p. not (is_to (Some f) p)) ps) f
synced_untouched [] f = tt
synced_untouched (p ∷ ps) f = synced_case (is_to (Some f) p) p (filter (λ q. not (is_to (Some f) q)) ps) f refl (synced_untouched ps f)

pub untouched_kept : (keep : List Bool) (ps : List Pending) (f : ℕ) → Untouched ps f → Untouched (kept keep ps) f
untouched_kept [] ps f u = tt
untouched_kept (b ∷ keep) [] f u = tt
untouched_kept (true ∷ keep) (p ∷ ps) f u = (u.0, untouched_kept keep ps f u.1)
untouched_kept (false ∷ keep) (p ∷ ps) f u = untouched_kept keep ps f u.1

-- nor does a write to another file
elsewhere : (a b : Bool) → b ≡ false → (a && b) ≡ false
elsewhere true b h = h
elsewhere false b h = refl

pub written_untouched : (ps : List Pending) (c : Call) (bytes : List ℕ) (o : Option ℕ) (f : ℕ) → Untouched ps f → is_file f o ≡ false
    → Untouched (further ps (written c bytes o)) f
written_untouched ps c bytes None f u h = u
written_untouched ps c [] (Some g) f u h = u
written_untouched ps c (byte ∷ bytes) (Some g) f u h =
    untouched_push ps (record { call = c; file = Some g; bytes = byte ∷ bytes }) f u (elsewhere (is_of_contents c) (is_file f (Some g)) h)

pub shortened_untouched : (ps : List Pending) (n count size : ℕ) (o : Option ℕ) (f : ℕ) → Untouched ps f → is_file f o ≡ false
    → Untouched (further ps (shortened n count size o)) f
shortened_untouched ps n count size None f u h = u
shortened_untouched ps n count size (Some g) f u h = by_test (nat_lt count size) ps (record { call = call.Truncate n count; file = Some g; bytes = [] }) f u h
  where
    by_test : (b : Bool) (ps : List Pending) (q : Pending) (f : ℕ) → Untouched ps f → is_to (Some f) q ≡ false → Untouched (further ps (cond b (Some q) None)) f
    by_test true ps q f u h = untouched_push ps q f u h
    by_test false ps q f u h = u

pub held_case : (b : Bool) (x : List ℕ) → cond b x x ≡ x
held_case true x = refl
held_case false x = refl

held_same : (c : Call) (b : Bool) (bytes x : List ℕ) → (is_of_contents c && b) ≡ false → cond b (held_by c bytes x) x ≡ x
held_same (call.Create m) b bytes x e = held_case b x
held_same (call.Append m place) b bytes x e = ap (λ t. cond t (held_by (call.Append m place) bytes x) x) e
held_same (call.WriteAt m place) b bytes x e = ap (λ t. cond t (held_by (call.WriteAt m place) bytes x) x) e
held_same (call.Truncate m count) b bytes x e = ap (λ t. cond t (held_by (call.Truncate m count) bytes x) x) e
held_same (call.Rename a d) b bytes x e = held_case b x
held_same (call.Link a d) b bytes x e = held_case b x
held_same (call.Unlink m) b bytes x e = held_case b x

pub held_untouched : (p : Pending) (f : ℕ) (x : List ℕ) → is_to (Some f) p ≡ false → cond (is_file f p.file) (held_by p.call p.bytes x) x ≡ x
held_untouched p f x u = held_same p.call (is_file f p.file) p.bytes x u

pub holds_same : (ps : List Pending) (f : ℕ) (x : List ℕ) → Untouched ps f → holds_with ps f x ≡ x
holds_same [] f x u = refl
holds_same (p ∷ ps) f x u = ap (holds_with ps f) (held_same p.call (is_file f p.file) p.bytes x u.0) ∙ holds_same ps f x u.1
