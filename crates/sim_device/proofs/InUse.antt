-- Names lead to files that were created, and pending writes are of such files.
use Rattle.std.proofs.Common.{◌≡◌, ℕ, ◌+◌, ◌<◌, ◌≤◌, ◌==◌, not, nat_lt, Bool, true, false, cond, List, [], ◌∷◌, ◌++◌, filter, Option, Some, None, option_map, IfSome, refl, ap, sym, subst, ◌∙◌, arith}
use Rattle.sim_device.specs.declared.pending.Call.{Call}
use Rattle.sim_device.specs.declared.pending.Call.TheVariants as call
use Rattle.sim_device.specs.FileEffects.{Effect, Create, Append, Write, Truncate, Sync, Rename, Link, Unlink, SyncDir, PowerCut, Side, Live, Lasting, created, leads, contents, pending, held}
use Rattle.sim_device.specs.Pending.{Pending, kept, further, written, shortened, long, renames, is_to, is_of_contents, led_by, leads_with}
use Rattle.sim_device.specs.Disk.{Disk, StandsFor, held_at, reads}
use Rattle.sim_device.specs.inside.Laid.{AreOfFiles}

abbrev pub InUse : ℕ → Option ℕ → Type 0
InUse used o = IfSome o (λ f. f < used)

more_in_use : (o : Option ℕ) (used more : ℕ) → used ≤ more → InUse used o → InUse more o
more_in_use None used more few h = tt
more_in_use (Some f) used more few h = omega (arith, few, h)

either_in_use : (b : Bool) (x y : Option ℕ) (used : ℕ) → InUse used x → InUse used y → InUse used (cond b x y)
either_in_use true x y used h k = h
either_in_use false x y used h k = k

-- ---- lists of writes

more_files : (writes : List Pending) (used more : ℕ) → used ≤ more → AreOfFiles writes used → AreOfFiles writes more
more_files [] used more few h = tt
more_files (p ∷ writes) used more few h = (more_in_use p.file used more few h.0, more_files writes used more few h.1)

one_more : (writes : List Pending) (p : Pending) (used : ℕ) → AreOfFiles writes used → InUse used p.file → AreOfFiles (writes ++ p ∷ []) used
one_more [] p used h k = (k, tt)
one_more (q ∷ writes) p used h k = (h.0, one_more writes p used h.1 k)

fewer : (test : Pending → Bool) (writes : List Pending) (used : ℕ) → AreOfFiles writes used → AreOfFiles (filter test writes) used
fewer test [] used h = tt
fewer test (p ∷ writes) used h = by_test (test p) p (filter test writes) used h.0 (fewer test writes used h.1)
  where
    by_test : (b : Bool) (p : Pending) (writes : List Pending) (used : ℕ) → InUse used p.file → AreOfFiles writes used → AreOfFiles (cond b (p ∷ writes) writes) used
    by_test true p writes used k h = (k, h)
    by_test false p writes used k h = h

written_more : (writes : List Pending) (c : Call) (bytes : List ℕ) (o : Option ℕ) (used : ℕ) → AreOfFiles writes used → InUse used o
    → AreOfFiles (further writes (written c bytes o)) used
written_more writes c bytes None used h k = h
written_more writes c [] (Some f) used h k = h
written_more writes c (byte ∷ bytes) (Some f) used h k = one_more writes (record { call = c; file = Some f; bytes = byte ∷ bytes }) used h k

shortened_more : (writes : List Pending) (n count size : ℕ) (o : Option ℕ) (used : ℕ) → AreOfFiles writes used → InUse used o
    → AreOfFiles (further writes (shortened n count size o)) used
shortened_more writes n count size None used h k = h
shortened_more writes n count size (Some f) used h k =
    by_test (nat_lt count size) writes (record { call = call.Truncate n count; file = Some f; bytes = [] }) used h k
  where
    by_test : (b : Bool) (writes : List Pending) (p : Pending) (used : ℕ) → AreOfFiles writes used → InUse used p.file → AreOfFiles (further writes (cond b (Some p) None)) used
    by_test true writes p used h k = one_more writes p used h k
    by_test false writes p used h k = h

kept_of_files : (keep : List Bool) (writes : List Pending) (used : ℕ) → AreOfFiles writes used → AreOfFiles (kept keep writes) used
kept_of_files [] writes used h = tt
kept_of_files (b ∷ keep) [] used h = tt
kept_of_files (true ∷ keep) (p ∷ writes) used h = (h.0, kept_of_files keep writes used h.1)
kept_of_files (false ∷ keep) (p ∷ writes) used h = kept_of_files keep writes used h.1

-- ---- what a name leads to once the names last

led_in_use : (c : Call) (file : Option ℕ) (n : ℕ) (old : Option ℕ) (used : ℕ) → InUse used file → InUse used old → InUse used (led_by c file n old)
led_in_use (call.Create m) file n old used h k = either_in_use (n == m) file old used h k
led_in_use (call.Append m place) file n old used h k = k
led_in_use (call.WriteAt m place) file n old used h k = k
led_in_use (call.Truncate m count) file n old used h k = k
led_in_use (call.Rename a b) file n old used h k = either_in_use (n == b) file (cond (n == a) None old) used h (either_in_use (n == a) None old used tt k)
led_in_use (call.Link a b) file n old used h k = either_in_use (n == b) file old used h k
led_in_use (call.Unlink m) file n old used h k = either_in_use (n == m) None old used tt k

leads_in_use : (writes : List Pending) (n : ℕ) (old : Option ℕ) (used : ℕ) → AreOfFiles writes used → InUse used old → InUse used (leads_with writes n old)
leads_in_use [] n old used h k = k
leads_in_use (p ∷ writes) n old used h k = leads_in_use writes n (led_by p.call p.file n old) used h.1 (led_in_use p.call p.file n old used h.0 k)

-- ---- each list of effects

mutual
  pub names_in_use : (es : List Effect) (side : Side) (n : ℕ) → InUse (created es) (leads es side n)
  names_in_use [] side n = tt
  names_in_use (Create m ∷ es) Live n =
      either_in_use (n == m) (Some (created es)) (leads es Live n) (created es + 1) (omega arith)
      (more_in_use (leads es Live n) (created es) (created es + 1) (omega arith) (names_in_use es Live n))
  names_in_use (Create m ∷ es) Lasting n = more_in_use (leads es Lasting n) (created es) (created es + 1) (omega arith) (names_in_use es Lasting n)
  names_in_use (Append m bytes ∷ es) side n = names_in_use es side n
  names_in_use (Write m place bytes ∷ es) side n = names_in_use es side n
  names_in_use (Truncate m count ∷ es) side n = names_in_use es side n
  names_in_use (Sync m ∷ es) side n = names_in_use es side n
  names_in_use (Rename a b ∷ es) Live n =
      either_in_use (n == b) (leads es Live a) (cond (n == a) None (leads es Live n)) (created es) (names_in_use es Live a)
      (either_in_use (n == a) None (leads es Live n) (created es) tt (names_in_use es Live n))
  names_in_use (Rename a b ∷ es) Lasting n = names_in_use es Lasting n
  names_in_use (Link a b ∷ es) Live n = either_in_use (n == b) (leads es Live a) (leads es Live n) (created es) (names_in_use es Live a) (names_in_use es Live n)
  names_in_use (Link a b ∷ es) Lasting n = names_in_use es Lasting n
  names_in_use (Unlink m ∷ es) Live n = either_in_use (n == m) None (leads es Live n) (created es) tt (names_in_use es Live n)
  names_in_use (Unlink m ∷ es) Lasting n = names_in_use es Lasting n
  names_in_use (SyncDir ∷ es) Live n = names_in_use es Live n
  names_in_use (SyncDir ∷ es) Lasting n = names_in_use es Live n
  names_in_use (PowerCut keep ∷ es) side n =
      leads_in_use (kept keep (pending es)) n (leads es Lasting n) (created es) (kept_of_files keep (pending es) (created es) (pending_of_files es)) (names_in_use es Lasting n)

  pub pending_of_files : (es : List Effect) → AreOfFiles (pending es) (created es)
  pending_of_files [] = tt
  pending_of_files (Create m ∷ es) =
      one_more (pending es) (renames (call.Create m) (Some (created es))) (created es + 1)
      (more_files (pending es) (created es) (created es + 1) (omega arith) (pending_of_files es)) (omega arith)
  pending_of_files (Append m bytes ∷ es) =
      written_more (pending es) (call.Append m (long (contents es Live) (leads es Live m))) bytes (leads es Live m) (created es) (pending_of_files es)
      (names_in_use es Live m)
  pending_of_files (Write m place bytes ∷ es) =
      written_more (pending es) (call.WriteAt m place) bytes (leads es Live m) (created es) (pending_of_files es) (names_in_use es Live m)
  pending_of_files (Truncate m count ∷ es) =
      shortened_more (pending es) m count (long (contents es Live) (leads es Live m)) (leads es Live m) (created es) (pending_of_files es) (names_in_use es Live m)
  pending_of_files (Sync m ∷ es) = fewer (λ p. not (is_to (leads es Live m) p)) (pending es) (created es) (pending_of_files es)
  pending_of_files (Rename a b ∷ es) =
      one_more (pending es) (renames (call.Rename a b) (leads es Live a)) (created es) (pending_of_files es) (names_in_use es Live a)
  pending_of_files (Link a b ∷ es) = one_more (pending es) (renames (call.Link a b) (leads es Live a)) (created es) (pending_of_files es) (names_in_use es Live a)
  pending_of_files (Unlink m ∷ es) = one_more (pending es) (renames (call.Unlink m) None) (created es) (pending_of_files es) tt
  pending_of_files (SyncDir ∷ es) = fewer (λ p. is_of_contents p.call) (pending es) (created es) (pending_of_files es)
  pending_of_files (PowerCut keep ∷ es) = tt

-- a name leads to a file that was created
pub leads_created : (es : List Effect) (side : Side) (n f : ℕ) → leads es side n ≡ Some f → f < created es
leads_created es side n f e = subst (InUse (created es)) e (names_in_use es side n)

-- and so it reads on a device what its file holds
pub reads_held : (d : Disk) (es : List Effect) (n : ℕ) → StandsFor d es → reads d n ≡ held es Live n
reads_held d es n k = ap (option_map (λ f. (held_at d.files f).live)) (k.live n) ∙ by_file (leads es Live n) (names_in_use es Live n)
  where
    by_file : (o : Option ℕ) → InUse (created es) o → option_map (λ f. (held_at d.files f).live) o ≡ option_map (contents es Live) o
    by_file None h = refl
    by_file (Some f) h = ap (λ (x : List ℕ). Some x) (k.now f (subst (λ used. f < used) (sym k.made) h))
