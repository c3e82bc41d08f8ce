-- Laws of effects.
use Rattle.std.proofs.Common.{◌≡◌, ℕ, ◌<◌, ◌≤◌, ◌==◌, not, Bool, true, false, cond, List, [], ◌∷◌, ◌++◌, take, filter, Some, None, refl, ap, sym, subst, ◌∙◌, arith}
use Rattle.std.proofs.lemmas.Bool.{eq-eqb, ne_eqb}
use Rattle.std.proofs.Common.{nat_eq}
use Rattle.sim_device.specs.declared.pending.Call.TheVariants as call
use Rattle.sim_device.specs.Later.{KeepsNone, IsUntouched, HasNoSyncDir, IsUnnamed, IsUnsynced}
use Rattle.sim_device.specs.FileEffects.{Effect, Create, Append, Write, Truncate, Sync, Rename, Link, Unlink, SyncDir, PowerCut, Live, Lasting, created, leads, contents, pending}
use Rattle.sim_device.specs.Pending.{Pending, is_file, overwritten, is_to, is_of_contents, kept, renames, long}
use Rattle.sim_device.proofs.InUse.{leads_created}
use Rattle.sim_device.proofs.Untouched.{Untouched, untouched_push, untouched_filter, untouched_kept, synced_untouched, written_untouched, shortened_untouched, holds_same}
use Rattle.sim_device.proofs.PendingLaws.{all_kept_names, all_kept_contents, none_kept_names, none_kept_contents}

created_more : (later before : List Effect) → created before ≤ created (later ++ before)
created_more [] before = omega arith
created_more (Create m ∷ later) before = omega (arith, created_more later before)
created_more (Append m bytes ∷ later) before = created_more later before
created_more (Write m place bytes ∷ later) before = created_more later before
created_more (Truncate m count ∷ later) before = created_more later before
created_more (Sync m ∷ later) before = created_more later before
created_more (Rename a b ∷ later) before = created_more later before
created_more (Link a b ∷ later) before = created_more later before
created_more (Unlink m ∷ later) before = created_more later before
created_more (SyncDir ∷ later) before = created_more later before
created_more (PowerCut keep ∷ later) before = created_more later before

-- a power cut leaves what lasts of a file to which no write is pending
left_untouched : (es : List Effect) (keep : List Bool) (f : ℕ) → Untouched (pending es) f → contents (PowerCut keep ∷ es) Live f ≡ contents es Lasting f
left_untouched es keep f u = holds_same (kept keep (pending es)) f (contents es Lasting f) (untouched_kept keep (pending es) f u)

-- answers of which none keeps leave no write
pub none_kept : (keep : List Bool) (writes : List Pending) → KeepsNone keep → kept keep writes ≡ []
none_kept [] writes h = refl
none_kept (true ∷ keep) writes h = absurd cc
none_kept (false ∷ keep) [] h = refl
none_kept (false ∷ keep) (p ∷ writes) h = none_kept keep writes h.1

-- what a file holds, now and lasting, with no write to it pending
record Holds (es : List Effect) (f : ℕ) (x : List ℕ) : Type 0 where
  live : contents es Live f ≡ x
  lasting : contents es Lasting f ≡ x
  untouched : Untouched (pending es) f

sync_case : (b : Bool) (x y z : List ℕ) → x ≡ z → y ≡ z → cond b x y ≡ z
sync_case true x y z p q = p
sync_case false x y z p q = q

stays : (later before : List Effect) (f : ℕ) (x : List ℕ) → f < created before → IsUntouched f later before → Holds before f x → Holds (later ++ before) f x
stays [] before f x old u h = h
stays (Create m ∷ later) before f x old u h =
    let es : List Effect = later ++ before in
    let k = stays later before f x old u h in
    let new : nat_eq f (created es) ≡ false = ne_eqb f (created es) (λ e. omega (arith, created_more later before)) in
    record {
      live = ap (λ b. cond b [] (contents es Live f)) new ∙ k.live;
      lasting = ap (λ b. cond b [] (contents es Lasting f)) new ∙ k.lasting;
      untouched = untouched_push (pending es) (renames (call.Create m) (Some (created es))) f k.untouched refl;
    }
stays (Append m bytes ∷ later) before f x old u h =
    let es : List Effect = later ++ before in
    let k = stays later before f x old u.1 h in
    record {
      live = ap (λ b. cond b (contents es Live f ++ bytes) (contents es Live f)) u.0 ∙ k.live;
      lasting = k.lasting;
      untouched = written_untouched (pending es) (call.Append m (long (contents es Live) (leads es Live m))) bytes (leads es Live m) f k.untouched u.0;
    }
stays (Write m place bytes ∷ later) before f x old u h =
    let es : List Effect = later ++ before in
    let k = stays later before f x old u.1 h in
    record {
      live = ap (λ b. cond b (overwritten place bytes (contents es Live f)) (contents es Live f)) u.0 ∙ k.live;
      lasting = k.lasting;
      untouched = written_untouched (pending es) (call.WriteAt m place) bytes (leads es Live m) f k.untouched u.0;
    }
stays (Truncate m count ∷ later) before f x old u h =
    let es : List Effect = later ++ before in
    let k = stays later before f x old u.1 h in
    record {
      live = ap (λ b. cond b (take count (contents es Live f)) (contents es Live f)) u.0 ∙ k.live;
      lasting = k.lasting;
      untouched = shortened_untouched (pending es) m count (long (contents es Live) (leads es Live m)) (leads es Live m) f k.untouched u.0;
    }
stays (Sync m ∷ later) before f x old u h =
    let es : List Effect = later ++ before in
    let k = stays later before f x old u h in
    record {
      live = k.live;
      lasting = sync_case (is_file f (leads es Live m)) (contents es Live f) (contents es Lasting f) x k.live k.lasting;
      untouched = untouched_filter (λ p. not (is_to (leads es Live m) p)) (pending es) f k.untouched;
    }
stays (Rename a b ∷ later) before f x old u h =
    let es : List Effect = later ++ before in
    let k = stays later before f x old u h in
    record { live = k.live; lasting = k.lasting; untouched = untouched_push (pending es) (renames (call.Rename a b) (leads es Live a)) f k.untouched refl }
stays (Link a b ∷ later) before f x old u h =
    let es : List Effect = later ++ before in
    let k = stays later before f x old u h in
    record { live = k.live; lasting = k.lasting; untouched = untouched_push (pending es) (renames (call.Link a b) (leads es Live a)) f k.untouched refl }
stays (Unlink m ∷ later) before f x old u h =
    let k = stays later before f x old u h in
    record { live = k.live; lasting = k.lasting; untouched = untouched_push (pending (later ++ before)) (renames (call.Unlink m) None) f k.untouched refl }
stays (SyncDir ∷ later) before f x old u h =
    let k = stays later before f x old u h in
    record { live = k.live; lasting = k.lasting; untouched = untouched_filter (λ p. is_of_contents p.call) (pending (later ++ before)) f k.untouched }
stays (PowerCut keep ∷ later) before f x old u h =
    let es : List Effect = later ++ before in
    let k = stays later before f x old u h in
    let left : contents (PowerCut keep ∷ es) Live f ≡ x = left_untouched es keep f k.untouched ∙ k.lasting in
    record { live = left; lasting = left; untouched = tt }

pub synced_stays : (later before : List Effect) (n f : ℕ) (keep : List Bool) → leads before Live n ≡ Some f → IsUntouched f later (Sync n ∷ before)
    → contents (PowerCut keep ∷ (later ++ Sync n ∷ before)) Live f ≡ contents before Live f
synced_stays later before n f keep at u =
    let synced : List Effect = Sync n ∷ before in
    let last : contents synced Lasting f ≡ contents before Live f =
    ap (λ o. cond (is_file f o) (contents before Live f) (contents before Lasting f)) at ∙ ap (λ b. cond b (contents before Live f) (contents before Lasting f)) (eq-eqb f f refl)
    in
    let none : Untouched (pending synced) f =
    subst (λ o. Untouched (filter (λ p. not (is_to o p)) (pending before)) f) (sym at) (synced_untouched (pending before) f) in
    let k = stays later synced f (contents before Live f) (leads_created before Live n f at) u (record { live = refl; lasting = last; untouched = none }) in
    left_untouched (later ++ synced) keep f k.untouched ∙ k.lasting

pub names_stay : (later before : List Effect) (n : ℕ) → HasNoSyncDir later → leads (later ++ before) Lasting n ≡ leads before Lasting n
names_stay [] before n u = refl
names_stay (Create m ∷ later) before n u = names_stay later before n u
names_stay (Append m bytes ∷ later) before n u = names_stay later before n u
names_stay (Write m place bytes ∷ later) before n u = names_stay later before n u
names_stay (Truncate m count ∷ later) before n u = names_stay later before n u
names_stay (Sync m ∷ later) before n u = names_stay later before n u
names_stay (Rename a b ∷ later) before n u = names_stay later before n u
names_stay (Link a b ∷ later) before n u = names_stay later before n u
names_stay (Unlink m ∷ later) before n u = names_stay later before n u
names_stay (SyncDir ∷ later) before n u = absurd u
names_stay (PowerCut keep ∷ later) before n u =
    none_kept_names (later ++ before) keep Lasting n (none_kept keep (pending (later ++ before)) u.0) ∙ names_stay later before n u.1

pub names_alone : (later before : List Effect) (n : ℕ) → IsUnnamed n later → leads (later ++ before) Live n ≡ leads before Live n
names_alone [] before n u = refl
names_alone (Create m ∷ later) before n u = ap (λ b. cond b (Some (created (later ++ before))) (leads (later ++ before) Live n)) u.0 ∙ names_alone later before n u.1
names_alone (Append m bytes ∷ later) before n u = names_alone later before n u
names_alone (Write m place bytes ∷ later) before n u = names_alone later before n u
names_alone (Truncate m count ∷ later) before n u = names_alone later before n u
names_alone (Sync m ∷ later) before n u = names_alone later before n u
names_alone (Rename a b ∷ later) before n u =
    ap (λ x. cond x (leads (later ++ before) Live a) (cond (n == a) None (leads (later ++ before) Live n))) u.1.0
    ∙ ap (λ x. cond x None (leads (later ++ before) Live n)) u.0
    ∙ names_alone later before n u.1.1
names_alone (Link a b ∷ later) before n u = ap (λ x. cond x (leads (later ++ before) Live a) (leads (later ++ before) Live n)) u.0 ∙ names_alone later before n u.1
names_alone (Unlink m ∷ later) before n u = ap (λ x. cond x None (leads (later ++ before) Live n)) u.0 ∙ names_alone later before n u.1
names_alone (SyncDir ∷ later) before n u = names_alone later before n u
names_alone (PowerCut keep ∷ later) before n u = absurd u

pub contents_stay : (later before : List Effect) (f : ℕ) → f < created before → IsUnsynced f later before → contents (later ++ before) Lasting f ≡ contents before Lasting f
contents_stay [] before f old u = refl
contents_stay (Create m ∷ later) before f old u =
    let new : nat_eq f (created (later ++ before)) ≡ false = ne_eqb f (created (later ++ before)) (λ e. omega (arith, created_more later before)) in
    ap (λ b. cond b [] (contents (later ++ before) Lasting f)) new ∙ contents_stay later before f old u
contents_stay (Append m bytes ∷ later) before f old u = contents_stay later before f old u
contents_stay (Write m place bytes ∷ later) before f old u = contents_stay later before f old u
contents_stay (Truncate m count ∷ later) before f old u = contents_stay later before f old u
contents_stay (Sync m ∷ later) before f old u = ap (λ b. cond b (contents (later ++ before) Live f) (contents (later ++ before) Lasting f)) u.0 ∙ contents_stay later before f old u.1
contents_stay (Rename a b ∷ later) before f old u = contents_stay later before f old u
contents_stay (Link a b ∷ later) before f old u = contents_stay later before f old u
contents_stay (Unlink m ∷ later) before f old u = contents_stay later before f old u
contents_stay (SyncDir ∷ later) before f old u = contents_stay later before f old u
contents_stay (PowerCut keep ∷ later) before f old u =
    none_kept_contents (later ++ before) keep Lasting f (none_kept keep (pending (later ++ before)) u.0) ∙ contents_stay later before f old u.1

pub link_shares : (before : List Effect) (from to : ℕ) → leads (Link from to ∷ before) Live to ≡ leads before Live from
link_shares before from to = ap (λ b. cond b (leads before Live from) (leads before Live to)) (eq-eqb to to refl)

pub create_names : (before : List Effect) (n : ℕ) → leads (Create n ∷ before) Live n ≡ Some (created before)
create_names before n = ap (λ b. cond b (Some (created before)) (leads before Live n)) (eq-eqb n n refl)

pub create_empties : (before : List Effect) (n : ℕ) → contents (Create n ∷ before) Live (created before) ≡ []
create_empties before n = ap (λ b. cond b [] (contents before Live (created before))) (eq-eqb (created before) (created before) refl)

pub append_adds : (before : List Effect) (n f : ℕ) (bytes : List ℕ) → leads before Live n ≡ Some f → contents (Append n bytes ∷ before) Live f ≡ contents before Live f ++ bytes
append_adds before n f bytes at =
    ap (λ o. cond (is_file f o) (contents before Live f ++ bytes) (contents before Live f)) at
    ∙ ap (λ b. cond b (contents before Live f ++ bytes) (contents before Live f)) (eq-eqb f f refl)

pub truncate_cuts : (before : List Effect) (n f count : ℕ) → leads before Live n ≡ Some f → contents (Truncate n count ∷ before) Live f ≡ take count (contents before Live f)
truncate_cuts before n f count at =
    ap (λ o. cond (is_file f o) (take count (contents before Live f)) (contents before Live f)) at
    ∙ ap (λ b. cond b (take count (contents before Live f)) (contents before Live f)) (eq-eqb f f refl)

pub write_overwrites : (before : List Effect) (n f place : ℕ) (bytes : List ℕ) → leads before Live n ≡ Some f
    → contents (Write n place bytes ∷ before) Live f ≡ overwritten place bytes (contents before Live f)
write_overwrites before n f place bytes at =
    ap (λ o. cond (is_file f o) (overwritten place bytes (contents before Live f)) (contents before Live f)) at
    ∙ ap (λ b. cond b (overwritten place bytes (contents before Live f)) (contents before Live f)) (eq-eqb f f refl)

-- what a kept append was followed by, once it is synced, lies behind it
pub built_on : (before : List Effect) (n f : ℕ) (first second : List ℕ) (keep again : List Bool) → leads before Live n ≡ Some f
    → kept keep (pending (Append n first ∷ before)) ≡ pending (Append n first ∷ before)
    → contents (PowerCut again ∷ Sync n ∷ Append n second ∷ PowerCut keep ∷ Append n first ∷ before) Live f ≡ contents before Live f ++ first ++ second
built_on before n f first second keep again at all =
    let written : List Effect = Append n first ∷ before in
    let left : List Effect = PowerCut keep ∷ written in
    let here : leads left Live n ≡ Some f = all_kept_names written keep Live n all ∙ at in
    synced_stays [] (Append n second ∷ left) n f again here tt
    ∙ append_adds left n f second here
    ∙ ap (λ (l : List ℕ). l ++ second) (all_kept_contents written keep Live f all (leads_created before Live n f at) ∙ append_adds before n f first at)
