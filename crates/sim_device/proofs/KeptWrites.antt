-- Writes laid one after another.
use Rattle.std.proofs.Common.{◌≡◌, ℕ, zero, suc, ◌+◌, ◌<◌, ◌≤◌, Bool, true, false, cond, List, [], ◌∷◌, drop, get_or, length, IfSome, refl, ap, sym, subst, ◌∙◌, add-one, arith}
use Rattle.sim_device.specs.Disk.{Disk, Held}
use Rattle.sim_device.specs.declared.names.Entry.{Entry}
use Rattle.sim_device.specs.Pending.{Pending, kept, leads_with, holds_with}
use Rattle.sim_device.specs.inside.Laid.{Lays, AreOfFiles}

-- nothing is laid
pub lays_none : (d : Disk) → Lays d d []
lays_none d = record { names = λ n. refl; made = refl; files = λ f within. refl }

-- one write, and then others
pub lays_then : (a b c : Disk) (p : Pending) (writes : List Pending) → Lays a b (p ∷ []) → Lays b c writes → Lays a c (p ∷ writes)
lays_then a b c p writes k l = record {
  names = λ n.
      l.names n ∙ ap (λ (e : Entry). record { live = leads_with writes n e.live; lasting = e.lasting }) (k.names n);
  made = l.made ∙ k.made;
  files = λ f within.
      l.files f (subst (λ m. f < m) (sym k.made) within)
      ∙ ap (λ (h : Held). record { live = holds_with writes f h.live; lasting = h.lasting }) (k.files f within);
}

drop_none : {A : Type 0} (i : ℕ) → drop {A = A} i [] ≡ []
drop_none zero = refl
drop_none (suc i) = refl

none_kept : (keep : List Bool) → kept keep [] ≡ []
none_kept [] = refl
none_kept (b ∷ keep) = refl

by_answer : (b : Bool) (keep : List Bool) (p : Pending) (writes : List Pending)
    → kept (b ∷ keep) (p ∷ writes) ≡ cond b (p ∷ kept keep writes) (kept keep writes)
by_answer true keep p writes = refl
by_answer false keep p writes = refl

-- what is kept from a place on, by the answer there
pub kept_next : (keep : List Bool) (writes : List Pending) (i : ℕ) (p : Pending) → i < length writes → p ≡ get_or writes i p
    → kept (drop i keep) (drop i writes)
    ≡ cond (get_or keep i false) (p ∷ kept (drop (suc i) keep) (drop (suc i) writes)) (kept (drop (suc i) keep) (drop (suc i) writes))
kept_next keep [] i p within is = absurd (omega (arith, within))
kept_next [] (q ∷ writes) zero p within is = refl
kept_next [] (q ∷ writes) (suc i) p within is = refl
kept_next (b ∷ keep) (q ∷ writes) zero p within is = by_answer b keep q writes ∙ ap (λ (x : Pending). cond b (x ∷ kept keep writes) (kept keep writes)) (sym is)
kept_next (b ∷ keep) (q ∷ writes) (suc i) p within is = kept_next keep writes i p (omega (arith, within)) is

-- Each of these writes is to a file in use.
pub of_files_at : (writes : List Pending) (used i : ℕ) (p : Pending) → AreOfFiles writes used → i < length writes → p ≡ get_or writes i p
    → IfSome p.file (λ f. f < used)
of_files_at [] used i p all within is = absurd (omega (arith, within))
of_files_at (q ∷ writes) used zero p all within is = subst (λ (x : Pending). IfSome x.file (λ f. f < used)) (sym is) all.0
of_files_at (q ∷ writes) used (suc i) p all within is = of_files_at writes used i p all.1 (omega (arith, within)) is

laid_then : (a b c : Disk) (keeps : Bool) (p : Pending) (writes : List Pending) → Lays a b (cond keeps (p ∷ []) []) → Lays b c writes
    → Lays a c (cond keeps (p ∷ writes) writes)
laid_then a b c true p writes k l = lays_then a b c p writes k l
laid_then a b c false p writes k l = record {
  names = λ n. l.names n ∙ ap (λ (e : Entry). record { live = leads_with writes n e.live; lasting = e.lasting }) (k.names n);
  made = l.made ∙ k.made;
  files = λ f within.
      l.files f (subst (λ m. f < m) (sym k.made) within)
      ∙ ap (λ (h : Held). record { live = holds_with writes f h.live; lasting = h.lasting }) (k.files f within);
}

-- one turn of the loop over the writes
pub laid_one : (fn dev dev' : Disk) (keep : List Bool) (writes : List Pending) (i : ℕ) (p : Pending) (keeps : Bool) → i < length writes → p ≡ get_or writes i p
    → keeps ≡ get_or keep i false → ((d : Disk) → Lays dev d (kept (drop i keep) (drop i writes)) → Lays fn d (kept keep writes))
    → Lays dev dev' (cond keeps (p ∷ []) [])
    → (d : Disk) → Lays dev' d (kept (drop (i + 1) keep) (drop (i + 1) writes)) → Lays fn d (kept keep writes)
laid_one fn dev dev' keep writes i p keeps within is answer rest laid d h =
    let more : Lays dev' d (kept (drop (suc i) keep) (drop (suc i) writes)) = subst (λ k. Lays dev' d (kept (drop k keep) (drop k writes))) (add-one i) h in
    let left : List Pending = kept (drop (suc i) keep) (drop (suc i) writes) in
    let here : kept (drop i keep) (drop i writes) ≡ cond keeps (p ∷ left) left =
    kept_next keep writes i p within is ∙ ap (λ b. cond b (p ∷ left) left) (sym answer) in
    rest d (subst (λ (l : List Pending). Lays dev d l) (sym here) (laid_then dev dev' d keeps p left laid more))

drop_past : {A : Type 0} (xs : List A) (i : ℕ) → length xs ≤ i → drop i xs ≡ []
drop_past [] i past = drop_none i
drop_past (x ∷ xs) zero past = absurd (omega (arith, past))
drop_past (x ∷ xs) (suc i) past = drop_past xs i (omega (arith, past))

-- and the end of the loop
pub laid_all : (fn dev : Disk) (keep : List Bool) (writes : List Pending) (i : ℕ) → length writes ≤ i
    → ((d : Disk) → Lays dev d (kept (drop i keep) (drop i writes)) → Lays fn d (kept keep writes)) → Lays fn dev (kept keep writes)
laid_all fn dev keep writes i past rest =
    rest dev (subst (λ (l : List Pending). Lays dev dev l) (sym (ap (kept (drop i keep)) (drop_past writes i past) ∙ none_kept (drop i keep))) (lays_none dev))
