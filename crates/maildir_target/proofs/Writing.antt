-- Writes that go through together.
use Rattle.std.proofs.Common.{◌≡◌, ℕ, zero, suc, ◌≤◌, ◌<◌, ◌+◌, ◌-◌, List, [], ◌∷◌, ◌++◌, length, take, drop, replicate, None, get_or, refl, ap, sym, ◌∙◌, subst, arith, add-one, drop-cons, Result, Ok, Err, OnOk}
use Rattle.std.proofs.lemmas.List.{append-nil, drop-drop, length-drop}
use Rattle.sim_device.specs.FileEffects.{Effect, Append}
use Rattle.sim_device.specs.Disk.{Disk, StandsFor, AddsEffect}
use Rattle.sim_device.proofs.Appends.{appended, stands_appended}
use Rattle.action_eval.specs.Answers.{Run, hits_of, AllGo, stopped}
use Rattle.target_trait.specs.Machine.{Reached, AsksInTurn}
use Rattle.target_trait.proofs.Machine.{gone, reached_on}
use Rattle.target_trait.proofs.Running.{running_at}
use Rattle.scenario_values.specs.chunked.Chunks.{joined}
use Rattle.maildir_target.specs.declared.variant.Variant.{Variant}
use Rattle.maildir_target.specs.Words.{write_point}
use Rattle.maildir_target.specs.Steps.{Writing, Tally, State, state, at_step, written_of, write_step, point_at, machine}
use Rattle.maildir_target.specs.inside.Devices.{Adds, with_chunks}
use Rattle.maildir_target.specs.inside.Seen.{Played}

asks_writes : (v : Variant) (w : List (List (List ℕ))) (t : Tally) (es : List Effect) (cs : List (List ℕ)) (n : ℕ) → n ≤ length cs
    → AsksInTurn (machine v w) (state (at_step t (write_step cs)) es) (replicate n write_point)
asks_writes v w t es cs zero h = tt
asks_writes v w t es [] (suc n) h = absurd (omega arith)
asks_writes v w t es (c ∷ cs) (suc n) h = (refl, asks_writes v w t (Append (written_of v t) c ∷ es) cs n (omega arith))

gone_writes : (v : Variant) (w : List (List (List ℕ))) (t : Tally) (es : List Effect) (cs : List (List ℕ)) (n : ℕ) → n ≤ length cs
    → gone (machine v w) (state (at_step t (write_step cs)) es) (replicate n write_point) ≡ state (at_step t (write_step (drop n cs))) (with_chunks (written_of v t) (take n cs) es)
gone_writes v w t es cs zero h = refl
gone_writes v w t es [] (suc n) h = absurd (omega arith)
gone_writes v w t es (c ∷ cs) (suc n) h = gone_writes v w t (Append (written_of v t) c ∷ es) cs n (omega arith)

-- so many writes go through, and their chunks are appended one after another
played_pass : {D : Type 0} {stands : D → List Effect → Type 0} (v : Variant) (w : List (List (List ℕ))) (r : Run) (t : Tally) (d : D) (cs : List (List ℕ)) (n : ℕ)
    → Played stands v w r (at_step t (write_step cs)) d → n ≤ length cs
    → (r' : Run) → r' ≡ hits_of r (replicate n write_point) → AllGo r (replicate n write_point) → stopped r' ≡ None
    → (d' : D) → ((es : List Effect) → stands d es → stands d' (with_chunks (written_of v t) (take n cs) es))
    → Played stands v w r' (at_step t (write_step (drop n cs))) d'
played_pass v w r t d cs n k few r' same goes runs d' adds =
    let s : State = state (at_step t (write_step (drop n cs))) (with_chunks (written_of v t) (take n cs) k.effects) in
    let on : Reached (machine v w) (hits_of r (replicate n write_point)) s =
    subst (Reached (machine v w) (hits_of r (replicate n write_point))) (gone_writes v w t k.effects cs n few)
    (reached_on (machine v w) (replicate n write_point) r (state (at_step t (write_step cs)) k.effects) k.reached (asks_writes v w t k.effects cs n few) goes)
    in
    record {
      effects = s.effects;
      reached = subst (λ (x : Run). Reached (machine v w) x s) (sym same) on;
      device = adds k.effects k.device;
      running = running_at (point_at (write_step (drop n cs))) r' runs;
      points = subst (λ (x : Run). 7 ≤ length x.given.catalogue) (sym same) k.points;
    }

-- none goes through
pub played_none : {D : Type 0} {stands : D → List Effect → Type 0} {v : Variant} {w : List (List (List ℕ))} {r : Run} {t : Tally} {d : D} → Played stands v w r t d
    → (n p : ℕ) → n ≡ 0 → (r' : Run) → r' ≡ hits_of r (replicate n p) → Played stands v w r' t d
played_none {stands = stands} {v = v} {w = w} {r = r} {t = t} {d = d} k n p none r' same =
    let all : r.hits ++ replicate n p ≡ r.hits = ap (λ m. r.hits ++ replicate m p) none ∙ append-nil r.hits in
    let e : r' ≡ r = same ∙ ap (λ (l : List ℕ). let x : Run = record { given = r.given; hits = l } in x) all in
    subst (λ (x : Run). Played stands v w x t d) (sym e) k

-- the chunk at a place is the next
next_chunk : (cs : List (List ℕ)) (at : ℕ) → at < length cs → drop at cs ≡ get_or cs at [] ∷ drop (at + 1) cs
next_chunk cs at h = rw (add-one, drop-cons cs at [])

pub at_chunk : {D : Type 0} {stands : D → List Effect → Type 0} (v : Variant) (w : List (List (List ℕ))) (r : Run) (t : Tally) (d : D) (cs : List (List ℕ)) (at : ℕ) → at < length cs
    → Played stands v w r (at_step t (write_step (drop at cs))) d
    → Played stands v w r (at_step t (Writing (get_or cs at []) (drop (at + 1) cs))) d
at_chunk {stands = stands} v w r t d cs at h k = subst (λ (l : List (List ℕ)). Played stands v w r (at_step t (write_step l)) d) (next_chunk cs at h) k

pub appends_as : {D : Type 0} (stands : D → List Effect → Type 0) (d d' : D) (n : ℕ) (x y : List ℕ) → x ≡ y → Adds stands d d' (Append n x) → Adds stands d d' (Append n y)
appends_as stands d d' n x y e adds = subst (λ (b : List ℕ). Adds stands d d' (Append n b)) e adds

same_chunks : (cs : List (List ℕ)) (at n : ℕ) → take (at + n - at) (drop at cs) ≡ take n (drop at cs)
same_chunks cs at n = let e : at + n - at ≡ n = omega arith in ap (λ (k : ℕ). take k (drop at cs)) e

-- the chunks between two places are written one after another
pub played_between : {D : Type 0} {stands : D → List Effect → Type 0} (v : Variant) (w : List (List (List ℕ))) (r : Run) (t : Tally) (d : D) (cs : List (List ℕ)) (at n : ℕ)
    → Played stands v w r (at_step t (write_step (drop at cs))) d → at + n ≤ length cs
    → (r' : Run) → r' ≡ hits_of r (replicate n write_point) → AllGo r (replicate n write_point) → stopped r' ≡ None
    → (d' : D) → ((es : List Effect) → stands d es → stands d' (with_chunks (written_of v t) (take (at + n - at) (drop at cs)) es))
    → Played stands v w r' (at_step t (write_step (drop (at + n) cs))) d'
played_between {stands = stands} v w r t d cs at n k few r' same goes runs d' adds =
    let rest : n ≤ length (drop at cs) = omega (arith, length-drop at cs) in
    subst (λ (l : List (List ℕ)). Played stands v w r' (at_step t (write_step l)) d') (drop-drop n at cs)
    (played_pass v w r t d (drop at cs) n k rest r' same goes runs d'
    (subst (λ (l : List (List ℕ)). (es : List Effect) → stands d es → stands d' (with_chunks (written_of v t) l es)) (same_chunks cs at n) adds))

-- ---- several chunks appended by one call

with_parts : (name : ℕ) (chunks : List (List ℕ)) (es : List Effect) → appended name chunks es ≡ with_chunks name chunks es
with_parts name [] es = refl
with_parts name (chunk ∷ chunks) es = with_parts name chunks (Append name chunk ∷ es)

ok_weaker : {P Q T E : Type 0} (r : Result T E) → (P → Q) → OnOk r P → OnOk r Q
ok_weaker (Ok x) f h = f h
ok_weaker (Err x) f h = tt

pub chunks_appended : {E : Type 0} (r : Result (Unit {0}) E) (d d' : Disk) (chunks : List (List ℕ)) (bytes : List ℕ) (name : ℕ) → bytes ≡ joined chunks
    → OnOk r (AddsEffect d d' (Append name bytes)) → OnOk r ((es : List Effect) → StandsFor d es → StandsFor d' (with_chunks name chunks es))
chunks_appended r d d' chunks bytes name bytes_are h =
    ok_weaker r (λ adds es k. subst (StandsFor d') (with_parts name chunks es) (stands_appended d' name chunks es (adds es k)))
    (subst (λ (b : List ℕ). OnOk r (AddsEffect d d' (Append name b))) bytes_are h)
