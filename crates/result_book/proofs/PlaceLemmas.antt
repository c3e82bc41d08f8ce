-- How a book keeps its places.
use Rattle.std.proofs.Common.{◌≡◌, ℕ, zero, suc, ◌-◌, ◌<◌, Bool, true, false, not, Option, Some, None, List, [], ◌∷◌, ◌++◌, length, get_or, set, take, replicate, refl, sym, ap, ◌∙◌, arith}
use Rattle.std.proofs.Math.Seq.{take-nil}
use Rattle.std.specs.List.{list_all, list_any}
use mathlib.Core.Bool.{beq}
use Rattle.std.proofs.lemmas.Bool.{false≢true}
use Rattle.target_trait.specs.declared.judgement.Verdict.{Verdict}
use Rattle.result_book.specs.Slots.{has, is_full, present}
use Rattle.result_book.specs.inside.Places.{place, places}

pub length_places : (bs : List Bool) (vs : List Verdict) → length vs ≡ length bs → length (places bs vs) ≡ length bs
length_places [] vs same = refl
length_places (b ∷ bs) [] same = absurd (omega arith)
length_places (b ∷ bs) (v ∷ vs) same = ap suc (length_places bs vs (omega arith))

pub place_at : (bs : List Bool) (vs : List Verdict) (n : ℕ) (b : Bool) (v : Verdict) (d : Option Verdict) → length vs ≡ length bs → n < length bs → get_or (places bs vs) n d ≡ place (get_or bs n b) (get_or vs n v)
place_at [] vs n b v d same lt = absurd (omega arith)
place_at (c ∷ bs) [] n b v d same lt = absurd (omega arith)
place_at (c ∷ bs) (w ∷ vs) zero b v d same lt = refl
place_at (c ∷ bs) (w ∷ vs) (suc n) b v d same lt = place_at bs vs n b v d (omega arith) (omega arith)

-- A place has its verdict exactly if one was put.
pub has_place : (bs : List Bool) (vs : List Verdict) (n : ℕ) (b : Bool) → length vs ≡ length bs → n < length bs → has (places bs vs) n ≡ get_or bs n b
has_place [] vs n b same lt = absurd (omega arith)
has_place (c ∷ bs) [] n b same lt = absurd (omega arith)
has_place (true ∷ bs) (w ∷ vs) zero b same lt = refl
has_place (false ∷ bs) (w ∷ vs) zero b same lt = refl
has_place (c ∷ bs) (w ∷ vs) (suc n) b same lt = has_place bs vs n b (omega arith) (omega arith)

pub place_set : (bs : List Bool) (vs : List Verdict) (n : ℕ) (v : Verdict) → length vs ≡ length bs → n < length bs → places (set bs n true) (set vs n v) ≡ set (places bs vs) n (Some v)
place_set [] vs n v same lt = absurd (omega arith)
place_set (c ∷ bs) [] n v same lt = absurd (omega arith)
place_set (c ∷ bs) (w ∷ vs) zero v same lt = refl
place_set (c ∷ bs) (w ∷ vs) (suc n) v same lt = ap (λ s. place c w ∷ s) (place_set bs vs n v (omega arith) (omega arith))

-- an empty list that was filled up
pub filled : {A : Type 0} (old new : List A) (n len : ℕ) (x : A) → old ≡ [] → len ≡ 0 → new ≡ take n old ++ replicate (n - len) x → new ≡ replicate n x
filled old new n len x none zero_long is =
    is ∙ ap (λ l. take n l ++ replicate (n - len) x) none ∙ ap (λ l. l ++ replicate (n - len) x) (take-nil n) ∙ ap (λ k. replicate k x) (omega (arith, zero_long))

-- If none was put, all places are empty.
pub none_put : (n : ℕ) (v : Verdict) → places (replicate n false) (replicate n v) ≡ replicate n None
none_put zero v = refl
none_put (suc n) v = ap (λ s. None ∷ s) (none_put n v)

-- All were put if none is false.
pub all_put : (bs : List Bool) (vs : List Verdict) → length vs ≡ length bs → not (list_any (λ b. beq b false) bs) ≡ list_all is_full (places bs vs)
all_put [] vs same = refl
all_put (b ∷ bs) [] same = absurd (omega arith)
all_put (true ∷ bs) (v ∷ vs) same = all_put bs vs (omega arith)
all_put (false ∷ bs) (v ∷ vs) same = refl

-- If all were put, the verdicts are those that are there.
pub all_present : (bs : List Bool) (vs : List Verdict) → length vs ≡ length bs → list_all is_full (places bs vs) ≡ true → vs ≡ present (places bs vs)
all_present [] [] same whole = refl
all_present [] (v ∷ vs) same whole = absurd (omega arith)
all_present (b ∷ bs) [] same whole = absurd (omega arith)
all_present (true ∷ bs) (v ∷ vs) same whole = ap (λ ws. v ∷ ws) (all_present bs vs (omega arith) whole)
all_present (false ∷ bs) (v ∷ vs) same whole = absurd (false≢true whole)

-- the same of places as contracts see them
pub length_seen : (bs : List Bool) (vs : List Verdict) (seen : List (Option Verdict)) → places bs vs ≡ seen → length vs ≡ length bs → length seen ≡ length bs
length_seen bs vs seen is same = ap length (sym is) ∙ length_places bs vs same

pub has_seen : (bs : List Bool) (vs : List Verdict) (seen : List (Option Verdict)) (n : ℕ) (b : Bool) → places bs vs ≡ seen → length vs ≡ length bs → n < length bs → has seen n ≡ get_or bs n b
has_seen bs vs seen n b is same lt = ap (λ s. has s n) (sym is) ∙ has_place bs vs n b same lt
