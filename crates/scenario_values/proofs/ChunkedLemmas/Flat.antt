-- Chunks kept as bytes and places.
use Rattle.std.proofs.Common.{◌≡◌, ℕ, zero, suc, ◌+◌, ◌-◌, ◌≤◌, ◌<◌, List, [], ◌∷◌, ◌++◌, length, take, drop, get_or, refl, ap, sym, ◌∙◌, arith, append_assoc, length-append}
use Rattle.std.specs.Prelude.{slice_index_or}
use Rattle.std.proofs.lemmas.List.{append-nil, take-append-drop}
use Rattle.std.proofs.Math.Seq.{take-append_seam, drop-append_seam}
use Rattle.scenario_values.specs.chunked.Chunks.{joined}
use Rattle.scenario_values.specs.chunked.inside.Flat.{places_of, pieces}

pub joined_append : (cs ds : List (List ℕ)) → joined (cs ++ ds) ≡ joined cs ++ joined ds
joined_append [] ds = refl
joined_append (c ∷ cs) ds = ap (λ (l : List ℕ). c ++ l) (joined_append cs ds) ∙ sym (append_assoc c (joined cs) (joined ds))

-- one more chunk
pub joined_more : (cs : List (List ℕ)) (c : List ℕ) → joined (cs ++ c ∷ []) ≡ joined cs ++ c
joined_more cs c = joined_append cs (c ∷ []) ∙ ap (λ (l : List ℕ). joined cs ++ l) (append-nil c)

pub places_more : (n : ℕ) (cs : List (List ℕ)) (c : List ℕ) → places_of n (cs ++ c ∷ []) ≡ places_of n cs ++ (n + length (joined cs ++ c)) ∷ []
places_more n [] c = refl
places_more n (d ∷ cs) c =
    let sum : n + length d + length (joined cs ++ c) ≡ n + length (d ++ joined cs ++ c) = omega (arith, length-append d (joined cs ++ c), ap length (append_assoc d (joined cs) c)) in
    ap (λ (l : List ℕ). n ∷ l) (places_more (n + length d) cs c ∙ ap (λ (m : ℕ). places_of (n + length d) cs ++ m ∷ []) sum)

pub length_places : (n : ℕ) (cs : List (List ℕ)) → length (places_of n cs) ≡ suc (length cs)
length_places n [] = refl
length_places n (c ∷ cs) = ap suc (length_places (n + length c) cs)

-- the chunks come back from bytes and places
pieces_cons : (bytes : List ℕ) (from to : ℕ) (cs : List (List ℕ)) → pieces bytes (from ∷ places_of to cs) ≡ take (to - from) (drop from bytes) ∷ pieces bytes (places_of to cs)
pieces_cons bytes from to [] = refl
pieces_cons bytes from to (c ∷ cs) = refl

pub pieces_of : (before : List ℕ) (cs : List (List ℕ)) → pieces (before ++ joined cs) (places_of (length before) cs) ≡ cs
pieces_of before [] = refl
pieces_of before (c ∷ cs) =
    let n : ℕ = length before in
    let bytes : List ℕ = before ++ (c ++ joined cs) in
    let far : n + length c - n ≡ length c = omega arith in
    let first : take (n + length c - n) (drop n bytes) ≡ c =
    ap (λ (k : ℕ). take k (drop n bytes)) far ∙ ap (take (length c)) (drop-append_seam before (c ++ joined cs)) ∙ take-append_seam c (joined cs) in
    let rest : pieces bytes (places_of (n + length c) cs) ≡ cs =
    ap (λ (l : List ℕ). pieces l (places_of (n + length c) cs)) (sym (append_assoc before c (joined cs)))
    ∙ ap (λ (m : ℕ). pieces ((before ++ c) ++ joined cs) (places_of m cs)) (sym (length-append before c)) ∙ pieces_of (before ++ c) cs in
    pieces_cons bytes n (n + length c) cs ∙ ap (λ (d : List ℕ). d ∷ pieces bytes (places_of (n + length c) cs)) first ∙ ap (λ (l : List (List ℕ)). c ∷ l) rest

-- the place of a chunk comes after all bytes before it
pub place_at : (n : ℕ) (cs : List (List ℕ)) (i d : ℕ) → i ≤ length cs → get_or (places_of n cs) i d ≡ n + length (joined (take i cs))
place_at n [] zero d h = omega arith
place_at n [] (suc i) d h = omega arith
place_at n (c ∷ cs) zero d h = omega arith
place_at n (c ∷ cs) (suc i) d h =
    let sum : n + length c + length (joined (take i cs)) ≡ n + length (c ++ joined (take i cs)) = omega (arith, length-append c (joined (take i cs))) in
    place_at (n + length c) cs i d (omega (arith, h)) ∙ sum

no_chunks : (n : ℕ) → [] ≡ take {A = List ℕ} n []
no_chunks zero = refl
no_chunks (suc n) = refl

take_to : (cs : List (List ℕ)) (from k to : ℕ) → to ≡ from + k → take to cs ≡ take from cs ++ take k (drop from cs)
take_to cs zero k to h =
    let same : to ≡ k = omega (arith, h) in
    ap (λ (n : ℕ). take n cs) same
take_to [] (suc from) k zero h = no_chunks k
take_to [] (suc from) k (suc to) h = no_chunks k
take_to (c ∷ cs) (suc from) k zero h =
    let none : ⊥ = omega (arith, h) in elim none [ ]
take_to (c ∷ cs) (suc from) k (suc to) h = ap (λ (l : List (List ℕ)). c ∷ l) (take_to cs from k to (omega (arith, h)))

-- the bytes between two places are those of the chunks between them
pub joined_between : (cs : List (List ℕ)) (from to : ℕ) → from ≤ to
    → take (length (joined (take to cs)) - length (joined (take from cs))) (drop (length (joined (take from cs))) (joined cs)) ≡ joined (take (to - from) (drop from cs))
joined_between cs from to h =
    let before : List ℕ = joined (take from cs) in
    let here : List ℕ = joined (take (to - from) (drop from cs)) in
    let after : List ℕ = joined (drop (to - from) (drop from cs)) in
    let all : joined cs ≡ before ++ (here ++ after) =
    ap joined (sym (take-append-drop from cs)) ∙ joined_append (take from cs) (drop from cs)
    ∙ ap (λ (l : List ℕ). before ++ l) (ap joined (sym (take-append-drop (to - from) (drop from cs))) ∙ joined_append (take (to - from) (drop from cs)) (drop (to - from) (drop from cs))) in
    let end : joined (take to cs) ≡ before ++ here = ap joined (take_to cs from (to - from) to (omega (arith, h))) ∙ joined_append (take from cs) (take (to - from) (drop from cs)) in
    let far : length (joined (take to cs)) - length before ≡ length here = omega (arith, ap length end, length-append before here) in
    ap (λ (k : ℕ). take k (drop (length before) (joined cs))) far ∙ ap (λ (l : List ℕ). take (length here) (drop (length before) l)) all
    ∙ ap (take (length here)) (drop-append_seam before (here ++ after)) ∙ take-append_seam here after

pub one_between : (cs : List (List ℕ)) (i : ℕ) → i < length cs → joined (take (i + 1 - i) (drop i cs)) ≡ slice_index_or cs i []
one_between cs i h = ap (λ (k : ℕ). joined (take k (drop i cs))) one ∙ at cs i h where
  one : i + 1 - i ≡ 1
  one = omega arith

  at : (ds : List (List ℕ)) (j : ℕ) → j < length ds → joined (take 1 (drop j ds)) ≡ slice_index_or ds j []
  at [] j k = let none : ⊥ = omega (arith, k) in elim none [ ]
  at (d ∷ ds) zero k = append-nil d
  at (d ∷ ds) (suc j) k = at ds j (omega (arith, k))

-- the further chunks, the more bytes
pub joined_to : (cs : List (List ℕ)) (from to : ℕ) → from ≤ to → length (joined (take from cs)) ≤ length (joined (take to cs))
joined_to cs from to h =
    let end : joined (take to cs) ≡ joined (take from cs) ++ joined (take (to - from) (drop from cs)) =
    ap joined (take_to cs from (to - from) to (omega (arith, h))) ∙ joined_append (take from cs) (take (to - from) (drop from cs)) in
    omega (arith, ap length end, length-append (joined (take from cs)) (joined (take (to - from) (drop from cs))))

pub joined_within : (cs : List (List ℕ)) (to : ℕ) → length (joined (take to cs)) ≤ length (joined cs)
joined_within cs to =
    let all : joined cs ≡ joined (take to cs) ++ joined (drop to cs) = ap joined (sym (take-append-drop to cs)) ∙ joined_append (take to cs) (drop to cs) in
    omega (arith, ap length all, length-append (joined (take to cs)) (joined (drop to cs)))
