-- Contents by their number.
use Rattle.std.proofs.Common.{◌≡◌, ℕ, suc, ◌+◌, ◌-◌, ◌<◌, ◌≤◌, Bool, ◌||◌, List, [], ◌∷◌, ◌++◌, length, take, drop, map, get_or, ap, sym, ◌∙◌, subst, arith, add-one, length-drop}
use Rattle.std.proofs.Math.ListN.{drop_of_length-le}
use Rattle.std.proofs.Math.Seq.{drop-cons, take-length}
use Rattle.std.proofs.lemmas.List.{take_more, drop-append-le, length-take-le, length-map, get_or-map, drop-map, take-map}
use Rattle.std.specs.Str.{bytes_eq}
use Rattle.scenario_values.specs.chunked.Chunks.{joined}
use Rattle.file_replace.specs.Judgement.{Past, with_begun, is_among}
use Rattle.file_replace.specs.Steps.{Step, Tally, first_step, begun_of, begun, acknowledged}
use Rattle.file_replace.specs.inside.Seen.{all_contents, contents_between, past_of}

-- a tally by its numbers
abbrev pub counted : List ℕ → List (List (List ℕ)) → ℕ → ℕ → Step → Tally
counted old reps k n step = record { step = step; whole = get_or (all_contents old reps) n []; rest = drop n reps; past = past_of (all_contents old reps) k n }

between_more : (xs : List (List ℕ)) (k n : ℕ) → k ≤ n → n + 1 < length xs → contents_between k (n + 1) xs ≡ contents_between k n xs ++ get_or xs (n + 1) [] ∷ []
between_more xs k n order within =
    ap (drop k) (take_more xs (n + 1) [] within) ∙ drop-append-le k (take (n + 1) xs) (get_or xs (n + 1) [] ∷ []) (subst (λ m. k ≤ m) (sym (length-take-le (n + 1) xs (omega arith))) (omega arith))

between_one : (xs : List (List ℕ)) (n : ℕ) → n < length xs → contents_between n n xs ≡ get_or xs n [] ∷ []
between_one xs n within =
    let long : length (take n xs) ≡ n = length-take-le n xs (omega arith) in
    ap (drop n) (take_more xs n [] within) ∙ drop-append-le n (take n xs) (get_or xs n [] ∷ []) (omega arith)
    ∙ ap (λ l. l ++ get_or xs n [] ∷ []) (drop_of_length-le (take n xs) {i = n} (omega arith))

many : (old : List ℕ) (reps : List (List (List ℕ))) → length (all_contents old reps) ≡ length reps + 1
many old reps = let e : length (map joined reps) ≡ length reps = length-map reps joined in omega arith

next_contents : (old : List ℕ) (reps : List (List (List ℕ))) (n : ℕ) → n < length reps → get_or (all_contents old reps) (n + 1) [] ≡ joined (get_or reps n [])
next_contents old reps n within = ap (λ i. get_or (all_contents old reps) i []) (add-one n) ∙ get_or-map joined reps n [] [] within

begun_rest : (there : Bool) (t : Tally) (rest : List (List (List ℕ))) → t.rest ≡ rest → begun there t ≡ begun_of there t rest
begun_rest there t rest e = ap (begun_of there t) e

-- one more is begun
pub begun_counted : (there : Bool) (old : List ℕ) (reps : List (List (List ℕ))) (k n : ℕ) (chunks : List (List ℕ)) (step next : Step) → k ≤ n → n < length reps → chunks ≡ get_or reps n [] → next ≡ first_step there chunks
    → counted old reps k (n + 1) next ≡ begun there (counted old reps k n step)
begun_counted there old reps k n chunks step next order within is is_first =
    let more : (j : ℕ) → j ≤ n → contents_between j (n + 1) (all_contents old reps) ≡ contents_between j n (all_contents old reps) ++ joined chunks ∷ []
    = λ j h. between_more (all_contents old reps) j n h (subst (λ m. n + 1 < m) (sym (many old reps)) (omega arith)) ∙ ap (λ x. contents_between j n (all_contents old reps) ++ x ∷ []) (next_contents old reps n within ∙ ap joined (sym is)) in
    let whole : get_or (all_contents old reps) (n + 1) [] ≡ joined chunks = next_contents old reps n within ∙ ap joined (sym is) in
    let rest : drop n reps ≡ chunks ∷ drop (n + 1) reps = drop-cons reps n [] within ∙ ap (λ x. x ∷ drop (suc n) reps) (sym is) ∙ ap (λ i. chunks ∷ drop i reps) (sym (add-one n)) in
    let past : past_of (all_contents old reps) k (n + 1) ≡ with_begun (joined chunks) (past_of (all_contents old reps) k n)
    = ap (λ (x : List (List ℕ)). let p : Past = record { allowed = x; known = contents_between 0 (n + 1) (all_contents old reps) } in p) (more k order)
    ∙ ap (λ (x : List (List ℕ)). let p : Past = record { allowed = contents_between k n (all_contents old reps) ++ joined chunks ∷ []; known = x } in p) (more 0 (omega arith)) in
    ap (λ (s : Step). counted old reps k (n + 1) s) is_first
    ∙ ap (λ (x : List ℕ). let t : Tally = record { step = first_step there chunks; whole = x; rest = drop (n + 1) reps; past = past_of (all_contents old reps) k (n + 1) } in t) whole
    ∙ ap (λ (x : Past). let t : Tally = record { step = first_step there chunks; whole = joined chunks; rest = drop (n + 1) reps; past = x } in t) past
    ∙ sym (begun_rest there (counted old reps k n step) (chunks ∷ drop (n + 1) reps) rest)

-- the one under way is acknowledged
pub acknowledged_counted : (old : List ℕ) (reps : List (List (List ℕ))) (k n : ℕ) (step : Step) → n ≤ length reps → counted old reps n n step ≡ acknowledged (counted old reps k n step)
acknowledged_counted old reps k n step within =
    ap (λ (x : List (List ℕ)). let t : Tally = record { step = step; whole = get_or (all_contents old reps) n []; rest = drop n reps; past = record { allowed = x; known = contents_between 0 n (all_contents old reps) } } in t)
    (between_one (all_contents old reps) n (subst (λ m. n < m) (sym (many old reps)) (omega arith)))

take_all : (l : List (List (List ℕ))) (k : ℕ) → take (length l - k) (drop k l) ≡ drop k l
take_all l k = ap (λ n. take n (drop k l)) (sym (length-drop k l)) ∙ take-length (drop k l)

-- Those that were begun, except the old contents.
pub begun_from : (x old : List ℕ) (reps : List (List (List ℕ))) (k n : ℕ) (result : Bool) → 0 < k → result ≡ is_among x (map joined (take (length (take n reps) - (k - 1)) (drop (k - 1) (take n reps)))) → result ≡ is_among x (contents_between k n (all_contents old reps))
begun_from x old reps k n result some is =
    let back : k ≡ suc (k - 1) = omega arith in
    is ∙ ap (λ l. is_among x (map joined l)) (take_all (take n reps) (k - 1))
    ∙ ap (is_among x) (sym (drop-map joined (k - 1) (take n reps)) ∙ ap (drop (k - 1)) (sym (take-map joined n reps)))
    ∙ ap (λ i. is_among x (drop i (take (suc n) (all_contents old reps)))) (sym back) ∙ ap (λ i. is_among x (drop k (take i (all_contents old reps)))) (sym (add-one n))

-- the old contents and those begun
pub old_or_begun : (x old : List ℕ) (reps : List (List (List ℕ))) (k n : ℕ) (first more : Bool) → k ≤ 0 → first ≡ bytes_eq x old → more ≡ is_among x (map joined (take n reps)) → (first || more) ≡ is_among x (contents_between k n (all_contents old reps))
old_or_begun x old reps k n first more none is_first is_more =
    let nothing : k ≡ 0 = omega arith in
    ap (λ b. b || more) is_first ∙ ap (λ b. bytes_eq x old || b) (is_more ∙ ap (is_among x) (sym (take-map joined n reps)))
    ∙ ap (λ i. is_among x (take i (all_contents old reps))) (sym (add-one n)) ∙ ap (λ i. is_among x (contents_between i n (all_contents old reps))) (sym nothing)
