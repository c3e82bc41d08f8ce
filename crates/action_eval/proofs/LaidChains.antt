-- How a fault table's terms are laid, and how a session finds them.
use Rattle.std.proofs.Common.{◌≡◌, ℕ, zero, suc, ◌+◌, ◌-◌, ◌<◌, ◌≤◌, cond, false, Option, Some, None, List, [], ◌∷◌, ◌++◌, map, take, drop, length, get_or, length-append, length-drop, drop-cons, add-one, refl, ap, sym, subst, ◌∙◌, arith}
use Rattle.std.specs.Prelude.{option_map}
use Rattle.std.specs.List.{AllByRecursion}
use Rattle.std.specs.Str.{bytes_eq}
use Rattle.std.specs.Borrow.{Bor}
use Rattle.std.proofs.lemmas.List.{append-nil, map_push}
use Rattle.action_eval.specs.Answers.{texts}
use Rattle.std.proofs.lemmas.Slice.Eq.{bytes_eq-Decides}
use Rattle.scenario_values.specs.declared.term.Term.{Term}
use Rattle.scenario_values.specs.Scenario.{Entries, New, entry_of, chain_at}
use Rattle.action_eval.specs.declared.rig.Rig.{Rig}
use Rattle.action_eval.specs.declared.found.Head.{Head}
use Rattle.action_eval.specs.Catalogue.{HasDistinct}
use Rattle.action_eval.specs.RiggedScenario.{chain_from, entry, entries_from, rigged_scenario}
use Rattle.action_eval.specs.inside.Session.{found_of, start_of, left_row, left_counts, head_of}
use Rattle.action_eval.specs.inside.Laid.{laid, AreSizes, joined, sizes_of}
use Rattle.action_eval.proofs.NamedCounts.{length-left_row}
use Rattle.action_eval.proofs.Spans.{placed}
use Rattle.action_eval.proofs.TidiedEntries.{flipped}
use Rattle.action_eval.proofs.Rigged.{goes_on, all_both, entry_all}

-- ---- lists that a loop goes over

-- the element at i, and those after it
pub next_of : {A : Type 0} (xs : List A) (i : ℕ) (d : A) → i < length xs → drop i xs ≡ get_or xs i d ∷ drop (i + 1) xs
next_of xs i d h = drop-cons xs i d h ∙ ap (λ k. get_or xs i d ∷ drop k xs) (sym (add-one i))

pub none_left : {A : Type 0} (xs : List A) (i : ℕ) → length xs ≤ i → drop i xs ≡ []
none_left [] zero h = refl
none_left [] (suc i) h = refl
none_left (x ∷ xs) zero h = absurd (omega arith)
none_left (x ∷ xs) (suc i) h = none_left xs i (omega (arith, h))

front : (a b : List Term) → take (length a) (a ++ b) ≡ a
front [] b = refl
front (x ∷ xs) b = ap (λ l. x ∷ l) (front xs b)

back : (a b : List Term) → drop (length a) (a ++ b) ≡ b
back [] b = refl
back (x ∷ xs) b = back xs b

texts_length : (catalogue : List (Bor (List ℕ))) → length (texts catalogue) ≡ length catalogue
texts_length [] = refl
texts_length (n ∷ ns) = ap suc (texts_length ns)

-- ---- terms that are laid

-- one point more
pub joined_more : (n count : ℕ) (rs : List Rig) → n < count → joined n (count - n) rs ≡ chain_from n 0 rs ++ joined (n + 1) (count - (n + 1)) rs
joined_more n count rs h = let one : count - n ≡ suc (count - (n + 1)) = omega (arith, h) in ap (λ k. joined n k rs) one

pub sizes_more : (n count : ℕ) (rs : List Rig) → n < count → sizes_of n (count - n) rs ≡ length (chain_from n 0 rs) ∷ sizes_of (n + 1) (count - (n + 1)) rs
sizes_more n count rs h = let one : count - n ≡ suc (count - (n + 1)) = omega (arith, h) in ap (λ k. sizes_of n k rs) one

pub joined_all : (n count : ℕ) (rs : List Rig) (terms whole : List Term) → count ≤ n → terms ++ joined n (count - n) rs ≡ whole → terms ≡ whole
joined_all n count rs terms whole h e =
    let none : count - n ≡ 0 = omega (arith, h) in
    sym (append-nil terms) ∙ ap (λ k. terms ++ joined n k rs) (sym none) ∙ e

pub sizes_all : (n count : ℕ) (rs : List Rig) (sizes whole : List ℕ) → count ≤ n → sizes ++ sizes_of n (count - n) rs ≡ whole → sizes ≡ whole
sizes_all n count rs sizes whole h e =
    let none : count - n ≡ 0 = omega (arith, h) in
    sym (append-nil sizes) ∙ ap (λ k. sizes ++ sizes_of n k rs) (sym none) ∙ e

-- they are the entries of the rigged hits
pub laid_joined : (p : ℕ) (names : List (List ℕ)) (rs : List Rig) → laid names (sizes_of p (length names) rs) (joined p (length names) rs) ≡ entries_from p names rs
laid_joined p [] rs = refl
laid_joined p (name ∷ names) rs =
    let c = chain_from p 0 rs in
    let rest = joined (p + 1) (length names) rs in
    let sizes = sizes_of (p + 1) (length names) rs in
    ap (λ t. entry name t ++ laid names sizes (drop (length c) (c ++ rest))) (front c rest)
    ∙ ap (λ t. entry name c ++ laid names sizes t) (back c rest)
    ∙ ap (λ (es : Entries). entry name c ++ es) (laid_joined (p + 1) names rs)

pub sizes_joined : (p : ℕ) (names : List (List ℕ)) (rs : List Rig) → AreSizes names (sizes_of p (length names) rs) (joined p (length names) rs)
sizes_joined p [] rs = tt
sizes_joined p (name ∷ names) rs =
    let c = chain_from p 0 rs in
    let rest = joined (p + 1) (length names) rs in
    (omega (arith, length-append c rest), subst (AreSizes names (sizes_of (p + 1) (length names) rs)) (sym (back c rest)) (sizes_joined (p + 1) names rs))

pub loaded_sizes : (catalogue : List (Bor (List ℕ))) (rs : List Rig) (count : ℕ) (sizes : List ℕ) (terms : List Term) → count ≡ length catalogue → sizes ≡ sizes_of 0 count rs → terms ≡ joined 0 count rs → AreSizes (texts catalogue) sizes terms
loaded_sizes catalogue rs count sizes terms e f g =
    let many : length (texts catalogue) ≡ count = texts_length catalogue ∙ sym e in
    subst (λ (s : List ℕ). AreSizes (texts catalogue) s terms) (ap (λ n. sizes_of 0 n rs) many ∙ sym f)
    (subst (λ (t : List Term). AreSizes (texts catalogue) (sizes_of 0 (length (texts catalogue)) rs) t) (ap (λ n. joined 0 n rs) many ∙ sym g) (sizes_joined 0 (texts catalogue) rs))

pub loaded_entries : (catalogue : List (Bor (List ℕ))) (rs : List Rig) (count : ℕ) (sizes : List ℕ) (terms : List Term) → count ≡ length catalogue → sizes ≡ sizes_of 0 count rs → terms ≡ joined 0 count rs
    → laid (texts catalogue) sizes terms ≡ rigged_scenario (texts catalogue) rs
unfolding rigged_scenario
loaded_entries catalogue rs count sizes terms e f g =
    let many : count ≡ length (texts catalogue) = e ∙ sym (texts_length catalogue) in
    ap (λ (s : List ℕ). laid (texts catalogue) s terms) (f ∙ ap (λ n. sizes_of 0 n rs) many)
    ∙ ap (λ (t : List Term). laid (texts catalogue) (sizes_of 0 (length (texts catalogue)) rs) t) (g ∙ ap (λ n. joined 0 n rs) many)
    ∙ laid_joined 0 (texts catalogue) rs

pub sizes_many : (names : List (List ℕ)) (sizes : List ℕ) (terms : List Term) → AreSizes names sizes terms → length names ≤ length sizes
sizes_many [] sizes terms h = omega arith
sizes_many (name ∷ names) [] terms h = absurd h
sizes_many (name ∷ names) (size ∷ sizes) terms h = omega (arith, sizes_many names sizes (drop size terms) h.1)

-- ---- the place of a name's chain among laid ones

abbrev pub moved : ℕ → Option (List Term × ℕ) → Option (List Term × ℕ)
moved k o = option_map {U = List Term × ℕ} (λ f. (f.0, k + f.1)) o

moved_none : (o : Option (List Term × ℕ)) → moved 0 o ≡ o
moved_none None = refl
moved_none (Some f) = ap (λ (n : ℕ). let g : Option (List Term × ℕ) = Some (f.0, n) in g) (let same : 0 + f.1 ≡ f.1 = omega arith in same)

moved_twice : (j k : ℕ) (o : Option (List Term × ℕ)) → moved k (moved j o) ≡ moved (k + j) o
moved_twice j k None = refl
moved_twice j k (Some f) = ap (λ (n : ℕ). let g : Option (List Term × ℕ) = Some (f.0, n) in g) (let same : k + (j + f.1) ≡ (k + j) + f.1 = omega arith in same)

moved_placed : (k : ℕ) (c : List Term) → moved k (placed c 0) ≡ placed c k
moved_placed k [] = refl
moved_placed k (t ∷ ts) = ap (λ (n : ℕ). placed (t ∷ ts) n) (let same : k + 0 ≡ k = omega arith in same)

abbrev at_entry : Entries → Option ℕ → Option (List Term × ℕ)
at_entry s o = option_map {U = List Term × ℕ} (λ (e : ℕ). (chain_at s e, start_of s e)) o

past : (x : List ℕ × List Term) (es : Entries) (o : Option ℕ) → at_entry (x ∷ es) (option_map (λ n. suc n) o) ≡ moved (length x.1) (at_entry es o)
past x es None = refl
past x es (Some k) = refl

-- another name's chain stands behind this one's
found_behind : (n : List ℕ) (c : List Term) (es : Entries) (m : List ℕ) → bytes_eq m n ≡ false → found_of (entry n c ++ es) m ≡ moved (length c) (found_of es m)
found_behind n [] es m e = sym (moved_none (found_of es m))
found_behind n (t ∷ ts) es m e = ap (λ b. at_entry ((n, t ∷ ts) ∷ es) (cond b (Some 0) (option_map (λ n. suc n) (entry_of es m)))) e ∙ past (n, t ∷ ts) es (entry_of es m)

not_there : (n : List ℕ) (es : Entries) → New n es → entry_of es n ≡ None
not_there n [] new = refl
not_there n (e ∷ es) new =
    ap (λ b. cond b (Some 0) (option_map (λ n. suc n) (entry_of es n))) (flipped e.0 n new.0) ∙ ap (λ (o : Option ℕ). option_map (λ n. suc n) o) (not_there n es new.1)

found_here : (n : List ℕ) (c : List Term) (es : Entries) → New n es → found_of (entry n c ++ es) n ≡ placed c 0
found_here n [] es new = ap (at_entry es) (not_there n es new)
found_here n (t ∷ ts) es new = ap (λ b. at_entry ((n, t ∷ ts) ∷ es) (cond b (Some 0) (option_map (λ n. suc n) (entry_of es n)))) ((bytes_eq-Decides n n).1 refl)

laid_new : (n : List ℕ) (names : List (List ℕ)) (sizes : List ℕ) (terms : List Term) → AllByRecursion (λ other. bytes_eq other n ≡ false) names → New n (laid names sizes terms)
laid_new n [] sizes terms h = tt
laid_new n (name ∷ names) [] terms h = tt
laid_new n (name ∷ names) (size ∷ sizes) terms h =
    all_both (λ e. bytes_eq e.0 n ≡ false) (entry name (take size terms)) (laid names sizes (drop size terms)) (entry_all (λ e. bytes_eq e.0 n ≡ false) name (take size terms) (λ _. h.0)) (laid_new n names sizes (drop size terms) h.1)

-- The chains of points, if the counts of their terms begin at k.
abbrev pub all_found : ℕ → List (List ℕ) → Entries → List (Option (List Term × ℕ))
all_found k names s = map (λ m. moved k (found_of s m)) names

all_behind : (k : ℕ) (n : List ℕ) (c : List Term) (es : Entries) (names : List (List ℕ)) → AllByRecursion (λ other. bytes_eq other n ≡ false) names → all_found k names (entry n c ++ es) ≡ all_found (k + length c) names es
all_behind k n c es [] h = refl
all_behind k n c es (m ∷ ms) h =
    ap (λ o. moved k o ∷ all_found k ms (entry n c ++ es)) (found_behind n c es m h.0)
    ∙ ap (λ o. o ∷ all_found k ms (entry n c ++ es)) (moved_twice (length c) k (found_of es m))
    ∙ ap (λ l. moved (k + length c) (found_of es m) ∷ l) (all_behind k n c es ms h.1)

all_one : (k : ℕ) (n : List ℕ) (names : List (List ℕ)) (size : ℕ) (sizes : List ℕ) (terms : List Term) → HasDistinct (n ∷ names)
    → all_found k (n ∷ names) (laid (n ∷ names) (size ∷ sizes) terms) ≡ placed (take size terms) k ∷ all_found (k + length (take size terms)) names (laid names sizes (drop size terms))
all_one k n names size sizes terms d =
    let c = take size terms in
    let es = laid names sizes (drop size terms) in
    ap (λ o. moved k o ∷ all_found k names (entry n c ++ es)) (found_here n c es (laid_new n names sizes (drop size terms) d.0))
    ∙ ap (λ o. o ∷ all_found k names (entry n c ++ es)) (moved_placed k c)
    ∙ ap (λ l. placed c k ∷ l) (all_behind k n c es names d.0)

pub all_begin : (names : List (List ℕ)) (s : Entries) → all_found 0 names s ≡ map (found_of s) names
all_begin [] s = refl
all_begin (n ∷ ns) s = ap (λ o. o ∷ all_found 0 ns s) (moved_none (found_of s n)) ∙ ap (λ l. found_of s n ∷ l) (all_begin ns s)

-- ---- a session's chains, point after point

pub sizes_split : (names rest : List (List ℕ)) (n : List ℕ) (sizes more : List ℕ) (size : ℕ) (terms : List Term) → names ≡ n ∷ rest → sizes ≡ size ∷ more → AreSizes names sizes terms → (size ≤ length terms) × AreSizes rest more (drop size terms)
sizes_split names rest n sizes more size terms e f h = subst (λ (s : List ℕ). AreSizes (n ∷ rest) s terms) f (subst (λ (l : List (List ℕ)). AreSizes l sizes terms) e h)

pub distinct_split : (names rest : List (List ℕ)) (n : List ℕ) → names ≡ n ∷ rest → HasDistinct names → HasDistinct (n ∷ rest)
distinct_split names rest n e d = subst HasDistinct e d

entry_counts : (n : List ℕ) (c : List Term) (es : Entries) → left_counts [] (entry n c ++ es) ≡ left_row (λ _. 0) 0 c ++ left_counts [] es
entry_counts n [] es = refl
entry_counts n (t ∷ ts) es = refl

pub left_next : (names rest : List (List ℕ)) (n : List ℕ) (sizes more : List ℕ) (size : ℕ) (terms : List Term) (old new whole : List ℕ) → names ≡ n ∷ rest → sizes ≡ size ∷ more
    → old ++ left_counts [] (laid names sizes terms) ≡ whole → new ≡ old ++ left_row (λ _. 0) 0 (take size terms) → new ++ left_counts [] (laid rest more (drop size terms)) ≡ whole
left_next names rest n sizes more size terms old new whole e f h g =
    goes_on old new (left_row (λ _. 0) 0 (take size terms)) (left_counts [] (laid rest more (drop size terms))) whole
    (
    ap (λ l. old ++ l) (sym (entry_counts n (take size terms) (laid rest more (drop size terms))))
    ∙ ap (λ (s : List ℕ). old ++ left_counts [] (laid (n ∷ rest) s terms)) (sym f)
    ∙ ap (λ (l : List (List ℕ)). old ++ left_counts [] (laid l sizes terms)) (sym e) ∙ h
    ) g

pub found_next : (names rest : List (List ℕ)) (n : List ℕ) (sizes more : List ℕ) (size : ℕ) (terms : List Term) (k j : ℕ) (old new whole : List (Option (List Term × ℕ))) → names ≡ n ∷ rest → sizes ≡ size ∷ more → HasDistinct names
    → old ++ all_found k names (laid names sizes terms) ≡ whole → new ≡ old ++ placed (take size terms) k ∷ [] → j ≡ k + length (take size terms)
    → new ++ all_found j rest (laid rest more (drop size terms)) ≡ whole
found_next names rest n sizes more size terms k j old new whole e f d h g same =
    ap (λ i. new ++ all_found i rest (laid rest more (drop size terms))) same
    ∙ goes_on old new (placed (take size terms) k ∷ []) (all_found (k + length (take size terms)) rest (laid rest more (drop size terms))) whole
    (
    ap (λ l. old ++ l) (sym (all_one k n rest size more terms (distinct_split names rest n e d)))
    ∙ ap (λ (s : List ℕ). old ++ all_found k (n ∷ rest) (laid (n ∷ rest) s terms)) (sym f)
    ∙ ap (λ (l : List (List ℕ)). old ++ all_found k l (laid l sizes terms)) (sym e) ∙ h
    ) g

-- what the next hit of each point meets
pub heads_push : {A : Type 0} (f : A → Option (List Term × ℕ)) (found new : List A) (heads heads' : List Head) (here : A) (head : Head) → heads ≡ map head_of (map f found) → heads' ≡ heads ++ head ∷ [] → head ≡ head_of (f here) → new ≡ found ++ here ∷ []
    → heads' ≡ map head_of (map f new)
heads_push {A} f found new heads heads' here head h e is g =
    e ∙ ap (λ (l : List Head). l ++ head ∷ []) h ∙ ap (λ (x : Head). map head_of (map f found) ++ x ∷ []) is
    ∙ sym (map_push head_of (map f found) (f here)) ∙ ap (map head_of) (sym (map_push f found here)) ∙ ap (λ (l : List A). map head_of (map f l)) (sym g)

pub counted : (left new : List ℕ) (c : List Term) → new ≡ left ++ left_row (λ _. 0) 0 c → length new ≡ length left + length c
counted left new c e = ap length e ∙ length-append left (left_row (λ _. 0) 0 c) ∙ ap (λ n. length left + n) (length-left_row (λ _. 0) 0 c)

-- If a point is left, so is a size.
pub many_left : (i : ℕ) (catalogue : List (Bor (List ℕ))) (sizes : List ℕ) (terms : List Term) → i < length catalogue → AreSizes (texts (drop i catalogue)) (drop i sizes) terms → i < length sizes
many_left i catalogue sizes terms h are =
    omega (arith, sizes_many (texts (drop i catalogue)) (drop i sizes) terms are, texts_length (drop i catalogue), length-drop i catalogue, length-drop i sizes, h)

-- the name of a point, and those after it
pub texts_next : (catalogue : List (Bor (List ℕ))) (i : ℕ) → i < length catalogue → texts (drop i catalogue) ≡ get_or (texts catalogue) i [] ∷ texts (drop (i + 1) catalogue)
texts_next [] i h = absurd (omega arith)
texts_next (n ∷ ns) zero h = refl
texts_next (n ∷ ns) (suc i) h =
    texts_next ns i (omega arith) ∙ ap (λ k. get_or (texts ns) i [] ∷ texts (drop k (n ∷ ns))) (let one : suc (i + 1) ≡ suc i + 1 = omega arith in one)

-- a loop that lays point after point
pub joined_next : (n count : ℕ) (rs : List Rig) (old new whole : List Term) → n < count → old ++ joined n (count - n) rs ≡ whole → new ≡ old ++ chain_from n 0 rs → new ++ joined (n + 1) (count - (n + 1)) rs ≡ whole
joined_next n count rs old new whole h e g =
    goes_on old new (chain_from n 0 rs) (joined (n + 1) (count - (n + 1)) rs) whole (ap (λ l. old ++ l) (sym (joined_more n count rs h)) ∙ e) g

pub sizes_next : (n count size : ℕ) (rs : List Rig) (old new whole : List ℕ) → n < count → old ++ sizes_of n (count - n) rs ≡ whole → new ≡ old ++ size ∷ [] → size ≡ length (chain_from n 0 rs)
    → new ++ sizes_of (n + 1) (count - (n + 1)) rs ≡ whole
sizes_next n count size rs old new whole h e g is =
    goes_on old new (length (chain_from n 0 rs) ∷ []) (sizes_of (n + 1) (count - (n + 1)) rs) whole (ap (λ l. old ++ l) (sym (sizes_more n count rs h)) ∙ e) (g ∙ ap (λ k. old ++ k ∷ []) is)

-- The entries that are laid, with one more point.
pub laid_next : (names rest : List (List ℕ)) (n : List ℕ) (sizes more : List ℕ) (size : ℕ) (terms : List Term) → names ≡ n ∷ rest → sizes ≡ size ∷ more → laid names sizes terms ≡ entry n (take size terms) ++ laid rest more (drop size terms)
laid_next names rest n sizes more size terms e f = ap (λ (l : List (List ℕ)). laid l sizes terms) e ∙ ap (λ (s : List ℕ). laid (n ∷ rest) s terms) f
