-- The faults that those of a tidied scenario come from.
use Rattle.std.proofs.Common.{◌≡◌, ℕ, zero, suc, ◌+◌, ◌-◌, ◌<◌, ◌≤◌, List, [], ◌∷◌, ◌++◌, Bool, true, false, cond, not, eqb, ◌&&◌, ◌||◌, nat_lt, length, map, take, get_or, Option, Some, None, refl, ap, sym, ◌∙◌, arith, subst, append_assoc, length-append}
use Rattle.std.specs.Prelude.{slice_get, slice_index, remove}
use Rattle.std.specs.List.{AllByRecursion, range_with_len, suffix_len, position_or_len}
use Rattle.std.proofs.lemmas.Bool.Decides.{nat_tests}
use Rattle.std.proofs.lemmas.List.{append-nil, map-append, length-map, take_all}
use Rattle.std.proofs.lemmas.List.Sums.{suffix_len-take_yes, suffix_len-take_no}
use Rattle.std.proofs.Math.Seq.{take-suc}
use Rattle.scenario_values.specs.declared.term.Term.{Term}
use Rattle.scenario_values.specs.declared.term.Task.TheVariants as task
use Rattle.scenario_values.specs.Scenario.{Entries, is_off, faults_in, all_faults}
use Rattle.scenario_values.specs.declared.place.Place.{Place}
use Rattle.scenario_values.specs.Faults.{chain_faults, faults_from as faults_by, faults, chain_named, named_faults}
use Rattle.scenario_values.specs.Keep.{holds, ascend_from, are_faults, members_at, after_term, after_chain}
use Rattle.scenario_values.specs.Tidied.{is_used, is_idle, is_endless, joined_counts, joint, join_by, with_count, joined_onto, joined, without_used, up_to_endless, without_idle_end, tidied_chain, tidied, put}
use Rattle.scenario_values.specs.Origins.{number_of, left_numbers, all_left_numbers, origins, SameFaults}
use Rattle.scenario_values.specs.inside.Walks.{Ascends}
use Rattle.scenario_values.proofs.Walking.{both, ascends_from, absent}
use Rattle.scenario_values.proofs.Sets.{rank, member_is, holds_members, holds_range, faults_from, from_lower, within, range_ascends_above}
use Rattle.scenario_values.proofs.KeptAgain.{after_is}

-- ---- joining terms, and dropping idle ones, leaves the faults

off_named : (name : List ℕ) (t : Term) (ts : List Term) → is_off t.task ≡ true → chain_named name (t ∷ ts) ≡ chain_named name ts
off_named name t ts e = ap (λ b. cond b [] ((name, t) ∷ []) ++ chain_named name ts) e

pair_off : (t u : Term) (n : ℕ) (a b : Bool) → is_idle t ≡ a → is_idle u ≡ b → cond (a && b) (joined_counts t.count u.count) None ≡ Some n → (is_off t.task ≡ true) × (is_off u.task ≡ true)
pair_off t u n true true e f j = ((both (is_off t.task) (eqb t.share 1000000) e).0, (both (is_off u.task) (eqb u.share 1000000) f).0)
pair_off t u n true false e f j = absurd cc
pair_off t u n false b e f j = absurd cc

join_named : (name : List ℕ) (t u : Term) (us : List Term) (o : Option ℕ) → joint t u ≡ o → chain_named name (joined_onto (with_count o t u) us) ≡ chain_named name (with_count o t u ∷ us)
    → chain_named name (join_by o t (joined_onto (with_count o t u) us)) ≡ chain_named name (t ∷ u ∷ us)
join_named name t u us None e h = ap (λ l. cond (is_off t.task) [] ((name, t) ∷ []) ++ l) h
join_named name t u us (Some n) e h =
    let offs = pair_off t u n (is_idle t) (is_idle u) refl refl e in
    let j : Term = record t { count = Some n } in
    h ∙ off_named name j us offs.0 ∙ sym (off_named name t (u ∷ us) offs.0 ∙ off_named name u us offs.1)

onto_named : (name : List ℕ) (t : Term) (us : List Term) → chain_named name (joined_onto t us) ≡ chain_named name (t ∷ us)
unfolding joined_onto
onto_named name t [] = refl
onto_named name t (u ∷ us) = join_named name t u us (joint t u) refl (onto_named name (with_count (joint t u) t u) us)

joined_named : (name : List ℕ) (ts : List Term) → chain_named name (joined ts) ≡ chain_named name ts
unfolding joined
joined_named name [] = refl
joined_named name (t ∷ ts) = onto_named name t ts

one_more : (name : List ℕ) (w : List Term) (t : Term) → is_idle t ≡ true → chain_named name (w ++ t ∷ []) ≡ chain_named name w
one_more name [] t e = off_named name t [] (both (is_off t.task) (eqb t.share 1000000) e).0
one_more name (u ∷ w) t e = ap (λ l. cond (is_off u.task) [] ((name, u) ∷ []) ++ l) (one_more name w t e)

abbrev nothing : Term
nothing = record { share = 1000000; count = None; task = task.Off }

one_less : (m : ℕ) → suc m - 1 ≡ m
one_less m = omega arith

end_case : (name : List ℕ) (c : List Term) (m : ℕ) → suc m ≤ length c → chain_named name (take (m - suffix_len is_idle (take m c)) c) ≡ chain_named name (take m c)
    → (b : Bool) → is_idle (get_or c m nothing) ≡ b → chain_named name (take (suc m - suffix_len is_idle (take (suc m) c)) c) ≡ chain_named name (take (suc m) c)
end_case name c m h s true e =
    let same : suffix_len is_idle (take (suc m) c) ≡ 1 + suffix_len is_idle (take m c) = suffix_len-take_yes is_idle c (suc m) nothing (omega arith) h (ap (λ k. is_idle (get_or c k nothing)) (one_less m) ∙ e) ∙ ap (λ k. 1 + suffix_len is_idle (take k c)) (one_less m) in
    let less : suc m - suffix_len is_idle (take (suc m) c) ≡ m - suffix_len is_idle (take m c) = omega (arith, same) in
    ap (λ n. chain_named name (take n c)) less ∙ s ∙ sym (ap (chain_named name) (take-suc c m nothing h) ∙ one_more name (take m c) (get_or c m nothing) e)
end_case name c m h s false e =
    let same : suffix_len is_idle (take (suc m) c) ≡ 0 = suffix_len-take_no is_idle c (suc m) nothing (omega arith) h (ap (λ k. is_idle (get_or c k nothing)) (one_less m) ∙ e) in
    let less : suc m - suffix_len is_idle (take (suc m) c) ≡ suc m = omega (arith, same) in
    ap (λ n. chain_named name (take n c)) less

ends_at : (name : List ℕ) (c : List Term) (n : ℕ) → n ≤ length c → chain_named name (take (n - suffix_len is_idle (take n c)) c) ≡ chain_named name (take n c)
ends_at name c zero h = let less : 0 - suffix_len is_idle (take 0 c) ≡ 0 = omega arith in ap (λ n. chain_named name (take n c)) less
ends_at name c (suc m) h = end_case name c m h (ends_at name c m (omega arith)) (is_idle (get_or c m nothing)) refl

ends_named : (name : List ℕ) (c : List Term) → chain_named name (without_idle_end c) ≡ chain_named name c
ends_named name c =
    let whole : take (length c) c ≡ c = take_all (length c) c (omega arith) in
    ap (λ x. chain_named name (take (length c - suffix_len is_idle x) c)) (sym whole) ∙ ends_at name c (length c) (omega arith) ∙ ap (chain_named name) whole

-- the chain before terms are joined
abbrev clipped : List Term → List Term
clipped ts = up_to_endless (without_used ts)

tidied_named : (name : List ℕ) (ts : List Term) → chain_named name (tidied_chain ts) ≡ chain_named name (clipped ts)
unfolding tidied_chain
tidied_named name ts = ends_named name (joined (clipped ts)) ∙ joined_named name (clipped ts)

-- ---- the numbers of the faults that are left

abbrev pub Named : Type 0
Named = List ℕ × Term

pub get_at : (pre : List Named) (x : Named) (post : List Named) → slice_get (pre ++ (x ∷ post)) (length pre) ≡ Some x
get_at [] x post = refl
get_at (y ∷ pre) x post = get_at pre x post

abbrev pub place : List ℕ → Term → List Named
place name t = cond (is_off t.task) [] ((name, t) ∷ [])

head_case : (name : List ℕ) (t : Term) (pre more : List Named) (b : Bool) → map (λ x. Some x) (cond b [] ((name, t) ∷ [])) ≡ map (slice_get (pre ++ (cond b [] ((name, t) ∷ []) ++ more))) (cond b [] (length pre ∷ []))
head_case name t pre more true = refl
head_case name t pre more false = ap (λ o. o ∷ []) (sym (get_at pre (name, t) more))

pub length_case : (name : List ℕ) (t : Term) (pre : List Named) (b : Bool) → length (pre ++ cond b [] ((name, t) ∷ [])) ≡ cond b (length pre) (length pre + 1)
length_case name t pre true = ap length (append-nil pre)
length_case name t pre false = omega (arith, length-append pre ((name, t) ∷ []))

-- the faults that are left, each as a fault of the whole list at its number
abbrev Left : List Named → List Named → List ℕ → Type 0
Left found whole numbers = map (λ x. Some x) found ≡ map (slice_get whole) numbers

clip_case : (name : List ℕ) (whole : List Named) (n : ℕ) (t : Term) (ts : List Term) → Left (place name t) whole (number_of n t) → Left (chain_named name (clipped ts)) whole (left_numbers (after_term n t) ts)
    → (u v : Bool) → is_endless t ≡ v
    → Left (chain_named name (up_to_endless (cond (not u) (t ∷ without_used ts) (without_used ts)))) whole (cond u (left_numbers (after_term n t) ts) (number_of n t ++ cond v [] (left_numbers (after_term n t) ts)))
clip_case name whole n t ts head rest true v f = rest
clip_case name whole n t ts head rest false true f =
    let first = without_used ts in
    let one : up_to_endless (t ∷ first) ≡ t ∷ [] = ap (λ b. take (cond (not b) (1 + position_or_len is_endless first) 0 + 1) (t ∷ first)) f in
    ap (λ c. map (λ x. Some x) (chain_named name c)) one ∙ ap (λ l. map (λ x. Some x) l) (append-nil (place name t)) ∙ head ∙ ap (map (slice_get whole)) (sym (append-nil (number_of n t)))
clip_case name whole n t ts head rest false false f =
    let first = without_used ts in
    let more : (1 + position_or_len is_endless first) + 1 ≡ suc (position_or_len is_endless first + 1) = omega arith in
    let one : up_to_endless (t ∷ first) ≡ t ∷ up_to_endless first =
    ap (λ b. take (cond (not b) (1 + position_or_len is_endless first) 0 + 1) (t ∷ first)) f ∙ ap (λ n. take n (t ∷ first)) more
    in
    ap (λ c. map (λ x. Some x) (chain_named name c)) one ∙ map-append (λ (x : Named). Some x) (place name t) (chain_named name (up_to_endless first))
    ∙ ap (λ l. l ++ map (λ x. Some x) (chain_named name (up_to_endless first))) head ∙ ap (λ l. map (slice_get whole) (number_of n t) ++ l) rest
    ∙ sym (map-append (slice_get whole) (number_of n t) (left_numbers (after_term n t) ts))

clip_named : (name : List ℕ) (ts : List Term) (pre post : List Named) → Left (chain_named name (clipped ts)) (pre ++ (chain_named name ts ++ post)) (left_numbers (length pre) ts)
clip_named name [] pre post = refl
clip_named name (t ∷ ts) pre post =
    let n = length pre in
    let p = place name t in
    let more = chain_named name ts ++ post in
    let whole = pre ++ ((p ++ chain_named name ts) ++ post) in
    let apart : whole ≡ pre ++ (p ++ more) = ap (λ l. pre ++ l) (append_assoc p (chain_named name ts) post) in
    let again : (pre ++ p) ++ more ≡ whole = append_assoc pre p more ∙ sym apart in
    let head : Left p whole (number_of n t) = head_case name t pre more (is_off t.task) ∙ ap (λ w. map (slice_get w) (number_of n t)) (sym apart) in
    let rest : Left (chain_named name (clipped ts)) whole (left_numbers (after_term n t) ts) =
    clip_named name ts (pre ++ p) post ∙ ap (λ w. map (slice_get w) (left_numbers (length (pre ++ p)) ts)) again ∙ ap (λ m. map (slice_get whole) (left_numbers m ts)) (length_case name t pre (is_off t.task))
    in
    clip_case name whole n t ts head rest (is_used t.count) (is_endless t) refl

positive : (n : ℕ) → nat_lt 0 (suc n) ≡ true
positive n = grind (arith, nat_tests)

put_named : (name : List ℕ) (c : List Term) (es : Entries) → named_faults (put name c es) ≡ chain_named name c ++ named_faults es
put_named name [] es = refl
put_named name (t ∷ c) es = ap (λ b. named_faults (cond b ((name, t ∷ c) ∷ es) es)) (positive (length c))

count_case : (name : List ℕ) (t : Term) (l : List Named) (n : ℕ) (b : Bool) → length l ≡ n → length (cond b [] ((name, t) ∷ []) ++ l) ≡ cond b 0 1 + n
count_case name t l n true h = omega arith
count_case name t l n false h = omega arith

pub count_named : (name : List ℕ) (ts : List Term) → length (chain_named name ts) ≡ faults_in ts
count_named name [] = refl
count_named name (t ∷ ts) = count_case name t (chain_named name ts) (faults_in ts) (is_off t.task) (count_named name ts)

pub count_faults : (s : Entries) → length (named_faults s) ≡ all_faults s
count_faults [] = refl
count_faults (e ∷ es) = omega (arith, length-append (chain_named e.0 e.1) (named_faults es), count_named e.0 e.1, count_faults es)

left_from : (pre : List Named) (es : Entries) → Left (named_faults (tidied es)) (pre ++ named_faults es) (all_left_numbers (length pre) es)
left_from pre [] = refl
left_from pre (e ∷ es) =
    let here = chain_named e.0 e.1 in
    let rest = named_faults es in
    let whole = pre ++ (here ++ rest) in
    let ns = left_numbers (length pre) e.1 in
    let next : length (pre ++ here) ≡ after_chain (length pre) e.1 = omega (arith, length-append pre here, count_named e.0 e.1, after_is (length pre) e.1) in
    let chain : Left (chain_named e.0 (tidied_chain e.1)) whole ns = ap (λ l. map (λ x. Some x) l) (tidied_named e.0 e.1) ∙ clip_named e.0 e.1 pre rest in
    let others : Left (named_faults (tidied es)) whole (all_left_numbers (after_chain (length pre) e.1) es) =
    left_from (pre ++ here) es ∙ ap (λ w. map (slice_get w) (all_left_numbers (length (pre ++ here)) es)) (append_assoc pre here rest) ∙ ap (λ m. map (slice_get whole) (all_left_numbers m es)) next
    in
    ap (λ l. map (λ x. Some x) l) (put_named e.0 (tidied_chain e.1) (tidied es)) ∙ map-append (λ (x : Named). Some x) (chain_named e.0 (tidied_chain e.1)) (named_faults (tidied es))
    ∙ ap (λ l. l ++ map (λ x. Some x) (named_faults (tidied es))) chain ∙ ap (λ l. map (slice_get whole) ns ++ l) others
    ∙ sym (map-append (slice_get whole) ns (all_left_numbers (after_chain (length pre) e.1) es))

pub origins_named : (s : Entries) → map (λ x. Some x) (named_faults (tidied s)) ≡ map (slice_get (named_faults s)) (origins s)
origins_named s = left_from [] s

pub origins_count : (s : Entries) → length (origins s) ≡ all_faults (tidied s)
origins_count s =
    sym (length-map (origins s) (slice_get (named_faults s))) ∙ sym (ap length (origins_named s)) ∙ length-map (named_faults (tidied s)) (λ x. Some x) ∙ count_faults (tidied s)

-- ---- the numbers ascend

number_case : (low n : ℕ) (k : ℕ) (xs : List ℕ) (b : Bool) → cond b k (k + 1) ≤ low → low ≤ n → ascend_from low n xs ≡ true → ascend_from k n (cond b [] (k ∷ []) ++ xs) ≡ true
number_case low n k xs true h m e = from_lower k low n xs h e
number_case low n k xs false h m e = faults_from k n k xs (omega arith) (omega arith) (from_lower (k + 1) low n xs h e)

up_case : (k : ℕ) (b : Bool) → k ≤ cond b k (k + 1)
up_case k true = omega arith
up_case k false = omega arith

left_case : (k n : ℕ) (t : Term) (ts : List Term) (rest : List ℕ) (u v : Bool) → after_chain (after_term k t) ts ≤ n → ascend_from (after_chain (after_term k t) ts) n rest ≡ true
    → ascend_from (after_term k t) n (left_numbers (after_term k t) ts ++ rest) ≡ true
    → ascend_from k n (cond u (left_numbers (after_term k t) ts) (number_of k t ++ cond v [] (left_numbers (after_term k t) ts)) ++ rest) ≡ true
left_case k n t ts rest true v m e h = from_lower k (after_term k t) n (left_numbers (after_term k t) ts ++ rest) (up_case k (is_off t.task)) h
left_case k n t ts rest false true m e h =
    ap (λ l. ascend_from k n (l ++ rest)) (append-nil (number_of k t)) ∙ number_case (after_chain (after_term k t) ts) n k rest (is_off t.task) (omega (arith, after_is (after_term k t) ts)) m e
left_case k n t ts rest false false m e h =
    ap (ascend_from k n) (append_assoc (number_of k t) (left_numbers (after_term k t) ts) rest) ∙ number_case (after_term k t) n k (left_numbers (after_term k t) ts ++ rest) (is_off t.task) (omega arith) (omega (arith, after_is (after_term k t) ts)) h

left_ascend : (k n : ℕ) (ts : List Term) (rest : List ℕ) → after_chain k ts ≤ n → ascend_from (after_chain k ts) n rest ≡ true → ascend_from k n (left_numbers k ts ++ rest) ≡ true
unfolding after_chain
left_ascend k n [] rest m e = e
left_ascend k n (t ∷ ts) rest m e = left_case k n t ts rest (is_used t.count) (is_endless t) m e (left_ascend (after_term k t) n ts rest m e)

all_ascend : (k n : ℕ) (es : Entries) → k + all_faults es ≤ n → ascend_from k n (all_left_numbers k es) ≡ true
all_ascend k n [] m = refl
all_ascend k n (e ∷ es) m =
    let next = after_is k e.1 in
    left_ascend k n e.1 (all_left_numbers (after_chain k e.1) es) (omega (arith, next)) (all_ascend (after_chain k e.1) n es (omega (arith, next)))

pub origins_are_faults : (s : Entries) → are_faults (all_faults s) (origins s) ≡ true
origins_are_faults s = all_ascend 0 (all_faults s) s (omega arith)

-- ---- the same faults, by their numbers in both

same_from : (set own : List ℕ) (m : ℕ) (ns : List ℕ) → ((j : ℕ) → j < length ns → holds set (slice_index ns j) ≡ holds own (m + j)) → SameFaults set own m ns
same_from set own m [] h = tt
same_from set own m (n ∷ ns) h =
    let here : m + 0 ≡ m = omega arith in (
      h 0 (omega arith) ∙ ap (holds own) here,
      same_from set own (m + 1) ns (λ j l. let next : m + suc j ≡ (m + 1) + j = omega arith in h (suc j) (omega arith) ∙ ap (holds own) next),
    )

self_equal : (k : ℕ) → eqb k k ≡ true
self_equal k = grind (arith, nat_tests)

equal_is : (a b : ℕ) → eqb a b ≡ true → a ≡ b
equal_is a b e = grind (arith, nat_tests)

-- a member is held, and as many are below it as its place says
member_parts : (ns : List ℕ) (j : ℕ) → Ascends ns → j < length ns → (holds ns (slice_index ns j) ≡ true) × (rank ns (slice_index ns j) ≡ j)
member_parts ns j a l =
    let k = slice_index ns j in
    let p = both (holds ns k) (eqb j (rank ns k)) (sym (member_is k j ns a l) ∙ self_equal k) in
    (p.0, sym (equal_is j (rank ns k) p.1))

pub same_members : (n : ℕ) (ns own : List ℕ) → are_faults n ns ≡ true → AllByRecursion (λ i. i < length ns) own → SameFaults (members_at ns own) own 0 ns
same_members n ns own e w =
    let a = ascends_from 0 n ns e in
    same_from (members_at ns own) own 0 ns (λ j l.
    let k = slice_index ns j in
    let p = member_parts ns j a l in
    let zero_up : 0 + j ≡ j = omega arith in
    holds_members k ns own a w ∙ ap (λ b. b && holds own (rank ns k)) p.0 ∙ ap (holds own) (p.1 ∙ sym zero_up))

equal_case : (a k j n : ℕ) (b : Bool) → eqb a k ≡ b → a ≤ k → k < a + suc n → (a + 1 ≤ k → holds (remove (range_with_len (a + 1) n) j) k ≡ not (eqb k ((a + 1) + j)))
    → (b || holds (remove (range_with_len (a + 1) n) j) k) ≡ not (eqb k (a + suc j))
equal_case a k j n true e l h f = let apart : eqb k (a + suc j) ≡ false = grind (arith, nat_tests) in sym (ap not apart)
equal_case a k j n false e l h f = let up : a + 1 ≤ k = grind (arith, nat_tests) in let same : (a + 1) + j ≡ a + suc j = omega arith in f up ∙ ap (λ x. not (eqb k x)) same

first_case : (a k n : ℕ) (b : Bool) → eqb k a ≡ b → a ≤ k → k < a + suc n → holds (range_with_len (a + 1) n) k ≡ not b
first_case a k n true e l h = absent k (range_with_len (a + 1) n) (range_ascends_above k (a + 1) n (grind (arith, nat_tests)))
first_case a k n false e l h = holds_range (a + 1) n k (grind (arith, nat_tests)) (omega arith)

holds_without : (a n i k : ℕ) → a ≤ k → k < a + n → holds (remove (range_with_len a n) i) k ≡ not (eqb k (a + i))
holds_without a zero i k l h = absurd (omega arith)
holds_without a (suc n) zero k l h = let same : a ≡ a + 0 = omega arith in first_case a k n (eqb k a) refl l h ∙ ap (λ x. not (eqb k x)) same
holds_without a (suc n) (suc j) k l h = equal_case a k j n (eqb a k) refl l h (λ up. holds_without (a + 1) n j k up (omega arith))

member_below : (n : ℕ) (ns : List ℕ) (j : ℕ) → AllByRecursion (λ k. k < n) ns → j < length ns → slice_index ns j < n
member_below n [] j w l = absurd (omega arith)
member_below n (x ∷ xs) zero w l = w.0
member_below n (x ∷ xs) (suc j) w l = member_below n xs j w.1 (omega arith)

pub same_without : (n : ℕ) (ns : List ℕ) (i : ℕ) → are_faults n ns ≡ true → i < length ns → SameFaults (remove (range_with_len 0 n) (slice_index ns i)) (remove (range_with_len 0 (length ns)) i) 0 ns
same_without n ns i e h =
    let a = ascends_from 0 n ns e in
    let w = within 0 n ns e in
    same_from (remove (range_with_len 0 n) (slice_index ns i)) (remove (range_with_len 0 (length ns)) i) 0 ns (λ j l.
    let k = slice_index ns j in
    let o = slice_index ns i in
    let p = member_parts ns i a h in
    let mine : eqb k o ≡ eqb j i = member_is o j ns a l ∙ ap (λ b. b && eqb j (rank ns o)) p.0 ∙ ap (eqb j) p.1 in
    let zero_o : 0 + o ≡ o = omega arith in
    let zero_i : 0 + i ≡ i = omega arith in
    let zero_j : 0 + j ≡ j = omega arith in
    holds_without 0 n o k (omega arith) (omega (arith, member_below n ns j w l)) ∙ ap (λ x. not (eqb k x)) zero_o ∙ ap not mine
    ∙ sym (holds_without 0 (length ns) i (0 + j) (omega arith) (omega arith) ∙ ap (λ x. not (eqb (0 + j) x)) zero_i ∙ ap (λ x. not (eqb x i)) zero_j))

-- without fault i of the tidied scenario, and without its origin in the scenario
pub origins_without : (s : Entries) (i : ℕ) → i < all_faults (tidied s)
    → SameFaults (remove (range_with_len 0 (all_faults s)) (slice_index (origins s) i)) (remove (range_with_len 0 (all_faults (tidied s))) i) 0 (origins s)
origins_without s i h =
    let count = origins_count s in
    subst (λ (m : ℕ). SameFaults (remove (range_with_len 0 (all_faults s)) (slice_index (origins s) i)) (remove (range_with_len 0 m) i) 0 (origins s)) count
    (same_without (all_faults s) (origins s) i (origins_are_faults s) (omega arith))

pub origins_members : (s : Entries) (own : List ℕ) → AllByRecursion (λ i. i < all_faults (tidied s)) own → SameFaults (members_at (origins s) own) own 0 (origins s)
origins_members s own w =
    same_members (all_faults s) (origins s) own (origins_are_faults s) (subst (λ (m : ℕ). AllByRecursion (λ i. i < m) own) (sym (origins_count s)) w)

-- ---- how many places

places_case : (entry k : ℕ) (l : List Place) (n : ℕ) (b : Bool) → length l ≡ n → length (cond b [] (record { entry = entry; term = k } ∷ []) ++ l) ≡ cond b 0 1 + n
places_case entry k l n true h = omega arith
places_case entry k l n false h = omega arith

chain_places : (entry k : ℕ) (ts : List Term) → length (chain_faults entry k ts) ≡ faults_in ts
unfolding chain_faults
chain_places entry k [] = refl
chain_places entry k (t ∷ ts) = places_case entry k (chain_faults entry (k + 1) ts) (faults_in ts) (is_off t.task) (chain_places entry (k + 1) ts)

places_from : (entry : ℕ) (es : Entries) → length (faults_by entry es) ≡ all_faults es
unfolding faults_by
places_from entry [] = refl
places_from entry (e ∷ es) = omega (arith, length-append (chain_faults entry 0 e.1) (faults_by (entry + 1) es), chain_places entry 0 e.1, places_from (entry + 1) es)

pub count_places : (s : Entries) → length (faults s) ≡ all_faults s
count_places s = places_from 0 s

apart_case : (ns : List ℕ) (k j : ℕ) (b : Bool) → eqb k j ≡ b → holds ns k ≡ true → holds ns j ≡ false → b ≡ false
apart_case ns k j true e h f = let same : k ≡ j = equal_is k j e in sym (sym f ∙ ap (holds ns) (sym same) ∙ h)
apart_case ns k j false e h f = refl

-- All faults except one that is dropped are all faults of the tidied scenario.
pub origins_dropped : (s : Entries) (j : ℕ) → holds (origins s) j ≡ false → SameFaults (remove (range_with_len 0 (all_faults s)) j) (range_with_len 0 (all_faults (tidied s))) 0 (origins s)
origins_dropped s j f =
    let ns = origins s in
    let n = all_faults s in
    let e = origins_are_faults s in
    let a = ascends_from 0 n ns e in
    same_from (remove (range_with_len 0 n) j) (range_with_len 0 (all_faults (tidied s))) 0 ns (λ i l.
    let k = slice_index ns i in
    let zero_j : 0 + j ≡ j = omega arith in
    let apart : eqb k j ≡ false = apart_case ns k j (eqb k j) refl (member_parts ns i a l).0 f in
    holds_without 0 n j k (omega arith) (omega (arith, member_below n ns i (within 0 n ns e) l)) ∙ ap (λ x. not (eqb k x)) zero_j ∙ ap not apart
    ∙ sym (holds_range 0 (all_faults (tidied s)) (0 + i) (omega arith) (omega (arith, l, origins_count s))))

pub origins_inside : (s : Entries) (i : ℕ) → i < all_faults (tidied s) → slice_index (origins s) i < all_faults s
origins_inside s i h = member_below (all_faults s) (origins s) i (within 0 (all_faults s) (origins s) (origins_are_faults s)) (omega (arith, h, origins_count s))
