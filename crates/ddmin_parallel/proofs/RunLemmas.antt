use Rattle.std.proofs.Common.{◌≡◌, ℕ, zero, suc, ◌+◌, ◌-◌, ◌≤◌, ◌<◌, Bool, true, false, List, [], ◌∷◌, ◌++◌, length, take, get_or, Option, Some, None}
use Rattle.std.proofs.Common.{refl, sym, ◌∙◌, ap, subst, cond, arith, append_assoc, append-nil}
use Rattle.std.proofs.lemmas.List.{take_more}
use Rattle.std.specs.Bool.{nat_eq}
use Rattle.std.specs.List.{range_with_len}
use Rattle.std.proofs.lemmas.Bool.Decides.{nat_tests}
use Rattle.ddmin_parallel.specs.Runs.{faults_of, IsApart, AreApart}
use Rattle.ddmin_parallel.specs.inside.Packing.{with_fault, with_faults, runs_of}
use Rattle.ddmin_parallel.proofs.Steps.{range_push}

same_number : (a b : ℕ) → nat_eq a b ≡ true → a ≡ b
same_number a b is = grind (arith, nat_tests)

other_number : (a b : ℕ) → nat_eq a b ≡ false → a ≡ b → ⊥
other_number a b is same = grind (arith, nat_tests)

one_fault : (x : ℕ) → range_with_len x (x + 1 - x) ≡ x ∷ []
one_fault x = let one : x + 1 - x ≡ 1 = omega arith in ap (range_with_len x) one

-- the faults from the first one to x, from those below x
range_to : (first x : ℕ) → first ≤ x → range_with_len first (x + 1 - first) ≡ range_with_len first (x - first) ++ x ∷ []
range_to first x le =
    let more : x + 1 - first ≡ (x - first) + 1 = omega arith in
    let there : first + (x - first) ≡ x = omega arith in
    ap (range_with_len first) more ∙ range_push first (x - first) ∙ ap (λ y. range_with_len first (x - first) ++ y ∷ []) there

longer_run : (first last x : ℕ) → first ≤ last → last + 1 ≡ x → range_with_len first (x + 1 - first) ≡ range_with_len first (last + 1 - first) ++ x ∷ []
longer_run first last x le next =
    let up : first ≤ x = omega arith in
    let same : x - first ≡ last + 1 - first = omega arith in
    range_to first x up ∙ ap (λ n. range_with_len first n ++ x ∷ []) same

-- a run's faults so far, and one more
pub run_step : (xs ys : List ℕ) (first x : ℕ) → first ≤ x → ys ≡ xs ++ range_with_len first (x - first)
    → ys ++ x ∷ [] ≡ xs ++ range_with_len first (x + 1 - first)
run_step xs ys first x le is =
    ap (λ zs. zs ++ x ∷ []) is ∙ append_assoc xs (range_with_len first (x - first)) (x ∷ []) ∙ ap (λ zs. xs ++ zs) (sym (range_to first x le))

pub run_end : (xs ys : List ℕ) (first last x : ℕ) → first ≤ last → x ≡ last → ys ≡ xs ++ range_with_len first (x - first)
    → ys ++ last ∷ [] ≡ xs ++ (range_with_len first (last + 1 - first) ++ [])
run_end xs ys first last x le same is =
    run_step xs ys first last le (is ∙ ap (λ n. xs ++ range_with_len first (n - first)) same)
    ∙ ap (λ zs. xs ++ zs) (sym (append-nil (range_with_len first (last + 1 - first))))

faults_more : (rs : List (ℕ × ℕ)) (x : ℕ) → AreApart rs → faults_of (with_fault rs x) ≡ faults_of rs ++ x ∷ []
faults_more [] x apart = append-nil _ ∙ one_fault x
faults_more (run ∷ []) x apart = at (nat_eq (run.1 + 1) x) refl
  where
    here : List ℕ
    here = range_with_len run.0 (run.1 + 1 - run.0)

    at : (b : Bool) → nat_eq (run.1 + 1) x ≡ b → faults_of (cond b ((run.0, x) ∷ []) (run ∷ (x, x) ∷ [])) ≡ faults_of (run ∷ []) ++ x ∷ []
    at true is =
        append-nil _ ∙ longer_run run.0 run.1 x apart.0 (same_number _ _ is) ∙ ap (λ xs. xs ++ x ∷ []) (sym (append-nil here))
    at false is =
        ap (λ xs. here ++ xs) (append-nil (range_with_len x (x + 1 - x)) ∙ one_fault x) ∙ ap (λ xs. xs ++ x ∷ []) (sym (append-nil here))
faults_more (run ∷ next ∷ rs) x apart =
    ap (λ xs. range_with_len run.0 (run.1 + 1 - run.0) ++ xs) (faults_more (next ∷ rs) x apart.1.1)
    ∙ sym (append_assoc (range_with_len run.0 (run.1 + 1 - run.0)) (faults_of (next ∷ rs)) (x ∷ []))

still_apart : (run next : ℕ × ℕ) (rs : List (ℕ × ℕ)) (x : ℕ) → IsApart run (next ∷ rs) → IsApart run (with_fault (next ∷ rs) x)
still_apart run next [] x apart = at (nat_eq (next.1 + 1) x)
  where
    at : (b : Bool) → IsApart run (cond b ((next.0, x) ∷ []) (next ∷ (x, x) ∷ []))
    at true = apart
    at false = apart
still_apart run next (r ∷ rs) x apart = apart

apart_more : (rs : List (ℕ × ℕ)) (x : ℕ) → AreApart rs → AreApart (with_fault rs x)
apart_more [] x apart = (omega arith, (tt, tt))
apart_more (run ∷ []) x apart = at (nat_eq (run.1 + 1) x) refl
  where
    at : (b : Bool) → nat_eq (run.1 + 1) x ≡ b → AreApart (cond b ((run.0, x) ∷ []) (run ∷ (x, x) ∷ []))
    at true is = let le = apart.0 in let next = same_number _ _ is in (omega arith, (tt, tt))
    at false is = (apart.0, (other_number _ _ is, (omega arith, (tt, tt))))
apart_more (run ∷ next ∷ rs) x apart = (apart.0, (still_apart run next rs x apart.1.0, apart_more (next ∷ rs) x apart.1.1))

apart_all : (rs : List (ℕ × ℕ)) (xs : List ℕ) → AreApart rs → AreApart (with_faults rs xs)
apart_all rs [] apart = apart
apart_all rs (x ∷ xs) apart = apart_all (with_fault rs x) xs (apart_more rs x apart)

faults_all : (rs : List (ℕ × ℕ)) (xs : List ℕ) → AreApart rs → faults_of (with_faults rs xs) ≡ faults_of rs ++ xs
faults_all rs [] apart = sym (append-nil _)
faults_all rs (x ∷ xs) apart =
    faults_all (with_fault rs x) xs (apart_more rs x apart) ∙ ap (λ ys. ys ++ xs) (faults_more rs x apart)
    ∙ append_assoc (faults_of rs) (x ∷ []) xs

-- a set's runs have its faults
pub faults_of_runs : (s : List ℕ) → faults_of (runs_of s) ≡ s
faults_of_runs s = faults_all [] s tt

-- and none of them could be joined to the next
pub apart_runs : (s : List ℕ) → AreApart (runs_of s)
apart_runs s = apart_all [] s tt

with_append : (rs : List (ℕ × ℕ)) (xs ys : List ℕ) → with_faults rs (xs ++ ys) ≡ with_faults (with_faults rs xs) ys
with_append rs [] ys = refl
with_append rs (x ∷ xs) ys = with_append (with_fault rs x) xs ys

-- one fault more after the last run
with_last : (rs : List (ℕ × ℕ)) (run : ℕ × ℕ) (x : ℕ)
    → with_fault (rs ++ run ∷ []) x ≡ cond (nat_eq (run.1 + 1) x) (rs ++ (run.0, x) ∷ []) (rs ++ run ∷ (x, x) ∷ [])
with_last [] run x = refl
with_last (r ∷ []) run x = at (nat_eq (run.1 + 1) x)
  where
    at : (b : Bool) → r ∷ cond b ((run.0, x) ∷ []) (run ∷ (x, x) ∷ []) ≡ cond b (r ∷ (run.0, x) ∷ []) (r ∷ run ∷ (x, x) ∷ [])
    at true = refl
    at false = refl
with_last (r ∷ next ∷ rs) run x = ap (λ ss. r ∷ ss) (with_last (next ∷ rs) run x) ∙ at (nat_eq (run.1 + 1) x)
  where
    at : (b : Bool) → r ∷ cond b (next ∷ (rs ++ (run.0, x) ∷ [])) (next ∷ (rs ++ run ∷ (x, x) ∷ []))
        ≡ cond b (r ∷ next ∷ (rs ++ (run.0, x) ∷ [])) (r ∷ next ∷ (rs ++ run ∷ (x, x) ∷ []))
    at true = refl
    at false = refl

faults_append : (rs ss : List (ℕ × ℕ)) → faults_of (rs ++ ss) ≡ faults_of rs ++ faults_of ss
faults_append [] ss = refl
faults_append (r ∷ rs) ss =
    ap (λ xs. range_with_len r.0 (r.1 + 1 - r.0) ++ xs) (faults_append rs ss)
    ∙ sym (append_assoc (range_with_len r.0 (r.1 + 1 - r.0)) (faults_of rs) (faults_of ss))

-- Packed runs are one if their faults are.
pub same_runs : (rs ss : List (ℕ × ℕ)) → runs_of (faults_of rs) ≡ rs → runs_of (faults_of ss) ≡ ss → faults_of rs ≡ faults_of ss → rs ≡ ss
same_runs rs ss packed too same = sym packed ∙ ap runs_of same ∙ too

-- The run with this fault at its end, if that leaves no gap.
abbrev pub lengthened : ℕ × ℕ → ℕ → Option (ℕ × ℕ)
lengthened run x = cond (nat_eq (run.1 + 1) x) (Some (run.0, x)) None

longer_step : (rs : List (ℕ × ℕ)) (run longer : ℕ × ℕ) (x : ℕ) → Some longer ≡ lengthened run x
    → with_fault (rs ++ run ∷ []) x ≡ rs ++ longer ∷ []
longer_step rs run longer x is = with_last rs run x ∙ at (nat_eq (run.1 + 1) x) is
  where
    at : (b : Bool) → Some longer ≡ cond b (Some (run.0, x)) None → cond b (rs ++ (run.0, x) ∷ []) (rs ++ run ∷ (x, x) ∷ []) ≡ rs ++ longer ∷ []
    at true e = let same : longer ≡ (run.0, x) = cc in ap (λ r. rs ++ r ∷ []) (sym same)
    at false e = cc

apart_step : (rs : List (ℕ × ℕ)) (run : ℕ × ℕ) (x : ℕ) → None ≡ lengthened run x
    → with_fault (rs ++ run ∷ []) x ≡ (rs ++ run ∷ []) ++ (x, x) ∷ []
apart_step rs run x is = with_last rs run x ∙ at (nat_eq (run.1 + 1) x) is
  where
    at : (b : Bool) → ◌≡◌ {A = Option (ℕ × ℕ)} None (cond b (Some (run.0, x)) None)
        → cond b (rs ++ (run.0, x) ∷ []) (rs ++ run ∷ (x, x) ∷ []) ≡ (rs ++ run ∷ []) ++ (x, x) ∷ []
    at true e = cc
    at false e = sym (append_assoc rs (run ∷ []) ((x, x) ∷ []))

taken_more : (start ss : List (ℕ × ℕ)) (xs : List ℕ) (i : ℕ) → i < length xs → with_faults start (take i xs) ≡ ss
    → with_faults start (take (i + 1) xs) ≡ with_fault ss (get_or xs i 0)
taken_more start ss xs i lt is =
    ap (with_faults start) (take_more xs i 0 lt) ∙ with_append start (take i xs) (get_or xs i 0 ∷ []) ∙ ap (λ rs. with_fault rs (get_or xs i 0)) is

-- a further fault makes the last run longer
pub taken_longer : (start rs : List (ℕ × ℕ)) (run longer : ℕ × ℕ) (xs : List ℕ) (i : ℕ) → i < length xs
    → with_faults start (take i xs) ≡ rs ++ run ∷ [] → Some longer ≡ lengthened run (get_or xs i 0)
    → with_faults start (take (i + 1) xs) ≡ rs ++ longer ∷ []
taken_longer start rs run longer xs i lt is next =
    taken_more start (rs ++ run ∷ []) xs i lt is ∙ longer_step rs run longer (get_or xs i 0) next

-- a further fault begins a run
pub taken_apart : (start rs : List (ℕ × ℕ)) (run : ℕ × ℕ) (xs : List ℕ) (i : ℕ) → i < length xs
    → with_faults start (take i xs) ≡ rs ++ run ∷ [] → None ≡ lengthened run (get_or xs i 0)
    → with_faults start (take (i + 1) xs) ≡ (rs ++ run ∷ []) ++ (get_or xs i 0, get_or xs i 0) ∷ []
taken_apart start rs run xs i lt is next =
    taken_more start (rs ++ run ∷ []) xs i lt is ∙ apart_step rs run (get_or xs i 0) next

-- each run is ordered
ordered_at : (rs : List (ℕ × ℕ)) (i : ℕ) (d : ℕ × ℕ) → AreApart rs → i < length rs → (get_or rs i d).0 ≤ (get_or rs i d).1
ordered_at [] i d apart lt = absurd (omega arith)
ordered_at (r ∷ rs) zero d apart lt = apart.0
ordered_at (r ∷ rs) (suc i) d apart lt = ordered_at rs i d apart.1.1 (omega arith)

pub packed_ordered : (rs : List (ℕ × ℕ)) (i : ℕ) (d : ℕ × ℕ) → runs_of (faults_of rs) ≡ rs → i < length rs → (get_or rs i d).0 ≤ (get_or rs i d).1
packed_ordered rs i d packed lt = ordered_at rs i d (subst AreApart packed (apart_runs (faults_of rs))) lt

-- the faults of one run more
pub runs_step : (rs : List (ℕ × ℕ)) (i : ℕ) (d : ℕ × ℕ) → i < length rs → faults_of (take (i + 1) rs) ≡ faults_of (take i rs) ++ faults_of (get_or rs i d ∷ [])
runs_step rs i d lt = ap faults_of (take_more rs i d lt) ∙ faults_append (take i rs) (get_or rs i d ∷ [])

-- a set's runs are packed
pub is_packed : (rs : List (ℕ × ℕ)) (s : List ℕ) → rs ≡ runs_of s → runs_of (faults_of rs) ≡ rs
is_packed rs s is = subst (λ ss. runs_of (faults_of ss) ≡ ss) (sym is) (ap runs_of (faults_of_runs s))

pub has_faults : (rs : List (ℕ × ℕ)) (s : List ℕ) → rs ≡ runs_of s → faults_of rs ≡ s
has_faults rs s is = ap faults_of is ∙ faults_of_runs s
