-- A term that tidying drops could never act.
use Rattle.std.proofs.Common.{◌≡◌, ℕ, suc, ◌+◌, ◌-◌, ◌%◌, Bool, true, false, cond, eqb, leb, not, ◌&&◌, nat_lt, List, [], ◌∷◌, ◌++◌, Option, Some, None, refl, ap, ◌∙◌, arith}
use Rattle.std.specs.Option.{option_map_or}
use Rattle.std.specs.List.{AllByRecursion}
use Rattle.std.proofs.lemmas.Bool.Decides.{nat_tests}
use Rattle.scenario_values.specs.declared.term.Term.{Term}
use Rattle.scenario_values.specs.Scenario.{Entries, chain_of}
use Rattle.scenario_values.specs.Tidied.{is_used, is_endless, is_uncounted}
use Rattle.action_eval.specs.Words.{word}
use Rattle.action_eval.specs.Trial.{Trial, tried}
use Rattle.action_eval.specs.Answers.{Given, Hit, next, and_then, words_of, acted, is_used_up, name_of, trial, place_in}
use Rattle.action_eval.specs.LeftTerms.{is_left, ActsLeft, OnlyLeftActed}
use Rattle.action_eval.proofs.Kept.{Above, agrees}

-- the place that acted, counted from place i, is of a term that tidying leaves
abbrev LeftAt : ℕ → List Term → Option ℕ → Type 0
LeftAt i ts None = Unit {0}
LeftAt i ts (Some p) = is_left ts (p - i) ≡ true

left_behind : (i : ℕ) (t : Term) (ts : List Term) (o : Option ℕ) → is_endless t ≡ false → Above (i + 1) o → LeftAt (i + 1) ts o → LeftAt i (t ∷ ts) o
left_behind i t ts None e h l = tt
left_behind i t ts (Some p) e h l =
    let more : p - i ≡ suc (p - (i + 1)) = omega arith in
    ap (is_left (t ∷ ts)) more ∙ ap (λ b. cond b false (is_left ts (p - (i + 1)))) e ∙ l

counted : (o : Option ℕ) (n : ℕ) (c : Bool) → option_map_or (λ count. leb count n) o false ≡ true → (is_uncounted o && c) ≡ false
counted None n c e = cc
counted (Some k) n c e = refl

and_false : (b c : Bool) → c ≡ false → (b && c) ≡ false
and_false true c e = e
and_false false c e = refl

unused : (o : Option ℕ) (n : ℕ) → option_map_or (λ count. leb count n) o false ≡ false → not (is_used o) ≡ true
unused None n e = refl
unused (Some k) n e = grind (arith, nat_tests)

acts_left : (i : ℕ) (t : Term) (ts : List Term) → not (is_used t.count) ≡ true → is_left (t ∷ ts) (i - i) ≡ true
acts_left i t ts e = let none : i - i ≡ 0 = omega arith in ap (is_left (t ∷ ts)) none ∙ e

left_case : (i n : ℕ) (t : Term) (ts : List Term) (b c d : Bool) (p q : Trial) → (b ≡ true → LeftAt i (t ∷ ts) p.place) → (b ≡ false → not (is_used t.count) ≡ true) → (c ≡ false → LeftAt i (t ∷ ts) q.place)
    → LeftAt i (t ∷ ts) (cond b p (cond c (record { place = Some i; next = n }) (cond d (record { place = Some i; next = n + 1 }) q))).place
left_case i n t ts true c d p q e f g = e refl
left_case i n t ts false true d p q e f g = acts_left i t ts (f refl)
left_case i n t ts false false true p q e f g = acts_left i t ts (f refl)
left_case i n t ts false false false p q e f g = g refl

place_left : (word : ℕ → ℕ) (times : ℕ → ℕ) (i : ℕ) (ts : List Term) (n : ℕ) → LeftAt i ts (tried word (is_used_up times) i ts n).place
place_left word times i [] n = tt
place_left word times i (t ∷ ts) n =
    let p = tried word (is_used_up times) (i + 1) ts n in
    let q = tried word (is_used_up times) (i + 1) ts (n + 1) in
    left_case i n t ts (is_used_up times i t) (eqb t.share 1000000) (nat_lt (word n % 1000000) t.share) p q
    (λ e. left_behind i t ts p.place (counted t.count (times i) (eqb t.share 1000000) e) (agrees word times (i + 1) ts n).above (place_left word times (i + 1) ts n))
    (λ e. unused t.count (times i) e)
    (λ e. left_behind i t ts q.place (and_false (is_uncounted t.count) (eqb t.share 1000000) e) (agrees word times (i + 1) ts (n + 1)).above (place_left word times (i + 1) ts (n + 1)))

term_left : (s : Entries) (name : List ℕ) (o : Option ℕ) → LeftAt 0 (chain_of s name) o → ActsLeft s (place_in name o)
term_left s name None l = tt
term_left s name (Some p) l = let whole : p ≡ p - 0 = omega arith in ap (is_left (chain_of s name)) whole ∙ l

one_more : (P : Hit → Type 0) (h : List Hit) (x : Hit) → AllByRecursion P h → P x → AllByRecursion P (h ++ x ∷ [])
one_more P [] x a l = (l, tt)
one_more P (y ∷ h) x a l = (a.0, one_more P h x a.1 l)

pub only_left : (g : Given) (h : List Hit) (ps : List ℕ) → OnlyLeftActed g.scenario h → OnlyLeftActed g.scenario (and_then g h ps)
only_left g h [] a = a
only_left g h (p ∷ ps) a =
    let name = name_of g p in
    let x = next g h p in
    let here : ActsLeft g.scenario x.term = term_left g.scenario name (trial g h name).place (place_left (word g.seed g.stream) (acted h name) 0 (chain_of g.scenario name) (words_of h)) in
    let P : Hit → Type 0 = λ (h : Hit). ActsLeft g.scenario h.term in
    only_left g (h ++ x ∷ []) ps (one_more P h x a here)
