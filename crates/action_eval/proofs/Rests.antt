-- What is left of a chain when terms at its head that are spent are left out: it is tried as the whole is, and they stay spent.
use Rattle.std.proofs.Common.{◌≡◌, ℕ, zero, suc, ◌+◌, ◌-◌, ◌<◌, ◌≤◌, ◌%◌, nat_lt, Bool, true, false, cond, eqb, ◌&&◌, List, [], ◌∷◌, ◌++◌, length, take, drop, get_or, slice_index, slice_set, slice_get, slice_range, Option, Some, None, option_map, is_some, IfSome, refl, ap, sym, ◌∙◌, arith, add-zero, zero-add, append_assoc, length-append, subst, get_or-take, get_or-drop}
use Rattle.std.proofs.lemmas.Bool.Decides.{nat_tests}
use Rattle.std.proofs.lemmas.List.{length-set}
use Rattle.std.specs.Option.{option_map_or}
use Rattle.scenario_values.specs.declared.term.Term.{Term}
use Rattle.scenario_values.specs.declared.term.Task.TheVariants as task
use Rattle.action_eval.specs.Trial.{tried, is_spent, Trial}
use Rattle.action_eval.specs.Answers.{task_at}
use Rattle.action_eval.specs.inside.Session.{AllSpent, StartsUnspent, Rest, IsRest, AreRests, left_after, with_one_less}

at_next : (i k : ℕ) → (i + 1) + k ≡ i + suc k
at_next i k = omega arith

-- ---- the trial of the rest

when_true : {A : Type 0} (b : Bool) (x y : A) → b ≡ true → cond b x y ≡ x
when_true true x y e = refl
when_true false x y e = cc

passed : (word : ℕ → ℕ) (spent : ℕ → Term → Bool) (i : ℕ) (before rest : List Term) (n : ℕ) → AllSpent spent i before → tried word spent i (before ++ rest) n ≡ tried word spent (i + length before) rest n
passed word spent i [] rest n h = ap (λ (j : ℕ). tried word spent j rest n) (sym (add-zero i))
passed word spent i (t ∷ ts) rest n h =
    when_true (spent i t) (tried word spent (i + 1) (ts ++ rest) n) _ h.0 ∙ passed word spent (i + 1) ts rest n h.1 ∙ ap (λ (j : ℕ). tried word spent j rest n) (at_next i (length ts))

-- a place so many terms further on
abbrev pub further : ℕ → Option ℕ → Option ℕ
further k place = option_map (λ i. k + i) place

abbrev pub moved : ℕ → Trial → Trial
moved k t = record { place = further k t.place; next = t.next }

moved_case : (k i n : ℕ) (b b' f l : Bool) (x x' y y' : Trial) → b ≡ b' → x ≡ moved k x' → y ≡ moved k y'
    → cond b x (cond f (record { place = Some (k + i); next = n }) (cond l (record { place = Some (k + i); next = n + 1 }) y))
    ≡ moved k (cond b' x' (cond f (record { place = Some i; next = n }) (cond l (record { place = Some i; next = n + 1 }) y')))
moved_case k i n b true f l x x' y y' e p q = when_true b x _ e ∙ p
moved_case k i n b false true l x x' y y' e p q = ap (λ b. cond b x (record { place = Some (k + i); next = n })) e
moved_case k i n b false false true x x' y y' e p q = ap (λ b. cond b x (record { place = Some (k + i); next = n + 1 })) e
moved_case k i n b false false false x x' y y' e p q = ap (λ b. cond b x y) e ∙ q

tried_further : (word : ℕ → ℕ) (spent spent' : ℕ → Term → Bool) (k i : ℕ) (ts : List Term) (n : ℕ) → ((j : ℕ) (t : Term) → i ≤ j → j < i + length ts → spent (k + j) t ≡ spent' j t)
    → tried word spent (k + i) ts n ≡ moved k (tried word spent' i ts n)
tried_further word spent spent' k i [] n h = refl
tried_further word spent spent' k i (t ∷ ts) n h =
    let on : (k + i) + 1 ≡ k + (i + 1) = omega arith in
    let rest : (j : ℕ) (t : Term) → i + 1 ≤ j → j < (i + 1) + length ts → spent (k + j) t ≡ spent' j t = λ j t le lt. h j t (omega arith) (omega arith) in
    moved_case k i n (spent (k + i) t) (spent' i t) (eqb t.share 1000000) (nat_lt (word n % 1000000) t.share) _ _ _ _ (h i t (omega arith) (omega arith))
    (ap (λ (j : ℕ). tried word spent j ts n) on ∙ tried_further word spent spent' k (i + 1) ts n rest)
    (ap (λ (j : ℕ). tried word spent j ts (n + 1)) on ∙ tried_further word spent spent' k (i + 1) ts (n + 1) rest)

-- ---- counts of a part

pub index_in : (left : List ℕ) (start many j : ℕ) → j < many → slice_index (slice_range left start (start + many)) j ≡ slice_index left (start + j)
index_in left start many j h =
    let size : start + many - start ≡ many = omega arith in
    ap (λ (m : ℕ). slice_index (take m (drop start left)) j) size ∙ get_or-take many (drop start left) j 0 h ∙ get_or-drop start left j 0

all_spent_in : (left row : List ℕ) (k i : ℕ) (ts : List Term) → ((j : ℕ) → i ≤ j → j < i + length ts → slice_index row j ≡ slice_index left (k + j)) → AllSpent (is_spent left) (k + i) ts → AllSpent (is_spent row) i ts
all_spent_in left row k i [] e h = tt
all_spent_in left row k i (t ∷ ts) e h =
    let on : (k + i) + 1 ≡ k + (i + 1) = omega arith in (
      ap (λ (n : ℕ). is_some t.count && eqb n 0) (e i (omega arith) (omega arith)) ∙ h.0,
      all_spent_in left row k (i + 1) ts (λ j le lt. e j (omega arith) (omega arith)) (subst (λ (n : ℕ). AllSpent (is_spent left) n ts) on h.1),
    )

trial_parts : (word : ℕ → ℕ) (left : List ℕ) (before chain : List Term) (start n : ℕ) → AllSpent (is_spent left) start before
    → tried word (is_spent (slice_range left start (start + length (before ++ chain)))) 0 (before ++ chain) n
    ≡ moved (length before) (tried word (is_spent (slice_range left (start + length before) (start + length before + length chain))) 0 chain n)
trial_parts word left before chain start n h =
    let size = length-append before chain in
    let row = slice_range left start (start + length (before ++ chain)) in
    let k = length before in
    let there = slice_range left (start + k) (start + k + length chain) in
    let spent : AllSpent (is_spent row) 0 before =
    all_spent_in left row start 0 before (λ j le lt. index_in left start (length (before ++ chain)) j (omega (arith, size))) (subst (λ (i : ℕ). AllSpent (is_spent left) i before) (sym (add-zero start)) h)
    in
    let same : (j : ℕ) (t : Term) → 0 ≤ j → j < 0 + length chain → is_spent row (k + j) t ≡ is_spent there j t = λ j t le lt.
    let by : start + (k + j) ≡ start + k + j = omega arith in
    ap (λ (n : ℕ). is_some t.count && eqb n 0)
    (index_in left start (length (before ++ chain)) (k + j) (omega (arith, size)) ∙ ap (slice_index left) by ∙ sym (index_in left (start + k) (length chain) j (omega arith)))
    in
    let from : 0 + k ≡ k + 0 = omega arith in
    passed word (is_spent row) 0 before chain n spent ∙ ap (λ (i : ℕ). tried word (is_spent row) i chain n) from ∙ tried_further word (is_spent row) (is_spent there) k 0 chain n same

-- The rest is tried as the whole is, except for the places.
pub trial_of_rest : (word : ℕ → ℕ) (left : List ℕ) (whole rest : List Term × ℕ) (r : Rest left whole rest) (n : ℕ)
    → tried word (is_spent (slice_range left whole.1 (whole.1 + length whole.0))) 0 whole.0 n ≡ moved (length r.before) (tried word (is_spent (slice_range left rest.1 (rest.1 + length rest.0))) 0 rest.0 n)
trial_of_rest word left whole rest r n =
    ap (λ (c : List Term). tried word (is_spent (slice_range left whole.1 (whole.1 + length c))) 0 c n) r.chain_is
    ∙ trial_parts word left r.before rest.0 whole.1 n r.spent
    ∙ ap (λ (s : ℕ). moved (length r.before) (tried word (is_spent (slice_range left s (s + length rest.0))) 0 rest.0 n)) (sym r.start_is)

get_later : (before chain : List Term) (i : ℕ) → slice_get (before ++ chain) (length before + i) ≡ slice_get chain i
get_later [] chain i = ap (slice_get chain) (zero-add i)
get_later (t ∷ ts) chain i = (let one : suc (length ts) + i ≡ suc (length ts + i) = omega arith in ap (slice_get (t ∷ ts ++ chain)) one) ∙ get_later ts chain i

task_later : (before chain : List Term) (place : Option ℕ) → task_at (before ++ chain) (further (length before) place) ≡ task_at chain place
task_later before chain None = refl
task_later before chain (Some i) = ap (λ (t : Option Term). option_map_or (λ t. t.task) t task.Off) (get_later before chain i)

pub task_of_rest : (left : List ℕ) (whole rest : List Term × ℕ) (r : Rest left whole rest) (place : Option ℕ) → task_at whole.0 (further (length r.before) place) ≡ task_at rest.0 place
task_of_rest left whole rest r place = ap (λ (c : List Term). task_at c (further (length r.before) place)) r.chain_is ∙ task_later r.before rest.0 place

after_further : (left : List ℕ) (start k : ℕ) (place : Option ℕ) → left_after left (start + k) place ≡ left_after left start (further k place)
after_further left start k None = refl
after_further left start k (Some i) = let one : start + k + i ≡ start + (k + i) = omega arith in ap (with_one_less left) one

pub after_rest : (left : List ℕ) (whole rest : List Term × ℕ) (r : Rest left whole rest) (place : Option ℕ) → left_after left rest.1 place ≡ left_after left whole.1 (further (length r.before) place)
after_rest left whole rest r place = ap (λ (s : ℕ). left_after left s place) r.start_is ∙ after_further left whole.1 (length r.before) place

within_further : (k n m : ℕ) (place : Option ℕ) → m ≡ k + n → IfSome place (λ i. i < n) → IfSome (further k place) (λ i. i < m)
within_further k n m None e h = tt
within_further k n m (Some i) e h = omega arith

pub length_of_rest : (left : List ℕ) (whole rest : List Term × ℕ) (r : Rest left whole rest) → length whole.0 ≡ length r.before + length rest.0
length_of_rest left whole rest r = ap length r.chain_is ∙ length-append r.before rest.0

pub within_rest : (left : List ℕ) (whole rest : List Term × ℕ) (r : Rest left whole rest) (place : Option ℕ) → IfSome place (λ i. i < length rest.0) → IfSome (further (length r.before) place) (λ i. i < length whole.0)
within_rest left whole rest r place h = within_further (length r.before) (length rest.0) (length whole.0) place (length_of_rest left whole rest r) h

-- a first term that isn't spent by all counts isn't by those of its chain
pub starts_in : (left : List ℕ) (chain : List Term) (start : ℕ) → StartsUnspent (is_spent left) start chain → StartsUnspent (is_spent (slice_range left start (start + length chain))) 0 chain
starts_in left [] start h = tt
starts_in left (t ∷ ts) start h = ap (λ (n : ℕ). is_some t.count && eqb n 0) (index_in left start (length (t ∷ ts)) 0 (omega arith) ∙ ap (slice_index left) (add-zero start)) ∙ h

-- ---- rests of rests

all_spent_on : (spent : ℕ → Term → Bool) (i : ℕ) (xs ys : List Term) → AllSpent spent i xs → AllSpent spent (i + length xs) ys → AllSpent spent i (xs ++ ys)
all_spent_on spent i [] ys p q = subst (λ (j : ℕ). AllSpent spent j ys) (add-zero i) q
all_spent_on spent i (x ∷ xs) ys p q = (p.0, all_spent_on spent (i + 1) xs ys p.1 (subst (λ (j : ℕ). AllSpent spent j ys) (sym (at_next i (length xs))) q))

rest_of_rest : (left : List ℕ) (a b c : List Term × ℕ) → Rest left a b → Rest left b c → Rest left a c
rest_of_rest left a b c p q = record {
  before = p.before ++ q.before;
  chain_is = p.chain_is ∙ ap (λ (l : List Term). p.before ++ l) q.chain_is ∙ sym (append_assoc p.before q.before c.0);
  start_is = omega (arith, p.start_is, q.start_is, length-append p.before q.before);
  spent = all_spent_on (is_spent left) a.1 p.before q.before p.spent (subst (λ (j : ℕ). AllSpent (is_spent left) j q.before) p.start_is q.spent);
}

pub rest_on : (left : List ℕ) (o : Option (List Term × ℕ)) (b c : List Term × ℕ) → IsRest left o (Some b) → Rest left b c → IsRest left o (Some c)
rest_on left None b c p q = p
rest_on left (Some a) b c p q = rest_of_rest left a b c p q

pub none_of_rest : (left : List ℕ) (o : Option (List Term × ℕ)) → IsRest left o None → o ≡ None
none_of_rest left None h = refl
none_of_rest left (Some a) h = absurd h

-- the whole chain of a rest
pub record Whole (left : List ℕ) (o : Option (List Term × ℕ)) (rest : List Term × ℕ) : Type 0 where
  pub whole : List Term × ℕ
  pub is : o ≡ Some whole
  pub standing : Rest left whole rest

pub whole_of : (left : List ℕ) (o : Option (List Term × ℕ)) (rest : List Term × ℕ) → IsRest left o (Some rest) → Whole left o rest
whole_of left None rest h = absurd h
whole_of left (Some whole) rest h = record { whole = whole; is = refl; standing = h }

-- ---- spent terms stay spent

-- a count of which nothing is left stays so
abbrev pub Stays : List ℕ → List ℕ → Type 0
Stays left left' = (j : ℕ) → slice_index left j ≡ 0 → slice_index left' j ≡ 0

lower : (left : List ℕ) (m v j : ℕ) → v ≤ slice_index left m → slice_index left j ≡ 0 → slice_index (slice_set left m v) j ≡ 0
lower [] m v j le h = h
lower (x ∷ xs) zero v zero le h = omega arith
lower (x ∷ xs) zero v (suc j) le h = h
lower (x ∷ xs) (suc m) v zero le h = h
lower (x ∷ xs) (suc m) v (suc j) le h = lower xs m v j le h

pub after_stays : (left : List ℕ) (start : ℕ) (place : Option ℕ) → Stays left (left_after left start place)
after_stays left start None = λ j h. h
after_stays left start (Some i) = λ j h. lower left (start + i) (slice_index left (start + i) - 1) j (omega arith) h

-- and there are as many
pub length_after : (left : List ℕ) (start : ℕ) (place : Option ℕ) → length (left_after left start place) ≡ length left
length_after left start None = refl
length_after left start (Some i) = length-set left (start + i) (slice_index left (start + i) - 1)

spent_case : (b : Bool) (l l' : ℕ) → (b && eqb l 0) ≡ true → (l ≡ 0 → l' ≡ 0) → (b && eqb l' 0) ≡ true
spent_case true l l' h f = let z : l ≡ 0 = grind (arith, nat_tests, h) in let z' = f z in grind (arith, nat_tests, z')
spent_case false l l' h f = h

all_spent_stays : (left left' : List ℕ) (i : ℕ) (ts : List Term) → Stays left left' → AllSpent (is_spent left) i ts → AllSpent (is_spent left') i ts
all_spent_stays left left' i [] s h = tt
all_spent_stays left left' i (t ∷ ts) s h = (spent_case (is_some t.count) (slice_index left i) (slice_index left' i) h.0 (s i), all_spent_stays left left' (i + 1) ts s h.1)

pub is_rest_stays : (left left' : List ℕ) (w r : Option (List Term × ℕ)) → Stays left left' → IsRest left w r → IsRest left' w r
is_rest_stays left left' None None s h = tt
is_rest_stays left left' None (Some r) s h = h
is_rest_stays left left' (Some w) None s h = h
is_rest_stays left left' (Some w) (Some r) s h = record { before = h.before; chain_is = h.chain_is; start_is = h.start_is; spent = all_spent_stays left left' w.1 h.before s h.spent }

pub rests_stay : (left left' : List ℕ) (ws rs : List (Option (List Term × ℕ))) → Stays left left' → AreRests left ws rs → AreRests left' ws rs
rests_stay left left' [] [] s h = tt
rests_stay left left' [] (r ∷ rs) s h = h
rests_stay left left' (w ∷ ws) [] s h = h
rests_stay left left' (w ∷ ws) (r ∷ rs) s h = (is_rest_stays left left' w r s h.0, rests_stay left left' ws rs s h.1)

-- ---- the rests of points

is_rest_self : (left : List ℕ) (w : Option (List Term × ℕ)) → IsRest left w w
is_rest_self left None = tt
is_rest_self left (Some w) = record { before = []; chain_is = refl; start_is = sym (add-zero w.1); spent = tt }

pub rests_self : (left : List ℕ) (ws rs : List (Option (List Term × ℕ))) → rs ≡ ws → AreRests left ws rs
rests_self left ws rs e = subst (λ (l : List (Option (List Term × ℕ))). AreRests left ws l) (sym e) (all left ws)
  where
    all : (left : List ℕ) (ws : List (Option (List Term × ℕ))) → AreRests left ws ws
    all left [] = tt
    all left (w ∷ ws) = (is_rest_self left w, all left ws)

pub rest_at : (left : List ℕ) (ws rs : List (Option (List Term × ℕ))) (p : ℕ) (d : Option (List Term × ℕ)) → p < length ws → AreRests left ws rs → IsRest left (get_or ws p d) (get_or rs p d)
rest_at left [] rs p d l h = absurd (omega arith)
rest_at left (w ∷ ws) [] p d l h = absurd h
rest_at left (w ∷ ws) (r ∷ rs) zero d l h = h.0
rest_at left (w ∷ ws) (r ∷ rs) (suc p) d l h = rest_at left ws rs p d (omega arith) h.1

pub rests_length : (left : List ℕ) (ws rs : List (Option (List Term × ℕ))) → AreRests left ws rs → length rs ≡ length ws
rests_length left [] [] h = refl
rests_length left [] (r ∷ rs) h = absurd h
rests_length left (w ∷ ws) [] h = absurd h
rests_length left (w ∷ ws) (r ∷ rs) h = ap suc (rests_length left ws rs h.1)

pub rests_set : (left : List ℕ) (ws rs : List (Option (List Term × ℕ))) (p : ℕ) (d o : Option (List Term × ℕ)) → AreRests left ws rs → IsRest left (get_or ws p d) o → AreRests left ws (slice_set rs p o)
rests_set left [] [] p d o h g = tt
rests_set left [] (r ∷ rs) p d o h g = absurd h
rests_set left (w ∷ ws) [] p d o h g = h
rests_set left (w ∷ ws) (r ∷ rs) zero d o h g = (g, h.1)
rests_set left (w ∷ ws) (r ∷ rs) (suc p) d o h g = (h.0, rests_set left ws rs p d o h.1 g)

-- ---- terms found spent, one after another

one_more : (spent : ℕ → Term → Bool) (i p : ℕ) (ts : List Term) (t : Term) → p < length ts → t ≡ get_or ts p t → spent (i + p) t ≡ true → AllSpent spent i (take p ts) → AllSpent spent i (take (suc p) ts)
one_more spent i p [] t l e s h = absurd (omega arith)
one_more spent i zero (x ∷ xs) t l e s h = (subst (λ (y : Term). spent i y ≡ true) e (subst (λ (j : ℕ). spent j t ≡ true) (add-zero i) s), tt)
one_more spent i (suc p) (x ∷ xs) t l e s h = (h.0, one_more spent (i + 1) p xs t (omega arith) e (subst (λ (j : ℕ). spent j t ≡ true) (sym (at_next i p)) s) h.1)

pub one_more_spent : (spent : ℕ → Term → Bool) (i p : ℕ) (ts : List Term) (t : Term) → p < length ts → t ≡ get_or ts p t → spent (i + p) t ≡ true → AllSpent spent i (take p ts) → AllSpent spent i (take (p + 1) ts)
one_more_spent spent i p ts t l e s h = let one : suc p ≡ p + 1 = omega arith in subst (λ (n : ℕ). AllSpent spent i (take n ts)) one (one_more spent i p ts t l e s h)

pub spent_by : (left : List ℕ) (j : ℕ) (t : Term) → is_some t.count ≡ true → slice_index left j ≡ 0 → is_spent left j t ≡ true
spent_by left j t some none = ap (λ (b : Bool). b && eqb (slice_index left j) 0) some ∙ ap (λ (n : ℕ). eqb n 0) none
