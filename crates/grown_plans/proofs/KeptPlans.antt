-- Lists of plans that grew from each other.
use Rattle.std.proofs.Common.{◌≡◌, ℕ, zero, suc, ◌+◌, ◌≤◌, ◌<◌, List, [], ◌∷◌, ◌++◌, map, length, get_or, refl, ap, sym, ◌∙◌, arith, append_assoc, subst, ◌-◌}
use Rattle.std.specs.Prelude.{Result, Ok, Err, OnOk, is_ok, Bool, true, false, cond}
use Rattle.std.proofs.lemmas.List.{append-nil, length-append, get_or_append_left, get_or-append-add}
use Rattle.action_eval.specs.declared.rig.Rig.{Rig}
use Rattle.action_eval.specs.declared.rig.Kind.TheVariants.{OnwardReturn}
use Rattle.action_eval.specs.RiggedScenario.{rig, text_of}
use Rattle.grown_plans.specs.GrownPlans.{is_once_return}
use Rattle.grown_plans.specs.AskedPoints.{is_last_return, from_then_on}
use Rattle.grown_plans.specs.Kept.{Grew, GrewFrom, grew, plan_of, plans_from}
use Rattle.grown_plans.specs.inside.Numbered.{AreBefore}

abbrev one_more : List (List Rig) → Grew → List (List Rig)
one_more plans g = plans ++ plan_of plans g ∷ []

one_more_length : (plans : List (List Rig)) (g : Grew) → length (one_more plans g) ≡ length plans + 1
one_more_length plans g = length-append plans (plan_of plans g ∷ [])

-- in two parts
pub from_parts : (plans : List (List Rig)) (gs hs : List Grew) → plans_from plans (gs ++ hs) ≡ plans_from (plans_from plans gs) hs
from_parts plans [] hs = refl
from_parts plans (g ∷ gs) hs = from_parts (one_more plans g) gs hs

pub from_length : (plans : List (List Rig)) (gs : List Grew) → length (plans_from plans gs) ≡ length plans + length gs
from_length plans [] = omega arith
from_length plans (g ∷ gs) = let more = from_length (one_more plans g) gs in let one = one_more_length plans g in omega (arith, more, one)

-- what grew from plans that are there stands behind them
behind : (plans done : List (List Rig)) (gs : List Grew) → GrewFrom (length plans) gs
    → plans_from (plans ++ done) gs ≡ (plans ++ done) ++ map (plan_of plans) gs
behind plans done [] from = sym (append-nil (plans ++ done))
behind plans done (g ∷ gs) from =
    let same : plan_of (plans ++ done) g ≡ plan_of plans g = ap (λ p. g.fault ∷ p) (get_or_append_left plans done [] g.parent from.0) in
    let next : List Rig = plan_of plans g in
    ap (λ (p : List Rig). plans_from ((plans ++ done) ++ p ∷ []) gs) same
    ∙ ap (λ l. plans_from l gs) (append_assoc plans done (next ∷ []))
    ∙ behind plans (done ++ next ∷ []) gs from.1
    ∙ ap (λ l. l ++ map (plan_of plans) gs) (sym (append_assoc plans done (next ∷ [])))
    ∙ append_assoc (plans ++ done) (next ∷ []) (map (plan_of plans) gs)

pub grown_behind : (plans : List (List Rig)) (gs : List Grew) → GrewFrom (length plans) gs → plans_from plans gs ≡ plans ++ map (plan_of plans) gs
grown_behind plans gs from =
    ap (λ l. plans_from l gs) (sym (append-nil plans)) ∙ behind plans [] gs from ∙ ap (λ l. l ++ map (plan_of plans) gs) (append-nil plans)

-- parents that are there stand before
all_before : (n m : ℕ) (gs : List Grew) → m ≤ n → GrewFrom m gs → AreBefore n gs
all_before n m [] le from = from
all_before n m (g ∷ gs) le from = (let lt = from.0 in omega (arith, lt, le), all_before (n + 1) m gs (omega (arith, le)) from.1)

pub before_more : (n m : ℕ) (gs hs : List Grew) → AreBefore n gs → m ≤ n + length gs → GrewFrom m hs → AreBefore n (gs ++ hs)
before_more n m [] hs before le from = all_before n m hs (omega (arith, le)) from
before_more n m (g ∷ gs) hs before le from = (before.0, before_more (n + 1) m gs hs before.1 (omega (arith, le)) from)

-- a plan that was there stays in its place
early : (plans : List (List Rig)) (gs : List Grew) (j : ℕ) → j < length plans → get_or (plans_from plans gs) j [] ≡ get_or plans j []
early plans [] j lt = refl
early plans (g ∷ gs) j lt =
    early (one_more plans g) gs j (let more = one_more_length plans g in omega (arith, lt, more))
    ∙ get_or_append_left plans (plan_of plans g ∷ []) [] j lt

-- each plan that grew is its parent with one fault more
grew_at : (plans : List (List Rig)) (gs : List Grew) (i : ℕ) (d : Grew) → AreBefore (length plans) gs → i < length gs
    → get_or (plans_from plans gs) (length plans + i) [] ≡ (get_or gs i d).fault ∷ get_or (plans_from plans gs) (get_or gs i d).parent []
grew_at plans [] i d before lt = absurd (omega (arith, lt))
grew_at plans (g ∷ gs) zero d before lt =
    early (one_more plans g) gs (length plans + 0) (let more = one_more_length plans g in omega (arith, more))
    ∙ get_or-append-add plans (plan_of plans g ∷ []) 0 []
    ∙ ap (λ (p : List Rig). g.fault ∷ p) (sym (early plans (g ∷ gs) g.parent before.0))
grew_at plans (g ∷ gs) (suc i) d before lt =
    let more = one_more_length plans g in
    ap (λ k. get_or (plans_from (one_more plans g) gs) k []) (omega (arith, more))
    ∙ grew_at (one_more plans g) gs i d (subst (λ n. AreBefore n gs) (sym more) before.1) (omega (arith, lt))

pub grew_as : (gs : List Grew) (number : ℕ) (d : Grew) → AreBefore 1 gs → 0 < number → number < length gs + 1
    → get_or (plans_from ([] ∷ []) gs) number [] ≡ (get_or gs (number - 1) d).fault ∷ get_or (plans_from ([] ∷ []) gs) (get_or gs (number - 1) d).parent []
grew_as gs zero d before some lt = absurd (omega (arith, some))
grew_as gs (suc i) d before some lt =
    ap (λ k. get_or (plans_from ([] ∷ []) gs) k []) (let e : suc i ≡ 1 + i = omega arith in e)
    ∙ grew_at ([] ∷ []) gs i d before (omega (arith, lt))
    ∙ ap (λ k. (get_or gs k d).fault ∷ get_or (plans_from ([] ∷ []) gs) (get_or gs k d).parent []) (let e : i ≡ suc i - 1 = omega arith in e)

-- and stands before it
pub parent_before : (n : ℕ) (gs : List Grew) (i : ℕ) (d : Grew) → AreBefore n gs → i < length gs → (get_or gs i d).parent < n + i
parent_before n [] i d before lt = absurd (omega (arith, lt))
parent_before n (g ∷ gs) zero d before lt = let first = before.0 in omega (arith, first)
parent_before n (g ∷ gs) (suc i) d before lt = let later = parent_before (n + 1) gs i d before.1 (omega (arith, lt)) in omega (arith, later)

pub first_is_empty : (gs : List Grew) → get_or (plans_from ([] ∷ []) gs) 0 [] ≡ []
first_is_empty gs = early ([] ∷ []) gs 0 (omega arith)

-- ---- what is added if there was room

either : {A : Type 0} (b : Bool) (P : A → Type 0) (x y : A) → P x → P y → P (cond b x y)
either true P x y p q = p
either false P x y p q = q

pub added_before : (b : Bool) (now : List (List Rig)) (old more new : List Grew) → now ≡ plans_from ([] ∷ []) old → AreBefore 1 old
    → GrewFrom (length now) more → new ≡ cond b (old ++ more) old → AreBefore 1 new
added_before b now old more new is before from e =
    let many : length now ≡ 1 + length old = ap length is ∙ from_length ([] ∷ []) old in
    subst (λ (gs : List Grew). AreBefore 1 gs) (sym e)
    (either b (λ (gs : List Grew). AreBefore 1 gs) (old ++ more) old (before_more 1 (length now) old more before (omega (arith, many)) from) before)

pub added_is : {V E : Type 0} (r : Result V E) (now : List (List Rig)) (old more new : List Grew) → now ≡ plans_from ([] ∷ []) old
    → GrewFrom (length now) more → new ≡ cond (is_ok r) (old ++ more) old → OnOk r (plans_from ([] ∷ []) new ≡ now ++ map (plan_of now) more)
added_is (Ok v) now old more new is from e =
    ap (plans_from ([] ∷ [])) e ∙ from_parts ([] ∷ []) old more ∙ ap (λ l. plans_from l more) (sym is) ∙ grown_behind now more from
added_is (Err x) now old more new is from e = tt

-- ---- from a plan back to its parent

pub step_back : (now : List (List Rig)) (gs : List Grew) (n parent : ℕ) (child : Grew) (fault : Rig) (faults new whole : List Rig)
    → plans_from ([] ∷ []) gs ≡ now → AreBefore 1 gs → n < length now → 0 < n → child ≡ get_or gs (n - 1) child → parent ≡ child.parent → fault ≡ child.fault
    → new ≡ faults ++ fault ∷ [] → faults ++ get_or now n [] ≡ whole
    → (parent < n) × (parent < length now) × (new ++ get_or now parent [] ≡ whole)
step_back now gs n parent child fault faults new whole is before lt some read up at added rest =
    let many : length now ≡ 1 + length gs = ap length (sym is) ∙ from_length ([] ∷ []) gs in
    let low = parent_before 1 gs (n - 1) child before (omega (arith, many, lt, some)) in
    let mine : parent ≡ (get_or gs (n - 1) child).parent = up ∙ ap (λ (g : Grew). g.parent) read in
    let less : parent < n = omega (arith, low, mine, some) in
    let plan : get_or now n [] ≡ child.fault ∷ get_or now child.parent [] =
    ap (λ (ps : List (List Rig)). get_or ps n []) (sym is)
    ∙ grew_as gs n child before some (omega (arith, many, lt))
    ∙ ap (λ (g : Grew). g.fault ∷ get_or (plans_from ([] ∷ []) gs) g.parent []) (sym read)
    ∙ ap (λ (ps : List (List Rig)). child.fault ∷ get_or ps child.parent []) is in (
      less,
      omega (arith, less, lt),
      ap (λ l. l ++ get_or now parent []) added ∙ append_assoc faults (fault ∷ []) (get_or now parent [])
          ∙ ap (λ k. faults ++ fault ∷ get_or now k []) up ∙ ap (λ (f : Rig). faults ++ f ∷ get_or now child.parent []) at
          ∙ ap (λ l. faults ++ l) (sym plan) ∙ rest,
    )

pub earlier : (now : List (List Rig)) (gs : List Grew) (n parent : ℕ) (child : Grew) → plans_from ([] ∷ []) gs ≡ now → AreBefore 1 gs → n < length now → 0 < n
    → child ≡ get_or gs (n - 1) child → parent ≡ child.parent → parent < n
earlier now gs n parent child is before lt some read up =
    (step_back now gs n parent child child.fault [] (child.fault ∷ []) (get_or now n []) is before lt some read up refl refl refl).0

pub parent_is : (now : List (List Rig)) (gs : List Grew) (n parent : ℕ) (child : Grew) → plans_from ([] ∷ []) gs ≡ now → AreBefore 1 gs → n < length now → 0 < n
    → child ≡ get_or gs (n - 1) child → parent ≡ child.parent → (r : Rig) (rs : List Rig) → get_or now n [] ≡ r ∷ rs → get_or now parent [] ≡ rs
parent_is now gs n parent child is before lt some read up r rs plan =
    let back = step_back now gs n parent child child.fault [] (child.fault ∷ []) (get_or now n []) is before lt some read up refl refl refl in
    let whole : child.fault ∷ get_or now parent [] ≡ r ∷ rs = back.2 ∙ plan in
    cc

pub first_has_no_parent : (now : List (List Rig)) (gs : List Grew) (n : ℕ) → plans_from ([] ∷ []) gs ≡ now → n ≡ 0 → (r : Rig) (rs : List Rig) → get_or now n [] ≡ r ∷ rs
    → get_or now 0 [] ≡ rs
first_has_no_parent now gs n is zeroth r rs plan =
    let none : [] ≡ r ∷ rs = sym (first_is_empty gs) ∙ ap (λ (ps : List (List Rig)). get_or ps 0 []) is ∙ ap (λ k. get_or now k []) (sym zeroth) ∙ plan in
    absurd (let no : [] ≡ r ∷ rs = none in cc)

pub at_the_first : (now : List (List Rig)) (gs : List Grew) (n : ℕ) (faults whole : List Rig) → plans_from ([] ∷ []) gs ≡ now → n ≡ 0
    → faults ++ get_or now n [] ≡ whole → faults ≡ whole
at_the_first now gs n faults whole is zeroth rest =
    sym (append-nil faults) ∙ ap (λ l. faults ++ l) (sym (first_is_empty gs) ∙ ap (λ (ps : List (List Rig)). get_or ps 0 []) is ∙ ap (λ k. get_or now k []) (sym zeroth)) ∙ rest

-- ---- a plan and the child that is kept for it

pub kept_as : (now : List (List Rig)) (gs : List Grew) (n : ℕ) (child : Grew) → plans_from ([] ∷ []) gs ≡ now → AreBefore 1 gs → n < length now → 0 < n
    → child ≡ get_or gs (n - 1) child → (get_or now n [] ≡ child.fault ∷ get_or now child.parent []) × (child.parent < length now)
kept_as now gs n child is before lt some read =
    let many : length now ≡ 1 + length gs = ap length (sym is) ∙ from_length ([] ∷ []) gs in
    let low = parent_before 1 gs (n - 1) child before (omega (arith, many, lt, some)) in
    let mine : child.parent ≡ (get_or gs (n - 1) child).parent = ap (λ (g : Grew). g.parent) read in (
      ap (λ (ps : List (List Rig)). get_or ps n []) (sym is)
          ∙ grew_as gs n child before some (omega (arith, many, lt))
          ∙ ap (λ (g : Grew). g.fault ∷ get_or (plans_from ([] ∷ []) gs) g.parent []) (sym read)
          ∙ ap (λ (ps : List (List Rig)). child.fault ∷ get_or ps child.parent []) is,
      omega (arith, low, mine, lt, some),
    )

no_return : (r : Rig) → is_once_return r.kind ≡ false → (plan rest : List Rig) → plan ≡ r ∷ rest → is_last_return plan ≡ false
no_return r other plan rest is = ap is_last_return is ∙ other

pub no_return_last : (now : List (List Rig)) (gs : List Grew) (n : ℕ) (child : Grew) (fault : Rig) → plans_from ([] ∷ []) gs ≡ now → AreBefore 1 gs → n < length now → 0 < n
    → child ≡ get_or gs (n - 1) child → fault ≡ child.fault → is_once_return fault.kind ≡ false → is_last_return (get_or now n []) ≡ false
no_return_last now gs n child fault is before lt some read at other =
    no_return child.fault (ap (λ (f : Rig). is_once_return f.kind) (sym at) ∙ other) (get_or now n []) (get_or now child.parent []) (kept_as now gs n child is before lt some read).0

pub return_last : (now : List (List Rig)) (gs : List Grew) (n : ℕ) (child new : Grew) (fault : Rig) → plans_from ([] ∷ []) gs ≡ now → AreBefore 1 gs → n < length now → 0 < n
    → child ≡ get_or gs (n - 1) child → fault ≡ child.fault → is_once_return fault.kind ≡ true → new ≡ grew child.parent (rig child.fault.site (OnwardReturn (text_of child.fault.kind)))
    → (is_last_return (get_or now n []) ≡ true) × (new.parent < length now) × (plan_of now new ≡ from_then_on (get_or now n []))
return_last now gs n child new fault is before lt some read at same kept =
    let found = kept_as now gs n child is before lt some read in (
      ap is_last_return found.0 ∙ ap (λ (f : Rig). is_once_return f.kind) (sym at) ∙ same,
      subst (λ (g : Grew). g.parent < length now) (sym kept) found.1,
      ap (plan_of now) kept ∙ ap from_then_on (sym found.0),
    )

pub no_return_first : (now : List (List Rig)) (gs : List Grew) (n : ℕ) → plans_from ([] ∷ []) gs ≡ now → n ≡ 0 → is_last_return (get_or now n []) ≡ false
no_return_first now gs n is zeroth =
    ap (λ (p : List Rig). is_last_return p) (ap (λ k. get_or now k []) zeroth ∙ ap (λ (ps : List (List Rig)). get_or ps 0 []) (sym is) ∙ first_is_empty gs)
