-- Plans as a list keeps them, grown level by level.
use Rattle.std.proofs.Common.{◌≡◌, ℕ, zero, suc, ◌+◌, ◌-◌, ◌<◌, ◌≤◌, Bool, true, false, cond, List, [], ◌∷◌, ◌++◌, map, length, get_or, refl, ap, sym, ◌∙◌, subst, arith, append_assoc}
use Rattle.std.specs.Prelude.{Option, Some, None, flat_map}
use Rattle.std.proofs.lemmas.List.{append-nil, map-append, length-append, length_push, length-map}
use Rattle.std.specs.List.{AllByRecursion, range_with_len}
use Rattle.std.proofs.Math.Seq.{get_or-append_seam}
use Rattle.action_eval.specs.declared.rig.Site.{Site}
use Rattle.action_eval.specs.declared.rig.Rig.{Rig}
use Rattle.action_eval.specs.declared.rig.Kind.{Kind}
use Rattle.action_eval.specs.RiggedScenario.{rig}
use Rattle.grown_plans.specs.GrownPlans.{Subject, levels_to, onward}
use Rattle.grown_plans.specs.AskedPoints.{sites_from, sites_past, from_then_on, goes_onward}
use Rattle.grown_plans.specs.Kept.{Grew, GrewFrom, plan_of}
use Rattle.grown_plans.specs.Promises.{IsLawful}
use Rattle.grown_plans.proofs.KeptChildren.{kept_low, kept_plans}
use Rattle.grown_plans.proofs.Members.{all_append, all_flat, all_map, all_of, all_weaker}
use Rattle.grown_plans.specs.Lists.{AreLevels, AreNext, IsGrownList}
use Rattle.grown_plans.specs.declared.grown_list.GrownLevels.{GrownLevels}
use Rattle.grown_plans.specs.declared.grown_list.GrownList.{GrownList}
use Rattle.grown_plans.proofs.Grows.{levels_more}
use Rattle.grown_runs.specs.known.Known.{Agrees, KnownRuns, hits_of}
use Rattle.grown_runs.specs.known.KnownPlans.{AreKnown, level_size}
use Rattle.grown_runs.specs.known.ToldPart.{behind_known, children_known, children_told, level_known, levels_known, onward_told, part_known}
use Rattle.grown_runs.specs.known.inside.Grown.{kept_known, kept_over, kept_told, onward_known, onward_over}
use Rattle.grown_runs.proofs.KnownLemmas.Listed.{level_is, onward_is, part_is}

-- ---- one plan more

pub over_next : (kinds : ℕ → List Kind) (known : KnownRuns) (plans : List (List Rig)) (first count : ℕ) → kept_over kinds known plans first (suc count) ≡ kept_over kinds known plans first count ++ kept_known kinds known plans (first + count)
over_next kinds known plans first zero = append-nil (kept_known kinds known plans first) ∙ ap (kept_known kinds known plans) (let e : first ≡ first + 0 = omega arith in e)
over_next kinds known plans first (suc count) =
    ap (λ (l : List Grew). kept_known kinds known plans first ++ l) (over_next kinds known plans (first + 1) count)
    ∙ sym (append_assoc (kept_known kinds known plans first) (kept_over kinds known plans (first + 1) count) (kept_known kinds known plans (first + 1 + count)))
    ∙ ap (λ (n : ℕ). kept_over kinds known plans first (suc count) ++ kept_known kinds known plans n) (let e : first + 1 + count ≡ first + suc count = omega arith in e)

pub onward_next : (known : KnownRuns) (plans : List (List Rig)) (first count : ℕ) → onward_over known plans first (suc count) ≡ onward_over known plans first count ++ onward_known known plans (first + count)
onward_next known plans first zero = append-nil (onward_known known plans first) ∙ ap (onward_known known plans) (let e : first ≡ first + 0 = omega arith in e)
onward_next known plans first (suc count) =
    ap (λ (l : List (List Rig)). onward_known known plans first ++ l) (onward_next known plans (first + 1) count)
    ∙ sym (append_assoc (onward_known known plans first) (onward_over known plans (first + 1) count) (onward_known known plans (first + 1 + count)))
    ∙ ap (λ (n : ℕ). onward_over known plans first (suc count) ++ onward_known known plans n) (let e : first + 1 + count ≡ first + suc count = omega arith in e)

-- what a loop over plans has gathered, with one plan more
pub over_step : (kinds : ℕ → List Kind) (known : KnownRuns) (plans : List (List Rig)) (first n : ℕ) (old new : List Grew) → first ≤ n → old ≡ kept_over kinds known plans first (n - first) → new ≡ old ++ kept_known kinds known plans n → new ≡ kept_over kinds known plans first (n + 1 - first)
over_step kinds known plans first n old new le is more =
    more ∙ ap (λ (l : List Grew). l ++ kept_known kinds known plans n) is
    ∙ ap (λ (k : ℕ). kept_over kinds known plans first (n - first) ++ kept_known kinds known plans k) (let e : n ≡ first + (n - first) = omega (arith, le) in e)
    ∙ sym (over_next kinds known plans first (n - first))
    ∙ ap (kept_over kinds known plans first) (let e : suc (n - first) ≡ n + 1 - first = omega (arith, le) in e)

pub onward_step : (known : KnownRuns) (plans : List (List Rig)) (first n : ℕ) (old new : List (List Rig)) → first ≤ n → old ≡ onward_over known plans first (n - first) → new ≡ old ++ onward_known known plans n → new ≡ onward_over known plans first (n + 1 - first)
onward_step known plans first n old new le is more =
    more ∙ ap (λ (l : List (List Rig)). l ++ onward_known known plans n) is
    ∙ ap (λ (k : ℕ). onward_over known plans first (n - first) ++ onward_known known plans k) (let e : n ≡ first + (n - first) = omega (arith, le) in e)
    ∙ sym (onward_next known plans first (n - first))
    ∙ ap (onward_over known plans first) (let e : suc (n - first) ≡ n + 1 - first = omega (arith, le) in e)

-- how many children are counted, with those of one plan more
pub count_step : (kinds : ℕ → List Kind) (known : KnownRuns) (plans : List (List Rig)) (first n : ℕ) (count more : ℕ) (none children : List Grew) → first ≤ n → count ≡ length (kept_over kinds known plans first (n - first)) → none ≡ []
    → children ≡ none ++ kept_known kinds known plans n → more ≡ count + length children → more ≡ length (kept_over kinds known plans first (n + 1 - first))
count_step kinds known plans first n count more none children le so_far empty added is =
    let here : children ≡ kept_known kinds known plans n = added ∙ ap (λ (l : List Grew). l ++ kept_known kinds known plans n) empty in
    let long = ap length here in
    let step = ap length (over_step kinds known plans first n (kept_over kinds known plans first (n - first)) (kept_over kinds known plans first (n - first) ++ kept_known kinds known plans n) le refl refl) in
    let whole = length-append (kept_over kinds known plans first (n - first)) (kept_known kinds known plans n) in
    omega (arith, is, so_far, long, step, whole)

-- ---- each parent is there

told_low : (kinds : ℕ → List Kind) (n m : ℕ) (plan : List Rig) (o : Option (List ℕ)) → n < m → GrewFrom m (kept_told kinds n plan o)
told_low kinds n m plan None lt = tt
told_low kinds n m plan (Some hits) lt = kept_low kinds n m (sites_past plan (sites_from [] hits)) lt

pub parents_low : (kinds : ℕ → List Kind) (known : KnownRuns) (plans : List (List Rig)) (first count m : ℕ) → first + count ≤ m → GrewFrom m (kept_over kinds known plans first count)
parents_low kinds known plans first zero m le = tt
parents_low kinds known plans first (suc count) m le =
    all_append (λ (g : Grew). g.parent < m) (kept_known kinds known plans first) (kept_over kinds known plans (first + 1) count)
    (told_low kinds first m (get_or plans first []) (hits_of known (get_or plans first [])) (omega (arith, le)))
    (parents_low kinds known plans (first + 1) count m (omega (arith, le)))

-- ---- the children of a level's plans are the next level

of_one : (kinds : ℕ → List Kind) (plans : List (List Rig)) (n : ℕ) (o : Option (List ℕ)) → map (plan_of plans) (kept_told kinds n (get_or plans n []) o) ≡ children_told kinds (get_or plans n []) o
of_one kinds plans n None = refl
of_one kinds plans n (Some hits) = kept_plans kinds plans n (sites_past (get_or plans n []) (sites_from [] hits))

of_level : (kinds : ℕ → List Kind) (known : KnownRuns) (plans before ls : List (List Rig)) → plans ≡ before ++ ls → map (plan_of plans) (kept_over kinds known plans (length before) (length ls)) ≡ flat_map (children_known kinds known) ls
of_level kinds known plans before [] is = refl
of_level kinds known plans before (plan ∷ rest) is =
    let n : ℕ = length before in
    let mine : get_or plans n [] ≡ plan = ap (λ (ps : List (List Rig)). get_or ps n []) is ∙ get_or-append_seam before plan rest [] in
    map-append (plan_of plans) (kept_known kinds known plans n) (kept_over kinds known plans (n + 1) (length rest))
    ∙ ap (λ (l : List (List Rig)). l ++ map (plan_of plans) (kept_over kinds known plans (n + 1) (length rest))) (of_one kinds plans n (hits_of known (get_or plans n [])) ∙ ap (children_known kinds known) mine)
    ∙ ap (λ (k : ℕ). children_known kinds known plan ++ map (plan_of plans) (kept_over kinds known plans k (length rest))) (sym (length_push before plan))
    ∙ ap (λ (l : List (List Rig)). children_known kinds known plan ++ l) (of_level kinds known plans (before ++ plan ∷ []) rest (is ∙ sym (append_assoc before (plan ∷ []) rest)))

of_leaves : (known : KnownRuns) (plans before ls : List (List Rig)) → plans ≡ before ++ ls → onward_over known plans (length before) (length ls) ≡ flat_map (λ plan. onward_told plan (hits_of known plan)) ls
of_leaves known plans before [] is = refl
of_leaves known plans before (plan ∷ rest) is =
    let n : ℕ = length before in
    let mine : get_or plans n [] ≡ plan = ap (λ (ps : List (List Rig)). get_or ps n []) is ∙ get_or-append_seam before plan rest [] in
    ap (λ (p : List Rig). onward_told p (hits_of known p) ++ onward_over known plans (n + 1) (length rest)) mine
    ∙ ap (λ (k : ℕ). onward_told plan (hits_of known plan) ++ onward_over known plans k (length rest)) (sym (length_push before plan))
    ∙ ap (λ (l : List (List Rig)). onward_told plan (hits_of known plan) ++ l) (of_leaves known plans (before ++ plan ∷ []) rest (is ∙ sym (append_assoc before (plan ∷ []) rest)))

-- ---- the last level of a list

abbrev KnownLevels : (ℕ → List Kind) → KnownRuns → ℕ → GrownLevels → Type 0
KnownLevels kinds known n l = AreLevels (level_known kinds known) n l

pub level_zero : (kinds : ℕ → List Kind) (known : KnownRuns) → level_known kinds known 0 ≡ [] ∷ []
unfolding level_known
level_zero kinds known = refl

record Split (kinds : ℕ → List Kind) (known : KnownRuns) (n : ℕ) (l : GrownLevels) : Type 0 where
  before : List (List Rig)
  is : l.plans ≡ before ++ level_known kinds known n
  first : l.last ≡ length before
  many : length l.plans - l.last ≡ length (level_known kinds known n)

levels_end : (kinds : ℕ → List Kind) (known : KnownRuns) (n : ℕ) → (before : List (List Rig)) × (levels_known kinds known n ≡ before ++ level_known kinds known n)
unfolding levels_to
levels_end kinds known zero = ([], refl)
levels_end kinds known (suc n) = (levels_known kinds known n, refl)

split : (kinds : ℕ → List Kind) (known : KnownRuns) (n : ℕ) (l : GrownLevels) → KnownLevels kinds known n l → Split kinds known n l
split kinds known n l are =
    let end = levels_end kinds known n in
    let is : l.plans ≡ end.0 ++ level_known kinds known n = are.are ∙ end.1 in
    let long = ap length is ∙ length-append end.0 (level_known kinds known n) in
    let begins = are.begins in
    record { before = end.0; is = is; first = omega (arith, long, begins); many = omega (arith, begins) }

pub next_level : (kinds : ℕ → List Kind) (known : KnownRuns) (n : ℕ) (l : GrownLevels) → KnownLevels kinds known n l → AreNext (level_known kinds known) n l (kept_over kinds known l.plans l.last (length l.plans - l.last))
unfolding level_known
next_level kinds known n l are =
    let s = split kinds known n l are in
    ap (λ (k : ℕ). map (plan_of l.plans) (kept_over kinds known l.plans k (length l.plans - l.last))) s.first
    ∙ ap (λ (k : ℕ). map (plan_of l.plans) (kept_over kinds known l.plans (length s.before) k)) s.many
    ∙ of_level kinds known l.plans s.before (level_known kinds known n) s.is

-- how many children the plans of the last level have
next_size : (kinds : ℕ → List Kind) (known : KnownRuns) (n : ℕ) (l : GrownLevels) → KnownLevels kinds known n l → length (kept_over kinds known l.plans l.last (length l.plans - l.last)) ≡ length (level_known kinds known (suc n))
next_size kinds known n l are = sym (length-map (kept_over kinds known l.plans l.last (length l.plans - l.last)) (plan_of l.plans)) ∙ ap length (next_level kinds known n l are)

-- And the plans of that level once more with a sticky last fault.
leaves_are : (kinds : ℕ → List Kind) (known : KnownRuns) (d : ℕ) (l : GrownLevels) → KnownLevels kinds known d l → onward_over known l.plans l.last (length l.plans - l.last) ≡ behind_known kinds known d
leaves_are kinds known d l are =
    let s = split kinds known d l are in
    ap (λ (k : ℕ). onward_over known l.plans k (length l.plans - l.last)) s.first ∙ ap (onward_over known l.plans (length s.before)) s.many ∙ of_leaves known l.plans s.before (level_known kinds known d) s.is

-- ---- no plan has more faults than its level's number

abbrev Short : ℕ → List (List Rig) → Type 0
Short d plans = AllByRecursion (λ plan. length plan ≤ d) plans

told_short : (kinds : ℕ → List Kind) (plan : List Rig) (n : ℕ) (o : Option (List ℕ)) → length plan ≤ n → Short (suc n) (children_told kinds plan o)
told_short kinds plan n None le = tt
told_short kinds plan n (Some hits) le =
    all_flat (λ (longer : List Rig). length longer ≤ suc n) (λ (s : Site). map (λ kind. rig s kind ∷ plan) (kinds s.point)) (sites_past plan (sites_from [] hits))
    (all_of _ (λ s. all_map (λ (longer : List Rig). length longer ≤ suc n) (λ kind. rig s kind ∷ plan) (kinds s.point) (all_of _ (λ kind. omega (arith, le)) (kinds s.point)))
    (sites_past plan (sites_from [] hits)))

level_short : (kinds : ℕ → List Kind) (known : KnownRuns) (n : ℕ) → Short n (level_known kinds known n)
unfolding level_known
level_short kinds known zero = (omega arith, tt)
level_short kinds known (suc n) =
    all_flat (λ (plan : List Rig). length plan ≤ suc n) (children_known kinds known) (level_known kinds known n)
    (all_weaker (λ (plan : List Rig). length plan ≤ n) (λ (plan : List Rig). Short (suc n) (children_known kinds known plan)) (λ plan le. told_short kinds plan n (hits_of known plan) le) (level_known kinds known n)
    (level_short kinds known n))

levels_short : (kinds : ℕ → List Kind) (known : KnownRuns) (n : ℕ) → Short n (levels_known kinds known n)
unfolding levels_to
levels_short kinds known zero = level_short kinds known zero
levels_short kinds known (suc n) =
    all_append (λ (plan : List Rig). length plan ≤ suc n) (levels_known kinds known n) (level_known kinds known (suc n))
    (all_weaker (λ (plan : List Rig). length plan ≤ n) (λ (plan : List Rig). length plan ≤ suc n) (λ plan le. omega (arith, le)) (levels_known kinds known n) (levels_short kinds known n)) (level_short kinds known (suc n))

leaf_short : (d : ℕ) (plan : List Rig) (o : Option (List ℕ)) → length plan ≤ d → Short d (onward_told plan o)
leaf_short d plan None le = tt
leaf_short d plan (Some hits) le = at plan (goes_onward plan hits) le
  where
    at : (plan : List Rig) (b : Bool) → length plan ≤ d → Short d (cond b (from_then_on plan ∷ []) [])
    at plan false le = tt
    at [] true le = (le, tt)
    at (r ∷ rs) true le = (le, tt)

pub part_short : (kinds : ℕ → List Kind) (known : KnownRuns) (d : ℕ) → AllByRecursion (λ plan. length plan ≤ d) (part_known kinds known d)
part_short kinds known d =
    all_append (λ (plan : List Rig). length plan ≤ d) (levels_known kinds known d) (flat_map (λ plan. onward_told plan (hits_of known plan)) (level_known kinds known d)) (levels_short kinds known d)
    (all_flat (λ (plan : List Rig). length plan ≤ d) (λ plan. onward_told plan (hits_of known plan)) (level_known kinds known d)
    (all_weaker (λ (plan : List Rig). length plan ≤ d) (λ (plan : List Rig). Short d (onward_told plan (hits_of known plan))) (λ plan le. leaf_short d plan (hits_of known plan) le) (level_known kinds known d)
    (level_short kinds known d)))

-- ---- the whole list, for each subject that agrees

-- How many plans each level has, and how many have a sticky last fault.
size_of : (kinds : ℕ → List Kind) (known : KnownRuns) (d n : ℕ) (t : Subject) → IsLawful t → t.kinds ≡ kinds → Agrees t d known → n ≤ d + 1 → length (level_known kinds known n) ≡ level_size t known n
size_of kinds known d n t lawful usual agrees le = ap length (ap (λ (ks : ℕ → List Kind). level_known ks known n) (sym usual) ∙ sym (level_is t lawful d n known agrees le))

each_size : (kinds : ℕ → List Kind) (known : KnownRuns) (d k n : ℕ) (t : Subject) → IsLawful t → t.kinds ≡ kinds → Agrees t d known → k + n ≤ d + 1
    → map (λ m. length (level_known kinds known m)) (range_with_len k n) ≡ map (level_size t known) (range_with_len k n)
each_size kinds known d k zero t lawful usual agrees le = refl
each_size kinds known d k (suc n) t lawful usual agrees le =
    ap (λ (m : ℕ). m ∷ map (λ m. length (level_known kinds known m)) (range_with_len (k + 1) n)) (size_of kinds known d k t lawful usual agrees (omega (arith, le)))
    ∙ ap (λ (l : List ℕ). level_size t known k ∷ l) (each_size kinds known d (k + 1) n t lawful usual agrees (omega (arith, le)))

-- what has grown from a table
abbrev pub GrewBy : (ℕ → List Kind) → KnownRuns → ℕ → GrownList → Type 0
GrewBy kinds known d k = IsGrownList (level_known kinds known) (behind_known kinds known d) d (length (level_known kinds known (suc d))) k

pub grew_by : (kinds : ℕ → List Kind) (known : KnownRuns) (d beyond : ℕ) (l : GrownLevels) (gs : List Grew) (k : GrownList) → KnownLevels kinds known d l → map (plan_of l.plans) gs ≡ onward_over known l.plans l.last (length l.plans - l.last)
    → beyond ≡ length (kept_over kinds known l.plans l.last (length l.plans - l.last)) → IsGrownList (level_known kinds known) (map (plan_of l.plans) gs) d beyond k → GrewBy kinds known d k
grew_by kinds known d beyond l gs k are goes more is =
    let behind : map (plan_of l.plans) gs ≡ behind_known kinds known d = goes ∙ leaves_are kinds known d l are in
    record {
      plans = is.plans ∙ ap (λ (ps : List (List Rig)). levels_known kinds known d ++ ps) behind;
      levels = is.levels;
      onward = is.onward ∙ ap length behind;
      beyond_is = is.beyond_is ∙ more ∙ next_size kinds known d l are;
    }

pub known_is : (kinds : ℕ → List Kind) (known : KnownRuns) (d : ℕ) (k : GrownList) → GrewBy kinds known d k → (t : Subject) → IsLawful t → t.kinds ≡ kinds → Agrees t d known → AreKnown t d known k
known_is kinds known d k h t lawful usual agrees = record {
  plans = h.plans ∙ ap (λ (ks : ℕ → List Kind). part_known ks known d) (sym usual) ∙ sym (part_is t lawful d known agrees);
  levels = h.levels ∙ each_size kinds known d 0 (d + 1) t lawful usual agrees (omega arith);
  onward = h.onward ∙ ap length (ap (λ (ks : ℕ → List Kind). behind_known ks known d) (sym usual) ∙ sym (onward_is t lawful d known agrees));
  beyond = h.beyond_is ∙ ap (λ (n : ℕ). length (level_known kinds known n)) (let e : suc d ≡ d + 1 = omega arith in e) ∙ size_of kinds known d (d + 1) t lawful usual agrees (omega arith);
}

pub known_short : (kinds : ℕ → List Kind) (known : KnownRuns) (d : ℕ) (k : GrownList) → GrewBy kinds known d k → AllByRecursion (λ plan. length plan ≤ d) k.plans
known_short kinds known d k h = subst (λ (ps : List (List Rig)). AllByRecursion (λ plan. length plan ≤ d) ps) (sym h.plans) (part_short kinds known d)

-- ---- how many there are

-- If a level has no room, the levels of the whole depth have none.
pub no_room : (kinds : ℕ → List Kind) (known : KnownRuns) (n d most : ℕ) → n < d → most < length (levels_known kinds known (suc n)) → most < length (levels_known kinds known d)
no_room kinds known n d most lt many =
    let more = levels_more (level_known kinds known) (suc n) (d - suc n) in
    let all = ap (λ (k : ℕ). length (levels_known kinds known k)) (let e : suc n + (d - suc n) ≡ d = omega (arith, lt) in e) in
    omega (arith, many, more, all)

-- the levels alone have fewer plans than there are
pub levels_many : (kinds : ℕ → List Kind) (known : KnownRuns) (d most : ℕ) → most < length (levels_known kinds known d) → most < length (part_known kinds known d)
levels_many kinds known d most more = let whole = length-append (levels_known kinds known d) (behind_known kinds known d) in omega (arith, more, whole)

pub whole_many : (kinds : ℕ → List Kind) (known : KnownRuns) (d most : ℕ) (l : GrownLevels) (gs : List Grew) → KnownLevels kinds known d l → map (plan_of l.plans) gs ≡ onward_over known l.plans l.last (length l.plans - l.last)
    → most < length (l.plans ++ map (plan_of l.plans) gs) → most < length (part_known kinds known d)
whole_many kinds known d most l gs are goes many =
    let whole = ap length (ap (λ (ps : List (List Rig)). ps ++ map (plan_of l.plans) gs) are.are ∙ ap (λ (ps : List (List Rig)). levels_known kinds known d ++ ps) (goes ∙ leaves_are kinds known d l are)) in
    omega (arith, many, whole)

pub first_some : (kinds : ℕ → List Kind) (known : KnownRuns) (d : ℕ) → 0 < length (levels_known kinds known d)
unfolding levels_to level_known
first_some kinds known d =
    let more = levels_more (level_known kinds known) 0 d in
    let all = ap (λ (k : ℕ). length (levels_known kinds known k)) (let e : 0 + d ≡ d = omega arith in e) in
    omega (arith, more, all)
