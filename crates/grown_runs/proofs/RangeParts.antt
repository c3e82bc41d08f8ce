-- Ranges of a part's plans, one after another.
use Rattle.std.proofs.Common.{◌≡◌, ℕ, ◌+◌, ◌-◌, ◌*◌, ◌≤◌, min, Bool, true, false, nat_le, cond, List, [], ◌∷◌, ◌++◌, length, get_or, refl, ap, sym, ◌∙◌, subst, arith}
use Rattle.std.specs.Int.{div_ceil}
use Rattle.std.proofs.lemmas.List.{length-append, length_push, append-nil}
use Rattle.std.proofs.Math.Seq.{get_or-append_seam}
use Rattle.action_eval.specs.declared.rig.Rig.{Rig}
use Rattle.grown_plans.specs.GrownPlans.{Subject}
use Rattle.grown_runs.specs.ranges.Ranges.{range_count, range_start}
use Rattle.grown_runs.specs.ranges.Ordered.{AreAnswers}
use Rattle.target_trait.specs.declared.target.Target.{Ghosts}
use Rattle.grown_runs.specs.declared.grower.Setup.{Setup}
use Rattle.grown_runs.specs.declared.input.GrownRunInput.{GrownRunInput}
use Rattle.grown_runs.specs.declared.input.Part.{Part}
use Rattle.grown_runs.specs.declared.kept.Growth.{Growth}
use Rattle.grown_runs.specs.inside.Growths.{IsGrowth}
use Rattle.grown_runs.proofs.Growing.{growth_many}

sized_within : (few some : Bool) (plans range : ℕ)
    → min (range * cond few 1 (cond some 16 64)) plans ≤ min ((range + 1) * cond few 1 (cond some 16 64)) plans
sized_within true some plans range = omega arith
sized_within false true plans range = omega arith
sized_within false false plans range = omega arith

pub range_within : (plans range : ℕ) → (range_start plans range ≤ range_start plans (range + 1)) × (range_start plans (range + 1) ≤ plans)
range_within plans range = (sized_within (nat_le plans 1024) (nat_le plans 16384) plans range, omega arith)

sized_end : (few some : Bool) (plans : ℕ) → min (div_ceil plans (cond few 1 (cond some 16 64)) * cond few 1 (cond some 16 64)) plans ≡ plans
sized_end true some plans = omega arith
sized_end false true plans = omega arith
sized_end false false plans = omega arith

-- the ranges end where the plans do
pub range_end : (plans : ℕ) → range_start plans (range_count plans) ≡ plans
range_end plans = sized_end (nat_le plans 1024) (nat_le plans 16384) plans

sized_begin : (few some : Bool) (plans : ℕ) → min (0 * cond few 1 (cond some 16 64)) plans ≡ 0
sized_begin true some plans = omega arith
sized_begin false true plans = omega arith
sized_begin false false plans = omega arith

pub range_begin : (plans : ℕ) → range_start plans 0 ≡ 0
range_begin plans = sized_begin (nat_le plans 1024) (nat_le plans 16384) plans

-- what each range is
abbrev pub AreRanges : Subject → ℕ → Part → List (List Rig) → ℕ → ℕ → List Growth → Type 0
AreRanges t seed part plans first count ranges =
    AreAnswers (λ range growth. IsGrowth t seed part plans (first + range_start count range) (range_start count (range + 1) - range_start count range) growth) (range_count count) ranges

pub range_at : (t : Subject) (seed : ℕ) (part : Part) (plans : List (List Rig)) (first count : ℕ) (ranges yielded rest : List Growth) (g : Growth)
    → AreRanges t seed part plans first count ranges → yielded ++ g ∷ rest ≡ ranges
    → IsGrowth t seed part plans (first + range_start count (length yielded)) (range_start count (length yielded + 1) - range_start count (length yielded)) g
range_at t seed part plans first count ranges yielded rest g are is =
    let long = ap length (sym is) ∙ length-append yielded (g ∷ rest) in
    let many = are.many in
    subst (IsGrowth t seed part plans (first + range_start count (length yielded)) (range_start count (length yielded + 1) - range_start count (length yielded)))
    (ap (λ (gs : List Growth). get_or gs (length yielded) g) (sym is) ∙ get_or-append_seam yielded g rest g)
    (are.right (length yielded) g (omega (arith, long, many)))

pub range_next : (t : Subject) (seed : ℕ) (part : Part) (plans : List (List Rig)) (first count : ℕ) (ranges yielded rest : List Growth) (g whole new : Growth)
    → AreRanges t seed part plans first count ranges → yielded ++ g ∷ rest ≡ ranges → IsGrowth t seed part plans first (range_start count (length yielded)) whole
    → ((done more : ℕ) → IsGrowth t seed part plans first done whole → IsGrowth t seed part plans (first + done) more g → IsGrowth t seed part plans first (done + more) new)
    → IsGrowth t seed part plans first (range_start count (length (yielded ++ g ∷ []))) new
range_next t seed part plans first count ranges yielded rest g whole new are is was joined =
    let k = length yielded in
    let within = range_within count k in
    subst (λ (n : ℕ). IsGrowth t seed part plans first n new)
    (let e : range_start count k + (range_start count (k + 1) - range_start count k) ≡ range_start count (k + 1) = let low = within.0 in omega (arith, low) in
    e ∙ ap (range_start count) (sym (length_push yielded g)))
    (joined (range_start count k) (range_start count (k + 1) - range_start count k) was (range_at t seed part plans first count ranges yielded rest g are is))

pub range_room : (t : Subject) (seed : ℕ) (part : Part) (plans : List (List Rig)) (first count : ℕ) (ranges yielded rest : List Growth) (g whole : Growth)
    → AreRanges t seed part plans first count ranges → yielded ++ g ∷ rest ≡ ranges → IsGrowth t seed part plans first (range_start count (length yielded)) whole → count ≤ 65536
    → length whole.outcomes.verdicts.items + length g.outcomes.verdicts.items ≤ 65536
range_room t seed part plans first count ranges yielded rest g whole are is was few =
    let k = length yielded in
    let within = range_within count k in
    let low = within.0 in
    let high = within.1 in
    let one = growth_many t seed part plans first (range_start count k) whole was in
    let two = growth_many t seed part plans (first + range_start count k) (range_start count (k + 1) - range_start count k) g (range_at t seed part plans first count ranges yielded rest g are is) in
    omega (arith, low, high, one, two, few)

pub ranges_whole : (t : Subject) (seed : ℕ) (part : Part) (plans : List (List Rig)) (first count : ℕ) (ranges yielded rest : List Growth) (whole : Growth)
    → AreRanges t seed part plans first count ranges → yielded ++ rest ≡ ranges → rest ≡ [] → IsGrowth t seed part plans first (range_start count (length yielded)) whole
    → IsGrowth t seed part plans first count whole
ranges_whole t seed part plans first count ranges yielded rest whole are is none was =
    subst (λ (n : ℕ). IsGrowth t seed part plans first n whole)
    (ap (range_start count) (ap length (sym (append-nil yielded) ∙ ap (λ gs. yielded ++ gs) (sym none) ∙ is) ∙ are.many) ∙ range_end count) was

-- ---- what a job's answers depend on

abbrev setup_with : {T W : Type 0} {target : Ghosts T W} → T → GrownRunInput T W target → Setup T W
setup_with t input = record {
  target = t;
  workload = input.workload.now;
  seed = input.limits.seed;
  max_hits = input.limits.max_hits;
  part = input.part;
  first = input.first;
  end = input.end;
  plans = input.plans.now;
}

pub same_setup : {T W : Type 0} {target : Ghosts T W} (t u : T) (input other : GrownRunInput T W target) → t ≡ u → input ≡ other → setup_with t input ≡ setup_with u other
same_setup t u input other same is = ap (λ x. setup_with x input) same ∙ ap (setup_with u) is

pub none_left : {A : Type 0} (xs : List A) → length xs ≡ 0 → xs ≡ []
none_left [] is = refl
none_left (x ∷ xs) is = absurd (omega (arith, is))
