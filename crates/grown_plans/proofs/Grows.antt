-- Levels that grow.
use Rattle.std.proofs.Common.{◌≡◌, ℕ, zero, suc, ◌+◌, ◌<◌, ◌≤◌, List, [], ◌∷◌, ◌++◌, map, length, ap, sym, ◌∙◌, arith}
use Rattle.std.proofs.lemmas.List.{length-append, length-map}
use Rattle.std.proofs.lemmas.List.FromFn.{map-range_with_len_more}
use Rattle.action_eval.specs.declared.rig.Rig.{Rig}
use Rattle.grown_plans.specs.GrownPlans.{levels_to}
use Rattle.grown_plans.specs.Kept.{Grew, plan_of}
use Rattle.grown_plans.specs.declared.grown_list.GrownLevels.{GrownLevels}
use Rattle.grown_plans.specs.Lists.{AreLevels, AreNext, sizes_of}

-- level 0 is the plan without faults
pub starts : (level : ℕ → List (List Rig)) (l : GrownLevels) (none : List ℕ) → level 0 ≡ [] ∷ [] → l.plans ≡ [] ∷ [] → l.last ≡ 0 → none ≡ [] → l.sizes.items ≡ none ++ 1 ∷ [] → AreLevels level 0 l
unfolding levels_to
starts level l none start is first empty added =
    let one = ap length start in
    let many = ap length is in
    record {
      are = is ∙ sym start;
      begins = omega (arith, one, many, first);
      sizes = added ∙ ap (λ (s : List ℕ). s ++ 1 ∷ []) empty ∙ ap (λ (n : ℕ). n ∷ []) (sym one);
    }

next_size : (level : ℕ → List (List Rig)) (n : ℕ) (l : GrownLevels) (gs : List Grew) → AreNext level n l gs → length gs ≡ length (level (suc n))
next_size level n l gs grows = sym (length-map gs (plan_of l.plans)) ∙ ap length grows

-- and the next one comes behind those that are there
pub more_levels : (level : ℕ → List (List Rig)) (n size : ℕ) (old new : GrownLevels) (gs : List Grew) → AreLevels level n old → AreNext level n old gs → new.plans ≡ old.plans ++ map (plan_of old.plans) gs → new.last ≡ length old.plans
    → size ≡ length gs → new.sizes.items ≡ old.sizes.items ++ size ∷ [] → AreLevels level (suc n) new
unfolding levels_to
more_levels level n size old new gs were grows added last many pushed =
    let is : new.plans ≡ levels_to level n ++ level (suc n) = added ∙ ap (λ (ps : List (List Rig)). old.plans ++ ps) grows ∙ ap (λ (ps : List (List Rig)). ps ++ level (suc n)) were.are in
    let long = ap length is ∙ length-append (levels_to level n) (level (suc n)) in
    let before = ap length were.are in
    let here : size ≡ length (level (suc n)) = many ∙ next_size level n old gs grows in
    record {
      are = is;
      begins = omega (arith, long, before, last);
      sizes =
          pushed ∙ ap (λ (s : List ℕ). s ++ size ∷ []) were.sizes ∙ ap (λ (k : ℕ). sizes_of level (n + 1) ++ k ∷ []) here
          ∙ sym (map-range_with_len_more (λ m. length (level m)) 0 (n + 1) (suc n) (omega arith)) ∙ ap (sizes_of level) (let e : n + 1 + 1 ≡ suc n + 1 = omega arith in e);
    }

-- The same if there is no room for the level.
pub too_many : (level : ℕ → List (List Rig)) (n most : ℕ) (old : GrownLevels) (gs : List Grew) → AreLevels level n old → AreNext level n old gs → most < length old.plans + length gs → most < length (levels_to level (suc n))
unfolding levels_to
too_many level n most old gs were grows many =
    let size = next_size level n old gs grows in
    let long = length-append (levels_to level n) (level (suc n)) in
    let before = ap length were.are in
    omega (arith, many, size, long, before)

-- the levels of a greater depth have no fewer plans
pub levels_more : (level : ℕ → List (List Rig)) (n k : ℕ) → length (levels_to level n) ≤ length (levels_to level (n + k))
unfolding levels_to
levels_more level n zero = let e : length (levels_to level n) ≡ length (levels_to level (n + 0)) = ap (λ m. length (levels_to level m)) (let z : n ≡ n + 0 = omega arith in z) in omega (arith, e)
levels_more level n (suc k) =
    let more = levels_more level n k in
    let here = length-append (levels_to level (n + k)) (level (suc (n + k))) in
    let same : length (levels_to level (suc (n + k))) ≡ length (levels_to level (n + suc k)) = ap (λ m. length (levels_to level m)) (let e : suc (n + k) ≡ n + suc k = omega arith in e) in
    omega (arith, more, here, same)
