-- The hits of a run, one by one, as a plan's children are added.
use Rattle.std.proofs.Common.{◌≡◌, ℕ, zero, suc, ◌+◌, ◌<◌, ◌||◌, Bool, true, false, cond, List, [], ◌∷◌, ◌++◌, take, drop, length, get_or, refl, ap, sym, ◌∙◌, arith, append_assoc}
use Rattle.std.specs.List.{flat_map, list_any, AllByRecursion}
use Rattle.std.proofs.lemmas.List.{take_more}
use Rattle.std.proofs.Math.Seq.{drop-cons}
use Rattle.action_eval.specs.declared.rig.Site.{Site}
use Rattle.action_eval.specs.declared.rig.Rig.{Rig}
use Rattle.grown_plans.specs.AskedPoints.{sites_from, sites_after, is_point_of}
use Rattle.action_eval.specs.declared.rig.Kind.{Kind}
use Rattle.grown_plans.specs.Kept.{Grew, kept_at}
use Rattle.grown_plans.specs.inside.Counted.{next_site, is_site_of, sites_left}

-- the hits that are still to come, from one on
pub sites_ahead : (asked : List ℕ) (i d : ℕ) → i < length asked
    → sites_from (take i asked) (drop i asked) ≡ next_site (take i asked) (get_or asked i d) ∷ sites_from (take (i + 1) asked) (drop (i + 1) asked)
sites_ahead asked i d lt =
    ap (sites_from (take i asked)) (drop-cons asked i d lt ∙ ap (λ n. get_or asked i d ∷ drop n asked) (let e : suc i ≡ i + 1 = omega arith in e))
    ∙ ap (λ l. next_site (take i asked) (get_or asked i d) ∷ sites_from l (drop (i + 1) asked)) (sym (take_more asked i d lt))

by_test : (b : Bool) (r : Rig) (rs : List Rig) (xs : List Site) → cond b xs (sites_after r.site xs) ≡ sites_left b (r ∷ rs) xs
by_test true r rs xs = refl
by_test false r rs xs = refl

-- before a plan's last fault has been met, a hit may be that fault's
left_after : (plan : List Rig) (s : Site) (xs : List Site) → (plan ≡ [] → false ≡ true) → sites_left false plan (s ∷ xs) ≡ sites_left (is_site_of plan s) plan xs
left_after [] s xs some = absurd (let e = some refl in cc)
left_after (r ∷ rs) s xs some = by_test (is_site_of (r ∷ rs) s) r rs xs

begun_after : (plan : List Rig) (b : Bool) → (plan ≡ [] → false ≡ true) → plan ≡ [] → b ≡ true
begun_after plan b some e = absurd (let f = some e in cc)

-- ---- what is kept by one hit more

or_more : (a b c : Bool) → ((a || b) || c) ≡ (a || (b || c))
or_more true b c = refl
or_more false b c = refl

abbrev is_again_in : List Rig → List Site → Bool
is_again_in plan xs = list_any (λ x. is_point_of plan x.point) xs

abbrev Kept : (ℕ → List Kind) → ℕ → List Rig → Bool → Bool → List Grew → List Site → List Grew → Bool → Type 0
Kept kinds number plan past again children sites whole told =
    (children ++ flat_map (kept_at kinds number) (sites_left past plan sites) ≡ whole) × ((again || is_again_in plan (sites_left past plan sites)) ≡ told)
    × (plan ≡ [] → past ≡ true)

-- past the last fault, each hit has children
pub kept_past : (kinds : ℕ → List Kind) (number : ℕ) (plan : List Rig) (past past' again again' : Bool) (children children' whole : List Grew) (told : Bool) (s : Site) (sites xs : List Site)
    → sites ≡ s ∷ xs → past ≡ true → past' ≡ past → children' ≡ children ++ kept_at kinds number s → again' ≡ (again || is_point_of plan s.point)
    → Kept kinds number plan past again children sites whole told → Kept kinds number plan past' again' children' xs whole told
kept_past kinds number plan false past' again again' children children' whole told s sites xs e is same added more kept = absurd cc
kept_past kinds number plan true false again again' children children' whole told s sites xs e is same added more kept = absurd cc
kept_past kinds number plan true true again again' children children' whole told s sites xs e is same added more kept = (
  ap (λ l. l ++ flat_map (kept_at kinds number) xs) added ∙ append_assoc children (kept_at kinds number s) (flat_map (kept_at kinds number) xs)
      ∙ ap (λ l. children ++ flat_map (kept_at kinds number) l) (sym e) ∙ kept.0,
  ap (λ b. b || is_again_in plan xs) more ∙ or_more again (is_point_of plan s.point) (is_again_in plan xs)
      ∙ ap (λ l. again || is_again_in plan l) (sym e) ∙ kept.1,
  λ none. refl,
)

-- before it, a hit may be that fault's
pub kept_before : (kinds : ℕ → List Kind) (number : ℕ) (plan : List Rig) (past past' again again' : Bool) (children children' whole : List Grew) (told : Bool) (s : Site) (sites xs : List Site)
    → sites ≡ s ∷ xs → past ≡ false → past' ≡ is_site_of plan s → children' ≡ children → again' ≡ again
    → Kept kinds number plan past again children sites whole told → Kept kinds number plan past' again' children' xs whole told
kept_before kinds number plan true past' again again' children children' whole told s sites xs e is now same still kept = absurd cc
kept_before kinds number plan false past' again again' children children' whole told s sites xs e is now same still kept =
    let left : sites_left false plan sites ≡ sites_left past' plan xs =
    ap (sites_left false plan) e ∙ left_after plan s xs kept.2 ∙ ap (λ b. sites_left b plan xs) (sym now) in (
      ap (λ l. l ++ flat_map (kept_at kinds number) (sites_left past' plan xs)) same ∙ ap (λ l. children ++ flat_map (kept_at kinds number) l) (sym left) ∙ kept.0,
      ap (λ b. b || is_again_in plan (sites_left past' plan xs)) still ∙ ap (λ l. again || is_again_in plan l) (sym left) ∙ kept.1,
      begun_after plan past' kept.2,
    )

pub again_still : (again again' more : Bool) → again ≡ true → again' ≡ again → again' ≡ (again || more)
again_still true again' more e is = is
again_still false again' more e is = absurd cc

pub again_now : (again again' more : Bool) → again ≡ false → again' ≡ more → again' ≡ (again || more)
again_now true again' more e is = absurd cc
again_now false again' more e is = is

-- one of points that are all below a bound
pub all_at : (ps : List ℕ) (i : ℕ) → i < length ps → AllByRecursion (λ p. p < 64) ps → get_or ps i 0 < 64
all_at [] i lt all = absurd (omega (arith, lt))
all_at (p ∷ ps) zero lt all = all.0
all_at (p ∷ ps) (suc i) lt all = all_at ps i (omega (arith, lt)) all.1
