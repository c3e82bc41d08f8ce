-- What is kept of runs, one after another.
use Rattle.std.proofs.Common.{◌≡◌, ℕ, zero, suc, ◌+◌, ◌*◌, ◌<◌, ◌≤◌, ◌==◌, ◌&&◌, Bool, true, false, cond, Option, max, replicate, List, [], ◌∷◌, ◌++◌, map, length, get_or, refl, ap, sym, ◌∙◌, subst, arith}
use Rattle.std.proofs.lemmas.List.{length-append, length-replicate, append-nil, map-append}
use Rattle.action_eval.specs.declared.rig.Rig.{Rig}
use Rattle.plan_gen.specs.LoopRuns.{times}
use Rattle.grown_plans.specs.GrownPlans.{Subject, most}
use Rattle.action_eval.specs.declared.rig.Site.{Site}
use Rattle.grown_plans.specs.AskedPoints.{sites_from, sites_after, sites_past}
use Rattle.grown_plans.specs.GrownPlans.{Tried, cut_point, kinds_at, tried_over, usual_at}
use Rattle.grown_plans.specs.Kept.{Grew, GrewFrom, plan_of, kept_children}
use Rattle.grown_plans.proofs.KeptChildren.{at_most_two}
use Rattle.grown_plans.proofs.Members.{all_append}
use Rattle.grown_runs.specs.declared.input.Part.{Part}
use Rattle.grown_runs.specs.declared.input.Place.{Place}
use Rattle.grown_runs.specs.declared.input.Place.TheVariants.{Inner, Last, Onward}
use Rattle.grown_runs.specs.declared.input.Purpose.{Purpose}
use Rattle.grown_runs.specs.declared.input.Purpose.TheVariants.{Plans, Report}
use Rattle.grown_runs.specs.declared.kept.Growth.{Growth}
use Rattle.grown_runs.specs.declared.outcomes.Outcomes.{Outcomes}
use Rattle.grown_runs.specs.GrownRuns.{over, told, verdict_at, children_at, onward_at, hits_at, cause_at}
use Rattle.grown_runs.specs.inside.Growths.{if_inner, if_last, if_report, AreTold, IsGrowth}
use Rattle.grown_runs.proofs.Overs.{over_parts, over_next, over_more, most_parts, most_single}

inner_next : {A : Type 0} (place : Place) (f : ℕ → List Rig → List A) (plans : List (List Rig)) (first count n : ℕ) (old new : List A) → first + count ≡ n
    → old ≡ if_inner place (over f plans first count) → new ≡ old ++ if_inner place (f n (get_or plans n [])) → new ≡ if_inner place (over f plans first (count + 1))
inner_next Inner f plans first count n old new at so_far added = over_next f plans first count n old new (f n (get_or plans n [])) at so_far refl added
inner_next Last f plans first count n old new at so_far added = added ∙ append-nil old ∙ so_far
inner_next Onward f plans first count n old new at so_far added = added ∙ append-nil old ∙ so_far

last_next : {A : Type 0} (place : Place) (f : ℕ → List Rig → List A) (plans : List (List Rig)) (first count n : ℕ) (old new : List A) → first + count ≡ n
    → old ≡ if_last place (over f plans first count) → new ≡ old ++ if_last place (f n (get_or plans n [])) → new ≡ if_last place (over f plans first (count + 1))
last_next Last f plans first count n old new at so_far added = over_next f plans first count n old new (f n (get_or plans n [])) at so_far refl added
last_next Inner f plans first count n old new at so_far added = added ∙ append-nil old ∙ so_far
last_next Onward f plans first count n old new at so_far added = added ∙ append-nil old ∙ so_far

most_next : (t : Subject) (seed : ℕ) (plans : List (List Rig)) (first count n p was now : ℕ) → first + count ≡ n → was ≡ most (over (hits_at t seed p) plans first count)
    → now ≡ max was (times p (told t seed n (get_or plans n [])).asked) → now ≡ most (over (hits_at t seed p) plans first (count + 1))
most_next t seed plans first count n p was now at so_far raised =
    let one : List ℕ = hits_at t seed p n (get_or plans n []) in
    let whole = over_next (hits_at t seed p) plans first count n (over (hits_at t seed p) plans first count) (over (hits_at t seed p) plans first count ++ one) one at refl refl refl in
    let parts = most_parts (over (hits_at t seed p) plans first count) one in
    let single = most_single (times p (told t seed n (get_or plans n [])).asked) in
    raised ∙ ap (λ k. max k (times p (told t seed n (get_or plans n [])).asked)) so_far
    ∙ ap (λ k. max (most (over (hits_at t seed p) plans first count)) k) (sym single) ∙ sym parts ∙ ap most whole

inner_nil : {A : Type 0} (place : Place) → [] ≡ if_inner {A = A} place []
inner_nil Inner = refl
inner_nil Last = refl
inner_nil Onward = refl

last_nil : {A : Type 0} (place : Place) → [] ≡ if_last {A = A} place []
last_nil Inner = refl
last_nil Last = refl
last_nil Onward = refl

report_next : {A : Type 0} (purpose : Purpose) (f : ℕ → List Rig → List A) (plans : List (List Rig)) (first count n : ℕ) (old new : List A) → first + count ≡ n
    → old ≡ if_report purpose (over f plans first count) → new ≡ old ++ if_report purpose (f n (get_or plans n [])) → new ≡ if_report purpose (over f plans first (count + 1))
report_next Plans f plans first count n old new at so_far added = added ∙ append-nil old ∙ so_far
report_next Report f plans first count n old new at so_far added = over_next f plans first count n old new (f n (get_or plans n [])) at so_far refl added

report_nil : {A : Type 0} (purpose : Purpose) → [] ≡ if_report {A = A} purpose []
report_nil Plans = refl
report_nil Report = refl

-- one plan more
pub growth_next : (t : Subject) (seed : ℕ) (part : Part) (plans : List (List Rig)) (first count n : ℕ) (old new : Growth) → first + count ≡ n
    → IsGrowth t seed part plans first count old
    → new.outcomes.verdicts.items ≡ old.outcomes.verdicts.items ++ verdict_at t seed n (get_or plans n [])
    → new.children.items ≡ old.children.items ++ if_inner part.place (children_at t seed n (get_or plans n []))
    → new.child_count ≡ old.child_count + length (children_at t seed n (get_or plans n []))
    → map (plan_of plans) new.onward.items ≡ map (plan_of plans) old.onward.items ++ if_last part.place (onward_at t seed n (get_or plans n []))
    → GrewFrom (length plans) new.onward.items
    → new.outcomes.causes.items ≡ old.outcomes.causes.items ++ if_report part.purpose (cause_at t seed n (get_or plans n []))
    → length new.outcomes.hits.items ≡ length old.outcomes.hits.items
    → ((p : ℕ) → p < length old.outcomes.hits.items
    → get_or new.outcomes.hits.items p 0 ≡ max (get_or old.outcomes.hits.items p 0) (times p (told t seed n (get_or plans n [])).asked))
    → IsGrowth t seed part plans first (count + 1) new
growth_next t seed part plans first count n old new at is verdicts children many onward from causes hits most =
    let a = old.outcomes in
    let b = new.outcomes in
    let was = is.told in
    record {
      told = record {
        verdicts = over_next (verdict_at t seed) plans first count n a.verdicts.items b.verdicts.items _ at was.verdicts refl verdicts;
        causes = report_next part.purpose (cause_at t seed) plans first count n a.causes.items b.causes.items at was.causes causes;
        hits = hits ∙ was.hits;
        most = λ p lt.
            let low : p < length a.hits.items = omega (arith, lt, hits) in
            most_next t seed plans first count n p (get_or a.hits.items p 0) (get_or b.hits.items p 0) at (was.most p low) (most p low);
      };
      children = inner_next part.place (children_at t seed) plans first count n old.children.items new.children.items at is.children children;
      many =
          let one : List Grew = children_at t seed n (get_or plans n []) in
          let before : List Grew = over (children_at t seed) plans first count in
          let whole = ap length (over_next (children_at t seed) plans first count n before (before ++ one) one at refl refl refl) in
          let long = length-append before one in
          let so_far = is.many in
          omega (arith, many, whole, long, so_far);
      onward = last_next part.place (onward_at t seed) plans first count n (map (plan_of plans) old.onward.items) (map (plan_of plans) new.onward.items) at is.onward onward;
      from = from;
    }

-- ---- two parts of a list

inner_more : {A : Type 0} (place : Place) (f : ℕ → List Rig → List A) (plans : List (List Rig)) (first count more : ℕ) (old new further : List A)
    → old ≡ if_inner place (over f plans first count) → further ≡ if_inner place (over f plans (first + count) more) → new ≡ old ++ further
    → new ≡ if_inner place (over f plans first (count + more))
inner_more Inner f plans first count more old new further so_far then_these added = over_more f plans first count more old new further so_far then_these added
inner_more Last f plans first count more old new further so_far then_these added = added ∙ ap (λ l. l ++ further) so_far ∙ then_these
inner_more Onward f plans first count more old new further so_far then_these added = added ∙ ap (λ l. l ++ further) so_far ∙ then_these

last_more : {A : Type 0} (place : Place) (f : ℕ → List Rig → List A) (plans : List (List Rig)) (first count more : ℕ) (old new further : List A)
    → old ≡ if_last place (over f plans first count) → further ≡ if_last place (over f plans (first + count) more) → new ≡ old ++ further
    → new ≡ if_last place (over f plans first (count + more))
last_more Last f plans first count more old new further so_far then_these added = over_more f plans first count more old new further so_far then_these added
last_more Inner f plans first count more old new further so_far then_these added = added ∙ ap (λ l. l ++ further) so_far ∙ then_these
last_more Onward f plans first count more old new further so_far then_these added = added ∙ ap (λ l. l ++ further) so_far ∙ then_these

report_more : {A : Type 0} (purpose : Purpose) (f : ℕ → List Rig → List A) (plans : List (List Rig)) (first count more : ℕ) (old new further : List A)
    → old ≡ if_report purpose (over f plans first count) → further ≡ if_report purpose (over f plans (first + count) more) → new ≡ old ++ further
    → new ≡ if_report purpose (over f plans first (count + more))
report_more Plans f plans first count more old new further so_far then_these added = added ∙ ap (λ l. l ++ further) so_far ∙ then_these
report_more Report f plans first count more old new further so_far then_these added = over_more f plans first count more old new further so_far then_these added

most_more : (t : Subject) (seed : ℕ) (plans : List (List Rig)) (first count more p was further now : ℕ) → was ≡ most (over (hits_at t seed p) plans first count)
    → further ≡ most (over (hits_at t seed p) plans (first + count) more) → now ≡ max was further → now ≡ most (over (hits_at t seed p) plans first (count + more))
most_more t seed plans first count more p was further now so_far then_these raised =
    raised ∙ ap (λ k. max k further) so_far ∙ ap (λ k. max (most (over (hits_at t seed p) plans first count)) k) then_these
    ∙ sym (most_parts (over (hits_at t seed p) plans first count) (over (hits_at t seed p) plans (first + count) more))
    ∙ ap most (sym (over_parts (hits_at t seed p) plans first count more))

pub told_joined : (t : Subject) (seed : ℕ) (purpose : Purpose) (plans : List (List Rig)) (first count next more : ℕ) (old further new : Outcomes) → first + count ≡ next
    → AreTold t seed purpose plans first count old → AreTold t seed purpose plans next more further
    → new.verdicts.items ≡ old.verdicts.items ++ further.verdicts.items
    → new.causes.items ≡ old.causes.items ++ further.causes.items
    → length new.hits.items ≡ length old.hits.items
    → ((p : ℕ) → p < length old.hits.items → get_or new.hits.items p 0 ≡ max (get_or old.hits.items p 0) (get_or further.hits.items p 0))
    → AreTold t seed purpose plans first (count + more) new
told_joined t seed purpose plans first count next more old further new at was then_these verdicts causes hits raised =
    let these : AreTold t seed purpose plans (first + count) more further = subst (λ n. AreTold t seed purpose plans n more further) (sym at) then_these in
    record {
      verdicts = over_more (verdict_at t seed) plans first count more old.verdicts.items new.verdicts.items further.verdicts.items was.verdicts these.verdicts verdicts;
      causes = report_more purpose (cause_at t seed) plans first count more old.causes.items new.causes.items further.causes.items was.causes these.causes causes;
      hits = hits ∙ was.hits;
      most = λ p lt.
          let low : p < length old.hits.items = omega (arith, lt, hits) in
          let same_one = was.hits in
          let same_two = these.hits in
          most_more t seed plans first count more p (get_or old.hits.items p 0) (get_or further.hits.items p 0) (get_or new.hits.items p 0) (was.most p low)
          (these.most p (omega (arith, low, same_one, same_two))) (raised p low);
    }

pub growth_joined : (t : Subject) (seed : ℕ) (part : Part) (plans : List (List Rig)) (first count more : ℕ) (old further new : Growth)
    → IsGrowth t seed part plans first count old → IsGrowth t seed part plans (first + count) more further
    → AreTold t seed part.purpose plans first (count + more) new.outcomes
    → new.children.items ≡ old.children.items ++ further.children.items
    → new.child_count ≡ old.child_count + further.child_count
    → new.onward.items ≡ old.onward.items ++ further.onward.items
    → IsGrowth t seed part plans first (count + more) new
growth_joined t seed part plans first count more old further new was then_these told children many onward =
    record {
      told = told;
      children = inner_more part.place (children_at t seed) plans first count more old.children.items new.children.items further.children.items was.children then_these.children children;
      many =
          let whole = ap length (over_parts (children_at t seed) plans first count more) in
          let long = length-append (over (children_at t seed) plans first count) (over (children_at t seed) plans (first + count) more) in
          let a = was.many in
          let b = then_these.many in
          omega (arith, many, whole, long, a, b);
      onward =
          last_more part.place (onward_at t seed) plans first count more (map (plan_of plans) old.onward.items) (map (plan_of plans) new.onward.items) (map (plan_of plans) further.onward.items)
          was.onward then_these.onward (ap (map (plan_of plans)) onward ∙ map-append (plan_of plans) old.onward.items further.onward.items);
      from = subst (GrewFrom (length plans)) (sym onward) (all_append (λ (g : Grew). g.parent < length plans) old.onward.items further.onward.items was.from then_these.from);
    }

-- ---- no plan

zeros : (n p : ℕ) → get_or {A = ℕ} (replicate n 0) p 0 ≡ 0
zeros zero p = refl
zeros (suc n) zero = refl
zeros (suc n) (suc p) = zeros n p

pub told_none : (t : Subject) (seed : ℕ) (purpose : Purpose) (plans : List (List Rig)) (first points : ℕ) (o : Outcomes) → o.verdicts.items ≡ [] → o.causes.items ≡ []
    → o.hits.items ≡ replicate points 0 → length t.names ≡ points → AreTold t seed purpose plans first 0 o
told_none t seed purpose plans first points o verdicts causes hits many =
    record {
      verdicts = verdicts;
      causes = causes ∙ report_nil purpose;
      hits = ap length hits ∙ length-replicate points 0 ∙ sym many;
      most = λ p lt. ap (λ hs. get_or hs p 0) hits ∙ zeros points p;
    }

pub growth_none : (t : Subject) (seed : ℕ) (part : Part) (plans : List (List Rig)) (first : ℕ) (g : Growth) → AreTold t seed part.purpose plans first 0 g.outcomes → g.children.items ≡ []
    → g.child_count ≡ 0 → g.onward.items ≡ [] → IsGrowth t seed part plans first 0 g
growth_none t seed part plans first g told children many onward =
    record {
      told = told;
      children = children ∙ inner_nil part.place;
      many = many;
      onward = ap (map (plan_of plans)) onward ∙ last_nil part.place;
      from = subst (GrewFrom (length plans)) (sym onward) tt;
    }

-- ---- how many children there are

sites_few : (before asked : List ℕ) → length (sites_from before asked) ≡ length asked
sites_few before [] = refl
sites_few before (p ∷ ps) = ap (λ n. suc n) (sites_few (before ++ p ∷ []) ps)

after_few : (s : Site) (xs : List Site) → length (sites_after s xs) ≤ length xs
after_few s [] = omega arith
after_few s (x ∷ xs) = after_either ((x.point == s.point) && (x.hit == s.hit)) s xs (after_few s xs)
  where
    after_either : (b : Bool) (s : Site) (xs : List Site) → length (sites_after s xs) ≤ length xs → length (cond b xs (sites_after s xs)) ≤ suc (length xs)
    after_either true s xs le = omega arith
    after_either false s xs le = omega (arith, le)

past_few : (plan : List Rig) (xs : List Site) → length (sites_past plan xs) ≤ length xs
past_few [] xs = omega arith
past_few (r ∷ rs) xs = after_few r.site xs

pub kept_few : (cut : Option ℕ) (n : ℕ) (plan : List Rig) (asked : List ℕ) → length (kept_children (usual_at cut) n plan asked) ≤ 2 * length asked
kept_few cut n plan asked =
    let sites = sites_from [] asked in
    let few = past_few plan sites in
    let all = sites_few [] asked in
    let twice = at_most_two cut n (sites_past plan sites) in
    omega (arith, few, all, twice)

-- the same over the kinds of a target
pub children_few : (kinds : Tried) (names : List (List ℕ)) → kinds ≡ tried_over names [] → (n : ℕ) (plan : List Rig) (asked : List ℕ) → length (kept_children (kinds_at kinds) n plan asked) ≤ 2 * length asked
children_few kinds names is n plan asked = subst (λ (k : Tried). length (kept_children (kinds_at k) n plan asked) ≤ 2 * length asked) (sym is) (kept_few (cut_point names) n plan asked)

-- ---- as many verdicts as plans

verdicts_many : (t : Subject) (seed : ℕ) (plans : List (List Rig)) (first count : ℕ) → length (over (verdict_at t seed) plans first count) ≡ count
verdicts_many t seed plans first zero = refl
verdicts_many t seed plans first (suc count) = ap (λ n. suc n) (verdicts_many t seed plans (first + 1) count)

pub growth_many : (t : Subject) (seed : ℕ) (part : Part) (plans : List (List Rig)) (first count : ℕ) (g : Growth) → IsGrowth t seed part plans first count g
    → length g.outcomes.verdicts.items ≡ count
growth_many t seed part plans first count g is = ap length is.told.verdicts ∙ verdicts_many t seed plans first count
