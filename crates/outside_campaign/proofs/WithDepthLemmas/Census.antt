-- The census of the run without faults.
use Rattle.std.proofs.Common.{◌≡◌, ◌≤◌, ◌<◌, ℕ, zero, suc, List, Some, None, Option, length, replicate, refl, ap, sym, ◌∙◌, subst, arith}
use Rattle.std.specs.Option.{option_map_or}
use Rattle.std.specs.Prelude.{option_map}
use Rattle.plan_gen.specs.Census.{census_of, counts_of, sites_of}
use Rattle.plan_gen.specs.inside.Counts.{total_of}
use Rattle.plan_gen.specs.PlanList.{most_plans}
use Rattle.plan_gen.proofs.Counting.{sites_length}
use Rattle.grown_plans.specs.GrownPlans.{Subject}
use Rattle.answer_text.specs.Runs.{told_in}
use Rattle.answered_runs.specs.Answered.{Answered}
use Rattle.answered_runs.specs.Components.{AgreesWithRuns, IsComponent}
use Rattle.answered_runs.specs.grown.Further.{HasFewHits, census_seen, census_told, clean_hits}
use Rattle.answered_runs.proofs.GrownLemmas.Counts.{each_count, few_sites}
use Rattle.outside_campaign.specs.with_depth.inside.Outcomes.{IsCleanCensus}

-- each component that agrees has this census
abbrev IsEach : Answered → List ℕ → Type 0
IsEach a counts = (t : Subject) → IsComponent a.points a.listed t → AgreesWithRuns t (told_in a.book) → (seed : ℕ) → counts ≡ census_of t.asks t.names seed t.limit

counted : (a : Answered) (counts : List ℕ) (o : Option (List ℕ)) → clean_hits a ≡ o → Some counts ≡ option_map (counts_of (length a.points)) o → option_map_or length o 0 < most_plans → IsEach a counts
    → IsCleanCensus a counts
counted a counts None clean is few each = absurd cc
counted a counts (Some hits) clean is few each =
    let same : counts ≡ counts_of (length a.points) hits = cc in
    let sites = few_sites (length a.points) hits few in
    record {
      each = λ t component agrees seed. each t component agrees seed ∙ ap (census_seen t seed) (sym clean);
      many = ap length same ∙ each_count (length a.points) hits;
      few = subst (λ (l : List ℕ). length (sites_of l) ≤ most_plans) (sym same) (omega (arith, sites));
    }

pub census_is : (a : Answered) (counts : List ℕ) → Some counts ≡ census_told a → HasFewHits a → IsEach a counts → IsCleanCensus a counts
census_is a counts is few each = counted a counts (clean_hits a) refl is few each

-- where no hits are told

zero_length : (n : ℕ) → length {A = ℕ} (replicate n 0) ≡ n
zero_length zero = refl
zero_length (suc n) = let rest = zero_length n in omega (arith, rest)

zero_total : (n : ℕ) → total_of (replicate n 0) ≡ 0
zero_total zero = refl
zero_total (suc n) = let rest = zero_total n in omega (arith, rest)

none_hit : (a : Answered) (o : Option (List ℕ)) → clean_hits a ≡ o → None ≡ option_map (counts_of (length a.points)) o → clean_hits a ≡ None
none_hit a None clean is = clean
none_hit a (Some hits) clean is = absurd cc

pub no_census : (a : Answered) (counts : List ℕ) (n : ℕ) → None ≡ census_told a → n ≡ length a.points → counts ≡ replicate n 0 → IsCleanCensus a counts
no_census a counts n none many is =
    let clean : clean_hits a ≡ None = none_hit a (clean_hits a) refl none in
    let sites = sites_length 0 (replicate n 0) in
    let total = zero_total n in
    record {
      each =
          λ t component agrees seed. is ∙ ap (λ (k : ℕ). replicate k 0) (many ∙ ap length (sym component.names)) ∙ ap (census_seen t seed) (sym clean);
      many = ap length is ∙ zero_length n ∙ many;
      few = subst (λ (l : List ℕ). length (sites_of l) ≤ most_plans) (sym is) (omega (arith, sites, total));
    }
