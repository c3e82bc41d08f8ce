-- The kinds that settings list may be tried.
use Rattle.std.proofs.Common.{◌≡◌, ◌≢◌, ℕ, ◌≤◌, Bool, true, false, List, [], ◌∷◌, map, length, refl, arith, ◌&&◌}
use Rattle.std.specs.Prelude.{Some, None, nat_le, not}
use Rattle.std.specs.List.{AllByRecursion}
use Rattle.std.proofs.lemmas.Bool.{leb-true}
use Rattle.std.proofs.lemmas.List.{length-map}
use Rattle.scenario_values.specs.Scenario.{is_argument}
use Rattle.action_eval.specs.RiggedScenario.{HasLawfulText, most_text}
use Rattle.action_eval.specs.declared.rig.Kind.{Kind}
use Rattle.action_eval.specs.declared.rig.Kind.TheVariants.{OnceReturn, OncePanic}
use Rattle.plan_gen.specs.RiggedAnswers.{is_onward}
use Rattle.grown_plans.specs.Promises.{CanBeTried, EachTwo}
use Rattle.grown_plans.proofs.ListedKinds.{listed_can}
use Rattle.grown_plans.proofs.Members.{all_map, all_of, all_weaker, two_map}
use Rattle.answered_runs.specs.Answered.{CanBeListed, kinds_over}
use Rattle.campaign_given.specs.Description.{Description, IsDescription, AreApart, AreTried, has_control, is_tried}
use Rattle.campaign_given.specs.declared.outside.TriedFault.{TriedFault}
use Rattle.campaign_given.specs.declared.outside.TriedFault.TheVariants.{Return, Panic}
use Rattle.outside_campaign.specs.with_depth.Kinds.{kind_of, listed_kinds}

-- ---- the text of a fault that is tried

pub record Short (text : List ℕ) : Type 0 where
  pub lawful : is_argument text ≡ true
  pub few : length text ≤ most_text

three : (a b c : Bool) → (a && b && c) ≡ true → (a ≡ true) × (b ≡ true)
three true true c e = (refl, refl)
three true false c e = absurd cc
three false b c e = absurd cc

pub short_text : (text : List ℕ) → is_tried (Return (Some text)) ≡ true → Short text
short_text text e =
    let parts = three (is_argument text) (nat_le (length text) most_text) (not (has_control text)) e in
    record { lawful = parts.0; few = leb-true (length text) most_text parts.1 }

-- ---- each fault

kind_once : (fault : TriedFault) → is_onward (kind_of fault) ≡ false
kind_once (Return text) = refl
kind_once Panic = refl

kind_lawful : (fault : TriedFault) → is_tried fault ≡ true → HasLawfulText (kind_of fault)
kind_lawful (Return None) e = tt
kind_lawful (Return (Some text)) e = let short = short_text text e in (short.lawful, short.few)
kind_lawful Panic e = tt

same_fault : (a b : TriedFault) → kind_of a ≡ kind_of b → a ≡ b
same_fault (Return x) (Return y) e = let f : OnceReturn x ≡ OnceReturn y = e in cc
same_fault (Return x) Panic e = absurd (let f : OnceReturn x ≡ OncePanic = e in cc)
same_fault Panic (Return y) e = absurd (let f : OncePanic ≡ OnceReturn y = e in cc)
same_fault Panic Panic e = refl

kinds_apart : (faults : List TriedFault) → AreApart faults → EachTwo (λ a b. kind_of a ≢ kind_of b) faults
kinds_apart [] apart = tt
kinds_apart (fault ∷ faults) apart =
    (all_weaker (λ (other : TriedFault). fault ≢ other) (λ (other : TriedFault). kind_of fault ≢ kind_of other) (λ other differ e. differ (same_fault fault other e)) faults apart.0, kinds_apart faults apart.1)

-- ---- the faults of a point, and of all points

can_one : (faults : List TriedFault) → AreTried faults → CanBeListed (map kind_of faults)
can_one faults are = record {
  few = let same = length-map faults kind_of in let few = are.few in omega (arith, same, few);
  tried = record {
    once = all_map (λ (kind : Kind). is_onward kind ≡ false) kind_of faults (all_of _ kind_once faults);
    apart = two_map (λ (a b : Kind). a ≢ b) kind_of faults (kinds_apart faults are.apart);
    texts = all_map HasLawfulText kind_of faults (all_weaker (λ (fault : TriedFault). is_tried fault ≡ true) (λ (fault : TriedFault). HasLawfulText (kind_of fault)) kind_lawful faults are.each);
  };
}

pub can_each : (tried : List (List TriedFault)) → AllByRecursion AreTried tried → AllByRecursion CanBeListed (map (map kind_of) tried)
can_each tried all = all_map CanBeListed (map kind_of) tried (all_weaker AreTried (λ (faults : List TriedFault). CanBeListed (map kind_of faults)) can_one tried all)

pub all_under : {A B : Type 0} (P : B → Type 0) (f : A → B) (xs : List A) → AllByRecursion P (map f xs) → AllByRecursion (λ x. P (f x)) xs
all_under P f [] all = tt
all_under P f (x ∷ xs) all = (all.0, all_under P f xs all.1)

pub kinds_can : (outside : Description) → IsDescription outside → (point : ℕ) → CanBeTried (kinds_over outside.points (listed_kinds outside) point)
kinds_can outside is =
    listed_can outside.points (listed_kinds outside) (all_weaker CanBeListed CanBeTried (λ kinds can. can.tried) (listed_kinds outside) (can_each outside.kinds is.tried))
