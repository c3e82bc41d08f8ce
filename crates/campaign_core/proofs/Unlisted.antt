-- Why a list of plans isn't made, and a plan isn't found.
use Rattle.std.proofs.Common.{◌≡◌, ◌<◌, ◌≤◌, ℕ, List, Result, Ok, Err, IfErr, IsErrAnd, length, refl, sym, ◌∙◌, subst}
use Rattle.std.specs.Prelude.{IsErrOf}
use Rattle.plan_gen.specs.PlanList.{most_plans}
use Rattle.plan_gen.specs.declared.list.PlanFault.{PlanFault}
use Rattle.plan_gen.specs.declared.list.PlanFault.TheVariants as planning
use Rattle.campaign_core.specs.declared.ending.CampaignFault.{CampaignFault}
use Rattle.campaign_core.specs.declared.ending.CampaignFault.TheVariants as fault
use Rattle.campaign_core.specs.CommandTexts.{counted, plan_fault, IsFault, IsUnfound, IsUnlisted, LeavesOnly}
use Rattle.campaign_core.specs.Headline.{Campaign, plans}
use Rattle.campaign_core.specs.Writes.{Change, IsUntouched}

module _ {A : Type 0} where
  pub passed_on : (result : Result A CampaignFault) (f : PlanFault) → IsErrAnd result (λ x. x ≡ plan_fault f) → (P : CampaignFault → Type 0) → P (plan_fault f)
      → IfErr result P
  passed_on (Ok a) f is P h = absurd is
  passed_on (Err e) f is P h = subst P (sym is) h

  pub passed_as_it_is : (result : Result A CampaignFault) (f : CampaignFault) → IsErrAnd result (λ x. x ≡ f) → (P : CampaignFault → Type 0) → P f → IfErr result P
  passed_as_it_is (Ok a) f is P h = absurd is
  passed_as_it_is (Err e) f is P h = subst P (sym is) h

  pub too_many : (result : Result A CampaignFault) (f : PlanFault) → IsErrAnd result (λ x. x ≡ plan_fault f) → IsErrOf result fault.TooManyPlans
      → f ≡ planning.TooManyPlans
  too_many (Ok a) f is h = absurd is
  too_many (Err e) planning.TooManyPlans is h = refl
  too_many (Err e) planning.Memory is h =
      let told : e ≡ fault.TooManyPlans = subst (λ r. IsErrAnd r (λ x. x ≡ fault.TooManyPlans)) (sym h) refl in
      absurd (let same : fault.Memory ≡ fault.TooManyPlans = sym is ∙ told in cc)

pub unfound : (k : Campaign) (n : ℕ) (f : PlanFault) → (f ≡ planning.TooManyPlans → most_plans < counted k n) → IsUnfound k n (plan_fault f)
unfound k n planning.TooManyPlans many = many refl
unfound k n planning.Memory many = tt

pub unlisted : (k : Campaign) (text : List ℕ) (w : Change) (f : PlanFault) → IsUntouched w → (f ≡ planning.TooManyPlans → most_plans < length (plans k))
    → IsFault k text w (plan_fault f)
unlisted k text w planning.TooManyPlans untouched many = (untouched, many refl)
unlisted k text w planning.Memory untouched many = untouched

pub not_listed : (k : Campaign) (f : PlanFault) → (f ≡ planning.TooManyPlans → most_plans < length (plans k)) → IsUnlisted k (plan_fault f)
not_listed k planning.TooManyPlans many = many refl
not_listed k planning.Memory many = tt

-- before anything is written
pub unlisted_before : (k : Campaign) (text : List ℕ) (w : Change) (f : CampaignFault) → IsUntouched w → IsUnlisted k f → IsFault k text w f
unlisted_before k text w fault.TooManyPlans untouched h = (untouched, h)
unlisted_before k text w fault.Memory untouched h = untouched
unlisted_before k text w (fault.Write n) untouched h = absurd h

-- For a list that isn't too long.
pub short_of : (k : Campaign) (text : List ℕ) (w : Change) (f : CampaignFault) → length (plans k) ≤ most_plans → LeavesOnly text w f → IsFault k text w f
short_of k text w fault.TooManyPlans few h = absurd h
short_of k text w fault.Memory few h = h
short_of k text w (fault.Write n) few h = (h, few)
