-- Runs that were found of plans, by the plans' numbers.
use Rattle.std.proofs.Common.{◌≡◌, ◌⊎◌, inl, inr, ℕ, ◌+◌, ◌<◌, false, List, [], ◌++◌, map, length, take, get_or, Option, Some, None, ap, sym, ◌∙◌, arith}
use Rattle.std.proofs.lemmas.List.{get_or-map, length-map}
use Rattle.std.proofs.Math.Seq.{take-append_seam}
use Rattle.action_eval.specs.declared.rig.Kind.{Kind}
use Rattle.action_eval.specs.declared.rig.Rig.{Rig}
use Rattle.target_trait.specs.declared.judgement.Verdict.{Verdict}
use Rattle.grown_runs.specs.known.Known.{KnownRuns, Told, hits_told}
use Rattle.grown_runs.specs.known.Looks.{IsLook}
use Rattle.grown_runs.specs.declared.known.table.Look.{Look}
use Rattle.grown_runs.specs.declared.known.table.Look.TheVariants as look
use Rattle.grown_runs.specs.known.inside.Grown.{again_told, again_known, kept_known, kept_told}

-- ---- what a look says of hits

pub seen_hits : (o : Option Told) (hits : List ℕ) (l : Look) (v : Verdict) → IsLook o hits l → l ≡ look.Seen v → hits_told o ≡ Some hits
seen_hits o hits look.Unknown v is e = absurd cc
seen_hits o hits (look.Unseen w) v is e = absurd cc
seen_hits o hits (look.Seen w) v is e = ap hits_told is

unseen_hits : (o : Option Told) (hits : List ℕ) (l : Look) (v : Verdict) → IsLook o hits l → l ≡ look.Unseen v → hits_told o ≡ None
unseen_hits o hits look.Unknown v is e = absurd cc
unseen_hits o hits (look.Unseen w) v is e = ap hits_told is
unseen_hits o hits (look.Seen w) v is e = absurd cc

unknown_hits : (o : Option Told) (hits : List ℕ) (l : Look) → IsLook o hits l → l ≡ look.Unknown → hits_told o ≡ None
unknown_hits o hits look.Unknown is e = ap hits_told is
unknown_hits o hits (look.Unseen w) is e = absurd cc
unknown_hits o hits (look.Seen w) is e = absurd cc

pub none_seen : (o : Option Told) (hits : List ℕ) (l : Look) → IsLook o hits l → (l ≡ look.Unknown) ⊎ ((v : Verdict) × (l ≡ look.Unseen v)) → hits_told o ≡ None
none_seen o hits l is (inl e) = unknown_hits o hits l is e
none_seen o hits l is (inr e) = unseen_hits o hits l e.0 is e.1

-- ---- a plan's run, by the plan's number

module _ {A B : Type 0} (f : A → B) (known : List Rig → B) (runs : List A) where
  pub found_at : (plans : List (List Rig)) (n : ℕ) (d : A) → map f runs ≡ map known plans → n < length plans → f (get_or runs n d) ≡ known (get_or plans n [])
  found_at plans n d found less =
      let long : length runs ≡ length plans = sym (length-map runs f) ∙ ap length found ∙ length-map plans known in
      sym (get_or-map f runs n d (f d) (omega (arith, less, long))) ∙ ap (λ (os : List B). get_or os n (f d)) found ∙ get_or-map known plans n [] (f d) less

  -- as many runs as there were plans, if plans were added
  pub found_before : (before more all : List (List Rig)) → map f runs ≡ map known before → all ≡ before ++ more → map f runs ≡ map known (take (length runs) all)
  found_before before more all found is =
      let long : length runs ≡ length before = sym (length-map runs f) ∙ ap length found ∙ length-map before known in
      found ∙ ap (map known) (sym (ap (λ (n : ℕ). take n all) long ∙ ap (take (length before)) is ∙ take-append_seam before more))

-- ---- what grows from a plan whose hits were read

module _ (kinds : ℕ → List Kind) (known : KnownRuns) (plans : List (List Rig)) (n : ℕ) (o : Option Told) (here : o ≡ known (get_or plans n [])) where
  pub seen_children : (hits : List ℕ) → hits_told o ≡ Some hits → kept_known kinds known plans n ≡ kept_told kinds n (get_or plans n []) (Some hits)
  seen_children hits e = ap (kept_told kinds n (get_or plans n [])) (ap hits_told (sym here) ∙ e)

  pub seen_again : (hits : List ℕ) → hits_told o ≡ Some hits → again_known known plans n ≡ again_told (get_or plans n []) (Some hits)
  seen_again hits e = ap (again_told (get_or plans n [])) (ap hits_told (sym here) ∙ e)

  pub no_children : hits_told o ≡ None → kept_known kinds known plans n ≡ []
  no_children e = ap (kept_told kinds n (get_or plans n [])) (ap hits_told (sym here) ∙ e)

  pub never_again : hits_told o ≡ None → again_known known plans n ≡ false
  never_again e = ap (again_told (get_or plans n [])) (ap hits_told (sym here) ∙ e)
