-- Runs that were made of a candidate, and what they show.
use Rattle.std.proofs.Common.{◌≡◌, ℕ, suc, zero, ◌+◌, ◌<◌, Bool, true, false, true≢false, List, [], ◌∷◌, ◌++◌, Option, None, Some, Ok, inl, inr, get_or, refl, ap, sym, ◌∙◌, subst, arith}
use Rattle.std.proofs.lemmas.List.Elements.{Contains-append_left, Contains-append_right}
use Rattle.std.specs.Prelude.{Contains, ◌⊎◌, Result, Err, codes}
use Rattle.scenario_grammar.specs.FirstFault.{Fault, reading}
use borrow.Author.Count.{below_more}
use Rattle.scenario_values.specs.Scenario.{Entries}
use Rattle.action_eval.specs.Answers.{given_of}
use Rattle.action_eval.specs.Catalogue.{IsCatalogue}
use Rattle.target_trait.specs.Outcomes.{Told, outcome}
use Rattle.target_trait.specs.declared.target.Target.{Ghosts}
use Rattle.campaign_core.specs.declared.target_laws.broken.BrokenLaw.{BrokenLaw}
use Rattle.campaign_core.specs.declared.target_laws.broken.BrokenLaw.TheVariants.{Catalogue, AsksAfterHalt, KeepsState}
use Rattle.campaign_core.specs.target_laws.Candidates.{AreAlike, Halts, IsAskedOnAt, IsSeenIn, IsStoppedAt, IsTriedAt, IsUnder, Lead, Look}
use Rattle.campaign_core.specs.target_laws.inside.Lawful.{IsMadeOf}

pub here : (run : Look) → Contains (run ∷ []) run
here run = (0, omega arith, refl)

in_none : (run : Look) → Contains [] run → ⊥
in_none run (k, less, is) = absurd (omega (arith, less))

in_cases : (first : Look) (runs : List Look) (run : Look) → Contains (first ∷ runs) run → (first ≡ run) ⊎ Contains runs run
in_cases first runs run (zero, less, is) = inl is
in_cases first runs run (suc k, less, is) = inr (k, omega arith, is)

module _ {S : Type 0} (made : S → Look → S → Type 0) where
  pub lead_more : (a b c : S) (runs more : List Look) → Lead made a runs b → Lead made b more c → Lead made a (runs ++ more) c
  lead_more a b c [] more is h = subst (λ (s : S). Lead made s more c) (sym is) h
  lead_more a b c (run ∷ runs) more h k = (h.0, h.1, lead_more h.0 b c runs more h.2 k)

  pub lead_one : (a b : S) (run : Look) → made a run b → Lead made a (run ∷ []) b
  lead_one a b run h = (b, h, refl)

pub stopped_more : (seed limit : ℕ) (runs more : List Look) (name : List ℕ) → IsStoppedAt seed limit runs name → IsStoppedAt seed limit (runs ++ more) name
stopped_more seed limit runs more name h = λ s halts.
    let k = h s halts in
    record { run = k.run; made = Contains-append_left runs more k.run k.made; under = k.under; stays = k.stays }

pub stopped_behind : (seed limit : ℕ) (runs more : List Look) (name : List ℕ) → IsStoppedAt seed limit more name → IsStoppedAt seed limit (runs ++ more) name
stopped_behind seed limit runs more name h = λ s halts.
    let k = h s halts in
    record { run = k.run; made = Contains-append_right runs more k.run k.made; under = k.under; stays = k.stays }

pub asked_behind : (runs more : List Look) (name : List ℕ) → IsAskedOnAt more name → IsAskedOnAt (runs ++ more) name
asked_behind runs more name h = record { run = h.run; made = Contains-append_right runs more h.run h.made; halts = h.halts; asks = h.asks }

-- ---- a run that is stopped at a point

one_scenario : (read : Result Entries Fault) (s t : Entries) → read ≡ Ok s → read ≡ Ok t → s ≡ t
one_scenario (Ok x) s t a b = let p : x ≡ s = cc in let q : x ≡ t = cc in sym p ∙ q
one_scenario (Err f) s t a b = absurd cc

pub tried_one : (seed limit : ℕ) (name : List ℕ) (s : Entries) (run : Look) (b : Bool) → Halts name s → IsUnder seed limit s run → run.is_asked_on ≡ b
    → IsTriedAt seed limit (run ∷ []) name b
tried_one seed limit name s run true halts under asks =
    record { run = run; made = here run; halts = halts ∙ ap (λ (t : Entries). Ok t) (sym under.scenario); asks = asks }
tried_one seed limit name s run false halts under stays = λ t other.
    let same : s ≡ t = one_scenario (reading (name ++ codes "=panic")) s t halts other in
    record { run = run; made = here run; under = subst (λ (u : Entries). IsUnder seed limit u run) same under; stays = stays }

-- after the points before this one
pub stopped_on : (seed limit : ℕ) (names : List (List ℕ)) (runs more : List Look) (n : ℕ)
    → ((point : ℕ) → point < n → IsStoppedAt seed limit runs (get_or names point [])) → IsStoppedAt seed limit more (get_or names n [])
    → (point : ℕ) → point < n + 1 → IsStoppedAt seed limit (runs ++ more) (get_or names point [])
stopped_on seed limit names runs more n before now =
    below_more (λ (point : ℕ). IsStoppedAt seed limit (runs ++ more) (get_or names point [])) n
    (λ point less. stopped_more seed limit runs more (get_or names point []) (before point less)) (stopped_behind seed limit runs more (get_or names n []) now)

-- ---- a proved target

abbrev pub MadeOf : {T W : Type 0} → Ghosts T W → W → T → Look → T → Type 0
MadeOf target workload before run after = IsMadeOf target before workload run × (after ≡ before)

pub all_made : {T W : Type 0} (target : Ghosts T W) (workload : W) (a b : T) (runs : List Look) → Lead (MadeOf target workload) a runs b → (run : Look) → Contains runs run
    → IsMadeOf target a workload run
all_made target workload a b [] lead run is = absurd (in_none run is)
all_made {T} {W} target workload a b (first ∷ runs) lead run is =
    elim (in_cases first runs run is) [
      | inl e ↦ subst (λ (x : Look). IsMadeOf target a workload x) e lead.1.0
      | inr later ↦ all_made target workload a b runs (subst (λ (s : T). Lead (MadeOf target workload) s runs b) lead.1.1 lead.2) run later
    ]

same_run : {T W : Type 0} (target : Ghosts T W) (setup : T) (workload : W) (seed limit : ℕ) (s : Entries) (one other : Look) → IsUnder seed limit s one → IsUnder seed limit s other
    → IsMadeOf target setup workload one → IsMadeOf target setup workload other → AreAlike one other
same_run target setup workload seed limit s one other a b m n =
    (m.verdict ∙ ap (λ (o : Told). o.verdict) same ∙ sym n.verdict, m.asked ∙ ap (λ (o : Told). o.asked) same ∙ sym n.asked)
  where
    of : Entries → ℕ → ℕ → ℕ → Told
    of s seed stream limit = outcome (target.asks setup workload) (given_of s target.names seed stream limit)

    plainly : (run : Look) → IsUnder seed limit s run → of run.scenario run.seed run.stream run.limit ≡ of s seed 0 limit
    plainly run u =
        ap (λ (t : Entries). of t run.seed run.stream run.limit) u.scenario ∙ ap (λ n. of s n run.stream run.limit) u.seed_is ∙ ap (λ n. of s seed n run.limit) u.stream
        ∙ ap (of s seed 0) u.limit_is

    same : of one.scenario one.seed one.stream one.limit ≡ of other.scenario other.seed other.stream other.limit
    same = plainly one a ∙ sym (plainly other b)

-- breaks no law
pub none_broken : {T W : Type 0} (target : Ghosts T W) (workload : W) (a b : T) (seed limit : ℕ) (law : Option BrokenLaw) → IsCatalogue target.names
    → IsSeenIn (MadeOf target workload) target.names seed limit a b law → law ≡ None
none_broken target workload a b seed limit None lawful seen = refl
none_broken target workload a b seed limit (Some (Catalogue fault)) lawful seen = absurd (seen.2 lawful)
none_broken target workload a b seed limit (Some AsksAfterHalt) lawful seen =
    let on = seen.2.2 in
    let stays = (all_made target workload a b seen.0 seen.1 on.run on.made).stays in
    absurd (true≢false (sym on.asks ∙ stays))
none_broken target workload a b seed limit (Some KeepsState) lawful seen =
    let d = seen.2 in
    let whole = d.whole in
    let first_in : Contains seen.0 d.first = subst (λ (runs : List Look). Contains runs d.first) (sym whole.are) (Contains-append_left (d.first ∷ []) (d.between ++ d.last ∷ []) d.first (here d.first)) in
    let last_in : Contains seen.0 d.last =
    subst (λ (runs : List Look). Contains runs d.last) (sym whole.are) (Contains-append_right (d.first ∷ d.between) (d.last ∷ []) d.last (here d.last)) in
    absurd (d.differ (same_run target a workload seed limit [] d.first d.last whole.first_is whole.last_is
    (all_made target workload a b seen.0 seen.1 d.first first_in) (all_made target workload a b seen.0 seen.1 d.last last_in)))
