use Rattle.std.proofs.Common.{◌≡◌, ◌<◌, ◌++◌, ◌∙◌, ap, arith, sym, subst, Bool, Bor, List, ℕ, true, false, length, get_or, []}
use Rattle.campaign_core.specs.target_laws.Candidates.{IsAskedOnAt, IsStoppedAt, IsTriedAt}
use Rattle.campaign_core.proofs.TargetLawsLemmas.Candidates.{asked_behind, lead_more, stopped_on}
use Rattle.campaign_core.proofs.TargetLawsLemmas.Names.{length_texts, none, text_at}
use Rattle.campaign_core.proofs.target_laws.trial.asks_after_a_halt.Goals as goal

pub returns-then-branch : goal.returns-then-branch
returns-then-branch g c =
    let points : List (Bor (List ℕ)) = c.points-name-items.result.now in
    let n = c.loop-name.name-index in
    let name : List ℕ = (get_or points n none).now in
    let before = c.loop-name.invariant in
    let now = c.in_ok-asks_after_halt.ensures in
    let on : IsAskedOnAt now.0 name = subst (λ (b : Bool). IsTriedAt c.args.seed c.args.max_hits now.0 name b) c.if-branch.true now.2 in
    let is : name ≡ get_or g.C.Candidate.names n [] = sym (text_at points n) ∙ ap (λ (names : List (List ℕ)). get_or names n []) c.points-name-items.ensures in
    let within : n < length g.C.Candidate.names = omega (arith, c.loop-name-test.true, length_texts points, ap length c.points-name-items.ensures) in (
      before.0 ++ now.0,
      lead_more (g.C.Candidate.made c.args.workload.now) c.args.candidate.now c.loop-name.candidate c.asks_after_halt.new.candidate before.0 now.0 before.1 now.1,
      (n, within, subst (λ (x : List ℕ). IsAskedOnAt (before.0 ++ now.0) x) is (asked_behind before.0 now.0 name on)),
    )

pub loop-name-preserved : goal.loop-name-preserved
loop-name-preserved g c =
    let points : List (Bor (List ℕ)) = c.points-name-items.result.now in
    let n = c.loop-name.name-index in
    let name : List ℕ = (get_or points n none).now in
    let before = c.loop-name.invariant in
    let now = c.in_ok-asks_after_halt.ensures in
    let stopped : IsStoppedAt c.args.seed c.args.max_hits now.0 name = subst (λ (b : Bool). IsTriedAt c.args.seed c.args.max_hits now.0 name b) c.if-branch.false now.2 in
    let is : name ≡ get_or g.C.Candidate.names n [] = sym (text_at points n) ∙ ap (λ (names : List (List ℕ)). get_or names n []) c.points-name-items.ensures in (
      before.0 ++ now.0,
      lead_more (g.C.Candidate.made c.args.workload.now) c.args.candidate.now c.loop-name.candidate c.asks_after_halt.new.candidate before.0 now.0 before.1 now.1,
      stopped_on c.args.seed c.args.max_hits g.C.Candidate.names before.0 now.0 n before.2
          (subst (λ (x : List ℕ). IsStoppedAt c.args.seed c.args.max_hits now.0 x) is stopped),
    )
