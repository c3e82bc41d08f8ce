use Rattle.std.proofs.Common.{◌≡◌, ◌∷◌, ◌++◌, ◌∙◌, sym, refl, subst, true, false, true≢false, Bool, []}
use Rattle.plan_gen.proofs.Rigged.{nothing_keeps}
use Rattle.action_eval.specs.Catalogue.{IsCatalogue}
use Rattle.campaign_core.specs.target_laws.Candidates.{AreTried, IsUnder, Look, look}
use Rattle.campaign_core.proofs.TargetLawsLemmas.Candidates.{asked_behind, lead_more, lead_one}
use Rattle.campaign_core.proofs.target_laws.broken.first_broken_law.Goals as goal

pub build-requires : goal.build-requires
build-requires g c = nothing_keeps [] refl

pub returns-then-branch : goal.returns-then-branch
returns-then-branch g c =
    let first : Look = look c.in_ok-scenario.scenario c.args.seed 0 c.args.max_hits c.in_ok-first.first in
    let halts = c.in_ok-asks_after_a_halt.ensures in
    let on = subst (λ (b : Bool). AreTried g.C.Candidate.names c.args.seed c.args.max_hits halts.0 b) c.if-branch.true halts.2 in
    (first ∷ halts.0, (c.look.new.self, c.in_ok-first.ensures, halts.1), (on.0, on.1, asked_behind (first ∷ []) halts.0 _ on.2))

pub returns-then-not-are_alike : goal.returns-then-not-are_alike
returns-then-not-are_alike g c =
    let first : Look = look c.in_ok-scenario.scenario c.args.seed 0 c.args.max_hits c.in_ok-first.first in
    let last : Look = look c.in_ok-scenario.scenario c.args.seed 0 c.args.max_hits c.in_ok-again.again in
    let halts = c.in_ok-asks_after_a_halt.ensures in
    let plain : (run : Look) → run.scenario ≡ c.in_ok-scenario.scenario → run.seed ≡ c.args.seed → run.stream ≡ 0 → run.limit ≡ c.args.max_hits → IsUnder c.args.seed c.args.max_hits [] run =
    λ run s seed stream limit. record { scenario = s ∙ c.in_ok-scenario.ensures; seed_is = seed; stream = stream; limit_is = limit } in (
      first ∷ (halts.0 ++ last ∷ []),
      (
        c.look.new.self,
        c.in_ok-first.ensures,
        lead_more (g.C.Candidate.made c.args.workload.now) _ _ _ halts.0 (last ∷ []) halts.1 (lead_one (g.C.Candidate.made c.args.workload.now) _ _ last c.in_ok-again.ensures),
      ),
      record {
        between = halts.0;
        first = first;
        last = last;
        whole = record { are = refl; first_is = plain first refl refl refl refl; last_is = plain last refl refl refl refl };
        differ = λ alike. true≢false (sym (c.are_alike.ensures.1 alike) ∙ c.if-not-are_alike.true);
      },
    )

pub returns : goal.returns
returns g c =
    let first : Look = look c.in_ok-scenario.scenario c.args.seed 0 c.args.max_hits c.in_ok-first.first in
    let last : Look = look c.in_ok-scenario.scenario c.args.seed 0 c.args.max_hits c.in_ok-again.again in
    let halts = c.in_ok-asks_after_a_halt.ensures in
    let plain : (run : Look) → run.scenario ≡ c.in_ok-scenario.scenario → run.seed ≡ c.args.seed → run.stream ≡ 0 → run.limit ≡ c.args.max_hits → IsUnder c.args.seed c.args.max_hits [] run =
    λ run s seed stream limit. record { scenario = s ∙ c.in_ok-scenario.ensures; seed_is = seed; stream = stream; limit_is = limit } in (
      first ∷ (halts.0 ++ last ∷ []),
      (
        c.look.new.self,
        c.in_ok-first.ensures,
        lead_more (g.C.Candidate.made c.args.workload.now) _ _ _ halts.0 (last ∷ []) halts.1 (lead_one (g.C.Candidate.made c.args.workload.now) _ _ last c.in_ok-again.ensures),
      ),
      record {
        catalogue = subst IsCatalogue c.points.ensures (c.catalogue_fault.ensures.only c.in_default.is);
        between = halts.0;
        first = first;
        last = last;
        whole = record { are = refl; first_is = plain first refl refl refl refl; last_is = plain last refl refl refl refl };
        stopped = subst (λ (b : Bool). AreTried g.C.Candidate.names c.args.seed c.args.max_hits halts.0 b) c.if-branch.false halts.2;
        alike = c.are_alike.ensures.0 c.if-not-are_alike.false;
      },
    )
