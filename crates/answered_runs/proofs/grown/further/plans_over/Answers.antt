use Rattle.std.proofs.Common.{◌≡◌, ◌<◌, length, ℕ, List, subst, sym, ap, ◌∙◌, arith}
use Rattle.plan_gen.specs.Census.{counts_of, sites_of}
use Rattle.answered_runs.proofs.GrownLemmas.Counts.{each_count, few_sites}
use Rattle.answered_runs.proofs.grown.further.plans_over.Goals as goal

pub further_plans-requires-clause-counts : goal.further_plans-requires-clause-counts
further_plans-requires-clause-counts c = ap length c.in_ok-counts.ensures ∙ each_count (length c.args.points.now) c.args.hits.now

pub further_plans-requires-clause-sites : goal.further_plans-requires-clause-sites
further_plans-requires-clause-sites c =
    let few : length c.args.hits.now < 65536 = omega (arith, c.if-hits-ge-MOST_PLANS.false) in
    let counts : c.in_ok-counts.counts.items ≡ counts_of (length c.args.points.now) c.args.hits.now = c.in_ok-counts.ensures in
    subst (λ (cs : List ℕ). length (sites_of cs) < 65536) (sym counts) (few_sites (length c.args.points.now) c.args.hits.now few)
