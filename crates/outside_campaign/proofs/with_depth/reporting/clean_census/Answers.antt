use Rattle.std.proofs.Common.{◌≡◌, Bor, List, ℕ, ap, sym, length, ◌∙◌}
use Rattle.std.proofs.lemmas.List.{length-map}
use Rattle.outside_campaign.proofs.WithDepthLemmas.Census.{census_is, no_census}
use Rattle.outside_campaign.proofs.with_depth.reporting.clean_census.Goals as goal

pub returns-in-Some : goal.returns-in-Some
returns-in-Some c =
    let h = rw c.in-Some.is at c.in_ok-counts.ensures in
    census_is c.args.runs.now c.in-Some.counts.items h.told c.requires h.known

pub returns-in_ok-vec-in-None : goal.returns-in_ok-vec-in-None
returns-in_ok-vec-in-None c =
    let h = rw c.in-None.is at c.in_ok-counts.ensures in
    let many : length c.points.result.now ≡ length c.args.runs.now.points =
    sym (length-map c.points.result.now (λ (n : Bor (List ℕ)). n.now)) ∙ ap length c.points.ensures.names in
    let zeros = c.in_ok-vec-in-None.ensures.items_if_clones_equal (λ y same. same) in
    no_census c.args.runs.now c.in_ok-vec-in-None.field-0.items (length c.points.result.now) h.told many zeros
