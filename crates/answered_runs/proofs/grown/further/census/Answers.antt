use Rattle.std.proofs.Common.{Bor, ◌≡◌, ◌∙◌, ℕ, List, length, ap, sym}
use Rattle.std.specs.Prelude.{Some}
use Rattle.std.proofs.lemmas.List.{length-map}
use Rattle.answered_runs.specs.grown.Further.{clean_hits}
use Rattle.answered_runs.proofs.GrownLemmas.Clean.{census_same}
use Rattle.answered_runs.proofs.grown.further.census.Goals as goal

pub returns-in_ok-counts_of-in-Some-clause-known : goal.returns-in_ok-counts_of-in-Some-clause-known
returns-in_ok-counts_of-in-Some-clause-known c =
    let a = c.args.runs.now in
    let clean : clean_hits a ≡ Some c.in-Some.hits.items = sym (rw c.in-Some.is at c.in_ok-hits.ensures.hits) in
    let many : length c.points.result.now ≡ length a.points = sym (length-map c.points.result.now (λ (n : Bor (List ℕ)). n.now)) ∙ ap length c.points.ensures.names in
    census_same a c.in-Some.hits.items c.as_slice.result.now c.in_ok-counts_of-in-Some.field-0.items (length c.points.result.now) clean c.as_slice.ensures.value many c.in_ok-counts_of-in-Some.ensures
