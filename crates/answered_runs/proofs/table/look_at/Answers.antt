use Rattle.std.proofs.Common.{List, ℕ, subst, sym, ap, ◌∙◌, ◌++◌, ◌<◌, ◌≡◌, true, rules}
use Rattle.std.specs.List.{AllByRecursion, list_all}
use Rattle.answer_text.specs.Hits.{points_of}
use Rattle.answered_runs.specs.Answered.{is_low}
use Rattle.answered_runs.proofs.Runs.{low_hits}
use Rattle.answered_runs.proofs.table.look_at.Goals as goal

pub returns-then-len-clause-points : goal.returns-then-len-clause-points
returns-then-len-clause-points c =
    let told = c.in-Some.told in
    let low : list_all is_low c.stretches.result.now ≡ true = search rules in
    let hits : c.push_points.new.points.items ≡ points_of told = c.in_ok-push_points.ensures.points ∙ ap (λ (l : List ℕ). l ++ points_of told) c.clear.ensures.items in
    subst (λ (l : List ℕ). AllByRecursion (λ p. p < 64) l) (sym hits) (low_hits told (ap (list_all is_low) (sym c.stretches.ensures) ∙ low))
