use Rattle.std.proofs.Common.{rules, ◌≡◌, ◌==◌, ◌-◌, ◌*◌, Option, None, Some, ℕ, length, count_by, ap, ◌∙◌}
use Rattle.std.specs.List.{flat_map}
use Rattle.grown_plans.specs.GrownPlans.{Tried, usual_at}
use Rattle.grown_plans.proofs.CutPoints.{none_cut, some_cut}
use Rattle.grown_plans.proofs.kinds.Kinds.count_usual.Goals as goal

pub returns-in_default : goal.returns-in_default
returns-in_default c =
    let own : c.self.inside.cut ≡ c.args.self.now.cut = ap (λ (t : Tried). t.cut) c.self.view_is in
    let none : None ≡ c.self.inside.cut = search rules in
    none_cut c.args.points.now ∙ ap (λ (cut : Option ℕ). length (flat_map (usual_at cut) c.args.points.now)) (none ∙ own)

pub returns : goal.returns
returns c =
    let own : c.self.inside.cut ≡ c.args.self.now.cut = ap (λ (t : Tried). t.cut) c.self.view_is in
    let cuts : c.count-cuts.result ≡ count_by (λ p. p == c.in-Some.cut) c.args.points.now = search rules in
    let some : Some c.in-Some.cut ≡ c.self.inside.cut = search rules in
    ap (λ k. 2 * length c.args.points.now - k) cuts ∙ some_cut c.in-Some.cut c.args.points.now
    ∙ ap (λ (cut : Option ℕ). length (flat_map (usual_at cut) c.args.points.now)) (some ∙ own)
