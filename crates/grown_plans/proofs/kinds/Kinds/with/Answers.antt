use Rattle.std.proofs.Common.{List, Option, ℕ, codes, map, ap, ◌∙◌}
use Rattle.std.specs.Str.{bytes_eq}
use Rattle.action_eval.specs.declared.rig.Kind.{Kind}
use Rattle.grown_plans.specs.GrownPlans.{Tried}
use Rattle.grown_plans.proofs.CutPoints.{position_map}
use Rattle.grown_plans.proofs.kinds.Kinds.with.Goals as goal

abbrev tried : Option ℕ → List (List Kind) → Tried
tried cut listed = record { cut = cut; listed = listed }

pub returns : goal.returns
returns c =
    ap (λ (cut : Option ℕ). tried cut (map (λ kinds. kinds.items) c.args.listed.now))
    (c.cut_point.ensures ∙ position_map (λ name. bytes_eq name (codes "power::keep")) (λ name. name.now) c.args.catalogue.now)
