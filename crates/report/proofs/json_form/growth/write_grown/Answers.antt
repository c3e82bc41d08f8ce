use Rattle.std.proofs.Common.{◌≡◌, List, ℕ, map, codes, refl, ap, ◌∙◌}
use Rattle.std.proofs.lemmas.Result.{on_ok_weaker}
use Rattle.json.specs.Json.{no_members, member}
use Rattle.report.specs.Reports.{CauseFacts, GrowthFacts}
use Rattle.report.specs.json_form.Document.{point_values, cause_value}
use Rattle.report.specs.json_form.Values.{whole, list_of}
use Rattle.report.specs.json_form.inside.Tokens.{member_tokens}
use Rattle.report.proofs.JsonFormLemmas.Lists.{as_value, seven_members}
use Rattle.report.proofs.json_form.growth.write_grown.Goals as goal

pub returns : goal.returns
returns g c =
    let points = g.N.Names.points c.args.names.now in
    let name = g.N.Names.code_text c.args.names.now in
    let growth : GrowthFacts = c.args.growth.now in
    let reached : c.growth.inside.reached.now ≡ growth.reached = ap (λ (g : GrowthFacts). g.reached) c.growth.view_is in
    let causes : c.deref.result.now ≡ growth.causes = c.deref.ensures.value ∙ ap (λ (g : GrowthFacts). g.causes) c.growth.view_is in
    on_ok_weaker c.token-2.result
    (λ ends. seven_members c.args.out.now (member_tokens (codes "depth") (whole growth.depth)) (member_tokens (codes "levels") (list_of (map whole growth.levels)))
    (member_tokens (codes "onward") (whole growth.onward)) (member_tokens (codes "beyond") (whole growth.beyond))
    (member_tokens (codes "reached") (list_of (point_values points growth.reached)))
    (member_tokens (codes "causes") (list_of (map (cause_value name) growth.causes)))
    (codes "unseen") growth.unseen
    (member (codes "reached") (list_of (point_values points growth.reached))
    (member (codes "causes") (list_of (map (cause_value name) growth.causes)) no_members))
    c.in_ok-token.ensures.ok c.in_ok-write_sizes.ensures
    (as_value c.write_sizes.new.out (codes "reached") c.in_ok-write_points.ensures (ap (λ (hits : List ℕ). list_of (point_values points hits)) reached))
    (as_value c.write_points.new.out (codes "causes") c.in_ok-write_causes.ensures (ap (λ (cs : List CauseFacts). list_of (map (cause_value name) cs)) causes)) ends refl)
    c.token-2.ensures.ok
