use Rattle.std.proofs.Common.{◌≡◌, suc, ◌∙◌, ap, arith, length}
use Rattle.scenario_values.proofs.ChunkedLemmas.Flat.{length_places}
use Rattle.scenario_values.proofs.chunked.Chunks.len.Goals as goal

pub returns : goal.returns
returns c =
    let many : c.len.result ≡ suc (length c.args.self.now) =
    c.len.ensures ∙ c.self.inside.places.ok.0 ∙ ap length c.self.invariant.places_are ∙ length_places 0 _ ∙ ap (λ l. suc (length l)) c.self.view_is in
    omega (arith, many)
