use Rattle.std.proofs.Common.{◌≡◌, ℕ, List, true, rules, subst, sym}
use Rattle.scenario_values.specs.chunked.Chunks.{IsChunks}
use Rattle.campaign_settings.specs.Lists.{is_chunk_list}
use Rattle.campaign_settings.proofs.ListLemmas.{chunks-fit}
use Rattle.campaign_settings.proofs.lists.copy_chunks.Goals as goal

pub new-requires : goal.new-requires
new-requires c =
    let fits : is_chunk_list c.in-Some.texts.items ≡ true = search rules in
    subst (λ (l : List (List ℕ)). IsChunks l) (sym c.as_slice-2.ensures.value) (chunks-fit c.in-Some.texts.items fits)
