use Rattle.std.proofs.Common.{◌++◌, flat_map, sym, ap, ◌∙◌, map-id, string_bytes}
use Rattle.std.proofs.lemmas.Iterator.{YieldsList-from_chars}
use Rattle.std.proofs.lemmas.Iterator.Consumers.{YieldsList-end}
use Rattle.campaign_main.specs.Escaped.{shown}
use Rattle.campaign_main.proofs.escaping.write_escaped.Goals as goal

pub returns : goal.returns
returns c =
    let end =
    YieldsList-end (YieldsList-from_chars c.args.text.now c.utf8.text cc) c.loop-character.yielded _ c.loop-character.yielded_by _ _ c.in-None.is
    c.next.ensures.steps in
    c.loop-character.invariant ∙ ap (λ cs. string_bytes c.args.out.now ++ flat_map shown cs) (sym (map-id c.loop-character.yielded) ∙ end.0)
