use Rattle.std.proofs.Common.{rules}
use Rattle.std.specs.Map.Iter.{deref_pair}
use Rattle.std.proofs.lemmas.Map.Iter.{rest_more, rest_all}
use Rattle.std.proofs.Common.{ap, ◌∙◌}
use Rattle.std.specs.Str.{bytes_eq}
use Rattle.indexmap.specs.IndexMap.{insert_entry}
use Rattle.scenario_values.specs.Keep.{kept_chain, after_chain}
use Rattle.scenario_values.proofs.Limits.{walk_begins, keeping_goes_on, keeping_is_done}
use Rattle.scenario_values.proofs.keeping.kept_entries.Goals as goal

pub loop-name-preserved : goal.loop-name-preserved
loop-name-preserved c =
    let here = rest_more deref_pair c.loop-name.name-iterator c.next.new.self c.next.result (c.in-Some.name, c.in-Some.chain) c.in-Some.is c.next.ensures.steps in
    let set = c.args.set.now in
    let es = c.loop-name.to.entries in
    keeping_goes_on set es c.insert.new.self.entries _ c.loop-name.name-iterator c.next.new.self c.loop-name.walk.number c.loop-name.walk.passed c.in_ok-terms.next.number c.in_ok-terms.next.passed (c.in-Some.name.now, c.in-Some.chain.now) here
    (c.in_ok-insert.ensures.entries ∙ ap (λ n. insert_entry bytes_eq es n c.from_vec.result) c.in_ok-try_clone.ensures
    ∙ ap (λ l. insert_entry bytes_eq es c.in-Some.name.now l) (c.from_vec.ensures ∙ c.in_ok-terms.ensures.kept ∙ ap (kept_chain set c.loop-name.walk.number) c.terms.ensures))
    (c.in_ok-terms.ensures.number ∙ ap (after_chain c.loop-name.walk.number) c.terms.ensures)
    c.in_ok-terms.ensures.stands
    c.loop-name.invariant

pub returns : goal.returns
returns c = keeping_is_done c.args.set.now c.loop-name.to.entries _ c.loop-name.name-iterator c.loop-name.walk.number c.loop-name.walk.passed (rest_all deref_pair c.loop-name.name-iterator c.next.new.self c.next.result c.in-None.is c.next.ensures.steps) c.loop-name.invariant

pub loop-name-init : goal.loop-name-init
loop-name-init c = walk_begins c.args.set.now c.args.from.now.entries c.into_iter-name-iterator.result c.in_ok-to.to.entries (search rules) (search rules) c.requires.limits
