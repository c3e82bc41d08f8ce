use Rattle.std.proofs.Common.{refl, ◌++◌, ◌∷◌, [], slice_set, ◌-◌, ap, ◌∙◌, arith}
use Rattle.action_eval.specs.Answers.{reply_to}
use Rattle.action_eval.proofs.Steps.{open_of, keeps_off, reply_found}
use Rattle.action_eval.proofs.Heads.{known_head, value_at, nothing_by, off_by}
use Rattle.action_eval.proofs.CallerLemmas.{told_by, goes_by}
use Rattle.action_eval.proofs.session.Session.hit.Goals as goal

pub index-requires : goal.index-requires
index-requires c = omega (arith, known_head _ _ _ _ _ _ _ _ c.self.invariant.0 c.self.view_is c.args.point c.requires.known _ c.self.invariant.1)

-- ---- a point without a term that is left

pub invariant_of-self-in-Nothing-1 : goal.invariant_of-self-in-Nothing-1
invariant_of-self-in-Nothing-1 c =
    let k = c.self.invariant.0 in
    let f = nothing_by _ _ _ _ _ _ _ _ k _ c.self.invariant.1 c.self.view_is c.args.point c.requires.known _ _ c.index.ensures c.in-Nothing.is in
    (keeps_off _ c.args.point _ _ _ _ _ _ k (omega (arith, open_of _ _ _ _ _ _ _ _ c.self.invariant.0 _ _ _ c.self.invariant.3 c.self.view_is c.requires.running)) _ f _ (c.push_reserved.ensures.items ∙ ap (λ l. l ++ c.args.point ∷ []) c.reserve.ensures.items) _ refl _ k.found_is, c.self.invariant.1, c.self.invariant.2, c.self.invariant.3)

pub returns-in-Nothing-clause-answer : goal.returns-in-Nothing-clause-answer
returns-in-Nothing-clause-answer c =
    let k = c.self.invariant.0 in
    let f = nothing_by _ _ _ _ _ _ _ _ k _ c.self.invariant.1 c.self.view_is c.args.point c.requires.known _ _ c.index.ensures c.in-Nothing.is in
    reply_found _ c.args.point _ _ _ f (omega (arith, open_of _ _ _ _ _ _ _ _ c.self.invariant.0 _ _ _ c.self.invariant.3 c.self.view_is c.requires.running)) ∙ ap (λ r. reply_to r c.args.point) c.self.view_is

pub returns-in-Nothing-clause-told : goal.returns-in-Nothing-clause-told
returns-in-Nothing-clause-told c = told_by _ _ c.args.point _ _ c.self.view_is c.requires.running (c.push_reserved.ensures.items ∙ ap (λ l. l ++ c.args.point ∷ []) c.reserve.ensures.items) (returns-in-Nothing-clause-answer c)

pub returns-in-Nothing-clause-goes_on : goal.returns-in-Nothing-clause-goes_on
returns-in-Nothing-clause-goes_on c = goes_by _ _ c.args.point _ _ c.self.view_is c.requires.running (c.push_reserved.ensures.items ∙ ap (λ l. l ++ c.args.point ∷ []) c.reserve.ensures.items) (returns-in-Nothing-clause-answer c)

-- ---- a point with an `off` that acts wherever it is reached

pub index-requires-in-Off-1 : goal.index-requires-in-Off-1
index-requires-in-Off-1 c =
    let o = off_by _ _ _ _ _ _ _ _ c.self.invariant.0 _ c.self.invariant.1 c.self.view_is c.args.point c.requires.known _ _ c.index.ensures c.in-Off.at c.in-Off.is in
    omega (arith, o.within)

pub index_mut-requires : goal.index_mut-requires
index_mut-requires c =
    let o = off_by _ _ _ _ _ _ _ _ c.self.invariant.0 _ c.self.invariant.1 c.self.view_is c.args.point c.requires.known _ _ c.index.ensures c.in-Off.at c.in-Off.is in
    omega (arith, o.within)

pub overflow_sub-index_mut : goal.overflow_sub-index_mut
overflow_sub-index_mut c =
    let o = off_by _ _ _ _ _ _ _ _ c.self.invariant.0 _ c.self.invariant.1 c.self.view_is c.args.point c.requires.known _ _ c.index.ensures c.in-Off.at c.in-Off.is in
    let read = value_at c.self.inside.left.items c.in-Off.at _ o.within _ c.index-in-Off-1.ensures in
    let value = value_at c.self.inside.left.items c.in-Off.at _ o.within _ c.index_mut.ensures.value in
    omega (arith, c.if-index-gt0.true, read, value)

pub invariant_of-self-then-index-gt0 : goal.invariant_of-self-then-index-gt0
invariant_of-self-then-index-gt0 c =
    let k = c.self.invariant.0 in
    let o = off_by _ _ _ _ _ _ _ _ k _ c.self.invariant.1 c.self.view_is c.args.point c.requires.known _ _ c.index.ensures c.in-Off.at c.in-Off.is in
    let read = value_at c.self.inside.left.items c.in-Off.at _ o.within _ c.index-in-Off-1.ensures in
    let value = value_at c.self.inside.left.items c.in-Off.at _ o.within _ c.index_mut.ensures.value in (
      keeps_off _ c.args.point _ _ _ _ _ _ k (omega (arith, open_of _ _ _ _ _ _ _ _ c.self.invariant.0 _ _ _ c.self.invariant.3 c.self.view_is c.requires.running)) _ (o.finds (omega (arith, c.if-index-gt0.true, read))) _ (c.push_reserved-in-Off.ensures.items ∙ ap (λ l. l ++ c.args.point ∷ []) c.reserve.ensures.items) _
          (ap (λ v. slice_set c.self.inside.left.items c.in-Off.at (v - 1)) value) _ k.found_is,
      c.self.invariant.1,
      c.self.invariant.2,
      c.self.invariant.3,
    )

pub returns-in-Off-clause-answer : goal.returns-in-Off-clause-answer
returns-in-Off-clause-answer c =
    let k = c.self.invariant.0 in
    let o = off_by _ _ _ _ _ _ _ _ k _ c.self.invariant.1 c.self.view_is c.args.point c.requires.known _ _ c.index.ensures c.in-Off.at c.in-Off.is in
    let read = value_at c.self.inside.left.items c.in-Off.at _ o.within _ c.index-in-Off-1.ensures in
    reply_found _ c.args.point _ _ _ (o.finds (omega (arith, c.if-index-gt0.true, read))) (omega (arith, open_of _ _ _ _ _ _ _ _ c.self.invariant.0 _ _ _ c.self.invariant.3 c.self.view_is c.requires.running)) ∙ ap (λ r. reply_to r c.args.point) c.self.view_is

pub returns-in-Off-clause-told : goal.returns-in-Off-clause-told
returns-in-Off-clause-told c = told_by _ _ c.args.point _ _ c.self.view_is c.requires.running (c.push_reserved-in-Off.ensures.items ∙ ap (λ l. l ++ c.args.point ∷ []) c.reserve.ensures.items) (returns-in-Off-clause-answer c)

pub returns-in-Off-clause-goes_on : goal.returns-in-Off-clause-goes_on
returns-in-Off-clause-goes_on c = goes_by _ _ c.args.point _ _ c.self.view_is c.requires.running (c.push_reserved-in-Off.ensures.items ∙ ap (λ l. l ++ c.args.point ∷ []) c.reserve.ensures.items) (returns-in-Off-clause-answer c)
