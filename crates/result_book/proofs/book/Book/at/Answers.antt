use Rattle.std.proofs.Common.{◌<◌, Bool, Some, None, length, get_or, ap, sym, ◌∙◌, arith}
use Rattle.target_trait.specs.declared.judgement.Verdict.TheVariants as verdict
use Rattle.result_book.specs.inside.Places.{place}
use Rattle.result_book.proofs.PlaceLemmas.{place_at, length_seen}
use Rattle.result_book.proofs.book.Book.at.Goals as goal

pub index-requires : goal.index-requires
index-requires c =
    let many = length_seen c.self.inside.is_put.items c.self.inside.verdicts.items c.args.self.now c.self.view_is c.self.invariant.1 in
    omega (arith, c.requires, many, c.self.inside.is_put.ok.0)

pub index-requires-2 : goal.index-requires-2
index-requires-2 c =
    let many = length_seen c.self.inside.is_put.items c.self.inside.verdicts.items c.args.self.now c.self.view_is c.self.invariant.1 in
    omega (arith, c.requires, many, c.self.invariant.1, c.self.inside.verdicts.ok.0)

pub returns-then-not-index : goal.returns-then-not-index
returns-then-not-index c =
    let bs = c.self.inside.is_put.items in
    let vs = c.self.inside.verdicts.items in
    let n = c.args.number in
    let b : Bool = c.index.result.now in
    let within : n < length bs = omega (arith, c.requires, length_seen bs vs c.args.self.now c.self.view_is c.self.invariant.1) in
    ap (λ a. place a (get_or vs n verdict.Pass)) (sym c.if-not-index.true ∙ c.index.ensures)
    ∙ sym (place_at bs vs n b verdict.Pass None c.self.invariant.1 within) ∙ ap (λ s. get_or s n None) c.self.view_is

pub returns : goal.returns
returns c =
    let bs = c.self.inside.is_put.items in
    let vs = c.self.inside.verdicts.items in
    let n = c.args.number in
    let v = c.index-2.result.now in
    let b : Bool = c.index.result.now in
    let within : n < length bs = omega (arith, c.requires, length_seen bs vs c.args.self.now c.self.view_is c.self.invariant.1) in
    ap Some c.index-2.ensures ∙ ap (λ a. place a (get_or vs n v)) (sym c.if-not-index.false ∙ c.index.ensures)
    ∙ sym (place_at bs vs n b v None c.self.invariant.1 within) ∙ ap (λ s. get_or s n None) c.self.view_is
