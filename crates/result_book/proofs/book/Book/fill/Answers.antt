use Rattle.std.proofs.Common.{◌<◌, Some, length, set, ap, ◌∙◌, arith}
use Rattle.result_book.proofs.PlaceLemmas.{length_seen, place_set}
use Rattle.result_book.proofs.book.Book.fill.Goals as goal

pub index_mut-requires : goal.index_mut-requires
index_mut-requires c =
    let many = length_seen c.self.inside.is_put.items c.self.inside.verdicts.items c.args.self.now c.self.view_is c.self.invariant.1 in
    omega (arith, c.requires, many, c.self.invariant.1, c.self.inside.verdicts.ok.0)

pub index_mut-requires-2 : goal.index_mut-requires-2
index_mut-requires-2 c =
    let many = length_seen c.self.inside.is_put.items c.self.inside.verdicts.items c.args.self.now c.self.view_is c.self.invariant.1 in
    omega (arith, c.requires, many, c.self.inside.is_put.ok.0)

pub returns : goal.returns
returns c =
    let bs = c.self.inside.is_put.items in
    let vs = c.self.inside.verdicts.items in
    let n = c.args.number in
    let within : n < length bs = omega (arith, c.requires, length_seen bs vs c.args.self.now c.self.view_is c.self.invariant.1) in
    place_set bs vs n c.args.verdict c.self.invariant.1 within ∙ ap (λ s. set s n (Some c.args.verdict)) c.self.view_is
