use Rattle.std.proofs.Common.{sym, rules}
use Rattle.answer_text.proofs.Lines.{shorter_at}
use Rattle.answer_text.proofs.HitReading.{Leads, gives_err, begins, leads_on, item_fails, hits_fail, last_read, last_item_fails, last_hits_fail}
use Rattle.answer_text.proofs.hits.hits_in.Goals as goal

pub loop-item-init : goal.loop-item-init
loop-item-init c = let h : Leads c.args.points.now c.args.text.now c.args.text.now c.in_ok-hits.hits.items = begins c.args.points.now c.args.text.now c.in_ok-hits.hits.items c.is_empty.result c.in_ok-hits.ensures.items c.is_empty.ensures c.if-is_empty.false in record { utf8 = c.utf8.text; leads = h; total = search rules }

pub loop-item-smaller : goal.loop-item-smaller
loop-item-smaller c = shorter_at 59 c.loop-item.rest.now c.in-Some.item.now c.in-Some.after.now (sym c.in-Some.ensures)

pub loop-item-preserved : goal.loop-item-preserved
loop-item-preserved c = record {
  utf8 = search rules;
  leads = leads_on c.args.points.now c.args.text.now c.loop-item.rest.now c.in-Some.item.now c.in-Some.after.now c.loop-item.hits.items c.add.new.hits.items c.in_ok-stretch.stretch (sym c.in-Some.ensures) c.loop-item.invariant.leads
      c.in_ok-stretch.ensures c.in_ok-total.ensures.added;
  total = search rules;
}

pub returns-in_err-stretch : goal.returns-in_err-stretch
returns-in_err-stretch c =
    gives_err _ c.from_residual-in_err-stretch.result c.in_err-stretch.field-0.0 _ c.from_residual-in_err-stretch.ensures
    (item_fails c.args.points.now c.args.text.now c.loop-item.rest.now c.in-Some.item.now c.in-Some.after.now c.loop-item.hits.items c.in_err-stretch.field-0.0 (sym c.in-Some.ensures) c.loop-item.invariant.leads c.in_err-stretch.ensures)

pub returns-in_err-total : goal.returns-in_err-total
returns-in_err-total c =
    gives_err _ c.from_residual-in_err-total.result c.in_err-total.field-0.0 _ c.from_residual-in_err-total.ensures
    (hits_fail c.args.points.now c.args.text.now c.loop-item.rest.now c.in-Some.item.now c.in-Some.after.now c.loop-item.hits.items c.in_ok-stretch.stretch c.in_err-total.field-0.0 (sym c.in-Some.ensures) c.loop-item.invariant.leads
    c.in_ok-stretch.ensures c.in_err-total.ensures.added)

pub returns-in_err-stretch-2 : goal.returns-in_err-stretch-2
returns-in_err-stretch-2 c =
    gives_err _ c.from_residual-in_err-stretch-2.result c.in_err-stretch-2.field-0.0 _ c.from_residual-in_err-stretch-2.ensures
    (last_item_fails c.args.points.now c.args.text.now c.loop-item.rest.now c.loop-item.hits.items c.in_err-stretch-2.field-0.0 (sym c.in_default.ensures) c.loop-item.invariant.leads c.in_err-stretch-2.ensures)

pub returns-in_err-add : goal.returns-in_err-add
returns-in_err-add c =
    gives_err _ c.from_residual-in_err-add.result c.in_err-add.field-0.0 _ c.from_residual-in_err-add.ensures
    (last_hits_fail c.args.points.now c.args.text.now c.loop-item.rest.now c.loop-item.hits.items c.in_ok-stretch-2.stretch c.in_err-add.field-0.0 (sym c.in_default.ensures) c.loop-item.invariant.leads c.in_ok-stretch-2.ensures c.in_err-add.ensures.added)

pub returns : goal.returns
returns c =
    last_read c.args.points.now c.args.text.now c.loop-item.rest.now c.loop-item.hits.items c.add-2.new.hits.items c.in_ok-stretch-2.stretch (sym c.in_default.ensures) c.loop-item.invariant.leads c.in_ok-stretch-2.ensures c.in_ok-add.ensures.added
