use Rattle.std.proofs.Common.{◌≡◌, length}
use denote.Shadow.{shadow}
use denote.Text.{Utf8}
use Rattle.answer_text.specs.Hits.{count_of}
use Rattle.answer_text.proofs.HitReading.{Leads}
use Rattle.answer_text.proofs.hits.hits_in.Given as goal

abbrev pub invariant-loop-item : goal.invariant-loop-item
invariant-loop-item l = record {
  utf8 : shadow (Utf8 l.rest);
  leads : Leads l.points l.fn.text l.rest l.hits.items;
  total : l.total ≡ count_of l.hits.items;
}

abbrev pub decreases-loop-item : goal.decreases-loop-item
decreases-loop-item l = length l.rest
