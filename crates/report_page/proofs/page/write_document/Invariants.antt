use Rattle.std.proofs.Common.{◌≡◌, ◌++◌, drop, flat_map}
use Rattle.report_page.specs.Page.{in_script}
use Rattle.report_page.proofs.page.write_document.Given as goal

abbrev pub invariant-loop-byte : goal.invariant-loop-byte
invariant-loop-byte l = l.out.items ++ flat_map in_script (drop l.byte-index l.document) ≡ l.initial.out.items ++ flat_map in_script l.document
