use Rattle.std.proofs.Common.{◌≡◌, ◌++◌, drop, flat_map}
use Rattle.report_page.specs.Page.{in_html}
use Rattle.report_page.proofs.page.write_brief.Given as goal

abbrev pub invariant-loop-byte : goal.invariant-loop-byte
invariant-loop-byte l = l.out.items ++ flat_map in_html (drop l.byte-index l.brief) ≡ l.initial.out.items ++ flat_map in_html l.brief
