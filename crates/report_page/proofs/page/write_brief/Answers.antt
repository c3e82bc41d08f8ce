use Rattle.report_page.specs.Page.{in_html}
use Rattle.report_page.proofs.Escaped.{byte_next}
use Rattle.report_page.proofs.page.write_brief.Goals as goal

pub loop-byte-preserved : goal.loop-byte-preserved
loop-byte-preserved c = byte_next in_html _ _ _ c.args.brief.now _ c.loop-byte-test.true c.in_ok-write_in_html.ensures c.loop-byte.invariant
