use Rattle.report_page.specs.Page.{in_script}
use Rattle.report_page.proofs.Escaped.{byte_next}
use Rattle.report_page.proofs.page.write_document.Goals as goal

pub loop-byte-preserved : goal.loop-byte-preserved
loop-byte-preserved c = byte_next in_script _ _ _ c.args.document.now _ c.loop-byte-test.true c.in_ok-write_in_script.ensures c.loop-byte.invariant
