use Rattle.std.proofs.Common.{flat_map}
use Rattle.report_page.specs.Page.{in_html, in_script, page_text}
use Rattle.report_page.specs.declared.frame.TheConstants.{BEFORE, BETWEEN, BEHIND}
use Rattle.report_page.proofs.Escaped.{five_pieces}
use Rattle.report_page.proofs.page.page_text.Goals as goal

pub returns : goal.returns
unfolding page_text
returns c =
    five_pieces BEFORE.now (flat_map in_html c.args.brief.now) BETWEEN.now (flat_map in_script c.args.document.now) BEHIND.now
    c.in_ok-out.ensures.items c.in_ok-extend_from_slice.ensures.items c.as_bytes.ensures.value c.in_ok-write_brief.ensures
    c.in_ok-extend_from_slice-2.ensures.items c.as_bytes-2.ensures.value c.in_ok-write_document.ensures
    c.in_ok-extend_from_slice-3.ensures.items c.as_bytes-3.ensures.value
