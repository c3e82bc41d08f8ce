use Rattle.std.proofs.Common.{◌++◌, ◌<◌, ◌∙◌, List, ℕ, codes, length, subst, take}
use Rattle.std.specs.Fmt.{decimal}
use Rattle.std.specs.Io.KnownBytes.{Appends}
use Rattle.campaign_core.specs.Writes.{change}
use Rattle.campaign_main.proofs.ToldLemmas.{told-after, told-by, told-part}
use Rattle.campaign_main.proofs.lines.write_cut_off.Goals as goal

pub returns-in_err-write_report : goal.returns-in_err-write_report
returns-in_err-write_report g c =
    told-part (codes "write failed after ") (decimal c.args.written ++ codes " bytes\n") c.in_err-write_report.field-0.0.written _
    c.in_err-write_report.ensures.fault c.in_err-write_report.ensures.fault_bound c.in_err-write_report.ensures.fault_cause

pub returns-in_err-write_report-2 : goal.returns-in_err-write_report-2
returns-in_err-write_report-2 g c =
    let w = change g.E.Sink c.write_report.new.sink c.write_report-2.new.sink in
    let n = c.in_err-write_report-2.field-0.0.written in
    let digits = c.as_bytes.ensures.value ∙ c.format.ensures.text in
    let P : List ℕ → Type 0 = λ t. Appends w.old w.new (take n t) in
    let Q : List ℕ → Type 0 = λ t. n < length t in
    told-after (codes "write failed after ") (decimal c.args.written ++ codes " bytes\n") _ w c.in_ok-write_report.ensures.ok
    (told-part (decimal c.args.written) (codes " bytes\n") n w (subst P digits c.in_err-write_report-2.ensures.fault)
    (subst Q digits c.in_err-write_report-2.ensures.fault_bound) c.in_err-write_report-2.ensures.fault_cause)

pub returns : goal.returns
returns g c =
    let one = c.write_report.new.sink in
    let two = c.write_report-2.new.sink in
    let new = c.write_report-3.new.sink in
    let P : List ℕ → Type 0 = λ t. Appends (g.E.Sink.told one) (g.E.Sink.told two) t in
    told-after (codes "write failed after ") (decimal c.args.written ++ codes " bytes\n") _ (change g.E.Sink one new) c.in_ok-write_report.ensures.ok
    (told-after (decimal c.args.written) (codes " bytes\n") _ (change g.E.Sink two new)
    (subst P (c.as_bytes.ensures.value ∙ c.format.ensures.text) c.in_ok-write_report-2.ensures.ok)
    (told-by c.write_report-3.result (codes " bytes\n") (change g.E.Sink two new) c.write_report-3.ensures.ok c.write_report-3.ensures.ok_sound
    c.write_report-3.ensures.fault c.write_report-3.ensures.fault_bound c.write_report-3.ensures.fault_cause))
