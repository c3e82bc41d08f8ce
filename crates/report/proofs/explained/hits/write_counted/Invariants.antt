use Rattle.std.proofs.Common.{◌≡◌, ◌++◌, [], take, drop}
use Rattle.std.specs.String.{string_bytes}
use Rattle.action_eval.specs.Answers.{texts}
use Rattle.report.specs.ReportText.{text_of}
use Rattle.report.specs.explained.Explained.{hit_lines}
use Rattle.report.specs.explained.inside.Counted.{AreCounts}
use Rattle.report.proofs.explained.hits.write_counted.Given as goal

abbrev pub invariant-loop-number : goal.invariant-loop-number
invariant-loop-number l =
    record {
      counted : AreCounts l.counts (take l.number l.hits);
      text :
          string_bytes l.out ++ text_of (hit_lines (texts l.catalogue) (take l.number l.hits) (drop l.number l.hits))
          ≡ string_bytes l.initial.out ++ text_of (hit_lines (texts l.catalogue) [] l.hits);
    }
