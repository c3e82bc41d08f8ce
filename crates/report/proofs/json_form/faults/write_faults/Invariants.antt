use Rattle.std.proofs.Common.{◌≡◌, ◌≤◌, ◌++◌, drop, length}
use Rattle.std.specs.String.{string_bytes}
use Rattle.report.specs.json_form.About.{faults_text}
use Rattle.report.proofs.json_form.faults.write_faults.Given as goal

abbrev pub invariant-loop-left : goal.invariant-loop-left
invariant-loop-left l = record {
  within : l.left ≤ length l.faults;
  written : string_bytes l.out ≡ string_bytes l.initial.out ++ faults_text (drop l.left l.faults);
}

abbrev pub decreases-loop-left : goal.decreases-loop-left
decreases-loop-left l = l.left
