-- The line that reports how two recorded runs contradict each other.
use Rattle.std.specs.Prelude.{ℕ, List, ◌++◌, codes}
use Rattle.std.specs.Fmt.{decimal}
use Rattle.answered_runs.specs.declared.broken.BrokenRun.{BrokenRun}
use Rattle.answered_runs.specs.declared.broken.Conflict.{Conflict}
use Rattle.answered_runs.specs.declared.broken.Conflict.TheVariants.{Hits, Paused, Verdict}

abbrev pub text_by : ℕ → ℕ → Conflict → List ℕ
text_by line earlier (Hits hit) =
    codes "answers: line " ++ (decimal line ++ (codes ": hits differ from line " ++ (decimal earlier ++ (codes " at hit " ++ decimal hit))))
text_by line earlier Verdict = codes "answers: line " ++ (decimal line ++ (codes ": verdict differs from line " ++ decimal earlier))
text_by line earlier Paused = codes "answers: line " ++ (decimal line ++ codes ": goes on after a pause")

abbrev pub broken_text : BrokenRun → List ℕ
broken_text b = text_by b.line b.earlier b.how
