-- What the program shows while it runs plans or a reduction.
use Rattle.std.specs.Prelude.{◌++◌, ◌∷◌, [], ◌||◌, ◌==◌, ◌-◌, ◌*◌, ◌/◌, ◌%◌, ℕ, List, codes, nat_lt, if◌then◌else◌}
use Rattle.std.specs.Fmt.{decimal}
use Rattle.std.specs.Int.{div_ceil}
use Rattle.campaign_progress.specs.declared.pace.Pace.{Pace}
use Rattle.campaign_progress.specs.declared.pace.Pace.TheVariants.{Unknown, Known}
use Rattle.campaign_progress.specs.declared.shown.Shown.{Shown}
use Rattle.campaign_progress.specs.declared.shown.Shown.TheVariants.{Over, Line, Nothing}
use Rattle.campaign_progress.specs.declared.told.Standing.{Standing}
use Rattle.campaign_progress.specs.declared.told.Told.{Told}
use Rattle.campaign_progress.specs.declared.told.Told.TheVariants.{Plans, Tests}
use Rattle.work_gate.specs.declared.Phase.{Phase}
use Rattle.work_gate.specs.declared.Phase.TheVariants as phase
use Rattle.work_gate.specs.declared.Stage.{Stage}
use Rattle.work_gate.specs.declared.Stage.TheVariants.{Listed, Level, Onward}

-- ---- how fast plans end

-- Plans a second, rounded down, and the seconds that the rest takes, rounded up, if `ended` of `expected` plans have ended in `elapsed` milliseconds.
-- They are unknown in the first second, and before the first plan has ended.
abbrev pub pace_of : ℕ → ℕ → ℕ → Pace
pace_of ended expected elapsed = if nat_lt elapsed 1000 || ended == 0 then Unknown
    else Known (ended * 1000 / elapsed) (div_ceil ((expected - ended) * elapsed) (ended * 1000))

-- Two digits of a number below 100.
abbrev pub two_digits : ℕ → List ℕ
two_digits n = decimal (n / 10) ++ decimal (n % 10)

-- Seconds as hours, minutes and seconds, as in 1:02:03.
abbrev pub time_text : ℕ → List ℕ
time_text seconds = decimal (seconds / 3600) ++ (codes ":" ++ (two_digits (seconds / 60 % 60) ++ (codes ":" ++ two_digits (seconds % 60))))

abbrev pub pace_text : Pace → List ℕ
pace_text Unknown = []
pace_text (Known rate left) = codes ", " ++ (decimal rate ++ (codes " a second, " ++ (time_text left ++ codes " left")))

-- ---- how far the work is

abbrev pub title_text : Stage → List ℕ
title_text Listed = codes "plans "
title_text (Level faults) = codes "level " ++ (decimal faults ++ codes ": plan ")
title_text Onward = codes "onward: plan "

abbrev pub growth_text : ℕ → List ℕ
growth_text children = if children == 0 then [] else codes "; " ++ (decimal children ++ codes " in the next so far")

abbrev pub standing_text : Standing → List ℕ
standing_text s = title_text s.stage ++ (decimal s.begun ++ (codes " of " ++ (decimal s.expected ++ (codes ", " ++ (decimal s.failing
    ++ (codes " failing" ++ (pace_text s.pace ++ growth_text s.children)))))))

abbrev pub told_text : Told → List ℕ
told_text (Plans standing) = standing_text standing
told_text (Tests begun) = codes "reducing: test " ++ decimal begun

-- ---- what begins

-- A plan by its number, or a test by the number under which its reduction hands it out.
abbrev pub begun_text : Phase → ℕ → List ℕ
begun_text phase.Plans number = codes "plan " ++ decimal number
begun_text phase.Requests number = codes "test " ++ decimal number

-- ---- the bytes on standard error

-- The bytes that take a terminal back to the left edge and erase the line: a carriage return, and ESC [ K.
abbrev pub erased : List ℕ
erased = 13 ∷ 27 ∷ codes "[K"

abbrev pub shown_text : Shown → List ℕ
shown_text (Over told) = erased ++ told_text told
shown_text (Line told) = told_text told ++ 10 ∷ []
shown_text Nothing = erased
