-- What a look into a table of recorded runs finds.
use Rattle.std.specs.Prelude.{◌≡◌, ℕ, List, Option, None, Some}
use Rattle.target_trait.specs.declared.judgement.Verdict.{Verdict}
use Rattle.grown_runs.specs.known.Known.{Told}
use Rattle.grown_runs.specs.declared.known.table.Look.{Look}
use Rattle.grown_runs.specs.declared.known.table.Look.TheVariants as look

abbrev pub told : Verdict → Option (List ℕ) → Told
told verdict hits = record { verdict = verdict; hits = hits }

-- A look finds what is recorded of a run. If it finds hits, these are their points.
abbrev pub IsLook : Option Told → List ℕ → Look → Type 0
IsLook o hits look.Unknown = o ≡ None
IsLook o hits (look.Unseen verdict) = o ≡ Some (told verdict None)
IsLook o hits (look.Seen verdict) = o ≡ Some (told verdict (Some hits))
