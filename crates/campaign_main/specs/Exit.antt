-- How a command ends, by what its text comes to; and the exit status of each end.
use Rattle.std.specs.Prelude.{ℕ, Bool, true, false}
use Rattle.campaign_main.specs.declared.exit.Exit.{Exit}
use Rattle.campaign_main.specs.declared.exit.Conclusion.{Conclusion}
use Rattle.campaign_main.specs.declared.exit.Conclusion.TheVariants.{Clean, Failed, Doubtful}
use Rattle.campaign_main.specs.declared.exit.Exit.TheVariants.{Kept, Found, Refused, Memory, Write, Doubted}

-- The exit status of a command's end.
abbrev pub status_of : Exit → ℕ
status_of Kept = 0
status_of Found = 1
status_of Refused = 2
status_of Memory = 3
status_of (Write _) = 4
status_of Doubted = 5

-- What a text comes to: Failed if a verdict in it is fail, Doubtful if there are notes that count, else Clean.
abbrev pub concluded : Bool → Bool → Conclusion
concluded true doubted = Failed
concluded false true = Doubtful
concluded false false = Clean

-- How a command ends whose whole text was written.
abbrev pub exit_of : Conclusion → Exit
exit_of Clean = Kept
exit_of Failed = Found
exit_of Doubtful = Doubted
