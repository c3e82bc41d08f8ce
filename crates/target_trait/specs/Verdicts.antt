-- Tests for the kind of a verdict.
use Rattle.std.specs.Prelude.{Bool, true, false}
use Rattle.target_trait.specs.declared.judgement.Verdict.{Verdict}
use Rattle.target_trait.specs.declared.judgement.Verdict.TheVariants as verdict

abbrev pub is_pass : Verdict → Bool
is_pass verdict.Pass = true
is_pass (verdict.Fail code) = false
is_pass verdict.Unresolved = false

-- Whether a verdict is a failure, with any code.
abbrev pub is_fail : Verdict → Bool
is_fail verdict.Pass = false
is_fail (verdict.Fail code) = true
is_fail verdict.Unresolved = false

abbrev pub is_unresolved : Verdict → Bool
is_unresolved verdict.Pass = false
is_unresolved (verdict.Fail code) = false
is_unresolved verdict.Unresolved = true
