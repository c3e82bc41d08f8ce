-- What stands on a sink after writes, by what each write left.
use Rattle.std.proofs.Common.{◌≡◌, ◌<◌, ◌+◌, ◌++◌, ℕ, true, false, List, Option, Result, Ok, Err, OnOk, OnErr, IfErr, length, take, arith, inl, inr, subst, sym, length-append}
use Rattle.std.proofs.Math.Seq.{take-append-add}
use Rattle.std.proofs.lemmas.List.{take-append-le}
use Rattle.std.proofs.KnownBytes.{Appends-trans}
use Rattle.std.specs.Io.KnownBytes.{Appends}
use Rattle.campaign_core.specs.Writes.{Change}
use Rattle.report.specs.declared.writing.WriteFault.{WriteFault}
use Rattle.campaign_main.specs.declared.exit.Exit.{Exit}
use Rattle.campaign_main.specs.declared.exit.Exit.TheVariants as exit
use Rattle.campaign_main.specs.Ends.{IsTold, RefusesWith}

-- a line that was written, or a part of it
pub told-by : {T : Type 0} (result : Result T WriteFault) (line : List ℕ) (w : Change)
    → OnOk result (Appends w.old w.new line) → OnOk result (w.failed ≡ false)
    → IfErr result (λ f. Appends w.old w.new (take f.written line)) → IfErr result (λ f. f.written < length line) → OnErr result (w.failed ≡ true)
    → IsTold line w
told-by (Ok x) line w whole sound part less broken = inl (whole, sound)
told-by (Err f) line w whole sound part less broken = inr (f.written, (part, less, broken))

module _ (line more : List ℕ) where
  -- a part of a line is a part of a longer one
  pub told-part : (written : ℕ) (w : Change) → Appends w.old w.new (take written line) → written < length line → w.failed ≡ true → IsTold (line ++ more) w
  told-part written w part less broken =
      let longer : length (line ++ more) ≡ length line + length more = length-append line more in
      inr (written, (subst (Appends w.old w.new) (sym (take-append-le written line more (omega arith))) part, omega arith, broken))

  -- more of a line, after its front was written
  pub told-after : (old : Option (List ℕ)) (w : Change) → Appends old w.old line → IsTold more w → IsTold (line ++ more) (record { old = old; new = w.new; failed = w.failed })
  told-after old w front (inl (whole, sound)) = inl (Appends-trans old w.old w.new line more front whole, sound)
  told-after old w front (inr (written, (part, less, broken))) =
      let longer : length (line ++ more) ≡ length line + length more = length-append line more in
      inr (length line + written, (subst (Appends old w.new) (sym (take-append-add line more written)) (Appends-trans old w.old w.new line (take written more) front part), omega arith, broken))

-- a line that is told by an end as refused
pub refuses-with : (line : List ℕ) (end : Exit) (w : Change) → end ≡ exit.Refused → IsTold line w → RefusesWith line end w
refuses-with line end w is told = let P : Exit → Type 0 = λ e. RefusesWith line e w in subst P (sym is) told
