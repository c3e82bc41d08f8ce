use Rattle.std.proofs.Common.{◌≡◌, ◌≤◌, ◌+◌, ◌-◌, ℕ, zero, suc, List, ◌++◌, take, drop, length, Option, Some, None, Ok, false, refl}
use Rattle.std.proofs.Math.Seq.{take-add}
use Rattle.std.proofs.lemmas.List.{append_assoc, take_rest}
use Rattle.std.specs.Io.KnownBytes.{Appends}
use Rattle.target_trait.specs.Output.{fails}

-- a write that takes some bytes doesn't fail
pub fails-some : (E : Type 0) (n : ℕ) (bs : List ℕ) → (n ≡ 0 → ⊥) → fails {E = E} (Ok n) bs ≡ false
fails-some E zero bs h = absurd (h refl)
fails-some E (suc n) bs h = refl

-- what two writes append one after the other is what one appends
pub appends-more : (old mid new : Option (List ℕ)) (text : List ℕ) (w n : ℕ) → w ≤ length text → n ≤ length text - w → Appends old mid (take w text)
    → Appends mid new (take n (take (length text - w) (drop w text))) → Appends old new (take (w + n) text)
appends-more None mid new text w n in_text in_rest one two = tt
appends-more (Some xs) None new text w n in_text in_rest one two = absurd one
appends-more (Some xs) (Some ys) None text w n in_text in_rest one two = absurd two
appends-more (Some xs) (Some ys) (Some zs) text w n in_text in_rest one two =
    let rest : zs ≡ ys ++ take n (drop w text) = rw (take_rest text w) at two in
    rw (take-add w n text, ← append_assoc xs (take w text) (take n (drop w text)), ← one) rest
