-- A text to which pieces were added, one after another.
use Rattle.std.proofs.Common.{◌≡◌, ◌++◌, ◌∙◌, ℕ, List, ap, append_assoc}

on : (l m : List ℕ) → l ≡ m → (n : List ℕ) → l ++ n ≡ m ++ n
on l m e n = ap (λ (x : List ℕ). x ++ n) e

module _ (text a b : List ℕ) where
  pub two-on : (one two : List ℕ) → one ≡ text ++ a → two ≡ one ++ b → two ≡ text ++ (a ++ b)
  two-on one two first second = second ∙ on one (text ++ a) first b ∙ append_assoc text a b

  pub four-on : (c d one two three four : List ℕ) → one ≡ text ++ a → two ≡ one ++ b → three ≡ two ++ c → four ≡ three ++ d → four ≡ text ++ (a ++ (b ++ (c ++ d)))
  four-on c d one two three four first second third fourth =
      let begun : two ≡ text ++ (a ++ b) = two-on one two first second in
      let ended : four ≡ two ++ (c ++ d) = fourth ∙ on three (two ++ c) third d ∙ append_assoc two c d in
      ended ∙ on two (text ++ (a ++ b)) begun (c ++ d) ∙ append_assoc text (a ++ b) (c ++ d) ∙ ap (λ (x : List ℕ). text ++ x) (append_assoc a b (c ++ d))

-- the end of a text in four pieces
pub four-ended : (a b c d e : List ℕ) → a ++ (b ++ (c ++ d)) ++ e ≡ a ++ (b ++ (c ++ (d ++ e)))
four-ended a b c d e =
    append_assoc a (b ++ (c ++ d)) e
    ∙ ap (λ (x : List ℕ). a ++ x) (append_assoc b (c ++ d) e ∙ ap (λ (x : List ℕ). b ++ x) (append_assoc c d e))
