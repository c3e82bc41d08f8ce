-- Bytes written over those of a file.
use Rattle.std.proofs.Common.{◌≡◌, ℕ, ◌+◌, ◌-◌, ◌<◌, ◌≤◌, List, [], ◌∷◌, ◌++◌, inl, inr, length, replicate, take, drop, ap, sym, ◌∙◌, arith, length-append}
use Rattle.std.proofs.Math.Seq.{take-append-add}
use Rattle.std.proofs.lemmas.List.{append-nil, drop_all, length-replicate, take-append-le, take-replicate}
use Rattle.std.proofs.lemmas.Bool.{cases_lt}
use Rattle.sim_device.specs.Pending.{overwritten}

-- so many zeros after what is held
zeros_after : (old : List ℕ) (k n : ℕ) → k ≤ n → take (length old + k) (old ++ replicate n 0) ≡ old ++ replicate k 0
zeros_after old k n within = take-append-add old (replicate n 0) k ∙ ap (λ (z : List ℕ). old ++ z) (take-replicate k n 0 within)

-- what stands before the place, however many zeros follow
front_is : (place end : ℕ) (old : List ℕ) → place ≤ end → take place (old ++ replicate (end - length old) 0) ≡ take place (old ++ replicate place 0)
front_is place end old within =
    elim (cases_lt (length old) place) [
      | inl past ↦
          let k : ℕ = place - length old in
          let at : place ≡ length old + k = omega arith in
          ap (λ p. take p (old ++ replicate (end - length old) 0)) at
          ∙ zeros_after old k (end - length old) (omega arith)
          ∙ sym (ap (λ p. take p (old ++ replicate place 0)) at ∙ zeros_after old k place (omega arith))
      | inr inside ↦ take-append-le place old (replicate (end - length old) 0) inside ∙ sym (take-append-le place old (replicate place 0) inside)
    ]

-- what stands behind the end
rest_is : (end : ℕ) (old : List ℕ) → drop end (old ++ replicate (end - length old) 0) ≡ drop end old
rest_is end old =
    elim (cases_lt (length old) end) [
      | inl past ↦
          let long : length (old ++ replicate (end - length old) 0) ≡ length old + (end - length old) =
          length-append old (replicate (end - length old) 0) ∙ ap (λ n. length old + n) (length-replicate (end - length old) 0) in
          drop_all end (old ++ replicate (end - length old) 0) (omega (arith, long)) ∙ sym (drop_all end old (omega arith))
      | inr inside ↦
          let none : end - length old ≡ 0 = omega arith in
          ap (λ n. drop end (old ++ replicate n 0)) none ∙ ap (λ (l : List ℕ). drop end l) (append-nil old)
    ]

pub written_over : (place end : ℕ) (bytes old full new : List ℕ) → 0 < length bytes → end ≡ place + length bytes → full ≡ old ++ replicate (end - length old) 0
    → new ≡ take place full ++ bytes ++ drop (place + length bytes) full → new ≡ overwritten place bytes old
written_over place end [] old full new some at padded laid = absurd (omega (arith, some))
written_over place end (b ∷ bytes) old full new some at padded laid =
    laid
    ∙ ap (λ (l : List ℕ). take place l ++ (b ∷ bytes) ++ drop (place + length (b ∷ bytes)) l) padded
    ∙ ap (λ e. take place (old ++ replicate (e - length old) 0) ++ (b ∷ bytes) ++ drop (place + length (b ∷ bytes)) (old ++ replicate (e - length old) 0)) at
    ∙ ap (λ (l : List ℕ). l ++ (b ∷ bytes) ++ drop (place + length (b ∷ bytes)) (old ++ replicate (place + length (b ∷ bytes) - length old) 0))
    (front_is place (place + length (b ∷ bytes)) old (omega arith))
    ∙ ap (λ (l : List ℕ). take place (old ++ replicate place 0) ++ (b ∷ bytes) ++ l) (rest_is (place + length (b ∷ bytes)) old)
