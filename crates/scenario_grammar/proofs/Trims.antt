-- Trimming twice is trimming once; and when a text is trimmed already.
use Rattle.std.proofs.Common.{◌≡◌, ℕ, ◌-◌, ◌<◌, ◌≤◌, List, false, length, take, drop, get_or, refl, ap, sym, ◌∙◌, arith, reverse}
use Rattle.std.specs.List.{prefix_len, suffix_len}
use Rattle.std.proofs.lemmas.List.{take_all, length-take-le, get_or-take, get_or-drop, get_or-reverse, length-reverse, length-drop}
use Rattle.std.proofs.lemmas.List.Sums.{prefix_len_stops, prefix_len_is, suffix_len_is, suffix_len-le-length}
use Rattle.scenario_values.specs.Words.{is_blank, trimmed}

-- the bytes at both ends aren't blank
pub record Bare (text : List ℕ) : Type 0 where
  pub first : 0 < length text → is_blank (get_or text 0 0) ≡ false
  pub last : 0 < length text → is_blank (get_or text (length text - 1) 0) ≡ false

pub bare_stays : (text : List ℕ) → Bare text → trimmed text ≡ text
bare_stays text h =
    let none_before : prefix_len is_blank text ≡ 0 = prefix_len_is is_blank text 0 0 (omega arith) (λ k less. absurd (omega arith)) h.first in
    let none_after : suffix_len is_blank text ≡ length text - length text = suffix_len_is is_blank text (length text) 0 (omega arith) (λ k le less. absurd (omega arith)) h.last in
    rw (none_before, none_after) (take_all (length text - (length text - length text)) text (omega arith))

suffix_stops : (text : List ℕ) (m : ℕ) → m ≡ length text - suffix_len is_blank text → 0 < m → is_blank (get_or text (m - 1) 0) ≡ false
suffix_stops text m is some =
    let long = length-reverse text in
    let n : ℕ = suffix_len is_blank text in
    let le : n ≤ length text = suffix_len-le-length is_blank text in
    let stops = prefix_len_stops is_blank (reverse text) 0 (omega arith) in
    let place : length text - 1 - n ≡ m - 1 = omega arith in
    sym (ap is_blank (get_or-reverse text n 0 (omega arith) ∙ ap (λ (k : ℕ). get_or text k 0) place)) ∙ stops

pub trimmed_bare : (text : List ℕ) → Bare (trimmed text)
trimmed_bare text =
    let n : ℕ = prefix_len is_blank text in
    let rest : List ℕ = drop n text in
    let m : ℕ = length rest - suffix_len is_blank rest in
    let long : length (take m rest) ≡ m = length-take-le m rest (omega arith) in
    let drops : length rest ≡ length text - n = length-drop n text in
    record {
      first = λ some. ap is_blank (get_or-take m rest 0 0 (omega arith) ∙ get_or-drop n text 0 0 ∙ ap (λ (k : ℕ). get_or text k 0) (omega arith)) ∙ prefix_len_stops is_blank text 0 (omega arith);
      last = λ some.
          let place : get_or (take m rest) (length (take m rest) - 1) 0 ≡ get_or rest (m - 1) 0 = ap (λ (k : ℕ). get_or (take m rest) (k - 1) 0) long ∙ get_or-take m rest (m - 1) 0 (omega arith) in
          ap is_blank place ∙ suffix_stops rest m refl (omega arith);
    }

pub trimmed_again : (text : List ℕ) → trimmed (trimmed text) ≡ trimmed text
trimmed_again text = bare_stays (trimmed text) (trimmed_bare text)
