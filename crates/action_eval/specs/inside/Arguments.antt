-- How an optional text is stored: its bytes, followed by zeros.
use Rattle.std.specs.Prelude.{◌≡◌, ℕ, zero, suc, ◌-◌, ◌≤◌, Bool, true, false, List, [], ◌∷◌, ◌++◌, Option, Some, None, length, take, replicate, IsUtf8, refl}
use Rattle.scenario_values.specs.Scenario.{is_argument}
use Rattle.std.proofs.Common.{ap, sym, ◌∙◌, arith, length-take-le}

abbrev pub zeros : ℕ → List ℕ
zeros n = replicate n 0

-- The text of this many bytes, if there is one.
abbrev pub seen : Bool → ℕ → List ℕ → Option (List ℕ)
seen true len bytes = Some (take len bytes)
seen false len bytes = None

abbrev pub is_there : Option (List ℕ) → Bool
is_there None = false
is_there (Some text) = true

abbrev pub text_in : Option (List ℕ) → List ℕ
text_in None = []
text_in (Some text) = text

pub record IsKept (is_some : Bool) (len : ℕ) (bytes : List ℕ) : Type 0 where
  pub few : len ≤ 32
  pub whole : length bytes ≡ 32
  pub padded : bytes ≡ take len bytes ++ zeros (32 - len)
  pub text : ∥ IsUtf8 (take len bytes) ∥₁
  pub lawful : is_argument (take len bytes) ≡ true
  pub none : is_some ≡ false → len ≡ 0

-- The text determines all that is stored: whether there is a text, its length, and the bytes with their zeros.
pub seen_there : (b : Bool) (len : ℕ) (bytes : List ℕ) → is_there (seen b len bytes) ≡ b
seen_there true len bytes = refl
seen_there false len bytes = refl

pub seen_len : (b : Bool) (len : ℕ) (bytes : List ℕ) → IsKept b len bytes → length (text_in (seen b len bytes)) ≡ len
seen_len true len bytes k = let few = k.few in let whole = k.whole in length-take-le len bytes (omega (arith, few, whole))
seen_len false len bytes k = sym (k.none refl)

pub seen_bytes : (b : Bool) (len : ℕ) (bytes : List ℕ) → IsKept b len bytes
    → text_in (seen b len bytes) ++ zeros (32 - length (text_in (seen b len bytes))) ≡ bytes
seen_bytes true len bytes k = ap (λ n. take len bytes ++ zeros (32 - n)) (seen_len true len bytes k) ∙ sym k.padded
seen_bytes false len bytes k =
    let none : 0 ≡ len = sym (k.none refl) in
    ap (λ n. take n bytes ++ zeros (32 - n)) none ∙ sym k.padded
