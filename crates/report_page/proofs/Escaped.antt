-- Bytes that a loop writes, each as it stands in a page.
use Rattle.std.proofs.Common.{◌≡◌, ◌==◌, ℕ, ◌+◌, ◌<◌, Bool, true, false, if◌then◌else◌, List, [], ◌∷◌, ◌++◌, drop, length, get_or, flat_map, refl, ap, sym, ◌∙◌, append_assoc, add-one, drop-cons, codes}
use Rattle.std.specs.List.{AllByRecursion}
use Rattle.report_page.specs.Page.{in_html, in_script}

-- the next byte is written
pub byte_next : (f : ℕ → List ℕ) (old new whole bytes : List ℕ) (i : ℕ) → i < length bytes → new ≡ old ++ f (get_or bytes i 0)
    → old ++ flat_map f (drop i bytes) ≡ whole → new ++ flat_map f (drop (i + 1) bytes) ≡ whole
byte_next f old new whole bytes i lt added h =
    let rest = flat_map f (drop (i + 1) bytes) in
    ap (λ (l : List ℕ). l ++ rest) added ∙ append_assoc old (f (get_or bytes i 0)) rest
    ∙ ap (λ (l : List ℕ). old ++ flat_map f l) (sym (drop-cons bytes i 0 lt ∙ ap (λ (k : ℕ). get_or bytes i 0 ∷ drop k bytes) (sym (add-one i))))
    ∙ h

-- five pieces are written
pub five_pieces : (a b c d e : List ℕ) {none x y z first second third fourth last : List ℕ} → none ≡ [] → first ≡ none ++ x → x ≡ a → second ≡ first ++ b
    → third ≡ second ++ y → y ≡ c → fourth ≡ third ++ d → last ≡ fourth ++ z → z ≡ e → last ≡ a ++ b ++ c ++ d ++ e
five_pieces a b c d e {none} {x} {y} {z} {first} {second} {third} {fourth} {last} begins h1 x_is h2 h3 y_is h4 h5 z_is =
    let one : first ≡ a = h1 ∙ ap (λ (l : List ℕ). l ++ x) begins ∙ x_is in
    let three : third ≡ a ++ b ++ c = h3 ∙ ap (λ (l : List ℕ). l ++ y) (h2 ∙ ap (λ (l : List ℕ). l ++ b) one) ∙ ap (λ (l : List ℕ). a ++ b ++ l) y_is in
    h5 ∙ ap (λ (l : List ℕ). l ++ z) (h4 ∙ ap (λ (l : List ℕ). l ++ d) three) ∙ ap (λ (l : List ℕ). a ++ b ++ c ++ d ++ l) z_is

-- no byte is a less-than sign
abbrev IsOther : ℕ → Type 0
IsOther byte = (byte == 60) ≡ false

both : (xs ys : List ℕ) → AllByRecursion IsOther xs → AllByRecursion IsOther ys → AllByRecursion IsOther (xs ++ ys)
both [] ys h k = k
both (x ∷ xs) ys h k = (h.0, both xs ys h.1 k)

each : (f : ℕ → List ℕ) (bytes : List ℕ) → ((byte : ℕ) → AllByRecursion IsOther (f byte)) → AllByRecursion IsOther (flat_map f bytes)
each f [] h = tt
each f (byte ∷ bytes) h = both (f byte) (flat_map f bytes) (h byte) (each f bytes h)

-- a byte that has a name stands by it, and another as it is
or_named : (is : Bool) (named other : List ℕ) → AllByRecursion IsOther named → (is ≡ false → AllByRecursion IsOther other)
    → AllByRecursion IsOther (if is then named else other)
or_named true named other h k = h
or_named false named other h k = k refl

html_other : (byte : ℕ) → AllByRecursion IsOther (in_html byte)
html_other byte =
    or_named (byte == 38) (codes "&amp;") _ (refl, (refl, (refl, (refl, (refl, tt)))))
    (λ a. or_named (byte == 60) (codes "&lt;") _ (refl, (refl, (refl, (refl, tt))))
    (λ less. or_named (byte == 62) (codes "&gt;") _ (refl, (refl, (refl, (refl, tt))))
    (λ b. or_named (byte == 0) (239 ∷ 191 ∷ 189 ∷ []) _ (refl, (refl, (refl, tt))) (λ d. (less, tt)))))

script_other : (byte : ℕ) → AllByRecursion IsOther (in_script byte)
script_other byte =
    or_named (byte == 38) (codes "\\u0026") _ (refl, (refl, (refl, (refl, (refl, (refl, tt))))))
    (λ a. or_named (byte == 60) (codes "\\u003c") _ (refl, (refl, (refl, (refl, (refl, (refl, tt))))))
    (λ less. or_named (byte == 62) (codes "\\u003e") _ (refl, (refl, (refl, (refl, (refl, (refl, tt)))))) (λ b. (less, tt))))

pub brief_other : (brief : List ℕ) → AllByRecursion IsOther (flat_map in_html brief)
brief_other brief = each in_html brief html_other

pub document_other : (document : List ℕ) → AllByRecursion IsOther (flat_map in_script document)
document_other document = each in_script document script_other
