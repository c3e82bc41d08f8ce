-- Scans of bytes that stand one behind another, and of lost bytes, which read as zeros.
use Rattle.std.proofs.Common.{◌≡◌, ℕ, zero, suc, ◌<◌, ◌==◌, Bool, true, false, List, [], ◌∷◌, ◌++◌, take, drop, replicate, refl, sym, ◌∙◌, ap, arith, ◌⊎◌, inl, inr}
use Rattle.std.proofs.lemmas.Bool.Decides.{nat_tests}
use Rattle.journal_target.specs.declared.scan.Mode.{Mode}
use Rattle.journal_target.specs.declared.scan.Mode.TheVariants.{Outside, Heading, Inside, Committing}
use Rattle.journal_target.specs.declared.scan.Scan.{Scan}
use Rattle.journal_target.specs.File.{gap, laid}
use Rattle.journal_target.specs.Recovery.{numbered, numbered_in, scanned, scanned_byte}

pub scanned_on : (t : ℕ) (s : Scan) (xs ys : List ℕ) → scanned t s (xs ++ ys) ≡ scanned t (scanned t s xs) ys
scanned_on t s [] ys = refl
scanned_on t s (x ∷ xs) ys = scanned_on t (scanned_byte t s x) xs ys

-- what was found is the same
pub record SameFound (a b : Scan) : Type 0 where
  pub whole : a.whole ≡ b.whole
  pub committed : a.committed ≡ b.committed

-- ---- zeros are the number of no transaction

twice : (m : Mode) (s : Scan) → numbered false (numbered_in m false s) ≡ numbered_in m false s
twice Outside s = refl
twice Heading s = refl
twice Inside s = refl
twice Committing s = refl

zero_byte : (t : ℕ) (s : Scan) → 0 < t → scanned_byte t s 0 ≡ numbered false s
zero_byte t s some =
    let e : (0 == t) ≡ false = grind (arith, nat_tests, some) in
    ap (λ (own : Bool). numbered own s) e

zeros_after : (t n : ℕ) (s : Scan) → 0 < t → scanned t (numbered false s) (replicate n 0) ≡ numbered false s
zeros_after t zero s some = refl
zeros_after t (suc n) s some =
    ap (λ (x : Scan). scanned t x (replicate n 0)) (zero_byte t (numbered false s) some ∙ twice s.mode s) ∙ zeros_after t n s some

pub zeros_scanned : (t n : ℕ) (s : Scan) → 0 < t → 0 < n → scanned t s (replicate n 0) ≡ numbered false s
zeros_scanned t zero s some more = absurd (omega (arith, more))
zeros_scanned t (suc n) s some more = ap (λ (x : Scan). scanned t x (replicate n 0)) (zero_byte t s some) ∙ zeros_after t n s some

found_in : (m : Mode) (s : Scan) → SameFound s (numbered_in m false s)
found_in Outside s = record { whole = refl; committed = refl }
found_in Heading s = record { whole = refl; committed = refl }
found_in Inside s = record { whole = refl; committed = refl }
found_in Committing s = record { whole = refl; committed = refl }

pub zeros_found : (t n : ℕ) (s : Scan) → 0 < t → SameFound s (scanned t s (replicate n 0))
zeros_found t zero s some = record { whole = refl; committed = refl }
zeros_found t (suc n) s some =
    let e : numbered false s ≡ scanned t s (replicate (suc n) 0) = sym (zeros_scanned t (suc n) s some (omega arith)) in
    record {
      whole = (found_in s.mode s).whole ∙ ap (λ (x : Scan). x.whole) e;
      committed = (found_in s.mode s).committed ∙ ap (λ (x : Scan). x.committed) e;
    }

-- zeros behind the last kept append are read by none, and change nothing that is found
pub gap_scanned : (t n : ℕ) (s : Scan) (bytes : List ℕ) → 0 < t
    → SameFound (scanned t s (gap n bytes)) (scanned t (scanned t s (replicate n 0)) bytes)
gap_scanned t zero s [] some = record { whole = refl; committed = refl }
gap_scanned t (suc n) s [] some = zeros_found t (suc n) s some
gap_scanned t n s (b ∷ bytes) some =
    let e = scanned_on t s (replicate n 0) (b ∷ bytes) in
    record { whole = ap (λ (x : Scan). x.whole) e; committed = ap (λ (x : Scan). x.committed) e }

pub same_by : (a b : Scan) → a ≡ b → SameFound a b
same_by a b e = record { whole = ap (λ (x : Scan). x.whole) e; committed = ap (λ (x : Scan). x.committed) e }

pub then_same : (a b c : Scan) → SameFound a b → SameFound b c → SameFound a c
then_same a b c p q = record { whole = p.whole ∙ q.whole; committed = p.committed ∙ q.committed }

-- ---- the appends that are left, one after another

laid_nothing : (bytes sizes : List ℕ) (keep : List Bool) → (sizes ≡ []) ⊎ (keep ≡ []) → laid bytes sizes keep ≡ []
laid_nothing bytes [] keep e = refl
laid_nothing bytes (size ∷ sizes) [] e = refl
laid_nothing bytes (size ∷ sizes) (k ∷ keep) (inl e) = absurd cc
laid_nothing bytes (size ∷ sizes) (k ∷ keep) (inr e) = absurd cc

pub none_laid : (t : ℕ) (s : Scan) (bytes sizes : List ℕ) (keep : List Bool) → (sizes ≡ []) ⊎ (keep ≡ []) → SameFound (scanned t s (laid bytes sizes keep)) s
none_laid t s bytes sizes keep e = same_by _ _ (ap (scanned t s) (laid_nothing bytes sizes keep e))

pub laid_kept : (t : ℕ) (s : Scan) (bytes : List ℕ) (size : ℕ) (sizes : List ℕ) (keep : List Bool)
    → scanned t s (laid bytes (size ∷ sizes) (true ∷ keep)) ≡ scanned t (scanned t s (take size bytes)) (laid (drop size bytes) sizes keep)
laid_kept t s bytes size sizes keep = scanned_on t s (take size bytes) (laid (drop size bytes) sizes keep)

pub laid_lost : (t : ℕ) (s : Scan) (bytes : List ℕ) (size : ℕ) (sizes : List ℕ) (keep : List Bool) → 0 < t
    → SameFound (scanned t s (laid bytes (size ∷ sizes) (false ∷ keep))) (scanned t (scanned t s (replicate size 0)) (laid (drop size bytes) sizes keep))
laid_lost t s bytes size sizes keep some = gap_scanned t size s (laid (drop size bytes) sizes keep) some
