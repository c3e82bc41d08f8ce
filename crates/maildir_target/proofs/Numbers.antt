-- A name follows from its number.
use Rattle.std.proofs.Common.{◌≡◌, ℕ, ◌+◌, ◌*◌, ◌/◌, ◌%◌, ◌==◌, cond, codes, ◌++◌, refl, ap, ◌∙◌, arith}
use Rattle.std.specs.Fmt.{decimal}
use Rattle.maildir_target.specs.declared.name.Folder.{Folder}
use Rattle.maildir_target.specs.declared.name.Folder.TheVariants as folder
use Rattle.maildir_target.specs.declared.name.Attempt.{Attempt}
use Rattle.maildir_target.specs.declared.name.Attempt.TheVariants.{First, Second}
use Rattle.maildir_target.specs.declared.name.Name.{Name}
use Rattle.maildir_target.specs.Words.{folder_part, attempt_part, number_of, name_text, text_of}

parts : (f g : Folder) (x y : Attempt) (m n : ℕ) → 4 * m + attempt_part x + folder_part f ≡ 4 * n + attempt_part y + folder_part g → (f ≡ g) × ((x ≡ y) × (m ≡ n))
parts folder.Tmp folder.Tmp First First m n e = let same : m ≡ n = omega arith in (refl, (refl, same))
parts folder.Tmp folder.Tmp First Second m n e = let never : ⊥ = omega arith in absurd never
parts folder.Tmp folder.Tmp Second First m n e = let never : ⊥ = omega arith in absurd never
parts folder.Tmp folder.Tmp Second Second m n e = let same : m ≡ n = omega arith in (refl, (refl, same))
parts folder.Tmp folder.New First First m n e = let never : ⊥ = omega arith in absurd never
parts folder.Tmp folder.New First Second m n e = let never : ⊥ = omega arith in absurd never
parts folder.Tmp folder.New Second First m n e = let never : ⊥ = omega arith in absurd never
parts folder.Tmp folder.New Second Second m n e = let never : ⊥ = omega arith in absurd never
parts folder.New folder.Tmp First First m n e = let never : ⊥ = omega arith in absurd never
parts folder.New folder.Tmp First Second m n e = let never : ⊥ = omega arith in absurd never
parts folder.New folder.Tmp Second First m n e = let never : ⊥ = omega arith in absurd never
parts folder.New folder.Tmp Second Second m n e = let never : ⊥ = omega arith in absurd never
parts folder.New folder.New First First m n e = let same : m ≡ n = omega arith in (refl, (refl, same))
parts folder.New folder.New First Second m n e = let never : ⊥ = omega arith in absurd never
parts folder.New folder.New Second First m n e = let never : ⊥ = omega arith in absurd never
parts folder.New folder.New Second Second m n e = let same : m ≡ n = omega arith in (refl, (refl, same))

abbrev pub named : Folder → ℕ → Attempt → Name
named f m x = record { folder = f; message = m; attempt = x }

pub apart : (a b : Name) → number_of a ≡ number_of b → a ≡ b
apart a b e =
    let p = parts a.folder b.folder a.attempt b.attempt a.message b.message e in
    ap (λ (f : Folder). named f a.message a.attempt) p.0 ∙ ap (λ (x : Attempt). named b.folder a.message x) p.1.0 ∙ ap (λ (m : ℕ). named b.folder m b.attempt) p.1.1

-- ---- its text

spelled : (n m folder attempt : ℕ) → n % 2 ≡ folder → n / 4 ≡ m → n / 2 % 2 ≡ attempt
    → name_text n ≡ cond (folder == 0) (codes "tmp") (codes "new") ++ codes "/" ++ decimal m ++ codes "." ++ decimal (attempt + 1)
spelled n m folder attempt in_folder of_message of_attempt =
    ap (λ x. cond (x == 0) (codes "tmp") (codes "new") ++ codes "/" ++ decimal (n / 4) ++ codes "." ++ decimal (n / 2 % 2 + 1)) in_folder
    ∙ ap (λ x. cond (folder == 0) (codes "tmp") (codes "new") ++ codes "/" ++ decimal x ++ codes "." ++ decimal (n / 2 % 2 + 1)) of_message
    ∙ ap (λ x. cond (folder == 0) (codes "tmp") (codes "new") ++ codes "/" ++ decimal m ++ codes "." ++ decimal (x + 1)) of_attempt

halved : (n q attempt : ℕ) → n / 2 ≡ q → q % 2 ≡ attempt → n / 2 % 2 ≡ attempt
halved n q attempt e f = ap (λ x. x % 2) e ∙ f

told_by : (f : Folder) (m : ℕ) (x : Attempt) → name_text (number_of (named f m x)) ≡ text_of (named f m x)
told_by folder.Tmp m First = spelled (4 * m + 0 + 0) m 0 0 (omega arith) (omega arith) (halved (4 * m + 0 + 0) (2 * m) 0 (omega arith) (omega arith))
told_by folder.Tmp m Second = spelled (4 * m + 2 + 0) m 0 1 (omega arith) (omega arith) (halved (4 * m + 2 + 0) (2 * m + 1) 1 (omega arith) (omega arith))
told_by folder.New m First = spelled (4 * m + 0 + 1) m 1 0 (omega arith) (omega arith) (halved (4 * m + 0 + 1) (2 * m) 0 (omega arith) (omega arith))
told_by folder.New m Second = spelled (4 * m + 2 + 1) m 1 1 (omega arith) (omega arith) (halved (4 * m + 2 + 1) (2 * m + 1) 1 (omega arith) (omega arith))

pub told_so : (name : Name) → name_text (number_of name) ≡ text_of name
told_so name = told_by name.folder name.message name.attempt
