-- What a target says about the end of a run, in lines of an explained run.
use Rattle.std.specs.Prelude.{ℕ, Bool, ◌==◌, ◌||◌, ◌&&◌, nat_lt, if◌then◌else◌, List, [], ◌∷◌, ◌++◌, codes, flat_map}
use Rattle.std.specs.Str.{chars}
use Rattle.std.specs.Char.{encode_utf8}
use Rattle.action_eval.specs.Answers.{Given, Reply}
use Rattle.target_trait.specs.declared.judgement.Verdict.{Verdict}
use Rattle.target_trait.specs.declared.judgement.Verdict.TheVariants as verdict
use Rattle.target_trait.specs.Play.{Move}
use Rattle.target_trait.specs.Outcomes.{outcome}

-- The control characters of ASCII and of Latin-1.
abbrev pub is_control : ℕ → Bool
is_control c = nat_lt c 32 || (nat_lt 126 c && nat_lt c 160)

-- How a character is written in one line: a line feed, a return, a tab and a backslash as `\n`, `\r`, `\t` and `\\`, each other control character as
-- U+FFFD, and any other character as it is.
abbrev pub in_line : ℕ → List ℕ
in_line c =
    if c == 10 then 92 ∷ 110 ∷ []
    else if c == 13 then 92 ∷ 114 ∷ []
    else if c == 9 then 92 ∷ 116 ∷ []
    else if c == 92 then 92 ∷ 92 ∷ []
    else if is_control c then encode_utf8 65533
    else encode_utf8 c

-- A word and a text in one line. For an empty text there is no line.
abbrev pub word_line : List ℕ → List ℕ → List (List ℕ)
word_line word [] = []
word_line word (byte ∷ more) = (word ++ codes " " ++ flat_map in_line (chars (byte ∷ more))) ∷ []

-- Why a run is judged so. For an unresolved run there is no line, whatever its judgement would have been.
abbrev pub reason_line : Verdict → List ℕ → List (List ℕ)
reason_line verdict.Pass reason = word_line (codes "judged") reason
reason_line (verdict.Fail code) reason = word_line (codes "judged") reason
reason_line verdict.Unresolved reason = []

-- The state in which a run with this verdict ended, and why it is judged so.
abbrev pub tale_lines : Verdict → List ℕ → List ℕ → List (List ℕ)
tale_lines v state reason = word_line (codes "state") state ++ reason_line v reason

-- The lines about the end of a component's run.
abbrev pub told_end : (List Reply → Move) → (Given → List ℕ) → (Given → List ℕ) → Given → List (List ℕ)
told_end asks state_of reason_of g = tale_lines (outcome asks g).verdict (state_of g) (reason_of g)
