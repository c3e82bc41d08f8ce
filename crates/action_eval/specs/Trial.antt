-- How the terms of a chain are tried.
use Rattle.std.specs.Prelude.{ℕ, ◌+◌, ◌%◌, ◌==◌, nat_lt, if◌then◌else◌, Bool, List, [], ◌∷◌, Option, Some, None, is_some, slice_index, ◌&&◌}
use Rattle.scenario_values.specs.declared.term.Term.{Term}

-- The place of the term that acts, if one does, and the number of the next random word.
pub record Trial : Type 0 where
  pub place : Option ℕ
  pub next : ℕ

-- Tries the terms in order, from place i on. The number of the next random word is n. A spent term is skipped and takes no word. A term of full share
-- acts. Any other term takes the next word, and acts if the word modulo a million is below its share.
abbrev pub tried : (ℕ → ℕ) → (ℕ → Term → Bool) → ℕ → List Term → ℕ → Trial
tried word spent i [] n = record { place = None; next = n }
tried word spent i (t ∷ ts) n =
    if spent i t then tried word spent (i + 1) ts n
    else if t.share == 1000000 then record { place = Some i; next = n }
    else if nat_lt (word n % 1000000) t.share then record { place = Some i; next = n + 1 }
    else tried word spent (i + 1) ts (n + 1)

-- Whether a term is spent, by what is left of each count.
abbrev pub is_spent : List ℕ → ℕ → Term → Bool
is_spent left i t = is_some t.count && (slice_index left i == 0)
