-- The judgement of a run, by what `target` holds after a power cut.
use Rattle.std.specs.Prelude.{ℕ, if◌then◌else◌, Bool, List, [], ◌∷◌, ◌++◌, Option, Some, None}
use Rattle.std.specs.List.{list_any}
use Rattle.std.specs.Str.{bytes_eq}
use Rattle.sim_device.specs.FileEffects.{Effect, PowerCut, Live, held}
use Rattle.target_trait.specs.declared.judgement.Judgement.{Judgement}
use Rattle.target_trait.specs.declared.judgement.Judgement.TheVariants.{Kept, Broken}
use Rattle.file_replace.specs.Words.{target, torn, stale}

-- What the judgement is based on: whole contents, the oldest first.
pub record Past : Type 0 where
  -- The contents that were last acknowledged, or the old ones, and the contents of each replacement begun after that.
  pub allowed : List (List ℕ)
  -- The old contents, and the contents of each replacement that was begun.
  pub known : List (List ℕ)

abbrev pub nothing_begun : List ℕ → Past
nothing_begun old = record { allowed = old ∷ []; known = old ∷ [] }

-- A replacement with these contents is begun.
abbrev pub with_begun : List ℕ → Past → Past
with_begun contents p = record { allowed = p.allowed ++ contents ∷ []; known = p.known ++ contents ∷ [] }

-- The replacement with these contents is acknowledged.
abbrev pub with_acknowledged : List ℕ → Past → Past
with_acknowledged contents p = record { allowed = contents ∷ []; known = p.known }

abbrev pub is_among : List ℕ → List (List ℕ) → Bool
is_among x xs = list_any (bytes_eq x) xs

-- Allowed contents are kept; known contents that are no longer allowed are stale; anything else, or no file at all, is torn.
abbrev pub judged_by : Past → Option (List ℕ) → Judgement
judged_by p None = Broken torn
judged_by p (Some x) = if is_among x p.allowed then Kept else (if is_among x p.known then Broken stale else Broken torn)

-- The judgement of what `target` holds after a power cut.
abbrev pub judged : Past → List Effect → Judgement
judged p effects = judged_by p (held (PowerCut [] ∷ effects) Live target)
