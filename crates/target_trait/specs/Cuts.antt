-- The power cut at the end of a run, as a part of the run. When a target's own run has ended, by itself or by a halt, one more point is asked,
-- `power::keep`, once for each pending write, in the order in which the writes were made. A return keeps the write, and every other answer loses it.
-- Then the target is judged by what is left. A pause and the limit of hits end a run here too: nothing more is asked, not even by the cut, and the
-- verdict is unresolved. A panic at a hit of the cut only means that this write is lost.
use Rattle.std.specs.Prelude.{◌≡◌, ◌<◌, ℕ, nat_lt, if◌then◌else◌, Bool, true, false, List, [], ◌∷◌, ◌++◌, map, length, Option, Some, None, codes}
use Rattle.action_eval.specs.Answers.{Run, Reply, Go, Return, Halt, replies, is_cut_short}
use Rattle.target_trait.specs.declared.judgement.Judgement.{Judgement}
use Rattle.target_trait.specs.declared.judgement.Judgement.TheVariants.{Kept}
use Rattle.target_trait.specs.Play.{Move, Ask, Done, Unknown, FollowsOn}
use Rattle.target_trait.specs.Protocol.{Table, state_after}

-- The names with that of the cut's point, which comes after the target's own points.
abbrev pub with_keep : List (List ℕ) → List (List ℕ)
with_keep names = names ++ codes "power::keep" ∷ []

-- What a target leaves to the cut: how many writes are pending after its own answers, and the judgement if these of them are kept.
pub record Cut : Type 0 where
  pub pending : List Reply → ℕ
  pub judge : List Reply → List Bool → Judgement

abbrev pub judgement_of : Move → Judgement
judgement_of (Ask p) = Kept
judgement_of (Done j) = j
judgement_of Unknown = Kept

-- Nothing is pending, and the judgement is that of the run.
abbrev pub no_cut : (List Reply → Move) → Cut
no_cut asks = record { pending = λ own. 0; judge = λ own keep. judgement_of (asks own) }

-- Whether an answer keeps the write for which it was asked.
abbrev pub keeps : Reply → Bool
keeps Go = false
keeps (Return text) = true
keeps Halt = false

-- What the cut asks after these answers, if the target's own run had the answers `own`.
abbrev pub cut_asks : Cut → ℕ → List Reply → List Reply → Move
cut_asks cut keep own answers = if nat_lt (length answers) (cut.pending own) then Ask keep else Done (cut.judge own (map keeps answers))

-- The target's own question if it still asks; what the cut asks once the run has ended. An unknown end stays unknown.
abbrev pub by_own : Move → Move → Move → Move
by_own (Ask p) own cut = own
by_own (Done j) own cut = cut
by_own Unknown own cut = Unknown

-- What is asked after the answers `rest`, if the target was already given the answers `own`.
abbrev pub asks_from : (List Reply → Move) → Cut → ℕ → List Reply → List Reply → Move
asks_from asks cut keep own [] = by_own (asks own) (asks own) (cut_asks cut keep own [])
asks_from asks cut keep own (a ∷ rest) = by_own (asks own) (asks_from asks cut keep (own ++ a ∷ []) rest) (cut_asks cut keep own (a ∷ rest))

-- What a target asks, and then the cut, whose point has this number.
abbrev pub asks_with : (List Reply → Move) → Cut → ℕ → List Reply → Move
asks_with asks cut keep answers = asks_from asks cut keep [] answers

-- ---- components that are given by a table

-- How many writes are pending in the state in which a run ends, and the judgement if these of them are kept.
pub record CutTable (S : Type 0) : Type 0 where
  pub pending : S → ℕ
  pub judge : S → List Bool → Judgement

abbrev pub cut_by : {S : Type 0} → Table S → CutTable S → Cut
cut_by t c = record { pending = λ own. c.pending (state_after t own); judge = λ own keep. c.judge (state_after t own) keep }

-- ---- the hits of a cut

-- The cut asked its point some number of times, at most once for each pending write, and by the answers these writes are kept.
pub record CutAsked (keep pending : ℕ) (old new : Run) (kept : List Bool) : Type 0 where
  pub given : new.given ≡ old.given
  pub answers : List Reply
  pub told : replies new ≡ replies old ++ answers
  pub kept_are : kept ≡ map keeps answers
  -- Anything that asks this point for each pending write after the earlier answers asks for exactly these further hits.
  pub asked : (asks : List Reply → Move) → ((more : List Reply) → length more < pending → asks (replies old ++ more) ≡ Ask keep)
      → FollowsOn asks old.given [] old.hits → FollowsOn asks new.given [] new.hits

-- Either the run was cut short, or the cut was asked for each pending write, and these are kept.
abbrev pub IsEnded : ℕ → Run → List Bool → Option (List Bool) → Type 0
IsEnded pending new so_far None = is_cut_short new ≡ true
IsEnded pending new so_far (Some kept) = (kept ≡ so_far) × (length kept ≡ pending)

-- A cut has ended.
pub record CutEnded (keep pending : ℕ) (old new : Run) (kept : Option (List Bool)) : Type 0 where
  pub so_far : List Bool
  pub asked : CutAsked keep pending old new so_far
  pub ended : IsEnded pending new so_far kept

-- ---- what the laws speak of

abbrev pub IsAsking : Move → Type 0
IsAsking (Ask p) = Unit {0}
IsAsking (Done j) = ⊥
IsAsking Unknown = ⊥

-- The target still asks after `own` followed by any proper prefix of these answers.
abbrev pub AsksAll : (List Reply → Move) → List Reply → List Reply → Type 0
AsksAll asks own [] = Unit {0}
AsksAll asks own (a ∷ rest) = IsAsking (asks own) × AsksAll asks (own ++ a ∷ []) rest

-- The answer that keeps a write (true) or loses it (false).
abbrev pub answer_to : Bool → Reply
answer_to true = Return None
answer_to false = Go
