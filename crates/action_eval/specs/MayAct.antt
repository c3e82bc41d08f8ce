-- Points at which the next hit may have an effect.
use Rattle.std.specs.Prelude.{◌≡◌, ℕ, ◌<◌, ◌==◌, ◌&&◌, not, Bool, true, false, length, slice_index_or}
use Rattle.scenario_values.specs.declared.term.Term.{Term}
use Rattle.scenario_values.specs.Scenario.{chain_of, is_off}
use Rattle.action_eval.specs.Answers.{Run, acted, history_of, is_used_up, name_of}

-- A hit that reaches this term has no effect: the term is an `off` of full share that isn't used up.
abbrev pub is_quiet : (ℕ → ℕ) → ℕ → Term → Bool
is_quiet times i t = (is_off t.task && (t.share == 1000000)) && not (is_used_up times i t)

-- The point's chain has a term that isn't quiet, and all terms before it are used up. So a hit reaches this term, and either it may act, or it is an
-- `off` that is used up too, and the hit goes on to the next term.
pub record MayAct (r : Run) (p : ℕ) : Type 0 where
  pub place : ℕ
  pub within : place < length (chain_of r.given.scenario (name_of r.given p))
  pub used_up : (i : ℕ) (t : Term) → i < place
      → is_used_up (acted (history_of r) (name_of r.given p)) i (slice_index_or (chain_of r.given.scenario (name_of r.given p)) i t) ≡ true
  pub loud : (t : Term)
      → is_quiet (acted (history_of r) (name_of r.given p)) place (slice_index_or (chain_of r.given.scenario (name_of r.given p)) place t) ≡ false
