-- What a run shows, and when two scenarios mean the same: if every run under the one shows what the same run under the other shows.
use Rattle.std.specs.Prelude.{◌≡◌, ℕ, List, Option}
use Rattle.scenario_values.specs.Scenario.{Entries}
use Rattle.action_eval.specs.declared.answer.Stop.{Stop}
use Rattle.action_eval.specs.declared.answer.Note.{Note}
use Rattle.action_eval.specs.Answers.{Run, Reply, run_of, asked, replies, stopped, history_of, notes_of, total_millis, words_of}

-- The points that were asked, the answers in order, what stopped the run, the notes, the milliseconds, and how many random words were taken.
pub record Meaning : Type 0 where
  pub asked : List ℕ
  pub replies : List Reply
  pub stop : Option Stop
  pub notes : List Note
  pub millis : ℕ
  pub words : ℕ

abbrev pub meaning : Run → Meaning
meaning r = record {
  asked = asked r;
  replies = replies r;
  stop = stopped r;
  notes = notes_of (history_of r);
  millis = total_millis (history_of r);
  words = words_of (history_of r);
}

-- The meaning of a scenario under a catalogue, a seed, a stream number, a limit and the points that are hit.
abbrev pub meaning_of : Entries → List (List ℕ) → ℕ → ℕ → ℕ → List ℕ → Meaning
meaning_of scenario catalogue seed stream limit hits = meaning (run_of scenario catalogue seed stream limit hits)

-- Two scenarios mean the same.
pub record MeansTheSame (s t : Entries) : Type 0 where
  pub at : (catalogue : List (List ℕ)) (seed stream limit : ℕ) (hits : List ℕ)
      → meaning_of s catalogue seed stream limit hits ≡ meaning_of t catalogue seed stream limit hits
