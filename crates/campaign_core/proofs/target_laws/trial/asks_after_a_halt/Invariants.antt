use Rattle.std.proofs.Common.{ℕ, ◌<◌, List, [], get_or}
use Rattle.campaign_core.specs.target_laws.Candidates.{IsStoppedAt, Lead, Look}
use Rattle.campaign_core.proofs.target_laws.trial.asks_after_a_halt.Given as goal

abbrev pub invariant-loop-name : goal.invariant-loop-name
invariant-loop-name g l =
    (runs : List Look) × Lead (g.C.Candidate.made l.workload) l.fn.candidate runs l.candidate
    × ((point : ℕ) → point < l.name-index → IsStoppedAt l.seed l.max_hits runs (get_or g.C.Candidate.names point []))
