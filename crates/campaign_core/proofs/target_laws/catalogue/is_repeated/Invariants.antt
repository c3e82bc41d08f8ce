use Rattle.std.proofs.Common.{◌≡◌, ◌<◌, ℕ, [], false, slice_index_or}
use Rattle.std.specs.Str.{bytes_eq}
use Rattle.action_eval.specs.Answers.{texts}
use Rattle.campaign_core.proofs.target_laws.catalogue.is_repeated.Given as goal

abbrev pub invariant-loop-earlier : goal.invariant-loop-earlier
invariant-loop-earlier l = (q : ℕ) → q < l.earlier → bytes_eq (slice_index_or (texts l.names) q []) (slice_index_or (texts l.names) l.place []) ≡ false
