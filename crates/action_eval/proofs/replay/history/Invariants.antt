use Rattle.std.proofs.Common.{◌≤◌, ◌*◌, take}
use Rattle.scenario_values.specs.Scenario.{IsScenario}
use Rattle.action_eval.specs.Answers.{texts, run_of, history_of, words_of}
use Rattle.action_eval.proofs.Replays.{Kept}
use Rattle.action_eval.proofs.replay.history.Given as goal

abbrev pub invariant-loop-point : goal.invariant-loop-point
invariant-loop-point l =
    let run = run_of l.scenario (texts l.catalogue) l.seed l.stream l.max_hits (take l.point-index l.points) in
    record {
      scenario : IsScenario l.scenario;
      kept : Kept run l.left.items l.draws l.hits.items;
      few : words_of (history_of run) ≤ 256 * l.point-index;
    }
