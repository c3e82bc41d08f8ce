use Rattle.std.proofs.Common.{List, subst}
use Rattle.std.specs.Prelude.{Contains}
use Rattle.std.specs.List.{AllByRecursion}
use Rattle.target_trait.specs.Play.{IsDone}
use Rattle.grown_plans.specs.Runs.{Met}
use Rattle.grown_plans.proofs.Members.{all_contains}
use Rattle.campaign_core.specs.promises.Behaviours.{IsBehaviourOfKinds}
use Rattle.campaign_core.specs.promises.WrongReports.{first_returns, flawed, quiet, second_returns}
use Rattle.campaign_core.proofs.promises.laws.no_made_up_run_is_told.Goals as goal

no_hit : (told : List (List Met)) → Contains told first_returns → AllByRecursion (IsBehaviourOfKinds quiet) told → ⊥
no_hit told in_them all = let is = all_contains (IsBehaviourOfKinds quiet) told first_returns all in_them in subst IsDone is.behaves.follows.0 tt

no_further : (told : List (List Met)) → Contains told second_returns → AllByRecursion (IsBehaviourOfKinds flawed) told → ⊥
no_further told in_them all = let is = all_contains (IsBehaviourOfKinds flawed) told second_returns all in_them in subst IsDone is.behaves.follows.2.0 tt

pub returns-clause-hits : goal.returns-clause-hits
returns-clause-hits c d told in_them sound = no_hit told.behaviours in_them sound.behaves

pub returns-clause-further : goal.returns-clause-further
returns-clause-further c d told in_them sound = no_further told.behaviours in_them sound.behaves
