-- Cuts that judge as the run itself does if they lose everything.
use Rattle.std.proofs.Common.{◌≡◌, ℕ, Bool, true, false, List, replicate, Option, Some, None, ap, ◌∙◌}
use Rattle.action_eval.specs.Answers.{Reply}
use Rattle.target_trait.specs.declared.judgement.Judgement.{Judgement}
use Rattle.target_trait.specs.Cuts.{CutTable, cut_by, judgement_of, no_cut}
use Rattle.target_trait.specs.Machine.{after, asks_by}
use Rattle.target_trait.specs.Play.{Move, Done, move_by}
use Rattle.target_trait.specs.Protocol.{Table, by_table, state_after, table_move}
use Rattle.target_trait.specs.cut_laws.KeptSets.{LosesAlike}

-- what a step that asks nothing is judged
pub ends_by : (i j : Judgement) (point : Option ℕ) → move_by i point ≡ Done j → i ≡ j
ends_by i j (Some p) e = cc
ends_by i j None e = cc

table_judges : {S : Type 0} (t : Table S) (x : S × Bool) (j : Judgement) → table_move t x ≡ Done j → t.judge x.0 ≡ j
table_judges t (s, true) j e = cc
table_judges t (s, false) j e = ends_by (t.judge s) j (t.point s) e

pub loses_by_table : {S : Type 0} (t : Table S) (c : CutTable S) → ((s : S) → c.judge s (replicate (c.pending s) false) ≡ t.judge s) → LosesAlike (asks_by (by_table t)) (cut_by t c)
loses_by_table t c each own j all e = each (state_after t own) ∙ table_judges t (after (by_table t) own) j e

pub loses_nothing : (asks : List Reply → Move) → LosesAlike asks (no_cut asks)
loses_nothing asks own j all e = ap judgement_of e
