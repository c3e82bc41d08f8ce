use Rattle.std.proofs.Common.{◌≡◌, ◌≤◌, ◌<◌, ◌^◌, take, length, vec_capacity}
use Rattle.std.specs.List.{AllByRecursion}
use Rattle.rand_chacha.specs.ChaCha.{word_at}
use Rattle.action_eval.specs.RiggedScenario.{HaveLawfulTexts}
use Rattle.plan_gen.specs.PlanList.{storm_by}
use Rattle.plan_gen.proofs.storms.storm.Given as goal

abbrev pub invariant-loop-site : goal.invariant-loop-site
invariant-loop-site l = record {
  key : l.rng.key ≡ l.initial.rng.key;
  stream : l.rng.stream ≡ l.initial.rng.stream;
  place : l.rng.word_pos ≡ l.site-index;
  room : 64 ≤ vec_capacity l.rigs;
  small : AllByRecursion (λ r. r.site.hit < 2 ^ 32) l.rigs.items;
  texts : HaveLawfulTexts l.rigs.items;
  few : length l.rigs.items ≤ 64;
  built : l.rigs.items ≡ storm_by (word_at 4 l.initial.rng.key l.initial.rng.stream) l.rate (take l.site-index l.sites);
}
