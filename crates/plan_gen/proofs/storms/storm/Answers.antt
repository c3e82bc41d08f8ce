use Rattle.std.proofs.Common.{rules, ◌≡◌, ℕ, ◌+◌, ◌<◌, ◌^◌, subst, sym, List, length, refl, ap, ◌∙◌, arith}
use Rattle.std.specs.List.{AllByRecursion}
use Rattle.rand_chacha.specs.ChaCha.{ChaCha, word_at}
use Rattle.action_eval.specs.Words.{at_word}
use Rattle.action_eval.specs.declared.rig.Rig.{Rig}
use Rattle.action_eval.specs.RiggedScenario.{HaveLawfulTexts}
use Rattle.plan_gen.proofs.StormLemmas.{storm_next, storm_is, storm_whole}
use Rattle.plan_gen.proofs.storms.storm.Goals as goal

pub loop-site-init : goal.loop-site-init
unfolding at_word
loop-site-init c =
    let g = c.generator-rng.result in
    let none = c.reserve.ensures.items ∙ c.clear.ensures.items in
    record {
      key = refl;
      stream = refl;
      place = ap (λ (g : ChaCha). g.word_pos) c.generator-rng.ensures;
      room = search rules;
      small = subst (λ (l : List Rig). AllByRecursion (λ (r : Rig). r.site.hit < 2 ^ 32) l) (sym none) tt;
      texts = subst HaveLawfulTexts (sym none) tt;
      few = omega (arith, ap (λ (l : List Rig). length l) none);
      built = none;
    }

pub loop-site-preserved : goal.loop-site-preserved
loop-site-preserved c =
    let at = c.loop-site.invariant in
    let g = c.generator-rng.result in
    let word : c.next_word.result ≡ word_at 4 g.key g.stream c.loop-site.site-index = search rules in
    record {
      key = search rules;
      stream = search rules;
      place = search rules;
      room = search rules;
      small = search rules;
      texts = search rules;
      few = search rules;
      built = storm_next (word_at 4 g.key g.stream) c.args.rate c.loop-site.site-index c.args.sites.now c.site-item.result _ c.next_word.result _ _ c.loop-site-test.true c.site-item.is word at.built c.draw.ensures.drawn;
    }

pub returns-clause-rigs : goal.returns-clause-rigs
returns-clause-rigs c =
    c.loop-site.invariant.built ∙ storm_whole _ c.args.rate c.loop-site.site-index c.args.sites.now (omega arith)
    ∙ storm_is c.args.seed c.args.rate c.args.number _ c.args.sites.now c.generator-rng.result c.generator-rng.ensures (ap (λ (n : ℕ). 4294967296 + n) c.from.ensures)
