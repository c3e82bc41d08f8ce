use Rattle.scenario_grammar.proofs.Blanks.{strip_last_is}
use Rattle.std.proofs.lemmas.Str.Pattern.{strip_suffix_char}
use Rattle.scenario_grammar.proofs.cuts.strip_last.Goals as goal

pub returns : goal.returns
returns c = strip_last_is c.args.mark c.args.text.now c.strip_suffix.result (strip_suffix_char c.args.mark c.args.text.now _ c.strip_suffix.ensures.cases c.requires)
