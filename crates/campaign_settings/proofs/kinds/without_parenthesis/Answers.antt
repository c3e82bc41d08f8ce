use Rattle.std.proofs.Common.{lit<}
use Rattle.std.proofs.lemmas.Str.Pattern.{strip_suffix_char}
use Rattle.scenario_grammar.proofs.Blanks.{strip_last_is}
use Rattle.campaign_settings.proofs.kinds.without_parenthesis.Goals as goal

pub returns : goal.returns
returns c = strip_last_is 41 c.args.text.now c.strip_suffix.result (strip_suffix_char 41 c.args.text.now _ c.strip_suffix.ensures.cases (lit< tt))
