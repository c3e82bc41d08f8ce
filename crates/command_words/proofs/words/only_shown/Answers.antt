use Rattle.command_words.proofs.FormLemmas.{one_taken, two_refused}
use Rattle.command_words.proofs.words.only_shown.Goals as goal

pub returns-in-len1-clause-taken : goal.returns-in-len1-clause-taken
returns-in-len1-clause-taken c = one_taken _ c.args.named.now c.in-len1.len_below

pub returns-in-len2-up-clause-refused : goal.returns-in-len2-up-clause-refused
returns-in-len2-up-clause-refused c = two_refused _ c.args.named.now c.two_forms.result c.in-len2-up.len_at_least c.two_forms.ensures
