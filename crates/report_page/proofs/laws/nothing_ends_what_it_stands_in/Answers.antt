use Rattle.report_page.proofs.Escaped.{brief_other, document_other}
use Rattle.report_page.proofs.laws.nothing_ends_what_it_stands_in.Goals as goal

pub returns-clause-text : goal.returns-clause-text
returns-clause-text c = brief_other

pub returns-clause-document : goal.returns-clause-document
returns-clause-document c = document_other
