-- The text of a report in each of its forms.
use Rattle.std.specs.Prelude.{ℕ, List}
use Rattle.report.specs.Reports.{ReportFacts}
use Rattle.report.specs.ReportText.{report_lines, text_of}
use Rattle.report.specs.BriefText.{brief_lines}
use Rattle.report.specs.json_form.About.{NotesFacts, ShownFacts}
use Rattle.report.specs.json_form.Document.{document_of}
use Rattle.report.specs.json_form.Document.{text_of as json_of}
use Rattle.report.specs.junit_form.Junit.{document_text}
use Rattle.report_page.specs.Page.{page_text}
use Rattle.report.specs.forms.Runs.{Telling, runs_shown}
use Rattle.report.specs.declared.forms.forms.Form.{Form}
use Rattle.report.specs.declared.forms.forms.Form.TheVariants.{Whole, Brief, Json, Junit, Page}

-- The brief report and, below, the JSON document, by the names of the points and codes.
abbrev pub brief_of : List (List ℕ) → (ℕ → List ℕ) → ReportFacts → ShownFacts → List ℕ
brief_of points codes report shown = text_of (brief_lines points codes report shown.plans)

abbrev pub document_in : List (List ℕ) → (ℕ → List ℕ) → Telling → ReportFacts → NotesFacts → ShownFacts → List ℕ
document_in points codes tell report notes shown = json_of (document_of points codes report notes shown (runs_shown points tell report shown.grown))

-- The text of a report in a form, by the names of the points and codes, by what is known of runs, and with what is shown beside the report. The page
-- contains the report's JSON document and the brief report.
abbrev pub text_in : Form → List (List ℕ) → (ℕ → List ℕ) → Telling → ReportFacts → ShownFacts → List ℕ
text_in Whole points codes tell report shown = text_of (report_lines points codes report)
text_in Brief points codes tell report shown = brief_of points codes report shown
text_in (Json notes) points codes tell report shown = document_in points codes tell report notes shown
text_in Junit points codes tell report shown = document_text codes report shown.plans
text_in (Page notes) points codes tell report shown = page_text (brief_of points codes report shown) (document_in points codes tell report notes shown)
