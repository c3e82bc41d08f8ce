-- A campaign's report in each of its forms, and what is shown beside it.
use Rattle.std.specs.Prelude.{ℕ, Bool, true, false, List, [], ◌∷◌, ◌++◌, codes, length, Option, None, Some}
use Rattle.std.specs.Fmt.{decimal}
use Rattle.report.specs.explained.Told.{run_facts}
use Rattle.report.specs.json_form.About.{ShownFacts, shown_of}
use Rattle.report.specs.forms.Forms.{text_in}
use Rattle.report.specs.forms.Runs.{Telling, most_hits_shown}
use Rattle.report.specs.declared.forms.forms.Form.{Form}
use Rattle.campaign_core.specs.CommandTexts.{case_in}
use Rattle.campaign_core.specs.Headline.{Campaign, grown_to, plans, report}

-- ---- the settings that every campaign has, one line each; of the listed scenarios only their number

abbrev pub bool_text : Bool → List ℕ
bool_text true = codes "true"
bool_text false = codes "false"

abbrev pub depth_text : Option ℕ → List ℕ
depth_text None = codes "none"
depth_text (Some depth) = decimal depth

unfoldable pub limits_text : ℕ → Option ℕ → List ℕ
limits_text max_hits depth = codes "max_hits = " ++ decimal max_hits ++ codes "\ndepth = " ++ depth_text depth

unfoldable pub listing_text : Bool → ℕ → ℕ → ℕ → List ℕ
listing_text pairs storms rate listed =
    codes "\npairs = " ++ bool_text pairs ++ codes "\nstorms = " ++ decimal storms ++ codes "\nrate = " ++ decimal rate
    ++ codes "\nlisted scenarios: " ++ decimal listed ++ codes "\n"

abbrev pub settings_text : Campaign → List ℕ
settings_text c =
    limits_text c.given.max_hits c.given.depth
    ++ listing_text c.given.plans.pairs c.given.plans.storms c.given.plans.rate (length c.given.plans.listed)

-- The text that the settings were read from. If a program made the settings, these lines.
abbrev pub text_or : List ℕ → List ℕ → List ℕ
text_or [] lines = lines
text_or (byte ∷ more) lines = byte ∷ more

-- ---- the report

-- What the report shows of the run of each scenario, hit by hit.
abbrev pub telling : Campaign → Telling
telling c stream scenario = Some (run_facts most_hits_shown c.codes c.asks (case_in c stream scenario))

-- What is shown beside the report.
abbrev pub shown : Campaign → ShownFacts
shown c =
    shown_of (plans c) (grown_to c c.given.depth) c.given.plans.storms (length c.given.plans.listed) (text_or c.given.source (settings_text c))

-- The report in this form.
unfoldable pub report_in : Form → Campaign → List ℕ
report_in form c = text_in form c.points c.codes (telling c) (report c) (shown c)
