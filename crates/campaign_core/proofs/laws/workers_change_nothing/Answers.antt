use Rattle.std.proofs.Common.{◌≡◌, ℕ, refl}
use Rattle.report.specs.declared.forms.forms.Form.{Form}
use Rattle.report.specs.declared.forms.forms.Form.TheVariants.{Whole, Brief, Json, Junit, Page}
use Rattle.campaign_core.specs.Forms.{report_in}
use Rattle.campaign_core.specs.Headline.{Campaign, on_workers}
use Rattle.campaign_core.proofs.laws.workers_change_nothing.Goals as goal

same : (form : Form) (k : Campaign) (workers : ℕ) → report_in form (on_workers workers k) ≡ report_in form k
unfolding report_in
same Whole k workers = refl
same Brief k workers = refl
same (Json notes) k workers = refl
same Junit k workers = refl
same (Page notes) k workers = refl

pub returns : goal.returns
returns c = same
