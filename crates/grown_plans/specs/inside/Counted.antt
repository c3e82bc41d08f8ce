-- The hits of a run, one by one, and which of them are still to come.
use Rattle.std.specs.Prelude.{ℕ, ◌+◌, ◌==◌, ◌&&◌, Bool, true, false, List, [], ◌∷◌}
use Rattle.action_eval.specs.declared.rig.Site.{Site}
use Rattle.action_eval.specs.declared.rig.Rig.{Rig}
use Rattle.plan_gen.specs.LoopRuns.{times}
use Rattle.grown_plans.specs.AskedPoints.{sites_past}

-- The next hit of a point, after others.
abbrev pub next_site : List ℕ → ℕ → Site
next_site before p = record { point = p; hit = times p before + 1 }

-- Whether a hit is that of a plan's last fault.
abbrev pub is_site_of : List Rig → Site → Bool
is_site_of [] s = false
is_site_of (r ∷ rs) s = (s.point == r.site.point) && (s.hit == r.site.hit)

-- Those of further hits that come after a plan's last fault, given whether that fault has been met.
abbrev pub sites_left : Bool → List Rig → List Site → List Site
sites_left true plan xs = xs
sites_left false plan xs = sites_past plan xs
