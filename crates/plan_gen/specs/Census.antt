-- The census of a target, and the sites at which faults are planned.
use Rattle.std.specs.Prelude.{ℕ, ◌+◌, ◌==◌, List, [], ◌∷◌, ◌++◌, map, length, count_by}
use Rattle.std.specs.List.{range_with_len}
use Rattle.action_eval.specs.Answers.{Reply, asked, given_of}
use Rattle.target_trait.specs.Play.{Move}
use Rattle.target_trait.specs.Outcomes.{whole_play}
use Rattle.action_eval.specs.declared.rig.Site.{Site}

-- How often each point is asked, in catalogue order.
abbrev pub counts_of : ℕ → List ℕ → List ℕ
counts_of points asked = map (λ p. count_by (λ q. q == p) asked) (range_with_len 0 points)

-- The census: how often the play of the empty scenario, with stream number 0, asks each point of the catalogue.
abbrev pub census_of : (List Reply → Move) → List (List ℕ) → ℕ → ℕ → List ℕ
census_of asks names seed limit = counts_of (length names) (asked (whole_play asks (given_of [] names seed 0 limit)))

-- The hits of a point, from 1 to n.
abbrev pub sites_at : ℕ → ℕ → List Site
sites_at p n = map (λ k. record { point = p; hit = k + 1 }) (range_with_len 0 n)

-- The sites of points from number p on, in catalogue order.
abbrev pub sites_from : ℕ → List ℕ → List Site
sites_from p [] = []
sites_from p (n ∷ ns) = sites_at p n ++ sites_from (p + 1) ns

-- The sites of a census.
abbrev pub sites_of : List ℕ → List Site
sites_of counts = sites_from 0 counts
