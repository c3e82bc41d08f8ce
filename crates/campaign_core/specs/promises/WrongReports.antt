-- Two components, and runs that they never have. Laws say that no report on them which tells such a run is sound.
use Rattle.std.specs.Prelude.{ℕ, List, [], ◌∷◌, None, codes}
use Rattle.action_eval.specs.Answers.{Reply, Go, Return, Halt}
use Rattle.target_trait.specs.declared.judgement.Judgement.TheVariants.{Broken, Kept}
use Rattle.target_trait.specs.Play.{Move, Ask, Done}
use Rattle.grown_plans.specs.GrownPlans.{Subject, usual_kinds}
use Rattle.grown_plans.specs.Runs.{Met, met}

abbrev pub one_point : List (List ℕ)
one_point = codes "a" ∷ []

-- One that hits nothing.
abbrev pub quiet : Subject
quiet = record { asks = λ answers. Done Kept; names = one_point; limit = 10; kinds = usual_kinds one_point }

-- One that hits its point once, and breaks its promise if that returns.
abbrev pub flawed_asks : List Reply → Move
flawed_asks [] = Ask 0
flawed_asks (Go ∷ later) = Done Kept
flawed_asks (Return text ∷ later) = Done (Broken 0)
flawed_asks (Halt ∷ later) = Done Kept

abbrev pub flawed : Subject
flawed = record { asks = flawed_asks; names = one_point; limit = 10; kinds = usual_kinds one_point }

-- A return at the first hit of the point, and one at the second hit.
abbrev pub first_returns : List Met
first_returns = met (record { point = 0; hit = 1 }) (Return None) ∷ []

abbrev pub second_returns : List Met
second_returns = met (record { point = 0; hit = 1 }) Go ∷ (met (record { point = 0; hit = 2 }) (Return None) ∷ [])
