-- Names with commas between them, by the texts behind references.
use Rattle.std.proofs.Common.{◌≡◌, ℕ, List, [], ◌∷◌, ◌++◌, codes, refl, ap}
use Rattle.std.specs.Borrow.{Bor}
use Rattle.std.specs.List.{flat_map, join_by}
use Rattle.action_eval.specs.Answers.{texts}
use Rattle.campaign_main.specs.FaultLines.{joined_names}

behind : (names : List (Bor (List ℕ))) → flat_map (λ (n : Bor (List ℕ)). codes ", " ++ n.now) names ≡ flat_map (λ (n : List ℕ). codes ", " ++ n) (texts names)
behind [] = refl
behind (n ∷ names) = ap (λ (rest : List ℕ). (codes ", " ++ n.now) ++ rest) (behind names)

pub joined-texts : (names : List (Bor (List ℕ))) → join_by (λ (n : Bor (List ℕ)). n.now) (codes ", ") names ≡ joined_names (texts names)
joined-texts [] = refl
joined-texts (n ∷ names) = ap (λ (rest : List ℕ). n.now ++ rest) (behind names)
