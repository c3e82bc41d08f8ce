-- A point is asked at most as often as the limit allows.
use Rattle.std.proofs.Common.{◌≡◌, ℕ, zero, suc, ◌≤◌, ◌==◌, List, take, length, count_by, refl, ap, arith}
use Rattle.std.proofs.lemmas.List.{length-take}
use Rattle.std.proofs.lemmas.List.Sums.{count_by-le-length}
use Rattle.scenario_values.specs.Scenario.{Entries}
use Rattle.action_eval.specs.Answers.{Given, Run, Reply, given_of, hit, start}
use Rattle.target_trait.specs.Play.{Move, Ask, Done, Unknown, move_in}
use Rattle.target_trait.specs.Outcomes.{play, moved}
use Rattle.plan_gen.specs.LoopRuns.{times_of}

moved_given : (move : Move) (r : Run) (further : ℕ → Run) → ((p : ℕ) → (further p).given ≡ r.given) → (moved move r further).given ≡ r.given
moved_given (Ask p) r further h = h p
moved_given (Done j) r further h = refl
moved_given Unknown r further h = refl

pub play_given : (n : ℕ) (asks : List Reply → Move) (r : Run) → (play n asks r).given ≡ r.given
unfolding play
play_given zero asks r = refl
play_given (suc n) asks r = moved_given (move_in asks r) r (λ p. play n asks (hit r p)) (λ p. play_given n asks (hit r p))

count_few : (p : ℕ) (xs : List ℕ) → count_by (λ q. q == p) xs ≤ length xs
count_few p xs = count_by-le-length (λ q. q == p) xs

take_few : (n : ℕ) (xs : List ℕ) → length (take n xs) ≤ n
take_few n xs = omega (arith, length-take n xs)

pub times_few : (asks : List Reply → Move) (names : List (List ℕ)) (seed limit : ℕ) (s : Entries) (p : ℕ) → times_of asks names seed limit s p ≤ limit
unfolding times_of
times_few asks names seed limit s p =
    let g = given_of s names seed 0 limit in
    let r = play (suc limit) asks (start g) in
    let same = ap (λ (h : Given). h.limit) (play_given (suc limit) asks (start g)) in
    omega (arith, count_few p (take r.given.limit r.hits), take_few r.given.limit r.hits, same)
