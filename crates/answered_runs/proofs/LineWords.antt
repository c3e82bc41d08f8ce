-- What a line says that a component does after some answers, computed.
use Rattle.std.proofs.Common.{◌≡◌, ℕ, ◌≤◌, ◌&&◌, not, nat_le, Bool, true, false, cond, Option, None, Some, List, length, take, refl, ap, sym, ◌∙◌, subst, arith}
use Rattle.std.specs.Prelude.{slice_get}
use Rattle.std.proofs.lemmas.Bool.{le-leb}
use Rattle.std.proofs.lemmas.Bool.Decides.{nat_tests}
use Rattle.std.proofs.lemmas.Option.{cond_some}
use Rattle.scenario_values.specs.Scenario.{Entries}
use Rattle.action_eval.specs.Answers.{Reply}
use Rattle.target_trait.specs.declared.judgement.Verdict.{Verdict}
use Rattle.target_trait.specs.Play.{Move}
use Rattle.grown_runs.specs.known.Looks.{told}
use Rattle.answered_runs.specs.Agreement.{IsCertain, Says, is_certain, line_of, move_said}
use Rattle.answered_runs.proofs.CertainAnswers.{answers_over}
use Rattle.answered_runs.proofs.Disagreeing.{answers_reached, cut_reached}
use Rattle.answered_runs.proofs.LineRuns.{cut_over}
use Rattle.answered_runs.proofs.Tests.{both_true, certain_scenario, replies_are, replies_same, same_replies, scenario_certain, true_both}

abbrev does_say : List (List ℕ) → Entries → List ℕ → List Reply → Bool
does_say points s hits answers =
    is_certain s
    && (nat_le (length answers) (length hits) && (same_replies (answers_over points s (take (length answers) hits)) answers && not (cut_over points s (take (length answers) hits))))

abbrev pub said_by : List (List ℕ) → Entries → Verdict → List Reply → Option (List ℕ) → Option Move
said_by points s v answers None = None
said_by points s v answers (Some hits) = cond (does_say points s hits answers) (Some (move_said v (slice_get hits (length answers)))) None

not_true : (b : Bool) → not b ≡ true → b ≡ false
not_true true e = absurd cc
not_true false e = refl

true_not : (b : Bool) → b ≡ false → not b ≡ true
true_not true e = cc
true_not false e = refl

is_most : (m n : ℕ) → nat_le m n ≡ true → m ≤ n
is_most m n e = grind (arith, nat_tests)

pub said_so : (points : List (List ℕ)) (s : Entries) (v : Verdict) (answers : List Reply) (o : Option (List ℕ)) (m : Move) → said_by points s v answers o ≡ Some m
    → IsCertain s × Says points (line_of s (told v o)) (length answers) answers m
said_so points s v answers None m e = absurd cc
said_so points s v answers (Some hits) m e =
    let n : ℕ = length answers in
    let first : List ℕ = take n hits in
    let does = cond_some (does_say points s hits answers) (move_said v (slice_get hits n)) m e in
    let one = both_true (is_certain s) (nat_le n (length hits) && (same_replies (answers_over points s first) answers && not (cut_over points s first))) does.0 in
    let two = both_true (nat_le n (length hits)) (same_replies (answers_over points s first) answers && not (cut_over points s first)) one.1 in
    let three = both_true (same_replies (answers_over points s first) answers) (not (cut_over points s first)) two.1 in
    let c : IsCertain s = scenario_certain s one.0 in (
      c,
      record {
        hits = hits;
        known = refl;
        within = is_most n (length hits) two.0;
        reached = answers_reached s points first c ∙ replies_are (answers_over points s first) answers three.0;
        goes_on = cut_reached s points first c ∙ not_true (cut_over points s first) three.1;
        move_is = sym does.1;
      },
    )

-- a line says what it does after the answers to its own hits
pub own_said : (points : List (List ℕ)) (s : Entries) (v : Verdict) (hits : List ℕ) (answers : List Reply) (count : ℕ) → IsCertain s → length answers ≡ count → count ≤ length hits
    → answers_over points s (take count hits) ≡ answers → cut_over points s (take count hits) ≡ false → said_by points s v answers (Some hits) ≡ Some (move_said v (slice_get hits count))
own_said points s v hits answers count c many within reached uncut =
    subst (λ (n : ℕ). n ≤ length hits → answers_over points s (take n hits) ≡ answers → cut_over points s (take n hits) ≡ false → said_by points s v answers (Some hits) ≡ Some (move_said v (slice_get hits n)))
    many at within reached uncut
  where
    at : length answers ≤ length hits → answers_over points s (take (length answers) hits) ≡ answers → cut_over points s (take (length answers) hits) ≡ false
        → said_by points s v answers (Some hits) ≡ Some (move_said v (slice_get hits (length answers)))
    at le e f =
        let first : List ℕ = take (length answers) hits in
        let does : does_say points s hits answers ≡ true =
        true_both (is_certain s) _ (certain_scenario s c)
        (true_both (nat_le (length answers) (length hits)) _ (le-leb (length answers) (length hits) le)
        (true_both (same_replies (answers_over points s first) answers) (not (cut_over points s first)) (replies_same (answers_over points s first) answers e) (true_not (cut_over points s first) f)))
        in
        ap (λ (b : Bool). cond b (Some (move_said v (slice_get hits (length answers)))) None) does
