-- The lines of a text that was read: each records a lawful scenario, with hits of the points, and is unresolved if it has none.
use Rattle.std.proofs.Common.{◌≡◌, ℕ, ◌<◌, ◌≤◌, ◌&&◌, nat_le, Bool, true, false, cond, Option, None, Some, List, [], ◌∷◌, length, refl, ap, sym, ◌∙◌, subst, arith, inl, inr}
use Rattle.std.specs.Prelude.{IfSome, Result, Ok, Err, option_and_then}
use Rattle.std.specs.List.{AllByRecursion, list_all}
use Rattle.std.proofs.lemmas.Bool.{le-leb, lt-ltb}
use Rattle.scenario_values.specs.Printed.{printed}
use Rattle.scenario_values.specs.Scenario.{Entries, IsScenario}
use Rattle.target_trait.specs.declared.judgement.Verdict.{Verdict}
use Rattle.target_trait.specs.declared.judgement.Verdict.TheVariants as verdict
use Rattle.answer_text.specs.Answers.{SpellsRuns}
use Rattle.answer_text.specs.Hits.{field_in, hits_in, known_hits, most_hits, points_of}
use Rattle.answer_text.specs.Runs.{KnownRuns as Answers, known_of, runs_of, told_in}
use Rattle.answer_text.specs.declared.fault.AnswersFault.{AnswersFault}
use Rattle.answer_text.specs.declared.fault.LineFault.{LineFault}
use Rattle.answer_text.specs.declared.hits.Stretch.{Stretch}
use Rattle.answer_text.specs.declared.runs.RunLine.{RunLine}
use Rattle.answer_text.specs.declared.runs.ToldRun.{ToldRun}
use Rattle.answer_text.proofs.Members.{AreLawful, Has, lawful_has, same_printed, told_gives}
use Rattle.answer_text.proofs.TextLaws.{text_gives}
use Rattle.answered_runs.specs.Answered.{Answered, hits_by, is_low}
use Rattle.answered_runs.specs.SomeComponent.{WereRead}
use Rattle.answered_runs.proofs.ReadHits.{AreFew, HasFew, ToldFew, known_run_few, points_below, points_many}

pub read_few : (a : Answered) → WereRead a → (s : Entries) → ToldFew (length a.points) (told_in a.book s)
read_few a w s = subst (λ (known : Answers). ToldFew (length a.points) (known s)) (sym w.read) (known_run_few true w.names a.points w.text s)

abbrev pub AreSome : ℕ → List ℕ → Type 0
AreSome n hits = AllByRecursion (λ p. p < n) hits × (length hits ≤ most_hits)

pub some_hits : (n : ℕ) (o : Option (List Stretch)) → HasFew n o → IfSome (option_and_then hits_by o) (AreSome n)
some_hits n None few = tt
some_hits n (Some hits) few = by_test (list_all is_low hits && nat_le (length (points_of hits)) most_hits)
  where
    by_test : (b : Bool) → IfSome (cond b (Some (points_of hits)) None) (AreSome n)
    by_test true = (points_below n hits few.points, let many = points_many hits in let less = few.count in omega (arith, many, less))
    by_test false = tt

low_hits : (n : ℕ) (hits : List Stretch) → n ≤ 64 → AllByRecursion (λ s. s.point < n) hits → list_all is_low hits ≡ true
low_hits n [] le all = refl
low_hits n (s ∷ hits) le all = ap (λ (b : Bool). b && list_all is_low hits) (lt-ltb s.point 64 (let less = all.0 in omega (arith, less, le))) ∙ low_hits n hits le all.1

pub kept_hits : (n : ℕ) (hits : List Stretch) → n ≤ 64 → AreFew n hits → hits_by hits ≡ Some (points_of hits)
kept_hits n hits le few =
    let many = points_many hits in
    let less = few.count in
    ap (λ (b : Bool). cond (b && nat_le (length (points_of hits)) most_hits) (Some (points_of hits)) None) (low_hits n hits le few.points)
    ∙ ap (λ (b : Bool). cond b (Some (points_of hits)) None) (le-leb (length (points_of hits)) most_hits (omega (arith, many, less)))

-- a line without hits is unresolved
known_some : (r : Result (List Stretch) LineFault) → known_hits r ≡ Ok None → ⊥
known_some (Ok hits) e = cc
known_some (Err fault) e = cc

unseen_field : (points : List (List ℕ)) (v : Verdict) (field : Option (List ℕ)) → field_in true points v field ≡ Ok None → v ≡ verdict.Unresolved
unseen_field points v None e = absurd cc
unseen_field points verdict.Pass (Some text) e = absurd (known_some (hits_in points text) e)
unseen_field points (verdict.Fail code) (Some text) e = absurd (known_some (hits_in points text) e)
unseen_field points verdict.Unresolved (Some text) e = refl

unseen_line : (names points lines : List (List ℕ)) (runs : List RunLine) (x : RunLine) → SpellsRuns true names points lines runs → Has runs x → x.hits ≡ None → x.verdict ≡ verdict.Unresolved
unseen_line names points lines [] x spelled h none = absurd h
unseen_line names points [] (y ∷ runs) x spelled h none = absurd spelled
unseen_line names points (line ∷ lines) (y ∷ runs) x spelled (inl e) none = ap (λ (z : RunLine). z.verdict) (sym e) ∙ unseen_field points y.verdict spelled.0.field (spelled.0.hits ∙ ap (λ (o : Option (List Stretch)). Ok o) (ap (λ (z : RunLine). z.hits) e ∙ none))
unseen_line names points (line ∷ lines) (y ∷ runs) x spelled (inr h) none = unseen_line names points lines runs x spelled.1 h none

-- the line that records a scenario
pub record Gives (runs : List RunLine) (s : Entries) (r : ToldRun) : Type 0 where
  pub line : RunLine
  pub has : Has runs line
  pub scenario_is : line.scenario ≡ s
  pub unseen : r.hits ≡ None → r.verdict ≡ verdict.Unresolved

pub record Reading (a : Answered) : Type 0 where
  pub runs : List RunLine
  pub lawful : AreLawful runs
  pub gives : (s : Entries) (r : ToldRun) → IsScenario s → told_in a.book s ≡ Some r → Gives runs s r

pub reading : (a : Answered) → WereRead a → Reading a
reading a w = by_result (runs_of w.names a.points w.text) refl
  where
    told_by : (r : Result (List RunLine) AnswersFault) → runs_of w.names a.points w.text ≡ r → (s : Entries) → told_in a.book s ≡ known_of r s
    told_by r e s = ap (λ (known : Answers). known s) w.read ∙ ap (λ (x : Result (List RunLine) AnswersFault). known_of x s) e

    by_result : (r : Result (List RunLine) AnswersFault) → runs_of w.names a.points w.text ≡ r → Reading a
    by_result (Err fault) e = record { runs = []; lawful = tt; gives = λ s r lawful told. absurd (let none = told_by (Err fault) e s in cc) }
    by_result (Ok runs) e =
        let read = text_gives true w.names a.points w.text runs e in
        record {
          runs = runs;
          lawful = read.lawful;
          gives = λ s r lawful told.
              let gave = told_gives 1 runs (printed s) r (sym (told_by (Ok runs) e s) ∙ told) in
              record {
                line = gave.run;
                has = gave.has;
                scenario_is = sym (same_printed s gave.run.scenario lawful (lawful_has runs gave.run read.lawful gave.has) gave.key_is);
                unseen = λ none. gave.told_is.verdict_is ∙ unseen_line w.names a.points read.says.lines runs gave.run read.says.spelled gave.has (sym gave.told_is.hits_are ∙ none);
              };
        }
