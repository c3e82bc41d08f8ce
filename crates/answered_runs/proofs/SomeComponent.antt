-- Some component agrees with lines of which no two contradict each other. It does what the lines say, and where they say nothing, nobody knows what
-- it does.
use Rattle.std.proofs.Common.{◌≡◌, ℕ, ◌<◌, ◌≤◌, Bool, true, false, Option, None, Some, List, [], ◌∷◌, length, take, refl, ap, sym, ◌∙◌, subst, arith, ◌⊎◌, inl, inr, zero, suc, get_or}
use Rattle.std.specs.Prelude.{IfSome, option_and_then, slice_get}
use Rattle.std.specs.List.{AllByRecursion}
use Rattle.std.proofs.lemmas.Bool.{cases_lt}
use Rattle.std.proofs.lemmas.List.{length-take, take_all}
use Rattle.std.proofs.lemmas.Option.{same_Some, slice_get-get_or, slice_get_past, slice_get_within}
use Rattle.scenario_values.specs.Scenario.{Entries, IsScenario}
use Rattle.action_eval.specs.Answers.{Reply, given_of, is_cut_short}
use Rattle.target_trait.specs.declared.judgement.Judgement.{Judgement}
use Rattle.target_trait.specs.declared.judgement.Verdict.{Verdict}
use Rattle.target_trait.specs.declared.judgement.Verdict.TheVariants as verdict
use Rattle.target_trait.specs.Play.{AsksWithin, Done, Move, Unknown}
use Rattle.target_trait.specs.Outcomes.{outcome}
use Rattle.answer_text.specs.Hits.{most_hits, points_of}
use Rattle.answer_text.specs.Runs.{told_in}
use Rattle.answer_text.specs.declared.hits.Stretch.{Stretch}
use Rattle.answer_text.specs.declared.runs.RunLine.{RunLine}
use Rattle.answer_text.specs.declared.runs.ToldRun.{ToldRun}
use Rattle.answer_text.proofs.Members.{AreLawful, Has, lawful_has}
use Rattle.grown_plans.specs.GrownPlans.{Subject}
use Rattle.grown_plans.specs.Promises.{CanBeTried, IsLawful}
use Rattle.grown_plans.proofs.ListedKinds.{listed_can}
use Rattle.grown_plans.proofs.Members.{all_weaker}
use Rattle.answered_runs.specs.Agreement.{AreOfOne, EndsAtPause, HasItsRun, IsCertain, KeepsVerdict, Says, SayTheSame, end_by, line_of, move_said, run_over}
use Rattle.answered_runs.specs.Answered.{Answered, CanBeListed, hits_by, kinds_over, told_of}
use Rattle.answered_runs.specs.Components.{AgreesWithRuns, IsComponent, IsTrueRun}
use Rattle.answered_runs.specs.SomeComponent.{HasComponent, WereRead}
use Rattle.answered_runs.proofs.CertainAnswers.{answers_many, answers_over, answers_take}
use Rattle.answered_runs.proofs.Compared.{Runs, hits_alike, runs_so, unresolved_unless}
use Rattle.answered_runs.proofs.Disagreeing.{answers_reached, cut_reached}
use Rattle.answered_runs.proofs.LineRuns.{AsksAt, cut_over, no_more}
use Rattle.answered_runs.proofs.ReadHits.{AreFew, HasFew, ToldFew, points_many}
use Rattle.answered_runs.proofs.Runs.{agree}
use Rattle.answered_runs.proofs.LinesRead.{AreSome, Reading, kept_hits, read_few, reading, some_hits}
use Rattle.answered_runs.proofs.LineWords.{own_said, said_by, said_so}

-- ---- what the component does

abbrev or_move : Option Move → Move → Move
or_move None m = m
or_move (Some m) later = m

abbrev first_move : (RunLine → Option Move) → List RunLine → Move
first_move say [] = Unknown
first_move say (x ∷ xs) = or_move (say x) (first_move say xs)

record FirstSaid (say : RunLine → Option Move) (runs : List RunLine) (m : Move) : Type 0 where
  pub line : RunLine
  pub has : Has runs line
  pub said : say line ≡ Some m

later_said : (say : RunLine → Option Move) (x : RunLine) (xs : List RunLine) (m : Move) → FirstSaid say xs m → FirstSaid say (x ∷ xs) m
later_said say x xs m f = record { line = f.line; has = inr f.has; said = f.said }

first_some : (say : RunLine → Option Move) (runs : List RunLine) (x : RunLine) (m : Move) → Has runs x → say x ≡ Some m → FirstSaid say runs (first_move say runs)
first_some say [] x m h e = absurd h
first_some say (y ∷ ys) x m h e = by_say (say y) refl h (λ k. first_some say ys x m k e)
  where
    by_say : (o : Option Move) → say y ≡ o → (y ≡ x) ⊎ Has ys x → (Has ys x → FirstSaid say ys (first_move say ys)) → FirstSaid say (y ∷ ys) (or_move o (first_move say ys))
    by_say (Some n) f k later = record { line = y; has = inl refl; said = f }
    by_say None f (inl same) later = absurd (let g = ap say same in cc)
    by_say None f (inr k) later = later_said say y ys (first_move say ys) (later k)

first_is : (say : RunLine → Option Move) (runs : List RunLine) → (first_move say runs ≡ Unknown) ⊎ FirstSaid say runs (first_move say runs)
first_is say [] = inl refl
first_is say (y ∷ ys) = by_say (say y) refl (first_is say ys)
  where
    by_say : (o : Option Move) → say y ≡ o → (first_move say ys ≡ Unknown) ⊎ FirstSaid say ys (first_move say ys)
        → (or_move o (first_move say ys) ≡ Unknown) ⊎ FirstSaid say (y ∷ ys) (or_move o (first_move say ys))
    by_say (Some n) f later = inr (record { line = y; has = inl refl; said = f })
    by_say None f (inl unknown) = inl unknown
    by_say None f (inr h) = inr (later_said say y ys (first_move say ys) h)

abbrev said_told : List (List ℕ) → Entries → List Reply → Option ToldRun → Option Move
said_told points s answers None = None
said_told points s answers (Some r) = said_by points s r.verdict answers (option_and_then hits_by r.hits)

abbrev say : Answered → List Reply → RunLine → Option Move
say a answers x = said_told a.points x.scenario answers (told_in a.book x.scenario)

abbrev asks_by : Answered → List RunLine → List Reply → Move
asks_by a runs answers = first_move (say a answers) runs

-- one of the lines says so
record IsSaid (a : Answered) (answers : List Reply) (m : Move) : Type 0 where
  pub scenario : Entries
  pub lawful : IsScenario scenario
  pub certain : IsCertain scenario
  pub run : ToldRun
  pub recorded : told_in a.book scenario ≡ Some run
  pub says : Says a.points (line_of scenario (told_of run)) (length answers) answers m

is_said : (a : Answered) (runs : List RunLine) (answers : List Reply) (m : Move) → AreLawful runs → FirstSaid (say a answers) runs m → IsSaid a answers m
is_said a runs answers m lawful f = by_told (told_in a.book f.line.scenario) refl f.said
  where
    by_told : (o : Option ToldRun) → told_in a.book f.line.scenario ≡ o → said_told a.points f.line.scenario answers o ≡ Some m → IsSaid a answers m
    by_told None e h = absurd cc
    by_told (Some r) e h =
        let so = said_so a.points f.line.scenario r.verdict answers (option_and_then hits_by r.hits) m h in
        record { scenario = f.line.scenario; lawful = lawful_has runs f.line lawful f.has; certain = so.0; run = r; recorded = e; says = so.1 }

if_at : {A : Type 0} (P : A → Type 0) (o : Option A) (x : A) → o ≡ Some x → IfSome o P → P x
if_at P o x e h = subst (λ y. IfSome y P) e h

-- it does what each line says
asks_so : (a : Answered) (r : Reading a) → AreOfOne a → (s : Entries) (run : ToldRun) (answers : List Reply) (m : Move) → IsScenario s → told_in a.book s ≡ Some run
    → said_by a.points s run.verdict answers (option_and_then hits_by run.hits) ≡ Some m → asks_by a r.runs answers ≡ m
asks_so a r one s run answers m lawful recorded said =
    let gave = r.gives s run lawful recorded in
    let own : say a answers gave.line ≡ Some m =
    ap (λ (x : Entries). said_told a.points x answers (told_in a.book x)) gave.scenario_is ∙ ap (said_told a.points s answers) recorded ∙ said
    in
    let first : IsSaid a answers (asks_by a r.runs answers) = is_said a r.runs answers (asks_by a r.runs answers) r.lawful (first_some (say a answers) r.runs gave.line m gave.has own) in
    let so = said_so a.points s run.verdict answers (option_and_then hits_by run.hits) m said in
    let same : SayTheSame a.points (line_of first.scenario (told_of first.run)) (line_of s (told_of run)) =
    if_at (λ (q : ToldRun). SayTheSame a.points (line_of first.scenario (told_of first.run)) (line_of s (told_of q))) (told_in a.book s) run recorded
    (if_at (λ (p : ToldRun). IfSome (told_in a.book s) (λ q. SayTheSame a.points (line_of first.scenario (told_of p)) (line_of s (told_of q)))) (told_in a.book first.scenario) first.run first.recorded
    (one.same first.scenario s first.lawful first.certain lawful so.0))
    in
    same (length answers) answers (asks_by a r.runs answers) m first.says so.1

-- ---- it asks only its points

all_at : (n : ℕ) (hits : List ℕ) (k p : ℕ) → AllByRecursion (λ q. q < n) hits → slice_get hits k ≡ Some p → p < n
all_at n [] k p all e = absurd cc
all_at n (x ∷ xs) k p all e = by_place k e (λ j f. all_at n xs j p all.1 f)
  where
    by_place : (j : ℕ) → slice_get (x ∷ xs) j ≡ Some p → ((i : ℕ) → slice_get xs i ≡ Some p → p < n) → p < n
    by_place zero f later = subst (λ y. y < n) (same_Some x p f) all.0
    by_place (suc i) f later = later i f

end_within : (n : ℕ) (v : Verdict) → AsksWithin n (end_by v)
end_within n verdict.Pass = tt
end_within n (verdict.Fail code) = tt
end_within n verdict.Unresolved = tt

said_within : (n : ℕ) (v : Verdict) (hits : List ℕ) (count : ℕ) → AllByRecursion (λ q. q < n) hits → AsksWithin n (move_said v (slice_get hits count))
said_within n v hits count all = by_next (slice_get hits count) refl
  where
    by_next : (o : Option ℕ) → slice_get hits count ≡ o → AsksWithin n (move_said v o)
    by_next (Some p) e = all_at n hits count p all e
    by_next None e = end_within n v

asks_within : (a : Answered) (w : WereRead a) (r : Reading a) (answers : List Reply) → AsksWithin (length a.points) (asks_by a r.runs answers)
asks_within a w r answers = by_first (first_is (say a answers) r.runs)
  where
    n : ℕ
    n = length a.points

    by_first : (asks_by a r.runs answers ≡ Unknown) ⊎ FirstSaid (say a answers) r.runs (asks_by a r.runs answers) → AsksWithin n (asks_by a r.runs answers)
    by_first (inl e) = subst (AsksWithin n) (sym e) tt
    by_first (inr f) =
        let said = is_said a r.runs answers (asks_by a r.runs answers) r.lawful f in
        let few : HasFew n said.run.hits = if_at (λ (q : ToldRun). HasFew n q.hits) (told_in a.book said.scenario) said.run said.recorded (read_few a w said.scenario) in
        let some : AreSome n said.says.hits = if_at (AreSome n) (option_and_then hits_by said.run.hits) said.says.hits said.says.known (some_hits n said.run.hits few) in
        subst (AsksWithin n) (sym said.says.move_is) (said_within n said.run.verdict said.says.hits (length answers) some.0)

-- ---- the run of a line with hits

abbrev Asked : (List Reply → Move) → List (List ℕ) → Entries → List ℕ → Type 0
Asked asks points s hits = (k p : ℕ) → slice_get hits k ≡ Some p → AsksAt asks points s (take k hits) p

ends_at_pause : (a : Answered) → AreOfOne a → (s : Entries) (run : ToldRun) (hits : List ℕ) → IsScenario s → IsCertain s → told_in a.book s ≡ Some run → (told_of run).hits ≡ Some hits
    → (count : ℕ) → count ≤ length hits → cut_over a.points s (take count hits) ≡ true → (count ≡ length hits) × (run.verdict ≡ verdict.Unresolved)
ends_at_pause a one s run hits lawful certain recorded known count within cut =
    let pause : EndsAtPause a.points (line_of s (told_of run)) =
    if_at (λ (r : ToldRun). EndsAtPause a.points (line_of s (told_of r))) (told_in a.book s) run recorded (one.alone s lawful certain)
    in
    if_at
    (λ (hs : List ℕ). (n : ℕ) → n ≤ length hs → is_cut_short (run_over a.points s (take n hs)) ≡ true → (n ≡ length hs) × (run.verdict ≡ verdict.Unresolved))
    (told_of run).hits hits known pause count within (cut_reached s a.points (take count hits) certain ∙ cut)

many_answers : (s : Entries) (points : List (List ℕ)) (hits : List ℕ) (count : ℕ) → count ≤ length hits → length (answers_over points s (take count hits)) ≡ count
many_answers s points hits count within = let many = answers_many s points (take count hits) in omega (arith, many, within, length-take count hits)

own_move : (a : Answered) (r : Reading a) → AreOfOne a → (s : Entries) (run : ToldRun) (hits : List ℕ) → IsScenario s → IsCertain s → told_in a.book s ≡ Some run → (told_of run).hits ≡ Some hits
    → (count : ℕ) → count ≤ length hits → cut_over a.points s (take count hits) ≡ false → asks_by a r.runs (answers_over a.points s (take count hits)) ≡ move_said run.verdict (slice_get hits count)
own_move a r one s run hits lawful certain recorded known count within uncut =
    let answers : List Reply = answers_over a.points s (take count hits) in
    asks_so a r one s run answers (move_said run.verdict (slice_get hits count)) lawful recorded
    (ap (said_by a.points s run.verdict answers) known ∙ own_said a.points s run.verdict hits answers count certain (many_answers s a.points hits count within) within refl uncut)

line_asked : (a : Answered) (r : Reading a) → AreOfOne a → (s : Entries) (run : ToldRun) (hits : List ℕ) → IsScenario s → IsCertain s → told_in a.book s ≡ Some run → (told_of run).hits ≡ Some hits
    → Asked (asks_by a r.runs) a.points s hits
line_asked a r one s run hits lawful certain recorded known k p e =
    (uncut, own_move a r one s run hits lawful certain recorded known k (omega (arith, less)) uncut ∙ ap (move_said run.verdict) e)
  where
    less : k < length hits
    less = slice_get_within hits k p e

    by_cut : (b : Bool) → cut_over a.points s (take k hits) ≡ b → b ≡ false
    by_cut true f = absurd (let last = (ends_at_pause a one s run hits lawful certain recorded known k (omega (arith, less)) f).0 in omega (arith, less, last))
    by_cut false f = refl

    uncut : cut_over a.points s (take k hits) ≡ false
    uncut = by_cut (cut_over a.points s (take k hits)) refl

line_runs : (a : Answered) (r : Reading a) → AreOfOne a → (s : Entries) (run : ToldRun) (hits : List ℕ) → IsScenario s → IsCertain s → told_in a.book s ≡ Some run → (told_of run).hits ≡ Some hits
    → length hits ≤ most_hits → Runs (asks_by a r.runs) a.points most_hits s hits run.verdict
line_runs a r one s run hits lawful certain recorded known few =
    runs_so (asks_by a r.runs) a.points most_hits s hits run.verdict certain few (line_asked a r one s run hits lawful certain recorded known)
    (λ cut. (ends_at_pause a one s run hits lawful certain recorded known (length hits) (omega arith) (ap (cut_over a.points s) whole ∙ cut)).1)
    (λ uncut. ap (λ (l : List ℕ). asks_by a r.runs (answers_over a.points s l)) (sym whole)
    ∙ own_move a r one s run hits lawful certain recorded known (length hits) (omega arith) (ap (cut_over a.points s) whole ∙ uncut)
    ∙ ap (move_said run.verdict) (slice_get_past hits (length hits) (omega arith)))
  where
    whole : take (length hits) hits ≡ hits
    whole = take_all (length hits) hits (omega arith)

-- ---- the run of a line without hits

unknown_done : (j : Judgement) → Unknown ≡ Done j → ⊥
unknown_done j e = cc

resolved_end : (v : Verdict) (j : Judgement) → end_by v ≡ Done j → v ≡ verdict.Unresolved → ⊥
resolved_end verdict.Pass j e f = cc
resolved_end (verdict.Fail code) j e f = cc
resolved_end verdict.Unresolved j e f = cc

-- what is said of an end is the verdict of a line of which these are all hits
all_said : (v : Verdict) (hits : List ℕ) (count : ℕ) (j : Judgement) → Done j ≡ move_said v (slice_get hits count) → (length hits ≤ count) × (end_by v ≡ Done j)
all_said v hits count j e = by_next (slice_get hits count) refl e
  where
    by_next : (o : Option ℕ) → slice_get hits count ≡ o → Done j ≡ move_said v o → (length hits ≤ count) × (end_by v ≡ Done j)
    by_next (Some p) f g = absurd cc
    by_next None f g = (no_more hits count f, sym g)

-- if a run comes to a recorded end, its scenario has the run of the line that records it
has_run : (a : Answered) (r : Reading a) → AreOfOne a → (s : Entries) (hits : List ℕ) (j : Judgement) → IsCertain s → Asked (asks_by a r.runs) a.points s hits → cut_over a.points s hits ≡ false
    → (said : IsSaid a (answers_over a.points s hits) (Done j)) → HasItsRun a.points s (line_of said.scenario (told_of said.run))
has_run a r one s hits j certain asked uncut said = record {
  hits = others;
  known = said.says.known;
  alike = λ count within.
      answers_reached s a.points (take count others) certain ∙ first count ∙ sym (answers_reached said.scenario a.points (take count others) said.certain);
  goes_on = λ count within. cut_reached s a.points (take count others) certain ∙ ap (λ (l : List ℕ). cut_over a.points s (take count l)) (sym same) ∙ goes count;
  resolved = resolved_end said.run.verdict j end.1;
}
  where
    others : List ℕ
    others = said.says.hits

    end : (length others ≤ length (answers_over a.points s hits)) × (end_by said.run.verdict ≡ Done j)
    end = all_said said.run.verdict others (length (answers_over a.points s hits)) j said.says.move_is

    whole : take (length (answers_over a.points s hits)) others ≡ others
    whole = take_all (length (answers_over a.points s hits)) others end.0

    reached : answers_over a.points s hits ≡ answers_over a.points said.scenario others
    reached =
        sym said.says.reached ∙ answers_reached said.scenario a.points (take (length (answers_over a.points s hits)) others) said.certain ∙ ap (answers_over a.points said.scenario) whole

    same : hits ≡ others
    same =
        hits_alike (asks_by a r.runs) a.points s said.scenario hits others certain said.certain asked
        (line_asked a r one said.scenario said.run others said.lawful said.certain said.recorded said.says.known) reached

    first : (count : ℕ) → answers_over a.points s (take count others) ≡ answers_over a.points said.scenario (take count others)
    first count =
        ap (λ (l : List ℕ). answers_over a.points s (take count l)) (sym same) ∙ answers_take s a.points hits count certain ∙ ap (take count) reached
        ∙ sym (answers_take said.scenario a.points others count said.certain)

    goes : (count : ℕ) → cut_over a.points s (take count hits) ≡ false
    goes count = elim (cases_lt count (length hits)) [
      | inl less ↦ (asked count (get_or hits count 0) (slice_get-get_or hits count 0 less)).0
      | inr all ↦ ap (cut_over a.points s) (take_all count hits all) ∙ uncut
    ]

unseen_runs : (a : Answered) (r : Reading a) → AreOfOne a → (s : Entries) (run : ToldRun) → IsScenario s → IsCertain s → told_in a.book s ≡ Some run → (told_of run).hits ≡ None → run.verdict ≡ verdict.Unresolved
    → (hits : List ℕ) (j : Judgement) → Asked (asks_by a r.runs) a.points s hits → cut_over a.points s hits ≡ false → asks_by a r.runs (answers_over a.points s hits) ≡ Done j → ⊥
unseen_runs a r one s run lawful certain recorded unseen unresolved hits j asked uncut e = by_first (first_is (say a answers) r.runs)
  where
    answers : List Reply
    answers = answers_over a.points s hits

    by_said : IsSaid a answers (Done j) → ⊥
    by_said said =
        let has : HasItsRun a.points s (line_of said.scenario (told_of said.run)) = has_run a r one s hits j certain asked uncut said in
        let keeps : KeepsVerdict a.points (line_of s (told_of run)) (line_of said.scenario (told_of said.run)) =
        if_at (λ (q : ToldRun). KeepsVerdict a.points (line_of s (told_of run)) (line_of said.scenario (told_of q))) (told_in a.book said.scenario) said.run said.recorded
        (if_at (λ (p : ToldRun). IfSome (told_in a.book said.scenario) (λ q. KeepsVerdict a.points (line_of s (told_of p)) (line_of said.scenario (told_of q)))) (told_in a.book s) run recorded
        (one.unseen s said.scenario lawful certain said.lawful said.certain))
        in
        has.resolved (sym (keeps unseen has) ∙ unresolved)

    by_first : (asks_by a r.runs answers ≡ Unknown) ⊎ FirstSaid (say a answers) r.runs (asks_by a r.runs answers) → ⊥
    by_first (inl f) = absurd (unknown_done j (sym f ∙ e))
    by_first (inr f) = by_said (is_said a r.runs answers (Done j) r.lawful (subst (FirstSaid (say a answers) r.runs) e f))

-- ---- the component

component_of : (a : Answered) → List RunLine → Subject
component_of a runs = record { asks = asks_by a runs; names = a.points; limit = most_hits; kinds = kinds_over a.points a.listed }

is_component : (a : Answered) (w : WereRead a) (r : Reading a) → IsComponent a.points a.listed (component_of a r.runs)
unfolding component_of
is_component a w r = record { lawful = lawful; names = refl; kinds = refl; few = omega arith }
  where
    tried : (point : ℕ) → CanBeTried (kinds_over a.points a.listed point)
    tried = listed_can a.points a.listed (all_weaker CanBeListed CanBeTried (λ kinds can. can.tried) a.listed w.listed)

    lawful : IsLawful (component_of a r.runs)
    lawful = record {
      catalogue = w.points;
      within = asks_within a w r;
      once = λ point. (tried point).once;
      apart = λ point. (tried point).apart;
      texts = λ point. (tried point).texts;
    }

is_true : (a : Answered) (w : WereRead a) (r : Reading a) → AreOfOne a → (s : Entries) → IsScenario s → IsCertain s → IfSome (told_in a.book s) (IsTrueRun (component_of a r.runs) s)
unfolding component_of
is_true a w r one s lawful certain = by_told (told_in a.book s) refl (read_few a w s)
  where
    with_hits : (run : ToldRun) → told_in a.book s ≡ Some run → (hits : List Stretch) → run.hits ≡ Some hits → AreFew (length a.points) hits → Runs (asks_by a r.runs) a.points most_hits s (points_of hits) run.verdict
    with_hits run recorded hits e few =
        line_runs a r one s run (points_of hits) lawful certain recorded (ap (option_and_then hits_by) e ∙ kept_hits (length a.points) hits w.points.few few)
        (let many = points_many hits in let less = few.count in omega (arith, many, less))

    by_hits : (run : ToldRun) → told_in a.book s ≡ Some run → (o : Option (List Stretch)) → run.hits ≡ o → HasFew (length a.points) o → IsTrueRun (component_of a r.runs) s run
    by_hits run recorded None e few =
        let unresolved : run.verdict ≡ verdict.Unresolved = (r.gives s run lawful recorded).unseen e in
        record {
          verdict = λ seed stream.
              unresolved_unless (asks_by a r.runs) a.points most_hits s certain
              (unseen_runs a r one s run lawful certain recorded (ap (option_and_then hits_by) e) unresolved) seed stream ∙ sym unresolved;
          hits = λ seed stream. subst (λ (o : Option (List Stretch)). IfSome o (λ hits. (outcome (asks_by a r.runs) (given_of s a.points seed stream most_hits)).asked ≡ points_of hits)) (sym e) tt;
        }
    by_hits run recorded (Some hits) e few =
        let runs = with_hits run recorded hits e few in
        record {
          verdict = runs.verdict;
          hits = λ seed stream.
              subst (λ (o : Option (List Stretch)). IfSome o (λ hits. (outcome (asks_by a r.runs) (given_of s a.points seed stream most_hits)).asked ≡ points_of hits)) (sym e) (runs.asked seed stream);
        }

    by_told : (o : Option ToldRun) → told_in a.book s ≡ o → ToldFew (length a.points) o → IfSome o (IsTrueRun (component_of a r.runs) s)
    by_told None e few = tt
    by_told (Some run) e few = by_hits run e run.hits refl few

-- ---- the whole

-- What the lines say, put together, is a component that agrees with them.
pub agreeing : (a : Answered) (depth : ℕ) → depth ≤ 64 → WereRead a → AreOfOne a → HasComponent a depth
agreeing a depth low w one =
    let r : Reading a = reading a w in
    let is : IsComponent a.points a.listed (component_of a r.runs) = is_component a w r in
    let agrees : AgreesWithRuns (component_of a r.runs) (told_in a.book) = is_true a w r one in
    record { component = component_of a r.runs; is = is; agrees = agrees; plans = agree (component_of a r.runs) a.points a.listed (told_in a.book) depth is low agrees }
