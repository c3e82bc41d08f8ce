-- Components that agree with a text of answers.
use Rattle.std.proofs.Common.{◌≡◌, ℕ, ◌+◌, List, [], ◌∷◌, ◌++◌, Bool, true, false, eqb, ltb, cond, length, Option, Some, None, Result, Ok, Err, refl, ap, sym, ◌∙◌, subst, inl, inr}
use Rattle.std.specs.Prelude.{option_map, unwrap_or, codes, position}
use Rattle.std.specs.List.{AllByRecursion, slice_split}
use Rattle.std.specs.Str.{is_utf8, bytes_eq}
use Rattle.scenario_values.specs.Printed.{printed}
use Rattle.scenario_values.specs.Scenario.{Entries, IsScenario}
use Rattle.scenario_grammar.specs.FirstFault.{◌>>=◌, Fault, reading}
use Rattle.scenario_grammar.specs.Words.{cut}
use Rattle.target_trait.specs.declared.judgement.Verdict.{Verdict}
use Rattle.target_trait.specs.declared.judgement.Verdict.TheVariants as verdict
use Rattle.answer_text.specs.declared.fault.LineFault.{LineFault}
use Rattle.answer_text.specs.declared.fault.LineFault.TheVariants.{NotUtf8, NoTab, UnknownVerdict, ControlByte, UnknownPoint, BadCount, NotJoined, Contradicts}
use Rattle.answer_text.specs.declared.fault.AnswersFault.{AnswersFault}
use Rattle.answer_text.specs.declared.fault.AnswersFault.TheVariants as faults
use Rattle.answer_text.specs.declared.hits.Stretch.{Stretch}
use Rattle.answer_text.specs.declared.runs.RunLine.{RunLine}
use Rattle.answer_text.specs.declared.runs.ToldRun.{ToldRun}
use Rattle.answer_text.specs.Answers.{SpellsRuns, Says, most_bytes}
use Rattle.answer_text.specs.FirstFault.{answer_in, before_tab, failed_by, failure_in, has_control, of_scenario, or_fault, parts_in, scenario_in, verdict_in}
use Rattle.answer_text.specs.Hits.{count_of, counted_in, count_in, ends_with, field_by, field_in, hits_in, item_by, item_in, items_from, known_hits, most_hits, name_of, with_item}
use Rattle.answer_text.specs.Known.{Agrees, AgreesWithLine, AgreesWithText, Ran, TellsLine, TellsText, known_by}
use Rattle.answer_text.specs.Runs.{answers_of, first_told, is_repeated, known_of, on_line, pieces_from, reading_of, run_in, with_line, with_run}
use Rattle.answer_text.proofs.Members.{Has, told_gives, told_has, same_printed, AreLawful, lawful_has, lawful_push, told_is, has_either, is_repeated_of, IsOf}
use Rattle.answer_text.proofs.AnswerLaws.{line_gives, line_read}
use Rattle.answer_text.proofs.TextLaws.{Read, text_gives, text_read, with_line_gives}

-- ---- a component that agrees with a text agrees with what is known by it

agrees_each : (names points : List (List ℕ)) (verdict_of : Entries → Verdict) (lines : List (List ℕ)) (runs : List RunLine) (more : List (List ℕ)) → SpellsRuns false names points lines runs
    → AllByRecursion (AgreesWithLine names points verdict_of) (lines ++ more) → (r : RunLine) → Has runs r → verdict_of r.scenario ≡ r.verdict
agrees_each names points verdict_of [] [] more spelled agrees r has = absurd has
agrees_each names points verdict_of [] (b ∷ runs) more spelled agrees r has = absurd spelled
agrees_each names points verdict_of (line ∷ lines) [] more spelled agrees r has = absurd spelled
agrees_each names points verdict_of (line ∷ lines) (b ∷ runs) more spelled agrees r (inl e) =
    let P : RunLine → Type 0 = λ x. verdict_of x.scenario ≡ x.verdict in subst P e (agrees.0 b spelled.0)
agrees_each names points verdict_of (line ∷ lines) (b ∷ runs) more spelled agrees r (inr has) = agrees_each names points verdict_of lines runs more spelled.1 agrees.1 r has

some_is : (v w : Verdict) → Some v ≡ Some w → v ≡ w
some_is v w e = cc

pub agrees_by : (names points : List (List ℕ)) (text : List ℕ) (verdict_of : Entries → Verdict) → AgreesWithText names points text verdict_of → Agrees verdict_of (known_by names points text)
agrees_by names points text verdict_of agrees s v ok = by_reading (reading_of false names points text) refl
  where
    by_told : (runs : List RunLine) → Read false names points text runs → (o : Option ToldRun) → first_told 1 runs (printed s) ≡ o → option_map (λ told. told.verdict) o ≡ Some v → verdict_of s ≡ v
    by_told runs r None e h = absurd cc
    by_told runs r (Some told) e h =
        let g = told_gives 1 runs (printed s) told e in
        let same : s ≡ g.run.scenario = same_printed s g.run.scenario ok (lawful_has runs g.run r.lawful g.has) g.key_is in
        let P : List (List ℕ) → Type 0 = λ ls. AllByRecursion (AgreesWithLine names points verdict_of) ls in
        ap verdict_of same ∙ agrees_each names points verdict_of r.says.lines runs ([] ∷ []) r.says.spelled (subst P r.says.parts agrees) g.run g.has ∙ sym g.told_is.verdict_is ∙ some_is told.verdict v h

    by_reading : (r : Result (List RunLine) AnswersFault) → reading_of false names points text ≡ r → option_map (λ told. told.verdict) (known_of r s) ≡ Some v → verdict_of s ≡ v
    by_reading (Ok runs) e h = by_told runs (text_gives false names points text runs e) (first_told 1 runs (printed s)) refl h
    by_reading (Err fault) e h = absurd cc

-- ---- a component that tells a text

agrees_lines : (names points : List (List ℕ)) (ran_of : Entries → Ran) (lines : List (List ℕ)) → AllByRecursion (TellsLine names points ran_of) lines → AllByRecursion (AgreesWithLine names points (λ s. (ran_of s).0)) lines
agrees_lines names points ran_of [] h = tt
agrees_lines names points ran_of (line ∷ lines) h = (λ r spelled. ap (λ (x : Ran). x.0) (h.0 r spelled), agrees_lines names points ran_of lines h.1)

pub tells_agrees : (names points : List (List ℕ)) (text : List ℕ) (ran_of : Entries → Ran) → TellsText names points text ran_of → AgreesWithText names points text (λ s. (ran_of s).0)
tells_agrees names points text ran_of h = agrees_lines names points ran_of (slice_split (λ b. eqb b 10) text) h

abbrev by_runs : List RunLine → Entries → Ran
by_runs runs s = unwrap_or (option_map (λ told. (told.verdict, told.hits)) (first_told 1 runs (printed s))) (verdict.Unresolved, None)

abbrev read_as : RunLine → Result RunLine LineFault
read_as r = Ok r

run_is : (x y : RunLine) → read_as x ≡ read_as y → x ≡ y
run_is x y e = cc

empty_spells : (word text : List ℕ) → [] ≡ word ++ (9 ∷ text) → ⊥
empty_spells [] text e = cc
empty_spells (b ∷ word) text e = cc

tell_lines : (names points : List (List ℕ)) (ran_of : Entries → Ran) (lines : List (List ℕ)) (runs : List RunLine) → SpellsRuns false names points lines runs → ((r : RunLine) → Has runs r → ran_of r.scenario ≡ (r.verdict, r.hits))
    → AllByRecursion (TellsLine names points ran_of) (lines ++ [] ∷ [])
tell_lines names points ran_of [] [] spelled own = (λ r h. absurd (empty_spells h.word _ h.parts), tt)
tell_lines names points ran_of [] (b ∷ runs) spelled own = absurd spelled
tell_lines names points ran_of (line ∷ lines) [] spelled own = absurd spelled
tell_lines names points ran_of (line ∷ lines) (b ∷ runs) spelled own = (
  λ r h. let same : b ≡ r = run_is b r (sym (line_read false names points line b spelled.0) ∙ line_read false names points line r h) in
      let P : RunLine → Type 0 = λ x. ran_of x.scenario ≡ (x.verdict, x.hits) in subst P same (own b (inl refl)),
  tell_lines names points ran_of lines runs spelled.1 (λ r has. own r (inr has)),
)

abbrev ran_of_told : ToldRun → Ran
ran_of_told told = (told.verdict, told.hits)

ran_is : (told : ToldRun) (r : RunLine) → IsOf told r → ran_of_told told ≡ (r.verdict, r.hits)
ran_is told r h = cc (h.verdict_is, h.hits_are)

pub some_tells : (names points : List (List ℕ)) (text : List ℕ) (runs : List RunLine) → Says false names points text runs → (ran_of : Entries → Ran) × TellsText names points text ran_of
some_tells names points text runs says =
    let r = text_gives false names points text runs (text_read false names points text runs says) in
    let own : (a : RunLine) → Has runs a → by_runs runs a.scenario ≡ (a.verdict, a.hits) = λ a has.
    let t = told_has 1 runs a has in
    let is = told_is runs 1 a t.0 r.lawful r.one (lawful_has runs a r.lawful has) has t.1 in
    ap (λ (o : Option ToldRun). unwrap_or (option_map (λ told. (told.verdict, told.hits)) o) (verdict.Unresolved, None)) t.1 ∙ ran_is t.0 a is in
    let P : List (List ℕ) → Type 0 = λ ls. AllByRecursion (TellsLine names points (by_runs runs)) ls in
    (by_runs runs, subst P (sym says.parts) (tell_lines names points (by_runs runs) says.lines runs says.spelled own))

pub some_agrees : (names points : List (List ℕ)) (text : List ℕ) (runs : List RunLine) → Says false names points text runs → (verdict_of : Entries → Verdict) × AgreesWithText names points text verdict_of
some_agrees names points text runs says = let t = some_tells names points text runs says in (λ s. (t.0 s).0, tells_agrees names points text t.0 t.1)

-- ---- a text that contradicts itself is told by none

-- what a line says on its own is never that it contradicts another
parts_never : (line : List ℕ) (m : ℕ) → parts_in line ≡ Err (Contradicts m) → ⊥
unfolding parts_in
parts_never line m = by_test (is_utf8 line) (cut 9 line)
  where
    by_test : (t : Bool) (o : Option (List ℕ × List ℕ)) → cond t (or_fault NoTab o) (Err NotUtf8) ≡ Err (Contradicts m) → ⊥
    by_test true None h = absurd cc
    by_test true (Some p) h = absurd cc
    by_test false o h = absurd cc

failed_never : (name : List ℕ) (o : Option ℕ) (m : ℕ) → failed_by name o ≡ Err (Contradicts m) → ⊥
failed_never name None m h = absurd cc
failed_never name (Some code) m h = absurd cc

failure_never : (names : List (List ℕ)) (word : List ℕ) (o : Option (List ℕ × List ℕ)) (m : ℕ) → failure_in names word o ≡ Err (Contradicts m) → ⊥
failure_never names word None m h = absurd cc
failure_never names word (Some parts) m h = by_test (bytes_eq parts.0 (codes "fail")) h
  where
    by_test : (t : Bool) → cond t (failed_by parts.1 (position (bytes_eq parts.1) names)) (Err (UnknownVerdict word)) ≡ Err (Contradicts m) → ⊥
    by_test true k = failed_never parts.1 (position (bytes_eq parts.1) names) m k
    by_test false k = absurd cc

verdict_never : (names : List (List ℕ)) (word : List ℕ) (m : ℕ) → verdict_in names word ≡ Err (Contradicts m) → ⊥
unfolding verdict_in
verdict_never names word m = by_tests (bytes_eq word (codes "pass")) (bytes_eq word (codes "unresolved"))
  where
    by_tests : (t u : Bool) → cond t (Ok verdict.Pass) (cond u (Ok verdict.Unresolved) (failure_in names word (cut 32 word))) ≡ Err (Contradicts m) → ⊥
    by_tests true u k = absurd cc
    by_tests false true k = absurd cc
    by_tests false false k = failure_never names word (cut 32 word) m k

scenario_never : (text : List ℕ) (m : ℕ) → scenario_in text ≡ Err (Contradicts m) → ⊥
unfolding scenario_in
scenario_never text m = by_tests (bytes_eq text (codes "none")) (has_control text) (reading text)
  where
    by_tests : (t u : Bool) (r : Result Entries Fault) → cond t (Ok []) (cond u (Err ControlByte) (of_scenario r)) ≡ Err (Contradicts m) → ⊥
    by_tests true u r k = absurd cc
    by_tests false true r k = absurd cc
    by_tests false false (Ok s) k = absurd cc
    by_tests false false (Err f) k = absurd cc

bind_never : {A B : Type 0} (r : Result A LineFault) (next : A → Result B LineFault) (f : LineFault) → (r ≡ Err f → ⊥) → ((x : A) → next x ≡ Err f → ⊥) → (r >>= next) ≡ Err f → ⊥
bind_never (Ok x) next f h k e = k x e
bind_never (Err g) next f h k e = h (cc)

abbrev good : {A : Type 0} → A → Result A LineFault
good x = Ok x

ok_never : {A : Type 0} (x : A) (f : LineFault) → good x ≡ Err f → ⊥
ok_never x f h = cc

answer_never : (names : List (List ℕ)) (line : List ℕ) (m : ℕ) → answer_in names line ≡ Err (Contradicts m) → ⊥
unfolding answer_in
answer_never names line m =
    bind_never (parts_in line) _ (Contradicts m) (parts_never line m)
    (λ parts. bind_never (verdict_in names parts.0) _ (Contradicts m) (verdict_never names parts.0 m)
    (λ v. bind_never (scenario_in (before_tab parts.1 (cut 9 parts.1))) _ (Contradicts m) (scenario_never (before_tab parts.1 (cut 9 parts.1)) m)
    (λ s h. ok_never _ (Contradicts m) h)))

or_never : {A : Type 0} (o : Option A) (f g : LineFault) → (f ≡ g → ⊥) → or_fault f o ≡ Err g → ⊥
or_never None f g n h = n (cc)
or_never (Some x) f g n h = cc

item_never : (points : List (List ℕ)) (item : List ℕ) (m : ℕ) → item_in points item ≡ Err (Contradicts m) → ⊥
unfolding item_in
item_never points item m = by_place (position (bytes_eq item) points)
  where
    counted : (o : Option (List ℕ × List ℕ)) → counted_in points item o ≡ Err (Contradicts m) → ⊥
    counted None h = cc
    counted (Some parts) h =
        bind_never (or_fault BadCount (count_in parts.0)) _ (Contradicts m) (or_never (count_in parts.0) BadCount (Contradicts m) (λ e. cc))
        (λ count. bind_never (or_fault (UnknownPoint parts.1) (position (bytes_eq parts.1) points)) _ (Contradicts m)
        (or_never (position (bytes_eq parts.1) points) (UnknownPoint parts.1) (Contradicts m) (λ e. cc)) (λ point k. ok_never _ (Contradicts m) k)) h

    by_place : (o : Option ℕ) → item_by points item o ≡ Err (Contradicts m) → ⊥
    by_place None h = counted (cut 42 item) h
    by_place (Some point) h = cc

with_item_never : (points : List (List ℕ)) (before : List Stretch) (s : Stretch) (m : ℕ) → with_item points before s ≡ Err (Contradicts m) → ⊥
unfolding with_item
with_item_never points before s m = by_tests (ends_with before s.point) (ltb most_hits (count_of before + s.count))
  where
    by_tests : (t u : Bool) → cond t (Err (NotJoined (name_of points s.point))) (cond u (Err BadCount) (Ok (before ++ s ∷ []))) ≡ Err (Contradicts m) → ⊥
    by_tests true u h = cc
    by_tests false true h = cc
    by_tests false false h = cc

items_never : (points : List (List ℕ)) (before : List Stretch) (items : List (List ℕ)) (m : ℕ) → items_from points before items ≡ Err (Contradicts m) → ⊥
unfolding items_from
items_never points before [] m h = cc
items_never points before (item ∷ items) m h =
    bind_never (item_in points item) _ (Contradicts m) (item_never points item m)
    (λ s. bind_never (with_item points before s) _ (Contradicts m) (with_item_never points before s m) (λ after. items_never points after items m)) h

hits_never : (points : List (List ℕ)) (text : List ℕ) (m : ℕ) → hits_in points text ≡ Err (Contradicts m) → ⊥
hits_never points [] m h = cc
hits_never points (b ∷ bs) m h = items_never points [] (slice_split (λ b. eqb b 59) (b ∷ bs)) m h

known_never : (r : Result (List Stretch) LineFault) (m : ℕ) → (r ≡ Err (Contradicts m) → ⊥) → known_hits r ≡ Err (Contradicts m) → ⊥
known_never (Ok hits) m n h = cc
known_never (Err f) m n h = n (cc)

field_never : (points : List (List ℕ)) (v : Verdict) (text : List ℕ) (m : ℕ) → field_by points v text ≡ Err (Contradicts m) → ⊥
field_never points verdict.Pass text m h = known_never (hits_in points text) m (hits_never points text m) h
field_never points (verdict.Fail code) text m h = known_never (hits_in points text) m (hits_never points text m) h
field_never points verdict.Unresolved text m h = by_test (bytes_eq text (codes "-")) h
  where
    by_test : (t : Bool) → cond t (Ok None) (known_hits (hits_in points text)) ≡ Err (Contradicts m) → ⊥
    by_test true k = cc
    by_test false k = known_never (hits_in points text) m (hits_never points text m) k

option_never : (needed : Bool) (points : List (List ℕ)) (v : Verdict) (o : Option (List ℕ)) (m : ℕ) → field_in needed points v o ≡ Err (Contradicts m) → ⊥
option_never true points v None m h = cc
option_never false points v None m h = cc
option_never needed points v (Some text) m h = field_never points v text m h

line_never : (needed : Bool) (names points : List (List ℕ)) (line : List ℕ) (m : ℕ) → run_in needed names points line ≡ Err (Contradicts m) → ⊥
unfolding run_in
line_never needed names points line m =
    bind_never (answer_in names line) _ (Contradicts m) (answer_never names line m)
    (λ a. bind_never (field_in needed points a.0.1 a.1) _ (Contradicts m) (option_never needed points a.0.1 a.1 m) (λ hits h. ok_never _ (Contradicts m) h))

-- the component tells each of these lines
abbrev TellsAll : (Entries → Ran) → List RunLine → Type 0
TellsAll ran_of runs = (r : RunLine) → Has runs r → ran_of r.scenario ≡ (r.verdict, r.hits)

abbrev ran_of_line : RunLine → Ran
ran_of_line r = (r.verdict, r.hits)

alike : (told : ToldRun) (g r : RunLine) → IsOf told g → ran_of_line g ≡ ran_of_line r → IsOf told r
alike told g r h e = record { verdict_is = h.verdict_is ∙ ap (λ (x : Ran). x.0) e; hits_are = h.hits_are ∙ ap (λ (x : Ran). x.1) e }

with_never : (ran_of : Entries → Ran) (before : List RunLine) (a : RunLine) (m : ℕ) → TellsAll ran_of before → AreLawful before → IsScenario a.scenario → ran_of a.scenario ≡ (a.verdict, a.hits)
    → with_run before a (first_told 1 before (printed a.scenario)) ≡ Err (Contradicts m) → ⊥
with_never ran_of before a m own lawful ok mine = by_told (first_told 1 before (printed a.scenario)) refl
  where
    by_told : (o : Option ToldRun) → first_told 1 before (printed a.scenario) ≡ o → with_run before a o ≡ Err (Contradicts m) → ⊥
    by_told None e h = absurd cc
    by_told (Some told) e h =
        let g = told_gives 1 before (printed a.scenario) told e in
        let same : a.scenario ≡ g.run.scenario = same_printed a.scenario g.run.scenario ok (lawful_has before g.run lawful g.has) g.key_is in
        let one : ran_of_line g.run ≡ ran_of_line a = sym (own g.run g.has) ∙ ap ran_of (sym same) ∙ mine in
        by_test (is_repeated told a) (is_repeated_of told a (alike told g.run a g.told_is one)) h
      where
        by_test : (t : Bool) → t ≡ true → cond t (Ok (before ++ a ∷ [])) (Err (Contradicts told.line)) ≡ Err (Contradicts m) → ⊥
        by_test true e h = absurd cc
        by_test false e h = absurd cc

on_line_bad : {A : Type 0} (k : ℕ) (r : Result A LineFault) (n m : ℕ) → on_line k r ≡ Err (faults.Line n (Contradicts m)) → r ≡ Err (Contradicts m)
on_line_bad k (Ok x) n m h = absurd cc
on_line_bad k (Err f) n m h = cc

with_line_never : (names points : List (List ℕ)) (ran_of : Entries → Ran) (before : List RunLine) (line : List ℕ) (n m : ℕ) → TellsAll ran_of before → AreLawful before → TellsLine names points ran_of line
    → with_line false names points before line ≡ Err (faults.Line n (Contradicts m)) → ⊥
unfolding with_line
with_line_never names points ran_of before line n m own lawful tells h = by_run (run_in false names points line) refl (on_line_bad (length before + 1) _ n m h)
  where
    by_run : (r : Result RunLine LineFault) → run_in false names points line ≡ r → (r >>= λ run. with_run before run (first_told 1 before (printed run.scenario))) ≡ Err (Contradicts m) → ⊥
    by_run (Ok a) e k =
        let g = line_gives false names points line a e in
        with_never ran_of before a m own lawful g.lawful (tells a g.spelled) k
    by_run (Err f) e k = line_never false names points line m (e ∙ (cc))

tells_push : (ran_of : Entries → Ran) (before : List RunLine) (a : RunLine) → TellsAll ran_of before → ran_of a.scenario ≡ (a.verdict, a.hits) → TellsAll ran_of (before ++ a ∷ [])
tells_push ran_of before a own mine b has = elim (has_either before (a ∷ []) b has) [
  | inl h ↦ own b h
  | inr h ↦ last h
]
  where
    last : Has (a ∷ []) b → ran_of b.scenario ≡ (b.verdict, b.hits)
    last (inl e) = let P : RunLine → Type 0 = λ x. ran_of x.scenario ≡ (x.verdict, x.hits) in subst P e mine
    last (inr h) = absurd h

pieces_never : (names points : List (List ℕ)) (ran_of : Entries → Ran) (before : List RunLine) (pieces : List (List ℕ)) (n m : ℕ) → TellsAll ran_of before → AreLawful before → AllByRecursion (TellsLine names points ran_of) pieces
    → pieces_from false names points before pieces ≡ Err (faults.Line n (Contradicts m)) → ⊥
unfolding pieces_from
pieces_never names points ran_of before [] n m own lawful tells h = absurd cc
pieces_never names points ran_of before ([] ∷ []) n m own lawful tells h = absurd cc
pieces_never names points ran_of before ((b ∷ bs) ∷ []) n m own lawful tells h = absurd cc
pieces_never names points ran_of before (line ∷ next ∷ more) n m own lawful tells h =
    by_line (λ after own' lawful' k. pieces_never names points ran_of after (next ∷ more) n m own' lawful' tells.1 k) (with_line false names points before line) refl h
  where
    by_line : ((after : List RunLine) → TellsAll ran_of after → AreLawful after → pieces_from false names points after (next ∷ more) ≡ Err (faults.Line n (Contradicts m)) → ⊥)
        → (r : Result (List RunLine) AnswersFault) → with_line false names points before line ≡ r → (r >>= λ after. pieces_from false names points after (next ∷ more)) ≡ Err (faults.Line n (Contradicts m)) → ⊥
    by_line later (Ok after) e k =
        let w = with_line_gives false names points before line after e in
        let own' : TellsAll ran_of after = subst (TellsAll ran_of) (sym w.after_is) (tells_push ran_of before w.run own (tells.0 w.run w.read.spelled)) in
        let lawful' : AreLawful after = subst AreLawful (sym w.after_is) (lawful_push before w.run lawful w.read.lawful) in
        later after own' lawful' k
    by_line later (Err f) e k = with_line_never names points ran_of before line n m own lawful tells.0 (e ∙ (cc))

pub none_tells : (names points : List (List ℕ)) (text : List ℕ) (n m : ℕ) → answers_of names points text ≡ Err (faults.Line n (Contradicts m)) → (ran_of : Entries → Ran) → TellsText names points text ran_of → ⊥
unfolding reading_of
none_tells names points text n m h ran_of tells = by_test (ltb most_bytes (length text)) h
  where
    by_test : (t : Bool) → cond t (Err faults.TooLong) (pieces_from false names points [] (slice_split (λ b. eqb b 10) text)) ≡ Err (faults.Line n (Contradicts m)) → ⊥
    by_test true k = absurd cc
    by_test false k = pieces_never names points ran_of [] (slice_split (λ b. eqb b 10) text) n m (λ r has. absurd has) tt tells k
