-- What a line is read as, it spells, and the other way round.
use Rattle.std.proofs.Common.{◌≡◌, ℕ, List, [], ◌∷◌, ◌++◌, Bool, true, false, not, ◌||◌, eqb, cond, Option, Some, None, Result, Ok, Err, refl, ap, sym, ◌∙◌, arith, subst, inl, inr}
use Rattle.std.specs.Prelude.{codes, position}
use Rattle.std.specs.Char.{is_ascii_control}
use Rattle.std.specs.Str.{IsUtf8, is_utf8, bytes_eq}
use Rattle.std.proofs.lemmas.Str.{IsUtf8-from_is_utf8, is_utf8-from_IsUtf8}
use Rattle.std.proofs.lemmas.Slice.Eq.{bytes_eq-Decides}
use Rattle.scenario_values.specs.Scenario.{Entries, IsScenario}
use Rattle.scenario_values.specs.Tidied.{tidied}
use Rattle.scenario_values.proofs.Limits.{tidied_scenario}
use Rattle.scenario_grammar.specs.Words.{cut}
use Rattle.scenario_values.specs.Printed.{printed}
use Rattle.scenario_grammar.specs.declared.fault.Kind.TheVariants.{NoAction}
use Rattle.scenario_grammar.specs.FirstFault.{Fault, reading, pieces_from, piece_in}
use Rattle.scenario_values.specs.Words.{lacks}
use Rattle.scenario_grammar.proofs.CutLaws.{and_both, byte_is, cut_at, cut_gives, cut_front_lacks, cut_lacks, not_false}
use Rattle.scenario_grammar.proofs.TermSound.{bind_ok}
use Rattle.scenario_grammar.proofs.TextSound.{text_gives}
use Rattle.scenario_grammar.proofs.TextLaws.{text_is}
use Rattle.scenario_grammar.proofs.Limits.{reading_keeps}
use Rattle.target_trait.specs.declared.judgement.Verdict.{Verdict}
use Rattle.target_trait.specs.declared.judgement.Verdict.TheVariants as verdict
use Rattle.answer_text.specs.declared.fault.LineFault.{LineFault}
use Rattle.answer_text.specs.declared.fault.LineFault.TheVariants.{NotUtf8, NoTab, UnknownVerdict, ControlByte}
use Rattle.answer_text.specs.declared.hits.Stretch.{Stretch}
use Rattle.answer_text.specs.declared.runs.RunLine.{RunLine}
use Rattle.answer_text.specs.Answers.{SpellsVerdict, SpellsScenario, SpellsRun, with_field}
use Rattle.answer_text.specs.FirstFault.{Answer, or_fault, after_tab, before_tab, failed_by, failure_in, verdict_in, has_control, of_scenario, scenario_in, parts_in, answer_in}
use Rattle.answer_text.specs.Hits.{field_in}
use Rattle.answer_text.specs.Runs.{run_in, run_line}

abbrev yes : {A : Type 0} → A → Result A LineFault
yes x = Ok x

yes_is : {A : Type 0} (x y : A) → yes x ≡ yes y → x ≡ y
yes_is x y e = cc

bytes_are : (xs ys : List ℕ) → bytes_eq xs ys ≡ true → xs ≡ ys
bytes_are xs ys h = (bytes_eq-Decides xs ys).0 h

-- ---- verdicts

failed_gives : (names : List (List ℕ)) (word name : List ℕ) (v : Verdict) (o : Option ℕ) → word ≡ codes "fail " ++ name → position (bytes_eq name) names ≡ o → failed_by name o ≡ Ok v → SpellsVerdict names word v
failed_gives names word name v None parts is h = absurd cc
failed_gives names word name v (Some code) parts is h =
    let P : Verdict → Type 0 = λ w. SpellsVerdict names word w in
    subst P (yes_is (verdict.Fail code) v h) (record { name = name; parts = parts; place = is })

failure_gives : (names : List (List ℕ)) (word : List ℕ) (v : Verdict) (o : Option (List ℕ × List ℕ)) → cut 32 word ≡ o → failure_in names word o ≡ Ok v → SpellsVerdict names word v
failure_gives names word v None is h = absurd cc
failure_gives names word v (Some parts) is h = by_test (bytes_eq parts.0 (codes "fail")) refl h
  where
    by_test : (t : Bool) → bytes_eq parts.0 (codes "fail") ≡ t → cond t (failed_by parts.1 (position (bytes_eq parts.1) names)) (Err (UnknownVerdict word)) ≡ Ok v → SpellsVerdict names word v
    by_test true e k =
        let front : parts.0 ≡ codes "fail" = bytes_are parts.0 (codes "fail") e in
        let whole : word ≡ codes "fail " ++ parts.1 = cut_gives 32 word parts.0 parts.1 is ∙ ap (λ (f : List ℕ). f ++ (32 ∷ parts.1)) front in
        failed_gives names word parts.1 v (position (bytes_eq parts.1) names) whole refl k
    by_test false e k = absurd cc

pub verdict_gives : (names : List (List ℕ)) (word : List ℕ) (v : Verdict) → verdict_in names word ≡ Ok v → SpellsVerdict names word v
unfolding verdict_in
verdict_gives names word v h = by_tests (bytes_eq word (codes "pass")) (bytes_eq word (codes "unresolved")) refl refl h
  where
    P : Verdict → Type 0
    P w = SpellsVerdict names word w

    by_tests : (t u : Bool) → bytes_eq word (codes "pass") ≡ t → bytes_eq word (codes "unresolved") ≡ u → cond t (Ok verdict.Pass) (cond u (Ok verdict.Unresolved) (failure_in names word (cut 32 word))) ≡ Ok v → SpellsVerdict names word v
    by_tests true u e f k = subst (λ (w : Verdict). SpellsVerdict names word w) (yes_is verdict.Pass v k) (bytes_are word (codes "pass") e)
    by_tests false true e f k = subst (λ (w : Verdict). SpellsVerdict names word w) (yes_is verdict.Unresolved v k) (bytes_are word (codes "unresolved") f)
    by_tests false false e f k = failure_gives names word v (cut 32 word) refl k

pub verdict_read : (names : List (List ℕ)) (word : List ℕ) (v : Verdict) → SpellsVerdict names word v → verdict_in names word ≡ Ok v
unfolding verdict_in
verdict_read names word verdict.Pass h = rw h refl
verdict_read names word verdict.Unresolved h = rw h refl
verdict_read names word (verdict.Fail code) h =
    let cut_is : cut 32 (codes "fail " ++ h.name) ≡ Some (codes "fail", h.name) = cut_at 32 (codes "fail") h.name refl in
    rw h.parts (ap (failure_in names (codes "fail " ++ h.name)) cut_is ∙ ap (failed_by h.name) h.place)

-- ---- scenarios

of_scenario_gives : (text : List ℕ) (s : Entries) (r : Result Entries Fault) → of_scenario r ≡ Ok s → r ≡ Ok s
of_scenario_gives text s (Ok t) h = ap (λ (x : Entries). Ok x) (yes_is t s h)
of_scenario_gives text s (Err f) h = absurd cc

pub empty_lawful : IsScenario []
unfolding printed
empty_lawful = record {
  few_entries = omega arith;
  no_empty_chain = tt;
  short_chains = tt;
  distinct_names = tt;
  lawful_names = tt;
  lawful_terms = tt;
  few_faults = omega arith;
  short_text = omega arith;
}

none_refused : reading (codes "none") ≡ Err (record { kind = NoAction; entry = 1; term = 0 })
unfolding reading pieces_from piece_in
none_refused = refl

not_read : (s : Entries) → reading (codes "none") ≡ Ok s → ⊥
not_read s h = cc none_refused

pub record ReadAs (text : List ℕ) (s : Entries) : Type 0 where
  pub printable : not (has_control text) ≡ true
  pub spelled : SpellsScenario text s
  pub lawful : IsScenario s

pub scenario_gives : (text : List ℕ) (s : Entries) → scenario_in text ≡ Ok s → ReadAs text s
unfolding scenario_in
scenario_gives text s h = by_tests (bytes_eq text (codes "none")) (has_control text) refl refl h
  where
    by_tests : (t u : Bool) → bytes_eq text (codes "none") ≡ t → has_control text ≡ u → cond t (Ok []) (cond u (Err ControlByte) (of_scenario (reading text))) ≡ Ok s → ReadAs text s
    by_tests true u e f k =
        let is : text ≡ codes "none" = bytes_are text (codes "none") e in
        let empty : [] ≡ s = yes_is [] s k in
        record { printable = rw is refl; spelled = inl (is, sym empty); lawful = subst IsScenario empty empty_lawful }
    by_tests false true e f k = absurd cc
    by_tests false false e f k =
        let r = of_scenario_gives text s (reading text) k in
        let g = text_gives text s r in
        record { printable = rw f refl; spelled = inr (record { actions = g.0; writes = g.1; limits = g.2; entries = g.3 }); lawful = reading_keeps text s r }

pub scenario_read : (text : List ℕ) (s : Entries) → not (has_control text) ≡ true → SpellsScenario text s → scenario_in text ≡ Ok s
unfolding scenario_in
scenario_read text s printable (inl h) = rw h.0 (ap (λ (x : Entries). Ok x) (sym h.1))
scenario_read text s printable (inr g) = by_tests (bytes_eq text (codes "none")) (has_control text) refl (not_false (has_control text) printable)
  where
    is : reading text ≡ Ok s
    is = text_is text g.actions g.writes g.limits ∙ ap (λ (x : Entries). Ok x) (sym g.entries)

    by_tests : (t u : Bool) → bytes_eq text (codes "none") ≡ t → u ≡ false → cond t (Ok []) (cond u (Err ControlByte) (of_scenario (reading text))) ≡ Ok s
    by_tests true u e f =
        let none : text ≡ codes "none" = bytes_are text (codes "none") e in
        let P : List ℕ → Type 0 = λ x. reading x ≡ Ok s in
        absurd (not_read s (subst P none is))
    by_tests false true e f = absurd cc
    by_tests false false e f = ap of_scenario is

-- ---- lines

parts_give : (line : List ℕ) (parts : List ℕ × List ℕ) → parts_in line ≡ Ok parts → IsUtf8 line × (cut 9 line ≡ Some (parts.0, parts.1))
unfolding parts_in
parts_give line parts h = by_test (is_utf8 line) (cut 9 line) refl h
  where
    by_test : (t : Bool) (o : Option (List ℕ × List ℕ)) → is_utf8 line ≡ t → cond t (or_fault NoTab o) (Err NotUtf8) ≡ Ok parts → IsUtf8 line × (o ≡ Some (parts.0, parts.1))
    by_test true None e k = absurd cc
    by_test true (Some p) e k = (IsUtf8-from_is_utf8 line e, ap (λ (x : List ℕ × List ℕ). Some x) (yes_is p parts k))
    by_test false o e k = absurd cc

pub parts_not_utf8 : (line : List ℕ) → (IsUtf8 line → ⊥) → parts_in line ≡ Err NotUtf8
unfolding parts_in
parts_not_utf8 line h = by_test (is_utf8 line) refl
  where
    by_test : (t : Bool) → is_utf8 line ≡ t → cond t (or_fault NoTab (cut 9 line)) (Err NotUtf8) ≡ Err NotUtf8
    by_test true e = absurd (h (IsUtf8-from_is_utf8 line e))
    by_test false e = refl

pub parts_are : (line : List ℕ) (o : Option (List ℕ × List ℕ)) → IsUtf8 line → o ≡ cut 9 line → parts_in line ≡ or_fault NoTab o
unfolding parts_in
parts_are line o utf8 e = rw (is_utf8-from_IsUtf8 line utf8, e) refl

-- what stands behind the verdict, put together again
fields_give : (rest : List ℕ) (o : Option (List ℕ × List ℕ)) → cut 9 rest ≡ o → rest ≡ with_field (before_tab rest o) (after_tab o)
fields_give rest None e = refl
fields_give rest (Some parts) e = cut_gives 9 rest parts.0 parts.1 e

no_tab : (b : ℕ) → not (is_ascii_control b) ≡ true → not (eqb b 9) ≡ true
no_tab b h = by_test (eqb b 9) refl
  where
    tab_is_control : not (is_ascii_control 9) ≡ true → ⊥
    tab_is_control k = cc

    by_test : (t : Bool) → eqb b 9 ≡ t → not t ≡ true
    by_test true e = absurd (tab_is_control (subst (λ (x : ℕ). not (is_ascii_control x) ≡ true) (byte_is b 9 e) h))
    by_test false e = refl

neither : (a b : Bool) → not (a || b) ≡ true → (not a ≡ true) × (not b ≡ true)
neither true b h = absurd cc
neither false b h = (refl, h)

control_none : (text : List ℕ) → not (has_control text) ≡ true → lacks 9 text ≡ true
control_none [] h = refl
control_none (b ∷ bs) h =
    let both = neither (is_ascii_control b) (has_control bs) h in
    and_both (not (eqb b 9)) (lacks 9 bs) (no_tab b both.0) (control_none bs both.1)

fields_read : (text : List ℕ) (field : Option (List ℕ)) → lacks 9 text ≡ true → (before_tab (with_field text field) (cut 9 (with_field text field)) ≡ text) × (after_tab (cut 9 (with_field text field)) ≡ field)
fields_read text None h = rw (cut_lacks 9 text h) (refl, refl)
fields_read text (Some field) h = rw (cut_at 9 text field h) (refl, refl)

pub record IsRead (needed : Bool) (names points : List (List ℕ)) (line : List ℕ) (r : RunLine) : Type 0 where
  pub spelled : SpellsRun needed names points line r
  pub lawful : IsScenario r.scenario

pub line_gives : (needed : Bool) (names points : List (List ℕ)) (line : List ℕ) (r : RunLine) → run_in needed names points line ≡ Ok r → IsRead needed names points line r
unfolding run_in answer_in
line_gives needed names points line r h =
    let a = bind_ok (answer_in names line) _ r h in
    let p = bind_ok (parts_in line) _ a.0 a.1 in
    let v = bind_ok (verdict_in names p.0.0) _ a.0 p.2 in
    let s = bind_ok (scenario_in (before_tab p.0.1 (cut 9 p.0.1))) _ a.0 v.2 in
    let f = bind_ok (field_in needed points a.0.0.1 a.0.1) _ r a.2 in
    let cuts = parts_give line p.0 p.1 in
    let read = scenario_gives (before_tab p.0.1 (cut 9 p.0.1)) s.0 s.1 in
    let first : tidied s.0 ≡ a.0.0.0 = ap (λ (x : Answer × Option (List ℕ)). x.0.0) (yes_is _ a.0 s.2) in
    let second : v.0 ≡ a.0.0.1 = ap (λ (x : Answer × Option (List ℕ)). x.0.1) (yes_is _ a.0 s.2) in
    let third : after_tab (cut 9 p.0.1) ≡ a.0.1 = ap (λ (x : Answer × Option (List ℕ)). x.1) (yes_is _ a.0 s.2) in
    let whole : run_line a.0.0.0 a.0.0.1 f.0 ≡ r = yes_is _ r f.2 in
    let scenario_is : tidied s.0 ≡ r.scenario = first ∙ ap (λ (x : RunLine). x.scenario) whole in
    let verdict_is : a.0.0.1 ≡ r.verdict = ap (λ (x : RunLine). x.verdict) whole in
    let hits_are : f.0 ≡ r.hits = ap (λ (x : RunLine). x.hits) whole in
    record {
      spelled = record {
        word = p.0.0;
        text = before_tab p.0.1 (cut 9 p.0.1);
        field = after_tab (cut 9 p.0.1);
        scenario = s.0;
        utf8 = cuts.0;
        parts = cut_gives 9 line p.0.0 p.0.1 cuts.1 ∙ ap (λ (rest : List ℕ). p.0.0 ++ (9 ∷ rest)) (fields_give p.0.1 (cut 9 p.0.1) refl);
        first = cut_front_lacks 9 line p.0.0 p.0.1 cuts.1;
        verdict = let P : Verdict → Type 0 = λ w. SpellsVerdict names p.0.0 w in subst P (second ∙ verdict_is) (verdict_gives names p.0.0 v.0 v.1);
        printable = read.printable;
        spelled = read.spelled;
        tidy = sym scenario_is;
        hits = ap (λ (w : Verdict). field_in needed points w (after_tab (cut 9 p.0.1))) (sym verdict_is) ∙ ap (field_in needed points a.0.0.1) third ∙ f.1 ∙ ap (λ (x : Option (List Stretch)). yes x) hits_are;
      };
      lawful = subst IsScenario scenario_is (tidied_scenario s.0 read.lawful);
    }

-- a line that spells a run, read up to its hits
answer_read : (needed : Bool) (names points : List (List ℕ)) (line : List ℕ) (r : RunLine) → (h : SpellsRun needed names points line r) → answer_in names line ≡ Ok ((r.scenario, r.verdict), h.field)
unfolding answer_in parts_in
answer_read needed names points line r h =
    let utf8 : is_utf8 line ≡ true = is_utf8-from_IsUtf8 line h.utf8 in
    let rest : List ℕ = with_field h.text h.field in
    let cuts : cut 9 line ≡ Some (h.word, rest) = ap (cut 9) h.parts ∙ cut_at 9 h.word rest h.first in
    let fields = fields_read h.text h.field (control_none h.text h.printable) in
    rw (utf8, cuts, verdict_read names h.word r.verdict h.verdict, fields.0, fields.1, scenario_read h.text h.scenario h.printable h.spelled)
    (ap (λ (s : Entries). yes ((s, r.verdict), h.field)) (sym h.tidy))

pub line_read : (needed : Bool) (names points : List (List ℕ)) (line : List ℕ) (r : RunLine) → SpellsRun needed names points line r → run_in needed names points line ≡ Ok r
unfolding run_in
line_read needed names points line r h = rw (answer_read needed names points line r h, h.hits) refl
