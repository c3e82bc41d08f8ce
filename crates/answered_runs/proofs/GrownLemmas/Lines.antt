-- Lines for plans that grow: each plan has one of its own.
use Rattle.std.proofs.Common.{◌≡◌, ◌≢◌, ℕ, ◌≤◌, Bool, true, false, cond, List, [], ◌∷◌, ◌++◌, ◌||◌, ◌⊎◌, inl, inr, map, fold, refl, ap, sym, ◌∙◌, subst, append_assoc}
use Rattle.std.specs.Prelude.{Contains, codes, is_none}
use Rattle.std.specs.List.{AllByRecursion, filter, list_any}
use Rattle.std.specs.Str.{bytes_eq}
use Rattle.std.proofs.lemmas.List.{append-nil}
use Rattle.std.proofs.lemmas.Slice.Eq.{bytes_eq-Decides}
use Rattle.indexmap.specs.IndexSet.{insert_key}
use Rattle.scenario_values.specs.Printed.{printed}
use Rattle.scenario_values.specs.Scenario.{Entries, IsScenario}
use Rattle.scenario_values.specs.Tidied.{tidied}
use Rattle.scenario_values.proofs.Limits.{tidied_scenario}
use Rattle.scenario_grammar.specs.declared.fault.Kind.TheVariants.{NoAction}
use Rattle.scenario_grammar.specs.FirstFault.{piece_in, pieces_from, reading}
use Rattle.scenario_grammar.proofs.RoundTrip.{printed_again}
use Rattle.std.specs.Prelude.{Err, Ok}
use Rattle.action_eval.specs.Answers.{given_of}
use Rattle.action_eval.specs.declared.rig.Kind.{Kind}
use Rattle.action_eval.specs.declared.rig.Rig.{Rig}
use Rattle.action_eval.specs.RiggedScenario.{CanBeRigged}
use Rattle.action_eval.proofs.Rigged.{rigged_scenario_keeps}
use Rattle.action_eval.proofs.RunLaws.{tidied_means}
use Rattle.plan_gen.specs.PlanList.{Asked}
use Rattle.grown_plans.specs.numbered.GrownScenarios.{grown_scenario}
use Rattle.report.specs.ReportText.{scenario_text}
use Rattle.answered_runs.specs.asked.Lines.{lines_behind, lines_for}
use Rattle.answer_text.proofs.Members.{same_printed}
use Rattle.grown_plans.specs.Runs.{run}
use Rattle.grown_plans.specs.GrownPlans.{Subject, grown, levels, onward, rigs_of, run_of_plan, scenario_of}
use Rattle.grown_plans.specs.Promises.{EachTwo}
use Rattle.grown_plans.proofs.Members.{all_append, all_contained, all_contains, all_left, all_right, contains_cases, contains_none}
use Rattle.grown_plans.proofs.Onward.{runs_nothing_twice}
use Rattle.grown_plans.proofs.Rigged.{grown_can_be_rigged}
use Rattle.grown_runs.specs.known.Known.{KnownRuns}
use Rattle.grown_runs.specs.known.KnownPart.{is_reached, is_reached_onward, known_part, to_run}
use Rattle.grown_runs.proofs.KnownLemmas.Ends.{filtered, runs_each_once}
use Rattle.answered_runs.specs.Answered.{Answered, runs_in}
use Rattle.answered_runs.specs.Components.{IsComponent}
use Rattle.answered_runs.specs.grown.Asked.{AreApart, IsAskedOf, lines_to_run, plan_line, undecided, unrun}
use Rattle.answered_runs.specs.grown.Further.{clean_run, further_known}
use Rattle.answered_runs.proofs.GrownLemmas.SameRuns.{run_same}

-- ---- a scenario has a line of its own

none_refused : reading (codes "none") ≡ Err (record { kind = NoAction; entry = 1; term = 0 })
unfolding reading pieces_from piece_in
none_refused = refl

not_none : (s : Entries) → IsScenario s → printed s ≡ codes "none" → ⊥
not_none s lawful e = let read : reading (codes "none") ≡ Ok s = ap reading (sym e) ∙ printed_again s lawful in cc (read, none_refused)

text_same : (s t : Entries) → IsScenario s → IsScenario t → scenario_text s ≡ scenario_text t → s ≡ t
text_same [] [] h k e = refl
text_same [] (y ∷ ys) h k e = absurd (not_none (y ∷ ys) k (sym e))
text_same (x ∷ xs) [] h k e = absurd (not_none (x ∷ xs) h e)
text_same (x ∷ xs) (y ∷ ys) h k e = same_printed (x ∷ xs) (y ∷ ys) h k e

-- ---- and so has a plan

plan_means : (t : Subject) (plan : List Rig) → IsScenario (scenario_of t plan) → run_of_plan t plan ≡ run t.asks (given_of (tidied (scenario_of t plan)) t.names 0 0 t.limit)
unfolding run_of_plan
plan_means t plan lawful = sym (run_same t.asks t.names 0 0 t.limit (tidied (scenario_of t plan)) (scenario_of t plan) ((tidied_means (scenario_of t plan) lawful.distinct_names).at t.names 0 0 t.limit))

line_of_run : (points : List (List ℕ)) (listed : List (List Kind)) (t : Subject) → IsComponent points listed t → (a b : List Rig) → CanBeRigged (rigs_of a) → CanBeRigged (rigs_of b) → plan_line t.names a ≡ plan_line t.names b → run_of_plan t a ≡ run_of_plan t b
line_of_run points listed t is a b can_a can_b e =
    let of_a : IsScenario (scenario_of t a) = rigged_scenario_keeps t.names (rigs_of a) is.lawful.catalogue can_a.0 can_a.1 can_a.2 in
    let of_b : IsScenario (scenario_of t b) = rigged_scenario_keeps t.names (rigs_of b) is.lawful.catalogue can_b.0 can_b.1 can_b.2 in
    let same : tidied (scenario_of t a) ≡ tidied (scenario_of t b) = text_same (tidied (scenario_of t a)) (tidied (scenario_of t b)) (tidied_scenario (scenario_of t a) of_a) (tidied_scenario (scenario_of t b) of_b) e in
    plan_means t a of_a ∙ ap (λ (s : Entries). run t.asks (given_of s t.names 0 0 t.limit)) same ∙ sym (plan_means t b of_b)

-- ---- members of a list of which each two are apart

two_members : {A : Type 0} (R : A → A → Type 0) (xs : List A) (a b : A) → EachTwo R xs → Contains xs a → Contains xs b → (a ≡ b) ⊎ (R a b ⊎ R b a)
two_members R [] a b each in_a in_b = absurd (contains_none a in_a)
two_members {A} R (x ∷ xs) a b each in_a in_b =
    elim (contains_cases x a xs in_a) [
      | inl e ↦ elim (contains_cases x b xs in_b) [ inl f ↦ inl (sym e ∙ f) | inr g ↦ inr (inl (subst (λ (y : A). R y b) e (all_contains (R x) xs b each.0 g))) ]
      | inr d ↦ elim (contains_cases x b xs in_b) [ inl f ↦ inr (inr (subst (λ (y : A). R y a) f (all_contains (R x) xs a each.0 d))) | inr g ↦ two_members R xs a b each.1 d g ]
    ]

-- ---- the plans that are to be run

runs_within : (t : Subject) (d : ℕ) (known : KnownRuns) → AllByRecursion (Contains (grown t d)) (to_run t d known)
runs_within t d known =
    let all : AllByRecursion (Contains (grown t d)) (grown t d) = all_contained (grown t d) in
    filtered (λ (plan : List Rig). is_none (known plan)) (Contains (grown t d)) (known_part t d known)
    (all_append (Contains (grown t d)) (filter (is_reached known) (levels t d)) (filter (is_reached_onward known) (onward t d))
    (filtered (is_reached known) (Contains (grown t d)) (levels t d) (all_left (Contains (grown t d)) (levels t d) (onward t d) all))
    (filtered (is_reached_onward known) (Contains (grown t d)) (onward t d) (all_right (Contains (grown t d)) (levels t d) (onward t d) all)))

lines_apart : (points : List (List ℕ)) (listed : List (List Kind)) (t : Subject) → IsComponent points listed t → (d : ℕ) → d ≤ 64 → (a b : List Rig) → Contains (grown t d) a → Contains (grown t d) b → a ≢ b → plan_line t.names a ≢ plan_line t.names b
lines_apart points listed t is d low a b in_a in_b apart e =
    let can : AllByRecursion (λ plan. CanBeRigged (rigs_of plan)) (grown t d) = grown_can_be_rigged t is.lawful is.few d low in
    let can_a = all_contains (λ (plan : List Rig). CanBeRigged (rigs_of plan)) (grown t d) a can in_a in
    let can_b = all_contains (λ (plan : List Rig). CanBeRigged (rigs_of plan)) (grown t d) b can in_b in
    let same : run_of_plan t a ≡ run_of_plan t b = line_of_run points listed t is a b can_a can_b e in
    elim (two_members (λ (x y : List Rig). run_of_plan t x ≢ run_of_plan t y) (grown t d) a b (runs_nothing_twice t is.lawful d) in_a in_b) [
      | inl equal ↦ apart equal
      | inr either ↦ elim either [ inl differ ↦ differ same | inr differ ↦ differ (sym same) ]
    ]

each_line : (points : List (List ℕ)) (listed : List (List Kind)) (t : Subject) → IsComponent points listed t → (d : ℕ) → d ≤ 64 → (plans : List (List Rig)) → AllByRecursion (Contains (grown t d)) plans → EachTwo (λ a b. a ≢ b) plans
    → EachTwo (λ a b. a ≢ b) (map (plan_line t.names) plans)
each_line points listed t is d low [] within apart = tt
each_line points listed t is d low (plan ∷ plans) within apart = (others plans within.1 apart.0, each_line points listed t is d low plans within.1 apart.1)
  where
    others : (later : List (List Rig)) → AllByRecursion (Contains (grown t d)) later → AllByRecursion (λ b. plan ≢ b) later → AllByRecursion (λ line. plan_line t.names plan ≢ line) (map (plan_line t.names) later)
    others [] all apart' = tt
    others (b ∷ bs) all apart' = (lines_apart points listed t is d low plan b within.0 all.0 apart'.0, others bs all.1 apart'.1)

pub plan_lines_apart : (points : List (List ℕ)) (listed : List (List Kind)) (t : Subject) → IsComponent points listed t → (d : ℕ) → d ≤ 64 → (known : KnownRuns) → AreApart (lines_to_run t d known)
plan_lines_apart points listed t is d low known = each_line points listed t is d low (to_run t d known) (runs_within t d known) (runs_each_once t is.lawful d known)

-- ---- lines put into a set of lines

bytes_are : (a b : List ℕ) → bytes_eq a b ≡ true → a ≡ b
bytes_are a b e = (bytes_eq-Decides a b).0 e

no_such : (line : List ℕ) (lines : List (List ℕ)) → AllByRecursion (λ x. x ≢ line) lines → list_any (bytes_eq line) lines ≡ false
no_such line [] none = refl
no_such line (x ∷ xs) none = by_test (bytes_eq line x) refl (no_such line xs none.1)
  where
    by_test : (b : Bool) → bytes_eq line x ≡ b → list_any (bytes_eq line) xs ≡ false → (b || list_any (bytes_eq line) xs) ≡ false
    by_test true e later = absurd (none.0 (sym (bytes_are line x e)))
    by_test false e later = later

none_such : (line : List ℕ) (lines : List (List ℕ)) → list_any (bytes_eq line) lines ≡ false → AllByRecursion (λ x. x ≢ line) lines
none_such line [] e = tt
none_such line (x ∷ xs) e = by_test (bytes_eq line x) refl (none_such line xs) e
  where
    by_test : (b : Bool) → bytes_eq line x ≡ b → (list_any (bytes_eq line) xs ≡ false → AllByRecursion (λ y. y ≢ line) xs) → (b || list_any (bytes_eq line) xs) ≡ false → AllByRecursion (λ y. y ≢ line) (x ∷ xs)
    by_test true f later g = absurd cc
    by_test false f later g = ((λ same. let is : bytes_eq line x ≡ true = (bytes_eq-Decides line x).1 (sym same) in cc (is, f)), later g)

-- those before the last of these
before_last : (first : List (List ℕ)) (line : List ℕ) (later : List (List ℕ)) → AreApart (first ++ line ∷ later) → AllByRecursion (λ x. x ≢ line) first
before_last [] line later apart = tt
before_last (x ∷ xs) line later apart = ((all_right (λ (y : List ℕ). x ≢ y) xs (line ∷ later) apart.0).0, before_last xs line later apart.1)

pub put_apart : (first lines : List (List ℕ)) → AreApart (first ++ lines) → fold (insert_key bytes_eq) first lines ≡ first ++ lines
put_apart first [] apart = sym (append-nil first)
put_apart first (line ∷ lines) apart =
    let whole : (first ++ line ∷ []) ++ lines ≡ first ++ line ∷ lines = append_assoc first (line ∷ []) lines in
    ap (λ (b : Bool). fold (insert_key bytes_eq) (cond b first (first ++ line ∷ [])) lines) (no_such line first (before_last first line lines apart))
    ∙ put_apart (first ++ line ∷ []) lines (subst AreApart (sym whole) apart) ∙ whole

pushed_apart : (first : List (List ℕ)) (line : List ℕ) → AreApart first → AllByRecursion (λ x. x ≢ line) first → AreApart (first ++ line ∷ [])
pushed_apart [] line apart none = (tt, tt)
pushed_apart (x ∷ xs) line apart none = (all_append (λ (y : List ℕ). x ≢ y) xs (line ∷ []) apart.0 (none.0, tt), pushed_apart xs line apart.1 none.1)

put_one : (first : List (List ℕ)) (line : List ℕ) → AreApart first → AreApart (insert_key bytes_eq first line)
put_one first line apart = by_test (list_any (bytes_eq line) first) refl
  where
    by_test : (b : Bool) → list_any (bytes_eq line) first ≡ b → AreApart (cond b first (first ++ line ∷ []))
    by_test true e = apart
    by_test false e = pushed_apart first line apart (none_such line first e)

pub put_all_apart : (first lines : List (List ℕ)) → AreApart first → AreApart (fold (insert_key bytes_eq) first lines)
put_all_apart first [] apart = apart
put_all_apart first (line ∷ lines) apart = put_all_apart (insert_key bytes_eq first line) lines (put_one first line apart)

-- ---- what is asked

put_more : (lines : List (List ℕ)) (first later : List Entries) → lines_behind lines (first ++ later) ≡ lines_behind (lines_behind lines first) later
put_more lines [] later = refl
put_more lines (s ∷ ss) later = put_more (insert_key bytes_eq lines (scenario_text s)) ss later

pub both_added : (first later : List Entries) (none mid after : List (List ℕ)) → none ≡ [] → mid ≡ lines_behind none first → after ≡ lines_behind mid later → after ≡ lines_for (first ++ later)
both_added first later none mid after empty grew went =
    went ∙ ap (λ (ls : List (List ℕ)). lines_behind ls later) (grew ∙ ap (λ (ls : List (List ℕ)). lines_behind ls first) empty) ∙ sym (put_more [] first later)

map_both : {A B C : Type 0} (g : B → C) (f : A → B) (xs : List A) → map g (map f xs) ≡ map (λ x. g (f x)) xs
map_both g f [] = refl
map_both {C = C} g f (x ∷ xs) = ap (λ (ys : List C). g (f x) ∷ ys) (map_both g f xs)

unrun_lines : (a : Answered) (plans : List (List Rig)) → map scenario_text (unrun a plans) ≡ map (plan_line a.points) (filter (λ plan. is_none (runs_in a plan)) plans)
unrun_lines a plans = map_both scenario_text (λ (plan : List Rig). tidied (grown_scenario a.points plan)) (filter (λ (plan : List Rig). is_none (runs_in a plan)) plans)

plans_asked : (t : Subject) (a : Answered) (d : ℕ) (plans : List (List Rig)) → IsComponent a.points a.listed t → d ≤ 64 → plans ≡ known_part t d (runs_in a) → lines_for (unrun a plans) ≡ lines_to_run t d (runs_in a)
plans_asked t a d plans is low same =
    ap (fold (insert_key bytes_eq) []) (unrun_lines a plans ∙ ap (λ (ps : List (List Rig)). map (plan_line a.points) (filter (λ (plan : List Rig). is_none (runs_in a plan)) ps)) same
    ∙ ap (λ (names : List (List ℕ)). map (plan_line names) (to_run t d (runs_in a))) (sym is.names))
    ∙ put_apart [] (lines_to_run t d (runs_in a)) (plan_lines_apart a.points a.listed t is d low (runs_in a))

-- What is asked, by the lines that were added for the plans that grow and then for the further ones.
pub asked_of : (t : Subject) (a : Answered) (d : ℕ) (asked : Asked) (plans : List (List Rig)) (further : List Entries) (none mid after : List (List ℕ)) → IsComponent a.points a.listed t → d ≤ 64 → plans ≡ known_part t d (runs_in a)
    → further ≡ further_known t asked (clean_run a) → none ≡ [] → mid ≡ lines_behind none (unrun a plans) → after ≡ lines_behind mid (undecided a d further) → IsAskedOf t a d asked after
asked_of t a d asked plans further none mid after is low same known empty grew went = record {
  plans = plan_lines_apart a.points a.listed t is d low (runs_in a);
  whole =
      went ∙ ap (λ (ls : List (List ℕ)). lines_behind ls (undecided a d further)) (grew ∙ ap (λ (ls : List (List ℕ)). lines_behind ls (unrun a plans)) empty ∙ plans_asked t a d plans is low same)
      ∙ ap (λ (ps : List Entries). lines_behind (lines_to_run t d (runs_in a)) (undecided a d ps)) known;
}

pub asked_once : (none mid after : List (List ℕ)) (first later : List Entries) → none ≡ [] → mid ≡ lines_behind none first → after ≡ lines_behind mid later → AreApart after
asked_once none mid after first later empty grew went =
    let begun : AreApart none = subst AreApart (sym empty) tt in
    let half : AreApart mid = subst AreApart (sym grew) (put_all_apart none (map scenario_text first) begun) in
    subst AreApart (sym went) (put_all_apart mid (map scenario_text later) half)
