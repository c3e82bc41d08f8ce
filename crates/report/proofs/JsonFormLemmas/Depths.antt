-- How deep a document nests, and that it is read back.
use Rattle.std.proofs.Common.{◌≡◌, ◌≤◌, ℕ, zero, suc, ◌+◌, max, List, [], ◌∷◌, codes, length, map, Option, Some, None, option_and_then, sym, ap, ◌∙◌, arith}
use Rattle.std.proofs.lemmas.List.{append-nil}
use Rattle.json.specs.Json.{Json, Members, no_members, member, value, if_last, max_depth}
use Rattle.json.specs.Layout.{pretty}
use Rattle.json.specs.Lex.{tokens}
use Rattle.json.specs.Token.{Token}
use Rattle.json.specs.Tree.{json_tokens, depth, items_depth, members_depth}
use Rattle.json.specs.Value.{items_of}
use Rattle.json.proofs.Printed.Trees.{value-json_tokens}
use Rattle.scenario_values.specs.Scenario.{Entries}
use Rattle.target_trait.specs.declared.judgement.Verdict.{Verdict}
use Rattle.target_trait.specs.declared.judgement.Verdict.TheVariants as verdict
use Rattle.report.specs.Reports.{GrowthFacts, ReportFacts}
use Rattle.report.specs.explained.Told.{RunFacts}
use Rattle.report.specs.json_form.About.{NotesFacts, ShownFacts, about_value, grown_value, listed_from, plans_between, storms_from}
use Rattle.report.specs.json_form.Runs.{RunsFacts, or_null, parent_member, run_value, shown_value}
use Rattle.report.specs.declared.json_form.runs.ShownRun.{ShownRun}
use Rattle.report.specs.json_form.Document.{clean_value, point_values, reported_values, finding_value, cause_value, growth_value}
use Rattle.report.specs.json_form.Values.{whole, nonzero, list_of, scenario_value}
use Rattle.report.specs.json_form.Document.{document_of, IsReadAs}

both_shallow : (a b bound : ℕ) → a ≤ bound → b ≤ bound → max a b ≤ bound
both_shallow a b bound h k = omega (arith, h, k)

-- values of a list, each no deeper than this
mapped : {A : Type 0} (bound : ℕ) (f : A → Json) (xs : List A) → ((x : A) → depth (f x) ≤ bound) → items_depth (items_of (map f xs)) ≤ bound
mapped bound f [] h = omega arith
mapped bound f (x ∷ xs) h = both_shallow (depth (f x)) (items_depth (items_of (map f xs))) bound (h x) (mapped bound f xs h)

points_shallow : (names : List (List ℕ)) (counts : List ℕ) → items_depth (items_of (point_values names counts)) ≤ 1
points_shallow [] counts = omega arith
points_shallow (name ∷ names) [] = omega arith
points_shallow (name ∷ names) (n ∷ counts) = both_shallow 1 (items_depth (items_of (point_values names counts))) 1 (omega arith) (points_shallow names counts)

reported_shallow : (code_name : ℕ → List ℕ) (n : ℕ) (verdicts : List Verdict) (plans : List Entries)
    → items_depth (items_of (reported_values code_name n verdicts plans)) ≤ 1
reported_shallow code_name n [] plans = omega arith
reported_shallow code_name n (v ∷ vs) [] = omega arith
reported_shallow code_name n (verdict.Pass ∷ vs) (plan ∷ plans) = reported_shallow code_name (n + 1) vs plans
reported_shallow code_name n (verdict.Fail code ∷ vs) (plan ∷ plans) =
    both_shallow 1 (items_depth (items_of (reported_values code_name (n + 1) vs plans))) 1 (omega arith) (reported_shallow code_name (n + 1) vs plans)
reported_shallow code_name n (verdict.Unresolved ∷ vs) (plan ∷ plans) =
    both_shallow 1 (items_depth (items_of (reported_values code_name (n + 1) vs plans))) 1 (omega arith) (reported_shallow code_name (n + 1) vs plans)

clean_shallow : (code_name : ℕ → List ℕ) (v : Verdict) → depth (clean_value code_name v) ≤ 1
clean_shallow code_name verdict.Pass = omega arith
clean_shallow code_name (verdict.Fail code) = omega arith
clean_shallow code_name verdict.Unresolved = omega arith

-- a count among the members makes an object no deeper
nonzero_shallow : (name : List ℕ) (n : ℕ) (others : Members) → members_depth (nonzero name n others) ≤ members_depth others
nonzero_shallow name zero others = omega arith
nonzero_shallow name (suc n) others = omega arith

growth_shallow : (names : List (List ℕ)) (code_name : ℕ → List ℕ) (growth : Option GrowthFacts) → depth (growth_value names code_name growth) ≤ 3
growth_shallow names code_name None = omega arith
growth_shallow names code_name (Some growth) =
    let levels = mapped 0 whole growth.levels (λ n. omega arith) in
    let reached = points_shallow names growth.reached in
    let causes = mapped 1 (cause_value code_name) growth.causes (λ cause. omega arith) in
    let unseen =
    nonzero_shallow (codes "unseen") growth.unseen
    (member (codes "reached") (list_of (point_values names growth.reached))
    (member (codes "causes") (list_of (map (cause_value code_name) growth.causes)) no_members)) in
    omega (arith, levels, unseen, reached, causes)

run_shallow : (run : RunFacts) → depth (run_value run) ≤ 1
run_shallow run =
    let left_out = nonzero_shallow (codes "left_out") run.left_out no_members in
    omega (arith, left_out)

parent_shallow : (parent : Option RunFacts) → members_depth (parent_member parent) ≤ 1
parent_shallow None = omega arith
parent_shallow (Some run) =
    let shallow = run_shallow run in
    omega (arith, shallow)

shown_shallow : (shown : ShownRun) → depth (shown_value shown) ≤ 2
shown_shallow shown =
    let parent = parent_shallow shown.parent in
    let left_out = nonzero_shallow (codes "left_out") shown.run.left_out (parent_member shown.parent) in
    omega (arith, parent, left_out)

or_null_shallow : {A : Type 0} (bound : ℕ) (f : A → Json) → ((x : A) → depth (f x) ≤ bound) → (run : Option A) → depth (or_null f run) ≤ bound
or_null_shallow bound f h None = omega arith
or_null_shallow bound f h (Some x) = h x

about_shallow : (notes : NotesFacts) (shown : ShownFacts) (runs : RunsFacts) → depth (about_value notes shown runs) ≤ 4
about_shallow notes shown runs =
    let storms = mapped 0 scenario_value (plans_between (storms_from shown) (listed_from shown) shown.plans) (λ plan. omega arith) in
    let listed = mapped 0 scenario_value (plans_between (listed_from shown) (length shown.plans) shown.plans) (λ plan. omega arith) in
    let grown = mapped 0 grown_value shown.grown (λ plan. omega arith) in
    let clean = or_null_shallow 1 run_value run_shallow runs.clean in
    let findings = mapped 2 (or_null shown_value) runs.findings (or_null_shallow 2 shown_value shown_shallow) in
    let causes = mapped 2 (or_null shown_value) runs.causes (or_null_shallow 2 shown_value shown_shallow) in
    omega (arith, storms, listed, grown, clean, findings, causes)

shallow : (names : List (List ℕ)) (code_name : ℕ → List ℕ) (report : ReportFacts) (notes : NotesFacts) (shown : ShownFacts) (runs : RunsFacts)
    → depth (document_of names code_name report notes shown runs) ≤ max_depth
shallow names code_name report notes shown runs =
    let clean = clean_shallow code_name report.clean in
    let census = points_shallow names report.census in
    let told = reported_shallow code_name 0 report.verdicts shown.plans in
    let findings = mapped 1 (finding_value code_name) report.findings (λ finding. omega arith) in
    let growth = growth_shallow names code_name report.growth in
    let about = about_shallow notes shown runs in
    let unmet =
    nonzero_shallow (codes "unmet") report.unmet
    (member (codes "findings") (list_of (map (finding_value code_name) report.findings))
    (member (codes "growth") (growth_value names code_name report.growth)
    (member (codes "about") (about_value notes shown runs) no_members))) in
    omega (arith, clean, census, told, unmet, findings, growth, about)

-- A value is read back if the reader finds its tokens in its text.
read_back : (value : Json) → depth value ≤ max_depth → tokens (pretty (json_tokens value)) ≡ json_tokens value → IsReadAs value
read_back v shallow found =
    ap (λ (ts : List Token). option_and_then (λ p. if_last p.0 p.1) (value max_depth ts)) (found ∙ sym (append-nil (json_tokens v)))
    ∙ ap (option_and_then (λ p. if_last p.0 p.1)) (value-json_tokens v max_depth [] shallow)

pub document_read : (names : List (List ℕ)) (code_name : ℕ → List ℕ) (report : ReportFacts) (notes : NotesFacts) (shown : ShownFacts) (runs : RunsFacts)
    → tokens (pretty (json_tokens (document_of names code_name report notes shown runs))) ≡ json_tokens (document_of names code_name report notes shown runs)
    → IsReadAs (document_of names code_name report notes shown runs)
document_read names code_name report notes shown runs found =
    read_back (document_of names code_name report notes shown runs) (shallow names code_name report notes shown runs) found
