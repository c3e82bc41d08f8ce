use Rattle.std.proofs.Common.{◌∙◌, ◌++◌, List, Some, ap, sym}
use Rattle.std.proofs.lemmas.List.{append-nil}
use Rattle.std.proofs.lemmas.Result.{IfOk-weaker, on_ok_weaker}
use Rattle.action_eval.specs.declared.rig.Rig.{Rig}
use Rattle.grown_plans.specs.AskedPoints.{is_asked_again}
use Rattle.grown_plans.specs.GrownPlans.{kinds_at}
use Rattle.grown_plans.specs.Kept.{Grew, kept_children}
use Rattle.grown_runs.proofs.KnownLemmas.Found.{found_at, never_again, no_children, none_seen, seen_again, seen_children, seen_hits}
use Rattle.grown_runs.proofs.known.growing.add_children_of.Goals as goal

pub returns-in-Unknown : goal.returns-in-Unknown
returns-in-Unknown g c =
    let looked = c.args.looked.now in
    let known = g.T.RunTable.known looked.table.now in
    let kinds = kinds_at looked.kinds.now in
    let plans : List (List Rig) = looked.plans.now in
    let n = c.args.number in
    let here = found_at _ known looked.runs.now plans n c.index-looked-number.result looked.found c.requires.within in
    let none = none_seen _ _ c.in_ok-read_found.field-0 c.in_ok-read_found.ensures.told c.in-Unknown.is in
    record {
      children = sym (append-nil c.args.children.now.items) ∙ ap (λ (l : List Grew). c.args.children.now.items ++ l) (sym (no_children kinds known plans n _ here none));
      again = sym (never_again kinds known plans n _ here none);
    }

pub returns-in_ok-faults_of-in-Seen-clause-children : goal.returns-in_ok-faults_of-in-Seen-clause-children
returns-in_ok-faults_of-in-Seen-clause-children g c =
    let looked = c.args.looked.now in
    let known = g.T.RunTable.known looked.table.now in
    let kinds = kinds_at looked.kinds.now in
    let plans : List (List Rig) = looked.plans.now in
    let n = c.args.number in
    let here = found_at _ known looked.runs.now plans n c.index-looked-number.result looked.found c.requires.within in
    let hits = c.as_slice-hits.result.now in
    let seen = seen_hits _ _ c.in_ok-read_found.field-0 c.in-Seen.field-0 c.in_ok-read_found.ensures.told c.in-Seen.is in
    let plan = c.as_slice-faults.ensures.value ∙ c.in_ok-faults_of-in-Seen.ensures in
    on_ok_weaker c.add_children.result
    (λ h. h ∙ ap (λ (p : List Rig). c.args.children.now.items ++ kept_children kinds n p hits) plan
    ∙ ap (λ (l : List Grew). c.args.children.now.items ++ l) (sym (seen_children kinds known plans n _ here hits (seen ∙ ap Some (sym c.as_slice-hits.ensures.value)))))
    c.add_children.ensures.children

pub returns-in_ok-faults_of-in-Seen-clause-again : goal.returns-in_ok-faults_of-in-Seen-clause-again
returns-in_ok-faults_of-in-Seen-clause-again g c =
    let looked = c.args.looked.now in
    let known = g.T.RunTable.known looked.table.now in
    let kinds = kinds_at looked.kinds.now in
    let plans : List (List Rig) = looked.plans.now in
    let n = c.args.number in
    let here = found_at _ known looked.runs.now plans n c.index-looked-number.result looked.found c.requires.within in
    let hits = c.as_slice-hits.result.now in
    let seen = seen_hits _ _ c.in_ok-read_found.field-0 c.in-Seen.field-0 c.in_ok-read_found.ensures.told c.in-Seen.is in
    let plan = c.as_slice-faults.ensures.value ∙ c.in_ok-faults_of-in-Seen.ensures in
    IfOk-weaker c.add_children.result _ _
    (λ again h. h ∙ ap (λ (p : List Rig). is_asked_again p hits) plan ∙ sym (seen_again kinds known plans n _ here hits (seen ∙ ap Some (sym c.as_slice-hits.ensures.value))))
    c.add_children.ensures.again
