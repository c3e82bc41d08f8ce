-- The lines of one run, hit by hit.
use Rattle.std.specs.Prelude.{ℕ, Bool, ◌+◌, ◌==◌, ◌&&◌, not, if◌then◌else◌, List, [], ◌∷◌, ◌++◌, Option, Some, None}
use Rattle.std.specs.Prelude.{length, codes, count_by, flat_map, slice_index_or}
use Rattle.std.specs.Fmt.{decimal}
use Rattle.scenario_values.specs.declared.term.Term.{Term}
use Rattle.scenario_values.specs.declared.term.Task.{Task}
use Rattle.scenario_values.specs.Scenario.{Entries, is_off}
use Rattle.scenario_values.specs.Printed.{task_text, term_text}
use Rattle.action_eval.specs.declared.answer.Stop.{Stop}
use Rattle.action_eval.specs.declared.answer.Stop.TheVariants as stop
use Rattle.action_eval.specs.Answers.{Given, Reply, Hit, acted, and_then, given_of, stopped_by}
use Rattle.target_trait.specs.declared.case.Case.{Case}
use Rattle.target_trait.specs.declared.judgement.Verdict.{Verdict}
use Rattle.target_trait.specs.declared.judgement.Verdict.TheVariants as verdict
use Rattle.target_trait.specs.Play.{Move}
use Rattle.target_trait.specs.Outcomes.{outcome}
use Rattle.report.specs.ReportText.{verdict_text, text_of}

-- What was done at a hit: the task in the syntax of scenarios, or `go` if nothing was done.
abbrev pub done_text : Task → List ℕ
done_text t = if is_off t then codes "go" else task_text t

-- The number of the hit, the name of its point, which hit of that point it is, and what was done.
abbrev pub hit_line : List (List ℕ) → List Hit → Hit → List ℕ
hit_line names before h =
    codes "hit " ++ decimal (length before + 1) ++ codes " " ++ slice_index_or names h.point []
    ++ codes " " ++ decimal (count_by (λ b. b.point == h.point) before + 1) ++ codes " " ++ done_text h.did

-- A line for each of these hits, which follow the ones before.
abbrev pub hit_lines : List (List ℕ) → List Hit → List Hit → List (List ℕ)
hit_lines names before [] = []
hit_lines names before (h ∷ hs) = hit_line names before h ∷ hit_lines names (before ++ h ∷ []) hs

-- What stopped the run, if anything did: a panic or a pause at one of its hits, or else the limit. A run that nothing stopped has a judgement, so it
-- isn't unresolved.
abbrev pub stop_lines : Verdict → Option Stop → List (List ℕ)
stop_lines v (Some stop.Panic) = codes "stopped panic" ∷ []
stop_lines v (Some stop.Paused) = codes "stopped pause" ∷ []
stop_lines v (Some stop.Limit) = codes "stopped limit" ∷ []
stop_lines verdict.Pass None = []
stop_lines (verdict.Fail code) None = []
stop_lines verdict.Unresolved None = codes "stopped limit" ∷ []

abbrev pub idle_line : List ℕ → Term → List ℕ
idle_line name t = codes "idle " ++ name ++ codes "=" ++ term_text t

-- Whether the term at a place in the chain of a name is a fault that never acted.
abbrev pub is_idle : List Hit → List ℕ → ℕ → Term → Bool
is_idle history name i t = not (is_off t.task) && (acted history name i == 0)

abbrev pub idle_of : List Hit → List ℕ → ℕ → Term → List (List ℕ)
idle_of history name i t = if is_idle history name i t then idle_line name t ∷ [] else []

-- The lines for those terms of a chain, from place i on, that are faults and never acted.
abbrev pub idle_in : List Hit → List ℕ → ℕ → List Term → List (List ℕ)
idle_in history name i [] = []
idle_in history name i (t ∷ ts) = idle_of history name i t ++ idle_in history name (i + 1) ts

-- The same for all entries.
abbrev pub idle_lines : List Hit → Entries → List (List ℕ)
idle_lines history s = flat_map (λ e. idle_in history e.0 0 e.1) s

-- The lines of a run with this verdict and these hits, some of which are shown: the verdict, the shown hits, what stopped the run, and the faults
-- that never acted. Whether the limit stopped the run follows from `known`: the verdict, or a pass if nobody knows the limit.
abbrev pub run_lines : List (List ℕ) → (ℕ → List ℕ) → Entries → Verdict → Verdict → List Hit → List Hit → List (List ℕ)
run_lines names code_name scenario v known history shown =
    (codes "verdict " ++ verdict_text code_name v) ∷ (hit_lines names [] shown ++ (stop_lines known (stopped_by history) ++ idle_lines history scenario))

-- What the run of a case over these points is given.
abbrev pub given_in : List (List ℕ) → Case → Given
given_in names case = given_of case.scenario.now names case.seed case.stream case.max_hits

-- There is no line about the end of a run.
abbrev pub no_end : Given → List (List ℕ)
no_end g = []

-- The text of a component's run, with these lines about its end. The hits are those of the points that it asked.
abbrev pub explain_text : (ℕ → List ℕ) → (List Reply → Move) → (Given → List (List ℕ)) → Given → List ℕ
explain_text code_name asks end g =
    let told = outcome asks g in
    let history = and_then g [] told.asked in
    text_of (run_lines g.catalogue code_name g.scenario told.verdict told.verdict history history) ++ text_of (end g)
