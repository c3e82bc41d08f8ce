-- No component agrees with lines that contradict each other.
use Rattle.std.proofs.Common.{◌≡◌, ℕ, ◌≤◌, true, List, length, take, Option, Some, None, refl, ap, sym, ◌∙◌, arith, subst, inl, inr}
use Rattle.std.specs.Prelude.{IfSome, option_and_then, nat_le, slice_get, ◌&&◌}
use Rattle.std.specs.List.{list_all}
use Rattle.std.proofs.lemmas.Option.{cond_some}
use Rattle.scenario_values.specs.Scenario.{Entries, IsScenario}
use Rattle.action_eval.specs.Answers.{Reply, cuts_short, given_of, is_cut_short, replies}
use Rattle.target_trait.specs.declared.judgement.Verdict.TheVariants as verdict
use Rattle.target_trait.specs.Play.{Move}
use Rattle.target_trait.specs.Outcomes.{outcome}
use Rattle.answer_text.specs.Hits.{most_hits, points_of}
use Rattle.answer_text.specs.Runs.{KnownRuns, told_in}
use Rattle.answer_text.specs.declared.hits.Stretch.{Stretch}
use Rattle.answer_text.specs.declared.runs.ToldRun.{ToldRun}
use Rattle.grown_plans.specs.GrownPlans.{Subject}
use Rattle.answered_runs.specs.Agreement.{ContradictsBy, EndsAtPause, HasItsRun, IsCertain, IsContradiction, Says, SayOtherEnds, SayOtherHits, SaysOtherVerdict, end_by, line_of, move_said, run_over}
use Rattle.answered_runs.specs.Answered.{Answered, hits_by, is_low, told_of}
use Rattle.answered_runs.specs.Components.{AgreesWithRuns, IsComponent, IsTrueRun}
use Rattle.answered_runs.specs.declared.broken.BrokenRun.{BrokenRun}
use Rattle.answered_runs.specs.declared.broken.Conflict.{Conflict}
use Rattle.answered_runs.specs.declared.broken.Conflict.TheVariants as conflict
use Rattle.answered_runs.proofs.CertainAnswers.{answers_are, answers_over, stop_is}
use Rattle.answered_runs.proofs.Compared.{both_end, both_tell, pause_last, run_alike}
use Rattle.answered_runs.proofs.LineRuns.{Goes, Tells, cut_over, goes_of, tells_of}

-- ---- runs of recorded hits

pub answers_reached : (s : Entries) (points : List (List ℕ)) (hits : List ℕ) → IsCertain s → replies (run_over points s hits) ≡ answers_over points s hits
answers_reached s points hits c = answers_are s points 0 0 (length hits) hits c (omega arith)

pub cut_reached : (s : Entries) (points : List (List ℕ)) (hits : List ℕ) → IsCertain s → is_cut_short (run_over points s hits) ≡ cut_over points s hits
cut_reached s points hits c = ap cuts_short (stop_is s points 0 0 (length hits) hits c (omega arith))

-- the hits that a line says are those that it records
pub same_points : (hits : List Stretch) (points : List ℕ) → hits_by hits ≡ Some points → points_of hits ≡ points
same_points hits points e = (cond_some (list_all is_low hits && nat_le (length (points_of hits)) most_hits) (points_of hits) points e).1

said_hits : (o : Option (List Stretch)) (P : List ℕ → Type 0) (hits : List ℕ) → IfSome o (λ h. P (points_of h)) → option_and_then hits_by o ≡ Some hits → P hits
said_hits None P hits h e = absurd cc
said_hits (Some stretches) P hits h e = subst P (same_points stretches hits e) h

true_run : (t : Subject) (told : KnownRuns) → AgreesWithRuns t told → (s : Entries) → IsScenario s → IsCertain s → (r : ToldRun) → told s ≡ Some r → IsTrueRun t s r
true_run t told agrees s lawful certain r e = subst (λ (o : Option ToldRun). IfSome o (IsTrueRun t s)) e (agrees s lawful certain)

-- the component's run goes as the line says
goes_line : (t : Subject) (points : List (List ℕ)) (s : Entries) (r : ToldRun) (hits : List ℕ) → t.names ≡ points → IsCertain s → IsTrueRun t s r → (told_of r).hits ≡ Some hits → Goes t.asks points t.limit s hits r.verdict
goes_line t points s r hits names c is e =
    subst (λ (ps : List (List ℕ)). Goes t.asks ps t.limit s hits r.verdict) names
    (goes_of t.asks t.names s 0 0 t.limit hits r.verdict c (said_hits r.hits (λ h. (outcome t.asks (given_of s t.names 0 0 t.limit)).asked ≡ h) hits (is.hits 0 0) e) (is.verdict 0 0))

tells_line : (t : Subject) (points : List (List ℕ)) (s : Entries) (r : ToldRun) (count : ℕ) (answers : List Reply) (move : Move) → t.names ≡ points → IsCertain s → IsTrueRun t s r
    → Says points (line_of s (told_of r)) count answers move → Tells t.asks t.limit count answers move
tells_line t points s r count answers move names c is says =
    let first : List ℕ = take count says.hits in
    let told = tells_of t.asks points t.limit s says.hits r.verdict (goes_line t points s r says.hits names c is says.known) count says.within (sym (cut_reached s points first c) ∙ says.goes_on) in
    subst (Tells t.asks t.limit count answers) (sym says.move_is)
    (subst (λ (given : List Reply). Tells t.asks t.limit count given (move_said r.verdict (slice_get says.hits count))) (sym (answers_reached s points first c) ∙ says.reached) told)

-- ---- a pause

if_seen : (o : Option (List ℕ)) (P : List ℕ → Type 0) → ((hits : List ℕ) → o ≡ Some hits → P hits) → IfSome o P
if_seen None P h = tt
if_seen (Some hits) P h = h hits refl

ends_at_pause : (t : Subject) (points : List (List ℕ)) (s : Entries) (r : ToldRun) → t.names ≡ points → IsCertain s → IsTrueRun t s r → EndsAtPause points (line_of s (told_of r))
ends_at_pause t points s r names c is =
    if_seen (told_of r).hits
    (λ hits. (count : ℕ) → count ≤ length hits → is_cut_short (run_over points s (take count hits)) ≡ true → (count ≡ length hits) × (r.verdict ≡ verdict.Unresolved))
    (λ hits known count within cut.
    pause_last t.asks points t.limit s hits r.verdict (goes_line t points s r hits names c is known) count within (sym (cut_reached s points (take count hits) c) ∙ cut))

-- ---- two lines

other_hits : (t : Subject) (points : List (List ℕ)) (s u : Entries) (r q : ToldRun) (hit : ℕ) → t.names ≡ points → IsCertain s → IsCertain u → IsTrueRun t s r → IsTrueRun t u q
    → SayOtherHits points (line_of s (told_of r)) (line_of u (told_of q)) hit → ⊥
other_hits t points s u r q hit names c d is so h =
    both_tell t.asks t.limit h.before h.answers h.move h.other (tells_line t points s r h.before h.answers h.move names c is h.says) (tells_line t points u q h.before h.answers h.other names d so h.said)
    h.apart h.goes_on

other_ends : (t : Subject) (points : List (List ℕ)) (s u : Entries) (r q : ToldRun) → t.names ≡ points → IsCertain s → IsCertain u → IsTrueRun t s r → IsTrueRun t u q
    → SayOtherEnds points (line_of s (told_of r)) (line_of u (told_of q)) → ⊥
other_ends t points s u r q names c d is so h =
    h.apart
    (both_end t.asks t.limit h.count h.answers r.verdict q.verdict (tells_line t points s r h.count h.answers (end_by r.verdict) names c is h.says)
    (tells_line t points u q h.count h.answers (end_by q.verdict) names d so h.said))

other_verdict : (t : Subject) (points : List (List ℕ)) (s u : Entries) (r q : ToldRun) → t.names ≡ points → IsCertain s → IsCertain u → IsTrueRun t s r → IsTrueRun t u q
    → SaysOtherVerdict points (line_of s (told_of r)) (line_of u (told_of q)) → ⊥
other_verdict t points s u r q names c d is so h =
    let run : HasItsRun points s (line_of u (told_of q)) = h.has in
    h.apart
    (sym (is.verdict 0 0)
    ∙ ap (λ (ps : List (List ℕ)). (outcome t.asks (given_of s ps 0 0 t.limit)).verdict) names
    ∙ run_alike t.asks points t.limit s u run.hits q.verdict c (goes_line t points u q run.hits names d so run.known) run.resolved
    (λ count within. sym (answers_reached s points (take count run.hits) c) ∙ run.alike count within ∙ answers_reached u points (take count run.hits) d)
    (λ count within. sym (cut_reached s points (take count run.hits) c) ∙ run.goes_on count within) 0 0)

-- No component has both runs.
pub contradicted_by_none : (a : Answered) (b : BrokenRun) → IsContradiction a b → (t : Subject) → IsComponent a.points a.listed t → AgreesWithRuns t (told_in a.book) → ⊥
contradicted_by_none a b is t component agrees = by_how b.how is.contradicts
  where
    s : Entries
    s = is.scenario

    u : Entries
    u = is.other

    run_true : IsTrueRun t s is.run
    run_true = true_run t (told_in a.book) agrees s is.lawful is.certain is.run is.recorded

    told_true : IsTrueRun t u is.told
    told_true = true_run t (told_in a.book) agrees u is.other_lawful is.other_certain is.told is.other_recorded

    by_how : (how : Conflict) → ContradictsBy a.points (line_of s (told_of is.run)) (line_of u (told_of is.told)) how → ⊥
    by_how (conflict.Hits hit) h = other_hits t a.points s u is.run is.told hit component.names is.certain is.other_certain run_true told_true h
    by_how conflict.Verdict (inl h) = other_ends t a.points s u is.run is.told component.names is.certain is.other_certain run_true told_true h
    by_how conflict.Verdict (inr h) = other_verdict t a.points s u is.run is.told component.names is.certain is.other_certain run_true told_true h
    by_how conflict.Paused h = h (ends_at_pause t a.points s is.run component.names is.certain run_true)
