-- Two lines, compared with the runs of one component.
use Rattle.std.proofs.Common.{◌≡◌, ℕ, suc, ◌≤◌, Bool, true, false, List, [], ◌∷◌, length, take, Some, refl, ap, sym, ◌∙◌, arith, subst, ◌⊎◌, inl, inr, get_or}
use Rattle.std.specs.Prelude.{slice_get, ◌≢◌}
use Rattle.std.proofs.lemmas.Bool.{cases_lt}
use Rattle.std.proofs.lemmas.List.{take_all}
use Rattle.std.proofs.lemmas.Option.{slice_get_within, slice_get-get_or}
use Rattle.scenario_values.specs.Scenario.{Entries}
use Rattle.action_eval.specs.Answers.{Reply, asked, given_of, run_of, stopped_by}
use Rattle.target_trait.specs.declared.judgement.Judgement.{Judgement}
use Rattle.target_trait.specs.declared.judgement.Verdict.{Verdict}
use Rattle.target_trait.specs.declared.judgement.Verdict.TheVariants as verdict
use Rattle.target_trait.specs.Cuts.{IsAsking}
use Rattle.target_trait.specs.Play.{Move, Ask, Done, Unknown}
use Rattle.target_trait.specs.Outcomes.{judged, outcome, verdict_in, verdict_of, whole_play}
use Rattle.answered_runs.specs.Agreement.{IsCertain, end_by}
use Rattle.answered_runs.proofs.CertainAnswers.{answers_many, answers_over, answers_take, history_over}
use Rattle.answered_runs.proofs.LinePlays.{Rests}
use Rattle.answered_runs.proofs.LineRuns.{AsksAt, EndsBy, Goes, Tells, cut_over, cut_unresolved, end_rests, goes_judged, goes_of, verdict_at, whole_is}

-- ---- two lines of one component

pub both_tell : (asks : List Reply → Move) (limit count : ℕ) (answers : List Reply) (move other : Move) → Tells asks limit count answers move → Tells asks limit count answers other → move ≢ other
    → IsAsking move ⊎ IsAsking other → ⊥
both_tell asks limit count answers move other (inl h) (inl k) apart asking = apart (h.0 ∙ sym k.0)
both_tell asks limit count answers move other (inl h) (inr k) apart (inl asking) = let less = h.1 asking in let same = k.1 in omega (arith, less, same)
both_tell asks limit count answers move other (inl h) (inr k) apart (inr asking) = subst IsAsking k.0 asking
both_tell asks limit count answers move other (inr h) (inl k) apart (inl asking) = subst IsAsking h.0 asking
both_tell asks limit count answers move other (inr h) (inl k) apart (inr asking) = let less = k.1 asking in let same = h.1 in omega (arith, less, same)
both_tell asks limit count answers move other (inr h) (inr k) apart asking = apart (h.0 ∙ sym k.0)

end_apart : (v w : Verdict) → end_by v ≡ end_by w → v ≡ w
end_apart verdict.Pass verdict.Pass e = refl
end_apart verdict.Pass (verdict.Fail n) e = absurd cc
end_apart verdict.Pass verdict.Unresolved e = absurd cc
end_apart (verdict.Fail m) verdict.Pass e = absurd cc
end_apart (verdict.Fail m) (verdict.Fail n) e = ap (λ (x : ℕ). verdict.Fail x) cc
end_apart (verdict.Fail m) verdict.Unresolved e = absurd cc
end_apart verdict.Unresolved verdict.Pass e = absurd cc
end_apart verdict.Unresolved (verdict.Fail n) e = absurd cc
end_apart verdict.Unresolved verdict.Unresolved e = refl

pub both_end : (asks : List Reply → Move) (limit count : ℕ) (answers : List Reply) (v w : Verdict) → Tells asks limit count answers (end_by v) → Tells asks limit count answers (end_by w) → v ≡ w
both_end asks limit count answers v w (inl h) (inl k) = end_apart v w (h.0 ∙ sym k.0)
both_end asks limit count answers v w (inl h) (inr k) = absurd (end_rests v (subst IsAsking (sym h.0) k.2))
both_end asks limit count answers v w (inr h) (inl k) = absurd (end_rests w (subst IsAsking (sym k.0) h.2))
both_end asks limit count answers v w (inr h) (inr k) = end_apart v w (h.0 ∙ sym k.0)

-- a pause is at the last hit
pub pause_last : (asks : List Reply → Move) (points : List (List ℕ)) (limit : ℕ) (s : Entries) (hits : List ℕ) (v : Verdict) → Goes asks points limit s hits v → (count : ℕ) → count ≤ length hits
    → cut_over points s (take count hits) ≡ true → (count ≡ length hits) × (v ≡ verdict.Unresolved)
pause_last asks points limit s hits v goes count within cut = elim (cases_lt count (length hits)) [
  | inl less ↦ absurd (let at = goes.asked count (get_or hits count 0) (slice_get-get_or hits count 0 less) in let b = at.0 in cc)
  | inr all ↦ (let e : count ≡ length hits = omega (arith, within, all) in e, at_end (cut_over points s hits) (ap (cut_over points s) (sym (take_all count hits all)) ∙ cut) goes.ended)
]
  where
    at_end : (b : Bool) → b ≡ true → EndsBy b (asks (answers_over points s hits)) v limit (length hits) → v ≡ verdict.Unresolved
    at_end true e ends = ends
    at_end false e ends = absurd cc

-- ---- a scenario that has the run of a line

asking_alike : (asks : List Reply → Move) (points : List (List ℕ)) (s u : Entries) (hits : List ℕ) (p : ℕ) → answers_over points s hits ≡ answers_over points u hits → cut_over points s hits ≡ false
    → AsksAt asks points u hits p → AsksAt asks points s hits p
asking_alike asks points s u hits p same goes_on at = (goes_on, ap asks same ∙ at.1)

pub run_alike : (asks : List Reply → Move) (points : List (List ℕ)) (limit : ℕ) (s u : Entries) (hits : List ℕ) (w : Verdict) → IsCertain s → Goes asks points limit u hits w → w ≢ verdict.Unresolved
    → ((count : ℕ) → count ≤ length hits → answers_over points s (take count hits) ≡ answers_over points u (take count hits)) → ((count : ℕ) → count ≤ length hits → cut_over points s (take count hits) ≡ false)
    → (seed stream : ℕ) → (outcome asks (given_of s points seed stream limit)).verdict ≡ w
run_alike asks points limit s u hits w c goes resolved same goes_on seed stream =
    ap (verdict_in asks) (whole_is asks points s seed stream limit hits c goes.few each (inr (subst Rests (sym answers) ended.0)))
    ∙ verdict_at asks points s seed stream limit hits c goes.few ∙ goes_judged (stopped_by (history_over points s hits)) (asks (answers_over points s hits)) uncut
    ∙ ap judged answers ∙ sym ended.1
  where
    whole : take (length hits) hits ≡ hits
    whole = take_all (length hits) hits (omega arith)

    answers : asks (answers_over points s hits) ≡ asks (answers_over points u hits)
    answers = ap asks (ap (answers_over points s) (sym whole) ∙ same (length hits) (omega arith) ∙ ap (answers_over points u) whole)

    uncut : cut_over points s hits ≡ false
    uncut = ap (cut_over points s) (sym whole) ∙ goes_on (length hits) (omega arith)

    each : (k p : ℕ) → slice_get hits k ≡ Some p → AsksAt asks points s (take k hits) p
    each k p e =
        let less = slice_get_within hits k p e in
        asking_alike asks points s u (take k hits) p (same k (omega (arith, less))) (goes_on k (omega (arith, less))) (goes.asked k p e)

    by_end : (b : Bool) → EndsBy b (asks (answers_over points u hits)) w limit (length hits) → Rests (asks (answers_over points u hits)) × (w ≡ judged (asks (answers_over points u hits)))
    by_end true e = absurd (resolved e)
    by_end false (inl h) = h
    by_end false (inr h) = absurd (resolved h.1)

    ended : Rests (asks (answers_over points u hits)) × (w ≡ judged (asks (answers_over points u hits)))
    ended = by_end (cut_over points u hits) goes.ended

-- ---- the run of a line with hits

judged_end : (v : Verdict) → judged (end_by v) ≡ v
judged_end verdict.Pass = refl
judged_end (verdict.Fail code) = refl
judged_end verdict.Unresolved = refl

end_at_rest : (v : Verdict) → Rests (end_by v)
end_at_rest verdict.Pass = tt
end_at_rest (verdict.Fail code) = tt
end_at_rest verdict.Unresolved = tt

pub record Runs (asks : List Reply → Move) (points : List (List ℕ)) (limit : ℕ) (s : Entries) (hits : List ℕ) (v : Verdict) : Type 0 where
  pub verdict : (seed stream : ℕ) → (outcome asks (given_of s points seed stream limit)).verdict ≡ v
  pub asked : (seed stream : ℕ) → (outcome asks (given_of s points seed stream limit)).asked ≡ hits

pub runs_so : (asks : List Reply → Move) (points : List (List ℕ)) (limit : ℕ) (s : Entries) (hits : List ℕ) (v : Verdict) → IsCertain s → length hits ≤ limit
    → ((k p : ℕ) → slice_get hits k ≡ Some p → AsksAt asks points s (take k hits) p) → (cut_over points s hits ≡ true → v ≡ verdict.Unresolved) → (cut_over points s hits ≡ false → asks (answers_over points s hits) ≡ end_by v)
    → Runs asks points limit s hits v
runs_so asks points limit s hits v c few each paused ends = record {
  verdict = λ seed stream. ap (verdict_in asks) (whole seed stream) ∙ verdict_at asks points s seed stream limit hits c few ∙ by_cut (cut_over points s hits) refl;
  asked = λ seed stream. ap asked (whole seed stream) ∙ take_all limit hits few;
}
  where
    rests : (b : Bool) → cut_over points s hits ≡ b → (cut_over points s hits ≡ true) ⊎ Rests (asks (answers_over points s hits))
    rests true e = inl e
    rests false e = inr (subst Rests (sym (ends e)) (end_at_rest v))

    whole : (seed stream : ℕ) → whole_play asks (given_of s points seed stream limit) ≡ run_of s points seed stream limit hits
    whole seed stream = whole_is asks points s seed stream limit hits c few each (rests (cut_over points s hits) refl)

    by_cut : (b : Bool) → cut_over points s hits ≡ b → verdict_of (stopped_by (history_over points s hits)) (asks (answers_over points s hits)) ≡ v
    by_cut true e = cut_unresolved (stopped_by (history_over points s hits)) (asks (answers_over points s hits)) e ∙ sym (paused e)
    by_cut false e = goes_judged (stopped_by (history_over points s hits)) (asks (answers_over points s hits)) e ∙ ap judged (ends e) ∙ judged_end v

-- ---- a run of which nothing is recorded that resolves it

pub unresolved_unless : (asks : List Reply → Move) (points : List (List ℕ)) (limit : ℕ) (s : Entries) → IsCertain s
    → ((hits : List ℕ) (j : Judgement) → ((k p : ℕ) → slice_get hits k ≡ Some p → AsksAt asks points s (take k hits) p) → cut_over points s hits ≡ false → asks (answers_over points s hits) ≡ Done j → ⊥)
    → (seed stream : ℕ) → (outcome asks (given_of s points seed stream limit)).verdict ≡ verdict.Unresolved
unresolved_unless asks points limit s c never seed stream =
    by_goes (goes_of asks points s seed stream limit (outcome asks (given_of s points seed stream limit)).asked (outcome asks (given_of s points seed stream limit)).verdict c refl refl)
  where
    by_move : (hits : List ℕ) (v : Verdict) → Goes asks points limit s hits v → cut_over points s hits ≡ false → (m : Move) → asks (answers_over points s hits) ≡ m → Rests m → v ≡ judged m → v ≡ verdict.Unresolved
    by_move hits v goes uncut (Ask p) e r is = absurd r
    by_move hits v goes uncut (Done j) e r is = absurd (never hits j goes.asked uncut e)
    by_move hits v goes uncut Unknown e r is = is

    by_end : (hits : List ℕ) (v : Verdict) → Goes asks points limit s hits v → (b : Bool) → cut_over points s hits ≡ b → EndsBy b (asks (answers_over points s hits)) v limit (length hits) → v ≡ verdict.Unresolved
    by_end hits v goes true e ends = ends
    by_end hits v goes false e (inl h) = by_move hits v goes e (asks (answers_over points s hits)) refl h.0 h.1
    by_end hits v goes false e (inr h) = h.1

    by_goes : {hits : List ℕ} {v : Verdict} → Goes asks points limit s hits v → v ≡ verdict.Unresolved
    by_goes {hits = hits} {v = v} goes = by_end hits v goes (cut_over points s hits) refl goes.ended

-- ---- two runs with the same answers

same_list : (xs ys : List ℕ) → length xs ≡ length ys → ((k p q : ℕ) → slice_get xs k ≡ Some p → slice_get ys k ≡ Some q → p ≡ q) → xs ≡ ys
same_list [] [] e h = refl
same_list [] (y ∷ ys) e h = absurd (omega (arith, e))
same_list (x ∷ xs) [] e h = absurd (omega (arith, e))
same_list (x ∷ xs) (y ∷ ys) e h =
    ap (λ (z : ℕ). z ∷ xs) (h 0 x y refl refl) ∙ ap (λ (l : List ℕ). y ∷ l) (same_list xs ys (omega (arith, e)) (λ k p q a b. h (suc k) p q a b))

ask_is : (p q : ℕ) → Ask p ≡ Ask q → p ≡ q
ask_is p q e = cc

-- they have the same hits
pub hits_alike : (asks : List Reply → Move) (points : List (List ℕ)) (s u : Entries) (hits others : List ℕ) → IsCertain s → IsCertain u → ((k p : ℕ) → slice_get hits k ≡ Some p → AsksAt asks points s (take k hits) p)
    → ((k p : ℕ) → slice_get others k ≡ Some p → AsksAt asks points u (take k others) p) → answers_over points s hits ≡ answers_over points u others → hits ≡ others
hits_alike asks points s u hits others c d each own same =
    same_list hits others (let many = answers_many s points hits in let few = answers_many u points others in let equal = ap length same in omega (arith, many, few, equal))
    (λ k p q e f.
    let first : answers_over points s (take k hits) ≡ answers_over points u (take k others) = answers_take s points hits k c ∙ ap (take k) same ∙ sym (answers_take u points others k d) in
    ask_is p q (sym (each k p e).1 ∙ ap asks first ∙ (own k q f).1))
