-- What the whole run of a certain scenario shows of the component.
use Rattle.std.proofs.Common.{◌≡◌, ℕ, zero, suc, ◌≤◌, ◌<◌, Bool, true, false, cond, List, [], ◌∷◌, length, take, Option, Some, None, refl, ap, sym, ◌∙◌, arith, subst, ◌⊎◌, inl, inr, get_or}
use Rattle.std.specs.Prelude.{slice_get}
use Rattle.std.proofs.lemmas.Bool.{cases_lt}
use Rattle.std.proofs.lemmas.Bool.Decides.{nat_tests}
use Rattle.std.proofs.lemmas.List.{take_all, length-take, take-take}
use Rattle.std.proofs.lemmas.Option.{slice_get_within, slice_get-get_or}
use Rattle.scenario_values.specs.Scenario.{Entries}
use Rattle.action_eval.specs.declared.answer.Stop.{Stop}
use Rattle.action_eval.specs.declared.answer.Stop.TheVariants as stop
use Rattle.action_eval.specs.Answers.{Given, Run, Reply, given_of, run_of, asked, history_of, stopped, stopped_by, replies, cuts_short, is_cut_short, is_over}
use Rattle.target_trait.specs.declared.judgement.Judgement.TheVariants.{Kept, Broken}
use Rattle.target_trait.specs.declared.judgement.Verdict.{Verdict}
use Rattle.target_trait.specs.declared.judgement.Verdict.TheVariants as verdict
use Rattle.target_trait.specs.Cuts.{IsAsking}
use Rattle.target_trait.specs.Play.{Move, Ask, Done, Unknown, FollowsOn, move_in}
use Rattle.target_trait.specs.Outcomes.{judged, outcome, verdict_in, verdict_of, whole_play}
use Rattle.answered_runs.specs.Agreement.{IsCertain, end_by, move_said}
use Rattle.answered_runs.proofs.CertainAnswers.{answers_are, answers_over, history_over, stop_is}
use Rattle.answered_runs.proofs.LinePlays.{Played, Rests, asked_so, cut_rests, follows_at, follows_of, moves_so, played_whole, run_with, whole_played}

-- whether a pause cuts short the run in which these were hit
abbrev pub cut_over : List (List ℕ) → Entries → List ℕ → Bool
cut_over points s hits = cuts_short (stopped_by (history_over points s hits))

-- after these hits this point is asked
abbrev pub AsksAt : (List Reply → Move) → List (List ℕ) → Entries → List ℕ → ℕ → Type 0
AsksAt asks points s hits p = (cut_over points s hits ≡ false) × (asks (answers_over points s hits) ≡ Ask p)

-- how a run ends: cut short by a pause, at rest, or at the limit
abbrev pub EndsBy : Bool → Move → Verdict → ℕ → ℕ → Type 0
EndsBy true m v limit count = v ≡ verdict.Unresolved
EndsBy false m v limit count = (Rests m × (v ≡ judged m)) ⊎ (IsAsking m × (v ≡ verdict.Unresolved) × (limit ≡ count))

-- the whole run under a scenario has these hits and this verdict
pub record Goes (asks : List Reply → Move) (points : List (List ℕ)) (limit : ℕ) (s : Entries) (hits : List ℕ) (v : Verdict) : Type 0 where
  pub few : length hits ≤ limit
  pub asked : (k p : ℕ) → slice_get hits k ≡ Some p → AsksAt asks points s (take k hits) p
  pub ended : EndsBy (cut_over points s hits) (asks (answers_over points s hits)) v limit (length hits)

-- ---- lists

slice_get_take : {A : Type 0} (xs : List A) (n k : ℕ) (x : A) → slice_get (take n xs) k ≡ Some x → (slice_get xs k ≡ Some x) × (k < n)
slice_get_take [] zero k x e = absurd cc
slice_get_take [] (suc n) k x e = absurd cc
slice_get_take (y ∷ ys) zero k x e = absurd cc
slice_get_take (y ∷ ys) (suc n) zero x e = (e, omega arith)
slice_get_take (y ∷ ys) (suc n) (suc k) x e = let later = slice_get_take ys n k x e in (later.0, let less = later.1 in omega (arith, less))

pub no_more : (xs : List ℕ) (k : ℕ) → slice_get xs k ≡ None → length xs ≤ k
no_more xs k e = elim (cases_lt k (length xs)) [
  | inl less ↦ absurd (let some = slice_get-get_or xs k 0 less in cc)
  | inr most ↦ most
]

-- ---- the runs of a certain scenario

asks_at : (asks : List Reply → Move) (points : List (List ℕ)) (s : Entries) (seed stream limit : ℕ) (hits : List ℕ) (p : ℕ) → IsCertain s → length hits ≤ limit
    → move_in asks (run_of s points seed stream limit hits) ≡ Ask p → AsksAt asks points s hits p
asks_at asks points s seed stream limit hits p c few e =
    let so = asked_so asks (run_of s points seed stream limit hits) p e in
    (ap cuts_short (sym (stop_is s points seed stream limit hits c few)) ∙ so.0, ap asks (sym (answers_are s points seed stream limit hits c few)) ∙ so.1)

asks_back : (asks : List Reply → Move) (points : List (List ℕ)) (s : Entries) (seed stream limit : ℕ) (hits : List ℕ) (p : ℕ) → IsCertain s → length hits ≤ limit
    → AsksAt asks points s hits p → move_in asks (run_of s points seed stream limit hits) ≡ Ask p
asks_back asks points s seed stream limit hits p c few at =
    moves_so asks (run_of s points seed stream limit hits) (Ask p) (ap cuts_short (stop_is s points seed stream limit hits c few) ∙ at.0)
    (ap asks (answers_are s points seed stream limit hits c few) ∙ at.1)

few_taken : (hits : List ℕ) (k limit : ℕ) → k ≤ limit → length (take k hits) ≤ limit
few_taken hits k limit le = omega (arith, le, length-take k hits)

-- what is asked is asked after the answers up to then
pub each_asked : (asks : List Reply → Move) (points : List (List ℕ)) (s : Entries) (seed stream limit : ℕ) (hits : List ℕ) → IsCertain s → FollowsOn asks (given_of s points seed stream limit) [] hits
    → (k p : ℕ) → k ≤ limit → slice_get hits k ≡ Some p → AsksAt asks points s (take k hits) p
each_asked asks points s seed stream limit hits c f k p le e =
    asks_at asks points s seed stream limit (take k hits) p c (few_taken hits k limit le) (follows_at asks (given_of s points seed stream limit) [] hits k p f e)

-- A run in which each hit is the one that is asked, up to where nothing is, is the whole one.
pub whole_is : (asks : List Reply → Move) (points : List (List ℕ)) (s : Entries) (seed stream limit : ℕ) (hits : List ℕ) → IsCertain s → length hits ≤ limit
    → ((k p : ℕ) → slice_get hits k ≡ Some p → AsksAt asks points s (take k hits) p) → (cut_over points s hits ≡ true) ⊎ Rests (asks (answers_over points s hits))
    → whole_play asks (given_of s points seed stream limit) ≡ run_of s points seed stream limit hits
whole_is asks points s seed stream limit hits c few each ends =
    played_whole asks g hits (follows_of asks g [] hits (λ k p e. let less = slice_get_within hits k p e in asks_back asks points s seed stream limit (take k hits) p c (few_taken hits k limit (omega (arith, less, few))) (each k p e)))
    (rests ends) few
  where
    g : Given
    g = given_of s points seed stream limit

    by_cut : (b : Bool) → is_cut_short (run_with g hits) ≡ b → Rests (asks (answers_over points s hits)) → Rests (move_in asks (run_with g hits))
    by_cut true e r = cut_rests asks (run_with g hits) e
    by_cut false e r = subst Rests (sym (moves_so asks (run_with g hits) (asks (answers_over points s hits)) e (ap asks (answers_are s points seed stream limit hits c few)))) r

    rests : (cut_over points s hits ≡ true) ⊎ Rests (asks (answers_over points s hits)) → Rests (move_in asks (run_with g hits))
    rests (inl cut) = cut_rests asks (run_with g hits) (ap cuts_short (stop_is s points seed stream limit hits c few) ∙ cut)
    rests (inr r) = by_cut (is_cut_short (run_with g hits)) refl r

-- the verdict of a run that the limit doesn't stop
pub verdict_at : (asks : List Reply → Move) (points : List (List ℕ)) (s : Entries) (seed stream limit : ℕ) (hits : List ℕ) → IsCertain s → length hits ≤ limit
    → verdict_in asks (run_of s points seed stream limit hits) ≡ verdict_of (stopped_by (history_over points s hits)) (asks (answers_over points s hits))
verdict_at asks points s seed stream limit hits c few =
    ap (λ (o : Option Stop). verdict_of o (asks (replies (run_of s points seed stream limit hits)))) (stop_is s points seed stream limit hits c few)
    ∙ ap (λ (answers : List Reply). verdict_of (stopped_by (history_over points s hits)) (asks answers)) (answers_are s points seed stream limit hits c few)

pub cut_unresolved : (o : Option Stop) (m : Move) → cuts_short o ≡ true → verdict_of o m ≡ verdict.Unresolved
cut_unresolved None m e = absurd cc
cut_unresolved (Some stop.Panic) m e = absurd cc
cut_unresolved (Some stop.Paused) m e = refl
cut_unresolved (Some stop.Limit) m e = refl

pub goes_judged : (o : Option Stop) (m : Move) → cuts_short o ≡ false → verdict_of o m ≡ judged m
goes_judged None m e = refl
goes_judged (Some stop.Panic) m e = refl
goes_judged (Some stop.Paused) m e = absurd cc
goes_judged (Some stop.Limit) m e = absurd cc

-- ---- what the whole run shows

goes : (asks : List Reply → Move) (points : List (List ℕ)) (s : Entries) (seed stream limit : ℕ) → IsCertain s → Played asks (given_of s points seed stream limit) (suc limit) (whole_play asks (given_of s points seed stream limit))
    → (hits : List ℕ) (v : Verdict) → (outcome asks (given_of s points seed stream limit)).asked ≡ hits → (outcome asks (given_of s points seed stream limit)).verdict ≡ v → Goes asks points limit s hits v
goes asks points s seed stream limit c played hits v asked_are verdict_is =
    subst (λ (l : List ℕ). Goes asks points limit s l v) (sym (ap (λ (r : Run). asked r) played.run_is) ∙ asked_are) (by_end played.ended)
  where
    W : List ℕ
    W = played.hits

    g : Given
    g = given_of s points seed stream limit

    judged_so : verdict_in asks (run_with g W) ≡ v
    judged_so = ap (verdict_in asks) (sym played.run_is) ∙ verdict_is

    few : length (take limit W) ≤ limit
    few = omega (arith, length-take limit W)

    same : (k : ℕ) → k ≤ limit → take k (take limit W) ≡ take k W
    same k le = take-take k limit W le

    each : (k p : ℕ) → slice_get (take limit W) k ≡ Some p → AsksAt asks points s (take k (take limit W)) p
    each k p e =
        let at = slice_get_take W limit k p e in
        let le : k ≤ limit = let less = at.1 in omega (arith, less) in
        subst (λ (l : List ℕ). AsksAt asks points s l p) (sym (same k le)) (each_asked asks points s seed stream limit W c played.follows k p le at.0)

    -- at the limit one more was asked
    full : length W ≡ suc limit → EndsBy (cut_over points s (take limit W)) (asks (answers_over points s (take limit W))) v limit (length (take limit W))
    full many =
        let p : ℕ = get_or W limit 0 in
        let at : AsksAt asks points s (take limit W) p =
        each_asked asks points s seed stream limit W c played.follows limit p (omega arith) (slice_get-get_or W limit 0 (omega (arith, many)))
        in
        let over : is_over (run_with g W) ≡ true = grind (arith, nat_tests, many) in
        let stops : stopped (run_with g W) ≡ Some stop.Limit = ap (λ (b : Bool). cond b (Some stop.Limit) (stopped_by (history_of (run_with g W)))) over in
        let unresolved : v ≡ verdict.Unresolved = sym judged_so ∙ ap (λ (o : Option Stop). verdict_of o (asks (replies (run_with g W)))) stops in
        let asking : IsAsking (asks (answers_over points s (take limit W))) = subst IsAsking (sym at.1) tt in
        let count : limit ≡ length (take limit W) = omega (arith, many, length-take limit W) in
        subst (λ (b : Bool). EndsBy b (asks (answers_over points s (take limit W))) v limit (length (take limit W))) (sym at.0) (inr (asking, unresolved, count))

    -- below the limit it rests
    by_cut : (b : Bool) → cut_over points s W ≡ b → length W ≤ limit → Rests (move_in asks (run_with g W)) → EndsBy b (asks (answers_over points s W)) v limit (length W)
    by_cut true e le rests = sym judged_so ∙ verdict_at asks points s seed stream limit W c le ∙ cut_unresolved (stopped_by (history_over points s W)) (asks (answers_over points s W)) e
    by_cut false e le rests =
        let move : move_in asks (run_with g W) ≡ asks (answers_over points s W) =
        moves_so asks (run_with g W) (asks (answers_over points s W)) (ap cuts_short (stop_is s points seed stream limit W c le) ∙ e) (ap asks (answers_are s points seed stream limit W c le))
        in
        inl (subst Rests move rests, sym judged_so ∙ verdict_at asks points s seed stream limit W c le ∙ goes_judged (stopped_by (history_over points s W)) (asks (answers_over points s W)) e)

    by_end : (length W ≡ suc limit) ⊎ ((length W < suc limit) × Rests (move_in asks (run_with g W))) → Goes asks points limit s (take limit W) v
    by_end (inl many) = record { few = few; asked = each; ended = full many }
    by_end (inr h) =
        let less = h.0 in
        let le : length W ≤ limit = omega (arith, less) in
        record {
          few = few;
          asked = each;
          ended = subst (λ (l : List ℕ). EndsBy (cut_over points s l) (asks (answers_over points s l)) v limit (length l)) (sym (take_all limit W le)) (by_cut (cut_over points s W) refl le h.1);
        }

pub goes_of : (asks : List Reply → Move) (points : List (List ℕ)) (s : Entries) (seed stream limit : ℕ) (hits : List ℕ) (v : Verdict) → IsCertain s
    → (outcome asks (given_of s points seed stream limit)).asked ≡ hits → (outcome asks (given_of s points seed stream limit)).verdict ≡ v → Goes asks points limit s hits v
goes_of asks points s seed stream limit hits v c = goes asks points s seed stream limit c (whole_played asks (given_of s points seed stream limit)) hits v

-- ---- what a line says

-- The component does this after these answers, or the limit keeps it from asking more.
abbrev pub Tells : (List Reply → Move) → ℕ → ℕ → List Reply → Move → Type 0
Tells asks limit count answers move =
    ((move ≡ asks answers) × (IsAsking move → count < limit)) ⊎ ((move ≡ Unknown) × (limit ≡ count) × IsAsking (asks answers))

end_judged : (m : Move) → Rests m → end_by (judged m) ≡ m
end_judged (Ask p) h = absurd h
end_judged (Done Kept) h = refl
end_judged (Done (Broken code)) h = refl
end_judged Unknown h = refl

pub end_rests : (v : Verdict) → IsAsking (end_by v) → ⊥
end_rests verdict.Pass h = h
end_rests (verdict.Fail code) h = h
end_rests verdict.Unresolved h = h

pub tells_of : (asks : List Reply → Move) (points : List (List ℕ)) (limit : ℕ) (s : Entries) (hits : List ℕ) (v : Verdict) → Goes asks points limit s hits v → (count : ℕ) → count ≤ length hits
    → cut_over points s (take count hits) ≡ false → Tells asks limit count (answers_over points s (take count hits)) (move_said v (slice_get hits count))
tells_of asks points limit s hits v goes count within uncut = by_next (slice_get hits count) refl
  where
    at_end : length hits ≤ count → (b : Bool) → b ≡ false → EndsBy b (asks (answers_over points s hits)) v limit (length hits) → Tells asks limit count (answers_over points s hits) (end_by v)
    at_end all true e ends = absurd cc
    at_end all false e (inl h) = inl (ap end_by h.1 ∙ end_judged (asks (answers_over points s hits)) h.0, λ asking. absurd (end_rests v asking))
    at_end all false e (inr h) = let most = h.2 in inr (ap end_by h.1, omega (arith, most, within, all), h.0)

    by_next : (o : Option ℕ) → slice_get hits count ≡ o → Tells asks limit count (answers_over points s (take count hits)) (move_said v o)
    by_next (Some p) e =
        let less = slice_get_within hits count p e in
        let few = goes.few in
        inl (sym (goes.asked count p e).1, λ asking. omega (arith, less, few))
    by_next None e =
        let all = no_more hits count e in
        let whole : take count hits ≡ hits = take_all count hits all in
        subst (λ (l : List ℕ). Tells asks limit count (answers_over points s l) (end_by v)) (sym whole)
        (at_end all (cut_over points s hits) (ap (cut_over points s) (sym whole) ∙ uncut) goes.ended)
