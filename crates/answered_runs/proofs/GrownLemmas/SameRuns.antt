-- Scenarios of the same meaning have the same run.
use Rattle.std.proofs.Common.{◌≡◌, ℕ, zero, suc, List, [], ◌∷◌, ◌++◌, cond, map, refl, ap, sym, ◌∙◌}
use Rattle.std.proofs.lemmas.List.{append_cancel_right}
use Rattle.scenario_values.specs.Scenario.{Entries}
use Rattle.action_eval.specs.Answers.{Hit, Reply, Halt, Run, asked, cuts_short, given_of, hit, history_of, is_over, replies, reply_of, run_of}
use Rattle.action_eval.specs.SameMeaning.{Meaning, meaning_of}
use Rattle.target_trait.specs.Play.{Move, Ask, Done, Unknown, move_in}
use Rattle.target_trait.specs.declared.judgement.Judgement.TheVariants.{Kept}
use Rattle.target_trait.specs.Outcomes.{moved, play}
use Rattle.grown_plans.specs.Runs.{Met, met, met_after, run, site_after}
use Rattle.grown_plans.proofs.PlayedRuns.{history_points}

abbrev points_of : List Hit → List ℕ
points_of hs = map (λ (h : Hit). h.point) hs

abbrev replies_of : List Hit → List Reply
replies_of hs = map (λ (h : Hit). reply_of h.did) hs

met_same : (before : List Met) (hs js : List Hit) → points_of hs ≡ points_of js → replies_of hs ≡ replies_of js → met_after before hs ≡ met_after before js
met_same before [] [] p r = refl
met_same before [] (j ∷ js) p r = absurd cc
met_same before (h ∷ hs) [] p r = absurd cc
met_same before (h ∷ hs) (j ∷ js) p r =
    let point : h.point ≡ j.point = cc in
    let points : points_of hs ≡ points_of js = cc in
    let reply : reply_of h.did ≡ reply_of j.did = cc in
    let later : replies_of hs ≡ replies_of js = cc in
    ap (λ (q : ℕ). met_after (before ++ met (site_after before q) (reply_of h.did) ∷ []) hs) point
    ∙ ap (λ (x : Reply). met_after (before ++ met (site_after before j.point) x ∷ []) hs) reply
    ∙ met_same (before ++ met (site_after before j.point) (reply_of j.did) ∷ []) hs js points later

abbrev met_in : Run → List Met
met_in r = met_after [] (history_of r)

ended_same : (s t : Entries) (names : List (List ℕ)) (seed stream limit : ℕ) (hits : List ℕ) → meaning_of s names seed stream limit hits ≡ meaning_of t names seed stream limit hits
    → met_in (run_of s names seed stream limit hits) ≡ met_in (run_of t names seed stream limit hits)
ended_same s t names seed stream limit hits same =
    let r : Run = run_of s names seed stream limit hits in
    let q : Run = run_of t names seed stream limit hits in
    let points : points_of (history_of r) ≡ points_of (history_of q) = history_points r.given [] (asked r) ∙ sym (history_points q.given [] (asked q)) in
    let all : replies r ≡ replies q = ap (λ (m : Meaning). m.replies) same in
    met_same [] (history_of r) (history_of q) points (append_cancel_right (replies_of (history_of r)) (replies_of (history_of q)) (cond (is_over r) (Halt ∷ []) []) all)

moved_same : (m : Move) (r q : Run) (f g : ℕ → Run) → met_in r ≡ met_in q → ((p : ℕ) → met_in (f p) ≡ met_in (g p)) → met_in (moved m r f) ≡ met_in (moved m q g)
moved_same (Ask p) r q f g ended further = further p
moved_same (Done j) r q f g ended further = ended
moved_same Unknown r q f g ended further = ended

-- under these the two scenarios mean the same
record Alike (s t : Entries) (names : List (List ℕ)) (seed stream limit : ℕ) : Type 0 where
  at : (hits : List ℕ) → meaning_of s names seed stream limit hits ≡ meaning_of t names seed stream limit hits

played_same : (asks : List Reply → Move) (names : List (List ℕ)) (seed stream limit : ℕ) (s t : Entries) → Alike s t names seed stream limit → (n : ℕ) (hits : List ℕ)
    → met_in (play n asks (run_of s names seed stream limit hits)) ≡ met_in (play n asks (run_of t names seed stream limit hits))
unfolding play
played_same asks names seed stream limit s t same zero hits = ended_same s t names seed stream limit hits (same.at hits)
played_same asks names seed stream limit s t same (suc n) hits =
    let r : Run = run_of s names seed stream limit hits in
    let q : Run = run_of t names seed stream limit hits in
    ap (λ (m : Meaning). met_in (moved (cond (cuts_short m.stop) (Done Kept) (asks m.replies)) r (λ p. play n asks (hit r p)))) (same.at hits)
    ∙ moved_same (move_in asks q) r q (λ p. play n asks (hit r p)) (λ p. play n asks (hit q p)) (ended_same s t names seed stream limit hits (same.at hits))
    (λ p. played_same asks names seed stream limit s t same n (hits ++ p ∷ []))

pub run_same : (asks : List Reply → Move) (names : List (List ℕ)) (seed stream limit : ℕ) (s t : Entries)
    → ((hits : List ℕ) → meaning_of s names seed stream limit hits ≡ meaning_of t names seed stream limit hits)
    → run asks (given_of s names seed stream limit) ≡ run asks (given_of t names seed stream limit)
unfolding run
run_same asks names seed stream limit s t same = played_same asks names seed stream limit s t (record { at = same }) (suc limit) []
