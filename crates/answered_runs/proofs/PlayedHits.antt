-- Runs within their limits: how many answers they have, the answers to their first hits, and that the limit doesn't matter.
use Rattle.std.proofs.Common.{◌≡◌, ℕ, ◌+◌, ◌≤◌, List, [], ◌∷◌, ◌++◌, length, take, refl, ap, sym, ◌∙◌, arith}
use Rattle.std.proofs.lemmas.List.{length-append, length-map, length-take-le, take-map, take_all}
use Rattle.scenario_values.specs.Scenario.{Entries}
use Rattle.action_eval.specs.Answers.{Given, Hit, Run, and_then, given_of, history_of, is_cut_short, next, replies, reply_of, run_of, stopped_by, cuts_short}
use Rattle.action_eval.proofs.RunLaws.{history_part}
use Rattle.target_trait.proofs.CutLawsLemmas.CutHits.{replies_are, said, short_is}
use Rattle.answered_runs.specs.Agreement.{run_over}

module _ (points : List (List ℕ)) (s : Entries) where
  -- the answered hits, whatever the limit
  same_hits : (m n : ℕ) (done : List Hit) (hits : List ℕ) → and_then (given_of s points 0 0 m) done hits ≡ and_then (given_of s points 0 0 n) done hits
  same_hits m n done [] = refl
  same_hits m n done (p ∷ ps) = same_hits m n (done ++ next (given_of s points 0 0 n) done p ∷ []) ps

  history_in : (limit : ℕ) (hits : List ℕ) → length hits ≤ limit → history_of (run_of s points 0 0 limit hits) ≡ and_then (given_of s points 0 0 0) [] hits
  history_in limit hits few = ap (and_then (given_of s points 0 0 limit) []) (take_all limit hits few) ∙ same_hits limit 0 [] hits

  replies_in : (limit : ℕ) (hits : List ℕ) → length hits ≤ limit → replies (run_of s points 0 0 limit hits) ≡ said (and_then (given_of s points 0 0 0) [] hits)
  replies_in limit hits few = replies_are (given_of s points 0 0 limit) hits (and_then (given_of s points 0 0 0) [] hits) few (history_in limit hits few)

  short_in : (limit : ℕ) (hits : List ℕ) → length hits ≤ limit → is_cut_short (run_of s points 0 0 limit hits) ≡ cuts_short (stopped_by (and_then (given_of s points 0 0 0) [] hits))
  short_in limit hits few = short_is (given_of s points 0 0 limit) hits (and_then (given_of s points 0 0 0) [] hits) few (history_in limit hits few)

  -- a limit that isn't passed doesn't matter
  pub replies_over : (limit : ℕ) (hits : List ℕ) → length hits ≤ limit → replies (run_of s points 0 0 limit hits) ≡ replies (run_over points s hits)
  replies_over limit hits few = replies_in limit hits few ∙ sym (replies_in (length hits) hits (omega arith))

  pub short_over : (limit : ℕ) (hits : List ℕ) → length hits ≤ limit → is_cut_short (run_of s points 0 0 limit hits) ≡ is_cut_short (run_over points s hits)
  short_over limit hits few = short_in limit hits few ∙ sym (short_in (length hits) hits (omega arith))

  -- as many answers as hits
  length_hits : (g : Given) (done : List Hit) (hits : List ℕ) → length (and_then g done hits) ≡ length done + length hits
  length_hits g done [] = omega arith
  length_hits g done (p ∷ ps) =
      let rest = length_hits g (done ++ next g done p ∷ []) ps in
      let more = length-append done (next g done p ∷ []) in
      omega (arith, rest, more)

  pub length_replies : (hits : List ℕ) → length (replies (run_over points s hits)) ≡ length hits
  length_replies hits =
      ap length (replies_in (length hits) hits (omega arith)) ∙ length-map (and_then (given_of s points 0 0 0) [] hits) (λ (x : Hit). reply_of x.did)
      ∙ length_hits (given_of s points 0 0 0) [] hits ∙ (let zero_first : 0 + length hits ≡ length hits = omega arith in zero_first)

  -- the answers to the first hits
  pub replies_part : (count : ℕ) (hits : List ℕ) → count ≤ length hits → replies (run_over points s (take count hits)) ≡ take count (replies (run_over points s hits))
  replies_part count hits le =
      let all : ℕ = length hits in
      let r : Run = run_of s points 0 0 all hits in
      let few : length (take count hits) ≤ all = (let l = length-take-le count hits le in omega (arith, l, le)) in
      sym (replies_over all (take count hits) few)
      ∙ replies_are (given_of s points 0 0 all) (take count hits) (take count (history_of r)) few (history_part r count)
      ∙ sym (take-map _ count (history_of r))
      ∙ ap (take count) (sym (replies_are (given_of s points 0 0 all) hits (history_of r) (omega arith) refl))
