-- A hit answered again by what is left of the counts is the next hit of the run.
use Rattle.std.proofs.Common.{◌≡◌, ℕ, ◌+◌, ◌≤◌, ◌<◌, List, [], ◌∷◌, ◌++◌, length, Option, Some, None, refl, ap, sym, ◌∙◌, arith, subst}
use Rattle.std.specs.List.{slice_range}
use Rattle.std.specs.Option.{IfSome}
use Rattle.scenario_values.specs.declared.term.Term.{Term}
use Rattle.scenario_values.specs.Scenario.{Entries, IsScenario, chain_at, chain_of}
use Rattle.action_eval.specs.Words.{word, Drawn}
use Rattle.action_eval.specs.Trial.{tried, is_spent}
use Rattle.action_eval.specs.Answers.{Given, Run, Hit, next, hit_by, history_of, name_of, trial, acted, is_used_up, words_of, task_at}
use Rattle.action_eval.specs.inside.Session.{left_counts, found_of, left_after, start_of}
use Rattle.action_eval.specs.inside.Replay.{trial_by, chain_or_none}
use Rattle.action_eval.proofs.NamedCounts.{found, trial_by_counts, stands, stands_nowhere, ends_within}
use Rattle.action_eval.proofs.Histories.{words-more, history-hit}
use Rattle.action_eval.proofs.Steps.{finds, finds_nothing, short_at}

-- the words of a run after these hits
abbrev pub drawn_by : Given → List Hit → Drawn
drawn_by g h = record { seed = g.seed; stream = g.stream; taken = words_of h }

-- what a replayed hit leaves
pub record Replays (r : Run) (p : ℕ) (left : List ℕ) (chain : List Term × ℕ) : Type 0 where
  pub hit : hit_by chain.0 (name_of r.given p) (words_of (history_of r)) p (trial_by left (drawn_by r.given (history_of r)) chain) ≡ next r.given (history_of r) p
  pub left_is : left_after left chain.1 (trial_by left (drawn_by r.given (history_of r)) chain).place ≡ left_counts (history_of r ++ next r.given (history_of r) p ∷ []) r.given.scenario
  pub taken_is : (trial_by left (drawn_by r.given (history_of r)) chain).next ≡ words_of (history_of r ++ next r.given (history_of r) p ∷ [])
  pub few : (next r.given (history_of r) p).words ≤ 256

-- what the counts of a chain take up
pub record Fits (left : List ℕ) (chain : List Term × ℕ) : Type 0 where
  pub within : chain.1 + length chain.0 ≤ length left
  pub short : length chain.0 ≤ 256

fits_found : (h : List Hit) (s : Entries) (name : List ℕ) (left : List ℕ) (whole : List Term × ℕ) → IsScenario s → left ≡ left_counts h s → found_of s name ≡ Some whole → Fits left whole
fits_found h s name left whole is left_is at =
    let w = stands s name whole at in
    let f = found s name w.number w.entry in
    let size : length whole.0 ≡ length (chain_at s w.number) = ap length w.chain in
    record { within = omega (arith, ends_within h s w.number f.within, ap length left_is, size, w.start); short = omega (arith, size, short_at s w.number is.short_chains) }

pub fits : (h : List Hit) (s : Entries) (left : List ℕ) → IsScenario s → left ≡ left_counts h s → (name : List ℕ) (o : Option (List Term × ℕ)) → found_of s name ≡ o → Fits left (chain_or_none o)
fits h s left is left_is name None at = record { within = omega arith; short = omega arith }
fits h s left is left_is name (Some whole) at = fits_found h s name left whole is left_is at

replays_none : (r : Run) (p : ℕ) (left : List ℕ) → left ≡ left_counts (history_of r) r.given.scenario → found_of r.given.scenario (name_of r.given p) ≡ None → Replays r p left ([], 0)
replays_none r p left left_is at =
    let h = history_of r in
    let name = name_of r.given p in
    let f = finds_nothing r p left _ left_is at refl in
    let more = words-more h (next r.given h p) in
    record {
      hit = sym (ap (λ (c : List Term). hit_by c name (words_of h) p (tried (word r.given.seed r.given.stream) (is_used_up (acted h name)) 0 c (words_of h))) (stands_nowhere r.given.scenario name at));
      left_is = f.left_is;
      taken_is = f.taken_is ∙ sym more;
      few = f.few;
    }

replays_some : (r : Run) (p : ℕ) (left : List ℕ) (whole : List Term × ℕ) → IsScenario r.given.scenario → left ≡ left_counts (history_of r) r.given.scenario → found_of r.given.scenario (name_of r.given p) ≡ Some whole
    → IfSome (trial_by left (drawn_by r.given (history_of r)) whole).place (λ i. i < length whole.0) → Replays r p left whole
replays_some r p left whole is left_is at within =
    let g = r.given in
    let h = history_of r in
    let name = name_of g p in
    let t = trial_by left (drawn_by g h) whole in
    let s = stands g.scenario name whole at in
    let e = s.number in
    let f = found g.scenario name e s.entry in
    let w = word g.seed g.stream in
    let step = finds r p left is left_is whole.0 whole.1 at t.place (task_at whole.0 t.place) t.next refl refl within refl in
    let same : t ≡ trial g h name =
    ap (λ (k : ℕ). tried w (is_spent (slice_range left k (k + length whole.0))) 0 whole.0 (words_of h)) s.start
    ∙ ap (λ (c : List Term). tried w (is_spent (slice_range left (start_of g.scenario e) (start_of g.scenario e + length c))) 0 c (words_of h)) s.chain
    ∙ trial_by_counts g h left name e left_is s.entry
    in
    let more = words-more h (next g h p) in
    record {
      hit = ap (λ (c : List Term). hit_by c name (words_of h) p t) (s.chain ∙ f.chain) ∙ ap (hit_by (chain_of g.scenario name) name (words_of h) p) same;
      left_is = step.left_is;
      taken_is = step.taken_is ∙ sym more;
      few = step.few;
    }

replays : (r : Run) (p : ℕ) (left : List ℕ) → IsScenario r.given.scenario → left ≡ left_counts (history_of r) r.given.scenario → (o : Option (List Term × ℕ)) → found_of r.given.scenario (name_of r.given p) ≡ o
    → IfSome (trial_by left (drawn_by r.given (history_of r)) (chain_or_none o)).place (λ i. i < length (chain_or_none o).0) → Replays r p left (chain_or_none o)
replays r p left is left_is None at within = replays_none r p left left_is at
replays r p left is left_is (Some whole) at within = replays_some r p left whole is left_is at within

-- what is kept of a run so far
pub record Kept (r : Run) (left : List ℕ) (draws : Drawn) (hits : List Hit) : Type 0 where
  pub left_is : left ≡ left_counts (history_of r) r.given.scenario
  pub draws_is : draws ≡ drawn_by r.given (history_of r)
  pub hits_are : hits ≡ history_of r

-- the counts of a chain that was found are among all, and few
pub fits_found_by : (r : Run) (left : List ℕ) → IsScenario r.given.scenario → left ≡ left_counts (history_of r) r.given.scenario → (name : List ℕ) (found : List Term × ℕ) → found ≡ chain_or_none (found_of r.given.scenario name) → Fits left found
fits_found_by r left is left_is name found found_is =
    subst (Fits left) (sym found_is) (fits (history_of r) r.given.scenario left is left_is name (found_of r.given.scenario name) refl)

-- one more hit is kept
pub replayed : (r : Run) (p : ℕ) (left : List ℕ) (draws : Drawn) (hits : List Hit) → IsScenario r.given.scenario → Kept r left draws hits → length r.hits < r.given.limit
    → (after : List ℕ) → after ≡ r.hits ++ p ∷ [] → (name : List ℕ) → name ≡ name_of r.given p → (found : List Term × ℕ) → found ≡ chain_or_none (found_of r.given.scenario name)
    → IfSome (trial_by left draws found).place (λ i. i < length found.0)
    → (x : Hit) → x ≡ hit_by found.0 name draws.taken p (trial_by left draws found)
    → (left' : List ℕ) → left' ≡ left_after left found.1 (trial_by left draws found).place
    → (draws' : Drawn) → draws' ≡ record draws { taken = (trial_by left draws found).next }
    → (hits' : List Hit) → hits' ≡ hits ++ x ∷ []
    → Kept (record { given = r.given; hits = after }) left' draws' hits' × (words_of (history_of (record { given = r.given; hits = after })) ≤ words_of (history_of r) + 256)
replayed r p left draws hits is k room after after_is name name_is found found_is within x x_is left' left'_is draws' draws'_is hits' hits'_is =
    let g = r.given in
    let s = g.scenario in
    let h = history_of r in
    let o = found_of s (name_of g p) in
    let f : List Term × ℕ = chain_or_none o in
    let same : found ≡ f = found_is ∙ ap (λ (n : List ℕ). chain_or_none (found_of s n)) name_is in
    let within_f : IfSome (trial_by left draws f).place (λ i. i < length f.0) = subst (λ (c : List Term × ℕ). IfSome (trial_by left draws c).place (λ i. i < length c.0)) same within in
    let here : IfSome (trial_by left (drawn_by g h) f).place (λ i. i < length f.0) = subst (λ (d : Drawn). IfSome (trial_by left d f).place (λ i. i < length f.0)) k.draws_is within_f in
    let step = replays r p left is k.left_is o refl here in
    let more : history_of (record { given = g; hits = after }) ≡ h ++ next g h p ∷ [] = ap (λ (ps : List ℕ). history_of (record { given = g; hits = ps })) after_is ∙ history-hit r p room in
    let x_next : x ≡ next g h p =
    x_is
    ∙ ap (λ (c : List Term × ℕ). hit_by c.0 name draws.taken p (trial_by left draws c)) same
    ∙ ap (λ (n : List ℕ). hit_by f.0 n draws.taken p (trial_by left draws f)) name_is
    ∙ ap (λ (d : Drawn). hit_by f.0 (name_of g p) d.taken p (trial_by left d f)) k.draws_is
    ∙ step.hit
    in
    let left_next : left' ≡ left_counts (h ++ next g h p ∷ []) s =
    left'_is
    ∙ ap (λ (c : List Term × ℕ). left_after left c.1 (trial_by left draws c).place) same
    ∙ ap (λ (d : Drawn). left_after left f.1 (trial_by left d f).place) k.draws_is
    ∙ step.left_is
    in
    let with : Drawn → ℕ → Drawn = λ d n. record { seed = d.seed; stream = d.stream; taken = n } in
    let draws_next : draws' ≡ drawn_by g (h ++ next g h p ∷ []) =
    draws'_is
    ∙ ap (λ (c : List Term × ℕ). with draws (trial_by left draws c).next) same
    ∙ ap (λ (d : Drawn). with d (trial_by left d f).next) k.draws_is
    ∙ ap (λ (n : ℕ). with (drawn_by g h) n) step.taken_is
    in
    let words : words_of (history_of (record { given = g; hits = after })) ≡ words_of h + (next g h p).words = ap words_of more ∙ words-more h (next g h p) in (
      record {
        left_is = left_next ∙ ap (λ (l : List Hit). left_counts l s) (sym more);
        draws_is = draws_next ∙ ap (drawn_by g) (sym more);
        hits_are = hits'_is ∙ ap (λ (l : List Hit). l ++ x ∷ []) k.hits_are ∙ ap (λ (y : Hit). h ++ y ∷ []) x_next ∙ sym more;
      },
      omega (arith, words, step.few),
    )
