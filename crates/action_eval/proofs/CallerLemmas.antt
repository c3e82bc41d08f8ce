-- For callers that hit points: the answers after one more hit, and that the run goes on if the answer is no halt.
use Rattle.std.proofs.Common.{◌≡◌, ℕ, ◌<◌, ◌≤◌, Bool, true, false, cond, List, [], ◌∷◌, ◌++◌, length, Option, Some, None, map, refl, ap, sym, ◌∙◌, arith, length-append, nat_lt, inl, inr, subst}
use Rattle.std.proofs.lemmas.List.{append-nil, map-append}
use Rattle.std.proofs.lemmas.Bool.{cases_lt}
use Rattle.std.proofs.lemmas.Bool.Decides.{nat_tests}
use Rattle.scenario_values.specs.declared.term.Task.{Task}
use Rattle.scenario_values.specs.declared.term.Task.TheVariants as task
use Rattle.action_eval.specs.declared.answer.Stop.{Stop}
use Rattle.action_eval.specs.declared.answer.Stop.TheVariants as stop
use Rattle.action_eval.specs.Answers.{Run, Hit, Reply, Halt, GoesOn, next, hit, history_of, stopped_by, stop_of, stopped, is_over, reply_to, reply_of, replies}
use Rattle.action_eval.proofs.Histories.{history-hit, history-over, stopped-more}

none_first : (b : Bool) (s : Option Stop) → cond b (Some stop.Limit) s ≡ None → b ≡ false
none_first true s e = cc
none_first false s e = refl

none_rest : (b : Bool) (s : Option Stop) → cond b (Some stop.Limit) s ≡ None → s ≡ None
none_rest true s e = cc
none_rest false s e = e

below : (limit n : ℕ) → n < limit → nat_lt n limit ≡ true
below limit n h = grind (arith, nat_tests)

not_below : (limit n : ℕ) → limit ≤ n → nat_lt n limit ≡ false
not_below limit n h = grind (arith, nat_tests)

over_more : (r : Run) (p : ℕ) → length r.hits < r.given.limit → is_over (hit r p) ≡ false
over_more r p h = not_below (length (hit r p).hits) r.given.limit (omega (arith, length-append r.hits (p ∷ [])))

past : (r : Run) (p : ℕ) → r.given.limit ≤ length r.hits → is_over (hit r p) ≡ true
past r p h = below (length (hit r p).hits) r.given.limit (omega (arith, length-append r.hits (p ∷ [])))

-- the answers are one more
pub replies_open : (r : Run) (p : ℕ) → is_over r ≡ false → replies (hit r p) ≡ replies r ++ reply_to r p ∷ []
replies_open r p here =
    let said = λ (h : Hit). reply_of h.did in
    let told : replies r ≡ map said (history_of r) = ap (λ b. map said (history_of r) ++ cond b (Halt ∷ []) []) here ∙ append-nil (map said (history_of r)) in
    elim (cases_lt (length r.hits) r.given.limit) [
      | inl h ↦
          ap (λ l. map said l ++ cond (is_over (hit r p)) (Halt ∷ []) []) (history-hit r p h)
          ∙ ap (λ b. map said (history_of r ++ next r.given (history_of r) p ∷ []) ++ cond b (Halt ∷ []) []) (over_more r p h)
          ∙ append-nil _
          ∙ map-append said (history_of r) (next r.given (history_of r) p ∷ [])
          ∙ ap (λ b. map said (history_of r) ++ cond b (said (next r.given (history_of r) p)) Halt ∷ []) (sym (below r.given.limit (length r.hits) h))
          ∙ ap (λ l. l ++ reply_to r p ∷ []) (sym told)
      | inr h ↦
          ap (λ l. map said l ++ cond (is_over (hit r p)) (Halt ∷ []) []) (history-over r p h)
          ∙ ap (λ b. map said (history_of r) ++ cond b (Halt ∷ []) []) (past r p h)
          ∙ ap (λ b. map said (history_of r) ++ cond b (said (next r.given (history_of r) p)) Halt ∷ []) (sym (not_below r.given.limit (length r.hits) h))
          ∙ ap (λ l. l ++ reply_to r p ∷ []) (sym told)
    ]

pub replies_more : (r : Run) (p : ℕ) → stopped r ≡ None → replies (hit r p) ≡ replies r ++ reply_to r p ∷ []
replies_more r p running = replies_open r p (none_first (is_over r) (stopped_by (history_of r)) running)

goes_on_task : (t : Task) (r : Run) → stopped r ≡ stop_of t → GoesOn (reply_of t) r
goes_on_task task.Off r e = e
goes_on_task (task.Return text) r e = e
goes_on_task (task.Sleep n) r e = e
goes_on_task (task.Panic text) r e = tt
goes_on_task (task.Print text) r e = e
goes_on_task task.Pause r e = tt
goes_on_task task.Yield r e = e
goes_on_task (task.Delay n) r e = e

-- what is answered with no halt goes on
pub goes_on : (r : Run) (p : ℕ) → stopped r ≡ None → GoesOn (reply_to r p) (hit r p)
goes_on r p running =
    let P : Reply → Type 0 = λ a. GoesOn a (hit r p) in
    elim (cases_lt (length r.hits) r.given.limit) [
      | inl h ↦
          let stop_is : stopped (hit r p) ≡ stop_of (next r.given (history_of r) p).did =
          ap (λ b. cond b (Some stop.Limit) (stopped_by (history_of (hit r p)))) (over_more r p h) ∙ ap stopped_by (history-hit r p h)
          ∙ stopped-more (history_of r) (next r.given (history_of r) p) (none_rest (is_over r) (stopped_by (history_of r)) running)
          in
          subst P (ap (λ b. cond b (reply_of (next r.given (history_of r) p).did) Halt) (sym (below r.given.limit (length r.hits) h))) (goes_on_task (next r.given (history_of r) p).did (hit r p) stop_is)
      | inr h ↦ subst P (ap (λ b. cond b (reply_of (next r.given (history_of r) p).did) Halt) (sym (not_below r.given.limit (length r.hits) h))) tt
    ]

-- The same for equal runs.
told_open : (r now : Run) (p : ℕ) (hits : List ℕ) (a : Reply) → r ≡ now → is_over now ≡ false → hits ≡ r.hits ++ p ∷ [] → a ≡ reply_to now p → replies (record { given = r.given; hits = hits }) ≡ replies now ++ a ∷ []
told_open r now p hits a same here more said =
    ap (λ (l : List ℕ). replies (record { given = r.given; hits = l })) more ∙ ap (λ (r : Run). replies (hit r p)) same ∙ replies_open now p here ∙ ap (λ (a : Reply). replies now ++ a ∷ []) (sym said)

pub told_by : (r now : Run) (p : ℕ) (hits : List ℕ) (a : Reply) → r ≡ now → stopped now ≡ None → hits ≡ r.hits ++ p ∷ [] → a ≡ reply_to now p → replies (record { given = r.given; hits = hits }) ≡ replies now ++ a ∷ []
told_by r now p hits a same running more said = told_open r now p hits a same (none_first (is_over now) (stopped_by (history_of now)) running) more said

pub told_within : (r now : Run) (p : ℕ) (hits : List ℕ) (a : Reply) → r ≡ now → length now.hits < now.given.limit → hits ≡ r.hits ++ p ∷ [] → a ≡ reply_to now p → replies (record { given = r.given; hits = hits }) ≡ replies now ++ a ∷ []
told_within r now p hits a same room more said = told_open r now p hits a same (not_below (length now.hits) now.given.limit (omega arith)) more said

pub goes_by : (r now : Run) (p : ℕ) (hits : List ℕ) (a : Reply) → r ≡ now → stopped now ≡ None → hits ≡ r.hits ++ p ∷ [] → a ≡ reply_to now p → GoesOn a (record { given = r.given; hits = hits })
goes_by r now p hits a same running more said =
    subst (λ (x : Reply). GoesOn x (record { given = r.given; hits = hits })) (sym said)
    (subst (λ (x : Run). GoesOn (reply_to now p) x) (sym (ap (λ (l : List ℕ). let x : Run = record { given = r.given; hits = l } in x) more ∙ ap (λ (r : Run). hit r p) same)) (goes_on now p running))
