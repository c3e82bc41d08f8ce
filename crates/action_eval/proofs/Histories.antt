-- The history of a run with one more hit.
use Rattle.std.proofs.Common.{◌≡◌, ℕ, ◌+◌, ◌≤◌, ◌<◌, List, [], ◌∷◌, ◌++◌, length, take, Option, Some, None, refl, ap, sym, ◌∙◌, arith, length-append}
use Rattle.std.specs.Option.{option_or}
use Rattle.std.proofs.lemmas.List.{take-append-le, take_all, append-nil}
use Rattle.std.proofs.lemmas.List.Sums.{sum_by-append}
use Rattle.std.proofs.lemmas.Grind.{flat_map-append}
use Rattle.action_eval.specs.Answers.{Given, Run, Hit, and_then, next, hit, history_of, asked, words_of, notes_of, notes_of_task, total_millis, millis_of, stopped_by, stop_of}

pub and_then-append : (g : Given) (h : List Hit) (ps : List ℕ) (p : ℕ) → and_then g h (ps ++ p ∷ []) ≡ and_then g h ps ++ next g (and_then g h ps) p ∷ []
and_then-append g h [] p = refl
and_then-append g h (q ∷ ps) p = and_then-append g (h ++ next g h q ∷ []) ps p

pub asked-hit : (r : Run) (p : ℕ) → length r.hits < r.given.limit → asked (hit r p) ≡ asked r ++ p ∷ []
asked-hit r p h =
    let all : take r.given.limit (r.hits ++ p ∷ []) ≡ r.hits ++ p ∷ [] = take_all r.given.limit (r.hits ++ p ∷ []) (omega (arith, length-append r.hits (p ∷ []))) in
    let before : take r.given.limit r.hits ≡ r.hits = take_all r.given.limit r.hits (omega arith) in
    cc

-- a hit below the limit is one more answered hit
pub history-hit : (r : Run) (p : ℕ) → length r.hits < r.given.limit → history_of (hit r p) ≡ history_of r ++ next r.given (history_of r) p ∷ []
history-hit r p h = ap (and_then r.given []) (asked-hit r p h) ∙ and_then-append r.given [] (asked r) p

-- one past the limit is not
pub history-over : (r : Run) (p : ℕ) → r.given.limit ≤ length r.hits → history_of (hit r p) ≡ history_of r
history-over r p h = ap (and_then r.given []) (take-append-le r.given.limit r.hits (p ∷ []) h)

-- what follows from a history, one hit later
pub words-more : (h : List Hit) (x : Hit) → words_of (h ++ x ∷ []) ≡ words_of h + x.words
words-more h x = omega (arith, sum_by-append (λ (h : Hit). h.words) h (x ∷ []))

pub millis-more : (h : List Hit) (x : Hit) → total_millis (h ++ x ∷ []) ≡ total_millis h + millis_of x.did
millis-more h x = omega (arith, sum_by-append (λ (h : Hit). millis_of h.did) h (x ∷ []))

pub notes-more : (h : List Hit) (x : Hit) → notes_of (h ++ x ∷ []) ≡ notes_of h ++ notes_of_task x.point x.did
notes-more h x = flat_map-append (λ (h : Hit). notes_of_task h.point h.did) h (x ∷ []) ∙ ap (λ l. notes_of h ++ l) (append-nil (notes_of_task x.point x.did))

option_or-none : {A : Type 0} (o : Option A) → option_or o None ≡ o
option_or-none None = refl
option_or-none (Some x) = refl

option_or-assoc : {A : Type 0} (o p q : Option A) → option_or (option_or o p) q ≡ option_or o (option_or p q)
option_or-assoc None p q = refl
option_or-assoc (Some x) p q = refl

pub stopped-on : (h : List Hit) (x : Hit) → stopped_by (h ++ x ∷ []) ≡ option_or (stop_of x.did) (stopped_by h)
stopped-on [] x = sym (option_or-none (stop_of x.did))
stopped-on (y ∷ h) x = ap (λ o. option_or o (stop_of y.did)) (stopped-on h x) ∙ option_or-assoc (stop_of x.did) (stopped_by h) (stop_of y.did)

pub stopped-more : (h : List Hit) (x : Hit) → stopped_by h ≡ None → stopped_by (h ++ x ∷ []) ≡ stop_of x.did
stopped-more h x n = stopped-on h x ∙ ap (option_or (stop_of x.did)) n ∙ option_or-none (stop_of x.did)
