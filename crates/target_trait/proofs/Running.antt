-- A run that goes on, hit by hit.
use Rattle.std.proofs.Common.{◌≡◌, ℕ, ◌+◌, ◌-◌, ◌<◌, ◌≤◌, Bool, true, false, cond, List, [], ◌∷◌, length, Option, None, Some, Bor, refl, sym, subst, arith, length-append}
use Rattle.std.proofs.lemmas.Bool.Decides.{nat_tests}
use Rattle.action_eval.specs.Answers.{Run, GoesOn, hit, stopped, is_over, reply_of_answer}
use Rattle.action_eval.specs.declared.answer.Answer.{Answer}
use Rattle.action_eval.specs.declared.answer.Answer.TheVariants as answer
use Rattle.action_eval.specs.declared.answer.Stop.{Stop}
use Rattle.action_eval.specs.declared.answer.Stop.TheVariants as stop
use Rattle.target_trait.specs.Play.{IsRunning}

pub runs_go : (a : Answer) (r : Run) → a ≡ answer.Go → GoesOn (reply_of_answer a) r → stopped r ≡ None
runs_go a r is goes = let P : Answer → Type 0 = λ x. GoesOn (reply_of_answer x) r in subst P is goes

return_runs : (text : Option (Bor (List ℕ))) (r : Run) → GoesOn (reply_of_answer (answer.Return text)) r → stopped r ≡ None
return_runs None r h = h
return_runs (Some text) r h = h

pub runs_return : (a : Answer) (text : Option (Bor (List ℕ))) (r : Run) → a ≡ answer.Return text → GoesOn (reply_of_answer a) r → stopped r ≡ None
runs_return a text r is goes = let P : Answer → Type 0 = λ x. GoesOn (reply_of_answer x) r in return_runs text r (subst P is goes)

pub running_at : (next : Option ℕ) (r : Run) → stopped r ≡ None → IsRunning next r
running_at None r h = tt
running_at (Some p) r h = h

-- what goes on has answered within the limit, so that each hit comes nearer to its end
not_over : (b : Bool) (s : Option Stop) → cond b (Some stop.Limit) s ≡ None → b ≡ false
not_over true s e = cc
not_over false s e = refl

few_hits : (r : Run) → is_over r ≡ false → length r.hits ≤ r.given.limit
few_hits r e = grind (arith, nat_tests)

pub nearer : (r : Run) (p : ℕ) (next : Option ℕ) → next ≡ Some p → IsRunning next r → (r' : Run) → r' ≡ hit r p → r'.given.limit + 1 - length r'.hits < r.given.limit + 1 - length r.hits
nearer r p next is running r' same =
    let goes : stopped r ≡ None = subst (λ o. IsRunning o r) is running in
    let few : length r.hits ≤ r.given.limit = few_hits r (not_over (is_over r) _ goes) in
    let P : Run → Type 0 = λ x. x.given.limit + 1 - length x.hits < r.given.limit + 1 - length r.hits in
    subst P (sym same) (omega (arith, length-append r.hits (p ∷ [])))
