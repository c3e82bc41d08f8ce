-- Rounds of points that are answered to go on, one after another.
use Rattle.std.proofs.Common.{◌≡◌, ◌<◌, ◌≤◌, ℕ, zero, suc, ◌+◌, Bool, true, false, cond, List, ◌∷◌, length, replicate, ◌==◌, Option, Some, None, refl, ap, sym, ◌∙◌, subst, arith}
use Rattle.action_eval.specs.Answers.{Run, Go, AllGo, hits_of, rounds, stopped}
use Rattle.target_trait.specs.Machine.{Reached, AsksInTurn}
use Rattle.target_trait.proofs.Machine.{gone, reached_on}
use Rattle.commit_target.specs.declared.variant.Variant.{Variant}
use Rattle.commit_target.specs.declared.variant.Variant.TheVariants.{Sound, LazyPrepare, EarlyEnd, TwoTries, EndFirst}
use Rattle.commit_target.specs.declared.work.Vote.{Vote}
use Rattle.commit_target.specs.declared.work.Vote.TheVariants.{Yes}
use Rattle.commit_target.specs.declared.records.Write.{Write}
use Rattle.commit_target.specs.declared.records.Kind.TheVariants as kind
use Rattle.commit_target.specs.declared.records.Party.TheVariants.{Participant}
use Rattle.commit_target.specs.declared.records.Write.TheVariants.{Force}
use Rattle.commit_target.specs.Work.{Work, wish}
use Rattle.commit_target.specs.Writes.{Event, Written, AllLogs}
use Rattle.commit_target.specs.Steps.{SendCommit, SendAck, SendAbort, commit_to, end_unless, with_write, entry, Step, SendPrepare, ForcePrepare, SendVote, ForceCommit, Tally, State, machine, number, at_step, with_yes, first_of, one_of, abort_to, aborted, prepare_to, vote_step, prepare_write}
use Rattle.commit_target.specs.inside.Batches.{all_written, AddsAll, prepares, with_all_yes, abort_write}
use Rattle.commit_target.specs.inside.Seen.{Due, at_commit, commit_points, Here, Stands, at_vote, at_abort, WishYes, vote_points}
use Rattle.commit_target.proofs.Playing.{begun_step, commit_at, same_end, same_prepare, some_of}

-- ---- where the steps lead doesn't depend on the step

abort_step : (w : Work) (t : Tally) (step : Step) (next : Option ℕ) → abort_to w (at_step t step) next ≡ abort_to w t next
abort_step w t step (Some k) = refl
abort_step w t step None = begun_step w t step

vote_at : (w : Work) (t : Tally) (step : Step) (next : Option ℕ) → prepare_to w (at_step t step) next ≡ prepare_to w t next
vote_at w t step (Some i) = refl
vote_at w t step None = in_case (length t.yes == w.participants)
  where
    in_case : (all : Bool) → cond all (at_step (at_step t step) ForceCommit) (aborted w (at_step t step)) ≡ cond all (at_step t ForceCommit) (aborted w t)
    in_case true = refl
    in_case false = abort_step w t step (first_of (length t.yes))

-- ---- a round of votes

abbrev later : Variant → Work → Tally → ℕ → List Event → State
later v w t i es = at_vote w (with_yes t i) (i + 1) (Written (prepare_write v t i) ∷ es)

asks_first : (w : Work) (t : Tally) (i : ℕ) (es : List Event) → i < w.participants → at_vote w t i es ≡ record { tally = at_step t (SendPrepare i); events = es }
asks_first w t i es h = ap (λ (o : Option ℕ). let s : State = record { tally = prepare_to w t o; events = es } in s) (some_of i w.participants h)

chosen : Tally → ℕ → List Event → Vote → State
chosen t i es vote = record { tally = at_step t (vote_step vote i); events = es }

voted : (v : Variant) (w : Work) (t : Tally) (i : ℕ) (es : List Event)
    → (machine v w).step (record { tally = at_step t (SendVote i Yes); events = Written (prepare_write v (at_step t (ForcePrepare i)) i) ∷ es }) Go ≡ later v w t i es
voted v w t i es =
    ap (λ (u : Tally). let s : State = record { tally = u; events = Written (prepare_write v (at_step t (ForcePrepare i)) i) ∷ es } in s) (vote_at w (with_yes t i) (SendVote i Yes) (one_of (i + 1) w.participants))
    ∙ ap (λ (x : Write). at_vote w (with_yes t i) (i + 1) (Written x ∷ es)) (sym (same_prepare v t (ForcePrepare i) i))

vote_gone : (v : Variant) (w : Work) (t : Tally) (i : ℕ) (es : List Event) (ps : List ℕ) → i < w.participants → wish w (number t) i ≡ Yes
    → gone (machine v w) (at_vote w t i es) (0 ∷ 1 ∷ 2 ∷ ps) ≡ gone (machine v w) (later v w t i es) ps
unfolding chosen
vote_gone v w t i es ps h wishes =
    ap (λ (s : State). gone (machine v w) s (0 ∷ 1 ∷ 2 ∷ ps)) (asks_first w t i es h)
    ∙ ap (λ (x : Vote). gone (machine v w) (chosen t i es x) (1 ∷ 2 ∷ ps)) wishes
    ∙ ap (λ (s : State). gone (machine v w) s ps) (voted v w t i es)

vote_asks : (v : Variant) (w : Work) (t : Tally) (i : ℕ) (es : List Event) (ps : List ℕ) → i < w.participants → wish w (number t) i ≡ Yes
    → AsksInTurn (machine v w) (later v w t i es) ps → AsksInTurn (machine v w) (at_vote w t i es) (0 ∷ 1 ∷ 2 ∷ ps)
unfolding chosen
vote_asks v w t i es ps h wishes more =
    subst (λ (s : State). AsksInTurn (machine v w) s (0 ∷ 1 ∷ 2 ∷ ps)) (sym (asks_first w t i es h))
    (refl, subst (λ (x : Vote). AsksInTurn (machine v w) (chosen t i es x) (1 ∷ 2 ∷ ps)) (sym wishes) (refl, (refl, subst (λ (s : State). AsksInTurn (machine v w) s ps) (sym (voted v w t i es)) more)))

wish_first : (w : Work) (k i n : ℕ) → WishYes w k i (suc n) → wish w k i ≡ Yes
wish_first w k i n all = let e : i + 0 ≡ i = omega arith in subst (λ (x : ℕ). wish w k x ≡ Yes) e (all 0 (omega arith))

wish_rest : (w : Work) (k i n : ℕ) → WishYes w k i (suc n) → WishYes w k (i + 1) n
wish_rest w k i n all = λ j h. let e : i + (j + 1) ≡ i + 1 + j = omega arith in subst (λ (x : ℕ). wish w k x ≡ Yes) e (all (j + 1) (omega arith))

votes_asked : (v : Variant) (w : Work) (n : ℕ) (t : Tally) (i : ℕ) (es : List Event) → i + n ≤ w.participants → WishYes w (number t) i n
    → AsksInTurn (machine v w) (at_vote w t i es) (rounds n vote_points)
votes_asked v w zero t i es h all = tt
votes_asked v w (suc n) t i es h all =
    vote_asks v w t i es (rounds n vote_points) (omega arith) (wish_first w (number t) i n all)
    (votes_asked v w n (with_yes t i) (i + 1) (Written (prepare_write v t i) ∷ es) (omega arith) (wish_rest w (number t) i n all))

-- ---- rounds that are passed

passed_on : (v : Variant) (w : Work) (r : Run) (ps : List ℕ) (s : State) → Here v w r s → AsksInTurn (machine v w) s ps → AllGo r ps
    → (r' : Run) → r' ≡ hits_of r ps → stopped r' ≡ None → Here v w r' (gone (machine v w) s ps)
passed_on v w r ps s here asks goes r' same running = record {
  points = subst (λ (x : Run). 7 ≤ length x.given.catalogue) (sym same) here.points;
  running = running;
  reached = subst (λ (x : Run). Reached (machine v w) x (gone (machine v w) s ps)) (sym same) (reached_on (machine v w) ps r s here.reached asks goes);
}

pub first_vote : (v : Variant) (w : Work) (r : Run) (t : Tally) (l : AllLogs) → 1 ≤ w.participants → Stands v w r (at_step t (SendPrepare 0)) l → Stands v w r (prepare_to w t (one_of 0 w.participants)) l
first_vote v w r t l some k = subst (λ (o : Option ℕ). Stands v w r (prepare_to w t o) l) (sym (some_of 0 w.participants (omega arith))) k

same_writes : (v : Variant) (t : Tally) (i : ℕ) → prepares v (with_yes t i) ≡ prepares v t
same_writes Sound t i = refl
same_writes LazyPrepare t i = refl
same_writes EarlyEnd t i = refl
same_writes TwoTries t i = refl
same_writes EndFirst t i = refl

votes_gone : (v : Variant) (w : Work) (n : ℕ) (t : Tally) (i : ℕ) (es : List Event) → i + n ≤ w.participants → WishYes w (number t) i n
    → gone (machine v w) (at_vote w t i es) (rounds n vote_points) ≡ at_vote w (with_all_yes t i n) (i + n) (all_written (λ j. prepare_write v t j) i n es)
votes_gone v w zero t i es h all = let e : i ≡ i + 0 = omega arith in ap (λ (k : ℕ). at_vote w t k es) e
votes_gone v w (suc n) t i es h all =
    let t' : Tally = with_yes t i in
    let es' : List Event = Written (prepare_write v t i) ∷ es in
    let e : i + 1 + n ≡ i + suc n = omega arith in
    vote_gone v w t i es (rounds n vote_points) (omega arith) (wish_first w (number t) i n all)
    ∙ votes_gone v w n t' (i + 1) es' (omega arith) (wish_rest w (number t) i n all)
    ∙ ap (λ (k : ℕ). at_vote w (with_all_yes t' (i + 1) n) k (all_written (λ j. prepare_write v t' j) (i + 1) n es')) e
    ∙ ap (λ (f : ℕ → Write). at_vote w (with_all_yes t' (i + 1) n) (i + suc n) (all_written f (i + 1) n es')) (same_writes v t i)

pub votes_passed : (v : Variant) (w : Work) (r : Run) (t : Tally) (l : AllLogs) (i n : ℕ) → i < w.participants → i + n ≤ w.participants → WishYes w (number t) i n → Stands v w r (at_step t (SendPrepare i)) l
    → AllGo r (rounds n vote_points) → (r' : Run) → r' ≡ hits_of r (rounds n vote_points) → stopped r' ≡ None
    → (l' : AllLogs) → AddsAll l l' (λ j. prepare_write v t j) i n → (t' : Tally) → t' ≡ with_all_yes t i n → Stands v w r' (prepare_to w t' (one_of (i + n) w.participants)) l'
votes_passed v w r t l i n below h all k goes r' same running l' adds t' is =
    let events : List Event = all_written (λ j. prepare_write v t j) i n k.events in
    let here : Here v w r' (gone (machine v w) (at_vote w t i k.events) (rounds n vote_points)) =
    passed_on v w r (rounds n vote_points) (at_vote w t i k.events) (subst (Here v w r) (sym (asks_first w t i k.events below)) k.here) (votes_asked v w n t i k.events h all) goes r' same running in
    record {
      events = events;
      here = subst (Here v w r') (votes_gone v w n t i k.events h all ∙ ap (λ (u : Tally). at_vote w u (i + n) events) (sym is)) here;
      written = adds w.participants k.events k.written;
    }

-- ---- a round of commits

forced : Tally → ℕ → Write
forced t i = Force (Participant i) (entry t kind.Commit)

tells_first : (v : Variant) (w : Work) (t : Tally) (i : ℕ) (es : List Event) → i < w.participants → at_commit v w t i es ≡ record { tally = at_step t (SendCommit i); events = es }
tells_first v w t i es h =
    ap (λ (o : Option ℕ). let s : State = record { tally = commit_to v w t o; events = with_write (end_unless v t t.acknowledged o) es } in s) (some_of i w.participants h)

told : (v : Variant) (w : Work) (t : Tally) (i : ℕ) (es : List Event) → (machine v w).step (record { tally = at_step t (SendAck i); events = es }) Go ≡ at_commit v w t (i + 1) es
told v w t i es =
    let next : Option ℕ = one_of (i + 1) w.participants in
    ap (λ (u : Tally). let s : State = record { tally = u; events = with_write (end_unless v (at_step t (SendAck i)) t.acknowledged next) es } in s) (commit_at v w t (SendAck i) next)
    ∙ ap (λ (o : Option Write). let s : State = record { tally = commit_to v w t next; events = with_write o es } in s) (same_end v t (SendAck i) t.acknowledged next)

commit_gone : (v : Variant) (w : Work) (t : Tally) (i : ℕ) (es : List Event) (ps : List ℕ) → i < w.participants
    → gone (machine v w) (at_commit v w t i es) (4 ∷ 5 ∷ 6 ∷ ps) ≡ gone (machine v w) (at_commit v w t (i + 1) (Written (forced t i) ∷ es)) ps
unfolding forced
commit_gone v w t i es ps h =
    ap (λ (s : State). gone (machine v w) s (4 ∷ 5 ∷ 6 ∷ ps)) (tells_first v w t i es h)
    ∙ ap (λ (s : State). gone (machine v w) s ps) (told v w t i (Written (forced t i) ∷ es))

commit_asks : (v : Variant) (w : Work) (t : Tally) (i : ℕ) (es : List Event) (ps : List ℕ) → i < w.participants
    → AsksInTurn (machine v w) (at_commit v w t (i + 1) (Written (forced t i) ∷ es)) ps → AsksInTurn (machine v w) (at_commit v w t i es) (4 ∷ 5 ∷ 6 ∷ ps)
unfolding forced
commit_asks v w t i es ps h more =
    subst (λ (s : State). AsksInTurn (machine v w) s (4 ∷ 5 ∷ 6 ∷ ps)) (sym (tells_first v w t i es h))
    (refl, (refl, (refl, subst (λ (s : State). AsksInTurn (machine v w) s ps) (sym (told v w t i (Written (forced t i) ∷ es))) more)))

commits_asked : (v : Variant) (w : Work) (n : ℕ) (t : Tally) (i : ℕ) (es : List Event) → i + n ≤ w.participants → AsksInTurn (machine v w) (at_commit v w t i es) (rounds n commit_points)
commits_asked v w zero t i es h = tt
commits_asked v w (suc n) t i es h = commit_asks v w t i es (rounds n commit_points) (omega arith) (commits_asked v w n t (i + 1) (Written (forced t i) ∷ es) (omega arith))

commits_gone : (v : Variant) (w : Work) (n : ℕ) (t : Tally) (i : ℕ) (es : List Event) → i + n ≤ w.participants
    → gone (machine v w) (at_commit v w t i es) (rounds n commit_points) ≡ at_commit v w t (i + n) (all_written (λ j. Force (Participant j) (entry t kind.Commit)) i n es)
unfolding forced
commits_gone v w zero t i es h = let e : i ≡ i + 0 = omega arith in ap (λ (k : ℕ). at_commit v w t k es) e
commits_gone v w (suc n) t i es h =
    let es' : List Event = Written (Force (Participant i) (entry t kind.Commit)) ∷ es in
    let e : i + 1 + n ≡ i + suc n = omega arith in
    commit_gone v w t i es (rounds n commit_points) (omega arith)
    ∙ commits_gone v w n t (i + 1) es' (omega arith)
    ∙ ap (λ (k : ℕ). at_commit v w t k (all_written (λ j. Force (Participant j) (entry t kind.Commit)) (i + 1) n es')) e

pub commits_passed : (v : Variant) (w : Work) (r : Run) (t : Tally) (l : AllLogs) (i n : ℕ) → i < w.participants → i + n ≤ w.participants → Stands v w r (at_step t (SendCommit i)) l
    → AllGo r (rounds n commit_points) → (r' : Run) → r' ≡ hits_of r (rounds n commit_points) → stopped r' ≡ None
    → (l' : AllLogs) → AddsAll l l' (λ j. Force (Participant j) (entry t kind.Commit)) i n
    → Due v w r' (commit_to v w t (one_of (i + n) w.participants)) (end_unless v t t.acknowledged (one_of (i + n) w.participants)) l'
commits_passed v w r t l i n below h k goes r' same running l' adds =
    let here : Here v w r' (gone (machine v w) (at_commit v w t i k.events) (rounds n commit_points)) =
    passed_on v w r (rounds n commit_points) (at_commit v w t i k.events) (subst (Here v w r) (sym (tells_first v w t i k.events below)) k.here) (commits_asked v w n t i k.events h) goes r' same running in
    record {
      events = all_written (λ j. Force (Participant j) (entry t kind.Commit)) i n k.events;
      here = subst (Here v w r') (commits_gone v w n t i k.events h) here;
      written = adds w.participants k.events k.written;
    }

pub first_told : (v : Variant) (w : Work) (r : Run) (t : Tally) (l : AllLogs) → 1 ≤ w.participants → Stands v w r (at_step t (SendCommit 0)) l
    → Due v w r (commit_to v w t (one_of 0 w.participants)) (end_unless v t t.acknowledged (one_of 0 w.participants)) l
first_told v w r t l some k =
    subst (λ (o : Option ℕ). Due v w r (commit_to v w t o) (end_unless v t t.acknowledged o) l) (sym (some_of 0 w.participants (omega arith))) k

-- ---- aborts

tells_abort : (w : Work) (t : Tally) (k : ℕ) (es : List Event) → k < length t.yes → at_abort w t k es ≡ record { tally = at_step t (SendAbort k); events = es }
tells_abort w t k es h = ap (λ (o : Option ℕ). let s : State = record { tally = abort_to w t o; events = es } in s) (some_of k (length t.yes) h)

aborts_next : (v : Variant) (w : Work) (t : Tally) (k : ℕ) (es : List Event)
    → (machine v w).step (record { tally = at_step t (SendAbort k); events = es }) Go ≡ at_abort w t (k + 1) (Written (abort_write t k) ∷ es)
aborts_next v w t k es =
    ap (λ (u : Tally). let s : State = record { tally = u; events = Written (abort_write t k) ∷ es } in s) (abort_step w t (SendAbort k) (one_of (k + 1) (length t.yes)))

aborts_asked : (v : Variant) (w : Work) (n : ℕ) (t : Tally) (k : ℕ) (es : List Event) → k + n ≤ length t.yes → AsksInTurn (machine v w) (at_abort w t k es) (replicate n 4)
aborts_asked v w zero t k es h = tt
aborts_asked v w (suc n) t k es h =
    subst (λ (s : State). AsksInTurn (machine v w) s (replicate (suc n) 4)) (sym (tells_abort w t k es (omega arith)))
    (refl, subst (λ (s : State). AsksInTurn (machine v w) s (replicate n 4)) (sym (aborts_next v w t k es)) (aborts_asked v w n t (k + 1) (Written (abort_write t k) ∷ es) (omega arith)))

aborts_gone : (v : Variant) (w : Work) (n : ℕ) (t : Tally) (k : ℕ) (es : List Event) → k + n ≤ length t.yes
    → gone (machine v w) (at_abort w t k es) (replicate n 4) ≡ at_abort w t (k + n) (all_written (λ place. abort_write t place) k n es)
aborts_gone v w zero t k es h = let e : k ≡ k + 0 = omega arith in ap (λ (j : ℕ). at_abort w t j es) e
aborts_gone v w (suc n) t k es h =
    let es' : List Event = Written (abort_write t k) ∷ es in
    let e : k + 1 + n ≡ k + suc n = omega arith in
    ap (λ (s : State). gone (machine v w) s (replicate (suc n) 4)) (tells_abort w t k es (omega arith))
    ∙ ap (λ (s : State). gone (machine v w) s (replicate n 4)) (aborts_next v w t k es)
    ∙ aborts_gone v w n t (k + 1) es' (omega arith)
    ∙ ap (λ (j : ℕ). at_abort w t j (all_written (λ place. abort_write t place) (k + 1) n es')) e

pub aborts_passed : (v : Variant) (w : Work) (r : Run) (t : Tally) (l : AllLogs) (n : ℕ) → n ≤ length t.yes → Stands v w r (aborted w t) l
    → AllGo r (replicate n 4) → (r' : Run) → r' ≡ hits_of r (replicate n 4) → stopped r' ≡ None
    → (l' : AllLogs) → AddsAll l l' (λ place. abort_write t place) 0 n → Stands v w r' (abort_to w t (one_of n (length t.yes))) l'
aborts_passed v w r t l n h k goes r' same running l' adds =
    let few : 0 + n ≤ length t.yes = omega arith in
    let there : 0 + n ≡ n = omega arith in
    let here : Here v w r' (gone (machine v w) (at_abort w t 0 k.events) (replicate n 4)) =
    passed_on v w r (replicate n 4) (at_abort w t 0 k.events) k.here (aborts_asked v w n t 0 k.events few) goes r' same running in
    record {
      events = all_written (λ place. abort_write t place) 0 n k.events;
      here = subst (Here v w r') (aborts_gone v w n t 0 k.events few ∙ ap (λ (j : ℕ). at_abort w t j (all_written (λ place. abort_write t place) 0 n k.events)) there) here;
      written = adds w.participants k.events k.written;
    }
