-- The run of a case that no pause stopped is a path, and its verdict is what is judged at the path's end.
use Rattle.std.proofs.Common.{◌≡◌, ℕ, zero, suc, ◌+◌, ◌<◌, ◌≤◌, nat_lt, Bool, true, false, cond, Option, Some, None, List, [], ◌∷◌, ◌++◌, map, length, refl, ap, sym, ◌∙◌, subst, arith, append_assoc}
use Rattle.std.specs.Option.{option_or}
use Rattle.std.proofs.lemmas.List.{append-nil, map-append, take_all, take_at, length_push}
use Rattle.std.proofs.lemmas.Bool.Decides.{nat_tests}
use Rattle.scenario_values.specs.Scenario.{Entries}
use Rattle.action_eval.specs.declared.answer.Stop.{Stop}
use Rattle.action_eval.specs.declared.answer.Stop.TheVariants as stop
use Rattle.scenario_values.specs.declared.term.Task.{Task}
use Rattle.scenario_values.specs.declared.term.Task.TheVariants as task
use Rattle.action_eval.specs.Answers.{Given, Run, Hit, Reply, Halt, given_of, start, replies, history_of, and_then, next, is_over, stopped, stopped_by, stop_of, cuts_short, is_cut_short, reply_of, reply_to}
use Rattle.target_trait.specs.Play.{Move, Ask, Done, Unknown}
use Rattle.target_trait.specs.Outcomes.{play, moved, judged, verdict_of, verdict_with}
use Rattle.target_trait.specs.declared.judgement.Judgement.TheVariants.{Kept}
use Rattle.grown_plans.specs.Runs.{Met, met, site_after, met_after, run, IsUnpaused}
use Rattle.grown_plans.proofs.Paths.{replies_of, next_by, next_of, IsPath}

abbrev pub points_of : List Met → List ℕ
points_of ms = map (λ m. m.site.point) ms

abbrev at_hits : Given → List ℕ → Run
at_hits g hits = record { given = g; hits = hits }

-- the hits so far
pub so_far : Given → List ℕ → List Met
so_far g hits = met_after [] (and_then g [] hits)

-- ---- one hit more

history_push : (g : Given) (h : List Hit) (ps : List ℕ) (p : ℕ) → and_then g h (ps ++ p ∷ []) ≡ and_then g h ps ++ next g (and_then g h ps) p ∷ []
history_push g h [] p = refl
history_push g h (q ∷ ps) p = history_push g (h ++ next g h q ∷ []) ps p

met_push : (before : List Met) (hs : List Hit) (h : Hit) → met_after before (hs ++ h ∷ []) ≡ met_after before hs ++ met (site_after (met_after before hs) h.point) (reply_of h.did) ∷ []
met_push before [] h = refl
met_push before (x ∷ hs) h = met_push (before ++ met (site_after before x.point) (reply_of x.did) ∷ []) hs h

met_replies : (before : List Met) (hs : List Hit) → replies_of (met_after before hs) ≡ replies_of before ++ map (λ h. reply_of h.did) hs
met_replies before [] = sym (append-nil (replies_of before))
met_replies before (h ∷ hs) =
    let m = met (site_after before h.point) (reply_of h.did) in
    met_replies (before ++ m ∷ []) hs ∙ ap (λ l. l ++ map (λ h. reply_of h.did) hs) (map-append (λ (x : Met). x.reply) before (m ∷ []))
    ∙ append_assoc (replies_of before) (reply_of h.did ∷ []) (map (λ h. reply_of h.did) hs)

met_points : (before : List Met) (hs : List Hit) → points_of (met_after before hs) ≡ points_of before ++ map (λ h. h.point) hs
met_points before [] = sym (append-nil (points_of before))
met_points before (h ∷ hs) =
    let m = met (site_after before h.point) (reply_of h.did) in
    met_points (before ++ m ∷ []) hs ∙ ap (λ l. l ++ map (λ h. h.point) hs) (map-append (λ (x : Met). x.site.point) before (m ∷ []))
    ∙ append_assoc (points_of before) (h.point ∷ []) (map (λ h. h.point) hs)

pub history_points : (g : Given) (h : List Hit) (ps : List ℕ) → map (λ x. x.point) (and_then g h ps) ≡ map (λ x. x.point) h ++ ps
history_points g h [] = sym (append-nil (map (λ x. x.point) h))
history_points g h (p ∷ ps) =
    history_points g (h ++ next g h p ∷ []) ps ∙ ap (λ l. l ++ ps) (map-append (λ (x : Hit). x.point) h (next g h p ∷ []))
    ∙ append_assoc (map (λ x. x.point) h) (p ∷ []) ps

pub points_so_far : (g : Given) (hits : List ℕ) → points_of (so_far g hits) ≡ hits
unfolding so_far
points_so_far g hits = met_points [] (and_then g [] hits) ∙ history_points g [] hits

-- ---- a run within its limit

whole : (g : Given) (hits : List ℕ) → length hits ≤ g.limit → history_of (at_hits g hits) ≡ and_then g [] hits
whole g hits h = ap (and_then g []) (take_all g.limit hits h)

within : (g : Given) (hits : List ℕ) → length hits ≤ g.limit → is_over (at_hits g hits) ≡ false
within g hits h = grind (arith, nat_tests)

shown : (g : Given) (hits : List ℕ) → length hits ≤ g.limit → met_after [] (history_of (at_hits g hits)) ≡ so_far g hits
unfolding so_far
shown g hits h = ap (met_after []) (whole g hits h)

replied : (g : Given) (hits : List ℕ) → length hits ≤ g.limit → replies (at_hits g hits) ≡ replies_of (so_far g hits)
unfolding so_far
replied g hits h =
    ap (λ b. map (λ h. reply_of h.did) (history_of (at_hits g hits)) ++ cond b (Halt ∷ []) []) (within g hits h)
    ∙ append-nil (map (λ h. reply_of h.did) (history_of (at_hits g hits)))
    ∙ ap (map (λ h. reply_of h.did)) (whole g hits h) ∙ sym (met_replies [] (and_then g [] hits))

reply_here : (g : Given) (hits : List ℕ) (p : ℕ) → length hits < g.limit → reply_to (at_hits g hits) p ≡ reply_of (next g (and_then g [] hits) p).did
reply_here g hits p h =
    let open_still : nat_lt (length hits) g.limit ≡ true = grind (arith, nat_tests) in
    ap (λ b. cond b (reply_of (next g (history_of (at_hits g hits)) p).did) Halt) open_still
    ∙ ap (λ k. reply_of (next g k p).did) (whole g hits (omega (arith, h)))

so_far_push : (g : Given) (hits : List ℕ) (p : ℕ) → length hits < g.limit → so_far g (hits ++ p ∷ []) ≡ so_far g hits ++ met (site_after (so_far g hits) p) (reply_to (at_hits g hits) p) ∷ []
unfolding so_far
so_far_push g hits p h =
    ap (met_after []) (history_push g [] hits p) ∙ met_push [] (and_then g [] hits) (next g (and_then g [] hits) p)
    ∙ ap (λ r. so_far g hits ++ met (site_after (so_far g hits) p) r ∷ []) (sym (reply_here g hits p h))

-- ---- the play

-- each hit is answered as the case answers it after those before
abbrev pub Answered : Given → List Met → List Met → Type 0
Answered g before [] = Unit {0}
Answered g before (m ∷ ms) = (m.reply ≡ reply_to (at_hits g (points_of before)) m.site.point) × Answered g (before ++ m ∷ []) ms

record Came (asks : List Reply → Move) (g : Given) (before : List Met) (room : ℕ) (out : Run) : Type 0 where
  rest : List Met
  shown : met_after [] (history_of out) ≡ before ++ rest
  path : (stopped out ≡ Some stop.Paused → ⊥) → IsPath asks room before rest
  answered : Answered g before rest
  judged : (stopped out ≡ Some stop.Paused → ⊥) → verdict_of (stopped out) (asks (replies out)) ≡ judged (asks (replies_of (before ++ rest)))

stops : (h : List Hit) → stopped_by h ≡ Some stop.Limit → ⊥
stops [] e = cc
stops (h ∷ hs) e = by_task h.did (stopped_by hs) (stops hs) e
  where
    by_task : (k : Task) (o : Option Stop) → (o ≡ Some stop.Limit → ⊥) → option_or o (stop_of k) ≡ Some stop.Limit → ⊥
    by_task k (Some s) n e = n e
    by_task task.Off None n e = cc
    by_task (task.Return t) None n e = cc
    by_task (task.Sleep t) None n e = cc
    by_task (task.Panic t) None n e = cc
    by_task (task.Print t) None n e = cc
    by_task task.Pause None n e = cc
    by_task task.Yield None n e = cc
    by_task (task.Delay t) None n e = cc

-- within its limit only a pause cuts a run short
paused_when : (s : Option Stop) → (s ≡ Some stop.Limit → ⊥) → cuts_short s ≡ true → s ≡ Some stop.Paused
paused_when None a e = cc
paused_when (Some stop.Panic) a e = cc
paused_when (Some stop.Paused) a e = refl
paused_when (Some stop.Limit) a e = absurd (a refl)

is_paused : (g : Given) (hits : List ℕ) → length hits ≤ g.limit → is_cut_short (at_hits g hits) ≡ true → stopped (at_hits g hits) ≡ Some stop.Paused
is_paused g hits h e =
    let r = at_hits g hits in
    let still : stopped r ≡ stopped_by (history_of r) = ap (λ b. cond b (Some stop.Limit) (stopped_by (history_of r))) (within g hits h) in
    paused_when (stopped r) (λ limit. stops (history_of r) (sym still ∙ limit)) e

cut_here : (asks : List Reply → Move) (g : Given) (hits : List ℕ) (room : ℕ) → length hits ≤ g.limit → is_cut_short (at_hits g hits) ≡ true
    → Came asks g (so_far g hits) room (at_hits g hits)
cut_here asks g hits room h e =
    record {
      rest = [];
      shown = shown g hits h ∙ sym (append-nil (so_far g hits));
      path = λ unpaused. absurd (unpaused (is_paused g hits h e));
      answered = tt;
      judged = λ unpaused. absurd (unpaused (is_paused g hits h e));
    }

by_stop : (s : Option Stop) (m : Move) → (s ≡ Some stop.Paused → ⊥) → (s ≡ Some stop.Limit → ⊥) → verdict_of s m ≡ judged m
by_stop None m a b = refl
by_stop (Some stop.Panic) m a b = refl
by_stop (Some stop.Paused) m a b = absurd (a refl)
by_stop (Some stop.Limit) m a b = absurd (b refl)

ends_here : (asks : List Reply → Move) (g : Given) (hits : List ℕ) (room : ℕ) → length hits ≤ g.limit → next_of asks (so_far g hits) ≡ None
    → Came asks g (so_far g hits) room (at_hits g hits)
unfolding next_of
ends_here asks g hits room h e =
    record {
      rest = [];
      shown = shown g hits h ∙ sym (append-nil (so_far g hits));
      path = λ unpaused. over room;
      answered = tt;
      judged = λ unpaused.
          let r = at_hits g hits in
          let still : stopped r ≡ stopped_by (history_of r) = ap (λ b. cond b (Some stop.Limit) (stopped_by (history_of r))) (within g hits h) in
          by_stop (stopped r) (asks (replies r)) unpaused (λ limit. stops (history_of r) (sym still ∙ limit))
          ∙ ap (λ l. judged (asks l)) (replied g hits h ∙ ap replies_of (sym (append-nil (so_far g hits))));
    }
  where
    over : (n : ℕ) → IsPath asks n (so_far g hits) []
    over zero = tt
    over (suc n) = e

goes_on : (asks : List Reply → Move) (g : Given) (hits : List ℕ) (p room : ℕ) → length hits < g.limit → asks (replies_of (so_far g hits)) ≡ Ask p → (out : Run)
    → Came asks g (so_far g (hits ++ p ∷ [])) room out → Came asks g (so_far g hits) (suc room) out
unfolding next_of
goes_on asks g hits p room h e out k =
    let ms : List Met = so_far g hits in
    let m : Met = met (site_after ms p) (reply_to (at_hits g hits) p) in
    let push : so_far g (hits ++ p ∷ []) ≡ ms ++ m ∷ [] = so_far_push g hits p h in
    let moves : so_far g (hits ++ p ∷ []) ++ k.rest ≡ ms ++ m ∷ k.rest = ap (λ l. l ++ k.rest) push ∙ append_assoc ms (m ∷ []) k.rest in
    record {
      rest = m ∷ k.rest;
      shown = k.shown ∙ moves;
      path = λ u. (ap (next_by ms) e, subst (λ (l : List Met). IsPath asks room l k.rest) push (k.path u));
      answered = (ap (λ l. reply_to (at_hits g l) p) (sym (points_so_far g hits)), subst (λ (l : List Met). Answered g l k.rest) push k.answered);
      judged = λ u. k.judged u ∙ ap (λ l. judged (asks (replies_of l))) moves;
    }

past_limit : (asks : List Reply → Move) (g : Given) (hits : List ℕ) (p : ℕ) → length hits ≡ g.limit → asks (replies_of (so_far g hits)) ≡ Ask p
    → Came asks g (so_far g hits) zero (at_hits g (hits ++ p ∷ []))
unfolding so_far
past_limit asks g hits p h e =
    let r : Run = at_hits g (hits ++ p ∷ []) in
    let longer : length (hits ++ p ∷ []) ≡ length hits + 1 = length_push hits p in
    let over : nat_lt g.limit (length (hits ++ p ∷ [])) ≡ true = grind (arith, nat_tests, longer, h) in
    record {
      rest = [];
      shown = ap (λ l. met_after [] (and_then g [] l)) (take_at hits (p ∷ []) g.limit h) ∙ sym (append-nil (so_far g hits));
      path = λ u. tt;
      answered = tt;
      judged = λ u.
          ap (λ b. verdict_of (cond b (Some stop.Limit) (stopped_by (history_of r))) (asks (replies r))) over
          ∙ ap judged (sym e) ∙ ap (λ l. judged (asks (replies_of l))) (sym (append-nil (so_far g hits)));
    }

by_move : (asks : List Reply → Move) (g : Given) (hits : List ℕ) (room : ℕ) → length hits ≤ g.limit → (f : ℕ → Run)
    → ((p : ℕ) → asks (replies_of (so_far g hits)) ≡ Ask p → Came asks g (so_far g hits) room (f p)) → (move : Move) → asks (replies_of (so_far g hits)) ≡ move
    → Came asks g (so_far g hits) room (moved move (at_hits g hits) f)
unfolding next_of
by_move asks g hits room h f further (Ask p) e = further p e
by_move asks g hits room h f further (Done j) e = ends_here asks g hits room h (ap (next_by (so_far g hits)) e)
by_move asks g hits room h f further Unknown e = ends_here asks g hits room h (ap (next_by (so_far g hits)) e)

by_stop_here : (asks : List Reply → Move) (g : Given) (hits : List ℕ) (room : ℕ) → length hits ≤ g.limit → (f : ℕ → Run)
    → ((p : ℕ) → asks (replies_of (so_far g hits)) ≡ Ask p → Came asks g (so_far g hits) room (f p)) → (short : Bool) → is_cut_short (at_hits g hits) ≡ short
    → Came asks g (so_far g hits) room (moved (cond short (Done Kept) (asks (replies (at_hits g hits)))) (at_hits g hits) f)
by_stop_here asks g hits room h f further true e = cut_here asks g hits room h e
by_stop_here asks g hits room h f further false e =
    by_move asks g hits room h f further (asks (replies (at_hits g hits))) (ap asks (sym (replied g hits h)))

played : (asks : List Reply → Move) (g : Given) (room : ℕ) (hits : List ℕ) → length hits + room ≡ g.limit → Came asks g (so_far g hits) room (play (suc room) asks (at_hits g hits))
unfolding play
played asks g zero hits e =
    by_stop_here asks g hits zero (omega (arith, e)) (λ p. at_hits g (hits ++ p ∷ [])) (λ p a. past_limit asks g hits p (omega (arith, e)) a)
    (is_cut_short (at_hits g hits)) refl
played asks g (suc n) hits e =
    by_stop_here asks g hits (suc n) (omega (arith, e)) (λ p. play (suc n) asks (at_hits g (hits ++ p ∷ [])))
    (λ p a. let longer = length_push hits p in goes_on asks g hits p n (omega (arith, e)) a (play (suc n) asks (at_hits g (hits ++ p ∷ []))) (played asks g n (hits ++ p ∷ []) (omega (arith, e, longer))))
    (is_cut_short (at_hits g hits)) refl

-- ---- the run of a case

came : (asks : List Reply → Move) (g : Given) → Came asks g [] g.limit (play (suc g.limit) asks (start g))
unfolding so_far
came asks g = played asks g g.limit [] (omega arith)

-- the run of a case that no pause stopped
pub run_path : (asks : List Reply → Move) (g : Given) → IsUnpaused asks g → IsPath asks g.limit [] (run asks g)
unfolding run
run_path asks g unpaused = let k = came asks g in subst (λ (l : List Met). IsPath asks g.limit [] l) (sym k.shown) (k.path unpaused)

pub run_answered : (asks : List Reply → Move) (g : Given) → Answered g [] (run asks g)
unfolding run
run_answered asks g = let k = came asks g in subst (λ (l : List Met). Answered g [] l) (sym k.shown) k.answered

-- the verdict of a case that no pause stopped, by its run
pub run_judged : (asks : List Reply → Move) (s : Entries) (names : List (List ℕ)) (seed stream limit : ℕ) → IsUnpaused asks (given_of s names seed stream limit)
    → verdict_with asks names seed limit stream s ≡ judged (asks (replies_of (run asks (given_of s names seed stream limit))))
unfolding run verdict_with
run_judged asks s names seed stream limit unpaused =
    let g = given_of s names seed stream limit in
    let k = came asks g in k.judged unpaused ∙ ap (λ l. judged (asks (replies_of l))) (sym k.shown)
