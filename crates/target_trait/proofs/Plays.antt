-- A whole run in which exactly the points that were asked were hit is the play.
use Rattle.std.proofs.Common.{◌≡◌, ℕ, zero, suc, ◌+◌, ◌-◌, ◌≤◌, Bool, true, false, cond, List, [], ◌∷◌, ◌++◌, length, refl, ap, sym, ◌∙◌, arith, zero-add, append_assoc, Option, Some, None}
use Rattle.std.proofs.lemmas.List.{append-nil}
use Rattle.scenario_values.specs.Scenario.{Entries}
use Rattle.action_eval.specs.declared.answer.Stop.{Stop}
use Rattle.action_eval.specs.declared.answer.Stop.TheVariants as stop
use Rattle.action_eval.specs.declared.answer.Note.{Note}
use Rattle.action_eval.specs.Answers.{Given, Run, Reply, given_of, hit, start, replies, stopped, is_cut_short, cuts_short, asked, history_of, notes_of, total_millis, words_of}
use Rattle.target_trait.specs.declared.judgement.Judgement.{Judgement}
use Rattle.target_trait.specs.declared.judgement.Verdict.{Verdict}
use Rattle.target_trait.specs.declared.judgement.Judgement.TheVariants.{Kept}
use Rattle.target_trait.specs.Play.{Move, Ask, Done, Follows, FollowsOn, IsCutPlay, EndsSo, move_in}
use Rattle.target_trait.specs.Outcomes.{play, moved, Told, told, outcome, verdict_of}

over : (b : Bool) (move : Move) (j : Judgement) (r : Run) (further : ℕ → Run) → EndsSo b move j → moved (cond b (Done Kept) move) r further ≡ r
over true move j r further e = refl
over false move j r further e = ap (λ m. moved m r further) e

ended : (asks : List Reply → Move) (r : Run) (j : Judgement) (m : ℕ) → EndsSo (is_cut_short r) (asks (replies r)) j → play m asks r ≡ r
unfolding play
ended asks r j zero e = refl
ended asks r j (suc m) e = over (is_cut_short r) (asks (replies r)) j r (λ p. play m asks (hit r p)) e

one_more : (asks : List Reply → Move) (r : Run) (p m : ℕ) → move_in asks r ≡ Ask p → play (suc m) asks r ≡ play m asks (hit r p)
unfolding play
one_more asks r p m e = ap (λ move. moved move r (λ q. play m asks (hit r q))) e

sum_suc : (a b : ℕ) → suc a + b ≡ suc (a + b)
sum_suc a b = omega arith

follows : (asks : List Reply → Move) (g : Given) (done ps : List ℕ) (m : ℕ) → FollowsOn asks g done ps → play (length ps + m) asks (record { given = g; hits = done }) ≡ play m asks (record { given = g; hits = done ++ ps })
follows asks g done [] m f =
    ap (λ n. play n asks (record { given = g; hits = done })) (zero-add m) ∙ ap (λ (l : List ℕ). play m asks (record { given = g; hits = l })) (sym (append-nil done))
follows asks g done (p ∷ ps) m f =
    ap (λ n. play n asks (record { given = g; hits = done })) (sum_suc (length ps) m) ∙ one_more asks (record { given = g; hits = done }) p (length ps + m) f.0
    ∙ follows asks g (done ++ p ∷ []) ps m f.1 ∙ ap (λ (l : List ℕ). play m asks (record { given = g; hits = l })) (append_assoc done (p ∷ []) ps)

-- whatever was asked, in at most n hits, is the play of n hits
pub play_is : (asks : List Reply → Move) (r : Run) (j : Judgement) (n : ℕ) → IsCutPlay asks r j → length r.hits ≤ n → play n asks (start r.given) ≡ r
play_is asks r j n is few =
    let left : n ≡ length r.hits + (n - length r.hits) = omega arith in
    ap (λ k. play k asks (start r.given)) left ∙ follows asks r.given [] r.hits (n - length r.hits) is.asked ∙ ended asks r j (n - length r.hits) is.ended

-- one question more
pub follows_more : (asks : List Reply → Move) (g : Given) (done ps : List ℕ) (p : ℕ) → Follows asks g done ps → asks (replies (record { given = g; hits = done ++ ps })) ≡ Ask p → Follows asks g done (ps ++ p ∷ [])
follows_more asks g done [] p f e = (ap (λ (l : List ℕ). asks (replies (record { given = g; hits = l }))) (sym (append-nil done)) ∙ e, tt)
follows_more asks g done (q ∷ ps) p f e =
    (f.0, follows_more asks g (done ++ q ∷ []) ps p f.1 (ap (λ (l : List ℕ). asks (replies (record { given = g; hits = l }))) (append_assoc done (q ∷ []) ps) ∙ e))

-- the same of a run whose power cut may be asked
pub follows_on_more : (asks : List Reply → Move) (g : Given) (done ps : List ℕ) (p : ℕ) → FollowsOn asks g done ps → move_in asks (record { given = g; hits = done ++ ps }) ≡ Ask p → FollowsOn asks g done (ps ++ p ∷ [])
follows_on_more asks g done [] p f e = (ap (λ (l : List ℕ). move_in asks (record { given = g; hits = l })) (sym (append-nil done)) ∙ e, tt)
follows_on_more asks g done (q ∷ ps) p f e =
    (f.0, follows_on_more asks g (done ++ q ∷ []) ps p f.1 (ap (λ (l : List ℕ). move_in asks (record { given = g; hits = l })) (append_assoc done (q ∷ []) ps) ∙ e))

-- the judgement of such a run is that of what it asks
judged_by : (s : Option Stop) (move : Move) (j : Judgement) → EndsSo (cuts_short s) move j → verdict_of s (Done j) ≡ verdict_of s move
judged_by None move j e = ap (verdict_of None) (sym e)
judged_by (Some stop.Panic) move j e = ap (verdict_of (Some stop.Panic)) (sym e)
judged_by (Some stop.Paused) move j e = refl
judged_by (Some stop.Limit) move j e = refl

pub judged_so : (asks : List Reply → Move) (r : Run) (j : Judgement) → IsCutPlay asks r j → verdict_of (stopped r) (Done j) ≡ verdict_of (stopped r) (asks (replies r))
judged_so asks r j is = judged_by (stopped r) (asks (replies r)) j is.ended

-- What such a run returns is the outcome.
pub told_is : (asks : List Reply → Move) (r : Run) (j : Judgement) (g : Given) → r.given ≡ g → IsCutPlay asks r j → length r.hits ≤ r.given.limit + 1 → told asks r ≡ outcome asks g
told_is asks r j g same is few =
    ap (told asks) (sym (play_is asks r j (suc r.given.limit) is (omega arith))) ∙ ap (outcome asks) same

-- its answers are those of the play of what it is given
pub replies_are : (asks : List Reply → Move) (r : Run) (j : Judgement) (g : Given) → r.given ≡ g → IsCutPlay asks r j → length r.hits ≤ r.given.limit + 1
    → replies r ≡ replies (play (suc g.limit) asks (start g))
replies_are asks r j g same is few =
    ap replies (sym (play_is asks r j (suc r.given.limit) is (omega arith))) ∙ ap (λ (x : Given). replies (play (suc x.limit) asks (start x))) same

-- what a run is given, by what its session began with
pub given_is : (x : Given) (s : Run) (scenario : Entries) (catalogue names : List (List ℕ)) (seed stream limit : ℕ)
    → x ≡ s.given → s ≡ start (given_of scenario catalogue seed stream limit) → catalogue ≡ names → x ≡ given_of scenario names seed stream limit
given_is x s scenario catalogue names seed stream limit kept new same =
    kept ∙ ap (λ (r : Run). r.given) new ∙ ap (λ (c : List (List ℕ)). given_of scenario c seed stream limit) same

-- what a run is given, by what its session was given
pub given_with : (x given : Given) (names : List (List ℕ)) → x ≡ given → given.catalogue ≡ names → x ≡ given_of given.scenario names given.seed given.stream given.limit
given_with x given names kept same = kept ∙ ap (λ (c : List (List ℕ)). given_of given.scenario c given.seed given.stream given.limit) same

-- What a run returns, part by part.
parts_told : (asks : List Reply → Move) (r : Run) (j : Judgement) → IsCutPlay asks r j → (v : Verdict) (points : List ℕ) (notes : List Note) (millis words : ℕ) (stop : Option Stop)
    → v ≡ verdict_of stop (Done j) → stop ≡ stopped r → points ≡ asked r → notes ≡ notes_of (history_of r) → millis ≡ total_millis (history_of r) → words ≡ words_of (history_of r)
    → record { verdict = v; asked = points; notes = notes; millis = millis; words = words } ≡ told asks r
parts_told asks r j is v points notes millis words stop a b c d e f =
    let verdict : v ≡ verdict_of (stopped r) (asks (replies r)) = a ∙ ap (λ s. verdict_of s (Done j)) b ∙ judged_so asks r j is in
    ap (λ (x : Verdict). let t : Told = record { verdict = x; asked = points; notes = notes; millis = millis; words = words } in t) verdict
    ∙ ap (λ (x : List ℕ). let t : Told = record { verdict = verdict_of (stopped r) (asks (replies r)); asked = x; notes = notes; millis = millis; words = words } in t) c
    ∙ ap (λ (x : List Note). let t : Told = record { verdict = verdict_of (stopped r) (asks (replies r)); asked = asked r; notes = x; millis = millis; words = words } in t) d
    ∙ ap (λ (x : ℕ). let t : Told = record { verdict = verdict_of (stopped r) (asks (replies r)); asked = asked r; notes = notes_of (history_of r); millis = x; words = words } in t) e
    ∙ ap (λ (x : ℕ). let t : Told = record { verdict = verdict_of (stopped r) (asks (replies r)); asked = asked r; notes = notes_of (history_of r); millis = total_millis (history_of r); words = x } in t) f

-- The parts of what a whole run returns are the outcome.
pub parts_outcome : (asks : List Reply → Move) (r : Run) (j : Judgement) (g : Given) → IsCutPlay asks r j → r.given ≡ g → length r.hits ≤ r.given.limit + 1
    → (v : Verdict) (points : List ℕ) (notes : List Note) (millis words : ℕ) (stop : Option Stop)
    → v ≡ verdict_of stop (Done j) → stop ≡ stopped r → points ≡ asked r → notes ≡ notes_of (history_of r) → millis ≡ total_millis (history_of r) → words ≡ words_of (history_of r)
    → record { verdict = v; asked = points; notes = notes; millis = millis; words = words } ≡ outcome asks g
parts_outcome asks r j g is given few v points notes millis words stop a b c d e f =
    parts_told asks r j is v points notes millis words stop a b c d e f ∙ told_is asks r j g given is few
