-- The whole run of a component: it hits what is asked, up to where nothing more is asked, a pause or the limit.
use Rattle.std.proofs.Common.{◌≡◌, ℕ, zero, suc, ◌+◌, ◌-◌, ◌≤◌, ◌<◌, Bool, true, false, cond, List, [], ◌∷◌, ◌++◌, length, take, Some, refl, ap, sym, ◌∙◌, arith, subst, ◌⊎◌, inl, inr, append_assoc, zero-add, length-append}
use Rattle.std.specs.Prelude.{slice_get}
use Rattle.std.proofs.lemmas.List.{append-nil}
use Rattle.std.proofs.lemmas.Option.{same_Some}
use Rattle.action_eval.specs.Answers.{Given, Run, Reply, hit, start, replies, is_cut_short}
use Rattle.target_trait.specs.declared.judgement.Judgement.TheVariants.{Kept}
use Rattle.target_trait.specs.Play.{Move, Ask, Done, Unknown, FollowsOn, move_in}
use Rattle.target_trait.specs.Outcomes.{play, moved, whole_play}
use Rattle.target_trait.proofs.Plays.{follows_on_more}

abbrev pub run_with : Given → List ℕ → Run
run_with g hits = record { given = g; hits = hits }

-- nothing more is asked
abbrev pub Rests : Move → Type 0
Rests (Ask p) = ⊥
Rests (Done j) = Unit {0}
Rests Unknown = Unit {0}

-- ---- the play of a run that follows what is asked

stays : (m : Move) (r : Run) (further : ℕ → Run) → Rests m → moved m r further ≡ r
stays (Ask p) r further h = absurd h
stays (Done j) r further h = refl
stays Unknown r further h = refl

rests_on : (asks : List Reply → Move) (r : Run) (n : ℕ) → Rests (move_in asks r) → play n asks r ≡ r
unfolding play
rests_on asks r zero h = refl
rests_on asks r (suc n) h = stays (move_in asks r) r (λ p. play n asks (hit r p)) h

one_more : (asks : List Reply → Move) (r : Run) (p n : ℕ) → move_in asks r ≡ Ask p → play (suc n) asks r ≡ play n asks (hit r p)
unfolding play
one_more asks r p n e = ap (λ move. moved move r (λ q. play n asks (hit r q))) e

sum_suc : (a b : ℕ) → suc a + b ≡ suc (a + b)
sum_suc a b = omega arith

follows_on : (asks : List Reply → Move) (g : Given) (done ps : List ℕ) (n : ℕ) → FollowsOn asks g done ps → play (length ps + n) asks (run_with g done) ≡ play n asks (run_with g (done ++ ps))
follows_on asks g done [] n f = ap (λ m. play m asks (run_with g done)) (zero-add n) ∙ ap (λ (l : List ℕ). play n asks (run_with g l)) (sym (append-nil done))
follows_on asks g done (p ∷ ps) n f =
    ap (λ m. play m asks (run_with g done)) (sum_suc (length ps) n) ∙ one_more asks (run_with g done) p (length ps + n) f.0
    ∙ follows_on asks g (done ++ p ∷ []) ps n f.1 ∙ ap (λ (l : List ℕ). play n asks (run_with g l)) (append_assoc done (p ∷ []) ps)

pub played_whole : (asks : List Reply → Move) (g : Given) (hits : List ℕ) → FollowsOn asks g [] hits → Rests (move_in asks (run_with g hits)) → length hits ≤ g.limit → whole_play asks g ≡ run_with g hits
played_whole asks g hits f rests few =
    let left : suc g.limit ≡ length hits + (suc g.limit - length hits) = omega arith in
    ap (λ n. play n asks (start g)) left ∙ follows_on asks g [] hits (suc g.limit - length hits) f ∙ rests_on asks (run_with g hits) (suc g.limit - length hits) rests

-- ---- each play follows what is asked

pub record Played (asks : List Reply → Move) (g : Given) (n : ℕ) (r : Run) : Type 0 where
  pub hits : List ℕ
  pub run_is : r ≡ run_with g hits
  pub follows : FollowsOn asks g [] hits
  pub ended : (length hits ≡ n) ⊎ ((length hits < n) × Rests (move_in asks (run_with g hits)))

play_on : (asks : List Reply → Move) (g : Given) (n : ℕ) (done : List ℕ) → FollowsOn asks g [] done → Played asks g (length done + n) (play n asks (run_with g done))
unfolding play
play_on asks g zero done f = record { hits = done; run_is = refl; follows = f; ended = inl (omega arith) }
play_on asks g (suc n) done f = by_move (move_in asks (run_with g done)) refl (λ p e. play_on asks g n (done ++ p ∷ []) (follows_on_more asks g [] done p f e))
  where
    here : Rests (move_in asks (run_with g done)) → Played asks g (length done + suc n) (run_with g done)
    here rests = record { hits = done; run_is = refl; follows = f; ended = inr (omega arith, rests) }

    by_move : (m : Move) → move_in asks (run_with g done) ≡ m
        → ((p : ℕ) → move_in asks (run_with g done) ≡ Ask p → Played asks g (length (done ++ p ∷ []) + n) (play n asks (run_with g (done ++ p ∷ []))))
        → Played asks g (length done + suc n) (moved m (run_with g done) (λ p. play n asks (hit (run_with g done) p)))
    by_move (Ask p) e later =
        let many : length (done ++ p ∷ []) + n ≡ length done + suc n = omega (arith, length-append done (p ∷ [])) in
        subst (λ m. Played asks g m (play n asks (run_with g (done ++ p ∷ [])))) many (later p e)
    by_move (Done j) e later = here (subst Rests (sym e) tt)
    by_move Unknown e later = here (subst Rests (sym e) tt)

pub whole_played : (asks : List Reply → Move) (g : Given) → Played asks g (suc g.limit) (whole_play asks g)
whole_played asks g = subst (λ n. Played asks g n (whole_play asks g)) (zero-add (suc g.limit)) (play_on asks g (suc g.limit) [] tt)

-- ---- each hit is the one that is asked

pub follows_at : (asks : List Reply → Move) (g : Given) (done ps : List ℕ) (k p : ℕ) → FollowsOn asks g done ps → slice_get ps k ≡ Some p → move_in asks (run_with g (done ++ take k ps)) ≡ Ask p
follows_at asks g done [] k p f e = absurd cc
follows_at asks g done (q ∷ ps) zero p f e = ap (λ (l : List ℕ). move_in asks (run_with g l)) (append-nil done) ∙ f.0 ∙ ap (λ x. Ask x) (same_Some q p e)
follows_at asks g done (q ∷ ps) (suc k) p f e =
    ap (λ (l : List ℕ). move_in asks (run_with g l)) (sym (append_assoc done (q ∷ []) (take k ps))) ∙ follows_at asks g (done ++ q ∷ []) ps k p f.1 e

pub follows_of : (asks : List Reply → Move) (g : Given) (done ps : List ℕ) → ((k p : ℕ) → slice_get ps k ≡ Some p → move_in asks (run_with g (done ++ take k ps)) ≡ Ask p) → FollowsOn asks g done ps
follows_of asks g done [] h = tt
follows_of asks g done (q ∷ ps) h = (
  ap (λ (l : List ℕ). move_in asks (run_with g l)) (sym (append-nil done)) ∙ h 0 q refl,
  follows_of asks g (done ++ q ∷ []) ps (λ k p e. ap (λ (l : List ℕ). move_in asks (run_with g l)) (append_assoc done (q ∷ []) (take k ps)) ∙ h (suc k) p e),
)

-- an asked move is that after the answers, and nothing has cut the run short
asked_by : (b : Bool) (m : Move) (p : ℕ) → cond b (Done Kept) m ≡ Ask p → (b ≡ false) × (m ≡ Ask p)
asked_by true m p e = absurd cc
asked_by false m p e = (refl, e)

pub asked_so : (asks : List Reply → Move) (r : Run) (p : ℕ) → move_in asks r ≡ Ask p → (is_cut_short r ≡ false) × (asks (replies r) ≡ Ask p)
asked_so asks r p e = asked_by (is_cut_short r) (asks (replies r)) p e

pub moves_so : (asks : List Reply → Move) (r : Run) (m : Move) → is_cut_short r ≡ false → asks (replies r) ≡ m → move_in asks r ≡ m
moves_so asks r m goes e = ap (λ (b : Bool). cond b (Done Kept) (asks (replies r))) goes ∙ e

pub cut_rests : (asks : List Reply → Move) (r : Run) → is_cut_short r ≡ true → Rests (move_in asks r)
cut_rests asks r cut = let at : move_in asks r ≡ Done Kept = ap (λ (b : Bool). cond b (Done Kept) (asks (replies r))) cut in subst Rests (sym at) tt
