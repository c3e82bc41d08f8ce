-- The hits of a cut, by what is done at each.
use Rattle.std.proofs.Common.{◌≡◌, ℕ, ◌+◌, ◌<◌, ◌≤◌, false, cond, List, [], ◌∷◌, ◌++◌, length, map, Option, Some, None, ap, sym, ◌∙◌, subst, arith, append_assoc}
use Rattle.std.specs.List.{AllByRecursion}
use Rattle.std.specs.Option.{option_or}
use Rattle.std.proofs.lemmas.Bool.Decides.{nat_tests}
use Rattle.std.proofs.lemmas.List.{append-nil, map-append, length_push}
use Rattle.action_eval.specs.declared.answer.Stop.{Stop}
use Rattle.action_eval.specs.declared.answer.Stop.TheVariants as stop
use Rattle.action_eval.specs.Answers.{Given, Run, Hit, Reply, Halt, hit, next, reply_of, stop_of, replies, stopped_by, history_of, is_over, cuts_short, is_cut_short}
use Rattle.action_eval.proofs.Histories.{history-hit, stopped-on}
use Rattle.target_trait.specs.declared.judgement.Judgement.TheVariants.{Kept}
use Rattle.target_trait.specs.Play.{Move, Ask, Done, FollowsOn}
use Rattle.target_trait.proofs.CutLawsLemmas.Names.{at}

-- the next hits of a point are these
abbrev pub ComeNext : Given → ℕ → List Hit → List Hit → Type 0
ComeNext g n h [] = Unit {0}
ComeNext g n h (x ∷ xs) = (next g h n ≡ x) × ComeNext g n (h ++ x ∷ []) xs

abbrev pub said : List Hit → List Reply
said h = map (λ x. reply_of x.did) h

-- nothing stops at these hits
abbrev pub GoOn : List Hit → Type 0
GoOn h = AllByRecursion (λ x. stop_of x.did ≡ None) h

abbrev pub times : ℕ → List Hit → List ℕ
times n xs = map (λ _. n) xs

pub record CutHit (all : List Reply → Move) (g : Given) (n : ℕ) (hits : List ℕ) (h xs : List Hit) : Type 0 where
  pub asked : FollowsOn all g hits (times n xs)
  pub history : history_of (at g (hits ++ times n xs)) ≡ h ++ xs
  pub goes : cuts_short (stopped_by (h ++ xs)) ≡ false

still_within : (g : Given) (hits : List ℕ) → length hits ≤ g.limit → is_over (at g hits) ≡ false
still_within g hits h = grind (arith, nat_tests)

-- Whether a run within its limit is cut short, by its history.
pub short_is : (g : Given) (hits : List ℕ) (h : List Hit) → length hits ≤ g.limit → history_of (at g hits) ≡ h → is_cut_short (at g hits) ≡ cuts_short (stopped_by h)
short_is g hits h few is =
    ap (λ b. cuts_short (cond b (Some stop.Limit) (stopped_by (history_of (at g hits))))) (still_within g hits few) ∙ ap (λ (l : List Hit). cuts_short (stopped_by l)) is

pub replies_are : (g : Given) (hits : List ℕ) (h : List Hit) → length hits ≤ g.limit → history_of (at g hits) ≡ h → replies (at g hits) ≡ said h
replies_are g hits h few is =
    ap (λ b. said (history_of (at g hits)) ++ cond b (Halt ∷ []) []) (still_within g hits few) ∙ append-nil (said (history_of (at g hits))) ∙ ap said is

-- a point that is asked is hit
pub asked_at : (all : List Reply → Move) (g : Given) (n : ℕ) (hits : List ℕ) (h : List Hit) → length hits ≤ g.limit → history_of (at g hits) ≡ h
    → cuts_short (stopped_by h) ≡ false → all (said h) ≡ Ask n → cond (is_cut_short (at g hits)) (Done Kept) (all (replies (at g hits))) ≡ Ask n
asked_at all g n hits h few is goes asks =
    ap (λ b. cond b (Done Kept) (all (replies (at g hits)))) (short_is g hits h few is ∙ goes) ∙ ap all (replies_are g hits h few is) ∙ asks

unstopped : (o p : Option Stop) → o ≡ None → cuts_short p ≡ false → cuts_short (option_or o p) ≡ false
unstopped o p e goes = ap (λ x. cuts_short (option_or x p)) e ∙ goes

pub cut_hit : (all : List Reply → Move) (g : Given) (n : ℕ) (hits : List ℕ) (h xs : List Hit) → history_of (at g hits) ≡ h → length hits + length xs ≤ g.limit
    → cuts_short (stopped_by h) ≡ false → GoOn xs → ComeNext g n h xs → ((more : List Reply) → length more < length xs → all (said h ++ more) ≡ Ask n) → CutHit all g n hits h xs
cut_hit all g n hits h [] is few goes on come asks =
    record {
      asked = tt;
      history = ap (λ (l : List ℕ). history_of (at g l)) (append-nil hits) ∙ is ∙ sym (append-nil h);
      goes = ap (λ (l : List Hit). cuts_short (stopped_by l)) (append-nil h) ∙ goes;
    }
cut_hit all g n hits h (x ∷ xs) is few goes on come asks =
    let r : Run = at g hits in
    let more : history_of (hit r n) ≡ h ++ x ∷ [] =
    history-hit r n (omega (arith, few)) ∙ ap (λ (l : List Hit). l ++ next g l n ∷ []) is ∙ ap (λ (y : Hit). h ++ y ∷ []) come.0 in
    let goes_on : cuts_short (stopped_by (h ++ x ∷ [])) ≡ false = ap cuts_short (stopped-on h x) ∙ unstopped (stop_of x.did) (stopped_by h) on.0 goes in
    let further : (more : List Reply) → length more < length xs → all (said (h ++ x ∷ []) ++ more) ≡ Ask n =
    λ more less.
    ap (λ (l : List Reply). all (l ++ more)) (map-append (λ (y : Hit). reply_of y.did) h (x ∷ [])) ∙ ap all (append_assoc (said h) (reply_of x.did ∷ []) more)
    ∙ asks (reply_of x.did ∷ more) (omega (arith, less)) in
    let k = cut_hit all g n (hits ++ n ∷ []) (h ++ x ∷ []) xs more (omega (arith, few, length_push hits n)) goes_on on.1 come.1 further in
    let here : all (said h) ≡ Ask n = ap all (sym (append-nil (said h))) ∙ asks [] (omega arith) in
    let joined : (h ++ x ∷ []) ++ xs ≡ h ++ x ∷ xs = append_assoc h (x ∷ []) xs in
    record {
      asked = (asked_at all g n hits h (omega (arith, few)) is goes here, k.asked);
      history = ap (λ (l : List ℕ). history_of (at g l)) (sym (append_assoc hits (n ∷ []) (times n xs))) ∙ k.history ∙ joined;
      goes = ap (λ (l : List Hit). cuts_short (stopped_by l)) (sym joined) ∙ k.goes;
    }

-- hits and then further ones
pub follow_on : (asks : List Reply → Move) (g : Given) (done ps qs : List ℕ) → FollowsOn asks g done ps → FollowsOn asks g (done ++ ps) qs → FollowsOn asks g done (ps ++ qs)
follow_on asks g done [] qs f k = subst (λ (l : List ℕ). FollowsOn asks g l qs) (append-nil done) k
follow_on asks g done (p ∷ ps) qs f k =
    (f.0, follow_on asks g (done ++ p ∷ []) ps qs f.1 (subst (λ (l : List ℕ). FollowsOn asks g l qs) (sym (append_assoc done (p ∷ []) ps)) k))
