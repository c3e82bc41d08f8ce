-- A target's own run with its power cut is a run of what both ask.
use Rattle.std.proofs.Common.{◌≡◌, ℕ, ◌<◌, Bool, true, false, cond, List, [], ◌∷◌, ◌++◌, length, map, Option, Some, None, refl, ap, sym, ◌∙◌, subst, append_assoc, arith, suc, rules}
use Rattle.std.proofs.lemmas.List.{append-nil, map-append}
use Rattle.std.proofs.lemmas.Bool.{le-ltb, lt-ltb}
use Rattle.action_eval.specs.declared.answer.Stop.{Stop}
use Rattle.action_eval.specs.declared.answer.Stop.TheVariants as stop
use Rattle.action_eval.specs.Answers.{Given, Run, Reply, hit, start, replies, reply_to, stopped_by, history_of, is_over, cuts_short, is_cut_short}
use Rattle.action_eval.proofs.CallerLemmas.{replies_open}
use Rattle.target_trait.specs.declared.judgement.Judgement.{Judgement}
use Rattle.target_trait.specs.declared.judgement.Judgement.TheVariants.{Kept}
use Rattle.target_trait.specs.Play.{Move, Ask, Done, Follows, FollowsOn, IsDone, IsPlay, IsCutPlay, EndsSo, move_in}
use Rattle.target_trait.specs.Cuts.{Cut, CutAsked, CutEnded, IsEnded, IsAsking, AsksAll, asks_with, asks_from, cut_asks, keeps}
use Rattle.target_trait.proofs.Halted.{Halts, uncut}
use Rattle.target_trait.proofs.Plays.{follows_on_more}
use Rattle.target_trait.proofs.CutPlays.{asks_on, cut_follows}

-- ---- the target's own run

pub asks_more : (asks : List Reply → Move) (done rest : List Reply) (a : Reply) → AsksAll asks done rest → IsAsking (asks (done ++ rest)) → AsksAll asks done (rest ++ a ∷ [])
asks_more asks done [] a h k = (subst (λ (l : List Reply). IsAsking (asks l)) (append-nil done) k, tt)
asks_more asks done (b ∷ rest) a h k =
    (h.0, asks_more asks (done ++ b ∷ []) rest a h.1 (subst (λ (l : List Reply). IsAsking (asks l)) (sym (append_assoc done (b ∷ []) rest)) k))

pub asks_own : (asks : List Reply → Move) (cut : Cut) (keep : ℕ) (done rest : List Reply) → AsksAll asks done rest → IsAsking (asks (done ++ rest))
    → asks_from asks cut keep done rest ≡ asks (done ++ rest)
asks_own asks cut keep done [] h k =
    asks_on (asks done) (asks done) (cut_asks cut keep done []) (subst (λ (l : List Reply). IsAsking (asks l)) (append-nil done) k) ∙ ap asks (sym (append-nil done))
asks_own asks cut keep done (a ∷ rest) h k =
    asks_on (asks done) (asks_from asks cut keep (done ++ a ∷ []) rest) (cut_asks cut keep done (a ∷ rest)) h.0
    ∙ asks_own asks cut keep (done ++ a ∷ []) rest h.1 (subst (λ (l : List Reply). IsAsking (asks l)) (sym (append_assoc done (a ∷ []) rest)) k)
    ∙ ap asks (append_assoc done (a ∷ []) rest)

pub within_limit : (b : Bool) (s : Option Stop) → cuts_short (cond b (Some stop.Limit) s) ≡ false → b ≡ false
within_limit true s e = cc
within_limit false s e = refl

abbrev at : Given → List ℕ → Run
at g hits = record { given = g; hits = hits }

record Own (asks all : List Reply → Move) (g : Given) (done ps : List ℕ) : Type 0 where
  follows : FollowsOn all g done ps
  asking : AsksAll asks [] (replies (at g (done ++ ps)))

own : (asks : List Reply → Move) → Halts asks → (cut : Cut) (keep : ℕ) (g : Given) (done ps : List ℕ) → AsksAll asks [] (replies (at g done)) → Follows asks g done ps
    → Own asks (asks_with asks cut keep) g done ps
own asks halts cut keep g done [] all f =
    record { follows = tt; asking = subst (λ (l : List ℕ). AsksAll asks [] (replies (at g l))) (sym (append-nil done)) all }
own asks halts cut keep g done (p ∷ ps) all f =
    let r : Run = at g done in
    let asking : IsAsking (asks (replies r)) = subst IsAsking (sym f.0) tt in
    let goes : is_cut_short r ≡ false = uncut asks halts r p f.0 in
    let more : replies (hit r p) ≡ replies r ++ reply_to r p ∷ [] = replies_open r p (within_limit (is_over r) (stopped_by (history_of r)) goes) in
    let next = own asks halts cut keep g (done ++ p ∷ []) ps (subst (AsksAll asks []) (sym more) (asks_more asks [] (replies r) (reply_to r p) all asking)) f.1 in
    record {
      follows = (
        ap (λ b. cond b (Done Kept) (asks_with asks cut keep (replies r))) goes ∙ asks_own asks cut keep [] (replies r) all asking ∙ f.0,
        next.follows,
      );
      asking = subst (λ (l : List ℕ). AsksAll asks [] (replies (at g l))) (append_assoc done (p ∷ []) ps) next.asking;
    }

-- ---- the cut

ends_so : (b : Bool) (move : Move) (j : Judgement) → (b ≡ false → move ≡ Done j) → EndsSo b move j
ends_so true move j e = tt
ends_so false move j e = e refl

-- The judgement is that of the writes that are kept, if the run wasn't cut short.
abbrev pub IsJudged : Cut → List Reply → Option (List Bool) → Judgement → Type 0
IsJudged cut own None j = Unit {0}
IsJudged cut own (Some kept) j = j ≡ cut.judge own kept

ended : (all : List Reply → Move) (cut : Cut) (own : List Reply) (keep pending : ℕ) (old new : Run) (kept : Option (List Bool)) (j : Judgement)
    → own ≡ replies old → cut.pending own ≡ pending → ((answers : List Reply) → all (own ++ answers) ≡ cut_asks cut keep own answers)
    → (so_far : List Bool) → CutAsked keep pending old new so_far → IsEnded pending new so_far kept → IsJudged cut own kept j
    → EndsSo (is_cut_short new) (all (replies new)) j
ended all cut own keep pending old new None j own_is some asks so_far a e judged =
    ends_so (is_cut_short new) (all (replies new)) j (λ goes. let no : true ≡ false = sym e ∙ goes in absurd cc)
ended all cut own keep pending old new (Some kept) j own_is some asks so_far a e judged =
    let long : length (map keeps a.answers) ≡ pending = ap length (sym a.kept_are) ∙ ap length (sym e.0) ∙ e.1 in
    ends_so (is_cut_short new) (all (replies new)) j
    (λ goes.
    ap all (a.told ∙ ap (λ (l : List Reply). l ++ a.answers) (sym own_is)) ∙ asks a.answers
    ∙ ap (λ b. cond b (Ask keep) (Done (cut.judge own (map keeps a.answers)))) (le-ltb (length a.answers) (cut.pending own) (omega (arith, long, some, as_long a.answers)))
    ∙ ap (λ (l : List Bool). Done (cut.judge own l)) (sym (e.0 ∙ a.kept_are)) ∙ ap Done (sym judged))
  where
    as_long : (answers : List Reply) → length (map keeps answers) ≡ length answers
    as_long [] = refl
    as_long (b ∷ answers) = ap (λ n. suc n) (as_long answers)

asks_keep : (all : List Reply → Move) (cut : Cut) (own : List Reply) (keep pending : ℕ) → cut.pending own ≡ pending
    → ((answers : List Reply) → all (own ++ answers) ≡ cut_asks cut keep own answers) → (more : List Reply) → length more < pending → all (own ++ more) ≡ Ask keep
asks_keep all cut own keep pending some asks more few =
    asks more ∙ ap (λ b. cond b (Ask keep) (Done (cut.judge own (map keeps more)))) (lt-ltb (length more) (cut.pending own) (omega (arith, few, some)))

-- nothing is answered yet
none_yet : (g : Given) → replies (start g) ≡ []
none_yet g = search rules

-- a whole run of a target, and then its cut
pub with_cut : (asks : List Reply → Move) → Halts asks → (cut : Cut) (keep pending : ℕ) (old new : Run) (i j : Judgement) (kept : Option (List Bool))
    → IsPlay asks old i → cut.pending (replies old) ≡ pending → CutEnded keep pending old new kept → IsJudged cut (replies old) kept j
    → IsCutPlay (asks_with asks cut keep) new j
with_cut asks halts cut keep pending old new i j kept is some c judged =
    let all : List Reply → Move = asks_with asks cut keep in
    let before = own asks halts cut keep old.given [] old.hits (subst (AsksAll asks []) (sym (none_yet old.given)) tt) is.asked in
    let over : IsDone (asks (replies old)) = subst IsDone (sym is.ended) tt in
    let after : (answers : List Reply) → all (replies old ++ answers) ≡ cut_asks cut keep (replies old) answers =
    λ answers. cut_follows asks cut keep (replies old) answers before.asking over in
    record {
      asked = c.asked.asked all (asks_keep all cut (replies old) keep pending some after) before.follows;
      ended = ended all cut (replies old) keep pending old new kept j refl some after c.so_far c.asked c.ended judged;
    }

-- ---- hits of the cut

pub asked_once : (keep pending : ℕ) (old r new : Run) (kept : List Bool) → CutAsked keep pending old r kept → length kept < pending → is_cut_short r ≡ false
    → new ≡ hit r keep → (a : Reply) → replies new ≡ replies r ++ a ∷ [] → (keeps_it : Bool) → keeps_it ≡ keeps a → (now : List Bool) → now ≡ kept ++ keeps_it ∷ []
    → CutAsked keep pending old new now
asked_once keep pending old r new kept c few goes same a told keeps_it by now now_is =
    record {
      given = ap (λ (x : Run). x.given) same ∙ c.given;
      answers = c.answers ++ a ∷ [];
      told = told ∙ ap (λ (l : List Reply). l ++ a ∷ []) c.told ∙ append_assoc (replies old) c.answers (a ∷ []);
      kept_are = now_is ∙ ap (λ b. kept ++ b ∷ []) by ∙ ap (λ (l : List Bool). l ++ keeps a ∷ []) c.kept_are ∙ sym (map-append keeps c.answers (a ∷ []));
      asked = λ asks asking f.
          let next : move_in asks r ≡ Ask keep =
          ap (λ b. cond b (Done Kept) (asks (replies r))) goes ∙ ap asks c.told ∙ asking c.answers (fewer c.answers (ap length c.kept_are)) in
          subst (λ (x : Run). FollowsOn asks x.given [] x.hits) (sym same) (follows_on_more asks r.given [] r.hits keep (c.asked asks asking f) next);
    }
  where
    as_long : (answers : List Reply) → length (map keeps answers) ≡ length answers
    as_long [] = refl
    as_long (b ∷ answers) = ap (λ n. suc n) (as_long answers)

    fewer : (answers : List Reply) → length kept ≡ length (map keeps answers) → length answers < pending
    fewer answers e = omega (arith, few, e, as_long answers)
