-- The run of a case with its cut, from that of the target alone.
use Rattle.std.proofs.Common.{◌≡◌, ℕ, suc, ◌+◌, ◌<◌, ◌≤◌, Bool, true, false, cond, List, [], ◌∷◌, ◌++◌, length, map, Option, Some, None, refl, ap, sym, ◌∙◌, subst, arith, rules, length-append}
use Rattle.std.proofs.lemmas.Bool.{lt-ltb}
use Rattle.std.proofs.lemmas.List.{map-append, length-map, length_push}
use Rattle.scenario_values.specs.Scenario.{Entries}
use Rattle.action_eval.specs.declared.answer.Stop.{Stop}
use Rattle.action_eval.specs.declared.answer.Stop.TheVariants as stop
use Rattle.action_eval.specs.Answers.{Given, Run, Hit, Reply, start, reply_of, replies, stopped, stopped_by, history_of, cuts_short, is_cut_short}
use Rattle.target_trait.specs.declared.judgement.Judgement.{Judgement}
use Rattle.target_trait.specs.declared.judgement.Judgement.TheVariants.{Kept}
use Rattle.target_trait.specs.declared.judgement.Verdict.{Verdict}
use Rattle.target_trait.specs.declared.judgement.Verdict.TheVariants.{Unresolved}
use Rattle.target_trait.specs.Play.{Move, Ask, Done, FollowsOn, EndsSo, IsCutPlay, IsDone, IsWithin}
use Rattle.target_trait.specs.Outcomes.{judged, verdict_of, verdict_with}
use Rattle.target_trait.specs.Cuts.{Cut, AsksAll, asks_with, answer_to, keeps, with_keep}
use Rattle.target_trait.proofs.CutPlays.{cut_follows, each_set}
use Rattle.target_trait.proofs.Plays.{follows_on_more, play_is}
use Rattle.target_trait.proofs.Verdicts.{verdict_is}
use Rattle.target_trait.specs.cut_laws.KeptSets.{run_of_case}
use Rattle.target_trait.proofs.CutLawsLemmas.Names.{AreBelow, HaveChains, at, own_given, longer_given, history_same, short_same}
use Rattle.target_trait.proofs.CutLawsLemmas.OwnRuns.{own_asked, past_limit, played}
use Rattle.target_trait.proofs.CutLawsLemmas.CutHits.{ComeNext, GoOn, asked_at, cut_hit, follow_on, replies_are, said, short_is, times}

-- ---- verdicts

uncut_verdict : (o : Option Stop) (move : Move) → cuts_short o ≡ false → verdict_of o move ≡ judged move
uncut_verdict None move e = refl
uncut_verdict (Some stop.Panic) move e = refl
uncut_verdict (Some stop.Paused) move e = absurd cc
uncut_verdict (Some stop.Limit) move e = absurd cc

cut_verdict : (o : Option Stop) (move : Move) → cuts_short o ≡ true → verdict_of o move ≡ Unresolved
cut_verdict None move e = absurd cc
cut_verdict (Some stop.Panic) move e = absurd cc
cut_verdict (Some stop.Paused) move e = refl
cut_verdict (Some stop.Limit) move e = refl

abbrev verdict_in : (List Reply → Move) → Run → Verdict
verdict_in asks r = verdict_of (stopped r) (asks (replies r))

case_verdict : (asks : List Reply → Move) (names : List (List ℕ)) (seed stream limit : ℕ) (s : Entries) (r : Run) → run_of_case asks names seed stream limit s ≡ r
    → verdict_with asks names seed limit stream s ≡ verdict_in asks r
case_verdict asks names seed stream limit s r is = verdict_is asks names seed limit stream s ∙ ap (verdict_in asks) is

-- ---- the run of the target alone

none_yet : (g : Given) → replies (start g) ≡ []
none_yet g = search rules

-- the run of a case, and that all its hits are hits of the longer run
pub record OwnPlay (asks all : List Reply → Move) (names : List (List ℕ)) (limit : ℕ) (own longer : Given) (out : Run) : Type 0 where
  pub hits : List ℕ
  pub few : length hits ≤ suc limit
  pub is : out ≡ at own hits
  pub asked : FollowsOn all longer [] hits
  pub asking : AsksAll asks [] (replies (at own hits))
  pub below : AreBelow (length names) hits
  pub ended : is_cut_short (at own hits) ≡ false → IsDone (asks (replies (at own hits)))

pub own_play : (asks : List Reply → Move) (cut : Cut) (names : List (List ℕ)) → ((answers : List Reply) → IsWithin (length names) (asks answers))
    → (seed stream limit : ℕ) (s t : Entries) → HaveChains names s t
    → OwnPlay asks (asks_with asks cut (length names)) names limit (own_given names seed stream limit s) (longer_given names seed stream limit t)
    (run_of_case asks names seed stream limit s)
own_play asks cut names within seed stream limit s t chains =
    let own : Given = own_given names seed stream limit s in
    let k = played asks (length names) within own (suc limit) [] (omega arith) in
    let o = own_asked asks cut names within seed stream limit s t chains [] k.hits tt (subst (AsksAll asks []) (sym (none_yet own)) tt) k.asked in
    record {
      hits = k.hits;
      few = k.few;
      is = k.is;
      asked = o.asked;
      asking = o.asking;
      below = o.below;
      ended = λ goes. subst (λ (r : Run). IsDone (asks (replies r))) k.is (k.ended (ap is_cut_short k.is ∙ goes));
    }

-- ---- runs with their cuts

ended_so : (b : Bool) (move : Move) (j : Judgement) → b ≡ false → move ≡ Done j → EndsSo b move j
ended_so true move j e m = absurd cc
ended_so false move j e m = m

cut_so : (b : Bool) (move : Move) (j : Judgement) → b ≡ true → EndsSo b move j
cut_so true move j e = tt
cut_so false move j e = absurd cc

-- the verdict of a case whose run was cut short
cut_short_verdict : (all : List Reply → Move) (names : List (List ℕ)) (seed stream limit : ℕ) (t : Entries) (hits : List ℕ)
    → FollowsOn all (longer_given names seed stream limit t) [] hits → length hits ≤ suc limit → is_cut_short (at (longer_given names seed stream limit t) hits) ≡ true
    → verdict_with all (with_keep names) seed limit stream t ≡ Unresolved
cut_short_verdict all names seed stream limit t hits asked few short =
    let r : Run = at (longer_given names seed stream limit t) hits in
    let is : IsCutPlay all r Kept = record { asked = asked; ended = cut_so (is_cut_short r) (all (replies r)) Kept short } in
    case_verdict all (with_keep names) seed stream limit t r (play_is all r Kept (suc limit) is few) ∙ cut_verdict (stopped r) (all (replies r)) short

pub record CutCase (asks : List Reply → Move) (cut : Cut) (names : List (List ℕ)) (seed stream limit : ℕ) (s t : Entries) (keep : List Bool) : Type 0 where
  pub answers : replies (run_of_case (asks_with asks cut (length names)) (with_keep names) seed stream limit t) ≡ replies (run_of_case asks names seed stream limit s) ++ map answer_to keep
  pub verdict : verdict_with (asks_with asks cut (length names)) (with_keep names) seed limit stream t ≡ judged (Done (cut.judge (replies (run_of_case asks names seed stream limit s)) keep))

module _ (asks : List Reply → Move) (cut : Cut) (names : List (List ℕ)) (seed stream limit : ℕ) (s t : Entries) (chains : HaveChains names s t)
    (o : OwnPlay asks (asks_with asks cut (length names)) names limit (own_given names seed stream limit s) (longer_given names seed stream limit t)
    (run_of_case asks names seed stream limit s)) where
  -- what is asked after the target's own answers
  asks_keep : is_cut_short (at (own_given names seed stream limit s) o.hits) ≡ false → (more : List Reply)
      → length more < cut.pending (replies (at (own_given names seed stream limit s) o.hits))
      → asks_with asks cut (length names) (replies (at (own_given names seed stream limit s) o.hits) ++ more) ≡ Ask (length names)
  asks_keep goes more few =
      let answers : List Reply = replies (at (own_given names seed stream limit s) o.hits) in
      cut_follows asks cut (length names) answers more o.asking (o.ended goes)
      ∙ ap (λ b. cond b (Ask (length names)) (Done (cut.judge answers (map keeps more)))) (lt-ltb (length more) (cut.pending answers) few)

  -- a cut whose hits are all answered
  pub kept_case : is_cut_short (at (own_given names seed stream limit s) o.hits) ≡ false → (keep : List Bool) (xs : List Hit) → length keep ≡ cut.pending (replies (at (own_given names seed stream limit s) o.hits))
      → said xs ≡ map answer_to keep → length o.hits + length keep ≤ limit → GoOn xs
      → ComeNext (longer_given names seed stream limit t) (length names) (history_of (at (own_given names seed stream limit s) o.hits)) xs
      → CutCase asks cut names seed stream limit s t keep
  kept_case goes keep xs long told room on come =
      let n : ℕ = length names in
      let all : List Reply → Move = asks_with asks cut n in
      let r : Run = at (own_given names seed stream limit s) o.hits in
      let g : Given = longer_given names seed stream limit t in
      let h : List Hit = history_of r in
      let many : length xs ≡ length keep = sym (length-map xs (λ (x : Hit). reply_of x.did)) ∙ ap length told ∙ length-map keep answer_to in
      let few : length o.hits ≤ limit = omega arith in
      let own_said : replies r ≡ said h = replies_are (own_given names seed stream limit s) o.hits h few refl in
      let on_going : cuts_short (stopped_by h) ≡ false = sym (short_is (own_given names seed stream limit s) o.hits h few refl) ∙ goes in
      let asking : (more : List Reply) → length more < length xs → all (said h ++ more) ≡ Ask n =
      λ more less. ap (λ (l : List Reply). all (l ++ more)) (sym own_said) ∙ asks_keep goes more (omega (arith, less, many, long)) in
      let c = cut_hit all g n o.hits h xs (history_same names seed stream limit s t chains o.hits o.below) (omega (arith, room, many)) on_going on come asking in
      let hits : List ℕ = o.hits ++ times n xs in
      let last : Run = at g hits in
      let fits : length hits ≤ limit = omega (arith, length-append o.hits (times n xs), length-map xs (λ (x : Hit). n), room, many) in
      let j : Judgement = cut.judge (replies r) keep in
      let answers : replies last ≡ replies r ++ map answer_to keep =
      replies_are g hits (h ++ xs) fits c.history ∙ map-append (λ (x : Hit). reply_of x.did) h xs ∙ ap (λ (l : List Reply). l ++ said xs) (sym own_said)
      ∙ ap (λ (l : List Reply). replies r ++ l) told in
      let over : all (replies last) ≡ Done j = ap all answers ∙ each_set asks cut n (replies r) keep o.asking (o.ended goes) long in
      let uncut : is_cut_short last ≡ false = short_is g hits (h ++ xs) fits c.history ∙ c.goes in
      let is : IsCutPlay all last j = record {
        asked = follow_on all g [] o.hits (times n xs) o.asked c.asked;
        ended = ended_so (is_cut_short last) (all (replies last)) j uncut over;
      } in
      let run_is : run_of_case all (with_keep names) seed stream limit t ≡ last = play_is all last j (suc limit) is (omega (arith, fits)) in
      record {
        answers = ap replies run_is ∙ answers ∙ ap (λ (x : Run). replies x ++ map answer_to keep) (sym o.is);
        verdict =
            case_verdict all (with_keep names) seed stream limit t last run_is ∙ uncut_verdict (stopped last) (all (replies last)) uncut ∙ ap judged over
            ∙ ap (λ (x : Run). judged (Done (cut.judge (replies x) keep))) (sym o.is);
      }

  -- a run of the target that was cut short
  pub short_case : is_cut_short (at (own_given names seed stream limit s) o.hits) ≡ true → verdict_with (asks_with asks cut (length names)) (with_keep names) seed limit stream t ≡ Unresolved
  short_case short =
      cut_short_verdict (asks_with asks cut (length names)) names seed stream limit t o.hits o.asked o.few (short_same names seed stream limit s t chains o.hits o.below ∙ short)

  pub short_alone : is_cut_short (at (own_given names seed stream limit s) o.hits) ≡ true → verdict_with asks names seed limit stream s ≡ Unresolved
  short_alone short =
      let r : Run = at (own_given names seed stream limit s) o.hits in
      case_verdict asks names seed stream limit s r o.is ∙ cut_verdict (stopped r) (asks (replies r)) short

  pub ended_alone : is_cut_short (at (own_given names seed stream limit s) o.hits) ≡ false
      → verdict_with asks names seed limit stream s ≡ judged (asks (replies (at (own_given names seed stream limit s) o.hits)))
  ended_alone goes =
      let r : Run = at (own_given names seed stream limit s) o.hits in
      case_verdict asks names seed stream limit s r o.is ∙ uncut_verdict (stopped r) (asks (replies r)) goes

  -- a cut whose hits come to the limit
  pub limit_case : is_cut_short (at (own_given names seed stream limit s) o.hits) ≡ false → (xs : List Hit) → length xs < cut.pending (replies (at (own_given names seed stream limit s) o.hits))
      → length o.hits + length xs ≡ limit → GoOn xs
      → ComeNext (longer_given names seed stream limit t) (length names) (history_of (at (own_given names seed stream limit s) o.hits)) xs
      → verdict_with (asks_with asks cut (length names)) (with_keep names) seed limit stream t ≡ Unresolved
  limit_case goes xs less full on come =
      let n : ℕ = length names in
      let all : List Reply → Move = asks_with asks cut n in
      let r : Run = at (own_given names seed stream limit s) o.hits in
      let g : Given = longer_given names seed stream limit t in
      let h : List Hit = history_of r in
      let few : length o.hits ≤ limit = omega arith in
      let own_said : replies r ≡ said h = replies_are (own_given names seed stream limit s) o.hits h few refl in
      let on_going : cuts_short (stopped_by h) ≡ false = sym (short_is (own_given names seed stream limit s) o.hits h few refl) ∙ goes in
      let asking : (more : List Reply) → length more ≤ length xs → all (said h ++ more) ≡ Ask n =
      λ more fits. ap (λ (l : List Reply). all (l ++ more)) (sym own_said) ∙ asks_keep goes more (omega (arith, fits, less)) in
      let c = cut_hit all g n o.hits h xs (history_same names seed stream limit s t chains o.hits o.below) (omega (arith, full)) on_going on come
      (λ more fits. asking more (omega (arith, fits))) in
      let hits : List ℕ = o.hits ++ times n xs in
      let long : length hits ≡ limit = length-append o.hits (times n xs) ∙ ap (λ k. length o.hits + k) (length-map xs (λ (x : Hit). n)) ∙ full in
      let both : FollowsOn all g [] hits = follow_on all g [] o.hits (times n xs) o.asked c.asked in
      let once_more : all (said (h ++ xs)) ≡ Ask n =
      ap all (map-append (λ (x : Hit). reply_of x.did) h xs) ∙ asking (said xs) (omega (arith, length-map xs (λ (x : Hit). reply_of x.did))) in
      let past : FollowsOn all g [] (hits ++ n ∷ []) = follows_on_more all g [] hits n both (asked_at all g n hits (h ++ xs) (omega (arith, long)) c.history c.goes once_more) in
      cut_short_verdict all names seed stream limit t (hits ++ n ∷ []) past (omega (arith, long, length_push hits n))
      (past_limit g (hits ++ n ∷ []) (omega (arith, long, length_push hits n)))
