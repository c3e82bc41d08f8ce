-- A run without hits, followed through a tree in which all lines stand.
use Rattle.std.proofs.Common.{◌≡◌, ◌⊎◌, inl, inr, ℕ, zero, suc, ◌+◌, ◌<◌, ◌≤◌, Option, Some, None, List, [], ◌∷◌, ◌++◌, length, take, get_or, refl, ap, sym, ◌∙◌, subst, arith, Bool, true, false}
use Rattle.std.specs.Prelude.{IfSome, slice_get}
use Rattle.std.specs.List.{AllByRecursion}
use Rattle.std.proofs.lemmas.Bool.{cases_lt}
use Rattle.std.proofs.lemmas.List.{length_push, length-take-le, take-append-le, take-take, take_all, take_more}
use Rattle.std.proofs.lemmas.Option.{get_or_from_slice_get, slice_get-get_or, slice_get_within}
use Rattle.scenario_values.specs.Scenario.{Entries}
use Rattle.action_eval.specs.Answers.{Reply, Go, Run, given_of, hit, is_cut_short, replies, run_of, start}
use Rattle.target_trait.specs.Play.{Move}
use Rattle.target_trait.specs.declared.judgement.Verdict.{Verdict}
use Rattle.target_trait.specs.declared.judgement.Verdict.TheVariants.{Unresolved}
use Rattle.answered_runs.specs.Agreement.{ContradictsBy, HasItsRun, Line, Says, line_of, move_said, run_over}
use Rattle.answered_runs.specs.Answered.{Answered, told_of}
use Rattle.answer_text.specs.declared.runs.ToldRun.{ToldRun}
use Rattle.answered_runs.specs.declared.broken.BrokenRun.{BrokenRun}
use Rattle.answered_runs.specs.declared.tree.Next.TheVariants.{End, Hit}
use Rattle.answered_runs.specs.declared.tree.Said.{Said}
use Rattle.answered_runs.specs.declared.unseen.UnseenRun.{UnseenRun}
use Rattle.answered_runs.specs.inside.Trees.{AreKept, HaveKnownPoints, IsEndFault, IsKept, IsSaid, IsSound, IsTold, IsUnseen, StaysApart, Tree, move_of, walk, way}
use Rattle.answered_runs.proofs.Places.{name_is, walk_more}
use Rattle.answered_runs.proofs.PlayedHits.{length_replies, replies_over, replies_part, short_over}
use Rattle.answered_runs.proofs.PutHits.{end_said, hit_said}

true_or_false : (b : Bool) → (b ≡ true → ⊥) → b ≡ false
true_or_false true h = absurd (h refl)
true_or_false false h = refl

true_not_false : (b : Bool) → b ≡ true → b ≡ false → ⊥
true_not_false b x y = let w : true ≡ false = sym x ∙ y in cc

place_same : (m n : ℕ) → (let o : Option ℕ = Some m in o) ≡ Some n → m ≡ n
place_same m n e = cc

said_same : (x y : Said) → (let o : Option Said = Some x in o) ≡ Some y → x ≡ y
said_same x y e = cc

split_le : (m n : ℕ) → m ≤ n + 1 → (m ≤ n) ⊎ (m ≡ n + 1)
split_le m n le = elim (cases_lt n m) [
  | inl h ↦ inr (omega (arith, h, le))
  | inr h ↦ inl h
]

-- the hits so far: no pause has stopped them; lines that had the same answers had the same hits; and so had a line whose run the scenario has
pub record Following (a : Answered) (t : Tree) (s : Entries) (place : ℕ) (answer : Reply) (now : Run) : Type 0 where
  pub now_is : now ≡ run_of s a.points 0 0 4294967295 now.hits
  pub few : length now.hits ≤ place
  pub low : place ≤ 4294967295
  pub before : List Reply
  pub reached : walk t 0 before ≡ Some place
  pub name_is : before ++ answer ∷ [] ≡ Go ∷ replies (run_over a.points s now.hits)
  pub goes : (count : ℕ) → count ≤ length now.hits → is_cut_short (run_over a.points s (take count now.hits)) ≡ false
  pub alike : (u : Entries) (q : ToldRun) → IsTold a u q → (h : List ℕ) → (told_of q).hits ≡ Some h → (c : ℕ) → c ≤ length h → replies (run_over a.points u (take c h)) ≡ replies (run_over a.points s now.hits)
      → is_cut_short (run_over a.points u (take c h)) ≡ false → take c h ≡ now.hits
  pub holds : (u : Entries) (q : ToldRun) → IsTold a u q → (h : HasItsRun a.points s (line_of u (told_of q))) → (length now.hits ≤ length h.hits) × (take (length now.hits) h.hits ≡ now.hits)

module _ (a : Answered) (t : Tree) (s : Entries) (sound : IsSound a t) (kept : AreKept a t) where
  abbrev answers_to : List ℕ → List Reply
  answers_to hits = replies (run_over a.points s hits)

  abbrev line_told : Entries → ToldRun → Line
  line_told u q = line_of u (told_of q)

  pub follows : Following a t s 0 Go (start (given_of s a.points 0 0 4294967295))
  follows = record {
    now_is = refl;
    few = omega arith;
    low = omega arith;
    before = [];
    reached = refl;
    name_is = refl;
    goes = λ count le.
        let none : 0 ≡ count = omega (arith, le) in
        subst (λ (n : ℕ). is_cut_short (run_over a.points s (take n [])) ≡ false) none refl;
    alike = λ u q told h e c le same goes.
        let some = ap length (sym same) ∙ length_replies a.points u (take c h) ∙ length-take-le c h le in
        let none : c ≡ 0 = omega (arith, some) in
        ap (λ (n : ℕ). take n h) none;
    holds = λ u q told h. (omega arith, refl);
  }

  -- a line that goes on isn't cut short
  line_goes : (u : Entries) (q : ToldRun) → IsTold a u q → (h : List ℕ) → (told_of q).hits ≡ Some h → (c : ℕ) → c ≤ length h
      → ((c ≡ length h) × ((told_of q).verdict ≡ Unresolved) → ⊥) → is_cut_short (run_over a.points u (take c h)) ≡ false
  line_goes u q told h e c le never =
      let pauses : IfSome (Some h) (λ (hits : List ℕ). (count : ℕ) → count ≤ length hits → is_cut_short (run_over a.points u (take count hits)) ≡ true → (count ≡ length hits) × ((told_of q).verdict ≡ Unresolved)) =
      subst (λ (o : Option (List ℕ)). IfSome o (λ (hits : List ℕ). (count : ℕ) → count ≤ length hits → is_cut_short (run_over a.points u (take count hits)) ≡ true → (count ≡ length hits) × ((told_of q).verdict ≡ Unresolved))) e
      (kept u q told).pauses
      in
      true_or_false (is_cut_short (run_over a.points u (take c h))) (λ short. never (pauses c le short))

  module _ (place : ℕ) (answer : Reply) (now : Run) (f : Following a t s place answer now) where
    leads : walk t 0 (Go ∷ answers_to now.hits) ≡ way t place answer
    leads = ap (walk t 0) (sym f.name_is) ∙ walk_more t 0 f.before answer place f.reached

    -- a line whose run the scenario has says what comes next
    own_says : (u : Entries) (q : ToldRun) → IsTold a u q → (h : HasItsRun a.points s (line_told u q)) → Says a.points (line_told u q) (length now.hits) (answers_to now.hits) (move_said (told_of q).verdict (slice_get h.hits (length now.hits)))
    own_says u q told h =
        let (le, same) = f.holds u q told h in
        record {
          hits = h.hits;
          known = h.known;
          within = le;
          reached = sym (h.alike (length now.hits) le) ∙ ap answers_to same;
          goes_on = line_goes u q told h.hits h.known (length now.hits) le (λ unresolved. h.resolved unresolved.1);
          move_is = refl;
        }

    -- no pause has stopped it
    pub still_runs : is_cut_short now ≡ false
    still_runs =
        let few = f.few in
        let low = f.low in
        ap is_cut_short f.now_is ∙ short_over a.points s 4294967295 now.hits (omega (arith, few, low))
        ∙ ap (λ (l : List ℕ). is_cut_short (run_over a.points s l)) (sym (take_all (length now.hits) now.hits (omega arith))) ∙ f.goes (length now.hits) (omega arith)

    -- where no line had this answer, the scenario has no line's run
    pub nobody : way t place answer ≡ None → (v : Verdict) (u : Entries) (q : ToldRun) → IsTold a u q → HasItsRun a.points s (line_told u q) → v ≡ (told_of q).verdict
    nobody none v u q told h =
        let there = (kept u q told).says _ _ _ (own_says u q told h) in
        absurd (let w : None ≡ Some there.place = sym none ∙ sym leads ∙ there.there in cc)

    module _ (next : ℕ) (x : Said) (found : way t place answer ≡ Some next) (at : slice_get t.said next ≡ Some x) where
      reached : walk t 0 (Go ∷ answers_to now.hits) ≡ Some next
      reached = leads ∙ found

      pub later : (place < next) × (next < length t.said)
      later =
          let step = sound.ways place answer next found in
          (step.later, step.within)

      -- what a line says here is what stands here
      here : (l : Line) (c : ℕ) (move : Move) → IsKept a.points t l → Says a.points l c (answers_to now.hits) move → move_of x.next ≡ move
      here l c move k says =
          let there = k.says c (answers_to now.hits) move says in
          let same : there.place ≡ next = place_same there.place next (sym there.there ∙ reached) in
          let own : there.said ≡ x = said_same there.said x (sym there.at ∙ ap (slice_get t.said) same ∙ at) in
          ap (λ (y : Said). move_of y.next) (sym own) ∙ there.move_is

      source : IsSaid a (Go ∷ answers_to now.hits) x
      source =
          let less = later.0 in
          subst (λ (l : List Reply). IsSaid a l x) (name_is a t sound (Go ∷ answers_to now.hits) next reached) (sound.sources next x (omega (arith, less)) at)

      -- ---- a hit

      all_at : (h : List ℕ) (c p : ℕ) → slice_get h c ≡ Some p → AllByRecursion (λ n. n < length a.points) h → p < length a.points
      all_at [] c p e all = absurd cc
      all_at (y ∷ h) zero p e all = let same : y ≡ p = place_same y p e in subst (λ (n : ℕ). n < length a.points) same all.0
      all_at (y ∷ h) (suc c) p e all = all_at h c p e all.1

      pub point_known : HaveKnownPoints a → (p : ℕ) → x.next ≡ Hit p → p < length a.points
      point_known known p is =
          let from = source in
          let there = hit_said (told_of from.run).verdict p (slice_get from.says.hits from.count) (ap move_of (sym is) ∙ from.says.move_is) in
          let all : IfSome (Some from.says.hits) (λ (hits : List ℕ). AllByRecursion (λ n. n < length a.points) hits) =
          subst (λ (o : Option (List ℕ)). IfSome o (λ (hits : List ℕ). AllByRecursion (λ n. n < length a.points) hits)) from.says.known (known from.scenario from.run from.told.recorded)
          in
          all_at from.says.hits from.count p there all

      module _ (p : ℕ) (is : x.next ≡ Hit p) (new : Run) (reply : Reply) (new_is : new ≡ hit now p) (told_is : replies new ≡ replies now ++ reply ∷ []) (low : next ≤ 4294967295) where
        hits_are : new.hits ≡ now.hits ++ p ∷ []
        hits_are = ap (λ (r : Run). r.hits) new_is

        long : length new.hits ≡ length now.hits + 1
        long = ap length hits_are ∙ length_push now.hits p

        new_given : new ≡ run_of s a.points 0 0 4294967295 new.hits
        new_given = new_is ∙ ap (λ (r : Run). hit r p) f.now_is ∙ ap (run_of s a.points 0 0 4294967295) (sym hits_are)

        short_hits : length new.hits ≤ 4294967295
        short_hits = let few = f.few in let less = later.0 in omega (arith, long, few, less, low)

        more : answers_to new.hits ≡ answers_to now.hits ++ reply ∷ []
        more =
            let few : length now.hits ≤ 4294967295 = (let l = long in let e = short_hits in omega (arith, l, e)) in
            sym (replies_over a.points s 4294967295 new.hits short_hits) ∙ ap replies (sym new_given) ∙ told_is ∙ ap (λ (r : Run). replies r ++ reply ∷ []) f.now_is
            ∙ ap (λ (l : List Reply). l ++ reply ∷ []) (replies_over a.points s 4294967295 now.hits few)

        cut_is : is_cut_short new ≡ is_cut_short (run_over a.points s new.hits)
        cut_is = ap is_cut_short new_given ∙ short_over a.points s 4294967295 new.hits short_hits

        -- one more hit of a line
        one_more : (h : List ℕ) → take (length now.hits) h ≡ now.hits → slice_get h (length now.hits) ≡ Some p → (length new.hits ≤ length h) × (take (length new.hits) h ≡ new.hits)
        one_more h same there =
            let less : length now.hits < length h = slice_get_within h (length now.hits) p there in (
              omega (arith, less, long),
              ap (λ (n : ℕ). take n h) long ∙ take_more h (length now.hits) 0 less ∙ ap (λ (l : List ℕ). l ++ get_or h (length now.hits) 0 ∷ []) same
                  ∙ ap (λ (y : ℕ). now.hits ++ y ∷ []) (get_or_from_slice_get h (length now.hits) p 0 there) ∙ sym hits_are,
            )

        holds_more : (u : Entries) (q : ToldRun) → IsTold a u q → (h : HasItsRun a.points s (line_told u q)) → (length new.hits ≤ length h.hits) × (take (length new.hits) h.hits ≡ new.hits)
        holds_more u q told h =
            let move_is = here (line_told u q) (length now.hits) _ (kept u q told) (own_says u q told h) in
            one_more h.hits (f.holds u q told h).1 (hit_said (told_of q).verdict p (slice_get h.hits (length now.hits)) (ap move_of (sym is) ∙ move_is))

        alike_more : (u : Entries) (q : ToldRun) → IsTold a u q → (h : List ℕ) → (told_of q).hits ≡ Some h → (c : ℕ) → c ≤ length h → replies (run_over a.points u (take c h)) ≡ answers_to new.hits → take c h ≡ new.hits
        alike_more u q told h e c le same =
            let n : ℕ = length now.hits in
            let count : c ≡ length now.hits + 1 = sym (length-take-le c h le) ∙ sym (length_replies a.points u (take c h)) ∙ ap length same ∙ length_replies a.points s new.hits ∙ long in
            let least : length now.hits ≤ length h = omega (arith, count, le) in
            let fewer : length now.hits ≤ length (take c h) = (let l = length-take-le c h le in omega (arith, l, count)) in
            let part : take (length now.hits) (take c h) ≡ take (length now.hits) h = take-take (length now.hits) c h (omega (arith, count)) in
            let told_long = length_replies a.points s now.hits in
            let before : replies (run_over a.points u (take (length now.hits) h)) ≡ answers_to now.hits =
            ap (λ (l : List ℕ). replies (run_over a.points u l)) (sym part) ∙ replies_part a.points u (length now.hits) (take c h) fewer ∙ ap (take (length now.hits)) (same ∙ more)
            ∙ take-append-le (length now.hits) (answers_to now.hits) (reply ∷ []) (omega (arith, told_long)) ∙ take_all (length now.hits) (answers_to now.hits) (omega (arith, told_long))
            in
            let goes = line_goes u q told h e (length now.hits) least (λ whole. let w = whole.0 in absurd (omega (arith, w, count, le))) in
            let front = f.alike u q told h e (length now.hits) least before goes in
            let says : Says a.points (line_told u q) (length now.hits) (answers_to now.hits) (move_said (told_of q).verdict (slice_get h (length now.hits))) =
            record { hits = h; known = e; within = least; reached = before; goes_on = goes; move_is = refl }
            in
            let move_is = here (line_told u q) (length now.hits) _ (kept u q told) says in
            let there = hit_said (told_of q).verdict p (slice_get h (length now.hits)) (ap move_of (sym is) ∙ move_is) in
            ap (λ (m : ℕ). take m h) (count ∙ sym long) ∙ (one_more h front there).1

        pub paused : is_cut_short new ≡ true → (v : Verdict) (u : Entries) (q : ToldRun) → IsTold a u q → HasItsRun a.points s (line_told u q) → v ≡ (told_of q).verdict
        paused short v u q told h =
            let (le, same) = holds_more u q told h in
            let goes = h.goes_on (length new.hits) le in
            absurd (true_not_false (is_cut_short new) short (cut_is ∙ ap (λ (l : List ℕ). is_cut_short (run_over a.points s l)) (sym same) ∙ goes))

        pub follows_on : is_cut_short new ≡ false → Following a t s next reply new
        follows_on goes = record {
          now_is = new_given;
          few = let few = f.few in let less = later.0 in omega (arith, few, less, long);
          low = low;
          before = Go ∷ answers_to now.hits;
          reached = reached;
          name_is = ap (λ (l : List Reply). Go ∷ l) (sym more);
          goes = λ count le. by_goes count (split_le count (length now.hits) (omega (arith, le, long)));
          alike = λ u q told h e c le same short. alike_more u q told h e c le same;
          holds = holds_more;
        }
          where
            by_goes : (count : ℕ) → (count ≤ length now.hits) ⊎ (count ≡ length now.hits + 1) → is_cut_short (run_over a.points s (take count new.hits)) ≡ false
            by_goes count (inl le) =
                ap (λ (l : List ℕ). is_cut_short (run_over a.points s l)) (ap (take count) hits_are ∙ take-append-le count now.hits (p ∷ []) le) ∙ f.goes count le
            by_goes count (inr e) =
                ap (λ (l : List ℕ). is_cut_short (run_over a.points s l)) (take_all count new.hits (omega (arith, e, long))) ∙ sym cut_is ∙ goes

      -- ---- the end

      pub ended : (run : UnseenRun) → run.scenario ≡ s → IsUnseen a run → (v : Verdict) → x.next ≡ End v → (o : Option BrokenRun) → IsEndFault run x.line v o → StaysApart a run o
      ended run own unseen v is None same = λ u q told h.
          let h : HasItsRun a.points s (line_told u q) = subst (λ (y : Entries). HasItsRun a.points y (line_told u q)) own h in
          let move_is = here (line_told u q) (length now.hits) _ (kept u q told) (own_says u q told h) in
          let end = end_said (told_of q).verdict v (slice_get h.hits (length now.hits)) (ap move_of (sym is) ∙ move_is) in
          same (λ e. h.resolved (sym end.1 ∙ e)) ∙ end.1
      ended run own unseen v is (Some b) (resolved, other, line, earlier, how) =
          let from = source in
          let says = from.says in
          let end = end_said (told_of from.run).verdict v (slice_get says.hits from.count) (ap move_of (sym is) ∙ says.move_is) in
          let last : from.count ≡ length says.hits = at_end says.hits from.count says.within end.0 in
          let same_answers : replies (run_over a.points from.scenario (take from.count says.hits)) ≡ answers_to now.hits = says.reached ∙ tail_same from.answers (answers_to now.hits) (sym from.name_is) in
          let front = f.alike from.scenario from.run from.told says.hits says.known from.count says.within same_answers says.goes_on in
          let whole : take from.count says.hits ≡ says.hits = take_all from.count says.hits (omega (arith, last)) in
          let hits : says.hits ≡ now.hits = sym whole ∙ front in
          let answers : answers_to says.hits ≡ replies (run_over a.points from.scenario says.hits) =
          ap answers_to hits ∙ sym same_answers ∙ ap (λ (l : List ℕ). replies (run_over a.points from.scenario l)) whole
          in
          let has : HasItsRun a.points s (line_told from.scenario from.run) = record {
            hits = says.hits;
            known = says.known;
            alike = λ c le. replies_part a.points s c says.hits le ∙ ap (take c) answers ∙ sym (replies_part a.points from.scenario c says.hits le);
            goes_on = λ c le.
                ap (λ (l : List ℕ). is_cut_short (run_over a.points s (take c l))) hits ∙ f.goes c (subst (λ (l : List ℕ). c ≤ length l) hits le);
            resolved = λ e. resolved (end.1 ∙ e);
          }
          in
          record {
            scenario = run.scenario;
            other = from.scenario;
            lawful = unseen.told.lawful;
            certain = unseen.told.certain;
            other_lawful = from.told.lawful;
            other_certain = from.told.certain;
            run = unseen.recorded;
            told = from.run;
            recorded = unseen.told.recorded;
            other_recorded = from.told.recorded;
            line = line ∙ unseen.line;
            earlier = earlier ∙ from.line;
            contradicts =
                subst (ContradictsBy a.points (line_told run.scenario unseen.recorded) (line_told from.scenario from.run)) (sym how)
                (inr
                (record {
                  unseen = unseen.unseen;
                  has = subst (λ (y : Entries). HasItsRun a.points y (line_told from.scenario from.run)) (sym own) has;
                  apart = λ e. other (unseen.verdict ∙ e ∙ sym end.1);
                }));
          }
        where
          at_end : (h : List ℕ) (c : ℕ) → c ≤ length h → slice_get h c ≡ None → c ≡ length h
          at_end h c le e = elim (cases_lt c (length h)) [
            | inl less ↦ absurd (let w : None ≡ Some (get_or h c 0) = sym e ∙ slice_get-get_or h c 0 less in cc)
            | inr more ↦ omega (arith, le, more)
          ]

          tail_same : (xs ys : List Reply) → (let l : List Reply = Go ∷ xs in l) ≡ Go ∷ ys → xs ≡ ys
          tail_same xs ys e = cc
