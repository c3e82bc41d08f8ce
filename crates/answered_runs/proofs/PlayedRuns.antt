-- The recorded runs, gone through one by one: what stands of each, and what follows once all stand.
use Rattle.std.proofs.Common.{◌≡◌, ◌⊎◌, inl, inr, ℕ, zero, suc, ◌+◌, ◌<◌, ◌≤◌, ◌&&◌, nat_le, Bool, true, false, cond, Option, Some, None, List, [], ◌∷◌, ◌++◌, length, take, get_or, refl, ap, sym, ◌∙◌, subst, arith}
use Rattle.std.specs.Prelude.{Contains, ◌^◌, IfSome, option_and_then, slice_get, slice_index_or}
use Rattle.std.specs.List.{AllByRecursion, list_all}
use Rattle.std.proofs.lemmas.Bool.{cases_lt}
use Rattle.std.proofs.lemmas.List.{take_all, take_more}
use Rattle.std.proofs.lemmas.List.Folds.{list_all_at}
use Rattle.std.proofs.lemmas.Option.{slice_get-get_or}
use Rattle.std.specs.Option.{option_map_or}
use Rattle.std.proofs.lemmas.List.Elements.{Contains-append_left, Contains-append_right}
use Rattle.scenario_values.specs.declared.term.Term.{Term}
use Rattle.scenario_values.specs.Scenario.{Entries, IsScenario, chain_at}
use Rattle.scenario_values.specs.Tidied.{tidied}
use Rattle.scenario_grammar.specs.Words.{cut}
use Rattle.action_eval.specs.Answers.{Reply}
use Rattle.action_eval.specs.declared.rig.Rig.{Rig}
use Rattle.answer_text.specs.Hits.{most_hits, points_of}
use Rattle.answer_text.specs.Runs.{told_in}
use Rattle.answer_text.specs.declared.hits.Stretch.{Stretch}
use Rattle.answer_text.specs.declared.runs.ToldRun.{ToldRun}
use Rattle.grown_plans.specs.numbered.GrownScenarios.{grown_scenario}
use Rattle.grown_plans.proofs.Members.{all_append, all_contains, contains_head}
use Rattle.grown_runs.specs.known.Known.{Told}
use Rattle.grown_runs.specs.known.Looks.{told}
use Rattle.target_trait.specs.Play.{Move}
use Rattle.target_trait.specs.declared.judgement.Verdict.{Verdict}
use Rattle.target_trait.specs.declared.judgement.Verdict.TheVariants.{Unresolved}
use Rattle.answered_runs.specs.Agreement.{AreOfOne, EndsAtPause, HasItsRun, IsCertain, SayTheSame, KeepsVerdict, is_certain, is_sure, line_of}
use Rattle.answered_runs.specs.Answered.{Answered, hits_by, is_low, plan_told, told_of}
use Rattle.answered_runs.specs.Lines.{AreLinesOf}
use Rattle.answered_runs.specs.declared.broken.BrokenRun.{BrokenRun}
use Rattle.answered_runs.specs.declared.played.Played.{Played}
use Rattle.answered_runs.specs.declared.saying.SeenRun.{SeenRun}
use Rattle.answered_runs.specs.declared.unseen.UnseenRun.{UnseenRun}
use Rattle.answered_runs.specs.inside.LineSteps.{IsScenarioOn}
use Rattle.answered_runs.specs.inside.Played.{Adds, AddsLine, AreDone, AreMarked, Goes, IsAdded, IsBegun, IsDone, IsLineAdded, IsListed, IsState, Stands}
use Rattle.answered_runs.specs.declared.tree.Next.TheVariants.{End}
use Rattle.answered_runs.specs.declared.tree.Said.{Said}
use Rattle.answered_runs.specs.inside.Trees.{AreKept, Grows, HaveKnownPoints, IsKept, IsSeen, IsSound, IsTold, IsUnseen, Leads, StaysApart, Tree, move_of}
use Rattle.answered_runs.proofs.LineReading.{At, all_before, begins, line_of as line_on, next_line, reads_here, same_line, scenario_here}
use Rattle.answered_runs.proofs.Places.{grows_same, kept_grow}
use Rattle.answered_runs.proofs.ReadHits.{HasFew, ToldFew, known_run_few, points_below}
use Rattle.answered_runs.proofs.Tests.{both_true, certain_scenario}

-- ---- certain scenarios

abbrev chain_sure : List ℕ × List Term → Bool
chain_sure e = list_all is_sure e.1

none_named : List ℕ × List Term
none_named = ([], [])

chain_here : (s : Entries) (i : ℕ) → i < length s → chain_at s i ≡ (get_or s i none_named).1
chain_here s i less = ap (λ (o : Option (List ℕ × List Term)). option_map_or (λ e. e.1) o []) (slice_get-get_or s i none_named less)

all_one : {X : Type 0} (p : X → Bool) (xs : List X) (x : X) → list_all p xs ≡ true → p x ≡ true → list_all p (xs ++ x ∷ []) ≡ true
all_one p [] x e f = ap (λ (b : Bool). b && true) f
all_one p (y ∷ xs) x e f = let both = both_true (p y) (list_all p xs) e in ap (λ (b : Bool). b && list_all p (xs ++ x ∷ [])) both.0 ∙ all_one p xs x both.1 f

pub certain_more : (s : Entries) (i : ℕ) → i < length s → list_all (λ (e : List ℕ × List Term). list_all is_sure e.1) (take i s) ≡ true → list_all is_sure (chain_at s i) ≡ true
    → list_all (λ (e : List ℕ × List Term). list_all is_sure e.1) (take (i + 1) s) ≡ true
certain_more s i less all here =
    ap (list_all chain_sure) (take_more s i none_named less) ∙ all_one chain_sure (take i s) (get_or s i none_named) all (ap (list_all is_sure) (sym (chain_here s i less)) ∙ here)

pub certain_all : (s : Entries) (i : ℕ) → length s ≤ i → list_all (λ (e : List ℕ × List Term). list_all is_sure e.1) (take i s) ≡ true → true ≡ is_certain s
certain_all s i last all = sym all ∙ ap (list_all chain_sure) (take_all i s last)

pub certain_not : (s : Entries) (i : ℕ) → i < length s → list_all is_sure (chain_at s i) ≡ false → false ≡ is_certain s
certain_not s i less here = sym (list_all_at chain_sure s i none_named less (ap (list_all is_sure) (sym (chain_here s i less)) ∙ here))

-- ---- the hits of what is recorded

hits_known : (n : ℕ) (o : Option (List Stretch)) → HasFew n o → IfSome (option_and_then hits_by o) (λ hits. AllByRecursion (λ p. p < n) hits)
hits_known n None few = tt
hits_known n (Some stretches) few = by_test (list_all is_low stretches && nat_le (length (points_of stretches)) most_hits)
  where
    by_test : (b : Bool) → IfSome (cond b (Some (points_of stretches)) None) (λ hits. AllByRecursion (λ p. p < n) hits)
    by_test true = points_below n stretches few.points
    by_test false = tt

pub known_points : (a : Answered) (codes points : List (List ℕ)) (text : List ℕ) → AreLinesOf codes points text a.book → points ≡ a.points → HaveKnownPoints a
known_points a codes points text of names s r e = by_told (told_in a.book s) e few
  where
    few : ToldFew (length a.points) (told_in a.book s)
    few =
        subst (λ (ps : List (List ℕ)). ToldFew (length ps) (told_in a.book s)) names
        (subst (λ (known : Entries → Option ToldRun). ToldFew (length points) (known s)) (sym of.told) (known_run_few true codes points text s))

    by_told : (o : Option ToldRun) → o ≡ Some r → ToldFew (length a.points) o → IfSome (told_of r).hits (λ hits. AllByRecursion (λ p. p < length a.points) hits)
    by_told None f few = absurd cc
    by_told (Some q) f few = let same : q ≡ r = cc in subst (λ (x : ToldRun). IfSome (told_of x).hits (λ hits. AllByRecursion (λ p. p < length a.points) hits)) same (hits_known (length a.points) q.hits few)

-- ---- what stays

pub goes_same : (x : Played) → Goes x x
goes_same x = record { grows = grows_same x.tree; listed = λ run c. c; own = refl }

pub done_goes : (a : Answered) (x y : Played) → Goes x y → (s : Entries) (r : ToldRun) → IsDone a x s r → IsDone a y s r
done_goes a x y g s r d = record {
  kept = kept_grow a.points x.tree y.tree g.grows (line_of s (told_of r)) d.kept;
  listed = λ none. let l = d.listed none in record { run = l.run; there = g.listed l.run l.there; is = l.is };
}

pub marked_goes : (a : Answered) (x y : Played) → Goes x y → AreMarked a x → AreMarked a y
marked_goes a x y g marked = λ s r told own.
    done_goes a x y g s r (marked s r told (subst (λ (l : List Bool). slice_index_or l r.line false ≡ true) g.own own))

pub told_same : (a : Answered) (s : Entries) (r q : ToldRun) → told_in a.book s ≡ Some r → told_in a.book s ≡ Some q → r ≡ q
told_same a s r q e f = let both : Some r ≡ Some q = sym e ∙ f in cc

-- ---- one run more

pub seen_run : (a : Answered) (s : Entries) (run : SeenRun) (r : ToldRun) → IsTold a s r → run.line ≡ r.line → (let o : Option Told = Some (told_of r) in o) ≡ Some (told run.verdict (Some run.hits.now)) → IsSeen a s run
seen_run a s run r t line e =
    let same : told_of r ≡ told run.verdict (Some run.hits.now) = cc in
    record { recorded = r; told = t; seen = ap (line_of s) same; line = line }

pub seen_points : (a : Answered) (s : Entries) (r : ToldRun) (v : Verdict) (hits : List ℕ) → HaveKnownPoints a → told_in a.book s ≡ Some r → (let o : Option Told = Some (told_of r) in o) ≡ Some (told v (Some hits))
    → AllByRecursion (λ p. p < length a.points) hits
seen_points a s r v hits known recorded e =
    let same : told_of r ≡ told v (Some hits) = cc in
    let all : IfSome (Some hits) (λ (h : List ℕ). AllByRecursion (λ p. p < length a.points) h) =
    subst (λ (o : Option (List ℕ)). IfSome o (λ h. AllByRecursion (λ p. p < length a.points) h)) (ap (λ (t : Told). t.hits) same) (known s r recorded)
    in
    all

pub list_added : (a : Answered) (x y : Played) (u : UnseenRun) (r : ToldRun) (v : Verdict) → IsState a x → IsTold a u.scenario r → u.line ≡ r.line → u.verdict ≡ v → (let o : Option Told = Some (told_of r) in o) ≡ Some (told v None) → y.tree ≡ x.tree
    → y.unseen.items ≡ x.unseen.items ++ u ∷ [] → y.own.items ≡ x.own.items → IsAdded a x y u.scenario r None
list_added a x y u r v state t line verdict e tree unseen own =
    let same : told_of r ≡ told v None = cc in
    let none : (told_of r).hits ≡ None = ap (λ (q : Told). q.hits) same in
    let is : IsUnseen a u = record { recorded = r; told = t; unseen = none; line = line; verdict = verdict ∙ sym (ap (λ (q : Told). q.verdict) same) } in
    record {
      state = record {
        sound = subst (IsSound a) (sym tree) state.sound;
        unseen = subst (AllByRecursion (IsUnseen a)) (sym unseen) (all_append (IsUnseen a) x.unseen.items (u ∷ []) state.unseen (is, tt));
      };
      goes = record {
        grows = subst (Grows x.tree) (sym tree) (grows_same x.tree);
        listed = λ w c. subst (λ (l : List UnseenRun). Contains l w) (sym unseen) (Contains-append_left x.unseen.items (u ∷ []) w c);
        own = own;
      };
      done = λ certain. record {
        kept = record {
          pauses = subst (λ (o : Option (List ℕ)). EndsAtPause a.points (line_of u.scenario (record { verdict = (told_of r).verdict; hits = o }))) (sym none) tt;
          says = λ count answers move says. absurd (let w : None ≡ Some says.hits = sym none ∙ says.known in cc);
        };
        listed = λ hits. record { run = u; there = subst (λ (l : List UnseenRun). Contains l u) (sym unseen) (Contains-append_right x.unseen.items (u ∷ []) u (contains_head u [])); is = refl };
      };
    }

pub passed_over : (a : Answered) (x : Played) (s : Entries) (r : ToldRun) → IsState a x → is_certain s ≡ false → IsAdded a x x s r None
passed_over a x s r state not = record {
  state = state;
  goes = goes_same x;
  done = λ certain. absurd (let w : true ≡ false = sym (certain_scenario s certain) ∙ not in cc);
}

-- ---- the run of a plan

plan_recorded_by : (a : Answered) (s : Entries) (b : Bool) (r : ToldRun) → cond b (told_in a.book s) None ≡ Some r → told_in a.book s ≡ Some r
plan_recorded_by a s true r e = e
plan_recorded_by a s false r e = absurd cc

pub plan_recorded : (a : Answered) (plan : List Rig) (r : ToldRun) → plan_told a plan ≡ Some r → told_in a.book (tidied (grown_scenario a.points plan)) ≡ Some r
plan_recorded a plan r e = plan_recorded_by a (tidied (grown_scenario a.points plan)) (nat_le (length plan) 64) r e

pub plan_added : (a : Answered) (codes points : List (List ℕ)) (text : List ℕ) → AreLinesOf codes points text a.book → (x y z : Played) (s : Entries) (r : ToldRun) → AreMarked a x → Adds a x y s r → IsScenario s → told_in a.book s ≡ Some r
    → z.tree ≡ y.tree → z.unseen.items ≡ y.unseen.items → ((i : ℕ) → slice_index_or z.own.items i false ≡ true → (i ≡ r.line) ⊎ (slice_index_or y.own.items i false ≡ true)) → Stands AreMarked a z
plan_added a codes points text of x y z s r marked adds lawful recorded tree unseen own = record {
  state = record { sound = subst (IsSound a) (sym tree) adds.state.sound; unseen = subst (AllByRecursion (IsUnseen a)) (sym unseen) adds.state.unseen };
  done = λ u q t e. moved u q (by_mark u q t (own q.line e));
}
  where
    moved : (u : Entries) (q : ToldRun) → IsDone a y u q → IsDone a z u q
    moved u q d = record {
      kept = subst (λ (t : Tree). IsKept a.points t (line_of u (told_of q))) (sym tree) d.kept;
      listed = λ none. let l = d.listed none in record { run = l.run; there = subst (λ (runs : List UnseenRun). Contains runs l.run) (sym unseen) l.there; is = l.is };
    }

    by_mark : (u : Entries) (q : ToldRun) → IsTold a u q → (q.line ≡ r.line) ⊎ (slice_index_or y.own.items q.line false ≡ true) → IsDone a y u q
    by_mark u q t (inr before) = marked_goes a x y adds.goes marked u q t before
    by_mark u q t (inl line) =
        let same : s ≡ u =
        same_line codes points text s u r q (sym line) (line_on codes points text a.book of s lawful r recorded) (line_on codes points text a.book of u t.lawful q t.recorded)
        in
        let run : r ≡ q = told_same a u r q (ap (told_in a.book) (sym same) ∙ recorded) t.recorded in
        subst (λ (w : Entries). IsDone a y w q) same (subst (IsDone a y s) run (adds.done (subst IsCertain (sym same) t.certain)))

-- ---- a line

module _ (codes points : List (List ℕ)) (a : Answered) (x : Played) (line : List ℕ) (number : ℕ) (state : IsState a x) where
  pub own_line : AreMarked a x → slice_index_or x.own.items number false ≡ true → IsLineAdded codes points a x x line number None
  own_line marked own = record {
    state = state;
    goes = goes_same x;
    done = λ s r t is run e same. marked s r t (ap (λ (n : ℕ). slice_index_or x.own.items n false) is ∙ own);
  }

  -- another line is the first one with this scenario
  pub other_line : (o : Option Entries) (u : Entries) → o ≡ Some u → IsScenarioOn codes points line o → ((r : ToldRun) → told_in a.book u ≡ Some r → r.line ≡ number → ⊥) → IsLineAdded codes points a x x line number None
  other_line o u is h never = record {
    state = state;
    goes = goes_same x;
    done = λ s r t number run e same.
        let own : s ≡ u = sym same ∙ scenario_here codes points line o u is h run e in
        absurd (never r (ap (told_in a.book) (sym own) ∙ t.recorded) number);
  }

  pub line_added : (y : Played) (o : Option Entries) (u : Entries) → o ≡ Some u → IsScenarioOn codes points line o → (q : ToldRun) → told_in a.book u ≡ Some q → (found : Option BrokenRun) → IsAdded a x y u q found
      → IsLineAdded codes points a x y line number found
  line_added y o u is h q recorded None adds = record {
    state = adds.state;
    goes = adds.goes;
    done = λ s r t number run e same.
        let own : s ≡ u = sym same ∙ scenario_here codes points line o u is h run e in
        let run : q ≡ r = told_same a s q r (ap (told_in a.book) own ∙ recorded) t.recorded in
        subst (λ (w : Entries). IsDone a y w r) (sym own) (subst (IsDone a y u) run (adds.done (subst IsCertain own t.certain)));
  }
  line_added y o u is h q recorded (Some b) broken = broken

-- what is left of the text, and what was gone through
pub record Lines (codes points : List (List ℕ)) (a : Answered) (x : Played) (rest : List ℕ) (number : ℕ) : Type 0 where
  pub text : List ℕ
  pub of : AreLinesOf codes points text a.book
  pub short : length text < 2 ^ 63
  pub at : At codes points text rest number
  pub state : IsState a x
  pub marked : AreMarked a x
  pub below : (s : Entries) (r : ToldRun) → IsTold a s r → r.line < number → IsDone a x s r

split_less : (m n : ℕ) → m < n + 1 → (m < n) ⊎ (m ≡ n)
split_less m n less = elim (cases_lt m n) [
  | inl h ↦ inl h
  | inr h ↦ inr (omega (arith, h, less))
]

pub first_line : (codes points : List (List ℕ)) (text : List ℕ) (a : Answered) (x : Played) → AreLinesOf codes points text a.book → length text < 2 ^ 63 → IsState a x → AreMarked a x → Lines codes points a x text 1
first_line codes points text a x of short state marked = record {
  text = text;
  of = of;
  short = short;
  at = begins codes points text;
  state = state;
  marked = marked;
  below = λ s r t less. absurd (let l = (line_on codes points text a.book of s t.lawful r t.recorded).line_is in omega (arith, l, less));
}

pub line_more : (codes points : List (List ℕ)) (a : Answered) (x y : Played) (rest line after : List ℕ) (number : ℕ) → cut 10 rest ≡ Some (line, after) → Lines codes points a x rest number → AddsLine codes points a x y line number
    → Lines codes points a y after (number + 1)
line_more codes points a x y rest line after number cuts l adds = record {
  text = l.text;
  of = l.of;
  short = l.short;
  at = next_line codes points l.text rest line after number cuts l.at;
  state = adds.state;
  marked = marked_goes a x y adds.goes l.marked;
  below = λ s r t less. by_order s r t (split_less r.line number less);
}
  where
    by_order : (s : Entries) (r : ToldRun) → IsTold a s r → (r.line < number) ⊎ (r.line ≡ number) → IsDone a y s r
    by_order s r t (inl less) = done_goes a x y adds.goes s r (l.below s r t less)
    by_order s r t (inr same) =
        let on = line_on codes points l.text a.book l.of s t.lawful r t.recorded in
        adds.done s r t same on.run (reads_here codes points l.text rest line after number cuts l.at s r same on) on.scenario_is

pub all_lines : (codes points : List (List ℕ)) (a : Answered) (x : Played) (rest : List ℕ) (number : ℕ) → cut 10 rest ≡ None → Lines codes points a x rest number → Stands AreDone a x
all_lines codes points a x rest number cuts l = record {
  state = l.state;
  done = λ s r t.
      l.below s r t (all_before codes points l.text rest number cuts l.at s r (line_on codes points l.text a.book l.of s t.lawful r t.recorded));
}

-- ---- no run

none_said : (m : ℕ) (x y : Said) → 0 < m → slice_get (y ∷ []) m ≡ Some x → ⊥
none_said zero x y some e = omega (arith, some)
none_said (suc m) x y some e = cc

pub begun_state : (a : Answered) (x : Played) → IsBegun x → IsState a x
begun_state a x b = record {
  sound = record {
    some = let long : length x.tree.said ≡ 1 = ap length b.tree.said in omega (arith, long);
    names = λ m. [];
    root = refl;
    ways = λ n r m e. absurd (let w : None ≡ Some m = sym (b.tree.leads n r) ∙ e in cc);
    sources = λ m y some e. absurd (none_said m y (record { line = 0; next = End Unresolved }) some (sym (ap (λ (l : List Said). slice_get l m) b.tree.said) ∙ e));
  };
  unseen = subst (AllByRecursion (IsUnseen a)) (sym b.unseen) tt;
}

-- ---- runs without hits

abbrev Apart : Answered → UnseenRun → Type 0
Apart a run = StaysApart a run None

pub apart_more : (a : Answered) (xs items : List UnseenRun) (i : ℕ) (x : UnseenRun) → xs ≡ items → i < length xs → x ≡ get_or xs i x → AllByRecursion (λ run. StaysApart a run None) (take i items) → StaysApart a x None
    → AllByRecursion (λ run. StaysApart a run None) (take (i + 1) items)
apart_more a xs items i x same less is before here =
    let all : AllByRecursion (Apart a) (take (i + 1) xs) =
    subst (AllByRecursion (Apart a)) (sym (take_more xs i x less))
    (all_append (Apart a) (take i xs) (get_or xs i x ∷ []) (subst (λ (l : List UnseenRun). AllByRecursion (Apart a) (take i l)) (sym same) before) (subst (Apart a) is here, tt))
    in
    subst (λ (l : List UnseenRun). AllByRecursion (Apart a) (take (i + 1) l)) same all

pub apart_all : (a : Answered) (xs items : List UnseenRun) (i : ℕ) → xs ≡ items → length xs ≤ i → AllByRecursion (λ run. StaysApart a run None) (take i items) → AllByRecursion (λ run. StaysApart a run None) items
apart_all a xs items i same last all =
    subst (AllByRecursion (Apart a)) (take_all i items (subst (λ (l : List UnseenRun). length l ≤ i) same last)) all

-- ---- once all runs stand

place_same : (m n : ℕ) → (let o : Option ℕ = Some m in o) ≡ Some n → m ≡ n
place_same m n e = cc

said_same : (x y : Said) → (let o : Option Said = Some x in o) ≡ Some y → x ≡ y
said_same x y e = cc

same_move : (t : Tree) (answers : List Reply) (move other : Move) → Leads t answers move → Leads t answers other → move ≡ other
same_move t answers move other p q =
    let place : p.place ≡ q.place = place_same p.place q.place (sym p.there ∙ q.there) in
    let said : p.said ≡ q.said = said_same p.said q.said (sym p.at ∙ ap (slice_get t.said) place ∙ q.at) in
    sym p.move_is ∙ ap (λ (y : Said). move_of y.next) said ∙ q.move_is

for_told : (a : Answered) (P : ToldRun → Type 0) (s : Entries) → ((r : ToldRun) → told_in a.book s ≡ Some r → P r) → IfSome (told_in a.book s) P
for_told a P s h = by_told (told_in a.book s) refl
  where
    by_told : (o : Option ToldRun) → told_in a.book s ≡ o → IfSome o P
    by_told None e = tt
    by_told (Some r) e = h r e

module _ (a : Answered) (x : Played) (done : AreDone a x) where
  pub all_kept : AreKept a x.tree
  all_kept s r t = (done s r t).kept

  -- what is recorded of a scenario in the list has the verdict that stands there
  verdict_listed : IsState a x → (s : Entries) (r : ToldRun) → told_in a.book s ≡ Some r → (l : IsListed x s) → (told_of r).verdict ≡ l.run.verdict
  verdict_listed state s r e l =
      let is = all_contains (IsUnseen a) x.unseen.items l.run state.unseen l.there in
      let found : told_in a.book s ≡ Some is.recorded = subst (λ (w : Entries). told_in a.book w ≡ Some is.recorded) l.is is.told.recorded in
      let same : r ≡ is.recorded = (let both : Some r ≡ Some is.recorded = sym e ∙ found in cc) in
      ap (λ (y : ToldRun). (told_of y).verdict) same ∙ sym is.verdict

  pub of_one : IsState a x → AllByRecursion (λ run. StaysApart a run None) x.unseen.items → AreOfOne a
  of_one state apart = record {
    alone = λ s lawful certain. for_told a (λ r. EndsAtPause a.points (line_of s (told_of r))) s (λ r e. (all_kept s r (record { lawful = lawful; certain = certain; recorded = e })).pauses);
    same = λ s u lawful certain other sure.
        for_told a (λ r. IfSome (told_in a.book u) (λ q. SayTheSame a.points (line_of s (told_of r)) (line_of u (told_of q)))) s
        (λ r e. for_told a (λ q. SayTheSame a.points (line_of s (told_of r)) (line_of u (told_of q))) u
        (λ q f count answers move others says said.
        same_move x.tree answers move others ((all_kept s r (record { lawful = lawful; certain = certain; recorded = e })).says count answers move says)
        ((all_kept u q (record { lawful = other; certain = sure; recorded = f })).says count answers others said)));
    unseen = λ s u lawful certain other sure.
        for_told a (λ r. IfSome (told_in a.book u) (λ q. KeepsVerdict a.points (line_of s (told_of r)) (line_of u (told_of q)))) s
        (λ r e. for_told a (λ q. KeepsVerdict a.points (line_of s (told_of r)) (line_of u (told_of q))) u
        (λ q f none has.
        let l = (done s r (record { lawful = lawful; certain = certain; recorded = e })).listed none in
        verdict_listed state s r e l
        ∙ all_contains (λ run. StaysApart a run None) x.unseen.items l.run apart l.there u q (record { lawful = other; certain = sure; recorded = f })
        (subst (λ (w : Entries). HasItsRun a.points w (line_of u (told_of q))) (sym l.is) has)));
  }
