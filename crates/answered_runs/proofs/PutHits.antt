-- What a run says, put into a tree hit by hit.
use Rattle.std.proofs.Common.{◌≡◌, ◌⊎◌, inl, inr, ℕ, ◌+◌, ◌<◌, ◌≤◌, Option, Some, None, List, [], ◌∷◌, ◌++◌, length, take, get_or, replicate, zero, suc, append_assoc, refl, ap, sym, ◌∙◌, subst, arith, true, false, Result}
use Rattle.std.specs.Prelude.{IfOk, slice_get}
use Rattle.std.specs.declared.alloc.AllocError.{AllocError}
use Rattle.std.proofs.lemmas.List.{append-nil, length-take-le, take_more}
use Rattle.std.proofs.lemmas.Option.{slice_get-get_or, slice_get_within}
use Rattle.std.proofs.lemmas.Bool.{cases_lt}
use Rattle.scenario_values.specs.Scenario.{Entries, IsScenario}
use Rattle.scenario_values.specs.Tidied.{tidied}
use Rattle.action_eval.specs.Answers.{AllGo, GoesOn, Reply, Go, Run, cuts_short, given_of, hit, hits_of, is_cut_short, replies, reply_to, run_of, start, stopped}
use Rattle.action_eval.specs.SameMeaning.{Meaning, meaning}
use Rattle.action_eval.proofs.CallerLemmas.{replies_more}
use Rattle.action_eval.proofs.CallerLemmas as caller
use Rattle.action_eval.proofs.RunLaws.{tidied_means}
use Rattle.target_trait.specs.Cuts.{IsAsking}
use Rattle.target_trait.specs.Play.{Move, Ask, Done, Unknown}
use Rattle.target_trait.specs.declared.judgement.Judgement.TheVariants.{Kept, Broken}
use Rattle.target_trait.specs.declared.judgement.Verdict.{Verdict}
use Rattle.target_trait.specs.declared.judgement.Verdict.TheVariants.{Fail, Pass, Unresolved}
use Rattle.answered_runs.specs.Agreement.{ContradictsBy, EndsAtPause, IsContradiction, Line, Says, end_by, line_of, move_said, run_over}
use Rattle.answered_runs.specs.Answered.{Answered, told_of}
use Rattle.answered_runs.specs.declared.broken.BrokenRun.{BrokenRun}
use Rattle.answered_runs.specs.declared.broken.Conflict.{Conflict}
use Rattle.answered_runs.specs.declared.broken.Conflict.TheVariants as conflict
use Rattle.answered_runs.specs.declared.saying.SeenRun.{SeenRun}
use Rattle.answered_runs.specs.declared.tree.Next.TheVariants.{Hit}
use Rattle.answered_runs.specs.declared.tree.Said.{Said}
use Rattle.answered_runs.specs.inside.Trees.{EndsThere, Enters, Follows, Grows, HasBegun, IsBroken, IsConflict, IsNext, IsPauseFault, IsPut, IsSaid, IsSeen, IsSound, Leads, Puts, Tree, line_seen, move_of, walk}
use Rattle.answered_runs.proofs.Places.{Entered, entered, grows_on, leads_grow, name_is}
use Rattle.answered_runs.proofs.PlayedHits.{length_replies, replies_over, short_over}

tail_same : (r : Reply) (xs ys : List Reply) → (let l : List Reply = r ∷ xs in l) ≡ r ∷ ys → xs ≡ ys
tail_same r xs ys e = cc

some_same : (a b : ℕ) → (let o : Option ℕ = Some a in o) ≡ Some b → a ≡ b
some_same a b e = cc

last_same : (xs : List Reply) (x y : Reply) → xs ++ x ∷ [] ≡ xs ++ y ∷ [] → x ≡ y
last_same [] x y e = cc
last_same (z ∷ xs) x y e = last_same xs x y (tail_same z (xs ++ x ∷ []) (xs ++ y ∷ []) e)

hits_same : (xs ys : List ℕ) → (let o : Option (List ℕ) = Some xs in o) ≡ Some ys → xs ≡ ys
hits_same xs ys e = cc

-- a line says so many answers as hits
said_count : (points : List (List ℕ)) (l : Line) (count : ℕ) (answers : List Reply) (move : Move) → Says points l count answers move → length answers ≡ count
said_count points l count answers move s =
    ap length (sym s.reached) ∙ length_replies points l.scenario (take count s.hits) ∙ length-take-le count s.hits s.within

-- ---- ends

ends_so : Move → Verdict
ends_so (Ask p) = Unresolved
ends_so (Done Kept) = Pass
ends_so (Done (Broken code)) = Fail code
ends_so Unknown = Unresolved

ends_back : (v : Verdict) → ends_so (end_by v) ≡ v
unfolding ends_so
ends_back Pass = refl
ends_back (Fail code) = refl
ends_back Unresolved = refl

pub end_same : (v w : Verdict) → end_by v ≡ end_by w → v ≡ w
end_same v w e = sym (ends_back v) ∙ ap ends_so e ∙ ends_back w

asking_same : (m n : Move) → m ≡ n → IsAsking m → IsAsking n
asking_same m n e h = subst IsAsking e h

never_asks : (v : Verdict) → IsAsking (end_by v) → ⊥
never_asks Pass h = h
never_asks (Fail code) h = h
never_asks Unresolved h = h

-- if a line says the end, it is at its end, with its verdict
pub end_said : (v w : Verdict) (o : Option ℕ) → end_by w ≡ move_said v o → (o ≡ None) × (w ≡ v)
end_said v w None e = (refl, end_same w v e)
end_said v w (Some p) e = absurd (never_asks w (asking_same (Ask p) (end_by w) (sym e) tt))

-- if a line says a hit, it has that hit
pub hit_said : (v : Verdict) (p : ℕ) (o : Option ℕ) → Ask p ≡ move_said v o → o ≡ Some p
hit_said v p None e = absurd (never_asks v (asking_same (Ask p) (end_by v) e tt))
hit_said v p (Some q) e = let same : p ≡ q = cc in ap (λ (n : ℕ). Some n) (sym same)

-- ---- two runs that say something after the same answers

module _ (a : Answered) (name : List Reply) (there x : Said) (p : IsSaid a name there) (q : IsSaid a name x) where
  l : Line
  l = line_of q.scenario (told_of q.run)

  answers_same : p.answers ≡ q.answers
  answers_same = tail_same Go p.answers q.answers (sym p.name_is ∙ q.name_is)

  count_same : p.count ≡ q.count
  count_same = sym (said_count a.points _ p.count p.answers _ p.says) ∙ ap length answers_same ∙ said_count a.points _ q.count q.answers _ q.says

  said_there : (move : Move) → move_of there.next ≡ move → Says a.points (line_of p.scenario (told_of p.run)) q.count q.answers move
  said_there move e =
      subst (λ (n : ℕ). Says a.points (line_of p.scenario (told_of p.run)) n q.answers move) count_same
      (subst (λ (rs : List Reply). Says a.points (line_of p.scenario (told_of p.run)) p.count rs move) answers_same
      (subst (Says a.points (line_of p.scenario (told_of p.run)) p.count p.answers) e p.says))

  by_how : (n : ℕ) (how : Conflict) → n ≡ length name → IsConflict there.next x.next n (Some how) → ContradictsBy a.points (line_of q.scenario (told_of q.run)) (line_of p.scenario (told_of p.run)) how
  by_how n (conflict.Hits m) long (is, apart, goes) =
      let count = said_count a.points (line_of q.scenario (told_of q.run)) q.count q.answers (move_of x.next) q.says in
      let name_long : length name ≡ length q.answers + 1 = omega (arith, ap length q.name_is) in
      record {
        before = q.count;
        hit_is = omega (arith, is, long, name_long, count);
        answers = q.answers;
        move = move_of x.next;
        other = move_of there.next;
        says = q.says;
        said = said_there (move_of there.next) refl;
        apart = λ e. apart (sym e);
        goes_on = goes;
      }
  by_how n conflict.Paused long h = absurd h
  by_how n conflict.Verdict long (v, w, is, there_is, apart) =
      let own = end_said (told_of q.run).verdict w _ (ap move_of (sym there_is) ∙ q.says.move_is) in
      let other = end_said (told_of p.run).verdict v _ (ap move_of (sym is) ∙ p.says.move_is) in
      inl
      (record {
        count = q.count;
        answers = q.answers;
        says = subst (Says a.points (line_of q.scenario (told_of q.run)) q.count q.answers) (ap move_of there_is ∙ ap end_by own.1) q.says;
        said = said_there (end_by (told_of p.run).verdict) (ap move_of is ∙ ap end_by other.1);
        apart = λ e. apart (other.1 ∙ sym e ∙ sym own.1);
      })

  pub two_said : (n : ℕ) (b : BrokenRun) → n ≡ length name → IsBroken there x n (Some b) → IsContradiction a b
  two_said n b long (line, earlier, how) = record {
    scenario = q.scenario;
    other = p.scenario;
    lawful = q.told.lawful;
    certain = q.told.certain;
    other_lawful = p.told.lawful;
    other_certain = p.told.certain;
    run = q.run;
    told = p.run;
    recorded = q.told.recorded;
    other_recorded = p.told.recorded;
    line = line ∙ q.line;
    earlier = earlier ∙ p.line;
    contradicts = by_how n b.how long how;
  }

-- ---- one run, hit by hit

-- so far this run was put into the tree, up to the answer that comes next
pub record Putting (a : Answered) (s : Entries) (run : SeenRun) (t0 t : Tree) (i place : ℕ) (answer : Reply) (now : Run) : Type 0 where
  pub sound : IsSound a t
  pub grows : Grows t0 t
  pub now_is : now ≡ run_of s a.points 0 0 (length run.hits.now) (take i run.hits.now)
  pub within : i ≤ length run.hits.now
  pub before : List Reply
  pub reached : walk t 0 before ≡ Some place
  pub name_is : before ++ answer ∷ [] ≡ Go ∷ replies (run_over a.points s (take i run.hits.now))
  pub goes : (count : ℕ) → count ≤ i → is_cut_short (run_over a.points s (take count run.hits.now)) ≡ false
  pub said : (count : ℕ) (answers : List Reply) (move : Move) → count < i → Says a.points (line_seen s run) count answers move → Leads t answers move

-- the same, with what comes after these hits
pub record Through (a : Answered) (s : Entries) (run : SeenRun) (t0 u : Tree) (i m : ℕ) : Type 0 where
  pub sound : IsSound a u
  pub grows : Grows t0 u
  pub within : i ≤ length run.hits.now
  pub reached : walk u 0 (Go ∷ replies (run_over a.points s (take i run.hits.now))) ≡ Some m
  pub goes : (count : ℕ) → count ≤ i → is_cut_short (run_over a.points s (take count run.hits.now)) ≡ false
  pub said : (count : ℕ) (answers : List Reply) (move : Move) → count < i + 1 → Says a.points (line_seen s run) count answers move → Leads u answers move

split_less : (m n : ℕ) → m < n + 1 → (m < n) ⊎ (m ≡ n)
split_less m n less = elim (cases_lt m n) [
  | inl h ↦ inl h
  | inr h ↦ inr (omega (arith, h, less))
]

-- what a line with these hits says
pub says_is : (points : List (List ℕ)) (s : Entries) (run : SeenRun) (count : ℕ) (answers : List Reply) (move : Move) → Says points (line_seen s run) count answers move
    → (answers ≡ replies (run_over points s (take count run.hits.now))) × (move ≡ move_said run.verdict (slice_get run.hits.now count)) × (count ≤ length run.hits.now)
says_is points s run count answers move says =
    let same : says.hits ≡ run.hits.now = sym (hits_same run.hits.now says.hits says.known) in (
      sym says.reached ∙ ap (λ (h : List ℕ). replies (run_over points s (take count h))) same,
      says.move_is ∙ ap (λ (h : List ℕ). move_said run.verdict (slice_get h count)) same,
      subst (λ (h : List ℕ). count ≤ length h) same says.within,
    )

module _ (a : Answered) (s : Entries) (run : SeenRun) where
  abbrev answered : ℕ → List Reply
  answered count = replies (run_over a.points s (take count run.hits.now))

  pub begins : (t : Tree) → IsSound a t → Putting a s run t t 0 0 Go (start (given_of s a.points 0 0 (length run.hits.now)))
  begins t sound = record {
    sound = sound;
    grows = record { said = λ m x e. e; ways = λ n r m e. e };
    now_is = refl;
    within = omega arith;
    before = [];
    reached = refl;
    name_is = refl;
    goes = λ count le.
        let none : 0 ≡ count = omega (arith, le) in
        subst (λ (n : ℕ). is_cut_short (run_over a.points s (take n run.hits.now)) ≡ false) none refl;
    said = λ count answers move less says. absurd (omega (arith, less));
  }

  module _ (t0 t : Tree) (i place : ℕ) (answer : Reply) (now : Run) (p : Putting a s run t0 t i place answer now) where
    -- what comes next is said by this run
    own : IsSeen a s run → (x : Said) → x.line ≡ run.line → move_of x.next ≡ move_said run.verdict (slice_get run.hits.now i) → IsSaid a (p.before ++ answer ∷ []) x
    own seen x line next =
        let says : Says a.points (line_seen s run) i (answered i) (move_of x.next) =
        record { hits = run.hits.now; known = refl; within = p.within; reached = refl; goes_on = p.goes i (omega arith); move_is = next }
        in
        record {
          scenario = s;
          run = seen.recorded;
          told = seen.told;
          line = line ∙ seen.line;
          answers = answered i;
          name_is = p.name_is;
          count = i;
          says = subst (λ (l : Line). Says a.points l i (answered i) (move_of x.next)) (sym seen.seen) says;
        }

    name_long : length (p.before ++ answer ∷ []) ≡ i + 1
    name_long =
        let long = ap length p.name_is in
        let all = length_replies a.points s (take i run.hits.now) in
        let count = length-take-le i run.hits.now p.within in
        omega (arith, long, all, count)

    module _ (seen : IsSeen a s run) (u : Tree) (x : Said) (m : ℕ) (line : x.line ≡ run.line) (next : move_of x.next ≡ move_said run.verdict (slice_get run.hits.now i)) (enters : Enters t u place answer x m) where
      e : Entered a t u (p.before ++ answer ∷ []) m
      e = entered a t u p.before answer x place m p.sound p.reached (own seen x line next) enters

      pub place_within : m < length u.said
      place_within = e.within

      module _ (there : Said) (hit : ℕ) (at : slice_get u.said m ≡ Some there) where
        pub contradicts : (b : BrokenRun) → hit ≡ i + 1 → IsBroken there x hit (Some b) → IsContradiction a b
        contradicts b hit_is broken =
            let from : IsSaid a (p.before ++ answer ∷ []) there =
            subst (λ (l : List Reply). IsSaid a l there) (name_is a u e.sound (p.before ++ answer ∷ []) m e.reached) (e.sound.sources m there e.some at)
            in
            two_said a (p.before ++ answer ∷ []) there x from (own seen x line next) hit b (hit_is ∙ sym name_long) broken

        pub through : IsBroken there x hit None → Through a s run t0 u i m
        through same = record {
          sound = e.sound;
          grows = grows_on t0 t u p.grows e.grows;
          within = p.within;
          reached = there_is;
          goes = p.goes;
          said = λ count answers move less says. by_case count answers move says (split_less count i less);
        }
          where
            there_is : walk u 0 (Go ∷ answered i) ≡ Some m
            there_is = subst (λ (l : List Reply). walk u 0 l ≡ Some m) p.name_is e.reached

            by_case : (count : ℕ) (answers : List Reply) (move : Move) → Says a.points (line_seen s run) count answers move → (count < i) ⊎ (count ≡ i) → Leads u answers move
            by_case count answers move says (inl less) = leads_grow t u e.grows answers move (p.said count answers move less says)
            by_case count answers move says (inr is) =
                let (answers_are, move_is, few) = says_is a.points s run count answers move says in
                record {
                  place = m;
                  said = there;
                  there = subst (λ (l : List Reply). walk u 0 (Go ∷ l) ≡ Some m) (ap answered (sym is) ∙ sym answers_are) there_is;
                  at = at;
                  move_is = same ∙ next ∙ ap (λ (n : ℕ). move_said run.verdict (slice_get run.hits.now n)) (sym is) ∙ sym move_is;
                }

    -- nothing has cut it short
    pub runs_on : is_cut_short now ≡ false
    runs_on =
        let short : length (take i run.hits.now) ≤ length run.hits.now = (let l = length-take-le i run.hits.now p.within in let w = p.within in omega (arith, l, w)) in
        ap is_cut_short p.now_is ∙ short_over a.points s (length run.hits.now) (take i run.hits.now) short ∙ p.goes i (omega arith)

  module _ (t0 u : Tree) (i m : ℕ) (g : Through a s run t0 u i m) where
    few : i < length run.hits.now → length (take (i + 1) run.hits.now) ≤ length run.hits.now
    few less = let l = length-take-le (i + 1) run.hits.now (omega (arith, less)) in omega (arith, l, less)

    -- no pause stops the run at its next hit
    pub goes_on : (old now : Run) (answer : Reply) → i < length run.hits.now → old ≡ run_of s a.points 0 0 (length run.hits.now) (take i run.hits.now)
        → now ≡ run_of s a.points 0 0 (length run.hits.now) (take (i + 1) run.hits.now) → replies now ≡ replies old ++ answer ∷ [] → is_cut_short now ≡ false
        → Putting a s run t0 u (i + 1) m answer now
    goes_on old now answer less old_is now_is told goes = record {
      sound = g.sound;
      grows = g.grows;
      now_is = now_is;
      within = omega (arith, less);
      before = Go ∷ answered i;
      reached = g.reached;
      name_is = ap (λ (l : List Reply). Go ∷ l) (sym more);
      goes = λ count le. by_goes count (split_less count (i + 1) (omega (arith, le)));
      said = g.said;
    }
      where
        short : length (take i run.hits.now) ≤ length run.hits.now
        short = let l = length-take-le i run.hits.now g.within in omega (arith, l, less)

        more : answered (i + 1) ≡ answered i ++ answer ∷ []
        more =
            sym (replies_over a.points s (length run.hits.now) (take (i + 1) run.hits.now) (few less)) ∙ ap replies (sym now_is) ∙ told
            ∙ ap (λ (r : Run). replies r ++ answer ∷ []) old_is
            ∙ ap (λ (l : List Reply). l ++ answer ∷ []) (replies_over a.points s (length run.hits.now) (take i run.hits.now) short)

        by_goes : (count : ℕ) → (count < i + 1) ⊎ (count ≡ i + 1) → is_cut_short (run_over a.points s (take count run.hits.now)) ≡ false
        by_goes count (inl le) = g.goes count (omega (arith, le))
        by_goes count (inr is) =
            ap (λ (n : ℕ). is_cut_short (run_over a.points s (take n run.hits.now))) is
            ∙ sym (short_over a.points s (length run.hits.now) (take (i + 1) run.hits.now) (few less)) ∙ ap is_cut_short (sym now_is) ∙ goes

    -- a pause stops it there
    module _ (now : Run) (less : i < length run.hits.now) (now_is : now ≡ run_of s a.points 0 0 (length run.hits.now) (take (i + 1) run.hits.now)) (stops : is_cut_short now ≡ true) where
      cut : is_cut_short (run_over a.points s (take (i + 1) run.hits.now)) ≡ true
      cut = sym (short_over a.points s (length run.hits.now) (take (i + 1) run.hits.now) (few less)) ∙ ap is_cut_short (sym now_is) ∙ stops

      both : (count : ℕ) → is_cut_short (run_over a.points s (take count run.hits.now)) ≡ true → is_cut_short (run_over a.points s (take count run.hits.now)) ≡ false → ⊥
      both count x y = let w : true ≡ false = sym x ∙ y in cc

      paused_whole : EndsThere run (i + 1) → Puts a t0 u (line_seen s run)
      paused_whole (last, unresolved) = record { sound = g.sound; grows = g.grows; kept = record { pauses = pauses; says = says } }
        where
          pauses : (count : ℕ) → count ≤ length run.hits.now → is_cut_short (run_over a.points s (take count run.hits.now)) ≡ true → (count ≡ length run.hits.now) × (run.verdict ≡ Unresolved)
          pauses count le short = elim (split_less count (i + 1) (omega (arith, le, last))) [
            | inl h ↦ absurd (both count short (g.goes count (omega (arith, h))))
            | inr h ↦ (h ∙ last, unresolved)
          ]

          says : (count : ℕ) (answers : List Reply) (move : Move) → Says a.points (line_seen s run) count answers move → Leads u answers move
          says count answers move say =
              let (answers_are, move_is, le) = says_is a.points s run count answers move say in
              elim (split_less count (i + 1) (omega (arith, le, last))) [
                | inl h ↦ g.said count answers move h say
                | inr h ↦
                    let same : say.hits ≡ run.hits.now = sym (hits_same run.hits.now say.hits say.known) in
                    absurd (both (i + 1) cut (subst (λ (n : ℕ). is_cut_short (run_over a.points s (take n run.hits.now)) ≡ false) h
                    (subst (λ (l : List ℕ). is_cut_short (run_over a.points s (take count l)) ≡ false) same say.goes_on)))
              ]

      paused_broken : IsSeen a s run → (b : BrokenRun) → IsPauseFault run (i + 1) (Some b) → IsContradiction a b
      paused_broken seen b (line, earlier, how, never) = record {
        scenario = s;
        other = s;
        lawful = seen.told.lawful;
        certain = seen.told.certain;
        other_lawful = seen.told.lawful;
        other_certain = seen.told.certain;
        run = seen.recorded;
        told = seen.recorded;
        recorded = seen.told.recorded;
        other_recorded = seen.told.recorded;
        line = line ∙ seen.line;
        earlier = earlier ∙ seen.line;
        contradicts =
            subst (ContradictsBy a.points (line_of s (told_of seen.recorded)) (line_of s (told_of seen.recorded))) (sym how)
            (λ pauses.
            let own = subst (EndsAtPause a.points) seen.seen pauses in
            never (own (i + 1) (omega (arith, less)) cut));
      }

      pub paused : IsSeen a s run → (found : Option BrokenRun) → IsPauseFault run (i + 1) found → IsPut a t0 u (line_seen s run) found
      paused seen None h = paused_whole h
      paused seen (Some b) h = paused_broken seen b h

    -- the run ends there
    pub whole : length run.hits.now ≤ i → Puts a t0 u (line_seen s run)
    whole last = record {
      sound = g.sound;
      grows = g.grows;
      kept = record {
        pauses = λ count le short. absurd (let goes = g.goes count (omega (arith, le, last)) in let w : true ≡ false = sym short ∙ goes in cc);
        says = λ count answers move say.
            let (answers_are, move_is, le) = says_is a.points s run count answers move say in
            g.said count answers move (omega (arith, le, last)) say;
      };
    }

-- ---- a session plays the run: that of a scenario whose tidied form the line has

module _ (a : Answered) (w : Entries) (run : SeenRun) where
  abbrev pub played : ℕ → Run
  played i = run_of w a.points 0 0 (length run.hits.now) (take i run.hits.now)

  abbrev pub tidy_run : ℕ → Run
  tidy_run i = run_of (tidied w) a.points 0 0 (length run.hits.now) (take i run.hits.now)

  -- so far the session played what was put into the tree
  pub record Playing (t0 t : Tree) (i place : ℕ) (answer : Reply) (now : Run) : Type 0 where
    pub now_is : now ≡ played i
    pub putting : Putting a (tidied w) run t0 t i place answer (tidy_run i)

  pub next_played : (i : ℕ) (now : Run) → now ≡ played i → i < length run.hits.now → hit now (get_or run.hits.now i 0) ≡ played (i + 1)
  next_played i now is less =
      ap (λ (r : Run). hit r (get_or run.hits.now i 0)) is
      ∙ ap (run_of w a.points 0 0 (length run.hits.now)) (sym (take_more run.hits.now i 0 less))

  module _ (lawful : IsScenario w) where
    means : (i : ℕ) → meaning (tidy_run i) ≡ meaning (played i)
    means i = (tidied_means w lawful.distinct_names).at a.points 0 0 (length run.hits.now) (take i run.hits.now)

    replies_same : (i : ℕ) → replies (played i) ≡ replies (tidy_run i)
    replies_same i = sym (ap (λ (m : Meaning). m.replies) (means i))

    short_same : (i : ℕ) → is_cut_short (played i) ≡ is_cut_short (tidy_run i)
    short_same i = sym (ap (λ (m : Meaning). cuts_short m.stop) (means i))

    pub playing_on : (t0 t : Tree) (i place : ℕ) (answer : Reply) (now : Run) → Playing t0 t i place answer now → is_cut_short now ≡ false
    playing_on t0 t i place answer now p =
        ap is_cut_short p.now_is ∙ short_same i ∙ runs_on a (tidied w) run t0 t i place answer (tidy_run i) p.putting

    module _ (t0 u : Tree) (i m : ℕ) (g : Through a (tidied w) run t0 u i m) (less : i < length run.hits.now) (now : Run) (now_is : now ≡ played (i + 1)) where
      short_now : is_cut_short (tidy_run (i + 1)) ≡ is_cut_short now
      short_now = sym (short_same (i + 1)) ∙ ap is_cut_short (sym now_is)

      pub plays_on : (old : Run) (answer : Reply) → old ≡ played i → replies now ≡ replies old ++ answer ∷ [] → is_cut_short now ≡ false → Playing t0 u (i + 1) m answer now
      plays_on old answer old_is told goes = record {
        now_is = now_is;
        putting = goes_on a (tidied w) run t0 u i m g (tidy_run i) (tidy_run (i + 1)) answer less refl refl more (short_now ∙ goes);
      }
        where
          more : replies (tidy_run (i + 1)) ≡ replies (tidy_run i) ++ answer ∷ []
          more =
              sym (replies_same (i + 1)) ∙ ap replies (sym now_is) ∙ told
              ∙ ap (λ (r : Run). replies r ++ answer ∷ []) old_is
              ∙ ap (λ (l : List Reply). l ++ answer ∷ []) (replies_same i)

      pub pauses : is_cut_short now ≡ true → IsSeen a (tidied w) run → (found : Option BrokenRun) → IsPauseFault run (i + 1) found → IsPut a t0 u (line_seen (tidied w) run) found
      pauses stops = paused a (tidied w) run t0 u i m g (tidy_run (i + 1)) less refl (short_now ∙ stops)

    -- several hits that go
    abbrev hit_of : ℕ → Said
    hit_of point = record { line = run.line; next = Hit point }

    -- a run that goes on at its next hit isn't stopped there
    still : (r : Run) (p : ℕ) → stopped r ≡ None → replies (hit r p) ≡ replies r ++ Go ∷ [] → stopped (hit r p) ≡ None
    still r p runs told =
        let go : reply_to r p ≡ Go = last_same (replies r) (reply_to r p) Go (sym (replies_more r p runs) ∙ told) in
        subst (λ (q : Reply). GoesOn q (hit r p)) go (caller.goes_on r p runs)

    one_more : IsSeen a (tidied w) run → (t0 t u : Tree) (i place point : ℕ) (now : Run) → Playing t0 t i place Go now → slice_get run.hits.now i ≡ Some point
        → Enters t u place Go (hit_of point) (place + 1) → IsNext u (place + 1) (Ask point) → replies (hit now point) ≡ replies now ++ Go ∷ [] → stopped (hit now point) ≡ None
        → Playing t0 u (i + 1) (place + 1) Go (hit now point)
    one_more seen t0 t u i place point now p at enters next told runs =
        let less : i < length run.hits.now = slice_get_within run.hits.now i point at in
        let is : get_or run.hits.now i 0 ≡ point = some_same (get_or run.hits.now i 0) point (sym (slice_get-get_or run.hits.now i 0 less) ∙ at) in
        let moves : Ask point ≡ move_said run.verdict (slice_get run.hits.now i) = sym (ap (move_said run.verdict) at) in
        let g : Through a (tidied w) run t0 u i (place + 1) =
        through a (tidied w) run t0 t i place Go (tidy_run i) p.putting seen u (hit_of point) (place + 1) refl moves enters next.said (i + 1) next.at next.move_is
        in
        plays_on t0 u i (place + 1) g less (hit now point) (ap (hit now) (sym is) ∙ next_played i now p.now_is less) now Go p.now_is told (ap cuts_short runs)

    pub plays_far : IsSeen a (tidied w) run → (t0 : Tree) (point n : ℕ) (t u : Tree) (i place : ℕ) (now : Run) → Playing t0 t i place Go now → stopped now ≡ None
        → ((m : ℕ) → m < n → slice_get run.hits.now (i + m) ≡ Some point) → Follows n t u place (hit_of point) → AllGo now (replicate n point)
        → Playing t0 u (i + n) (place + n) Go (hits_of now (replicate n point))
    plays_far seen t0 point zero t u i place now p runs hits same go =
        let here : i ≡ i + 0 = omega arith in
        let there : place ≡ place + 0 = omega arith in
        subst (λ (m : ℕ). Playing t0 u m (place + 0) Go (hits_of now [])) here
        (subst (λ (m : ℕ). Playing t0 u i m Go (hits_of now [])) there
        (subst (Playing t0 u i place Go) (ap (λ (l : List ℕ). let r : Run = record { given = now.given; hits = l } in r) (sym (append-nil now.hits)))
        (subst (λ (v : Tree). Playing t0 v i place Go now) (sym same) p)))
    plays_far seen t0 point (suc n) t u i place now p runs hits (middle, enters, next, rest) (told, more) =
        let zero_more : i + 0 ≡ i = omega arith in
        let at : slice_get run.hits.now i ≡ Some point = ap (slice_get run.hits.now) (sym zero_more) ∙ hits 0 (omega arith) in
        let runs_on = still now point runs told in
        let first = one_more seen t0 t middle i place point now p at enters next told runs_on in
        let far = plays_far seen t0 point n middle u (i + 1) (place + 1) (hit now point) first runs_on (λ m less. later m less) rest more in
        let here : (i + 1) + n ≡ i + suc n = omega arith in
        let there : (place + 1) + n ≡ place + suc n = omega arith in
        subst (λ (m : ℕ). Playing t0 u m (place + suc n) Go (hits_of now (point ∷ replicate n point))) here
        (subst (λ (m : ℕ). Playing t0 u ((i + 1) + n) m Go (hits_of now (point ∷ replicate n point))) there
        (subst (Playing t0 u ((i + 1) + n) ((place + 1) + n) Go) (ap (λ (l : List ℕ). let r : Run = record { given = now.given; hits = l } in r) (append_assoc now.hits (point ∷ []) (replicate n point))) far))
      where
        later : (m : ℕ) → m < n → slice_get run.hits.now ((i + 1) + m) ≡ Some point
        later m less =
            let moved : (i + 1) + m ≡ i + (m + 1) = omega arith in
            ap (slice_get run.hits.now) moved ∙ hits (m + 1) (omega (arith, less))

-- ---- a session without hits

pub has_begun : (points : List (List ℕ)) (limit : ℕ) (s : Entries) (r : Run) → r ≡ start (given_of s points 0 0 limit) → HasBegun points limit r
has_begun points limit s r is = is ∙ ap (λ (w : Entries). start (given_of w points 0 0 limit)) (sym (ap (λ (x : Run). x.given.scenario) is))

pub scenario_begun : (points : List (List ℕ)) (limit : ℕ) (s : Entries) (r : Run) → r ≡ start (given_of s points 0 0 limit) → r.given.scenario ≡ s
scenario_begun points limit s r is = ap (λ (x : Run). x.given.scenario) is

-- what is put in of one scenario is put in of the same one
pub put_so : (a : Answered) (t u : Tree) (run : SeenRun) (w s : Entries) (found : Result (Option BrokenRun) AllocError) → w ≡ s → IfOk found (IsPut a t u (line_seen w run)) → IfOk found (IsPut a t u (line_seen s run))
put_so a t u run w s found is h = subst (λ (x : Entries). IfOk found (IsPut a t u (line_seen x run))) is h
