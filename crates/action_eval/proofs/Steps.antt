-- A session's fields keep the run with one more hit.
use Rattle.std.proofs.Common.{◌≡◌, ℕ, zero, suc, ◌+◌, ◌≤◌, ◌<◌, ◌^◌, true, false, cond, List, [], ◌∷◌, ◌++◌, length, map, take, slice_index, slice_index_or, slice_set, Bool, Option, Some, None, refl, ap, sym, ◌∙◌, arith, length-append, nat_lt, add-zero, subst, get_or}
use Rattle.std.specs.List.{AllByRecursion, slice_range}
use Rattle.std.specs.Option.{IfSome, option_or}
use Rattle.std.proofs.lemmas.Bool.Decides.{nat_tests}
use Rattle.std.proofs.lemmas.List.{append-nil}
use Rattle.scenario_values.specs.declared.term.Term.{Term}
use Rattle.scenario_values.specs.declared.term.Task.{Task}
use Rattle.scenario_values.specs.declared.term.Task.TheVariants as task
use Rattle.scenario_values.specs.Scenario.{Entries, IsScenario, DistinctNames, entry_of, chain_at, chain_of}
use Rattle.action_eval.specs.declared.answer.Stop.{Stop}
use Rattle.action_eval.specs.declared.answer.Stop.TheVariants as stop
use Rattle.action_eval.specs.declared.answer.Note.{Note}
use Rattle.action_eval.specs.declared.found.Span.{Span}
use Rattle.action_eval.specs.Words.{word, Drawn}
use Rattle.action_eval.specs.Trial.{tried, is_spent, Trial}
use Rattle.action_eval.specs.Answers.{Given, given_of, Run, Hit, Halt, next, hit, hit_by, history_of, and_then, name_of, trial, acted, is_used_up, words_of, notes_of, notes_of_task, total_millis, millis_of, stopped_by, stop_of, stopped, place_in, task_at, reply_to, reply_of}
use Rattle.action_eval.specs.inside.Session.{IsOpen, Keeps, left_counts, start_of, found_of, with_one_less, left_after, seen_in, IsSpan, Rest, IsRest, AreRests, StartsUnspent}
use Rattle.action_eval.proofs.Rests.{Stays, after_stays, whole_of, trial_of_rest, further, after_rest, within_rest, task_of_rest, length_of_rest, none_of_rest, rest_at, rests_set, rests_stay, rests_self, rests_length, rest_on, starts_in}
use Rattle.action_eval.proofs.Trials.{few_words}
use Rattle.action_eval.proofs.NamedCounts.{found, trial_by_counts, counts_spent, counts_stay, ends_within, stands, stands_nowhere}
use Rattle.action_eval.proofs.Histories.{history-hit, words-more, millis-more, notes-more, stopped-on}

-- a hit of a point with this chain
abbrev hit_of : Given → List Hit → ℕ → List Term → Hit
hit_of g h p c = hit_by c (name_of g p) (words_of h) p (tried (word g.seed g.stream) (is_used_up (acted h (name_of g p))) 0 c (words_of h))

none_hit : (g : Given) (h : List Hit) (p : ℕ) → found_of g.scenario (name_of g p) ≡ None → next g h p ≡ hit_of g h p []
none_hit g h p e = ap (hit_of g h p) (stands_nowhere g.scenario (name_of g p) e)

-- what a step of a session finds: what is done, how many words are taken then, and what is left of the counts
pub record Finds (r : Run) (p : ℕ) (left : List ℕ) (did : Task) (taken : ℕ) : Type 0 where
  pub did_is : did ≡ (next r.given (history_of r) p).did
  pub taken_is : taken ≡ words_of (history_of r) + (next r.given (history_of r) p).words
  pub few : (next r.given (history_of r) p).words ≤ 256
  pub left_is : left ≡ left_counts (history_of r ++ next r.given (history_of r) p ∷ []) r.given.scenario
  pub stays : Stays (left_counts (history_of r) r.given.scenario) left

pub short_at : (s : Entries) (e : ℕ) → AllByRecursion (λ e. length e.1 ≤ 256) s → length (chain_at s e) ≤ 256
short_at [] e h = omega arith
short_at (x ∷ xs) zero h = h.0
short_at (x ∷ xs) (suc e) h = short_at xs e h.1

-- a point without a chain
pub finds_nothing : (r : Run) (p : ℕ) (left : List ℕ) (did : Task) → left ≡ left_counts (history_of r) r.given.scenario → found_of r.given.scenario (name_of r.given p) ≡ None → did ≡ task_at [] None
    → Finds r p left did (words_of (history_of r))
finds_nothing r p left did left_is at did_is =
    let h = history_of r in
    let x = none_hit r.given h p at in
    let none : (next r.given h p).words ≡ 0 = ap (λ (y : Hit). y.words) x ∙ omega arith in
    record {
      did_is = did_is ∙ sym (ap (λ (y : Hit). y.did) x);
      taken_is = omega (arith, none);
      few = omega (arith, none);
      left_is = left_is ∙ sym (counts_stay h (next r.given h p) r.given.scenario (ap (λ (y : Hit). y.term) x));
      stays = λ j z. ap (λ (l : List ℕ). slice_index l j) left_is ∙ z;
    }

left_case : (g : Given) (h : List Hit) (left : List ℕ) (p e start : ℕ) → left ≡ left_counts h g.scenario → DistinctNames g.scenario → entry_of g.scenario (name_of g p) ≡ Some e → start ≡ start_of g.scenario e
    → (o : Option ℕ) → (next g h p).term ≡ place_in (name_of g p) o → IfSome o (λ i. i < length (chain_at g.scenario e))
    → left_after left start o ≡ left_counts (h ++ next g h p ∷ []) g.scenario
left_case g h left p e start l d at s None t w = l ∙ sym (counts_stay h (next g h p) g.scenario t)
left_case g h left p e start l d at s (Some i) t w =
    ap (λ (k : List ℕ). with_one_less k (start + i)) l ∙ ap (λ k. with_one_less (left_counts h g.scenario) (k + i)) s ∙ sym (counts_spent h (next g h p) (name_of g p) i g.scenario e t d at w)

-- a point with one
pub finds : (r : Run) (p : ℕ) (left : List ℕ) → IsScenario r.given.scenario → left ≡ left_counts (history_of r) r.given.scenario → (chain : List Term) (start : ℕ) → found_of r.given.scenario (name_of r.given p) ≡ Some (chain, start)
    → (place : Option ℕ) (did : Task) (taken : ℕ)
    → place ≡ (tried (word r.given.seed r.given.stream) (is_spent (slice_range left start (start + length chain))) 0 chain (words_of (history_of r))).place
    → taken ≡ (tried (word r.given.seed r.given.stream) (is_spent (slice_range left start (start + length chain))) 0 chain (words_of (history_of r))).next
    → IfSome place (λ i. i < length chain) → did ≡ task_at chain place
    → Finds r p (left_after left start place) did taken
finds r p left is left_is chain start at place did taken place_is taken_is within did_is =
    let g = r.given in
    let h = history_of r in
    let name = name_of g p in
    let w = word g.seed g.stream in
    let s = stands g.scenario name (chain, start) at in
    let e = s.number in
    let f = found g.scenario name e s.entry in
    let here : tried w (is_spent (slice_range left start (start + length chain))) 0 chain (words_of h) ≡ tried w (is_spent (slice_range left (start_of g.scenario e) (start_of g.scenario e + length (chain_at g.scenario e)))) 0 (chain_at g.scenario e) (words_of h) =
    ap (λ (k : ℕ). tried w (is_spent (slice_range left k (k + length chain))) 0 chain (words_of h)) s.start
    ∙ ap (λ (c : List Term). tried w (is_spent (slice_range left (start_of g.scenario e) (start_of g.scenario e + length c))) 0 c (words_of h)) s.chain
    in
    let same : tried w (is_spent (slice_range left start (start + length chain))) 0 chain (words_of h) ≡ trial g h name = here ∙ trial_by_counts g h left name e left_is s.entry in
    let grows = few_words w (is_spent (slice_range left start (start + length chain))) 0 chain (words_of h) in
    let next_same : taken ≡ (trial g h name).next = taken_is ∙ ap (λ (t : Trial). t.next) same in
    let place_same : place ≡ (trial g h name).place = place_is ∙ ap (λ (t : Trial). t.place) same in
    let short : length chain ≤ 256 = subst (λ (c : List Term). length c ≤ 256) (sym s.chain) (short_at g.scenario e is.short_chains) in
    let inside : IfSome (trial g h name).place (λ i. i < length (chain_at g.scenario e)) =
    subst (λ (o : Option ℕ). IfSome o (λ i. i < length (chain_at g.scenario e))) place_same (subst (λ (c : List Term). IfSome place (λ i. i < length c)) s.chain within)
    in
    record {
      did_is = did_is ∙ ap (λ (c : List Term). task_at c place) (s.chain ∙ f.chain) ∙ ap (task_at (chain_of g.scenario name)) place_same;
      taken_is = omega (arith, next_same, taken_is, grows.0);
      few = omega (arith, next_same, taken_is, grows.0, grows.1, short);
      left_is = ap (left_after left start) place_same ∙ left_case g h left p e start left_is is.distinct_names s.entry s.start (trial g h name).place refl inside;
      stays = subst (λ (l : List ℕ). Stays l (left_after left start place)) left_is (after_stays left start place);
    }

-- the same by what is left of its chain
finds_rest : (r : Run) (p : ℕ) (left : List ℕ) → IsScenario r.given.scenario → left ≡ left_counts (history_of r) r.given.scenario → (chain : List Term) (start : ℕ) → IsRest left (found_of r.given.scenario (name_of r.given p)) (Some (chain, start))
    → (place : Option ℕ) (did : Task) (taken : ℕ)
    → place ≡ (tried (word r.given.seed r.given.stream) (is_spent (slice_range left start (start + length chain))) 0 chain (words_of (history_of r))).place
    → taken ≡ (tried (word r.given.seed r.given.stream) (is_spent (slice_range left start (start + length chain))) 0 chain (words_of (history_of r))).next
    → IfSome place (λ i. i < length chain) → did ≡ task_at chain place
    → Finds r p (left_after left start place) did taken
finds_rest r p left is left_is chain start at place did taken place_is taken_is within did_is =
    let w = whole_of left (found_of r.given.scenario (name_of r.given p)) (chain, start) at in
    let k = length w.standing.before in
    let same = trial_of_rest (word r.given.seed r.given.stream) left w.whole (chain, start) w.standing (words_of (history_of r)) in
    subst (λ (l : List ℕ). Finds r p l did taken) (sym (after_rest left w.whole (chain, start) w.standing place))
    (finds r p left is left_is w.whole.0 w.whole.1 w.is (further k place) did taken
    (ap (further k) place_is ∙ sym (ap (λ (t : Trial). t.place) same)) (taken_is ∙ sym (ap (λ (t : Trial). t.next) same))
    (within_rest left w.whole (chain, start) w.standing place within) (did_is ∙ sym (task_of_rest left w.whole (chain, start) w.standing place)))

not_over : (limit n : ℕ) → n ≤ limit → nat_lt limit n ≡ false
not_over limit n h = grind (arith, nat_tests)

below : (limit n : ℕ) → n < limit → nat_lt n limit ≡ true
below limit n h = grind (arith, nat_tests)

-- within the limit, what stopped a run is what a hit stopped
stopped_within : (r : Run) → length r.hits ≤ r.given.limit → stopped r ≡ stopped_by (history_of r)
stopped_within r h = ap (λ b. cond b (Some stop.Limit) (stopped_by (history_of r))) (not_over r.given.limit (length r.hits) h)

-- the next answer is that of the next hit
pub reply_is : (r : Run) (p : ℕ) → length r.hits < r.given.limit → reply_to r p ≡ reply_of (next r.given (history_of r) p).did
reply_is r p h = ap (λ b. cond b (reply_of (next r.given (history_of r) p).did) Halt) (below r.given.limit (length r.hits) h)

-- what is found is what is answered
pub reply_found : (r : Run) (p : ℕ) (left : List ℕ) (did : Task) (taken : ℕ) → Finds r p left did taken → length r.hits < r.given.limit → reply_of did ≡ reply_to r p
reply_found r p left did taken f h = ap reply_of f.did_is ∙ sym (reply_is r p h)

-- the fields after a hit keep the run with that hit
pub keeps_hit : (r : Run) (p : ℕ) (found : List (Option (List Term × ℕ))) (left : List ℕ) (taken : ℕ) (notes : List Note) (millis : ℕ) (halt : Option Stop) → Keeps r found left taken notes millis halt
    → length r.hits < r.given.limit
    → (left' : List ℕ) (did : Task) (taken' : ℕ) → Finds r p left' did taken' → millis_of did < 2 ^ 32
    → (found' : List (Option (List Term × ℕ))) → AreRests left (map (found_of r.given.scenario) r.given.catalogue) found'
    → Keeps (hit r p) found' left' taken' (notes ++ notes_of_task p did) (millis + millis_of did) (option_or (stop_of did) halt)
keeps_hit r p found left taken notes millis halt k room left' did taken' f small found' rests =
    let h = history_of r in
    let x = next r.given h p in
    let more : history_of (hit r p) ≡ h ++ x ∷ [] = history-hit r p room in
    let words_after : words_of (history_of (hit r p)) ≡ taken' = ap words_of more ∙ words-more h x ∙ sym f.taken_is in
    let millis_after : total_millis (history_of (hit r p)) ≡ millis + millis_of did =
    ap total_millis more ∙ millis-more h x ∙ ap (λ d. total_millis h + millis_of d) (sym f.did_is) ∙ ap (λ m. m + millis_of did) (sym k.millis_are)
    in
    let longer : length (hit r p).hits ≡ length r.hits + 1 = length-append r.hits (p ∷ []) in
    let point : x.point ≡ p = refl in
    record {
      scenario = k.scenario;
      found_is = rests_stay left left' (map (found_of r.given.scenario) r.given.catalogue) found' (subst (λ (l : List ℕ). Stays l left') (sym k.left_is) f.stays) rests;
      left_is = f.left_is ∙ ap (λ l. left_counts l r.given.scenario) (sym more);
      taken_is = sym words_after;
      notes_are = ap (λ l. l ++ notes_of_task p did) k.notes_are ∙ ap (λ d. notes_of h ++ notes_of_task p d) f.did_is
          ∙ ap (λ q. notes_of h ++ notes_of_task q x.did) (sym point) ∙ sym (notes-more h x) ∙ ap notes_of (sym more);
      millis_are = sym millis_after;
      stop_is =
          ap (λ d. option_or (stop_of d) halt) f.did_is ∙ ap (option_or (stop_of x.did)) (k.stop_is ∙ stopped_within r (omega arith))
          ∙ sym (stopped-on h x) ∙ ap stopped_by (sym more) ∙ sym (stopped_within (hit r p) (omega (arith, longer)));
      few_hits = omega (arith, longer);
      few_words = omega (arith, words_after, f.taken_is, f.few, k.few_words, longer);
      few_millis = omega (arith, millis_after, k.millis_are, k.few_millis, small, longer);
    }

-- The same run, if its fields are equal.
pub keeps_same : (scenario : Entries) (catalogue : List (List ℕ)) (limit : ℕ) (found : List (Option (List Term × ℕ))) (hits hits' : List ℕ) (left left' : List ℕ) (drawn drawn' : Drawn) (notes notes' : List Note) (millis millis' : ℕ) (halt halt' : Option Stop)
    → hits ≡ hits' → left ≡ left' → drawn ≡ drawn' → notes ≡ notes' → millis ≡ millis' → halt ≡ halt'
    → Keeps (record { given = given_of scenario catalogue drawn.seed drawn.stream limit; hits = hits }) found left drawn.taken notes millis halt
    → Keeps (record { given = given_of scenario catalogue drawn'.seed drawn'.stream limit; hits = hits' }) found left' drawn'.taken notes' millis' halt'
keeps_same scenario catalogue limit found hits hits' left left' drawn drawn' notes notes' millis millis' halt halt' a b c d e f k =
    subst (λ (x : List ℕ). Keeps (record { given = given_of scenario catalogue drawn'.seed drawn'.stream limit; hits = x }) found left' drawn'.taken notes' millis' halt') a
    (subst (λ (x : List ℕ). Keeps (record { given = given_of scenario catalogue drawn'.seed drawn'.stream limit; hits = hits }) found x drawn'.taken notes' millis' halt') b
    (subst (λ (x : Drawn). Keeps (record { given = given_of scenario catalogue x.seed x.stream limit; hits = hits }) found left x.taken notes' millis' halt') c
    (subst (λ (x : List Note). Keeps (record { given = given_of scenario catalogue drawn.seed drawn.stream limit; hits = hits }) found left drawn.taken x millis' halt') d
    (subst (λ (x : ℕ). Keeps (record { given = given_of scenario catalogue drawn.seed drawn.stream limit; hits = hits }) found left drawn.taken notes x halt') e
    (subst (λ (x : Option Stop). Keeps (record { given = given_of scenario catalogue drawn.seed drawn.stream limit; hits = hits }) found left drawn.taken notes millis x) f k)))))

pub keeps_found : (r : Run) (found found' : List (Option (List Term × ℕ))) (left : List ℕ) (taken : ℕ) (notes : List Note) (millis : ℕ) (halt : Option Stop) → found ≡ found' → Keeps r found left taken notes millis halt → Keeps r found' left taken notes millis halt
keeps_found r found found' left taken notes millis halt e k = subst (λ (cs : List (Option (List Term × ℕ))). Keeps r cs left taken notes millis halt) e k

-- what is left of the chain that was found for a point
entry_at : (s : Entries) (names : List (List ℕ)) (p : ℕ) (d : Option (List Term × ℕ)) → p < length names → get_or (map (found_of s) names) p d ≡ found_of s (slice_index_or names p [])
entry_at s [] p d h = absurd (omega arith)
entry_at s (n ∷ ns) zero d h = refl
entry_at s (n ∷ ns) (suc p) d h = entry_at s ns p d (omega arith)

many : (s : Entries) (names : List (List ℕ)) (p : ℕ) → p < length names → p < length (map (found_of s) names)
many s [] p h = absurd (omega arith)
many s (n ∷ ns) zero h = omega arith
many s (n ∷ ns) (suc p) h = omega (arith, many s ns p (omega arith))

pub known_by : (r now : Run) (p : ℕ) → r ≡ now → p < length now.given.catalogue → p < length r.given.catalogue
known_by r now p e h = subst (λ (x : Run). p < length x.given.catalogue) (sym e) h

pub point_found : (r now : Run) (found : List (Option (List Term × ℕ))) (left : List ℕ) (taken : ℕ) (notes : List Note) (millis : ℕ) (halt : Option Stop) → Keeps r found left taken notes millis halt
    → r ≡ now → (p : ℕ) → p < length now.given.catalogue → (d o : Option (List Term × ℕ)) → o ≡ get_or found p d → IsRest left (found_of r.given.scenario (name_of r.given p)) o
point_found r now found left taken notes millis halt k same p h d o e =
    let s = r.given.scenario in
    let names = r.given.catalogue in
    let known = known_by r now p same h in
    let here = rest_at left (map (found_of s) names) found p d (many s names p known) k.found_is in
    subst (λ (f : Option (List Term × ℕ)). IsRest left (found_of s (name_of r.given p)) f) (sym e)
    (subst (λ (f : Option (List Term × ℕ)). IsRest left f (get_or found p d)) (entry_at s names p d known) here)

pub known_found : (r now : Run) (found : List (Option (List Term × ℕ))) (left : List ℕ) (taken : ℕ) (notes : List Note) (millis : ℕ) (halt : Option Stop) → Keeps r found left taken notes millis halt
    → r ≡ now → (p : ℕ) → p < length now.given.catalogue → p < length found
known_found r now found left taken notes millis halt k same p h =
    let s = r.given.scenario in
    let names = r.given.catalogue in
    let all = rests_length left (map (found_of s) names) found k.found_is in
    omega (arith, all, many s names p (known_by r now p same h))

-- the same of what a look-up gave
pub point_none : (r now : Run) (found : List (Option (List Term × ℕ))) (left : List ℕ) (taken : ℕ) (notes : List Note) (millis : ℕ) (halt : Option Stop) → Keeps r found left taken notes millis halt
    → r ≡ now → (p : ℕ) → p < length now.given.catalogue → (d o : Option (List Term × ℕ)) → o ≡ get_or found p d → o ≡ None → IsRest left (found_of r.given.scenario (name_of r.given p)) None
point_none r now found left taken notes millis halt k same p h d o e is =
    subst (λ (x : Option (List Term × ℕ)). IsRest left (found_of r.given.scenario (name_of r.given p)) x) is (point_found r now found left taken notes millis halt k same p h d o e)

pub point_some : (r now : Run) (found : List (Option (List Term × ℕ))) (left : List ℕ) (taken : ℕ) (notes : List Note) (millis : ℕ) (halt : Option Stop) → Keeps r found left taken notes millis halt
    → r ≡ now → (p : ℕ) → p < length now.given.catalogue → (d o : Option (List Term × ℕ)) → o ≡ get_or found p d → (f : List Term × ℕ) → o ≡ Some f → IsRest left (found_of r.given.scenario (name_of r.given p)) (Some f)
point_some r now found left taken notes millis halt k same p h d o e f is =
    subst (λ (x : Option (List Term × ℕ)). IsRest left (found_of r.given.scenario (name_of r.given p)) x) is (point_found r now found left taken notes millis halt k same p h d o e)

-- The rests after that of one point was replaced.
rests_after : (r now : Run) (found : List (Option (List Term × ℕ))) (left : List ℕ) (taken : ℕ) (notes : List Note) (millis : ℕ) (halt : Option Stop) → Keeps r found left taken notes millis halt
    → r ≡ now → (p : ℕ) → p < length now.given.catalogue → (f : Option (List Term × ℕ)) → IsRest left (found_of r.given.scenario (name_of r.given p)) f
    → AreRests left (map (found_of r.given.scenario) r.given.catalogue) (slice_set found p f)
rests_after r now found left taken notes millis halt k same p h f at =
    let s = r.given.scenario in
    rests_set left (map (found_of s) r.given.catalogue) found p None f k.found_is
    (subst (λ (o : Option (List Term × ℕ)). IsRest left o f) (sym (entry_at s r.given.catalogue p None (known_by r now p same h))) at)

-- The fields after a hit of a point, if terms that are spent by then are left out of what is left of its chain.
pub keeps_rest : (r : Run) (p : ℕ) (found : List (Option (List Term × ℕ))) (left : List ℕ) (taken : ℕ) (notes : List Note) (millis : ℕ) (halt : Option Stop) → Keeps r found left taken notes millis halt
    → p < length r.given.catalogue → (f g : List Term × ℕ) → IsRest left (found_of r.given.scenario (name_of r.given p)) (Some f) → (read : List ℕ) → read ≡ left → Rest read f g
    → Keeps r (slice_set found p (Some g)) left taken notes millis halt
keeps_rest r p found left taken notes millis halt k h f g at read read_is rest =
    let less = rest_on left (found_of r.given.scenario (name_of r.given p)) f g at (subst (λ (l : List ℕ). Rest l f g) read_is rest) in
    record {
      scenario = k.scenario;
      found_is = rests_after r r found left taken notes millis halt k refl p h (Some g) less;
      left_is = k.left_is;
      taken_is = k.taken_is;
      notes_are = k.notes_are;
      millis_are = k.millis_are;
      stop_is = k.stop_is;
      few_hits = k.few_hits;
      few_words = k.few_words;
      few_millis = k.few_millis;
    }

-- what is known of a session's value is known of the run that its fields keep
pub room_of : (r now : Run) → r ≡ now → length now.hits < now.given.limit → length r.hits < r.given.limit
room_of r now same h = subst (λ (x : Run). length x.hits < x.given.limit) (sym same) h

pub limit_of : (r now : Run) → r ≡ now → now.given.limit < 2 ^ 32 → r.given.limit < 2 ^ 32
limit_of r now same h = subst (λ (x : Run). x.given.limit < 2 ^ 32) (sym same) h

abbrev RestBy : Run → ℕ → Option Span → Type 0
RestBy x p o = IsRest (left_counts (history_of x) x.given.scenario) (found_of x.given.scenario (name_of x.given p)) (seen_in x.given.scenario o)

pub rest_of_point : (r now : Run) (found : List (Option (List Term × ℕ))) (left : List ℕ) (taken : ℕ) (notes : List Note) (millis : ℕ) (halt : Option Stop) → Keeps r found left taken notes millis halt
    → r ≡ now → (p : ℕ) (o : Option Span) → RestBy now p o → IsRest left (found_of r.given.scenario (name_of r.given p)) (seen_in r.given.scenario o)
rest_of_point r now found left taken notes millis halt k same p o h =
    subst (λ (l : List ℕ). IsRest l (found_of r.given.scenario (name_of r.given p)) (seen_in r.given.scenario o)) (sym k.left_is) (subst (λ (x : Run). RestBy x p o) (sym same) h)

pub rest_by_point : (r now : Run) (found : List (Option (List Term × ℕ))) (left : List ℕ) (taken : ℕ) (notes : List Note) (millis : ℕ) (halt : Option Stop) → Keeps r found left taken notes millis halt
    → r ≡ now → (p : ℕ) (o : Option Span) → IsRest left (found_of r.given.scenario (name_of r.given p)) (seen_in r.given.scenario o) → RestBy now p o
rest_by_point r now found left taken notes millis halt k same p o h =
    subst (λ (x : Run). RestBy x p o) same (subst (λ (l : List ℕ). IsRest l (found_of r.given.scenario (name_of r.given p)) (seen_in r.given.scenario o)) k.left_is h)

pub span_of : (r now : Run) (p : Span) → r ≡ now → IsSpan now.given.scenario p → IsSpan r.given.scenario p
span_of r now p same is = subst (λ (x : Run). IsSpan x.given.scenario p) (sym same) is

pub span_by : (r now : Run) (p : Span) → r ≡ now → IsSpan r.given.scenario p → IsSpan now.given.scenario p
span_by r now p same is = subst (λ (x : Run). IsSpan x.given.scenario p) same is

-- a hit of a point without a chain
pub finds_none : (r : Run) (p : ℕ) (found : List (Option (List Term × ℕ))) (left : List ℕ) (taken : ℕ) (notes : List Note) (millis : ℕ) (halt : Option Stop) → Keeps r found left taken notes millis halt
    → IsRest left (found_of r.given.scenario (name_of r.given p)) None → Finds r p left task.Off taken
finds_none r p found left taken notes millis halt k at =
    subst (λ (n : ℕ). Finds r p left task.Off n) (sym k.taken_is) (finds_nothing r p left task.Off k.left_is (none_of_rest left (found_of r.given.scenario (name_of r.given p)) at) refl)

pub keeps_idle : (r : Run) (p : ℕ) (found : List (Option (List Term × ℕ))) (left : List ℕ) (taken : ℕ) (notes : List Note) (millis : ℕ) (halt : Option Stop) → Keeps r found left taken notes millis halt
    → length r.hits < r.given.limit → IsRest left (found_of r.given.scenario (name_of r.given p)) None → (hits : List ℕ) → hits ≡ r.hits ++ p ∷ []
    → Keeps (record { given = r.given; hits = hits }) found left taken notes millis halt
keeps_idle r p found left taken notes millis halt k room at hits more =
    let kept = keeps_hit r p found left taken notes millis halt k room left task.Off taken (finds_none r p found left taken notes millis halt k at) (omega arith) found k.found_is in
    keeps_same r.given.scenario r.given.catalogue r.given.limit found _ hits left left (record { seed = r.given.seed; stream = r.given.stream; taken = taken }) (record { seed = r.given.seed; stream = r.given.stream; taken = taken })
    _ notes _ millis halt halt (sym more) refl refl (append-nil notes) (add-zero millis) refl kept

-- A hit of a point with a chain, if these counts were read.
pub finds_some : (r : Run) (p : ℕ) (found : List (Option (List Term × ℕ))) (left : List ℕ) (drawn : Drawn) (notes : List Note) (millis : ℕ) (halt : Option Stop) → Keeps r found left drawn.taken notes millis halt
    → drawn.seed ≡ r.given.seed → drawn.stream ≡ r.given.stream → (read : List ℕ) → read ≡ left
    → (chain : List Term) (start : ℕ) → IsRest left (found_of r.given.scenario (name_of r.given p)) (Some (chain, start)) → (place : Option ℕ) (did : Task) (drawn' : Drawn)
    → place ≡ (tried (word drawn.seed drawn.stream) (is_spent (slice_range read start (start + length chain))) 0 chain drawn.taken).place
    → drawn' ≡ record drawn { taken = (tried (word drawn.seed drawn.stream) (is_spent (slice_range read start (start + length chain))) 0 chain drawn.taken).next }
    → IfSome place (λ i. i < length chain) → did ≡ task_at chain place
    → Finds r p (left_after left start place) did drawn'.taken
finds_some r p found left drawn notes millis halt k seed stream read read_is chain start at place did drawn' place_is drawn_is within did_is =
    let t : Trial = tried (word drawn.seed drawn.stream) (is_spent (slice_range read start (start + length chain))) 0 chain drawn.taken in
    let same : t ≡ tried (word r.given.seed r.given.stream) (is_spent (slice_range left start (start + length chain))) 0 chain (words_of (history_of r)) =
    ap (λ (n : ℕ). tried (word n drawn.stream) (is_spent (slice_range read start (start + length chain))) 0 chain drawn.taken) seed
    ∙ ap (λ (n : ℕ). tried (word r.given.seed n) (is_spent (slice_range read start (start + length chain))) 0 chain drawn.taken) stream
    ∙ ap (λ (n : ℕ). tried (word r.given.seed r.given.stream) (is_spent (slice_range read start (start + length chain))) 0 chain n) k.taken_is
    ∙ ap (λ (l : List ℕ). tried (word r.given.seed r.given.stream) (is_spent (slice_range l start (start + length chain))) 0 chain (words_of (history_of r))) read_is
    in
    finds_rest r p left k.scenario k.left_is chain start at place did drawn'.taken (place_is ∙ ap (λ (t : Trial). t.place) same) (ap (λ (d : Drawn). d.taken) drawn_is ∙ ap (λ (t : Trial). t.next) same) within did_is

-- A hit of a point with a chain that comes to nothing, if these counts were read.
pub finds_off : (r : Run) (p : ℕ) (found : List (Option (List Term × ℕ))) (left : List ℕ) (taken : ℕ) (notes : List Note) (millis : ℕ) (halt : Option Stop) → Keeps r found left taken notes millis halt
    → (read : List ℕ) → read ≡ left → (chain : List Term) (start : ℕ) → IsRest left (found_of r.given.scenario (name_of r.given p)) (Some (chain, start)) → StartsUnspent (is_spent read) start chain → (place : Option ℕ)
    → ((word : ℕ → ℕ) (spent : ℕ → Term → Bool) (n : ℕ) → StartsUnspent spent 0 chain → tried word spent 0 chain n ≡ record { place = place; next = n })
    → IfSome place (λ i. i < length chain) → task_at chain place ≡ task.Off
    → Finds r p (left_after left start place) task.Off taken
finds_off r p found left taken notes millis halt k read read_is chain start at head place idle within off =
    let w = word r.given.seed r.given.stream in
    let n = words_of (history_of r) in
    let same : tried w (is_spent (slice_range left start (start + length chain))) 0 chain n ≡ record { place = place; next = n } =
    idle w (is_spent (slice_range left start (start + length chain))) n (starts_in left chain start (subst (λ (l : List ℕ). StartsUnspent (is_spent l) start chain) read_is head))
    in
    subst (λ (m : ℕ). Finds r p (left_after left start place) task.Off m) (sym k.taken_is)
    (finds_rest r p left k.scenario k.left_is chain start at place task.Off n (sym (ap (λ (t : Trial). t.place) same)) (sym (ap (λ (t : Trial). t.next) same)) within (sym off))

pub keeps_off : (r : Run) (p : ℕ) (found : List (Option (List Term × ℕ))) (left : List ℕ) (taken : ℕ) (notes : List Note) (millis : ℕ) (halt : Option Stop) → Keeps r found left taken notes millis halt
    → length r.hits < r.given.limit → (left' : List ℕ) → Finds r p left' task.Off taken → (hits : List ℕ) → hits ≡ r.hits ++ p ∷ [] → (after : List ℕ) → after ≡ left'
    → (found' : List (Option (List Term × ℕ))) → AreRests left (map (found_of r.given.scenario) r.given.catalogue) found'
    → Keeps (record { given = r.given; hits = hits }) found' after taken notes millis halt
keeps_off r p found left taken notes millis halt k room left' f hits more after same found' rests =
    let kept = keeps_hit r p found left taken notes millis halt k room left' task.Off taken f (omega arith) found' rests in
    keeps_same r.given.scenario r.given.catalogue r.given.limit found' _ hits left' after (record { seed = r.given.seed; stream = r.given.stream; taken = taken }) (record { seed = r.given.seed; stream = r.given.stream; taken = taken })
    _ notes _ millis halt halt (sym more) (sym same) refl (append-nil notes) (add-zero millis) refl kept

-- the counts of a found chain are among those of all
pub found_within : (r : Run) (found : List (Option (List Term × ℕ))) (left : List ℕ) (taken : ℕ) (notes : List Note) (millis : ℕ) (halt : Option Stop) → Keeps r found left taken notes millis halt
    → (name : List ℕ) (chain : List Term) (start : ℕ) → IsRest left (found_of r.given.scenario name) (Some (chain, start)) → (start + length chain ≤ length left) × (length chain ≤ 256)
found_within r points left taken notes millis halt k name chain start at =
    let w = whole_of left (found_of r.given.scenario name) (chain, start) at in
    let s = stands r.given.scenario name w.whole w.is in
    let f = found r.given.scenario name s.number s.entry in
    let ends = ends_within (history_of r) r.given.scenario s.number f.within in
    let many : length left ≡ length (left_counts (history_of r) r.given.scenario) = ap length k.left_is in
    let size : length w.whole.0 ≡ length (chain_at r.given.scenario s.number) = ap length s.chain in
    let start_is : w.whole.1 ≡ start_of r.given.scenario s.number = s.start in
    let parts = length_of_rest left w.whole (chain, start) w.standing in
    let on : start ≡ w.whole.1 + length w.standing.before = w.standing.start_is in
    (omega arith, omega (arith, parts, short_at r.given.scenario s.number k.scenario.short_chains))

-- ---- a run with no hit yet

none_of : (n : ℕ) (hits : List ℕ) → hits ≡ [] → take n hits ≡ []
none_of zero hits e = grind (arith, e)
none_of (suc n) hits e = ap (take (suc n)) e

-- the fields keep a run with no hit
pub keeps_start : (g : Given) (hits : List ℕ) (found : List (Option (List Term × ℕ))) (left : List ℕ) (taken : ℕ) (notes : List Note) → hits ≡ [] → IsScenario g.scenario → found ≡ map (found_of g.scenario) g.catalogue → left ≡ left_counts [] g.scenario → taken ≡ 0 → notes ≡ []
    → Keeps (record { given = g; hits = hits }) found left taken notes 0 None
keeps_start g hits found left taken notes empty is found_is left_is taken_is notes_are =
    let r : Run = record { given = g; hits = hits } in
    let none : history_of r ≡ [] = ap (λ (ps : List ℕ). and_then g [] ps) (none_of g.limit hits empty) in
    let size : length hits ≡ 0 = ap length empty in
    let words : words_of (history_of r) ≡ 0 = ap words_of none in
    let millis : total_millis (history_of r) ≡ 0 = ap total_millis none in
    let running : stopped r ≡ None = ap (λ b. cond b (Some stop.Limit) (stopped_by (history_of r))) (not_over g.limit (length hits) (omega arith)) ∙ ap stopped_by none in
    record {
      scenario = is;
      found_is = rests_self left (map (found_of g.scenario) g.catalogue) found found_is;
      left_is = left_is ∙ ap (λ (h : List Hit). left_counts h g.scenario) (sym none);
      taken_is = taken_is ∙ sym words;
      notes_are = notes_are ∙ ap notes_of (sym none);
      millis_are = sym millis;
      stop_is = sym running;
      few_hits = omega (arith, size);
      few_words = omega (arith, words);
      few_millis = omega (arith, millis);
    }

-- while nothing has stopped the run, all hits within the limit are answered
pub open_of : (r : Run) (found : List (Option (List Term × ℕ))) (left : List ℕ) (taken : ℕ) (notes : List Note) (millis : ℕ) (stop : Option Stop) (s : Run)
    → Keeps r found left taken notes millis stop → (limit answerable : ℕ) (late : Bool) → IsOpen stop limit answerable late
    → r ≡ s → stopped s ≡ None → answerable ≡ limit
open_of r found left taken notes millis stop s k limit answerable late o is running = o.answerable_is (k.stop_is ∙ ap stopped is ∙ running)
