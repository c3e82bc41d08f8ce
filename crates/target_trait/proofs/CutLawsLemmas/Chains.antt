-- An entry with a term for each pending write, and what its terms do at the hits of a cut.
use Rattle.std.proofs.Common.{◌≡◌, ℕ, suc, ◌+◌, ◌-◌, ◌<◌, ◌≤◌, nat_lt, eqb, ◌&&◌, Bool, true, false, cond, List, [], ◌∷◌, ◌++◌, length, take, map, Option, Some, None, refl, ap, sym, ◌∙◌, subst, arith, append_assoc, add-zero, zero-add}
use Rattle.std.specs.Prelude.{nat_le}
use Rattle.std.specs.Str.{bytes_eq}
use Rattle.std.proofs.lemmas.Bool.Decides.{nat_tests}
use Rattle.std.proofs.lemmas.List.{length_push}
use Rattle.scenario_values.specs.declared.term.Term.{Term}
use Rattle.scenario_values.specs.declared.term.Task.{Task}
use Rattle.scenario_values.specs.declared.term.Task.TheVariants as task
use Rattle.scenario_values.specs.Scenario.{Entries, chain_of}
use Rattle.action_eval.specs.RiggedScenario.{full, entry}
use Rattle.action_eval.specs.Trial.{Trial, tried}
use Rattle.action_eval.specs.Words.{word}
use Rattle.action_eval.specs.Answers.{Given, Hit, Reply, next, and_then, history_of, hit_by, acted, is_term, is_used_up, name_of, place_in, task_at, trial, words_of}
use Rattle.action_eval.proofs.Alike.{acted-more, bytes_self, once}
use Rattle.action_eval.proofs.TidiedEntries.{flipped}
use Rattle.target_trait.specs.Cuts.{answer_to}
use Rattle.target_trait.specs.cut_laws.KeptSets.{LacksKeep}
use Rattle.target_trait.proofs.CutLawsLemmas.Names.{AreBelow, at, below_taken, keep_name, longer_given, name_behind, next_by, no_words}
use Rattle.target_trait.proofs.CutLawsLemmas.CutHits.{ComeNext, GoOn, said}

-- a pending write is kept by `1*return`, and lost by `1*off`
abbrev keep_task : Bool → Task
keep_task true = task.Return None
keep_task false = task.Off

abbrev pub keep_term : Bool → Term
keep_term keep = full (Some 1) (keep_task keep)

-- ---- the entry in a scenario

pub chain_apart : (s : Entries) (c : List Term) (name : List ℕ) → bytes_eq name keep_name ≡ false → chain_of (s ++ entry keep_name c) name ≡ chain_of s name
chain_apart [] [] name e = refl
chain_apart [] (t ∷ ts) name e = ap (λ b. cond b (t ∷ ts) []) e
chain_apart (x ∷ s) c name e = ap (λ (l : List Term). cond (bytes_eq name x.0) x.1 l) (chain_apart s c name e)

pub chain_here : (s : Entries) (c : List Term) → LacksKeep s → chain_of (s ++ entry keep_name c) keep_name ≡ c
chain_here [] [] n = refl
chain_here [] (t ∷ ts) n = ap (λ b. cond b (t ∷ ts) []) (bytes_self keep_name)
chain_here (x ∷ s) c n =
    ap (λ b. cond b x.1 (chain_of (s ++ entry keep_name c) keep_name)) (flipped x.0 keep_name n.0) ∙ chain_here s c n.1

-- ---- no term of the entry acted at the target's own hits

unnamed : (name : List ℕ) (o : Option ℕ) (i : ℕ) → bytes_eq name keep_name ≡ false → once (is_term keep_name i (place_in name o)) ≡ 0
unnamed name None i e = refl
unnamed name (Some p) i e = ap (λ b. once (b && eqb p i)) e

abbrev NeverActed : List Hit → Type 0
NeverActed h = (i : ℕ) → acted h keep_name i ≡ 0

never_after : (g : Given) (n : ℕ) → ((p : ℕ) → p < n → bytes_eq (name_of g p) keep_name ≡ false) → (h : List Hit) (ps : List ℕ) → AreBelow n ps → NeverActed h → NeverActed (and_then g h ps)
never_after g n apart h [] below none = none
never_after g n apart h (p ∷ ps) below none =
    never_after g n apart (h ++ next g h p ∷ []) ps below.1
    (λ i.
    acted-more h (next g h p) keep_name i ∙ ap (λ k. k + once (is_term keep_name i (next g h p).term)) (none i)
    ∙ ap (λ k. 0 + k) (unnamed (name_of g p) (trial g h (name_of g p)).place i (apart p below.0)))

pub never_own : (g : Given) (n : ℕ) → ((p : ℕ) → p < n → bytes_eq (name_of g p) keep_name ≡ false) → (hits : List ℕ) → AreBelow n hits → (i : ℕ) → acted (history_of (at g hits)) keep_name i ≡ 0
never_own g n apart hits below = never_after g n apart [] (take g.limit hits) (below_taken n g.limit hits below) (λ i. refl)

-- ---- the terms of the entry act one after another

-- the hit at which the term of a place keeps its write, or loses it
abbrev kept_hit : ℕ → ℕ → Bool → Hit
kept_hit n place keep = record { point = n; term = Some (keep_name, place); did = keep_task keep; words = 0 }

abbrev pub kept_hits : ℕ → ℕ → List Bool → List Hit
kept_hits n place [] = []
kept_hits n place (k ∷ keep) = kept_hit n place k ∷ kept_hits n (suc place) keep

-- the terms of these places acted once, and no other
abbrev ActedBelow : List Hit → ℕ → Type 0
ActedBelow h n = (i : ℕ) → acted h keep_name i ≡ once (nat_lt i n)

abbrev at_place : ℕ → ℕ → Trial
at_place place next = record { place = Some place; next = next }

tried_on : (w : ℕ → ℕ) (spent : ℕ → Term → Bool) (i n : ℕ) (done rest : List Bool) (k : Bool)
    → ((j : ℕ) (x : Bool) → i ≤ j → j < i + length done → spent j (keep_term x) ≡ true) → spent (i + length done) (keep_term k) ≡ false
    → tried w spent i (map keep_term (done ++ k ∷ rest)) n ≡ at_place (i + length done) n
tried_on w spent i n [] rest k used here =
    let place : i + 0 ≡ i = add-zero i in
    ap (λ b. cond b (tried w spent (i + 1) (map keep_term rest) n) (at_place i n)) (ap (λ j. spent j (keep_term k)) (sym place) ∙ here)
    ∙ ap (λ j. at_place j n) (sym place)
tried_on w spent i n (d ∷ done) rest k used here =
    let place : (i + 1) + length done ≡ i + suc (length done) = omega arith in
    ap (λ b. cond b (tried w spent (i + 1) (map keep_term (done ++ k ∷ rest)) n) (at_place i n)) (used i d (omega arith) (omega arith))
    ∙ tried_on w spent (i + 1) n done rest k (λ j x low high. used j x (omega arith) (omega arith)) (ap (λ j. spent j (keep_term k)) place ∙ here)
    ∙ ap (λ j. at_place j n) place

term_at : (done rest : List Bool) (k : Bool) → task_at (map keep_term (done ++ k ∷ rest)) (Some (length done)) ≡ keep_task k
term_at [] rest k = refl
term_at (d ∷ done) rest k = term_at done rest k

used_up : (h : List Hit) (n i : ℕ) (k : Bool) → ActedBelow h n → i < n → is_used_up (acted h keep_name) i (keep_term k) ≡ true
used_up h n i k a less = ap (λ m. nat_le 1 m) (a i) ∙ so
  where
    so : nat_le 1 (once (nat_lt i n)) ≡ true
    so = grind (arith, nat_tests, less)

unused : (h : List Hit) (n i : ℕ) (k : Bool) → ActedBelow h n → n ≤ i → is_used_up (acted h keep_name) i (keep_term k) ≡ false
unused h n i k a more = ap (λ m. nat_le 1 m) (a i) ∙ so
  where
    so : nat_le 1 (once (nat_lt i n)) ≡ false
    so = grind (arith, nat_tests, more)

abbrev hit_at : ℕ → ℕ → Task → ℕ → Hit
hit_at n place did words = record { point = n; term = Some (keep_name, place); did = did; words = words }

next_kept : (names : List (List ℕ)) (seed stream limit : ℕ) (t : Entries) (h : List Hit) (done rest : List Bool) (k : Bool) → chain_of t keep_name ≡ map keep_term (done ++ k ∷ rest)
    → ActedBelow h (length done) → next (longer_given names seed stream limit t) h (length names) ≡ kept_hit (length names) (length done) k
next_kept names seed stream limit t h done rest k chain a =
    let w = word seed stream in
    let n : ℕ = length names in
    let c : List Term = map keep_term (done ++ k ∷ rest) in
    let spent = is_used_up (acted h keep_name) in
    let place : 0 + length done ≡ length done = zero-add (length done) in
    let acts : tried w spent 0 c (words_of h) ≡ at_place (length done) (words_of h) =
    tried_on w spent 0 (words_of h) done rest k (λ j x low high. used_up h (length done) j x a (omega (arith, high)))
    (unused h (length done) (0 + length done) k a (omega arith)) ∙ ap (λ (i : ℕ). at_place i (words_of h)) place
    in
    ap (λ (name : List ℕ). next_by w h n name (chain_of t name)) (name_behind names) ∙ ap (next_by w h n keep_name) chain ∙ ap (hit_by c keep_name (words_of h) n) acts
    ∙ ap (λ (did : Task). hit_at n (length done) did (words_of h - words_of h)) (term_at done rest k) ∙ ap (hit_at n (length done) (keep_task k)) (no_words h)

place_more : (i m : ℕ) → once (nat_lt i m) + once (eqb m i) ≡ once (nat_lt i (m + 1))
place_more i m = grind (arith, nat_tests)

acted_more : (h : List Hit) (n : ℕ) (done : List Bool) (k : Bool) → ActedBelow h (length done) → ActedBelow (h ++ kept_hit n (length done) k ∷ []) (length (done ++ k ∷ []))
acted_more h n done k a i =
    let m : ℕ = length done in
    acted-more h (kept_hit n m k) keep_name i ∙ ap (λ x. x + once (bytes_eq keep_name keep_name && eqb m i)) (a i) ∙ ap (λ b. once (nat_lt i m) + once (b && eqb m i)) (bytes_self keep_name)
    ∙ place_more i m ∙ ap (λ x. once (nat_lt i x)) (sym (length_push done k))

pub come_kept : (names : List (List ℕ)) (seed stream limit : ℕ) (t : Entries) (h : List Hit) (done rest : List Bool) → chain_of t keep_name ≡ map keep_term (done ++ rest)
    → ((i : ℕ) → acted h keep_name i ≡ once (nat_lt i (length done))) → ComeNext (longer_given names seed stream limit t) (length names) h (kept_hits (length names) (length done) rest)
come_kept names seed stream limit t h done [] chain a = tt
come_kept names seed stream limit t h done (k ∷ rest) chain a =
    let n : ℕ = length names in
    let x : Hit = kept_hit n (length done) k in
    let longer : length (done ++ k ∷ []) ≡ suc (length done) = length_push done k ∙ (let one : length done + 1 ≡ suc (length done) = omega arith in one) in (
      next_kept names seed stream limit t h done rest k chain a,
      subst (λ (i : ℕ). ComeNext (longer_given names seed stream limit t) n (h ++ x ∷ []) (kept_hits n i rest)) longer
          (come_kept names seed stream limit t (h ++ x ∷ []) (done ++ k ∷ []) rest (chain ∙ ap (map keep_term) (sym (append_assoc done (k ∷ []) rest))) (acted_more h n done k a)),
    )

pub kept_on : (n place : ℕ) (keep : List Bool) → GoOn (kept_hits n place keep)
kept_on n place [] = tt
kept_on n place (true ∷ keep) = (refl, kept_on n (suc place) keep)
kept_on n place (false ∷ keep) = (refl, kept_on n (suc place) keep)

pub kept_said : (n place : ℕ) (keep : List Bool) → said (kept_hits n place keep) ≡ map answer_to keep
kept_said n place [] = refl
kept_said n place (true ∷ keep) = ap (λ (l : List Reply). answer_to true ∷ l) (kept_said n (suc place) keep)
kept_said n place (false ∷ keep) = ap (λ (l : List Reply). answer_to false ∷ l) (kept_said n (suc place) keep)
