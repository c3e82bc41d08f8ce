-- How hits are answered under the scenario of rigged hits.
use Rattle.std.proofs.Common.{◌≡◌, ℕ, zero, suc, ◌+◌, ◌<◌, ◌==◌, ◌&&◌, nat_lt, eqb, Bool, true, false, cond, Option, Some, None, List, [], ◌∷◌, ◌++◌, map, take, length, slice_index_or, refl, ap, sym, ◌∙◌, arith, add-zero}
use Rattle.std.specs.Prelude.{find}
use Rattle.std.specs.Option.{option_map_or}
use Rattle.std.specs.List.{AllByRecursion}
use Rattle.std.specs.Str.{bytes_eq}
use Rattle.std.proofs.lemmas.List.{take_all}
use Rattle.std.proofs.lemmas.List.Sums.{sum_by-cons}
use Rattle.std.proofs.lemmas.Bool.Decides.{nat_tests}
use Rattle.scenario_values.specs.declared.term.Term.{Term}
use Rattle.scenario_values.specs.declared.term.Task.{Task}
use Rattle.scenario_values.specs.declared.term.Task.TheVariants as task
use Rattle.scenario_values.specs.Scenario.{Entries, chain_of, is_name}
use Rattle.action_eval.specs.Words.{word}
use Rattle.action_eval.specs.Answers.{Given, Run, Hit, Go, Halt, given_of, run_of, and_then, next, acted, is_term, name_of, words_of, trial, place_in, reply_of, history_of}
use Rattle.action_eval.proofs.Machine.{Step, step, done}
use Rattle.action_eval.proofs.Kept.{left_chain, once_at, same_left_chain, whole_chain, Agrees, agrees}
use Rattle.action_eval.proofs.Alike.{Tells, next_tells, once, bytes_self, acted-more}
use Rattle.action_eval.specs.Catalogue.{IsCatalogue, HasDistinct}
use Rattle.action_eval.specs.declared.rig.Rig.{Rig}
use Rattle.action_eval.specs.declared.rig.Kind.{Kind}
use Rattle.action_eval.specs.declared.rig.Kind.TheVariants.{OnceReturn, OnwardReturn, OncePanic}
use Rattle.plan_gen.specs.LoopRuns.{times}
use Rattle.action_eval.specs.RiggedScenario.{term_of, chain_from, entry, entries_from, rigged_scenario}
use Rattle.plan_gen.specs.RiggedAnswers.{AreInOrder, acts_at, reply_by, AnswersAsRigged}
use Rattle.plan_gen.proofs.CleanRuns.{differ, other, apart}
use Rattle.plan_gen.proofs.RiggedChains.{rigged_task, tasks, Does, ComeAfter, chain_does}

-- ---- the chain of a point, in the scenario

entry_other : (name n : List ℕ) (c : List Term) (es : Entries) → bytes_eq name n ≡ false → chain_of (entry n c ++ es) name ≡ chain_of es name
entry_other name n [] es e = refl
entry_other name n (t ∷ ts) es e = ap (λ b. cond b (t ∷ ts) (chain_of es name)) e

none_found : (i : ℕ) (names : List (List ℕ)) (rigs : List Rig) (name : List ℕ) → AllByRecursion (λ o. bytes_eq o name ≡ false) names → chain_of (entries_from i names rigs) name ≡ []
none_found i [] rigs name a = refl
none_found i (n ∷ ns) rigs name a =
    entry_other name n (chain_from i 0 rigs) (entries_from (i + 1) ns rigs) (differ n name (bytes_eq name n) refl a.0) ∙ none_found (i + 1) ns rigs name a.1

entry_own : (name : List ℕ) (c : List Term) (es : Entries) → chain_of es name ≡ [] → chain_of (entry name c ++ es) name ≡ c
entry_own name [] es e = e
entry_own name (t ∷ ts) es e = ap (λ b. cond b (t ∷ ts) (chain_of es name)) (bytes_self name)

chain_at : (i j : ℕ) (names : List (List ℕ)) (rigs : List Rig) → HasDistinct names → AllByRecursion (λ n. is_name n ≡ true) names → j < length names
    → chain_of (entries_from i names rigs) (slice_index_or names j []) ≡ chain_from (i + j) 0 rigs
chain_at i j [] rigs d l h = absurd (omega (arith, h))
chain_at i zero (n ∷ ns) rigs d l h =
    entry_own n (chain_from i 0 rigs) (entries_from (i + 1) ns rigs) (none_found (i + 1) ns rigs n d.0) ∙ ap (λ k. chain_from k 0 rigs) (sym (add-zero i))
chain_at i (suc j) (n ∷ ns) rigs d l h =
    let name = slice_index_or ns j [] in
    entry_other name n (chain_from i 0 rigs) (entries_from (i + 1) ns rigs) (other n ns j d.0 l.0)
    ∙ chain_at (i + 1) j ns rigs d.1 l.1 (omega (arith, h)) ∙ ap (λ k. chain_from k 0 rigs) (let e : i + 1 + j ≡ i + suc j = omega arith in e)

chain_is : (names : List (List ℕ)) (rigs : List Rig) (p : ℕ) → IsCatalogue names → p < length names → chain_of (rigged_scenario names rigs) (slice_index_or names p []) ≡ chain_from p 0 rigs
unfolding rigged_scenario
chain_is names rigs p c h = chain_at 0 p names rigs c.distinct c.lawful h ∙ ap (λ k. chain_from k 0 rigs) (let e : 0 + p ≡ p = omega arith in e)

-- ---- one hit

-- the chain of a name, with what is left of its counts, and what the next hit does to it
abbrev left : Given → List Hit → List ℕ → List Term
left g h name = left_chain (acted h name) 0 (chain_of g.scenario name)

abbrev stepped : Given → List Hit → List ℕ → Step
stepped g h name = step (word g.seed g.stream) (left g h name) (words_of h)

tried_so : (g : Given) (h : List Hit) (name : List ℕ) → Agrees (acted h name) 0 (chain_of g.scenario name) (trial g h name) (stepped g h name)
tried_so g h name = agrees (word g.seed g.stream) (acted h name) 0 (chain_of g.scenario name) (words_of h)

term_once : (name : List ℕ) (o : Option ℕ) (i : ℕ) → once (is_term name i (place_in name o)) ≡ once_at o i
term_once name None i = refl
term_once name (Some p) i = ap (λ b. once (b && eqb p i)) (bytes_self name)

term_never : (name other : List ℕ) (o : Option ℕ) (i : ℕ) → bytes_eq name other ≡ false → once (is_term other i (place_in name o)) ≡ 0
term_never name other None i e = refl
term_never name other (Some p) i e = ap (λ b. once (b && eqb p i)) e

left_here : (g : Given) (h : List Hit) (p : ℕ) → left g (h ++ next g h p ∷ []) (name_of g p) ≡ (stepped g h (name_of g p)).left
left_here g h p =
    let name = name_of g p in
    (tried_so g h name).left (acted (h ++ next g h p ∷ []) name) (λ k le. acted-more h (next g h p) name k ∙ ap (λ n. acted h name k + n) (term_once name (trial g h name).place k))

left_there : (g : Given) (h : List Hit) (p : ℕ) (other : List ℕ) → bytes_eq (name_of g p) other ≡ false → left g (h ++ next g h p ∷ []) other ≡ left g h other
left_there g h p other e =
    same_left_chain (acted h other) (acted (h ++ next g h p ∷ []) other) 0 (chain_of g.scenario other)
    (λ k le. acted-more h (next g h p) other k ∙ ap (λ n. acted h other k + n) (term_never (name_of g p) other (trial g h (name_of g p)).place k e) ∙ add-zero (acted h other k))

tails : {A : Type 0} (x y : A) (xs ys : List A) → x ∷ xs ≡ y ∷ ys → xs ≡ ys
tails x y xs ys e = cc

heads : {A : Type 0} (x y : A) (xs ys : List A) → x ∷ xs ≡ y ∷ ys → x ≡ y
heads x y xs ys e = cc

-- ---- all hits

-- after these hits, n of which were of point p, its chain does what is rigged for its further hits
abbrev GoesOnAsRigged : Given → List Rig → ℕ → List Hit → ℕ → Type 0
GoesOnAsRigged g rigs p h n = Does (word g.seed g.stream) (left g h (name_of g p)) rigs p n

one_more : (g : Given) (c : IsCatalogue g.catalogue) (rigs : List Rig) (p : ℕ) → p < length g.catalogue → (h : List Hit) (q n : ℕ) (b : Bool) → (q == p) ≡ b
    → GoesOnAsRigged g rigs p h n → GoesOnAsRigged g rigs p (h ++ next g h q ∷ []) (n + cond b 1 0)
one_more g c rigs p within h q n true e goes xs =
    let same : q ≡ p = grind (arith, nat_tests, e) in
    let w = word g.seed g.stream in
    let name = name_of g p in
    ap (λ k. done w (left g (h ++ next g h k ∷ []) name) xs) same ∙ ap (λ l. done w l xs) (left_here g h p) ∙ tails _ _ _ _ (goes (words_of h ∷ xs))
one_more g c rigs p within h q n false e goes xs =
    let w = word g.seed g.stream in
    ap (λ l. done w l xs) (left_there g h q (name_of g p) (apart g.catalogue p q c.distinct c.lawful within e)) ∙ goes xs ∙ ap (λ k. tasks rigs p k xs) (sym (add-zero n))

all_more : (g : Given) (c : IsCatalogue g.catalogue) (rigs : List Rig) (p : ℕ) → p < length g.catalogue → (h : List Hit) (ps : List ℕ) (n : ℕ)
    → GoesOnAsRigged g rigs p h n → GoesOnAsRigged g rigs p (and_then g h ps) (n + times p ps)
all_more g c rigs p within h [] n goes xs = goes xs ∙ ap (λ k. tasks rigs p k xs) (sym (add-zero n))
all_more g c rigs p within h (q ∷ ps) n goes xs =
    let split : times p (q ∷ ps) ≡ cond (q == p) 1 0 + times p ps = sum_by-cons (λ q. cond (q == p) 1 0) q ps in
    all_more g c rigs p within (h ++ next g h q ∷ []) ps (n + cond (q == p) 1 0) (one_more g c rigs p within h q n (q == p) refl goes) xs
    ∙ ap (λ k. tasks rigs p k xs) (let e : n + cond (q == p) 1 0 + times p ps ≡ n + times p (q ∷ ps) = omega (arith, split) in e)

-- ---- the answer

reply_case : (o : Option Rig) → reply_of (option_map_or (λ (r : Rig). (term_of r.kind).task) o task.Off) ≡ option_map_or (λ (r : Rig). reply_by r.kind) o Go
reply_case None = refl
reply_case (Some r) = kind_case r.kind
  where
    kind_case : (kind : Kind) → reply_of (term_of kind).task ≡ reply_by kind
    kind_case (OnceReturn text) = refl
    kind_case (OnwardReturn text) = refl
    kind_case OncePanic = refl

all_come_after : (p : ℕ) (rs : List Rig) → AreInOrder (map (λ (r : Rig). r.site) rs) → ComeAfter p 0 rs
all_come_after p [] o = tt
all_come_after p (r ∷ rs) o = ((λ e. o.0), all_come_after p rs o.2)

pub answers_as_rigged : (names : List (List ℕ)) (rigs : List Rig) → IsCatalogue names → AreInOrder (map (λ (r : Rig). r.site) rigs) → AnswersAsRigged names rigs
answers_as_rigged names rigs c o seed stream limit hits p within room =
    let g : Given = given_of (rigged_scenario names rigs) names seed stream limit in
    let r : Run = run_of (rigged_scenario names rigs) names seed stream limit hits in
    let w = word seed stream in
    let name = name_of g p in
    let h = history_of r in
    let whole : left g [] name ≡ chain_from p 0 rigs = whole_chain 0 (chain_of (rigged_scenario names rigs) name) ∙ chain_is names rigs p c within in
    let first : GoesOnAsRigged g rigs p [] 0 = λ xs. ap (λ l. done w l xs) whole ∙ chain_does w p 0 rigs o (all_come_after p rigs o) xs in
    let all : take limit hits ≡ hits = take_all limit hits (omega (arith, room)) in
    let goes : GoesOnAsRigged g rigs p h (0 + times p (take limit hits)) = all_more g c rigs p within [] (take limit hits) 0 first in
    let did : (next g h p).did ≡ rigged_task rigs p (0 + times p (take limit hits) + 1) =
    ap (λ (t : Tells). t.did) (next_tells g h p) ∙ ap (λ (x : Task × ℕ). x.0) (heads _ _ _ _ (goes (words_of h ∷ [])))
    in
    let number : 0 + times p (take limit hits) + 1 ≡ times p hits + 1 = ap (λ l. 0 + times p l + 1) all ∙ (let e : 0 + times p hits + 1 ≡ times p hits + 1 = omega arith in e) in
    let open_still : nat_lt (length hits) limit ≡ true = grind (arith, nat_tests, room) in
    ap (λ b. cond b (reply_of (next g h p).did) Halt) open_still ∙ ap reply_of (did ∙ ap (rigged_task rigs p) number) ∙ reply_case (find (acts_at p (times p hits + 1)) rigs)
