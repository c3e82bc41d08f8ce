-- Scenarios whose chains do the same mean the same.
use Rattle.std.proofs.Common.{◌≡◌, ℕ, ◌+◌, ◌-◌, Bool, true, false, cond, eqb, ◌&&◌, List, [], ◌∷◌, ◌++◌, Option, Some, None, refl, ap, sym, ◌∙◌, arith, subst, add-zero, map, sum_by}
use Rattle.std.specs.Option.{option_map_or, option_or}
use Rattle.std.specs.List.{fold, flat_map}
use Rattle.std.specs.Prelude.{slice_get}
use Rattle.std.specs.Str.{bytes_eq}
use Rattle.std.proofs.lemmas.List.{map-append}
use Rattle.std.proofs.lemmas.List.Sums.{sum_by-append}
use Rattle.std.proofs.lemmas.Slice.Eq.{bytes_eq-Decides}
use Rattle.scenario_values.specs.declared.term.Term.{Term}
use Rattle.scenario_values.specs.declared.term.Task.{Task}
use Rattle.scenario_values.specs.declared.term.Task.TheVariants as task
use Rattle.scenario_values.specs.Scenario.{Entries, chain_of}
use Rattle.action_eval.specs.declared.answer.Stop.{Stop}
use Rattle.action_eval.specs.declared.answer.Stop.TheVariants as stop
use Rattle.action_eval.specs.declared.answer.Note.{Note}
use Rattle.action_eval.specs.Words.{word}
use Rattle.action_eval.specs.Answers.{Given, Run, Hit, Reply, Halt, given_of, acted, is_term, words_of, task_at, place_in, name_of, next, trial, and_then, history_of, asked, is_over, reply_of, stopped_by, stop_of, notes_of, notes_of_task, total_millis, millis_of}
use Rattle.action_eval.specs.SameMeaning.{Meaning, meaning, meaning_of}
use Rattle.action_eval.proofs.Machine.{Step, step, Same}
use Rattle.action_eval.proofs.Chains.{same_did, same_next, same_left, same_then, same_by}
use Rattle.action_eval.proofs.Kept.{left_chain, once_at, task_from, same_left_chain, whole_chain, Agrees, agrees}

-- What a hit's meaning rests on: its point, what was done there, and how many words were drawn.
pub record Tells : Type 0 where
  pub point : ℕ
  pub did : Task
  pub words : ℕ

abbrev pub tells : Hit → Tells
tells h = record { point = h.point; did = h.did; words = h.words }

-- ---- what a run means, by these facts of its hits

fold_tells : (f : Tells → ℕ) (a : ℕ) (h : List Hit) → fold (λ a x. a + f x) a (map tells h) ≡ fold (λ a x. a + f (tells x)) a h
fold_tells f a [] = refl
fold_tells f a (x ∷ h) = fold_tells f (a + f (tells x)) h

abbrev told_words : List Tells → ℕ
told_words ts = sum_by (λ t. t.words) ts

words_told : (h : List Hit) → told_words (map tells h) ≡ words_of h
words_told h = fold_tells (λ t. t.words) 0 h

abbrev told_stop : List Tells → Option Stop
told_stop [] = None
told_stop (t ∷ ts) = option_or (told_stop ts) (stop_of t.did)

stop_told : (h : List Hit) → told_stop (map tells h) ≡ stopped_by h
stop_told [] = refl
stop_told (x ∷ h) = ap (λ o. option_or o (stop_of x.did)) (stop_told h)

abbrev told_replies : List Tells → List Reply
told_replies ts = map (λ t. reply_of t.did) ts

replies_told : (h : List Hit) → told_replies (map tells h) ≡ map (λ h. reply_of h.did) h
replies_told [] = refl
replies_told (x ∷ h) = ap (λ l. reply_of x.did ∷ l) (replies_told h)

abbrev told_notes : List Tells → List Note
told_notes ts = flat_map (λ t. notes_of_task t.point t.did) ts

notes_told : (h : List Hit) → told_notes (map tells h) ≡ notes_of h
notes_told [] = refl
notes_told (x ∷ h) = ap (λ l. notes_of_task x.point x.did ++ l) (notes_told h)

abbrev told_millis : List Tells → ℕ
told_millis ts = sum_by (λ t. millis_of t.did) ts

millis_told : (h : List Hit) → told_millis (map tells h) ≡ total_millis h
millis_told h = fold_tells (λ t. millis_of t.did) 0 h

abbrev made : List ℕ → Bool → List Reply → Option Stop → List Note → ℕ → ℕ → Meaning
made points over a s n m w = record { asked = points; replies = a ++ cond over (Halt ∷ []) []; stop = cond over (Some stop.Limit) s; notes = n; millis = m; words = w }

abbrev meant : List ℕ → Bool → List Tells → Meaning
meant points over ts = made points over (told_replies ts) (told_stop ts) (told_notes ts) (told_millis ts) (told_words ts)

meaning_told : (r : Run) → meant (asked r) (is_over r) (map tells (history_of r)) ≡ meaning r
meaning_told r =
    let h = history_of r in
    let o = is_over r in
    let ts = map tells h in
    let p = asked r in
    ap (λ x. made p o x (told_stop ts) (told_notes ts) (told_millis ts) (told_words ts)) (replies_told h)
    ∙ ap (λ x. made p o (map (λ (h : Hit). reply_of h.did) h) x (told_notes ts) (told_millis ts) (told_words ts)) (stop_told h)
    ∙ ap (λ x. made p o (map (λ (h : Hit). reply_of h.did) h) (stopped_by h) x (told_millis ts) (told_words ts)) (notes_told h)
    ∙ ap (λ x. made p o (map (λ (h : Hit). reply_of h.did) h) (stopped_by h) (notes_of h) x (told_words ts)) (millis_told h)
    ∙ ap (λ x. made p o (map (λ (h : Hit). reply_of h.did) h) (stopped_by h) (notes_of h) (total_millis h) x) (words_told h)

-- Two runs mean the same if these facts of their hits are the same.
pub same_meaning : (q r : Run) → asked q ≡ asked r → is_over q ≡ is_over r → map tells (history_of q) ≡ map tells (history_of r) → meaning q ≡ meaning r
same_meaning q r p o e =
    sym (meaning_told q) ∙ ap (λ l. meant l (is_over q) (map tells (history_of q))) p ∙ ap (λ b. meant (asked r) b (map tells (history_of q))) o ∙ ap (meant (asked r) (is_over r)) e ∙ meaning_told r

-- ---- one hit

-- the chain of a name, with what is left of its counts
abbrev pub chain_left : Entries → List Hit → List ℕ → List Term
chain_left s h name = left_chain (acted h name) 0 (chain_of s name)

task_whole : (ts : List Term) (o : Option ℕ) → task_at ts o ≡ task_from 0 ts o
task_whole ts None = refl
task_whole ts (Some p) = let e : p ≡ p - 0 = omega arith in ap (λ n. option_map_or (λ (t : Term). t.task) (slice_get ts n) task.Off) e

abbrev stepped : Given → List Hit → List ℕ → Step
stepped g h name = step (word g.seed g.stream) (chain_left g.scenario h name) (words_of h)

trial_agrees : (g : Given) (h : List Hit) (name : List ℕ) → Agrees (acted h name) 0 (chain_of g.scenario name) (trial g h name) (stepped g h name)
trial_agrees g h name = agrees (word g.seed g.stream) (acted h name) 0 (chain_of g.scenario name) (words_of h)

abbrev pub telling : ℕ → Task → ℕ → Tells
telling p d w = record { point = p; did = d; words = w }

pub next_tells : (g : Given) (h : List Hit) (p : ℕ) → tells (next g h p) ≡ telling p (stepped g h (name_of g p)).did ((stepped g h (name_of g p)).next - words_of h)
next_tells g h p =
    let name = name_of g p in
    let a = trial_agrees g h name in
    ap (λ d. telling p d ((trial g h name).next - words_of h)) (task_whole (chain_of g.scenario name) (trial g h name).place ∙ a.did)
    ∙ ap (λ n. telling p (stepped g h name).did (n - words_of h)) a.next

abbrev pub once : Bool → ℕ
once b = cond b 1 0

pub bytes_self : (name : List ℕ) → bytes_eq name name ≡ true
bytes_self name = (bytes_eq-Decides name name).1 refl

term_once : (name : List ℕ) (o : Option ℕ) (i : ℕ) → once (is_term name i (place_in name o)) ≡ once_at o i
term_once name None i = refl
term_once name (Some p) i = ap (λ b. once (b && eqb p i)) (bytes_self name)

term_never : (name other : List ℕ) (o : Option ℕ) (i : ℕ) → bytes_eq name other ≡ false → once (is_term other i (place_in name o)) ≡ 0
term_never name other None i e = refl
term_never name other (Some p) i e = ap (λ b. once (b && eqb p i)) e

pub acted-more : (h : List Hit) (x : Hit) (name : List ℕ) (i : ℕ) → acted (h ++ x ∷ []) name i ≡ acted h name i + once (is_term name i x.term)
acted-more h x name i = omega (arith, sum_by-append (λ (h : Hit). cond (is_term name i h.term) 1 0) h (x ∷ []))

left_here : (g : Given) (h : List Hit) (p : ℕ) → chain_left g.scenario (h ++ next g h p ∷ []) (name_of g p) ≡ (stepped g h (name_of g p)).left
left_here g h p =
    let name = name_of g p in
    (trial_agrees g h name).left (acted (h ++ next g h p ∷ []) name) (λ k le. acted-more h (next g h p) name k ∙ ap (λ n. acted h name k + n) (term_once name (trial g h name).place k))

left_there : (g : Given) (h : List Hit) (p : ℕ) (other : List ℕ) → bytes_eq (name_of g p) other ≡ false → chain_left g.scenario (h ++ next g h p ∷ []) other ≡ chain_left g.scenario h other
left_there g h p other e =
    same_left_chain (acted h other) (acted (h ++ next g h p ∷ []) other) 0 (chain_of g.scenario other)
    (λ k le. acted-more h (next g h p) other k ∙ ap (λ n. acted h other k + n) (term_never (name_of g p) other (trial g h (name_of g p)).place k e) ∙ add-zero (acted h other k))

-- ---- all hits

-- another scenario in what a run is given
abbrev pub with_scenario : Given → Entries → Given
with_scenario g s = record g { scenario = s }

pub record Alike (g : Given) (s : Entries) (h k : List Hit) : Type 0 where
  pub told : map tells h ≡ map tells k
  pub chains : (name : List ℕ) → Same (word g.seed g.stream) (chain_left g.scenario h name) (chain_left s k name)

alike_words : (g : Given) (s : Entries) (h k : List Hit) → Alike g s h k → words_of h ≡ words_of k
alike_words g s h k a = sym (words_told h) ∙ ap told_words a.told ∙ words_told k

pub told_more : (h k : List Hit) (x y : Hit) → map tells h ≡ map tells k → tells x ≡ tells y → map tells (h ++ x ∷ []) ≡ map tells (k ++ y ∷ [])
told_more h k x y e f = map-append tells h (x ∷ []) ∙ ap (λ l. l ++ tells x ∷ []) e ∙ ap (λ t. map tells k ++ t ∷ []) f ∙ sym (map-append tells k (y ∷ []))

chains_more : (g : Given) (s : Entries) (h k : List Hit) (p : ℕ) → Alike g s h k → (other : List ℕ) (b : Bool) → bytes_eq (name_of g p) other ≡ b
    → Same (word g.seed g.stream) (chain_left g.scenario (h ++ next g h p ∷ []) other) (chain_left s (k ++ next (with_scenario g s) k p ∷ []) other)
chains_more g s h k p a other false e =
    let w = word g.seed g.stream in
    same_then w _ _ _ (same_by w _ _ (left_there g h p other e)) (same_then w _ _ _ (a.chains other) (same_by w _ _ (sym (left_there (with_scenario g s) k p other e))))
chains_more g s h k p a other true e =
    let w = word g.seed g.stream in
    let name = name_of g p in
    let here : Same w (chain_left g.scenario (h ++ next g h p ∷ []) name) (chain_left s (k ++ next (with_scenario g s) k p ∷ []) name) =
    same_then w _ _ _ (same_by w _ _ (left_here g h p))
    (same_then w _ _ _ (same_left w _ _ (a.chains name) (words_of h))
    (same_then w _ _ _ (same_by w _ _ (ap (λ n. (step w (chain_left s k name) n).left) (alike_words g s h k a))) (same_by w _ _ (sym (left_here (with_scenario g s) k p)))))
    in
    let P : List ℕ → Type 0 = λ n. Same w (chain_left g.scenario (h ++ next g h p ∷ []) n) (chain_left s (k ++ next (with_scenario g s) k p ∷ []) n) in
    subst P ((bytes_eq-Decides name other).0 e) here

next_alike : (g : Given) (s : Entries) (h k : List Hit) (p : ℕ) → Alike g s h k → tells (next g h p) ≡ tells (next (with_scenario g s) k p)
next_alike g s h k p a =
    let w = word g.seed g.stream in
    let name = name_of g p in
    let same = alike_words g s h k a in
    let d : (stepped g h name).did ≡ (stepped (with_scenario g s) k name).did = same_did w _ _ (a.chains name) (words_of h) ∙ ap (λ n. (step w (chain_left s k name) n).did) same in
    let m : (stepped g h name).next ≡ (stepped (with_scenario g s) k name).next = same_next w _ _ (a.chains name) (words_of h) ∙ ap (λ n. (step w (chain_left s k name) n).next) same in
    next_tells g h p
    ∙ ap (λ x. telling p x ((stepped g h name).next - words_of h)) d
    ∙ ap (λ x. telling p (stepped (with_scenario g s) k name).did (x - words_of h)) m
    ∙ ap (λ x. telling p (stepped (with_scenario g s) k name).did ((stepped (with_scenario g s) k name).next - x)) same
    ∙ sym (next_tells (with_scenario g s) k p)

pub alike_after : (g : Given) (s : Entries) (h k : List Hit) (ps : List ℕ) → Alike g s h k → map tells (and_then g h ps) ≡ map tells (and_then (with_scenario g s) k ps)
alike_after g s h k [] a = a.told
alike_after g s h k (p ∷ ps) a =
    alike_after g s (h ++ next g h p ∷ []) (k ++ next (with_scenario g s) k p ∷ []) ps
    (record {
      told = told_more h k (next g h p) (next (with_scenario g s) k p) a.told (next_alike g s h k p a);
      chains = λ other. chains_more g s h k p a other (bytes_eq (name_of g p) other) refl;
    })

-- If the chains of each name do the same, the scenarios mean the same.
pub mean_same : (s t : Entries) (catalogue : List (List ℕ)) (seed stream limit : ℕ) (hits : List ℕ) → ((name : List ℕ) → Same (word seed stream) (chain_of s name) (chain_of t name))
    → meaning_of s catalogue seed stream limit hits ≡ meaning_of t catalogue seed stream limit hits
mean_same s t catalogue seed stream limit hits same =
    let g : Given = given_of s catalogue seed stream limit in
    let w = word seed stream in
    let start : Alike g t [] [] = record {
      told = refl;
      chains = λ name. same_then w _ _ _ (same_by w _ _ (whole_chain 0 (chain_of s name))) (same_then w _ _ _ (same name) (same_by w _ _ (sym (whole_chain 0 (chain_of t name)))));
    } in
    let q : Run = record { given = g; hits = hits } in
    let r : Run = record { given = with_scenario g t; hits = hits } in
    same_meaning q r refl refl (alike_after g t [] [] (asked q) start)
