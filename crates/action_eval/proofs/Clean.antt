-- If no fault acts and every share is full, a run is the run of the empty scenario.
use Rattle.std.proofs.Common.{◌≡◌, ℕ, ◌+◌, ◌%◌, Bool, true, false, cond, eqb, List, [], ◌∷◌, ◌++◌, Some, refl, ap, sym, ◌∙◌, arith, nat_lt, map}
use Rattle.std.specs.List.{AllByRecursion}
use Rattle.std.specs.Str.{bytes_eq}
use Rattle.std.proofs.lemmas.Bool.Decides.{nat_tests}
use Rattle.scenario_values.specs.declared.term.Term.{Term}
use Rattle.scenario_values.specs.declared.term.Task.TheVariants as task
use Rattle.scenario_values.specs.Scenario.{Entries, chain_of, is_off}
use Rattle.action_eval.specs.Words.{word}
use Rattle.action_eval.specs.Trial.{Trial, tried}
use Rattle.action_eval.specs.Answers.{Given, Run, Hit, next, and_then, words_of, acted, is_used_up, name_of, given_of, asked, history_of}
use Rattle.action_eval.specs.SameMeaning.{meaning_of}
use Rattle.action_eval.specs.FullShares.{IsFull, HasFullShares, NoFaultActed}
use Rattle.action_eval.proofs.Tidied.{off_is}
use Rattle.action_eval.proofs.Alike.{tells, telling, with_scenario, told_more, same_meaning}

full_case : (b c : Bool) (rest here draw : Trial) (n : ℕ) → rest.next ≡ n → here.next ≡ n → c ≡ true → (cond b rest (cond c here draw)).next ≡ n
full_case true c rest here draw n r h e = r
full_case false c rest here draw n r h e = ap (λ (t : Bool). (cond t here draw).next) e ∙ h

pub no_word : (word : ℕ → ℕ) (spent : ℕ → Term → Bool) (i : ℕ) (ts : List Term) (n : ℕ) → IsFull ts → (tried word spent i ts n).next ≡ n
no_word word spent i [] n f = refl
no_word word spent i (t ∷ ts) n f =
    let full : eqb t.share 1000000 ≡ true = grind (arith, nat_tests, f.0) in
    full_case (spent i t) (eqb t.share 1000000) (tried word spent (i + 1) ts n) (record { place = Some i; next = n })
    (cond (nat_lt (word n % 1000000) t.share) (record { place = Some i; next = n + 1 }) (tried word spent (i + 1) ts (n + 1))) n (no_word word spent (i + 1) ts n f.1) refl full

full_by : (c d : List Term) (b : Bool) → IsFull c → IsFull d → IsFull (cond b c d)
full_by c d true f g = f
full_by c d false f g = g

full_chain : (s : Entries) (name : List ℕ) → HasFullShares s → IsFull (chain_of s name)
full_chain [] name f = tt
full_chain (e ∷ es) name f = full_by e.1 (chain_of es name) (bytes_eq name e.0) f.0 (full_chain es name f.1)

no_words : (g : Given) (h : List Hit) (p : ℕ) → HasFullShares g.scenario → (next g h p).words ≡ 0
no_words g h p f = omega (arith, no_word (word g.seed g.stream) (is_used_up (acted h (name_of g p))) 0 (chain_of g.scenario (name_of g p)) (words_of h) (full_chain g.scenario (name_of g p) f))

clean_words : (g : Given) (h : List Hit) (p : ℕ) → (next (with_scenario g []) h p).words ≡ 0
clean_words g h p = omega arith

-- what held of all hits held of the earlier ones, and of each
earlier : (P : Hit → Type 0) (h : List Hit) (x : Hit) → AllByRecursion P (h ++ x ∷ []) → AllByRecursion P h
earlier P [] x a = tt
earlier P (y ∷ h) x a = (a.0, earlier P h x a.1)

latest : (P : Hit → Type 0) (h : List Hit) (x : Hit) → AllByRecursion P (h ++ x ∷ []) → P x
latest P [] x a = a.0
latest P (y ∷ h) x a = latest P h x a.1

before : (P : Hit → Type 0) (g : Given) (h : List Hit) (ps : List ℕ) → AllByRecursion P (and_then g h ps) → AllByRecursion P h
before P g h [] a = a
before P g h (p ∷ ps) a = earlier P h (next g h p) (before P g (h ++ next g h p ∷ []) ps a)

pub clean_after : (g : Given) (h k : List Hit) (ps : List ℕ) → HasFullShares g.scenario → NoFaultActed (and_then g h ps) → map tells h ≡ map tells k
    → map tells (and_then g h ps) ≡ map tells (and_then (with_scenario g []) k ps)
clean_after g h k [] f n e = e
clean_after g h k (p ∷ ps) f n e =
    let x = next g h p in
    let y = next (with_scenario g []) k p in
    let P : Hit → Type 0 = λ h. is_off h.did ≡ true in
    let did : x.did ≡ task.Off = off_is x.did (latest P h x (before P g (h ++ x ∷ []) ps n)) in
    let same : tells x ≡ tells y = ap (λ d. telling p d x.words) did ∙ ap (λ n. telling p task.Off n) (no_words g h p f ∙ sym (clean_words g k p)) in
    clean_after g (h ++ x ∷ []) (k ++ y ∷ []) ps f n (told_more h k x y e same)

pub clean_meaning : (s : Entries) (catalogue : List (List ℕ)) (seed stream limit : ℕ) (hits : List ℕ) → HasFullShares s
    → (let r : Run = record { given = given_of s catalogue seed stream limit; hits = hits } in NoFaultActed (history_of r))
    → meaning_of s catalogue seed stream limit hits ≡ meaning_of [] catalogue seed stream limit hits
clean_meaning s catalogue seed stream limit hits f n =
    let g : Given = given_of s catalogue seed stream limit in
    let q : Run = record { given = g; hits = hits } in
    let r : Run = record { given = with_scenario g []; hits = hits } in
    same_meaning q r refl refl (clean_after g [] [] (asked q) f n refl)
