-- Over a catalogue with one name more, and under a scenario with the same chains of the target's points, these are answered as before.
use Rattle.std.proofs.Common.{◌≡◌, ℕ, zero, suc, ◌-◌, ◌<◌, nat_lt, Bool, false, cond, List, [], ◌∷◌, ◌++◌, length, take, map, get_or, Some, refl, ap, ◌∙◌, arith}
use Rattle.std.specs.Prelude.{codes}
use Rattle.std.specs.List.{AllByRecursion}
use Rattle.std.specs.Str.{bytes_eq}
use Rattle.std.proofs.Math.ListN.{get_or-append}
use Rattle.std.proofs.Math.Seq.{get_or-append_seam}
use Rattle.scenario_values.specs.declared.term.Term.{Term}
use Rattle.scenario_values.specs.Scenario.{Entries, chain_of}
use Rattle.action_eval.specs.declared.answer.Stop.TheVariants as stop
use Rattle.action_eval.specs.Catalogue.{HasDistinct}
use Rattle.action_eval.specs.Words.{word}
use Rattle.action_eval.specs.Trial.{tried}
use Rattle.action_eval.specs.Answers.{Given, Run, Hit, Reply, Halt, given_of, hit_by, is_used_up, acted, words_of, next, and_then, history_of, reply_of, replies, stopped_by, cuts_short, is_cut_short}
use Rattle.target_trait.specs.Cuts.{with_keep}

-- the name of the cut's point
abbrev pub keep_name : List ℕ
keep_name = codes "power::keep"

abbrev pub name_at : List (List ℕ) → ℕ → List ℕ
name_at names p = get_or names p []

pub name_before : (names : List (List ℕ)) (p : ℕ) → p < length names → name_at (with_keep names) p ≡ name_at names p
name_before names p h = get_or-append names (keep_name ∷ []) [] p h

pub name_behind : (names : List (List ℕ)) → name_at (with_keep names) (length names) ≡ keep_name
name_behind names = get_or-append_seam names keep_name [] []

-- what holds of all holds of the last
last : (P : List ℕ → Type 0) (xs : List (List ℕ)) (x : List ℕ) → AllByRecursion P (xs ++ x ∷ []) → P x
last P [] x a = a.0
last P (y ∷ xs) x a = last P xs x a.1

-- no point of the target has the cut's name
pub apart : (names : List (List ℕ)) → HasDistinct (with_keep names) → (p : ℕ) → p < length names → bytes_eq keep_name (name_at names p) ≡ false
apart [] d p h = absurd (omega arith)
apart (name ∷ names) d zero h = last (λ other. bytes_eq other name ≡ false) names keep_name d.0
apart (name ∷ names) d (suc p) h = apart names d.1 p (omega arith)

-- ---- hits of points of the target

abbrev pub AreBelow : ℕ → List ℕ → Type 0
AreBelow n ps = AllByRecursion (λ p. p < n) ps

pub below_more : (n : ℕ) (ps : List ℕ) (p : ℕ) → AreBelow n ps → p < n → AreBelow n (ps ++ p ∷ [])
below_more n [] p a h = (h, tt)
below_more n (q ∷ ps) p a h = (a.0, below_more n ps p a.1 h)

pub below_taken : (n k : ℕ) (ps : List ℕ) → AreBelow n ps → AreBelow n (take k ps)
below_taken n zero ps a = tt
below_taken n (suc k) [] a = tt
below_taken n (suc k) (p ∷ ps) a = (a.0, below_taken n k ps a.1)

-- these points have the same chains in both scenarios
abbrev pub HaveChains : List (List ℕ) → Entries → Entries → Type 0
HaveChains names s t = (p : ℕ) → p < length names → chain_of t (name_at names p) ≡ chain_of s (name_at names p)

-- a hit that takes no word
pub no_words : (h : List Hit) → words_of h - words_of h ≡ 0
no_words h = omega arith

-- the next hit, by the name of its point and that one's chain
abbrev pub next_by : (ℕ → ℕ) → List Hit → ℕ → List ℕ → List Term → Hit
next_by w h p name chain = hit_by chain name (words_of h) p (tried w (is_used_up (acted h name)) 0 chain (words_of h))

-- what a run of the target is given, and what one over the longer catalogue
abbrev pub own_given : List (List ℕ) → ℕ → ℕ → ℕ → Entries → Given
own_given names seed stream limit s = given_of s names seed stream limit

abbrev pub longer_given : List (List ℕ) → ℕ → ℕ → ℕ → Entries → Given
longer_given names seed stream limit t = given_of t (with_keep names) seed stream limit

abbrev pub at : Given → List ℕ → Run
at g hits = record { given = g; hits = hits }

-- whether a run was cut short, and its answers, by its history
abbrev short_by : Bool → List Hit → Bool
short_by over h = cuts_short (cond over (Some stop.Limit) (stopped_by h))

abbrev replies_by : Bool → List Hit → List Reply
replies_by over h = map (λ x. reply_of x.did) h ++ cond over (Halt ∷ []) []

module _ (names : List (List ℕ)) (seed stream limit : ℕ) (s t : Entries) (chains : HaveChains names s t) where
  next_same : (h : List Hit) (p : ℕ) → p < length names → next (longer_given names seed stream limit t) h p ≡ next (own_given names seed stream limit s) h p
  next_same h p below =
      let w = word seed stream in
      ap (λ (name : List ℕ). next_by w h p name (chain_of t name)) (name_before names p below) ∙ ap (next_by w h p (name_at names p)) (chains p below)

  after_same : (h : List Hit) (ps : List ℕ) → AreBelow (length names) ps → and_then (longer_given names seed stream limit t) h ps ≡ and_then (own_given names seed stream limit s) h ps
  after_same h [] b = refl
  after_same h (p ∷ ps) b =
      ap (λ (x : Hit). and_then (longer_given names seed stream limit t) (h ++ x ∷ []) ps) (next_same h p b.0)
      ∙ after_same (h ++ next (own_given names seed stream limit s) h p ∷ []) ps b.1

  pub history_same : (hits : List ℕ) → AreBelow (length names) hits → history_of (at (longer_given names seed stream limit t) hits) ≡ history_of (at (own_given names seed stream limit s) hits)
  history_same hits b = after_same [] (take limit hits) (below_taken (length names) limit hits b)

  pub short_same : (hits : List ℕ) → AreBelow (length names) hits → is_cut_short (at (longer_given names seed stream limit t) hits) ≡ is_cut_short (at (own_given names seed stream limit s) hits)
  short_same hits b = ap (short_by (nat_lt limit (length hits))) (history_same hits b)

  pub replies_same : (hits : List ℕ) → AreBelow (length names) hits → replies (at (longer_given names seed stream limit t) hits) ≡ replies (at (own_given names seed stream limit s) hits)
  replies_same hits b = ap (replies_by (nat_lt limit (length hits))) (history_same hits b)
