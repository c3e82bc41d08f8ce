-- Lists of rigged hits that are looked at one after another.
use Rattle.std.proofs.Common.{◌≡◌, ℕ, ◌+◌, ◌<◌, ◌≤◌, arith, Bool, true, false, cond, ◌||◌, List, [], ◌∷◌, ◌++◌, length, map, take, get_or, ap, sym, ◌∙◌, subst, append_assoc}
use Rattle.std.specs.Prelude.{Option, None, flat_map, is_none}
use Rattle.std.specs.List.{list_any}
use Rattle.std.proofs.Math.Seq.{take-append_seam}
use Rattle.std.proofs.lemmas.Grind.{flat_map-append}
use Rattle.std.proofs.lemmas.List.{append-nil, get_or-map, get_or_append_left, length-map, map-append, take_all, take_more}
use Rattle.std.proofs.lemmas.List.Elements.{filter-append}
use Rattle.std.proofs.lemmas.List.Folds.{list_any_at, list_any_more}
use Rattle.scenario_values.specs.Scenario.{Entries}
use Rattle.action_eval.specs.declared.rig.Rig.{Rig}
use Rattle.target_trait.specs.declared.judgement.Verdict.{Verdict}
use Rattle.answered_runs.specs.Answered.{Answered}
use Rattle.answered_runs.specs.grown.Causes.{Verdicts, is_failure, one_fails, open_of, rigged_in, unknown, verdicts_in}

-- the scenarios of those that aren't known
abbrev pub waiting_of : Answered → ℕ → List (List Rig) → List Entries
waiting_of a depth lists = map (rigged_in a) (unknown (verdicts_in a depth) lists)

waiting_parts : (a : Answered) (depth : ℕ) (xs ys : List (List Rig)) → waiting_of a depth (xs ++ ys) ≡ waiting_of a depth xs ++ waiting_of a depth ys
waiting_parts a depth xs ys =
    let test : List Rig → Bool = λ rigs. is_none (verdicts_in a depth rigs) in
    ap (map (rigged_in a)) (filter-append test xs ys) ∙ map-append (rigged_in a) (unknown (verdicts_in a depth) xs) (unknown (verdicts_in a depth) ys)

-- ---- the lists with one left out

-- none of these lists is known to fail, and the scenarios of those that aren't known were added
pub record SoFar (a : Answered) (depth code : ℕ) (lists : List (List Rig)) (old new : List Entries) : Type 0 where
  pub none : one_fails (verdicts_in a depth) code lists ≡ false
  pub waiting : new ≡ old ++ waiting_of a depth lists

neither : (a b : Bool) → a ≡ false → b ≡ false → (a || b) ≡ false
neither true b e f = e
neither false b e f = f

pub goes_on : (a : Answered) (depth code i : ℕ) (lists : List (List Rig)) (less : List Rig) (v : Option Verdict) (old mid new : List Entries) → i < length lists → less ≡ get_or lists i [] → v ≡ verdicts_in a depth less → is_failure code v ≡ false
    → SoFar a depth code (take i lists) old mid → new ≡ mid ++ waiting_of a depth (less ∷ []) → SoFar a depth code (take (i + 1) lists) old new
goes_on a depth code i lists less v old mid new lt is said fine so_far added =
    let known : Verdicts = verdicts_in a depth in
    let test : List Rig → Bool = λ rigs. is_failure code (known rigs) in
    let here : test (get_or lists i []) ≡ false = ap test (sym is) ∙ ap (is_failure code) (sym said) ∙ fine in
    let whole : take i lists ++ less ∷ [] ≡ take (i + 1) lists = ap (λ (l : List Rig). take i lists ++ l ∷ []) is ∙ sym (take_more lists i [] lt) in
    record {
      none = list_any_more test lists i [] lt ∙ neither (list_any test (take i lists)) (test (get_or lists i [])) so_far.none here;
      waiting =
          added ∙ ap (λ (l : List Entries). l ++ waiting_of a depth (less ∷ [])) so_far.waiting
          ∙ append_assoc old (waiting_of a depth (take i lists)) (waiting_of a depth (less ∷ []))
          ∙ ap (λ (l : List Entries). old ++ l) (sym (waiting_parts a depth (take i lists) (less ∷ [])))
          ∙ ap (λ (ls : List (List Rig)). old ++ waiting_of a depth ls) whole;
    }

pub all_looked : (a : Answered) (depth code i : ℕ) (lists : List (List Rig)) (old new : List Entries) → length lists ≤ i → SoFar a depth code (take i lists) old new → SoFar a depth code lists old new
all_looked a depth code i lists old new end so_far = subst (λ (ls : List (List Rig)). SoFar a depth code ls old new) (take_all i lists end) so_far

-- what was added to the scenarios, by whether one of the lists is known to fail
abbrev pub added_by : Answered → ℕ → ℕ → List (List Rig) → List Entries
added_by a depth code lists = map (rigged_in a) (cond (one_fails (verdicts_in a depth) code lists) [] (unknown (verdicts_in a depth) lists))

pub none_failed : (a : Answered) (depth code : ℕ) (lists : List (List Rig)) (old new : List Entries) → SoFar a depth code lists old new → new ≡ old ++ added_by a depth code lists
none_failed a depth code lists old new so_far =
    so_far.waiting ∙ ap (λ (b : Bool). old ++ map (rigged_in a) (cond b [] (unknown (verdicts_in a depth) lists))) (sym so_far.none)

pub fails_here : (a : Answered) (depth code i : ℕ) (lists : List (List Rig)) (less : List Rig) (v : Option Verdict) → i < length lists → less ≡ get_or lists i [] → v ≡ verdicts_in a depth less → is_failure code v ≡ true
    → one_fails (verdicts_in a depth) code lists ≡ true
fails_here a depth code i lists less v lt is said bad =
    let test : List Rig → Bool = λ rigs. is_failure code (verdicts_in a depth rigs) in
    list_any_at test lists i [] lt (ap test (sym is) ∙ ap (is_failure code) (sym said) ∙ bad)

pub taken_back : (a : Answered) (depth code n i : ℕ) (lists : List (List Rig)) (less : List Rig) (old mid new cut : List Entries) → one_fails (verdicts_in a depth) code lists ≡ true → n ≡ length old → SoFar a depth code (take i lists) old mid
    → new ≡ mid ++ waiting_of a depth (less ∷ []) → cut ≡ take n new → cut ≡ old ++ added_by a depth code lists
taken_back a depth code n i lists less old mid new cut fails many so_far added is =
    let last : List Entries = waiting_of a depth (less ∷ []) in
    let further : List Entries = waiting_of a depth (take i lists) ++ last in
    let grew : new ≡ old ++ further = added ∙ ap (λ (l : List Entries). l ++ last) so_far.waiting ∙ append_assoc old (waiting_of a depth (take i lists)) last in
    is ∙ ap (λ (k : ℕ). take k new) many ∙ ap (take (length old)) grew ∙ take-append_seam old further ∙ sym (append-nil old)
    ∙ ap (λ (b : Bool). old ++ map (rigged_in a) (cond b [] (unknown (verdicts_in a depth) lists))) (sym fails)

-- ---- a plan, by its own verdict

-- ---- plans

pub open_more : (a : Answered) (depth i : ℕ) (plans : List (List Rig)) (old new here : List Entries) → i < length plans → old ≡ map (rigged_in a) (flat_map (open_of (verdicts_in a depth)) (take i plans))
    → here ≡ map (rigged_in a) (open_of (verdicts_in a depth) (get_or plans i [])) → new ≡ old ++ here → new ≡ map (rigged_in a) (flat_map (open_of (verdicts_in a depth)) (take (i + 1) plans))
open_more a depth i plans old new here lt so_far is added =
    let f : List Rig → List (List Rig) = open_of (verdicts_in a depth) in
    let last : flat_map f (get_or plans i [] ∷ []) ≡ f (get_or plans i []) = append-nil (f (get_or plans i [])) in
    added ∙ ap (λ (l : List Entries). l ++ here) so_far ∙ ap (λ (l : List Entries). map (rigged_in a) (flat_map f (take i plans)) ++ l) is
    ∙ sym (map-append (rigged_in a) (flat_map f (take i plans)) (f (get_or plans i [])))
    ∙ ap (λ (l : List (List Rig)). map (rigged_in a) (flat_map f (take i plans) ++ l)) (sym last)
    ∙ ap (map (rigged_in a)) (sym (flat_map-append f (take i plans) (get_or plans i [] ∷ [])))
    ∙ ap (λ (ps : List (List Rig)). map (rigged_in a) (flat_map f ps)) (sym (take_more plans i [] lt))

pub all_open : (a : Answered) (depth i : ℕ) (plans : List (List Rig)) (waiting : List Entries) → length plans ≤ i → waiting ≡ map (rigged_in a) (flat_map (open_of (verdicts_in a depth)) (take i plans))
    → waiting ≡ map (rigged_in a) (flat_map (open_of (verdicts_in a depth)) plans)
all_open a depth i plans waiting end so_far = so_far ∙ ap (λ (ps : List (List Rig)). map (rigged_in a) (flat_map (open_of (verdicts_in a depth)) ps)) (take_all i plans end)

-- ---- the verdicts of plans, if others stand behind them

pub verdict_of_plan : (f : List Rig → Option Verdict) (plans : List (List Rig)) (verdicts rest : List (Option Verdict)) (n : ℕ) → verdicts ≡ map f plans ++ rest → n < length plans
    → get_or verdicts n None ≡ f (get_or plans n [])
verdict_of_plan f plans verdicts rest n are less =
    ap (λ (vs : List (Option Verdict)). get_or vs n None) are ∙ get_or_append_left (map f plans) rest None n (let many = length-map plans f in omega (arith, less, many)) ∙ get_or-map f plans n [] None less
