-- Points that no run asks, over runs one after another and over runs in parts.
use Rattle.std.proofs.Common.{◌≡◌, ◌≤◌, ◌<◌, ◌+◌, ◌||◌, ◌++◌, ◌∙◌, ℕ, Bool, true, false, not, List, [], ◌∷◌, filter, length, get_or, refl, ap, sym, add-zero, arith, if◌then◌else◌}
use Rattle.std.specs.List.{slice_range}
use Rattle.std.proofs.lemmas.List.Elements.{filter_agree}
use Rattle.std.proofs.lemmas.List.Folds.{list_any-append}
use Rattle.scenario_values.specs.Scenario.{Entries}
use Rattle.target_trait.specs.Outcomes.{Told}
use Rattle.result_book.specs.Runs.{is_asked, is_reached, runs_from, unreached_of}
use Rattle.result_book.proofs.RangeLemmas.{moved, length_range, range_more}

-- what passes two tests, one after the other
pub filter_both : (f g : ℕ → Bool) (points : List ℕ) → filter (λ p. not (g p)) (filter (λ p. not (f p)) points) ≡ filter (λ p. not (f p || g p)) points
filter_both f g [] = refl
filter_both f g (p ∷ points) = at (f p) refl (filter_both f g points)
  where
    at : (b : Bool) → f p ≡ b → filter (λ q. not (g q)) (filter (λ q. not (f q)) points) ≡ filter (λ q. not (f q || g q)) points
        → filter (λ q. not (g q)) (filter (λ q. not (f q)) (p ∷ points)) ≡ filter (λ q. not (f q || g q)) (p ∷ points)
    at true is more = rw is more
    at false is more = rw is (ap (λ (l : List ℕ). if not (g p) then p ∷ l else l) more)

-- some runs, and then others
pub unreached_append : (points : List ℕ) (runs more : List Told) → unreached_of (unreached_of points runs) more ≡ unreached_of points (runs ++ more)
unreached_append points runs more =
    filter_both (is_reached runs) (is_reached more) points
    ∙ filter_agree (λ p. not (is_reached runs p || is_reached more p)) (λ p. not (is_reached (runs ++ more) p))
    (λ p. ap not (sym (list_any-append (λ (r : Told). is_asked p r.asked) runs more))) points

pub runs_append : (run : ℕ → Entries → Told) (n : ℕ) (plans more : List Entries) → runs_from run n (plans ++ more) ≡ runs_from run n plans ++ runs_from run (n + length plans) more
runs_append run n [] more = ap (λ k. runs_from run k more) (sym (add-zero n))
runs_append run n (p ∷ plans) more =
    ap (λ rs. run n p ∷ rs) (runs_append run (n + 1) plans more ∙ ap (λ k. runs_from run (n + 1) plans ++ runs_from run k more) (moved n (length plans)))

-- one run more
or_none : (b : Bool) → b ≡ (b || false)
or_none true = refl
or_none false = refl

unreached_last : (points : List ℕ) (runs : List Told) (r : Told) → filter (λ p. not (is_asked p r.asked)) (unreached_of points runs) ≡ unreached_of points (runs ++ r ∷ [])
unreached_last points runs r =
    filter_agree (λ p. not (is_asked p r.asked)) (λ p. not (is_reached (r ∷ []) p)) (λ p. ap not (or_none (is_asked p r.asked))) (unreached_of points runs)
    ∙ unreached_append points runs (r ∷ [])

-- For a range to which the next plan's run is added.
pub unreached_more : (run : ℕ → Entries → Told) (plans : List Entries) (points : List ℕ) (first end : ℕ) → first ≤ end → end < length plans
    → filter (λ p. not (is_asked p (run end (get_or plans end [])).asked)) (unreached_of points (runs_from run first (slice_range plans first end)))
    ≡ unreached_of points (runs_from run first (slice_range plans first (end + 1)))
unreached_more run plans points first end up lt =
    let part : List Entries = slice_range plans first end in
    let last : Told = run end (get_or plans end []) in
    unreached_last points (runs_from run first part) last
    ∙ ap (λ k. unreached_of points (runs_from run first part ++ run k (get_or plans end []) ∷ [])) (sym (length_range plans first end up (omega arith)))
    ∙ ap (unreached_of points) (sym (runs_append run first part (get_or plans end [] ∷ [])))
    ∙ ap (λ ps. unreached_of points (runs_from run first ps)) (sym (range_more plans first end [] up lt))

-- If there are no plans, all points are left.
pub filter_all : (points : List ℕ) → points ≡ filter (λ p. not false) points
filter_all [] = refl
filter_all (p ∷ points) = ap (λ l. p ∷ l) (filter_all points)
