use Rattle.std.proofs.Common.{◌≡◌, ◌<◌, ◌-◌, ℕ, List, nat_eq, filter, get_or, length, vec_len, ap, sym, subst, ◌∙◌, arith}
use Rattle.scenario_values.specs.Scenario.{Entries}
use Rattle.target_trait.specs.Outcomes.{Told}
use Rattle.target_trait.specs.declared.judgement.Verdict.{Verdict}
use Rattle.worker_pool.specs.Workers.{EachOnce}
use Rattle.grown_runs.specs.ranges.Ranges.{range_count}
use Rattle.result_book.specs.Says.{input_says}
use Rattle.result_book.specs.Runs.{input_runs}
use Rattle.result_book.specs.Ranges.{enter_lists, enter_range}
use Rattle.result_book.proofs.RangeLemmas.{book_after_known}
use Rattle.campaign_core.specs.inside.Ranges.{AreRanges, is_left_in, range_of}
use Rattle.campaign_core.proofs.Gathered.{all_own, below_some}
use Rattle.campaign_core.proofs.PlanRanges.{range_reaches, ranges_said}
use Rattle.campaign_core.proofs.Unreached.{left_is}
use Rattle.campaign_core.proofs.workers.run_plans.Goals as goal

pub answers_of-requires-clause-limit : goal.answers_of-requires-clause-limit
answers_of-requires-clause-limit g c κs within = λ k d lt.
    let same = c.in_ok-jobs.ensures.same k d lt in
    let known = length c.args.known.now in
    let count : c.range_count-count.result ≡ range_count (length c.args.input.now.plans.now - known) =
    c.range_count-count.ensures ∙ ap (λ n. range_count (n - known)) c.len.ensures.many in
    let here = count ∙ sym (ap (λ co. range_count (length co.plans.now - known)) same.1) ∙ sym (ap (λ n. range_count (length (get_or c.in_ok-jobs.jobs.items k d).input.now.plans.now - n)) same.2) in
    omega (arith, here)

pub returns-clause-book : goal.returns-clause-book
returns-clause-book g c =
    let input = c.args.input.now in
    let plans : List Entries = input.plans.now in
    let watched = input.watched.now in
    let known = c.args.known.now in
    let first = length known in
    let jobs = c.in_ok-jobs.jobs.items in
    let ls = c.in_ok-ranges.ranges.items in
    let say : ℕ → Entries → Verdict = input_says g.T.Target c.args.target.now input in
    let run : ℕ → Entries → Told = input_runs g.T.Target c.args.target.now input in
    let same_len : length ls ≡ length jobs = omega (arith, c.in_ok-ranges.ensures.many, c.in_ok-ranges.ranges.ok.0, c.in_ok-jobs.jobs.ok.0) in
    let own : AreRanges (range_of say run plans watched first) ls =
    all_own jobs ls c.args.target.now input first (λ r. r.target) (λ r. r.input.now) (λ r. r.first)
    (λ t s n. range_of (input_says g.T.Target t s) (input_runs g.T.Target t s) s.plans.now s.watched.now n) same_len c.in_ok-jobs.ensures.same
    (λ k j l lt. c.in_ok-ranges.ensures.right k j l (let low : k < vec_len c.in_ok-jobs.jobs = omega (arith, c.in_ok-jobs.jobs.ok.0) in low)) in
    c.put_all.ensures ∙ ap (λ s. enter_lists s ls) (c.put_known.ensures ∙ ap (λ vs. enter_range c.in_ok-book.book 0 vs) c.in_ok-from_slice.ensures.items
    ∙ ap (λ s. enter_range s 0 known) c.in_ok-book.ensures)
    ∙ book_after_known say plans known (range_of say run plans watched first) ls c.requires.known.said c.requires.known.few own
    (λ n. ranges_said say run plans watched first n c.requires.known.few)
    (λ m from lt. let found = range_reaches say run plans watched first m from lt in (
      found.0,
      (
        found.1.1,
        found.1.2,
        subst (λ n. 0 < n) (sym (c.in_ok-ranges.ensures.once (λ y. nat_eq y found.0)))
            (below_some found.0 c.range_count-count.result (subst (λ n. found.0 < n) (sym (c.range_count-count.ensures ∙ ap (λ n. range_count (n - first)) c.len.ensures.many)) found.1.0)),
      ),
    ))

pub returns-clause-unreached : goal.returns-clause-unreached
returns-clause-unreached g c =
    let input = c.args.input.now in
    let plans : List Entries = input.plans.now in
    let watched = input.watched.now in
    let first = length c.args.known.now in
    let jobs = c.in_ok-jobs.jobs.items in
    let ls = c.in_ok-ranges.ranges.items in
    let say : ℕ → Entries → Verdict = input_says g.T.Target c.args.target.now input in
    let run : ℕ → Entries → Told = input_runs g.T.Target c.args.target.now input in
    let same_len : length ls ≡ length jobs = omega (arith, c.in_ok-ranges.ensures.many, c.in_ok-ranges.ranges.ok.0, c.in_ok-jobs.jobs.ok.0) in
    let own : AreRanges (range_of say run plans watched first) ls =
    all_own jobs ls c.args.target.now input first (λ r. r.target) (λ r. r.input.now) (λ r. r.first)
    (λ t s n. range_of (input_says g.T.Target t s) (input_runs g.T.Target t s) s.plans.now s.watched.now n) same_len c.in_ok-jobs.ensures.same
    (λ k j l lt. c.in_ok-ranges.ensures.right k j l (let low : k < vec_len c.in_ok-jobs.jobs = omega (arith, c.in_ok-jobs.jobs.ok.0) in low)) in
    let count : c.range_count-count.result ≡ range_count (length plans - first) = c.range_count-count.ensures ∙ ap (λ n. range_count (n - first)) c.len.ensures.many in
    c.in_ok-unreached.ensures ∙ ap (λ lists. filter (is_left_in lists) watched) c.as_slice.ensures.value
    ∙ left_is say run plans watched first ls c.requires.known.few own (subst (EachOnce ls) count c.in_ok-ranges.ensures.once)
