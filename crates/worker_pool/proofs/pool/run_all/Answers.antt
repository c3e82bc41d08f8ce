use Rattle.std.proofs.Common.{◌≡◌, ◌∙◌, ℕ, ◌+◌, ◌<◌, ◌≤◌, ◌^◌, true, List, Vec, Global, length, vec_len, slice_index_or, sym, subst, ap, refl, arith}
use Rattle.std.specs.List.{sum_by}
use Rattle.std.proofs.lemmas.List.{length-map}
use Rattle.worker_pool.specs.declared.worker.Worker.{Worker}
use Rattle.worker_pool.specs.declared.active.ActiveWorker.{ActiveWorker}
use Rattle.worker_pool.specs.Workers.{worker_performed, SharesAll, SharesPart}
use Rattle.worker_pool.specs.inside.Ring.{AreDealtRound}
use Rattle.worker_pool.specs.inside.ActiveWorkers.{answers_of, EachGoesOn}
use Rattle.worker_pool.proofs.Places.{map_at, performed_sum, count_below_all, sum_len}
use Rattle.worker_pool.proofs.Rounds.{pick}
use Rattle.worker_pool.proofs.Linked.{Fresh-weaker}
use Rattle.worker_pool.proofs.Leaving.{stayed, all_right, all_counted, lists_back, once_back, setups_back, right_back, counted_back, performs_none}
use Rattle.worker_pool.proofs.Leaving.{performs_part}
use Rattle.worker_pool.proofs.pool.run_all.Goals as goal

pub work_all-finished-requires-clause-begun : goal.work_all-finished-requires-clause-begun
work_all-finished-requires-clause-begun g c κs within =
    let setup = g.J.Job.setup in
    let limit = g.J.Job.limit in
    let hs : List (Worker g.row.J.Denot g.row.J-Answer.Denot g.row.J-Setup.Denot) = c.args.workers.items in
    let ss : List (ActiveWorker g.row.J.Denot g.row.J-Answer.Denot g.row.J-Setup.Denot) = c.begin_all-team.result.items in
    let made = c.begin_all-team.ensures in
    let dealt = c.in-Ok.ensures.queues in
    let len_s : length ss ≡ length hs = sym (length-map ss (λ (x : ActiveWorker g.row.J.Denot g.row.J-Answer.Denot g.row.J-Setup.Denot). x.worker))
    ∙ ap length made.workers in
    let begun : c.len.result ≡ vec_len c.begin_all-team.result = omega arith in
    record {
      some = omega arith;
      len = omega arith;
      rest = made.rest;
      fresh = λ k s d lt.
          let in_h : k < length hs = omega (arith, len_s) in
          let in_d : k < length c.in-Ok.buffers.queues.items = omega (arith, len_s, dealt.len, c.in-Ok.buffers.queues.ok.0) in
          let h : Worker g.row.J.Denot g.row.J-Answer.Denot g.row.J-Setup.Denot = pick hs k in_h in
          let is : (slice_index_or ss k s).worker ≡ slice_index_or hs k h =
          map_at (λ (x : ActiveWorker g.row.J.Denot g.row.J-Answer.Denot g.row.J-Setup.Denot). x.worker) ss hs made.workers k s h in_h in
          let most : c.args.count ≤ limit (setup (slice_index_or hs k h).job) = c.requires.limit k h in_h in
          Fresh-weaker c.args.count _ (slice_index_or c.in-Ok.buffers.queues.items k d)
          (subst (λ (x : Worker g.row.J.Denot g.row.J-Answer.Denot g.row.J-Setup.Denot). c.args.count ≤ limit (setup x.job)) (sym is) most)
          (dealt.fresh k d in_d);
      ring = dealt.ring;
      round = subst (λ (n : ℕ). AreDealtRound n c.in-Ok.buffers.queues.items) begun dealt.round;
    }

pub returns-in-Ok-finished-clause-setups : goal.returns-in-Ok-finished-clause-setups
returns-in-Ok-finished-clause-setups g c =
    let hs : List (Worker g.row.J.Denot g.row.J-Answer.Denot g.row.J-Setup.Denot) = c.args.workers.items in
    let ss : List (ActiveWorker g.row.J.Denot g.row.J-Answer.Denot g.row.J-Setup.Denot) = c.begin_all-team.result.items in
    let es : List (ActiveWorker g.row.J.Denot g.row.J-Answer.Denot g.row.J-Setup.Denot) = c.work_all-finished.new.team.items in
    let made = c.begin_all-team.ensures in
    let left = c.leave_all-workers.ensures in
    let setup = g.J.Job.setup in
    let answers = g.J.Job.answers in
    let len : length es ≡ length ss = omega arith in
    let on : EachGoesOn setup answers (length ss) ss es = λ k s lt. c.work_all-finished.ensures.on k s (omega arith) in
    setups_back setup hs ss es c.leave_all-workers.result.0.items made.workers left.workers len (stayed setup answers ss es made.rest on)

pub returns-in-Err-clause-setups : goal.returns-in-Err-clause-setups
returns-in-Err-clause-setups g c =
    let hs : List (Worker g.row.J.Denot g.row.J-Answer.Denot g.row.J-Setup.Denot) = c.args.workers.items in
    let ss : List (ActiveWorker g.row.J.Denot g.row.J-Answer.Denot g.row.J-Setup.Denot) = c.begin_all-team.result.items in
    let es : List (ActiveWorker g.row.J.Denot g.row.J-Answer.Denot g.row.J-Setup.Denot) = c.work_all-finished.new.team.items in
    let made = c.begin_all-team.ensures in
    let left = c.leave_all-workers.ensures in
    let setup = g.J.Job.setup in
    let answers = g.J.Job.answers in
    let len : length es ≡ length ss = omega arith in
    let on : EachGoesOn setup answers (length ss) ss es = λ k s lt. c.work_all-finished.ensures.on k s (omega arith) in
    setups_back setup hs ss es c.leave_all-workers.result.0.items made.workers left.workers len (stayed setup answers ss es made.rest on)

pub returns-in-Ok-finished-clause-right : goal.returns-in-Ok-finished-clause-right
returns-in-Ok-finished-clause-right g c = λ k h l lt.
    let hs : List (Worker g.row.J.Denot g.row.J-Answer.Denot g.row.J-Setup.Denot) = c.args.workers.items in
    let ss : List (ActiveWorker g.row.J.Denot g.row.J-Answer.Denot g.row.J-Setup.Denot) = c.begin_all-team.result.items in
    let es : List (ActiveWorker g.row.J.Denot g.row.J-Answer.Denot g.row.J-Setup.Denot) = c.work_all-finished.new.team.items in
    let ls : List (Vec (ℕ × g.row.J-Answer.Denot) Global) = c.leave_all-workers.result.1.items in
    let made = c.begin_all-team.ensures in
    let left = c.leave_all-workers.ensures in
    let setup = g.J.Job.setup in
    let answers = g.J.Job.answers in
    let items = λ (v : Vec (ℕ × g.row.J-Answer.Denot) Global). v.items in
    let size = λ (v : Vec (ℕ × g.row.J-Answer.Denot) Global). vec_len v in
    let given = λ (x : ActiveWorker g.row.J.Denot g.row.J-Answer.Denot g.row.J-Setup.Denot). x.answers in
    let len : length es ≡ length ss = omega arith in
    let on : EachGoesOn setup answers (length ss) ss es = λ k s lt. c.work_all-finished.ensures.on k s (omega arith) in
    right_back setup hs ss es items size given ls answers made.workers left.answers len (λ s. refl) (all_right setup answers ss es made.rest on) k h l
    (omega arith)

pub returns-in-Ok-finished-clause-counted : goal.returns-in-Ok-finished-clause-counted
returns-in-Ok-finished-clause-counted g c = λ k h l lt.
    let hs : List (Worker g.row.J.Denot g.row.J-Answer.Denot g.row.J-Setup.Denot) = c.args.workers.items in
    let ss : List (ActiveWorker g.row.J.Denot g.row.J-Answer.Denot g.row.J-Setup.Denot) = c.begin_all-team.result.items in
    let es : List (ActiveWorker g.row.J.Denot g.row.J-Answer.Denot g.row.J-Setup.Denot) = c.work_all-finished.new.team.items in
    let bs : List (Worker g.row.J.Denot g.row.J-Answer.Denot g.row.J-Setup.Denot) = c.leave_all-workers.result.0.items in
    let ls : List (Vec (ℕ × g.row.J-Answer.Denot) Global) = c.leave_all-workers.result.1.items in
    let made = c.begin_all-team.ensures in
    let left = c.leave_all-workers.ensures in
    let setup = g.J.Job.setup in
    let answers = g.J.Job.answers in
    let items = λ (v : Vec (ℕ × g.row.J-Answer.Denot) Global). v.items in
    let size = λ (v : Vec (ℕ × g.row.J-Answer.Denot) Global). vec_len v in
    let given = λ (x : ActiveWorker g.row.J.Denot g.row.J-Answer.Denot g.row.J-Setup.Denot). x.answers in
    let len : length es ≡ length ss = omega arith in
    let on : EachGoesOn setup answers (length ss) ss es = λ k s lt. c.work_all-finished.ensures.on k s (omega arith) in
    counted_back setup hs ss es items size given ls bs made.workers left.workers left.answers len (λ s. refl) (all_counted setup answers ss es made.rest on) k h l
    (omega arith)

pub returns-in-Ok-finished-clause-shared : goal.returns-in-Ok-finished-clause-shared
returns-in-Ok-finished-clause-shared g c =
    let count = c.args.count in
    let hs : List (Worker g.row.J.Denot g.row.J-Answer.Denot g.row.J-Setup.Denot) = c.args.workers.items in
    let ss : List (ActiveWorker g.row.J.Denot g.row.J-Answer.Denot g.row.J-Setup.Denot) = c.begin_all-team.result.items in
    let es : List (ActiveWorker g.row.J.Denot g.row.J-Answer.Denot g.row.J-Setup.Denot) = c.work_all-finished.new.team.items in
    let ls : List (Vec (ℕ × g.row.J-Answer.Denot) Global) = c.leave_all-workers.result.1.items in
    let made = c.begin_all-team.ensures in
    let left = c.leave_all-workers.ensures in
    let len_s : length ss ≡ length hs = sym (length-map ss (λ (x : ActiveWorker g.row.J.Denot g.row.J-Answer.Denot g.row.J-Setup.Denot). x.worker))
    ∙ ap length made.workers in
    let many : vec_len c.begin_all-team.result ≡ vec_len c.args.workers = omega (arith, len_s) in
    lists_back (vec_len c.args.workers) count es ls left.answers (subst (λ (n : ℕ). SharesAll n count (answers_of es)) many
    (c.in-Ok-finished.ensures.all count c.in-Ok.ensures.queues.once))

pub returns-in-Ok-finished-clause-once : goal.returns-in-Ok-finished-clause-once
returns-in-Ok-finished-clause-once g c = λ test.
    let count = c.args.count in
    let es : List (ActiveWorker g.row.J.Denot g.row.J-Answer.Denot g.row.J-Setup.Denot) = c.work_all-finished.new.team.items in
    let ls : List (Vec (ℕ × g.row.J-Answer.Denot) Global) = c.leave_all-workers.result.1.items in
    let left = c.leave_all-workers.ensures in
    let len : length es ≡ vec_len c.begin_all-team.result = omega arith in
    once_back (vec_len c.begin_all-team.result) count es ls left.answers len (c.in-Ok-finished.ensures.all count c.in-Ok.ensures.queues.once) test

pub returns-in-Ok-finished-clause-performed : goal.returns-in-Ok-finished-clause-performed
returns-in-Ok-finished-clause-performed g c = λ fits.
    let count = c.args.count in
    let hs : List (Worker g.row.J.Denot g.row.J-Answer.Denot g.row.J-Setup.Denot) = c.args.workers.items in
    let ss : List (ActiveWorker g.row.J.Denot g.row.J-Answer.Denot g.row.J-Setup.Denot) = c.begin_all-team.result.items in
    let es : List (ActiveWorker g.row.J.Denot g.row.J-Answer.Denot g.row.J-Setup.Denot) = c.work_all-finished.new.team.items in
    let bs : List (Worker g.row.J.Denot g.row.J-Answer.Denot g.row.J-Setup.Denot) = c.leave_all-workers.result.0.items in
    let ls : List (Vec (ℕ × g.row.J-Answer.Denot) Global) = c.leave_all-workers.result.1.items in
    let made = c.begin_all-team.ensures in
    let left = c.leave_all-workers.ensures in
    let setup = g.J.Job.setup in
    let answers = g.J.Job.answers in
    let items = λ (v : Vec (ℕ × g.row.J-Answer.Denot) Global). v.items in
    let size = λ (v : Vec (ℕ × g.row.J-Answer.Denot) Global). vec_len v in
    let given = λ (x : ActiveWorker g.row.J.Denot g.row.J-Answer.Denot g.row.J-Setup.Denot). x.answers in
    let len : length es ≡ length ss = omega arith in
    let on : EachGoesOn setup answers (length ss) ss es = λ k s lt. c.work_all-finished.ensures.on k s (omega arith) in
    let len_s : length ss ≡ length hs = sym (length-map ss (λ (x : ActiveWorker g.row.J.Denot g.row.J-Answer.Denot g.row.J-Setup.Denot). x.worker))
    ∙ ap length made.workers in
    let len_b : length bs ≡ length es = ap length left.workers ∙ length-map es (λ (x : ActiveWorker g.row.J.Denot g.row.J-Answer.Denot g.row.J-Setup.Denot). x.worker) in
    let len_l : length ls ≡ length es = ap length left.answers ∙ length-map es given in
    let once = once_back (vec_len c.begin_all-team.result) count es ls left.answers (omega arith)
    (c.in-Ok-finished.ensures.all count c.in-Ok.ensures.queues.once) (λ n. true) in
    let all : sum_by size ls ≡ count = sym (sum_len ls) ∙ once ∙ count_below_all count in
    let sums : sum_by worker_performed bs ≡ sum_by worker_performed hs + sum_by size ls =
    performed_sum worker_performed size (2 ^ 64) hs bs ls (omega arith) (omega arith)
    (counted_back setup hs ss es items size given ls bs made.workers left.workers left.answers len (λ s. refl) (all_counted setup answers ss es made.rest on))
    (omega arith) in
    omega arith

pub returns-in-Err-clause-refused : goal.returns-in-Err-clause-refused
returns-in-Err-clause-refused g c =
    let count = c.args.count in
    let hs : List (Worker g.row.J.Denot g.row.J-Answer.Denot g.row.J-Setup.Denot) = c.args.workers.items in
    let ss : List (ActiveWorker g.row.J.Denot g.row.J-Answer.Denot g.row.J-Setup.Denot) = c.begin_all-team.result.items in
    let es : List (ActiveWorker g.row.J.Denot g.row.J-Answer.Denot g.row.J-Setup.Denot) = c.work_all-finished.new.team.items in
    let bs : List (Worker g.row.J.Denot g.row.J-Answer.Denot g.row.J-Setup.Denot) = c.leave_all-workers.result.0.items in
    let made = c.begin_all-team.ensures in
    let left = c.leave_all-workers.ensures in
    let setup = g.J.Job.setup in
    let answers = g.J.Job.answers in
    let len : length es ≡ length ss = omega arith in
    let on : EachGoesOn setup answers (length ss) ss es = λ k s lt. c.work_all-finished.ensures.on k s (omega arith) in
    let len_s : length ss ≡ length hs = sym (length-map ss (λ (x : ActiveWorker g.row.J.Denot g.row.J-Answer.Denot g.row.J-Setup.Denot). x.worker))
    ∙ ap length made.workers in
    let many : vec_len c.begin_all-team.result ≡ length hs = omega (arith, len_s) in
    performs_part setup hs ss es answers bs count made.workers left.workers len (all_right setup answers ss es made.rest on)
    (all_counted setup answers ss es made.rest on)
    (subst (λ (n : ℕ). SharesPart n count (answers_of es)) many (c.work_all-finished.ensures.part count c.in-Ok.ensures.queues.once))

pub returns-in_default-clause-refused : goal.returns-in_default-clause-refused
returns-in_default-clause-refused g c = performs_none g.J.Job.setup g.J.Job.answers c.args.workers.items c.args.count
