-- Writes of many participants, one after another.
use Rattle.std.proofs.Common.{◌≡◌, ◌<◌, ◌≤◌, ℕ, suc, ◌+◌, ◌-◌, List, ◌∷◌, ap, sym, ◌∙◌, subst, arith}
use Rattle.commit_target.specs.declared.records.Write.{Write}
use Rattle.commit_target.specs.Writes.{Event, Written, AllLogs, AddsEvent, LogsStandFor}
use Rattle.commit_target.specs.inside.Batches.{all_written, AddsAll, Adding, AddsUpTo}

pub none_added : (l : AllLogs) (write : ℕ → Write) (i n : ℕ) → AddsUpTo l l write i n i
none_added l write i n = λ count es stands. record {
  events = es;
  written = stands;
  same = let e : i + n - i ≡ n = omega arith in ap (λ (m : ℕ). all_written write i m es) e;
}

pub one_added : (old l l' : AllLogs) (write : ℕ → Write) (i n j : ℕ) → i ≤ j → j < i + n → AddsUpTo old l write i n j → AddsEvent l l' (Written (write j)) → AddsUpTo old l' write i n (j + 1)
one_added old l l' write i n j from before k adds = λ count es stands.
    let so_far : Adding count l write j (i + n - j) (all_written write i n es) = k count es stands in
    let one : suc (i + n - (j + 1)) ≡ i + n - j = omega arith in
    record {
      events = Written (write j) ∷ so_far.events;
      written = adds count so_far.events so_far.written;
      same = ap (λ (m : ℕ). all_written write j m so_far.events) one ∙ so_far.same;
    }

pub all_added : (old l : AllLogs) (write : ℕ → Write) (i n j : ℕ) → i + n ≤ j → AddsUpTo old l write i n j → AddsAll old l write i n
all_added old l write i n j there k = λ count es stands.
    let so_far : Adding count l write j (i + n - j) (all_written write i n es) = k count es stands in
    let none : i + n - j ≡ 0 = omega arith in
    subst (λ (x : List Event). LogsStandFor count l x) (ap (λ (m : ℕ). all_written write j m so_far.events) (sym none) ∙ so_far.same) so_far.written
