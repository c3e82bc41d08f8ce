use Rattle.std.proofs.Common.{◌≡◌, ℕ, ◌<◌, Bool, List, [], ◌∷◌, ◌++◌, length, map, get_or, sym, ◌∙◌, ap, subst, Option, Some}
use Rattle.std.specs.Prelude.{Vec, All, option_to_list}
use Rattle.std.specs.Global.{Global}
use Rattle.std.specs.List.{AllByRecursion}
use Rattle.std.proofs.lemmas.Result.{IfOk-weaker}
use Rattle.std.proofs.lemmas.List.Elements.{recursion_from_All}
use Rattle.ddmin_parallel.specs.Ddmin.{Reduced, ddmin}
use Rattle.ddmin_parallel.specs.Logs.{AllAnswers, AreAnswers}
use Rattle.ddmin_parallel.proofs.BoardLemmas.{parted_own, last_of}
use Rattle.ddmin_parallel.proofs.workers.reduce.Goals as goal

-- all workers answer as one test does, and so do their pairs
told_apart : {P : Type 0} (answers : P → List ℕ → Bool) (test : List ℕ → Bool) (all : List (P × Vec (List ℕ × Bool) Global)) (probes rest : List P)
    (pairs : List (Vec (List ℕ × Bool) Global)) (popped : Option P) (probe : P)
    → All (λ r. (answers r.0 ≡ test) × AreAnswers test r.1.items) all → probes ≡ map (λ r. r.0) all → pairs ≡ map (λ r. r.1) all
    → probes ≡ rest ++ option_to_list popped → popped ≡ Some probe → (answers probe ≡ test) × AllAnswers test pairs
told_apart {P = P} answers test all probes rest pairs popped probe own one two cut is =
    let both = parted_own answers test all (recursion_from_All (λ r. (answers r.0 ≡ test) × AreAnswers test r.1.items) all own) in
    let list : map (λ r. r.0) all ≡ rest ++ probe ∷ [] = sym one ∙ cut ∙ ap (λ o. rest ++ option_to_list o) is in
    (last_of (λ p. answers p ≡ test) rest probe (subst (AllByRecursion (λ p. answers p ≡ test)) list both.0), subst (AllAnswers test) (sym two) both.1)

same_setup : {P : Type 0} (answers : P → List ℕ → Bool) (workers : List P) (probe : P) → 0 < length workers
    → All (λ p. All (λ q. answers p ≡ answers q) workers) workers → All (λ p. answers p ≡ answers (get_or workers 0 probe)) workers
same_setup answers workers probe some one = λ k d lt. one k d lt 0 probe some

each_worker : {P : Type 0} (answers : P → List ℕ → Bool) (workers : List P) (probe : P) (faults : ℕ) (r : Reduced)
    → All (λ p. answers p ≡ answers (get_or workers 0 probe)) workers
    → answers probe ≡ answers (get_or workers 0 probe) → r ≡ ddmin (answers probe) faults → All (λ p. r ≡ ddmin (answers p) faults) workers
each_worker answers workers probe faults r one this is = λ k d lt. is ∙ ap (λ t. ddmin t faults) (this ∙ sym (one k d lt))

pub gathered-requires-clause-own : goal.gathered-requires-clause-own
gathered-requires-clause-own g c κs within =
    let answers = g.P.Probe.answers in
    let probe = c.unwrap-probe.result in
    let one = same_setup answers c.args.workers.items probe c.requires.some c.requires.one_setup in
    let apart = told_apart answers (answers (get_or c.args.workers.items 0 probe)) c.in_ok-all.all.items c.in_ok-probes.probes.items c.pop.new.self.items
    c.in_ok-probes.pairs.items c.pop.result probe
    (c.in_ok-all.ensures.1 (answers (get_or c.args.workers.items 0 probe)) one) c.in_ok-probes.ensures.0 c.in_ok-probes.ensures.1 c.pop.ensures.items
    c.unwrap-probe.ensures in
    subst (AllAnswers (answers probe)) (sym c.as_slice.ensures.value) (subst (λ t. AllAnswers t c.in_ok-probes.pairs.items) (sym apart.0) apart.1)

pub returns : goal.returns
returns g c =
    let answers = g.P.Probe.answers in
    let probe = c.unwrap-probe.result in
    let one = same_setup answers c.args.workers.items probe c.requires.some c.requires.one_setup in
    let apart = told_apart answers (answers (get_or c.args.workers.items 0 probe)) c.in_ok-all.all.items c.in_ok-probes.probes.items c.pop.new.self.items
    c.in_ok-probes.pairs.items c.pop.result probe
    (c.in_ok-all.ensures.1 (answers (get_or c.args.workers.items 0 probe)) one) c.in_ok-probes.ensures.0 c.in_ok-probes.ensures.1 c.pop.ensures.items
    c.unwrap-probe.ensures in
    IfOk-weaker c.gathered.result (λ r. r ≡ ddmin (answers probe) c.args.faults) (λ r. All (λ p. r ≡ ddmin (answers p) c.args.faults) c.args.workers.items)
    (λ r is. each_worker answers c.args.workers.items probe c.args.faults r one apart.0 is) c.gathered.ensures
