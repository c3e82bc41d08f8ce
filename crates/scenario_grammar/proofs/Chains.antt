-- Reading a chain from some term on.
use Rattle.std.proofs.Common.{◌≡◌, ℕ, ◌+◌, ◌<◌, ◌≤◌, List, [], ◌∷◌, ◌++◌, length, map, drop, get_or, refl, ap, sym, ◌∙◌, Result, Ok, Err, Bor, append_assoc, add-one, drop-cons}
use Rattle.std.proofs.lemmas.List.{append-nil, drop_all}
use Rattle.scenario_values.specs.declared.term.Term.{Term}
use Rattle.scenario_grammar.specs.declared.fault.ScenarioFault.{ScenarioFault}
use Rattle.scenario_grammar.specs.declared.fault.ScenarioFault.TheVariants as faults
use Rattle.scenario_grammar.specs.FirstFault.{◌>>=◌}
use Rattle.scenario_grammar.specs.FirstFault.{Fault, FailsAt, term_in, chain_from}

-- the bytes of each text
abbrev pub bytes_of : List (Bor (List ℕ)) → List (List ℕ)
bytes_of texts = map (λ t. t.now) texts

-- the reading of what is left, with the terms that were read in front
abbrev pub with_front : List Term → Result (List Term × ℕ) Fault → Result (List Term × ℕ) Fault
with_front front read = read >>= (λ x. Ok (front ++ x.0, x.1))

regroup : (front : List Term) (t : Term) (read : Result (List Term × ℕ) Fault) → with_front front (read >>= λ x. Ok (t ∷ x.0, x.1)) ≡ with_front (front ++ t ∷ []) read
regroup front t (Ok x) = ap (λ (ts : List Term). Ok (ts, x.1)) (simp append_assoc)
regroup front t (Err f) = refl

-- a text and those after it
pub next_of : (texts : List (Bor (List ℕ))) (i : ℕ) (d : Bor (List ℕ)) → i < length texts → bytes_of (drop i texts) ≡ (get_or texts i d).now ∷ bytes_of (drop (i + 1) texts)
next_of texts i d less = rw (add-one, drop-cons texts i d) refl

pub none_left : (texts : List (Bor (List ℕ))) (i : ℕ) → length texts ≤ i → bytes_of (drop i texts) ≡ []
none_left texts i le = ap bytes_of (drop_all i texts le)

pub goes_on : (entry n faults now : ℕ) (front : List Term) (text : List ℕ) (texts rest : List (List ℕ)) (t : Term) (total : Result (List Term × ℕ) Fault) → texts ≡ text ∷ rest → term_in entry n faults text ≡ Ok (t, now)
    → with_front front (chain_from entry n faults texts) ≡ total → with_front (front ++ t ∷ []) (chain_from entry (n + 1) now rest) ≡ total
unfolding chain_from
goes_on entry n faults now front text texts rest t total k h so_far =
    let one : with_front front (chain_from entry n faults texts) ≡ with_front (front ++ t ∷ []) (chain_from entry (n + 1) now rest) = rw (k, h) (regroup front t (chain_from entry (n + 1) now rest)) in
    sym one ∙ so_far

pub ends : (e : ScenarioFault) (entry n faults : ℕ) (front : List Term) (text : List ℕ) (texts rest : List (List ℕ)) (total : Result (List Term × ℕ) Fault) → texts ≡ text ∷ rest → FailsAt e (term_in entry n faults text)
    → with_front front (chain_from entry n faults texts) ≡ total → FailsAt e total
unfolding chain_from
ends faults.Memory entry n faults front text texts rest total k h so_far = tt
ends (faults.Bad kind e term) entry n faults front text texts rest total k h so_far =
    let one : with_front front (chain_from entry n faults texts) ≡ Err (record { kind = kind; entry = e; term = term }) = rw (k, h) refl in
    sym so_far ∙ one

pub is_done : (entry n faults : ℕ) (front : List Term) (texts : List (List ℕ)) (total : Result (List Term × ℕ) Fault) → texts ≡ [] → with_front front (chain_from entry n faults texts) ≡ total → total ≡ Ok (front, faults)
unfolding chain_from
is_done entry n faults front texts total k so_far =
    let one : with_front front (chain_from entry n faults texts) ≡ Ok (front, faults) = rw k (ap (λ (ts : List Term). Ok (ts, faults)) (append-nil front)) in
    sym so_far ∙ one
