-- Reading a text from some piece on.
use Rattle.std.proofs.Common.{◌≡◌, ◌^◌, ℕ, ◌+◌, ◌<◌, ◌≤◌, List, [], ◌∷◌, length, refl, ap, sym, ◌∙◌, Result, Ok, Err, Bor, arith, map, eqb}
use Rattle.std.specs.List.{slice_split}
use Rattle.std.proofs.lemmas.List.{length-map}
use Rattle.std.proofs.lemmas.List.Splits.{length-slice_split}
use Rattle.std.proofs.lemmas.List.Sums.{count_by-le-length}
use Rattle.scenario_grammar.specs.declared.fault.ScenarioFault.{ScenarioFault}
use Rattle.scenario_grammar.specs.declared.fault.ScenarioFault.TheVariants as faults
use Rattle.scenario_values.specs.Words.{trimmed}
use Rattle.scenario_grammar.specs.FirstFault.{Fault, Progress, FailsAt, piece_in, pieces_from}

pub goes_on : (done next : Progress) (n : ℕ) (piece text : List ℕ) (texts rest : List (List ℕ)) (total : Result Progress Fault) → texts ≡ text ∷ rest → piece ≡ trimmed text → piece_in done n piece ≡ Ok next
    → pieces_from done n texts ≡ total → pieces_from next (n + 1) rest ≡ total
unfolding pieces_from
goes_on done next n piece text texts rest total k trim h so_far =
    let one : pieces_from done n texts ≡ pieces_from next (n + 1) rest = rw (k, ← trim, h) refl in
    sym one ∙ so_far

pub ends : (e : ScenarioFault) (done : Progress) (n : ℕ) (piece text : List ℕ) (texts rest : List (List ℕ)) (total : Result Progress Fault) → texts ≡ text ∷ rest → piece ≡ trimmed text → FailsAt e (piece_in done n piece)
    → pieces_from done n texts ≡ total → FailsAt e total
unfolding pieces_from
ends faults.Memory done n piece text texts rest total k trim h so_far = tt
ends (faults.Bad kind e term) done n piece text texts rest total k trim h so_far =
    let one : pieces_from done n texts ≡ Err (record { kind = kind; entry = e; term = term }) = rw (k, ← trim, h) refl in
    sym so_far ∙ one

pub is_done : (done : Progress) (n : ℕ) (texts : List (List ℕ)) (total : Result Progress Fault) → texts ≡ [] → pieces_from done n texts ≡ total → total ≡ Ok done
unfolding pieces_from
is_done done n texts total k so_far =
    let one : pieces_from done n texts ≡ Ok done = rw k refl in
    sym so_far ∙ one

-- a text of few bytes has few pieces
pub few_pieces : (text : List ℕ) (texts : List (Bor (List ℕ))) → length text ≤ 65536 → map (λ t. t.now) texts ≡ slice_split (λ b. eqb b 59) text → length texts < 2 ^ 32
few_pieces text texts small is =
    let same : length texts ≡ length (slice_split (λ b. eqb b 59) text) = sym (length-map texts (λ (t : Bor (List ℕ)). t.now)) ∙ ap length is in
    omega (arith, same, length-slice_split (λ b. eqb b 59) text, count_by-le-length (λ b. eqb b 59) text)
