-- How a run is judged, by what recovery makes of the bytes that a power cut left.
use Rattle.std.specs.Prelude.{ℕ, ◌+◌, ◌==◌, nat_lt, Bool, true, false, List, [], ◌∷◌, length}
use Rattle.std.specs.List.{list_any}
use Rattle.target_trait.specs.declared.judgement.Judgement.{Judgement}
use Rattle.target_trait.specs.declared.judgement.Judgement.TheVariants.{Kept, Broken}
use Rattle.journal_target.specs.declared.variant.Variant.{Variant}
use Rattle.journal_target.specs.declared.variant.Variant.TheVariants.{Sound, EarlyAck, NoCommitRecord, OneSync}
use Rattle.journal_target.specs.declared.scan.Scan.{Scan}
use Rattle.journal_target.specs.Words.{lost, torn}
use Rattle.journal_target.specs.Recovery.{start, scanned}

-- Recovery takes a transaction for committed if its commit record is there; without commit records, if any whole record is.
abbrev pub is_committed : Variant → Scan → Bool
is_committed Sound s = s.committed
is_committed EarlyAck s = s.committed
is_committed NoCommitRecord s = nat_lt 0 s.whole
is_committed OneSync s = s.committed

-- The judgement of a transaction, given whether it is recovered as committed, whether all its records are whole, and whether it was acknowledged.
abbrev pub judged_by : Bool → Bool → Bool → Judgement
judged_by true false acknowledged = Broken torn
judged_by true true acknowledged = Kept
judged_by false whole true = Broken lost
judged_by false whole false = Kept

abbrev pub was_acknowledged : List ℕ → ℕ → Bool
was_acknowledged acknowledged transaction = list_any (λ n. n == transaction) acknowledged

-- The judgement of a transaction with `count` records.
abbrev pub judged_one : Variant → List ℕ → List ℕ → ℕ → ℕ → Judgement
judged_one v acknowledged bytes transaction count =
    let found = scanned transaction start bytes in
    judged_by (is_committed v found) (found.whole == count) (was_acknowledged acknowledged transaction)

-- The first broken promise is the one that counts.
abbrev pub or_then : Judgement → Judgement → Judgement
or_then Kept next = next
or_then (Broken code) next = Broken code

-- The judgement of these transactions, which are numbered from `number` on.
abbrev pub judged_from : Variant → List ℕ → List ℕ → ℕ → List (List (List ℕ)) → Judgement
judged_from v acknowledged bytes number [] = Kept
judged_from v acknowledged bytes number (records ∷ more) =
    or_then (judged_one v acknowledged bytes number (length records)) (judged_from v acknowledged bytes (number + 1) more)
