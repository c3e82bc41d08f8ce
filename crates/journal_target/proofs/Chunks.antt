-- The appends of a journal, each by what it says, and what recovery finds in them.
use Rattle.std.specs.List.{AllByRecursion}
use Rattle.std.proofs.Common.{◌≡◌, ℕ, zero, suc, ◌+◌, ◌/◌, ◌<◌, ◌==◌, Bool, true, false, if◌then◌else◌, List, [], ◌∷◌, ◌++◌, take, drop, replicate, length, refl, sym, ◌∙◌, ap, subst, arith}
use Rattle.std.proofs.lemmas.List.{append-nil, append_assoc}
use Rattle.std.proofs.lemmas.Bool.Decides.{nat_tests}
use Rattle.std.proofs.lemmas.List.{take-append-le, length-append}
use Rattle.std.proofs.Math.Seq.{take-append_seam, drop-append_seam}
use Rattle.journal_target.specs.declared.scan.Mode.TheVariants.{Outside, Heading, Inside, Committing}
use Rattle.journal_target.specs.declared.scan.Scan.{Scan}
use Rattle.journal_target.specs.Words.{commit_mark, record_mark, end_mark}
use Rattle.journal_target.specs.Frames.{record_frame, commit_frame, half}
use Rattle.journal_target.specs.File.{File, appended_to, synced_file, gap, laid, left}
use Rattle.journal_target.specs.Recovery.{at_mode, numbered, scanned, scanned_byte}
use Rattle.journal_target.proofs.Scans.{SameFound, scanned_on, gap_scanned, zeros_found}

pub data Chunk : Type 0 where
  Record : ℕ → List ℕ → Chunk
  Half : ℕ → List ℕ → Chunk
  Commit : ℕ → Chunk
  HalfCommit : Chunk

abbrev pub bytes_of : Chunk → List ℕ
bytes_of (Record n text) = record_frame n text
bytes_of (Half n text) = half (record_frame n text)
bytes_of (Commit n) = commit_frame n
bytes_of HalfCommit = commit_mark ∷ []

-- neither the number nor the text has a byte like a mark
abbrev pub IsPlain : Chunk → Type 0
IsPlain (Record n text) = (n < 253) × AllByRecursion (λ byte. byte < 253) text
IsPlain (Half n text) = (n < 253) × AllByRecursion (λ byte. byte < 253) text
IsPlain (Commit n) = n < 253
IsPlain HalfCommit = Unit {0}

abbrev pub one_if : Bool → ℕ
one_if true = 1
one_if false = 0

abbrev pub either : Bool → Bool → Bool
either true b = true
either false b = b

-- how many whole records of a transaction it is, and whether it commits it
abbrev pub whole_of : ℕ → Chunk → ℕ
whole_of t (Record n text) = one_if (n == t)
whole_of t (Half n text) = 0
whole_of t (Commit n) = 0
whole_of t HalfCommit = 0

abbrev pub commit_of : ℕ → Chunk → Bool
commit_of t (Record n text) = false
commit_of t (Half n text) = false
commit_of t (Commit n) = n == t
commit_of t HalfCommit = false

abbrev pub all_bytes : List Chunk → List ℕ
all_bytes [] = []
all_bytes (c ∷ cs) = bytes_of c ++ all_bytes cs

abbrev pub sizes : List Chunk → List ℕ
sizes [] = []
sizes (c ∷ cs) = length (bytes_of c) ∷ sizes cs

abbrev pub wholes : ℕ → List Chunk → ℕ
wholes t [] = 0
wholes t (c ∷ cs) = whole_of t c + wholes t cs

abbrev pub commits : ℕ → List Chunk → Bool
commits t [] = false
commits t (c ∷ cs) = either (commit_of t c) (commits t cs)

-- what a scan finds by the way from one state to another
pub record Adds (s r : Scan) (more : ℕ) (commit : Bool) : Type 0 where
  pub whole : r.whole ≡ s.whole + more
  pub committed : r.committed ≡ either commit s.committed

-- ---- the bytes of one append

three : {X : Type 0} (p q r : Bool) (a b c d : X) → p ≡ false → q ≡ false → r ≡ false
    → (if p then a else (if q then b else (if r then c else d))) ≡ d
three true q r a b c d i j k = absurd cc
three false true r a b c d i j k = absurd cc
three false false true a b c d i j k = absurd cc
three false false false a b c d i j k = refl

plain_byte : (t b : ℕ) (s : Scan) → b < 253 → scanned_byte t s b ≡ numbered (b == t) s
plain_byte t b s small =
    let record_no : (b == 254) ≡ false = grind (arith, nat_tests, small) in
    let commit_no : (b == 253) ≡ false = grind (arith, nat_tests, small) in
    let end_no : (b == 255) ≡ false = grind (arith, nat_tests, small) in
    three (b == 254) (b == 253) (b == 255) _ _ _ _ record_no commit_no end_no

abbrev inside : ℕ → Bool → Scan
inside whole committed = record { mode = Inside; whole = whole; committed = committed }

abbrev outside : ℕ → Bool → Scan
outside whole committed = record { mode = Outside; whole = whole; committed = committed }

text_inside : (t whole : ℕ) (committed : Bool) (text : List ℕ) → AllByRecursion (λ byte. byte < 253) text
    → scanned t (inside whole committed) text ≡ inside whole committed
text_inside t whole committed [] plain = refl
text_inside t whole committed (b ∷ text) plain =
    ap (λ (s : Scan). scanned t s text) (plain_byte t b (inside whole committed) plain.0) ∙ text_inside t whole committed text plain.1

text_outside : (t whole : ℕ) (committed : Bool) (text : List ℕ) → AllByRecursion (λ byte. byte < 253) text
    → scanned t (outside whole committed) text ≡ outside whole committed
text_outside t whole committed [] plain = refl
text_outside t whole committed (b ∷ text) plain =
    ap (λ (s : Scan). scanned t s text) (plain_byte t b (outside whole committed) plain.0) ∙ text_outside t whole committed text plain.1

ended_after : (own : Bool) (t : ℕ) (s : Scan) (text : List ℕ) → AllByRecursion (λ byte. byte < 253) text
    → scanned t (numbered own (at_mode Heading s)) (text ++ end_mark ∷ []) ≡ outside (s.whole + one_if own) s.committed
ended_after true t s text plain = scanned_on t (inside s.whole s.committed) text (end_mark ∷ [])
    ∙ ap (λ (x : Scan). scanned t x (end_mark ∷ [])) (text_inside t s.whole s.committed text plain)
ended_after false t s text plain = scanned_on t (outside s.whole s.committed) text (end_mark ∷ [])
    ∙ ap (λ (x : Scan). scanned t x (end_mark ∷ [])) (text_outside t s.whole s.committed text plain)
    ∙ ap (λ (n : ℕ). outside n s.committed) (no_more s.whole)
  where
    no_more : (n : ℕ) → n ≡ n + 0
    no_more n = omega arith

record_scanned : (t n : ℕ) (s : Scan) (text : List ℕ) → n < 253 → AllByRecursion (λ byte. byte < 253) text
    → scanned t s (record_frame n text) ≡ outside (s.whole + one_if (n == t)) s.committed
record_scanned t n s text small plain =
    ap (λ (x : Scan). scanned t x (text ++ end_mark ∷ [])) (plain_byte t n (at_mode Heading s) small) ∙ ended_after (n == t) t s text plain

-- a front of a record that hasn't its end
front_after : (own : Bool) (t : ℕ) (s : Scan) (text : List ℕ) → AllByRecursion (λ byte. byte < 253) text
    → Adds s (scanned t (numbered own (at_mode Heading s)) text) 0 false
front_after true t s text plain =
    let e = text_inside t s.whole s.committed text plain in
    record { whole = ap (λ (x : Scan). x.whole) e ∙ omega arith; committed = ap (λ (x : Scan). x.committed) e }
front_after false t s text plain =
    let e = text_outside t s.whole s.committed text plain in
    record { whole = ap (λ (x : Scan). x.whole) e ∙ omega arith; committed = ap (λ (x : Scan). x.committed) e }

front_plain : (k : ℕ) (text : List ℕ) → AllByRecursion (λ byte. byte < 253) text → AllByRecursion (λ byte. byte < 253) (take k text)
front_plain zero text plain = tt
front_plain (suc k) [] plain = tt
front_plain (suc k) (b ∷ text) plain = (plain.0, front_plain k text plain.1)

front_scanned : (k t n : ℕ) (s : Scan) (text : List ℕ) → n < 253 → AllByRecursion (λ byte. byte < 253) text
    → Adds s (scanned t s (take k (record_mark ∷ n ∷ text))) 0 false
front_scanned zero t n s text small plain = record { whole = omega arith; committed = refl }
front_scanned (suc zero) t n s text small plain = record { whole = omega arith; committed = refl }
front_scanned (suc (suc k)) t n s text small plain =
    subst (λ (x : Scan). Adds s (scanned t x (take k text)) 0 false) (sym (plain_byte t n (at_mode Heading s) small))
    (front_after (n == t) t s (take k text) (front_plain k text plain))

half_scanned : (t n : ℕ) (s : Scan) (text : List ℕ) → n < 253 → AllByRecursion (λ byte. byte < 253) text
    → Adds s (scanned t s (half (record_frame n text))) 0 false
half_scanned t n s text small plain =
    let frame = record_frame n text in
    let more : length (text ++ end_mark ∷ []) ≡ length text + 1 = length-append text (end_mark ∷ []) in
    let long : length frame ≡ length text + 3 = omega (arith, more) in
    let cut : half frame ≡ take (length frame / 2) (record_mark ∷ n ∷ text) = take-append-le (length frame / 2) (record_mark ∷ n ∷ text) (end_mark ∷ []) (omega (arith, long)) in
    subst (λ (bytes : List ℕ). Adds s (scanned t s bytes) 0 false) (sym cut) (front_scanned (length frame / 2) t n s text small plain)

commit_after : (own : Bool) (s : Scan) → Adds s (numbered own (at_mode Committing s)) 0 own
commit_after true s = record { whole = omega arith; committed = refl }
commit_after false s = record { whole = omega arith; committed = refl }

chunk_scanned : (t : ℕ) (s : Scan) (c : Chunk) → IsPlain c → Adds s (scanned t s (bytes_of c)) (whole_of t c) (commit_of t c)
chunk_scanned t s (Record n text) p =
    let e = record_scanned t n s text p.0 p.1 in
    record { whole = ap (λ (x : Scan). x.whole) e; committed = ap (λ (x : Scan). x.committed) e }
chunk_scanned t s (Half n text) p = half_scanned t n s text p.0 p.1
chunk_scanned t s (Commit n) p = subst (λ (x : Scan). Adds s x 0 (n == t)) (sym (plain_byte t n (at_mode Committing s) p)) (commit_after (n == t) s)
chunk_scanned t s HalfCommit p = record { whole = omega arith; committed = refl }

-- ---- appends one behind another

either_on : (p q b : Bool) → either q (either p b) ≡ either (either p q) b
either_on true true b = refl
either_on true false b = refl
either_on false q b = refl

adds_on : (s x r : Scan) (a b : ℕ) (p q : Bool) → Adds s x a p → Adds x r b q → Adds s r (a + b) (either p q)
adds_on s x r a b p q h k = record {
  whole = omega (arith, h.whole, k.whole);
  committed = k.committed ∙ ap (either q) h.committed ∙ either_on p q s.committed;
}

-- The same for scans that have found the same at both ends.
adds_by : (s t x r : Scan) (a : ℕ) (p : Bool) → SameFound s t → Adds t x a p → SameFound r x → Adds s r a p
adds_by s t x r a p h k i = record {
  whole = omega (arith, h.whole, k.whole, i.whole);
  committed = i.committed ∙ k.committed ∙ ap (either p) (sym h.committed);
}

nothing_added : (s : Scan) → Adds s s 0 false
nothing_added s = record { whole = omega arith; committed = refl }

pub chunks_scanned : (t : ℕ) (s : Scan) (cs : List Chunk) → AllByRecursion IsPlain cs → Adds s (scanned t s (all_bytes cs)) (wholes t cs) (commits t cs)
chunks_scanned t s [] plain = nothing_added s
chunks_scanned t s (c ∷ cs) plain =
    subst (λ (x : Scan). Adds s x (whole_of t c + wholes t cs) (either (commit_of t c) (commits t cs))) (sym (scanned_on t s (bytes_of c) (all_bytes cs)))
    (adds_on s (scanned t s (bytes_of c)) _ _ _ _ _ (chunk_scanned t s c plain.0) (chunks_scanned t (scanned t s (bytes_of c)) cs plain.1))

abbrev pub kept_of : List Chunk → List Bool → List Chunk
kept_of [] keep = []
kept_of (c ∷ cs) [] = []
kept_of (c ∷ cs) (true ∷ keep) = c ∷ kept_of cs keep
kept_of (c ∷ cs) (false ∷ keep) = kept_of cs keep

laid_behind : (c : Chunk) (cs : List Chunk) (keep : List Bool) → laid (drop (length (bytes_of c)) (all_bytes (c ∷ cs))) (sizes cs) keep ≡ laid (all_bytes cs) (sizes cs) keep
laid_behind c cs keep = ap (λ (bytes : List ℕ). laid bytes (sizes cs) keep) (drop-append_seam (bytes_of c) (all_bytes cs))

laid_scanned : (t : ℕ) (s : Scan) (cs : List Chunk) (keep : List Bool) → 0 < t → AllByRecursion IsPlain cs
    → Adds s (scanned t s (laid (all_bytes cs) (sizes cs) keep)) (wholes t (kept_of cs keep)) (commits t (kept_of cs keep))
laid_scanned t s [] keep some plain = nothing_added s
laid_scanned t s (c ∷ cs) [] some plain = nothing_added s
laid_scanned t s (c ∷ cs) (true ∷ keep) some plain =
    let front : take (length (bytes_of c)) (all_bytes (c ∷ cs)) ≡ bytes_of c = take-append_seam (bytes_of c) (all_bytes cs) in
    let rest = laid (all_bytes cs) (sizes cs) keep in
    let e : laid (all_bytes (c ∷ cs)) (sizes (c ∷ cs)) (true ∷ keep) ≡ bytes_of c ++ rest = cc (front, laid_behind c cs keep) in
    let scan = ap (scanned t s) e ∙ scanned_on t s (bytes_of c) rest in
    subst (λ (x : Scan). Adds s x (whole_of t c + wholes t (kept_of cs keep)) (either (commit_of t c) (commits t (kept_of cs keep)))) (sym scan)
    (adds_on s (scanned t s (bytes_of c)) _ _ _ _ _ (chunk_scanned t s c plain.0) (laid_scanned t (scanned t s (bytes_of c)) cs keep some plain.1))
laid_scanned t s (c ∷ cs) (false ∷ keep) some plain =
    let size = length (bytes_of c) in
    let rest = laid (all_bytes cs) (sizes cs) keep in
    let e : laid (all_bytes (c ∷ cs)) (sizes (c ∷ cs)) (false ∷ keep) ≡ gap size rest = ap (gap size) (laid_behind c cs keep) in
    let zeros = scanned t s (replicate size 0) in
    subst (λ (bytes : List ℕ). Adds s (scanned t s bytes) (wholes t (kept_of cs keep)) (commits t (kept_of cs keep))) (sym e)
    (adds_by s zeros (scanned t zeros rest) (scanned t s (gap size rest)) _ _ (zeros_found t size s some) (laid_scanned t zeros cs keep some plain.1)
    (gap_scanned t size s rest some))

-- ---- the file of some appends that last, and of some that are pending

pub record IsOf (f : File) (lasting waiting : List Chunk) : Type 0 where
  pub bytes : f.bytes ≡ all_bytes lasting ++ all_bytes waiting
  pub synced : f.synced ≡ length (all_bytes lasting)
  pub pending : f.pending ≡ sizes waiting

left_is : (f : File) (lasting waiting : List Chunk) (keep : List Bool) → IsOf f lasting waiting
    → left f keep ≡ all_bytes lasting ++ laid (all_bytes waiting) (sizes waiting) keep
left_is f lasting waiting keep h =
    cc (h.bytes, h.synced, h.pending, take-append_seam (all_bytes lasting) (all_bytes waiting), drop-append_seam (all_bytes lasting) (all_bytes waiting))

pub left_scanned : (t : ℕ) (s : Scan) (f : File) (lasting waiting : List Chunk) (keep : List Bool) → 0 < t → IsOf f lasting waiting
    → AllByRecursion IsPlain lasting → AllByRecursion IsPlain waiting
    → Adds s (scanned t s (left f keep)) (wholes t lasting + wholes t (kept_of waiting keep)) (either (commits t lasting) (commits t (kept_of waiting keep)))
left_scanned t s f lasting waiting keep some h plain others =
    let middle = scanned t s (all_bytes lasting) in
    let scan = ap (scanned t s) (left_is f lasting waiting keep h) ∙ scanned_on t s (all_bytes lasting) (laid (all_bytes waiting) (sizes waiting) keep) in
    subst (λ (x : Scan). Adds s x (wholes t lasting + wholes t (kept_of waiting keep)) (either (commits t lasting) (commits t (kept_of waiting keep)))) (sym scan)
    (adds_on s middle _ _ _ _ _ (chunks_scanned t s lasting plain) (laid_scanned t middle waiting keep some others))

-- ---- one append more

pub wholes_on : (t : ℕ) (xs ys : List Chunk) → wholes t (xs ++ ys) ≡ wholes t xs + wholes t ys
wholes_on t [] ys = omega arith
wholes_on t (c ∷ xs) ys = let e = wholes_on t xs ys in omega (arith, e)

pub commits_on : (t : ℕ) (xs ys : List Chunk) → commits t (xs ++ ys) ≡ either (commits t xs) (commits t ys)
commits_on t [] ys = refl
commits_on t (c ∷ xs) ys = ap (either (commit_of t c)) (commits_on t xs ys) ∙ again (commit_of t c) (commits t xs) (commits t ys)
  where
    again : (a b d : Bool) → either a (either b d) ≡ either (either a b) d
    again true b d = refl
    again false b d = refl

pub plain_on : (xs ys : List Chunk) → AllByRecursion IsPlain xs → AllByRecursion IsPlain ys → AllByRecursion IsPlain (xs ++ ys)
plain_on [] ys h k = k
plain_on (c ∷ xs) ys h k = (h.0, plain_on xs ys h.1 k)

all_bytes_on : (xs ys : List Chunk) → all_bytes (xs ++ ys) ≡ all_bytes xs ++ all_bytes ys
all_bytes_on [] ys = refl
all_bytes_on (c ∷ xs) ys = ap (λ (bytes : List ℕ). bytes_of c ++ bytes) (all_bytes_on xs ys) ∙ sym (append_assoc (bytes_of c) (all_bytes xs) (all_bytes ys))

sizes_on : (xs : List Chunk) (c : Chunk) → sizes (xs ++ c ∷ []) ≡ sizes xs ++ length (bytes_of c) ∷ []
sizes_on [] c = refl
sizes_on (x ∷ xs) c = ap (λ (rest : List ℕ). length (bytes_of x) ∷ rest) (sizes_on xs c)

pub appended_is : (f : File) (lasting waiting : List Chunk) (c : Chunk) → IsOf f lasting waiting → IsOf (appended_to f (bytes_of c)) lasting (waiting ++ c ∷ [])
appended_is f lasting waiting c h = record {
  bytes = cc (h.bytes, all_bytes_on waiting (c ∷ []), append-nil (bytes_of c), append_assoc (all_bytes lasting) (all_bytes waiting) (bytes_of c));
  synced = h.synced;
  pending = cc (h.pending, sizes_on waiting c);
}

pub synced_is : (f : File) (lasting waiting : List Chunk) → IsOf f lasting waiting → IsOf (synced_file f) (lasting ++ waiting) []
synced_is f lasting waiting h = record {
  bytes = cc (h.bytes, all_bytes_on lasting waiting, append-nil (all_bytes (lasting ++ waiting)));
  synced = ap length (h.bytes ∙ sym (all_bytes_on lasting waiting));
  pending = refl;
}
