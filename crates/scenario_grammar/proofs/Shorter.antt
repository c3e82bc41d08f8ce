-- What is printed is no longer than the text that spells it.
use Rattle.std.proofs.Common.{◌≡◌, ℕ, zero, suc, ◌+◌, ◌-◌, ◌*◌, ◌/◌, ◌%◌, ◌^◌, ◌<◌, ◌≤◌, List, [], ◌∷◌, ◌++◌, Bool, true, false, ◌&&◌, eqb, leb, ltb, cond, length, min, Option, Some, None, refl, ap, sym, ◌∙◌, arith, ◌⊎◌, inl, inr, length-append}
use Rattle.std.specs.Prelude.{codes}
use Rattle.std.specs.Fmt.{decimal}
use Rattle.std.specs.Char.{is_ascii_digit}
use Rattle.std.specs.List.{list_all, flat_map, slice_split, onto_first}
use Rattle.std.specs.Str.{bytes_eq}
use Rattle.std.proofs.lemmas.Bool.Decides.{nat_tests}
use Rattle.std.proofs.lemmas.Slice.Eq.{bytes_eq-Decides}
use Rattle.std.proofs.lemmas.Fmt.{length-decimal-le, decimal_digit}
use Rattle.std.proofs.lemmas.Str.Parse.{digits_value_short}
use Rattle.indexmap.specs.IndexMap.{insert_entry, insert_all}
use Rattle.scenario_values.specs.declared.term.Term.{Term}
use Rattle.scenario_values.specs.declared.term.Task.{Task}
use Rattle.scenario_values.specs.declared.term.Task.TheVariants as tasks
use Rattle.scenario_values.specs.Words.{trimmed}
use Rattle.scenario_values.specs.Scenario.{Entries}
use Rattle.scenario_values.specs.Printed.{decimals_of, point_and, share_text, count_text, argument_text, task_text, term_text, chain_text, entry_text, printed}
use Rattle.scenario_grammar.specs.Words.{cut_at_arrows, is_number, number}
use Rattle.scenario_grammar.specs.Spelling.{WholePercent, DecimalPercent, SpellsShare, SpellsCount, Millis, Names, with_argument, SpellsTerm, SpellsParts, SpellsAction, SpellsPieces}
use Rattle.scenario_grammar.proofs.CutLaws.{and_true}
use Rattle.scenario_grammar.proofs.Numbers.{own}
use Rattle.scenario_grammar.proofs.Inside.{trimmed_inside, inside_shorter}

-- ---- numbers

some_digits : (text : List ℕ) → is_number text ≡ true → 0 < length text
some_digits text h = let t = and_true (leb 1 (length text)) (list_all is_ascii_digit text) h in positive (length text) t.0
  where
    positive : (n : ℕ) → leb 1 n ≡ true → 0 < n
    positive n h = grind (arith, nat_tests)

pub number_small : (text : List ℕ) (k : ℕ) → is_number text ≡ true → length text ≤ k → number text < 10 ^ k
number_small text k h le = digits_value_short own text k (and_true (leb 1 (length text)) (list_all is_ascii_digit text) h).1 le

pub decimal_shorter : (text : List ℕ) (n : ℕ) → is_number text ≡ true → number text ≡ n → n < 2 ^ 64 → length (decimal n) ≤ length text
decimal_shorter text n h e small =
    let less : number text < 10 ^ length text = number_small text (length text) h (omega arith) in
    length-decimal-le (length text) n (some_digits text h) (rw (← e) less) small

-- ---- the share

-- at most one digit a place
step : (places n r k : ℕ) → n / 10 ^ places < 10 → n % 10 ^ places ≡ r → length (decimals_of places r) ≤ k → length (decimals_of (suc places) n) ≤ suc k
step places n r k small e h = by_test (eqb n 0)
  where
    by_test : (t : Bool) → length (cond t [] (decimal (n / 10 ^ places) ++ decimals_of places (n % 10 ^ places))) ≤ suc k
    by_test true = omega arith
    by_test false =
        let a = length-append (decimal (n / 10 ^ places)) (decimals_of places (n % 10 ^ places)) in
        let b : length (decimal (n / 10 ^ places)) ≡ 1 = ap length (decimal_digit (n / 10 ^ places) small) in
        let c : length (decimals_of places (n % 10 ^ places)) ≡ length (decimals_of places r) = ap (λ (m : ℕ). length (decimals_of places m)) e in
        omega arith

decimals_short : (k m : ℕ) → 0 < k → k ≤ 4 → m < 10 ^ k → length (decimals_of 4 (m * 10 ^ (4 - k))) ≤ k
decimals_short zero m some few less = absurd (omega arith)
decimals_short (suc zero) m some few less = step 3 (m * 1000) 0 0 (omega arith) (omega arith) (omega arith)
decimals_short (suc (suc zero)) m some few less =
    step 3 (m * 100) ((m * 100) % 1000) 1 (omega arith) refl
    (step 2 ((m * 100) % 1000) 0 0 (omega arith) (omega arith) (omega arith))
decimals_short (suc (suc (suc zero))) m some few less =
    step 3 (m * 10) ((m * 10) % 1000) 2 (omega arith) refl
    (step 2 ((m * 10) % 1000) (((m * 10) % 1000) % 100) 1 (omega arith) refl
    (step 1 (((m * 10) % 1000) % 100) 0 0 (omega arith) (omega arith) (omega arith)))
decimals_short (suc (suc (suc (suc zero)))) m some few less =
    step 3 (m * 1) ((m * 1) % 1000) 3 (omega arith) refl
    (step 2 ((m * 1) % 1000) (((m * 1) % 1000) % 100) 2 (omega arith) refl
    (step 1 (((m * 1) % 1000) % 100) ((((m * 1) % 1000) % 100) % 10) 1 (omega arith) refl
    (step 0 ((((m * 1) % 1000) % 100) % 10) (((((m * 1) % 1000) % 100) % 10) % 1) 0 (omega arith) refl (omega arith))))
decimals_short (suc (suc (suc (suc (suc k))))) m some few less = absurd (omega arith)

scaled_small : (k m : ℕ) → 0 < k → k ≤ 4 → m < 10 ^ k → m * 10 ^ (4 - k) < 10000
scaled_small zero m some few less = absurd (omega arith)
scaled_small (suc zero) m some few less = omega arith
scaled_small (suc (suc zero)) m some few less = omega arith
scaled_small (suc (suc (suc zero))) m some few less = omega arith
scaled_small (suc (suc (suc (suc zero)))) m some few less = omega arith
scaled_small (suc (suc (suc (suc (suc k))))) m some few less = absurd (omega arith)

point_short : (k m : ℕ) → 0 < k → k ≤ 4 → m < 10 ^ k → length (point_and (m * 10 ^ (4 - k))) ≤ k + 1
point_short k m some few less = by_test (eqb (m * 10 ^ (4 - k)) 0) (decimals_short k m some few less)
  where
    by_test : (t : Bool) → length (decimals_of 4 (m * 10 ^ (4 - k))) ≤ k → length (cond t [] (46 ∷ decimals_of 4 (m * 10 ^ (4 - k)))) ≤ k + 1
    by_test true h = omega arith
    by_test false h = omega arith

share_within : (share n : ℕ) → (share < 1000000 → length (decimal (share / 10000)) + length (point_and (share % 10000)) + 1 ≤ n) → length (share_text share) ≤ n
unfolding share_text
share_within share n h = by_test (ltb share 1000000) refl
  where
    is_less : ltb share 1000000 ≡ true → share < 1000000
    is_less is = grind (arith, nat_tests)

    by_test : (t : Bool) → ltb share 1000000 ≡ t → length (cond t (decimal (share / 10000) ++ point_and (share % 10000) ++ (37 ∷ [])) []) ≤ n
    by_test true is =
        let le = h (is_less is) in
        let a = length-append (decimal (share / 10000) ++ point_and (share % 10000)) (37 ∷ []) in
        let b = length-append (decimal (share / 10000)) (point_and (share % 10000)) in
        omega arith
    by_test false is = omega arith

-- the parts of a share
whole_of : (share w v : ℕ) → v < 10000 → share ≡ min 1000000 (w * 10000 + v) → share < 1000000 → (share / 10000 ≡ w) × (share % 10000 ≡ v) × (w < 100)
whole_of share w v small e less = (omega arith, omega arith, omega arith)

percent_shorter : (percent : List ℕ) (share : ℕ) → WholePercent percent share ⊎ DecimalPercent percent share → share < 1000000 → length (decimal (share / 10000)) + length (point_and (share % 10000)) ≤ length percent
percent_shorter percent share (inl h) less =
    let parts = whole_of share (number percent) 0 (omega arith) (h.value ∙ ap (λ (n : ℕ). min 1000000 n) (omega arith)) less in
    let w = parts.2 in
    let a = decimal_shorter percent (share / 10000) h.digits (sym parts.0) (let e = parts.0 in omega arith) in
    let b : length (point_and (share % 10000)) ≡ 0 = ap (λ (n : ℕ). length (point_and n)) parts.1 in
    omega arith
percent_shorter percent share (inr h) less =
    let k : ℕ = length h.decimals in
    let some = some_digits h.decimals h.decimal_digits in
    let small = number_small h.decimals k h.decimal_digits (omega arith) in
    let parts = whole_of share (number h.whole) (number h.decimals * 10 ^ (4 - k)) (scaled_small k (number h.decimals) some h.few small) h.value less in
    let w = parts.2 in
    let a = decimal_shorter h.whole (share / 10000) h.whole_digits (sym parts.0) (let e = parts.0 in omega arith) in
    let b : length (point_and (share % 10000)) ≡ length (point_and (number h.decimals * 10 ^ (4 - k))) = ap (λ (n : ℕ). length (point_and n)) parts.1 in
    let c = point_short k (number h.decimals) some h.few small in
    let d : length percent ≡ length (h.whole ++ (46 ∷ h.decimals)) = ap length h.parts in
    let e = length-append h.whole (46 ∷ h.decimals) in
    sums (length (decimal (share / 10000))) (length (point_and (share % 10000))) (length (point_and (number h.decimals * 10 ^ (4 - k)))) (length h.whole) k (length percent) a b c (d ∙ e)
  where
    sums : (x y z w k n : ℕ) → x ≤ w → y ≡ z → z ≤ k + 1 → n ≡ w + suc k → x + y ≤ n
    sums x y z w k n a b c d = omega arith

share_shorter : (text : List ℕ) (share : ℕ) → SpellsShare text share → length (share_text share) ≤ length text
share_shorter text share (inl h) = share_within share (length text) (λ less. absurd (let e = h.1 in omega arith))
share_shorter text share (inr h) =
    let e : length text ≡ length (h.percent ++ (37 ∷ [])) = ap length h.parts in
    let f = length-append h.percent (37 ∷ []) in
    share_within share (length text) (λ less. let p = percent_shorter h.percent share h.is less in omega arith)

-- ---- counts and tasks

count_shorter : (text : List ℕ) (count : Option ℕ) → SpellsCount text count → length (count_text count) ≤ length text
count_shorter text None h = omega arith
count_shorter text (Some n) h =
    let short = decimal_shorter h.count n h.is.digits h.is.value (let le = h.small in omega arith) in
    let e : length text ≡ length (h.count ++ (42 ∷ [])) = ap length h.parts in
    let f = length-append h.count (42 ∷ []) in
    let g = length-append (decimal n) (42 ∷ []) in
    omega arith

-- the length of the parentheses with what stands in them
abbrev argument_length : Option (List ℕ) → ℕ
argument_length None = 0
argument_length (Some text) = length text + 2

argument_long : (argument : Option (List ℕ)) → length (argument_text argument) ≡ argument_length argument
argument_long None = refl
argument_long (Some text) = let e = length-append text (41 ∷ []) in omega arith

with_argument_long : (head : List ℕ) (argument : Option (List ℕ)) → length (with_argument head argument) ≡ length head + argument_length argument
with_argument_long head None = omega arith
with_argument_long head (Some text) =
    let e = length-append head (40 ∷ (text ++ (41 ∷ []))) in
    let f = length-append text (41 ∷ []) in
    omega arith

kept_long : (word known : List ℕ) (argument kept : Option (List ℕ)) → word ≡ known → kept ≡ argument → length (known ++ argument_text kept) ≤ length word + argument_length argument
kept_long word known argument kept e k =
    let f = length-append known (argument_text kept) in
    let g : length word ≡ length known = ap length e in
    let h : length (argument_text kept) ≡ argument_length argument = argument_long kept ∙ ap argument_length k in
    omega arith

slept_long : (word known : List ℕ) (argument : Option (List ℕ)) (n : ℕ) → word ≡ known → Millis argument n → length (known ++ argument_text (Some (decimal n))) ≤ length word + argument_length argument
slept_long word known argument n e m =
    let f = length-append known (argument_text (Some (decimal n))) in
    let g : length word ≡ length known = ap length e in
    let h = argument_long (Some (decimal n)) in
    let short = decimal_shorter m.text n m.is.digits m.is.value (let le = m.small in omega arith) in
    let k : argument_length argument ≡ length m.text + 2 = ap argument_length m.given in
    omega arith

task_shorter : (word : List ℕ) (argument : Option (List ℕ)) (task : Task) → Names word argument task → length (task_text task) ≤ length word + argument_length argument
task_shorter word argument tasks.Off h = let e : length word ≡ 3 = ap length h in omega arith
task_shorter word argument (tasks.Return kept) h = kept_long word (codes "return") argument kept h.0 h.1
task_shorter word argument (tasks.Sleep n) h = slept_long word (codes "sleep") argument n h.0 h.1
task_shorter word argument (tasks.Panic kept) h = kept_long word (codes "panic") argument kept h.0 h.1
task_shorter word argument (tasks.Print kept) h = kept_long word (codes "print") argument kept h.0 h.1
task_shorter word argument tasks.Pause h = let e : length word ≡ 5 = ap length h in omega arith
task_shorter word argument tasks.Yield h = let e : length word ≡ 5 = ap length h in omega arith
task_shorter word argument (tasks.Delay n) h = slept_long word (codes "delay") argument n h.0 h.1

pub term_shorter : (text : List ℕ) (t : Term) → SpellsTerm text t → length (term_text t) ≤ length text
unfolding term_text
term_shorter text t h =
    let one = share_shorter h.share_text t.share h.share in
    let two = count_shorter h.count_text t.count h.count in
    let three = task_shorter h.word h.argument t.task h.task in
    let e : length text ≡ length (with_argument (h.share_text ++ (h.count_text ++ h.word)) h.argument) = ap length h.parts in
    let f = with_argument_long (h.share_text ++ (h.count_text ++ h.word)) h.argument in
    let g = length-append h.share_text (h.count_text ++ h.word) in
    let k = length-append h.count_text h.word in
    let l = length-append (share_text t.share ++ count_text t.count) (task_text t.task) in
    let m = length-append (share_text t.share) (count_text t.count) in
    omega arith

-- ---- chains, entries and texts

-- the length of parts with a separator of so many bytes behind each
abbrev pub spread : ℕ → List (List ℕ) → ℕ
spread gap [] = 0
spread gap (p ∷ ps) = length p + gap + spread gap ps

cut_spread : (text : List ℕ) → (0 < length (cut_at_arrows text)) × (spread 2 (cut_at_arrows text) ≡ length text + 2)
unfolding cut_at_arrows
cut_spread [] = (omega arith, refl)
cut_spread (b ∷ []) = (omega arith, refl)
cut_spread (b ∷ c ∷ rest) = by_test (eqb b 45 && eqb c 62) (cut_at_arrows (c ∷ rest)) (cut_spread rest) (cut_spread (c ∷ rest))
  where
    Is : List (List ℕ) → ℕ → Type 0
    Is parts n = (0 < length parts) × (spread 2 parts ≡ n)

    by_test : (t : Bool) (parts : List (List ℕ)) → Is (cut_at_arrows rest) (length rest + 2) → Is parts (suc (length rest) + 2) → Is (cond t ([] ∷ cut_at_arrows rest) (onto_first b parts)) (suc (suc (length rest)) + 2)
    by_test true parts k h = let e = k.1 in (omega arith, omega arith)
    by_test false [] k h = absurd (let l = h.0 in omega arith)
    by_test false (p ∷ ps) k h = let e = h.1 in (omega arith, omega arith)

split_spread : (c : ℕ) (text : List ℕ) → (0 < length (slice_split (λ b. eqb b c) text)) × (spread 1 (slice_split (λ b. eqb b c) text) ≡ length text + 1)
split_spread c [] = (omega arith, refl)
split_spread c (b ∷ text) = by_test (eqb b c) (slice_split (λ x. eqb x c) text) (split_spread c text)
  where
    Is : List (List ℕ) → ℕ → Type 0
    Is pieces n = (0 < length pieces) × (spread 1 pieces ≡ n)

    by_test : (t : Bool) (pieces : List (List ℕ)) → Is pieces (length text + 1) → Is (cond t ([] ∷ pieces) (onto_first b pieces)) (suc (length text) + 1)
    by_test true pieces h = let e = h.1 in (omega arith, omega arith)
    by_test false [] h = absurd (let l = h.0 in omega arith)
    by_test false (p ∷ ps) h = let e = h.1 in (omega arith, omega arith)

-- the length of the terms, each with an arrow
abbrev chain_spread : List Term → ℕ
chain_spread [] = 0
chain_spread (t ∷ ts) = length (term_text t) + 2 + chain_spread ts

rest_long : (ts : List Term) → length (flat_map (λ u. 45 ∷ 62 ∷ term_text u) ts) ≡ chain_spread ts
rest_long [] = refl
rest_long (t ∷ ts) =
    let e = length-append (45 ∷ 62 ∷ term_text t) (flat_map (λ u. 45 ∷ 62 ∷ term_text u) ts) in
    let f = rest_long ts in
    omega arith

chain_long : (ts : List Term) → length (chain_text ts) ≤ chain_spread ts - 2
unfolding chain_text
chain_long [] = omega arith
chain_long (t ∷ ts) =
    let e = length-append (term_text t) (flat_map (λ u. 45 ∷ 62 ∷ term_text u) ts) in
    let f = rest_long ts in
    omega arith

parts_shorter : (parts : List (List ℕ)) (ts : List Term) → SpellsParts parts ts → chain_spread ts ≤ spread 2 parts
parts_shorter [] [] h = omega arith
parts_shorter [] (t ∷ ts) h = absurd h
parts_shorter (p ∷ ps) [] h = absurd h
parts_shorter (p ∷ ps) (t ∷ ts) h =
    let one = term_shorter (trimmed p) t h.0 in
    let two = inside_shorter (trimmed p) p (trimmed_inside p) in
    let rest = parts_shorter ps ts h.1 in
    omega arith

pub entry_shorter : (piece : List ℕ) (e : List ℕ × List Term) → SpellsAction piece e → length (entry_text e) ≤ length piece
entry_shorter piece e h =
    let name : length e.0 ≡ length (trimmed h.front) = ap length h.name in
    let front = inside_shorter (trimmed h.front) h.front (trimmed_inside h.front) in
    let chain = chain_long e.1 in
    let parts = parts_shorter (cut_at_arrows h.back) e.1 h.chain in
    let cut = (cut_spread h.back).1 in
    let whole : length piece ≡ length (h.front ++ (61 ∷ h.back)) = ap length h.parts in
    let a = length-append h.front (61 ∷ h.back) in
    let b = length-append e.0 (61 ∷ chain_text e.1) in
    omega arith

-- the length of the entries, each with a `;`
abbrev pub entries_spread : Entries → ℕ
entries_spread [] = 0
entries_spread (e ∷ es) = length (entry_text e) + 1 + entries_spread es

others_long : (es : Entries) → length (flat_map (λ f. 59 ∷ entry_text f) es) ≡ entries_spread es
others_long [] = refl
others_long (e ∷ es) =
    let a = length-append (59 ∷ entry_text e) (flat_map (λ f. 59 ∷ entry_text f) es) in
    let b = others_long es in
    omega arith

pub printed_long : (s : Entries) → length (printed s) ≤ entries_spread s - 1
unfolding printed
printed_long [] = omega arith
printed_long (e ∷ es) =
    let a = length-append (entry_text e) (flat_map (λ f. 59 ∷ entry_text f) es) in
    let b = others_long es in
    omega arith

pieces_shorter : (pieces : List (List ℕ)) (actions : Entries) → SpellsPieces pieces actions → entries_spread actions ≤ spread 1 pieces
pieces_shorter [] [] h = omega arith
pieces_shorter [] (e ∷ es) h = absurd h
pieces_shorter (p ∷ ps) [] h = omega arith
pieces_shorter (p ∷ ps) (e ∷ es) (inl h) = let rest = pieces_shorter ps (e ∷ es) h.1 in omega arith
pieces_shorter (p ∷ ps) (e ∷ es) (inr h) =
    let one = entry_shorter (trimmed p) e h.1 in
    let two = inside_shorter (trimmed p) p (trimmed_inside p) in
    let rest = pieces_shorter ps es h.2 in
    omega arith

pub actions_shorter : (text : List ℕ) (actions : Entries) → SpellsPieces (slice_split (λ b. eqb b 59) text) actions → entries_spread actions ≤ length text + 1
actions_shorter text actions h =
    let a = pieces_shorter (slice_split (λ b. eqb b 59) text) actions h in
    let b = (split_spread 59 text).1 in
    omega arith

-- an entry put in again counts once
inserted_long : (es : Entries) (k : List ℕ) (v : List Term) → entries_spread (insert_entry bytes_eq es k v) ≤ entries_spread es + (length (entry_text (k, v)) + 1)
inserted_long [] k v = omega arith
inserted_long (e ∷ es) k v = by_test (bytes_eq k e.0) ((bytes_eq-Decides k e.0).0) (inserted_long es k v)
  where
    by_test : (t : Bool) → (t ≡ true → k ≡ e.0) → entries_spread (insert_entry bytes_eq es k v) ≤ entries_spread es + (length (entry_text (k, v)) + 1)
        → entries_spread (cond t ((e.0, v) ∷ es) (e ∷ insert_entry bytes_eq es k v)) ≤ entries_spread (e ∷ es) + (length (entry_text (k, v)) + 1)
    by_test true same h = let l : length (entry_text (e.0, v)) ≡ length (entry_text (k, v)) = ap (λ (n : List ℕ). length (entry_text (n, v))) (sym (same refl)) in omega arith
    by_test false same h = omega arith

pub all_inserted_long : (es actions : Entries) → entries_spread (insert_all bytes_eq es actions) ≤ entries_spread es + entries_spread actions
all_inserted_long es [] = omega arith
all_inserted_long es (a ∷ more) =
    let one = inserted_long es a.0 a.1 in
    let rest = all_inserted_long (insert_entry bytes_eq es a.0 a.1) more in
    omega arith
