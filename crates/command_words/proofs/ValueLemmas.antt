-- Each row that a walk leaves has a value, if each rule takes at least one and the walk has no fault.
use Rattle.std.proofs.Common.{◌≡◌, ◌&&◌, ◌++◌, ℕ, zero, suc, Bool, true, false, List, [], ◌∷◌, Option, Some, None, arith, drop, length, nat_le, nat_lt, is_some, refl, if◌then◌else◌, find}
use Rattle.std.specs.Prelude.{encode_utf8, fold, option_and_then, slice_get}
use Rattle.std.specs.List.{list_all}
use Rattle.std.specs.Option.{option_map_or}
use Rattle.std.specs.Str.{bytes_eq, chars}
use Rattle.std.proofs.lemmas.Bool.{and_parts, false≢true, lt-ltb}
use borrow.Author.Tests.{leb-true}
use Rattle.command_words.proofs.HelpLemmas.{no_faults}
use Rattle.std.proofs.lemmas.List.Folds.{list_all-append}
use Rattle.clap.specs.Lexer.{long_of, short_of}
use Rattle.clap.specs.Facts.{unwrap_or_range}
use Rattle.clap.specs.Simple.{Shape}
use Rattle.clap.specs.Walk.{Held, Names, Outcome, Row, Rule, Step, Text, Waiting, Walk, action_of, after_flag, after_step, arg_by_id, arg_by_index, arg_by_long, arg_by_short, at_row, attached_value, bundle_met, bundle_step, done, default_rows, first_of, flag_met, idle, is_pending, long_met, long_or_other, more_values, most_values, next, nothing_held, option, option_met, option_word, plain, plain_word, positional, pushed, reacted, reading_by, refused, rows_after, settled, settled_rows, short_met, short_or_plain, subcommand, subcommand_met, subcommand_or_other, takes_several, takes_values, to_positional, trailing, used, used_as, used_by_id, value, values_or_missing, waits, walk, walk_from, has_row, walked, walked_from, with_default, with_values, without, word_met}
use Rattle.clap.specs.Kinds.{Kinds, or_else, range_kinds}
use Rattle.clap.specs.Faults.{action_fault, bundle_step_fault, flag_word_fault, flags_fault, level_fault, long_fault, option_fault, other_fault, positional_fault, react_fault, settle_fault, short_fault, step_fault, stray_fault, turn_fault, use_fault, walk_fault, word_fault}
use Rattle.clap.specs.declared.error.kind.ErrorKind.TheVariants.{InvalidValue, TooManyValues}
use Rattle.clap.specs.declared.builder.action.ArgAction.{ArgAction}
use Rattle.clap.specs.declared.builder.action.ArgAction.TheVariants.{Set, SetTrue, Help}
use Rattle.clap.specs.declared.parser.matches.ValueSource.{ValueSource}
use Rattle.clap.specs.declared.builder.value_parser.Reading.{Reading}

abbrev has_some : List Text → Bool
has_some [] = false
has_some (x ∷ xs) = true

has_some-more : (xs : List Text) (v : Text) (vs : List Text) → has_some (xs ++ v ∷ vs) ≡ true
has_some-more [] v vs = refl
has_some-more (x ∷ xs) v vs = refl

-- each row has a value
abbrev pub all_have : List Row → Bool
all_have = list_all (λ r. has_some r.values)

all_have-at_row : (id : Text) (change : Row → List Row) (missing rows : List Row) → all_have missing ≡ true → ((r : Row) → all_have (change r) ≡ true) → all_have rows ≡ true → all_have (at_row id change missing rows) ≡ true
all_have-at_row id change missing [] m k h = m
all_have-at_row id change missing (r ∷ rs) m k h =
    let (here, more) = and_parts (has_some r.values) (all_have rs) h in
    elim (bytes_eq r.id id) as (λ b. all_have (if b then change r ++ rs else r ∷ at_row id change missing rs) ≡ true) [
      | true ↦ rw (list_all-append, k r) more
      | false ↦ rw here (all_have-at_row id change missing rs m k more)
    ]

all_have-without : (id : Text) (rows : List Row) → all_have rows ≡ true → all_have (without id rows) ≡ true
all_have-without id rows h = all_have-at_row id (λ _. []) [] rows refl (λ r. refl) h

all_have-with_values : (id : Text) (how : Reading) (s : ValueSource) (v : Text) (vs : List Text) (rows : List Row) → all_have rows ≡ true → all_have (with_values id how s (v ∷ vs) rows) ≡ true
all_have-with_values id how s v vs rows h =
    all_have-at_row id (more_values s (v ∷ vs)) _ rows refl (λ r. rw (has_some-more r.values v vs) refl) h

-- No values are too few if one is wanted.
one_wanted : (least most : ℕ) → nat_le 1 least ≡ true → range_kinds least most 0 ≡ [] → ⊥
one_wanted least most one none =
    let positive : nat_lt 0 least ≡ true = lt-ltb 0 least (omega (arith, leb-true 1 least one)) in
    let refused : InvalidValue ∷ [] ≡ [] = rw positive at none in
    cc

-- The rule takes at least one value, or has a value for its use without one, or is a call for help.
abbrev fills : ArgAction → Rule → Bool
fills Set a = nat_le 1 (unwrap_or_range a.range).start_inclusive
fills SetTrue a = has_some a.missing
fills Help a = true
fills _ a = false

abbrev pub is_filled : Rule → Bool
is_filled a = fills (action_of a) a

set-has : (a : Rule) (values : List Text) (rows : List Row) → has_some values ≡ true → all_have rows ≡ true → all_have (used_as SetTrue a.id (reading_by a) values rows) ≡ true
set-has a [] rows f h = absurd (false≢true f)
set-has a (v ∷ vs) rows f h = all_have-with_values a.id (reading_by a) _ v vs _ (all_have-without a.id rows h)

used-has : (x : ArgAction) (a : Rule) (most : ℕ) (values : List Text) (rows : List Row) → fills x a ≡ true → range_kinds (unwrap_or_range a.range).start_inclusive most (length values) ≡ [] → all_have rows ≡ true
    → all_have (used_as x a.id (reading_by a) (values_or_missing a values) rows) ≡ true
used-has Set a most [] rows f p h = absurd (one_wanted (unwrap_or_range a.range).start_inclusive most f p)
used-has Set a most (v ∷ vs) rows f p h = all_have-with_values a.id (reading_by a) _ v vs _ (all_have-without a.id rows h)
used-has SetTrue a most [] rows f p h = set-has a a.missing rows f h
used-has SetTrue a most (v ∷ vs) rows f p h = all_have-with_values a.id (reading_by a) _ v vs _ (all_have-without a.id rows h)
used-has Help a most values rows f p h = h
used-has _ a most values rows f p h = absurd (false≢true f)

use-has : (again : Bool) (a : Rule) (values : List Text) (rows : List Row) → is_filled a ≡ true → use_fault again a values rows ≡ [] → all_have rows ≡ true → all_have (used a values rows) ≡ true
use-has again a values rows f p h =
    let range = (no_faults (range_kinds (unwrap_or_range a.range).start_inclusive (most_values a) (length values)) (action_fault (action_of a) again a (values_or_missing a values) rows) p).0 in
    used-has (action_of a) a (most_values a) values rows f range h

abbrev Uses : Option Rule → Type 0
Uses None = Unit {0}
Uses (Some a) = is_filled a ≡ true

found-uses : (p : Rule → Bool) (c : List Rule) → list_all is_filled c ≡ true → Uses (find p c)
found-uses p [] h = tt
found-uses p (a ∷ c) h =
    let (here, more) = and_parts (is_filled a) (list_all is_filled c) h in
    elim (p a) as (λ b. Uses (if b then Some a else find p c)) [ true ↦ here | false ↦ found-uses p c more ]

module _ (c : List Rule) (fit : list_all is_filled c ≡ true) (again : Bool) where
  by_id-has : (o : Option Rule) (values : List Text) (rows : List Row) → Uses o → option_map_or (λ a. use_fault again a values rows) o [] ≡ [] → all_have rows ≡ true → all_have (used_by_id o values rows) ≡ true
  by_id-has None values rows u p h = h
  by_id-has (Some a) values rows u p h = use-has again a values rows u p h

  settled-has : (q : Option (Text × List Text)) (rows : List Row) → option_map_or (λ p. option_map_or (λ a. use_fault again a p.1 rows) (arg_by_id c p.0) []) q [] ≡ [] → all_have rows ≡ true
      → all_have (settled_rows c q rows) ≡ true
  settled-has None rows p h = h
  settled-has (Some q) rows p h = by_id-has (arg_by_id c q.0) q.1 rows (found-uses (λ a. bytes_eq a.id q.0) c fit) p h

  reacted-has : (a : Rule) (values : List Text) (h : Held) → is_filled a ≡ true → react_fault c again a values h ≡ [] → all_have h.rows ≡ true → all_have (reacted c a values h).rows ≡ true
  reacted-has a values h f p g =
      let (first, then_use) = no_faults (settle_fault c again h) (use_fault again a values (settled c h).rows) p in
      use-has again a values (settled c h).rows f then_use (settled-has h.pending h.rows first g)

  option-has : (a : Rule) (v : Option Text) (h : Held) → is_filled a ≡ true → option_fault c again a v h ≡ [] → all_have h.rows ≡ true → all_have (option_met c a v h).0.rows ≡ true
  option-has a (Some v) h f p g = reacted-has a (v ∷ []) h f p g
  option-has a None h f p g = settled-has h.pending h.rows p g

  flag-has : (a : Rule) (v : Option Text) (h : Held) → is_filled a ≡ true → (if is_some v then TooManyValues ∷ [] else react_fault c again a [] h) ≡ [] → all_have h.rows ≡ true → all_have (flag_met c a v h).0.rows ≡ true
  flag-has a (Some v) h f p g = g
  flag-has a None h f p g = reacted-has a [] h f p g

  long-has : (o : Option Rule) (v : Option Text) (h : Held) → Uses o → long_fault c again o v h ≡ [] → all_have h.rows ≡ true → all_have (long_met c o v h).0.rows ≡ true
  long-has None v h u p g = g
  long-has (Some a) v h u p g =
      elim (takes_values a) as (λ b. (if b then option_fault c again a v h else (if is_some v then TooManyValues ∷ [] else react_fault c again a [] h)) ≡ [] → all_have (if b then option_met c a v h else flag_met c a v h).0.rows ≡ true) [
        | true ↦ λ p. option-has a v h u p g
        | false ↦ λ p. flag-has a v h u p g
      ] p

  short-has : (o : Option Rule) (rest : Text) (h : Held) (fault : Held → Kinds) (onward : Held → Held × Outcome) → Uses o → short_fault c again o rest h fault ≡ []
      → ((k : Held) → fault k ≡ [] → all_have k.rows ≡ true → all_have (onward k).0.rows ≡ true) → all_have h.rows ≡ true → all_have (short_met c o rest h onward).0.rows ≡ true
  short-has None rest h fault onward u p ih g = g
  short-has (Some a) rest h fault onward u p ih g =
      elim (takes_values a) as (λ b. (if b then option_fault c again a (attached_value rest) h else or_else (react_fault c again a [] h) (fault (reacted c a [] h))) ≡ []
      → all_have (if b then option_met c a (attached_value rest) h else onward (reacted c a [] h)).0.rows ≡ true) [
        | true ↦ λ p. option-has a (attached_value rest) h u p g
        | false ↦ λ p. let (first, more) = no_faults (react_fault c again a [] h) (fault (reacted c a [] h)) p in ih (reacted c a [] h) more (reacted-has a [] h u first g)
      ] p

  bundle_step-has : (k : ℕ) (o : Option ℕ) (flags : Text) (skip : ℕ) (so_far : Outcome) (h : Held)
      → ((flags : Text) (skip : ℕ) (so_far : Outcome) (h : Held) → flags_fault c again k flags skip h ≡ [] → all_have h.rows ≡ true → all_have (bundle_met c k flags skip so_far h).0.rows ≡ true)
      → bundle_step_fault c again o flags skip h (flags_fault c again k) ≡ [] → all_have h.rows ≡ true → all_have (bundle_step c o flags skip so_far h (bundle_met c k)).0.rows ≡ true
  bundle_step-has k None flags skip so_far h ih p g = g
  bundle_step-has k (Some x) flags zero so_far h ih p g =
      let rest : Text = drop (length (encode_utf8 x)) flags in
      short-has (arg_by_short c x) rest h (flags_fault c again k rest 0) (bundle_met c k rest 0 done) (found-uses _ c fit) p (λ j q g. ih rest 0 done j q g) g
  bundle_step-has k (Some x) flags (suc skip) so_far h ih p g = ih (drop (length (encode_utf8 x)) flags) skip so_far h p g

  bundle-has : (k : ℕ) (flags : Text) (skip : ℕ) (so_far : Outcome) (h : Held) → flags_fault c again k flags skip h ≡ [] → all_have h.rows ≡ true → all_have (bundle_met c k flags skip so_far h).0.rows ≡ true
  unfolding flags_fault bundle_met
  bundle-has zero flags skip so_far h p g = g
  bundle-has (suc k) flags skip so_far h p g = bundle_step-has k (slice_get (chars flags) 0) flags skip so_far h (bundle-has k) p g

  option_word-has : (o : Option Rule) (id word : Text) (h : Held) → all_have h.rows ≡ true → all_have (option_word o id word h).0.rows ≡ true
  option_word-has None id word h g = g
  option_word-has (Some a) id word h g = g

  plain-has : (waiting : Waiting) (word : Text) (h : Held) → all_have h.rows ≡ true → all_have (plain_word c waiting word h).0.rows ≡ true
  plain-has idle word h g = g
  plain-has (option id) word h g = option_word-has (arg_by_id c id) id word h g
  plain-has positional word h g = g

  after-has : (waiting : Waiting) (word : Text) (h : Held) (o : Outcome) → all_have h.rows ≡ true → all_have (after_flag c waiting word h o).0.rows ≡ true
  after-has waiting word h done g = g
  after-has waiting word h (waits id) g = g
  after-has waiting word h plain g = plain-has waiting word h g
  after-has waiting word h refused g = plain-has waiting word h g

  short_word-has : (waiting : Waiting) (word : Text) (o : Option Text) (h : Held) → option_map_or (λ flags. flags_fault c again (length flags) flags h.skip (record h { skip = 0 })) o [] ≡ []
      → all_have h.rows ≡ true → all_have (short_or_plain c waiting word o h).0.rows ≡ true
  short_word-has waiting word None h p g = plain-has waiting word h g
  short_word-has waiting word (Some flags) h p g =
      let now : Held = record h { skip = 0 } in
      let met : Held × Outcome = bundle_met c (length flags) flags h.skip plain now in
      after-has waiting word met.0 met.1 (bundle-has (length flags) flags h.skip plain now p g)

  long_word-has : (waiting : Waiting) (word : Text) (o : Option (Text × Option Text)) (h : Held) → flag_word_fault c again o word h ≡ [] → all_have h.rows ≡ true
      → all_have (long_or_other c waiting word o h).0.rows ≡ true
  long_word-has waiting word None h p g = short_word-has waiting word (short_of word) h p g
  long_word-has waiting word (Some q) h p g =
      let met : Held × Outcome = long_met c (arg_by_long c q.0) q.1 h in
      after-has waiting word met.0 met.1 (long-has (arg_by_long c q.0) q.1 h (found-uses _ c fit) p g)

-- a level's walk
module _ (s : Shape) (names : Names) (fit : list_all is_filled s.rules ≡ true) where
  other-has : (o : Option Text) (waiting : Waiting) (position : ℕ) (word : Text) (h : Held) → other_fault s o word h ≡ [] → all_have h.rows ≡ true
      → all_have (subcommand_or_other s.rules o waiting position word h).0.rows ≡ true
  other-has (Some name) waiting position word h p g = g
  other-has None waiting position word h p g =
      elim (bytes_eq word (45 ∷ 45 ∷ [])) as (λ b. (if b then [] else flag_word_fault s.rules s.args_override_self (long_of word) word h) ≡ []
      → all_have (if b then (h, trailing position) else long_or_other s.rules waiting word (long_of word) h).0.rows ≡ true) [
        | true ↦ λ p. g
        | false ↦ λ p. long_word-has s.rules fit s.args_override_self waiting word (long_of word) h p g
      ] p

  word-has : (is_trailing : Bool) (waiting : Waiting) (position : ℕ) (word : Text) (h : Held) → word_fault s names is_trailing waiting word h ≡ [] → all_have h.rows ≡ true
      → all_have (word_met s.rules names is_trailing waiting position word h).0.rows ≡ true
  word-has true waiting position word h p g = g
  word-has false waiting position word h p g = other-has (subcommand_met names waiting word) waiting position word h p g

  positional-has : (o : Option Rule) (word : Text) (w : Walk) (h : Held) → option_map_or (λ a. positional_fault s.rules s.args_override_self a h) o (stray_fault s) ≡ [] → all_have h.rows ≡ true
      → all_have (to_positional s.rules o word w h).held.rows ≡ true
  positional-has None word w h p g = g
  positional-has (Some a) word w h p g =
      elim (is_pending a h.pending && takes_several a) as (λ b. (if b then [] else settle_fault s.rules s.args_override_self h) ≡ [] → all_have (pushed a.id word (if b then h else settled s.rules h)).rows ≡ true) [
        | true ↦ λ p. g
        | false ↦ λ p. settled-has s.rules fit s.args_override_self h.pending h.rows p g
      ] p

  step-has : (st : Step) (word : Text) (w : Walk) (h : Held) → step_fault s w.position h st ≡ [] → all_have h.rows ≡ true → all_have (after_step s.rules word w h st).held.rows ≡ true
  step-has (next waiting) word w h p g = g
  step-has (trailing position) word w h p g = g
  step-has (subcommand name) word w h p g = g
  step-has value word w h p g = positional-has (arg_by_index s.rules w.position) word w h p g

  turn-has : (o : Option (Text × List Text)) (w : Walk) (word : Text)
      → (if is_some o then [] else or_else (word_fault s names w.is_trailing w.waiting word w.held)
      (step_fault s w.position (word_met s.rules names w.is_trailing w.waiting w.position word w.held).0 (word_met s.rules names w.is_trailing w.waiting w.position word w.held).1)) ≡ []
      → all_have w.held.rows ≡ true → all_have (walked_from s.rules names o w word).held.rows ≡ true
  turn-has (Some q) w word p g = g
  turn-has None w word p g =
      let met : Held × Step = word_met s.rules names w.is_trailing w.waiting w.position word w.held in
      let (first, then_step) = no_faults (word_fault s names w.is_trailing w.waiting word w.held) (step_fault s w.position met.0 met.1) p in
      step-has met.1 word w met.0 then_step (word-has w.is_trailing w.waiting w.position word w.held first g)

  walked-has : (w : Walk) (word : Text) → turn_fault s names w word ≡ [] → all_have w.held.rows ≡ true → all_have (walked s.rules names w word).held.rows ≡ true
  unfolding walked
  walked-has w word p g = turn-has w.stopped w word p g

  walk-has : (w : Walk) (words : List Text) → walk_fault s names w words ≡ [] → all_have w.held.rows ≡ true → all_have (fold (walked s.rules names) w words).held.rows ≡ true
  unfolding walk_fault
  walk-has w [] p g = g
  walk-has w (word ∷ rest) p g =
      let (first, more) = no_faults (turn_fault s names w word) (walk_fault s names (walked s.rules names w word) rest) p in
      walk-has (walked s.rules names w word) rest more (walked-has w word first g)

default_rows-has : (id : Text) (how : Reading) (vs : List Text) (rows : List Row) → all_have rows ≡ true → all_have (default_rows id how vs rows) ≡ true
default_rows-has id how [] rows g = g
default_rows-has id how (v ∷ vs) rows g = all_have-with_values id how _ v vs rows g

defaults-has : (c : List Rule) (rows : List Row) → all_have rows ≡ true → all_have (fold with_default rows c) ≡ true
defaults-has [] rows g = g
defaults-has (a ∷ c) rows g = defaults-has c (with_default rows a) (one (has_row a.id rows))
  where
    one : (b : Bool) → all_have (if b then rows else default_rows a.id (reading_by a) a.defaults rows) ≡ true
    one true = g
    one false = default_rows-has a.id (reading_by a) a.defaults rows g

-- each row of a level without a fault has a value
pub level-has : (s : Shape) (words : List Text) → list_all is_filled s.rules ≡ true → level_fault s [] nothing_held words false [] ≡ [] → all_have (rows_after s.rules [] words) ≡ true
level-has s words fit p =
    let end : Held = (walk s.rules [] nothing_held words).held in
    let after_walk = no_faults (walk_fault s [] (walk_from nothing_held) words) _ p in
    let after_settle = no_faults (settle_fault s.rules s.args_override_self end) _ after_walk.1 in
    defaults-has s.rules (settled s.rules end).rows
    (settled-has s.rules fit s.args_override_self end.pending end.rows after_settle.0 (walk-has s [] fit (walk_from nothing_held) words after_walk.0 refl))

first-in : (vs : List Text) → has_some vs ≡ true → is_some (slice_get vs 0) ≡ true
first-in [] h = absurd (false≢true h)
first-in (v ∷ vs) h = refl

-- an entry among rows that all have a value has a first value
pub first-there : (id : Text) (rows : List Row) → all_have rows ≡ true → is_some (find (λ r. bytes_eq r.id id) rows) ≡ true → is_some (first_of id rows) ≡ true
first-there id [] h e = absurd (false≢true e)
first-there id (r ∷ rs) h e =
    let (here, more) = and_parts (has_some r.values) (all_have rs) h in
    elim (bytes_eq r.id id) as (λ b. is_some (if b then Some r else find (λ r. bytes_eq r.id id) rs) ≡ true → is_some (option_and_then (λ r. slice_get r.values 0) (if b then Some r else find (λ r. bytes_eq r.id id) rs)) ≡ true) [
      | true ↦ λ e. first-in r.values here
      | false ↦ λ e. first-there id rs more e
    ] e
