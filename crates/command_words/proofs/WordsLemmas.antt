use Rattle.std.proofs.Common.{◌≡◌, ◌⊎◌, ◌∙◌, ◌<◌, ◌≤◌, ℕ, List, [], ◌∷◌, Bool, Option, Some, None, Result, Ok, Err, IfErr, Box, ap, ap₂, arith, codes, cond, find, inl, inr, option_map, refl, subst, sym, true, false}
use Rattle.std.proofs.lemmas.Option.{same_Some}
use Rattle.std.specs.Box.{box_value}
use Rattle.std.proofs.lemmas.Slice.Eq.{bytes_eq-Decides}
use Rattle.clap.specs.Simple.{argument_words, names_of, built, entered, label_of, rows_at, subcommand_rows, subcommand_rows_of}
use Rattle.clap.specs.Walk.{Held, answers_to, nothing_held, rows_after, settled, stop_after, walk, walk_from}
use Rattle.clap.specs.Takes.{is_given}
use Rattle.clap.specs.Facts.{explicit_source}
use Rattle.std.specs.Option.{option_map_or}
use Rattle.std.specs.Str.{bytes_eq}
use Rattle.std.specs.Prelude.{is_some, not, ◌||◌, if◌then◌else◌}
use Rattle.std.proofs.lemmas.Bool.{false≢true}
use Rattle.clap.specs.Faults.{check_fault, defaults_fault, entered_fault, fault_of, is_simple_and_free, level_fault, settle_fault, walk_fault}
use Rattle.clap.specs.Kinds.{HasKind, IsAmong, Kinds, or_else}
use Rattle.clap.specs.Values.{IsUnsignedIn, kind_of}
use Rattle.clap.specs.ValueTests.{accepts}
use Rattle.clap.specs.declared.builder.value_parser.ValueParser.TheVariants.{Unsigned}
use Rattle.clap.proofs.ValueTestLemmas.{Accepts-accepts, accepts-Accepts}
use Rattle.std.specs.Str.Parse.{IsNumeral, digits_value, without_leading_plus}
use Rattle.clap.specs.declared.error.Error.{Error}
use Rattle.clap.specs.declared.error.kind.ErrorKind.{ErrorKind}
use Rattle.clap.specs.declared.error.kind.ErrorKind.TheVariants.{MissingRequiredArgument, ValueValidation}
use Rattle.clap.specs.declared.builder.command.Command.{Command}
use Rattle.clap.specs.declared.parser.matches.Found.{Found}
use Rattle.clap.proofs.WalkLemmas.{first_value-rows}
use Rattle.command_words.specs.declared.words.Line.{Line}
use Rattle.clap.specs.Words.{App, HasMatchesOf, Row, Shape, Text, app_of, first_value, is_simple, rows_of, first_of, subcommand_name_of, subcommand_of}
use Rattle.clap.specs.declared.parser.matches.ArgMatches.{ArgMatches}
use Rattle.clap.specs.declared.parser.matches.ArgMatches.TheViews.{out-ArgMatches, out-SubCommand}
use Rattle.clap.specs.declared.parser.matches.SubCommand.{SubCommand}
use Rattle.clap.proofs.OnLiterals.{clap_on_literals}
use Rattle.command_words.proofs.HelpLemmas.{NotHelp, no_faults, not-help}
use Rattle.command_words.proofs.ValueLemmas.{all_have, first-there, level-has}
use Rattle.command_words.specs.Words.{HasNeeded, IsFaultOf, IsLine, IsLineOf, IsName, IsRefusedFor, Spells, Values, choice_fault, choice_kinds, needs_file, number_kinds, paklour, values_in, values_of, words_fault}
use Rattle.command_words.specs.declared.words.WordsFault.{WordsFault}
use Rattle.command_words.specs.declared.words.WordsFault.TheVariants.{Refused, Memory}

-- clap defines the matches of the program's command
pub paklour-simple : is_simple paklour ≡ true
unfolding paklour clap_on_literals
paklour-simple = refl

-- one of the commands has the name, and passes the test
abbrev Named : (Shape → Bool) → Text → List Shape → Type 0
Named test name [] = ⊥
Named test name (s ∷ subs) = ((name ≡ s.name) × (test s ≡ true)) ⊎ Named test name subs

-- a subcommand that a walk enters is one of the command's
entered-named : (test : Shape → Bool) (subs : List Shape) (words : List Text) (name : Text) (rows : List Row) → option_map (λ s. rows_at s words) (find test subs) ≡ Some (name, rows) → Named test name subs
entered-named test [] words name rows e = cc
entered-named test (s ∷ subs) words name rows e =
    elim (test s) as (λ b. option_map (λ x. rows_at x words) (cond b (Some s) (find test subs)) ≡ Some (name, rows) → ((name ≡ s.name) × (b ≡ true)) ⊎ Named test name subs) [
      | true ↦ λ here. inl (sym (ap (λ p. p.0) (same_Some _ _ here)), refl)
      | false ↦ λ there. inr (entered-named test subs words name rows there)
    ] e

bytes_eq-swap : (a b : Text) → bytes_eq a b ≡ true → bytes_eq b a ≡ true
bytes_eq-swap a b e =
    (bytes_eq-Decides b a).1 (sym ((bytes_eq-Decides a b).0 e))

-- `help` answers to no other name
help-only : (name : Text) → bytes_eq name (codes "help") ≡ false → answers_to name (codes "help", []) ≡ true → ⊥
help-only name n a =
    elim (bytes_eq (codes "help") name) as (λ b. bytes_eq (codes "help") name ≡ b → (b || false) ≡ true → ⊥) [
      | true ↦ λ same. λ _. false≢true (sym n ∙ bytes_eq-swap (codes "help") name same)
      | false ↦ λ _. λ h. false≢true h
    ] refl a

pub entered-name : (stop : Option (Text × List Text)) (name : Text) (rows : List Row) → NotHelp stop → entered (built paklour) stop ≡ Some (name, rows) → IsName name
unfolding paklour
entered-name None name rows n e = cc
entered-name (Some p) name rows n e =
    elim (entered-named (λ s. answers_to p.0 (label_of s)) (built paklour).subs p.1 name rows e) [
      | inl run ↦ inl (inl (inl run.0))
      | inr (inl plans) ↦ inl (inl (inr (inl plans.0)))
      | inr (inr (inl page)) ↦ inl (inl (inr (inr page.0)))
      | inr (inr (inr (inl try))) ↦ inl (inr (inl try.0))
      | inr (inr (inr (inr (inl reduce)))) ↦ inl (inr (inr (inl reduce.0)))
      | inr (inr (inr (inr (inr (inl explain))))) ↦ inl (inr (inr (inr explain.0)))
      | inr (inr (inr (inr (inr (inr (inl asks)))))) ↦ inr (inl asks.0)
      | inr (inr (inr (inr (inr (inr (inr (inl report))))))) ↦ inr (inr report.0)
      | inr (inr (inr (inr (inr (inr (inr (inr (inl help)))))))) ↦ absurd (help-only p.0 n help.1)
      | inr (inr (inr (inr (inr (inr (inr (inr (inr none)))))))) ↦ absurd none
    ]

-- the subcommand's name and its rows
entered-rows : {Z : Type 0} (sub : Option (Box SubCommand Z)) (name : Text) (rows : List Row) → Some name ≡ option_map (λ p. p.0) (subcommand_rows sub) → Some rows ≡ option_map (λ p. p.1) (subcommand_rows sub) → subcommand_rows sub ≡ Some (name, rows)
entered-rows None name rows n r = cc
entered-rows (Some b) name rows n r = ap₂ (λ x y. Some (x, y)) (sym (same_Some _ _ n)) (sym (same_Some _ _ r))

name-of : {Z : Type 0} (sub : Option (Box SubCommand Z)) → option_map (λ p. p.0) (subcommand_rows sub) ≡ option_map (λ b. (out-SubCommand (box_value b)).name.now) sub
name-of None = refl
name-of (Some b) = refl

pub rows-entered : (m : ArgMatches) (name : Text) (rows : List Row) → Some name ≡ subcommand_name_of m → Some rows ≡ option_map (λ p. p.1) (subcommand_rows_of m) → subcommand_rows_of m ≡ Some (name, rows)
rows-entered m name rows n r =
    entered-rows (out-ArgMatches m).subcommand name rows (n ∙ sym (name-of (out-ArgMatches m).subcommand)) r

pub none-entered : (m : ArgMatches) → None ≡ subcommand_name_of m → subcommand_rows_of m ≡ None
none-entered m n = without (out-ArgMatches m).subcommand n
  where
    without : {Z : Type 0} (sub : Option (Box SubCommand Z)) → None ≡ option_map (λ b. (out-SubCommand (box_value b)).name.now) sub → subcommand_rows sub ≡ None
    without None n = refl
    without (Some b) n = cc

-- the subcommand of the matches is the one that clap defines
pub entered-is : (command : Command) (m : ArgMatches) (words : List Text) → app_of command ≡ paklour → HasMatchesOf (app_of command) words m → subcommand_rows_of m ≡ subcommand_of paklour words
entered-is command m words a h =
    (h (ap is_simple a ∙ paklour-simple)).1 ∙ ap (λ (x : App). subcommand_of x words) a

keeps_help : (built paklour).top.disable_help_subcommand ≡ false
unfolding paklour
keeps_help = refl

-- words without a fault name no `help`
no-help : (words : List Text) → fault_of paklour words ≡ [] → NotHelp (stop_after (built paklour).top.rules (names_of (built paklour)) (argument_words paklour words))
no-help words none =
    not-help (built paklour).top (names_of (built paklour)) keeps_help (argument_words paklour words)
    (no_faults (walk_fault (built paklour).top (names_of (built paklour)) (walk_from nothing_held) (argument_words paklour words)) _ none).0

pub name-entered : (words : List Text) (name : Text) (rows : List Row) → fault_of paklour words ≡ [] → subcommand_of paklour words ≡ Some (name, rows) → IsName name
name-entered words name rows none e =
    entered-name (stop_after (built paklour).top.rules (names_of (built paklour)) (argument_words paklour words)) name rows (no-help words none) e

-- a parse's values are those among its rows
values-rows : (f : Found) → values_of f ≡ values_in (rows_of f)
values-rows f =
    rw (
      first_value-rows f (codes "scenario"),
      first_value-rows f (codes "plan"),
      first_value-rows f (codes "brief"),
      first_value-rows f (codes "json"),
      first_value-rows f (codes "junit"),
      first_value-rows f (codes "page"),
      first_value-rows f (codes "partial"),
      first_value-rows f (codes "explain"),
      first_value-rows f (codes "follow"),
      first_value-rows f (codes "strict"),
      first_value-rows f (codes "progress"),
      first_value-rows f (codes "progress-plain"),
      first_value-rows f (codes "file"),
    ) refl

pub line-read : (o : Option (Text × List Row)) (name : Text) (f : Found) (line : Line) → o ≡ Some (name, rows_of f) → IsLineOf name (values_of f) line → IsLine o line
line-read o name f line e h =
    let P : Values → Type 0 = λ v. IsLineOf name v line in
    let Q : Option (Text × List Row) → Type 0 = λ x. IsLine x line in
    subst Q (sym e) (subst P (values-rows f) h)

pub choice-read : (o : Option (Text × List Row)) (name : Text) (f : Found) → o ≡ Some (name, rows_of f) → choice_fault o ≡ choice_kinds name (values_of f)
choice-read o name f e = ap choice_fault e ∙ ap (choice_kinds name) (sym (values-rows f))

-- ---- a question has its FILE if the words have no fault

-- a subcommand that a walk enters, and that has no fault, is one of the command's
abbrev Passed : Text → List Row → List Text → List Shape → Type 0
Passed name rows words [] = ⊥
Passed name rows words (s ∷ subs) =
    ((name ≡ s.name) × (rows ≡ rows_after s.rules [] words) × (level_fault s [] nothing_held words false [] ≡ []))
    ⊎ Passed name rows words subs

passed-in : (test : Shape → Bool) (subs : List Shape) (words : List Text) (name : Text) (rows : List Row) → option_map (λ s. rows_at s words) (find test subs) ≡ Some (name, rows)
    → option_map_or (λ s. level_fault s [] nothing_held words false []) (find test subs) [] ≡ [] → Passed name rows words subs
passed-in test [] words name rows e t = cc
passed-in test (s ∷ subs) words name rows e t =
    elim (test s) as (λ b. option_map (λ x. rows_at x words) (cond b (Some s) (find test subs)) ≡ Some (name, rows) → option_map_or (λ x. level_fault x [] nothing_held words false []) (cond b (Some s) (find test subs)) [] ≡ [] → Passed name rows words (s ∷ subs)) [
      | true ↦ λ here passes. inl (sym (ap (λ p. p.0) (same_Some _ _ here)), sym (ap (λ p. p.1) (same_Some _ _ here)), passes)
      | false ↦ λ there passes. inr (passed-in test subs words name rows there passes)
    ] e t

-- an argument that was given has a row
given-row : (id : Text) (rows : List Row) → is_given id rows ≡ true → is_some (find (λ r. bytes_eq r.id id) rows) ≡ true
given-row id rows g = of (find (λ r. bytes_eq r.id id) rows) g
  where
    of : (o : Option Row) → option_map_or (λ r. explicit_source r.source) o false ≡ true → is_some o ≡ true
    of None h = cc
    of (Some r) h = refl

-- What is required is there if a level has no fault.
level-given : (s : Shape) (words : List Text) → level_fault s [] nothing_held words false [] ≡ [] → check_fault s (rows_after s.rules [] words) false ≡ []
level-given s words none =
    let end : Held = (walk s.rules [] nothing_held words).held in
    let after_walk = no_faults (walk_fault s [] (walk_from nothing_held) words) _ none in
    let after_settle = no_faults (settle_fault s.rules s.args_override_self end) _ after_walk.1 in
    (no_faults (defaults_fault (settled s.rules end).rows s.rules) _ after_settle.1).1

-- What is required is there if the checks find no fault.
needed-first : (id : Text) (rows : List Row) → all_have rows ≡ true → (if not (is_given id rows) || false then MissingRequiredArgument ∷ [] else []) ≡ [] → is_some (first_of id rows) ≡ true
needed-first id rows have none = first-there id rows have (given-row id rows (given (is_given id rows) none))
  where
    given : (b : Bool) → (if not b || false then MissingRequiredArgument ∷ [] else []) ≡ [] → b ≡ true
    given true none = refl
    given false none = cc

needed-at : (stop : Option (Text × List Text)) (name : Text) (rows : List Row) → entered (built paklour) stop ≡ Some (name, rows) → entered_fault (built paklour) stop ≡ [] → HasNeeded name (first_of (codes "file") rows)
unfolding paklour
needed-at None name rows e t = cc
needed-at (Some p) name rows e t =
    elim (passed-in (λ s. answers_to p.0 (label_of s)) (built paklour).subs p.1 name rows e t) [
      | inl run ↦ not-needed (codes "run") run.0 refl
      | inr (inl plans) ↦ not-needed (codes "plans") plans.0 refl
      | inr (inr (inl page)) ↦ not-needed (codes "page") page.0 refl
      | inr (inr (inr (inl try))) ↦ not-needed (codes "try") try.0 refl
      | inr (inr (inr (inr (inl reduce)))) ↦ not-needed (codes "reduce") reduce.0 refl
      | inr (inr (inr (inr (inr (inl explain))))) ↦ not-needed (codes "explain") explain.0 refl
      | inr (inr (inr (inr (inr (inr (inl asks)))))) ↦ λ _. needed-first _ rows (rw asks.1 (level-has _ p.1 refl asks.2)) (rw asks.1 (level-given _ p.1 asks.2))
      | inr (inr (inr (inr (inr (inr (inr (inl report))))))) ↦ λ _. needed-first _ rows (rw report.1 (level-has _ p.1 refl report.2)) (rw report.1 (level-given _ p.1 report.2))
      | inr (inr (inr (inr (inr (inr (inr (inr (inl help)))))))) ↦ not-needed (codes "help") help.0 refl
      | inr (inr (inr (inr (inr (inr (inr (inr (inr none)))))))) ↦ absurd none
    ]
  where
    not-needed : (word : Text) → name ≡ word → needs_file word ≡ false → HasNeeded name (first_of (codes "file") rows)
    not-needed word is free = rw is (λ t. absurd (false≢true (sym free ∙ t)))

pub needed-given : (words : List Text) (name : Text) (f : Found) → fault_of paklour words ≡ [] → subcommand_of paklour words ≡ Some (name, rows_of f) → HasNeeded name (first_value f (codes "file"))
needed-given words name f none e =
    let top = built paklour in
    let given = argument_words paklour words in
    let after_walk = no_faults (walk_fault top.top (names_of top) (walk_from nothing_held) given) _ none in
    rw (first_value-rows f (codes "file"))
    (needed-at (stop_after top.top.rules (names_of top) given) name (rows_of f) e (no_faults (entered_fault top (stop_after top.top.rules (names_of top) given)) _ after_walk.1).0)

-- ---- which words are taken, and which kind a refusal has

paklour-free : is_simple_and_free paklour ≡ true
unfolding paklour clap_on_literals
paklour-free = refl

-- words of which clap gives the matches have no fault
pub no-fault : (command : Command) (words : List Text) → app_of command ≡ paklour → (is_simple_and_free (app_of command) ≡ true → fault_of (app_of command) words ≡ []) → fault_of paklour words ≡ []
no-fault command words a kinds = rw (← a) (kinds (ap is_simple_and_free a ∙ paklour-free))

-- a refusal of clap has a kind that it defines for the words
pub refused-for : (command : Command) (words : List Text) (error : Error) (fault : WordsFault) → app_of command ≡ paklour → (is_simple_and_free (app_of command) ≡ true → HasKind (fault_of (app_of command) words) error)
    → IsFaultOf error fault → IsRefusedFor (words_fault words) fault
refused-for command words error Memory a kinds is = tt
refused-for command words error (Refused cause) a kinds is =
    elim (kinds (ap is_simple_and_free a ∙ paklour-free)) [
      | inl memory ↦ absurd (is.1 memory)
      | inr among ↦
          let here : IsAmong (kind_of error) (fault_of paklour words) = rw (← a) among in
          rw is.0 (among-first _ (fault_of paklour words) (choice_fault (subcommand_of paklour words)) here)
    ]
  where
    among-first : (k : ErrorKind) (a b : Kinds) → IsAmong k a → IsAmong k (or_else a b)
    among-first k [] b h = absurd h
    among-first k (x ∷ xs) b h = h

-- If clap finds no fault, the words have that of TEXT and N.
pub choice-fault : (words : List Text) (name : Text) (f : Found) → fault_of paklour words ≡ [] → subcommand_of paklour words ≡ Some (name, rows_of f) → words_fault words ≡ choice_kinds name (values_of f)
choice-fault words name f none e = ap (λ a. or_else a (choice_fault (subcommand_of paklour words))) none ∙ choice-read (subcommand_of paklour words) name f e

pub choice-free : (words : List Text) → fault_of paklour words ≡ [] → subcommand_of paklour words ≡ None → words_fault words ≡ []
choice-free words none e = ap (λ a. or_else a (choice_fault (subcommand_of paklour words))) none ∙ ap choice_fault e

-- If no kind can come, what fails is want of memory.
pub memory-only : (T : Type 0) (r : Result Line WordsFault) (choice kinds : Kinds) → choice ≡ kinds → IfErr r (IsRefusedFor kinds) → IfErr r (λ fault. T → choice ≡ [] → fault ≡ Memory)
memory-only T (Ok line) choice kinds is h = tt
memory-only T (Err Memory) choice kinds is h = λ _ _. refl
memory-only T (Err (Refused e)) choice kinds is h = λ _ none. absurd (subst (IsAmong (kind_of e)) (sym is ∙ none) h)

-- ---- N, read as a number

abbrev FitsPlan : Text → Type 0
FitsPlan text = IsNumeral 10 (without_leading_plus text) × (digits_value 10 (without_leading_plus text) < 65536)

pub number-read : (text : Text) (n : ℕ) → FitsPlan text × (n ≡ digits_value 10 (without_leading_plus text)) → Spells text n × (number_kinds text ≡ [])
number-read text n h =
    let small : digits_value 10 (without_leading_plus text) < 65536 = h.0.1 in
    let fits : IsUnsignedIn 0 65535 text = (h.0.0, omega (arith, small), omega arith, omega (arith, small)) in
    ((h.0.0, sym h.1), ap (λ b. if b then [] else ValueValidation ∷ []) (Accepts-accepts false (Unsigned 0 65535) text fits))

pub number-refused : (text : Text) → ¬ (FitsPlan text) → number_kinds text ≡ ValueValidation ∷ []
number-refused text h = of (accepts false (Unsigned 0 65535) text) refl
  where
    of : (b : Bool) → accepts false (Unsigned 0 65535) text ≡ b → (if accepts false (Unsigned 0 65535) text then [] else ValueValidation ∷ []) ≡ ValueValidation ∷ []
    of false is = ap (λ b. if b then [] else ValueValidation ∷ []) is
    of true is =
        let fits = accepts-Accepts false (Unsigned 0 65535) text is in
        let most : digits_value 10 (without_leading_plus text) ≤ 65535 = fits.3 in
        let small : digits_value 10 (without_leading_plus text) < 65536 = omega (arith, most) in
        absurd (h (fits.0, small))
