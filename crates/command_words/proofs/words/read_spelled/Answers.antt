use Rattle.std.proofs.Common.{◌≡◌, ◌∙◌, [], IfErr, IfOk, Some, map, refl, subst, sym}
use Rattle.std.proofs.lemmas.Result.{IfOk-weaker}
use Rattle.std.specs.Borrow.{Bor}
use Rattle.clap.specs.Words.{Kinds, Text, found_of, rows_of, subcommand_of}
use Rattle.command_words.specs.Words.{IsRefusedFor, paklour}
use Rattle.command_words.proofs.WordsLemmas.{choice-fault, choice-free, choice-read, entered-is, line-read, memory-only, name-entered, no-fault, none-entered, refused-for, rows-entered, needed-given}
use Rattle.command_words.proofs.words.read_spelled.Goals as goal

pub returns-in-Err-clause-refused : goal.returns-in-Err-clause-refused
returns-in-Err-clause-refused c =
    refused-for c.in_ok-command.command (map (λ (word : Bor Text). word.now) c.args.words.now) c.in-Err.error c.refusal.result c.in_ok-command.ensures c.in-Err.ensures.kinds c.refusal.ensures

pub line_of-requires : goal.line_of-requires
line_of-requires c =
    let words = map (λ (word : Bor Text). word.now) c.args.words.now in
    let none = no-fault c.in_ok-command.command words c.in_ok-command.ensures c.in-Ok.ensures.kinds in
    let entered : subcommand_of paklour words ≡ Some (c.in-Some.name.now, rows_of (found_of c.in-Some.own.now)) =
    sym (entered-is c.in_ok-command.command c.in-Ok.matches words c.in_ok-command.ensures c.in-Ok.ensures.matches)
    ∙ rows-entered c.in-Ok.matches c.in-Some.name.now (rows_of (found_of c.in-Some.own.now)) c.in-Some.ensures.name c.in-Some.ensures.rows in
    record {
      name = name-entered words c.in-Some.name.now (rows_of (found_of c.in-Some.own.now)) none entered;
      needed = needed-given words c.in-Some.name.now (found_of c.in-Some.own.now) none entered;
    }

pub returns-in-Some-clause-ok : goal.returns-in-Some-clause-ok
returns-in-Some-clause-ok c =
    let words = map (λ (word : Bor Text). word.now) c.args.words.now in
    let is = entered-is c.in_ok-command.command c.in-Ok.matches words c.in_ok-command.ensures c.in-Ok.ensures.matches in
    let rows = rows-entered c.in-Ok.matches c.in-Some.name.now (rows_of (found_of c.in-Some.own.now)) c.in-Some.ensures.name c.in-Some.ensures.rows in
    IfOk-weaker c.line_of.result _ _ (λ line h. line-read (subcommand_of paklour words) c.in-Some.name.now (found_of c.in-Some.own.now) line (sym is ∙ rows) h) c.line_of.ensures.ok

pub returns-in-Some-clause-taken : goal.returns-in-Some-clause-taken
returns-in-Some-clause-taken c =
    let words = map (λ (word : Bor Text). word.now) c.args.words.now in
    let none = no-fault c.in_ok-command.command words c.in_ok-command.ensures c.in-Ok.ensures.kinds in
    let is = entered-is c.in_ok-command.command c.in-Ok.matches words c.in_ok-command.ensures c.in-Ok.ensures.matches in
    let rows = rows-entered c.in-Ok.matches c.in-Some.name.now (rows_of (found_of c.in-Some.own.now)) c.in-Some.ensures.name c.in-Some.ensures.rows in
    let P : Kinds → Type 0 = λ kinds. IfOk c.line_of.result (λ _. kinds ≡ []) in
    subst P (sym (choice-fault words c.in-Some.name.now (found_of c.in-Some.own.now) none (sym is ∙ rows))) c.line_of.ensures.taken

pub returns-in-Some-clause-refused : goal.returns-in-Some-clause-refused
returns-in-Some-clause-refused c =
    let words = map (λ (word : Bor Text). word.now) c.args.words.now in
    let none = no-fault c.in_ok-command.command words c.in_ok-command.ensures c.in-Ok.ensures.kinds in
    let is = entered-is c.in_ok-command.command c.in-Ok.matches words c.in_ok-command.ensures c.in-Ok.ensures.matches in
    let rows = rows-entered c.in-Ok.matches c.in-Some.name.now (rows_of (found_of c.in-Some.own.now)) c.in-Some.ensures.name c.in-Some.ensures.rows in
    let P : Kinds → Type 0 = λ kinds. IfErr c.line_of.result (IsRefusedFor kinds) in
    subst P (sym (choice-fault words c.in-Some.name.now (found_of c.in-Some.own.now) none (sym is ∙ rows))) c.line_of.ensures.refused

pub returns-in-Some-clause-memory : goal.returns-in-Some-clause-memory
returns-in-Some-clause-memory c =
    let words = map (λ (word : Bor Text). word.now) c.args.words.now in
    let is = entered-is c.in_ok-command.command c.in-Ok.matches words c.in_ok-command.ensures c.in-Ok.ensures.matches in
    let rows = rows-entered c.in-Ok.matches c.in-Some.name.now (rows_of (found_of c.in-Some.own.now)) c.in-Some.ensures.name c.in-Some.ensures.rows in
    memory-only _ c.line_of.result _ _ (choice-read (subcommand_of paklour words) c.in-Some.name.now (found_of c.in-Some.own.now) (sym is ∙ rows)) c.line_of.ensures.refused

pub returns-clause-ok : goal.returns-clause-ok
returns-clause-ok c =
    let words = map (λ (word : Bor Text). word.now) c.args.words.now in
    let is = entered-is c.in_ok-command.command c.in-Ok.matches words c.in_ok-command.ensures c.in-Ok.ensures.matches in
    rw (← is, none-entered c.in-Ok.matches c.in-None.ensures.name) (refl, refl)

pub returns-clause-taken : goal.returns-clause-taken
returns-clause-taken c =
    let words = map (λ (word : Bor Text). word.now) c.args.words.now in
    let none = no-fault c.in_ok-command.command words c.in_ok-command.ensures c.in-Ok.ensures.kinds in
    let is = entered-is c.in_ok-command.command c.in-Ok.matches words c.in_ok-command.ensures c.in-Ok.ensures.matches in
    choice-free words none (sym is ∙ none-entered c.in-Ok.matches c.in-None.ensures.name)
