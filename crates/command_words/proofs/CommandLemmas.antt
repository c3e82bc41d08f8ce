use Rattle.std.proofs.Common.{◌≡◌, ◌∙◌, Err, IfOk, Ok, Result, ap, ap₂}
use Rattle.std.specs.declared.alloc.AllocError.{AllocError}
use Rattle.clap.specs.Words.{App, app_of, with_subcommand}
use Rattle.clap.specs.declared.builder.command.Command.{Command}
use Rattle.command_words.specs.Words.{HasAlso}

-- a command with one more subcommand, by what the two are
pub also : (r : Result Command AllocError) (app before sub : App) (command : Command) → app ≡ before → IfOk r (λ c. app_of c ≡ sub) → HasAlso app r command → app_of command ≡ with_subcommand before sub.top
also (Ok c) app before sub command was is more = more ∙ ap₂ with_subcommand was (ap (λ (a : App). a.top) is)
also (Err e) app before sub command was is more = absurd more
