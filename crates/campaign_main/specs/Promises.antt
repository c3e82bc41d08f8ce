-- What a command's text promises, besides what the text is.
use Rattle.std.specs.Prelude.{List, ℕ, IfOk, IfSome}
use Rattle.campaign_settings.specs.Settings.{settings_of}
use Rattle.campaign_core.specs.Headline.{Campaign, EachIsMinimal, EachIsTried}
use Rattle.campaign_core.specs.CommandTexts.{IsReducedToMinimal}
use Rattle.command_words.specs.declared.words.Order.{Order}
use Rattle.command_words.specs.declared.words.Order.TheVariants as order
use Rattle.campaign_main.specs.Commands.{campaign_for, taken}

-- What a report promises. Each reduced scenario fails with its code, under the same seed and limit and with its plan's number as the stream number,
-- and no single fault can be left out of it. With a depth each behaviour was tried, once, and each listed cause is one.
abbrev pub RunKeepsPromises : Campaign → Type 0
RunKeepsPromises c = EachIsMinimal c × EachIsTried c

-- What the text of each order promises. `reduce` promises of its reduced scenario what a report does.
abbrev pub KeepsPromises : Order → Campaign → Type 0
KeepsPromises (order.Run form strict) c = RunKeepsPromises c
KeepsPromises order.Plans c = Unit {0}
KeepsPromises (order.Try which) c = Unit {0}
KeepsPromises (order.Reduce which) c = IfOk (taken c which) (λ t. IsReducedToMinimal c t.0 t.1)
KeepsPromises (order.Explain which) c = Unit {0}

-- What the text promises, if the text of the settings has no fault and chooses a bundled target.
abbrev pub TextKeepsPromises : Order → List ℕ → Type 0
TextKeepsPromises order text =
    IfOk (settings_of text) (λ s. IfSome (campaign_for s.campaign s.choice) (KeepsPromises order))
