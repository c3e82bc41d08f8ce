use Rattle.std.proofs.Common.{◌∙◌, ◌++◌, ◌∷◌, List, ap, false, refl, subst, sym, ℕ}
use Rattle.std.specs.Io.KnownBytes.{Consumes}
use Rattle.std.proofs.KnownBytes.{Consumes-trans}
use Rattle.campaign_core.specs.Writes.{change}
use Rattle.command_words.specs.declared.words.Question.TheVariants.{Asks}
use Rattle.campaign_main.specs.declared.following.FollowFault.TheVariants as follow
use Rattle.campaign_main.specs.Following.{Look, lines_with}
use Rattle.campaign_main.specs.Questions.{IsAnswer, subject_in}
use Rattle.campaign_main.specs.inside.Looks.{LookFails}
use Rattle.campaign_main.proofs.FollowLemmas.{follow-up, lines-or-end, look-failed, look-told, looks-on}
use Rattle.campaign_main.proofs.following.follow_answers.Goals as goal

pub returns-in_err-answer-clause-follow : goal.returns-in_err-answer-clause-follow
returns-in_err-answer-clause-follow g c =
    let s = subject_in c.args.campaign.now in
    let i = c.loop-told.invariant in
    let known = c.loop-told.known.items in
    let f = c.in_err-answer.field-0.0 in
    let keys = c.loop-told.told.lines.keys in
    let w = change g.W.Sink c.loop-told.output c.look.new.output in
    let fails = subst (λ (l : List ℕ). LookFails s l keys w f) c.as_slice.ensures.value c.in_err-answer.ensures.fault in (
      known,
      i.1,
      follow-up s known (g.A.Read.remaining c.loop-told.answers) (change g.W.Sink c.args.output.now c.look.new.output) c.from_residual.result (follow.Question f) c.from_residual.ensures.1
          (look-failed s (g.W.Sink.told c.args.output.now) known i.5.0 i.5.1 keys i.5.2 c.loop-told.told.text.items i.4 w.old w.new (g.A.Read.remaining c.loop-told.answers) w.failed i.5.3 i.2 f fails),
    )

pub returns-in_err-read_lines-clause-follow : goal.returns-in_err-read_lines-clause-follow
returns-in_err-read_lines-clause-follow g c =
    let s = subject_in c.args.campaign.now in
    let i = c.loop-told.invariant in
    let known = c.loop-told.known.items in
    let start = g.W.Sink.told c.args.output.now in
    let t = c.in_ok-answer.answer.text.items in
    let look : Look = record { answers = known; text = t } in
    let gone = c.in_err-read_lines.ensures.rest in
    let answer = subst (λ (l : List ℕ). IsAnswer Asks s l t false) c.as_slice.ensures.value c.in_ok-answer.ensures.answer in
    let told = look-told s start known i.5.0 i.5.1 c.loop-told.told.lines.keys i.5.2 t c.look.new.told.lines.keys c.look.new.told.text.items (g.W.Sink.told c.look.new.output)
    (g.W.Sink.has_failed c.look.new.output) answer c.in_ok-answer.ensures.lines c.in_ok-answer.ensures.text (c.in_ok-answer.ensures.written start i.5.3) c.in_ok-answer.ensures.sound in (
      known ++ gone.0,
      Consumes-trans _ _ _ _ _ i.1 gone.1,
      follow-up s (known ++ gone.0) (g.A.Read.remaining c.read_lines.new.reader) (change g.W.Sink c.args.output.now c.look.new.output) c.from_residual-in_err-read_lines.result
          (follow.Unread c.in_err-read_lines.field-0.0) c.from_residual-in_err-read_lines.ensures.1
          (look ∷ i.5.0, (looks-on s look i.5.0 known (known ++ gone.0) told.0 (gone.0, refl), told.1)),
    )

pub loop-told-preserved : goal.loop-told-preserved
loop-told-preserved g c =
    let s = subject_in c.args.campaign.now in
    let i = c.loop-told.invariant in
    let known = c.loop-told.known.items in
    let start = g.W.Sink.told c.args.output.now in
    let t = c.in_ok-answer.answer.text.items in
    let look : Look = record { answers = known; text = t } in
    let read = c.in_ok-read_lines.ensures.read in
    let answer = subst (λ (l : List ℕ). IsAnswer Asks s l t false) c.as_slice.ensures.value c.in_ok-answer.ensures.answer in
    let written = c.in_ok-answer.ensures.written start i.5.3 in
    let told = look-told s start known i.5.0 i.5.1 c.loop-told.told.lines.keys i.5.2 t c.look.new.told.lines.keys c.look.new.told.text.items (g.W.Sink.told c.look.new.output)
    (g.W.Sink.has_failed c.look.new.output) answer c.in_ok-answer.ensures.lines c.in_ok-answer.ensures.text written c.in_ok-answer.ensures.sound in (
      c.in_ok-read_lines.ensures.limit,
      subst (λ (l : List ℕ). Consumes (g.A.Read.remaining c.args.answers.now) (g.A.Read.remaining c.read_lines.new.reader) l) (sym read.2) (Consumes-trans _ _ _ _ _ i.1 read.1),
      lines-or-end _ _ (c.in_ok-read_lines.ensures.lines c.if-not-branch.false),
      c.in_ok-answer.ensures.sound,
      c.in_ok-answer.ensures.text,
      (
        look ∷ i.5.0,
        looks-on s look i.5.0 known c.read_lines.new.bytes.items told.0 (read.0, read.2),
        c.in_ok-answer.ensures.lines ∙ ap (λ (ks : List (List ℕ)). lines_with ks t) i.5.2,
        written,
      ),
    )
