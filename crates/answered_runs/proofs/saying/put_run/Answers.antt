use Rattle.std.proofs.Common.{refl, rules, ◌≡◌, ◌<◌, ◌≤◌, ◌+◌, ◌∙◌, ℕ, Option, Some, None, length, ap, sym, subst, arith, get_or}
use Rattle.std.specs.Prelude.{slice_get}
use Rattle.std.proofs.lemmas.Option.{slice_get-get_or, slice_get_past}
use Rattle.scenario_values.specs.Scenario.{Entries}
use Rattle.scenario_values.specs.Tidied.{tidied}
use Rattle.action_eval.specs.Answers.{Go, Reply, reply_of_answer, stopped}
use Rattle.target_trait.specs.Play.{Ask}
use Rattle.answered_runs.specs.Agreement.{IsContradiction, end_by, move_said}
use Rattle.answered_runs.specs.Answered.{Answered}
use Rattle.answered_runs.specs.declared.broken.BrokenRun.{BrokenRun}
use Rattle.answered_runs.specs.declared.tree.Next.TheVariants.{End, Hit}
use Rattle.answered_runs.specs.declared.tree.Said.{Said}
use Rattle.answered_runs.specs.declared.saying.SeenRun.{SeenRun}
use Rattle.answered_runs.specs.inside.Trees.{IsBroken, IsPut, Tree, line_seen}
use Rattle.answered_runs.proofs.Places.{below}
use Rattle.answered_runs.proofs.PutHits.{Playing, Through, begins, contradicts, next_played, pauses, place_within, playing_on, plays_far, plays_on, through, tidy_run, whole}
use Rattle.answered_runs.proofs.saying.put_run.Goals as goal

-- what comes next at a hit, and at the end
at_hit : (run : SeenRun) (i : ℕ) → i < length run.hits.now → Ask (get_or run.hits.now i 0) ≡ move_said run.verdict (slice_get run.hits.now i)
at_hit run i less = sym (ap (move_said run.verdict) (slice_get-get_or run.hits.now i 0 less))

at_end : (run : SeenRun) (i : ℕ) → length run.hits.now ≤ i → end_by run.verdict ≡ move_said run.verdict (slice_get run.hits.now i)
at_end run i last = sym (ap (move_said run.verdict) (slice_get_past run.hits.now i last))

abbrev hit_here : SeenRun → ℕ → Said
hit_here run i = record { line = run.line; next = Hit (get_or run.hits.now i 0) }

abbrev end_here : SeenRun → Said
end_here run = record { line = run.line; next = End run.verdict }

pub loop-number-init : goal.loop-number-init
loop-number-init c = record {
  now_is = c.requires.begun;
  putting = begins c.args.runs.now (tidied c.args.session.now.given.scenario) c.args.run.now c.args.tree.now c.requires.sound;
}

pub said-requires : goal.said-requires
said-requires c =
    let a : Answered = c.args.runs.now in
    let w : Entries = c.args.session.now.given.scenario in
    let i = c.loop-number.number in
    let run : SeenRun = c.args.run.now in
    let less : i < length run.hits.now = search (rules, arith) in
    place_within a (tidied w) run c.args.tree.now c.loop-number.tree i c.loop-number.place (reply_of_answer c.loop-number.answer) (tidy_run a w run i) c.loop-number.invariant.putting c.requires.seen c.follow.new.tree (hit_here run i)
    c.in_ok-place.place refl (at_hit run i less) c.in_ok-place.ensures

pub returns-in-Some : goal.returns-in-Some
returns-in-Some c =
    let a : Answered = c.args.runs.now in
    let w : Entries = c.args.session.now.given.scenario in
    let i = c.loop-number.number in
    let run : SeenRun = c.args.run.now in
    let less : i < length run.hits.now = search (rules, arith) in
    let broken : IsBroken c.said.result (hit_here run i) (i + 1) (Some c.in-Some.broken) = subst (IsBroken c.said.result (hit_here run i) (i + 1)) c.in-Some.is c.broken_at.ensures in
    contradicts a (tidied w) run c.args.tree.now c.loop-number.tree i c.loop-number.place (reply_of_answer c.loop-number.answer) (tidy_run a w run i) c.loop-number.invariant.putting c.requires.seen c.follow.new.tree (hit_here run i)
    c.in_ok-place.place refl (at_hit run i less) c.in_ok-place.ensures c.said.result (i + 1) c.said.ensures c.in-Some.broken refl broken

pub ask_on-requires-clause-running : goal.ask_on-requires-clause-running
ask_on-requires-clause-running c =
    playing_on c.args.runs.now c.args.session.now.given.scenario c.args.run.now c.requires.lawful c.args.tree.now c.loop-number.tree c.loop-number.number c.loop-number.place (reply_of_answer c.loop-number.answer) c.loop-number.session c.loop-number.invariant

pub returns-then-is_cut_short : goal.returns-then-is_cut_short
returns-then-is_cut_short c =
    let a : Answered = c.args.runs.now in
    let w : Entries = c.args.session.now.given.scenario in
    let i = c.loop-number.number in
    let run : SeenRun = c.args.run.now in
    let p = c.loop-number.invariant in
    let less : i < length run.hits.now = search (rules, arith) in
    let same : IsBroken c.said.result (hit_here run i) (i + 1) None = subst (IsBroken c.said.result (hit_here run i) (i + 1)) c.in_default.is c.broken_at.ensures in
    let g : Through a (tidied w) run c.args.tree.now c.follow.new.tree i c.in_ok-place.place =
    through a (tidied w) run c.args.tree.now c.loop-number.tree i c.loop-number.place (reply_of_answer c.loop-number.answer) (tidy_run a w run i) p.putting c.requires.seen c.follow.new.tree (hit_here run i)
    c.in_ok-place.place refl (at_hit run i less) c.in_ok-place.ensures c.said.result (i + 1) c.said.ensures same
    in
    let now = c.in_ok-answer.ensures.ok ∙ next_played a w run i c.loop-number.session p.now_is less in
    pauses a w run c.requires.lawful c.args.tree.now c.follow.new.tree i c.in_ok-place.place g less c.ask_on.new.self now (sym c.is_cut_short.ensures ∙ c.if-is_cut_short.true) c.requires.seen c.after_pause.result c.after_pause.ensures

pub loop-number-preserved : goal.loop-number-preserved
loop-number-preserved c =
    let a : Answered = c.args.runs.now in
    let w : Entries = c.args.session.now.given.scenario in
    let i = c.loop-number.number in
    let run : SeenRun = c.args.run.now in
    let p = c.loop-number.invariant in
    let less : i < length run.hits.now = search (rules, arith) in
    let same : IsBroken c.said.result (hit_here run i) (i + 1) None = subst (IsBroken c.said.result (hit_here run i) (i + 1)) c.in_default.is c.broken_at.ensures in
    let g : Through a (tidied w) run c.args.tree.now c.follow.new.tree i c.in_ok-place.place =
    through a (tidied w) run c.args.tree.now c.loop-number.tree i c.loop-number.place (reply_of_answer c.loop-number.answer) (tidy_run a w run i) p.putting c.requires.seen c.follow.new.tree (hit_here run i)
    c.in_ok-place.place refl (at_hit run i less) c.in_ok-place.ensures c.said.result (i + 1) c.said.ensures same
    in
    let now = c.in_ok-answer.ensures.ok ∙ next_played a w run i c.loop-number.session p.now_is less in
    plays_on a w run c.requires.lawful c.args.tree.now c.follow.new.tree i c.in_ok-place.place g less c.ask_on.new.self now c.loop-number.session (reply_of_answer c.in_ok-answer.answer) p.now_is c.in_ok-answer.ensures.told
    (sym c.is_cut_short.ensures ∙ c.if-is_cut_short.false)

pub said-requires-2 : goal.said-requires-2
said-requires-2 c =
    let a : Answered = c.args.runs.now in
    let w : Entries = c.args.session.now.given.scenario in
    let i = c.loop-number.number in
    let run : SeenRun = c.args.run.now in
    let last : length run.hits.now ≤ i = search (rules, arith) in
    place_within a (tidied w) run c.args.tree.now c.loop-number.tree i c.loop-number.place (reply_of_answer c.loop-number.answer) (tidy_run a w run i) c.loop-number.invariant.putting c.requires.seen c.follow-2.new.tree (end_here run)
    c.in_ok-place-2.place refl (at_end run i last) c.in_ok-place-2.ensures

ended : (a : Answered) (t u : Tree) (s : Entries) (run : SeenRun) (found : Option BrokenRun) (there : Said) (i m : ℕ) → length run.hits.now ≤ i → i ≡ length run.hits.now
    → (IsBroken there (end_here run) (i + 1) None → Through a s run t u i m) → ((b : BrokenRun) → IsBroken there (end_here run) (i + 1) (Some b) → IsContradiction a b)
    → IsBroken there (end_here run) (length run.hits.now + 1) found → IsPut a t u (line_seen s run) found
ended a t u s run None there i m last is through contradicts h =
    whole a s run t u i m (through (subst (λ (n : ℕ). IsBroken there (end_here run) (n + 1) None) (sym is) h)) last
ended a t u s run (Some b) there i m last is through contradicts h = contradicts b (subst (λ (n : ℕ). IsBroken there (end_here run) (n + 1) (Some b)) (sym is) h)

pub returns : goal.returns
returns c =
    let a : Answered = c.args.runs.now in
    let w : Entries = c.args.session.now.given.scenario in
    let i = c.loop-number.number in
    let run : SeenRun = c.args.run.now in
    let p = c.loop-number.invariant.putting in
    let last : length run.hits.now ≤ i = search (rules, arith) in
    let within = p.within in
    let is : i ≡ length run.hits.now = omega (arith, last, within) in
    ended a c.args.tree.now c.follow-2.new.tree (tidied w) run c.broken_at-2.result c.said-2.result i c.in_ok-place-2.place last is
    (λ same. through a (tidied w) run c.args.tree.now c.loop-number.tree i c.loop-number.place (reply_of_answer c.loop-number.answer) (tidy_run a w run i) p c.requires.seen c.follow-2.new.tree (end_here run)
    c.in_ok-place-2.place refl (at_end run i last) c.in_ok-place-2.ensures c.said-2.result (i + 1) c.said-2.ensures same)
    (λ b broken. contradicts a (tidied w) run c.args.tree.now c.loop-number.tree i c.loop-number.place (reply_of_answer c.loop-number.answer) (tidy_run a w run i) p c.requires.seen c.follow-2.new.tree (end_here run)
    c.in_ok-place-2.place refl (at_end run i last) c.in_ok-place-2.ensures c.said-2.result (i + 1) c.said-2.ensures b refl broken)
    c.broken_at-2.ensures

pub follow-requires : goal.follow-requires
follow-requires c =
    let p = c.loop-number.invariant.putting in
    below c.args.runs.now c.loop-number.tree p.sound 0 p.before c.loop-number.place p.sound.some p.reached

pub follow-requires-2 : goal.follow-requires-2
follow-requires-2 c =
    let p = c.loop-number.invariant.putting in
    below c.args.runs.now c.loop-number.tree p.sound 0 p.before c.loop-number.place p.sound.some p.reached

pub loop-number-preserved-then-is_none : goal.loop-number-preserved-then-is_none
loop-number-preserved-then-is_none c =
    let a : Answered = c.args.runs.now in
    let w : Entries = c.args.session.now.given.scenario in
    let i = c.loop-number.number in
    let run : SeenRun = c.args.run.now in
    let p = c.loop-number.invariant in
    let less : i < length run.hits.now = search (rules, arith) in
    let same : IsBroken c.said.result (hit_here run i) (i + 1) None = subst (IsBroken c.said.result (hit_here run i) (i + 1)) c.in_default.is c.broken_at.ensures in
    let g : Through a (tidied w) run c.args.tree.now c.follow.new.tree i c.in_ok-place.place =
    through a (tidied w) run c.args.tree.now c.loop-number.tree i c.loop-number.place (reply_of_answer c.loop-number.answer) (tidy_run a w run i) p.putting c.requires.seen c.follow.new.tree (hit_here run i)
    c.in_ok-place.place refl (at_hit run i less) c.in_ok-place.ensures c.said.result (i + 1) c.said.ensures same
    in
    let now = c.in_ok-answer.ensures.ok ∙ next_played a w run i c.loop-number.session p.now_is less in
    let first =
    plays_on a w run c.requires.lawful c.args.tree.now c.follow.new.tree i c.in_ok-place.place g less c.ask_on.new.self now c.loop-number.session (reply_of_answer c.in_ok-answer.answer) p.now_is c.in_ok-answer.ensures.told
    (sym c.is_cut_short.ensures ∙ c.if-is_cut_short.false)
    in
    let go : reply_of_answer c.in_ok-answer.answer ≡ Go = c.goes.ensures c.if-goes.true in
    let along = c.in_ok-count.ensures.along in
    let runs : stopped c.ask_on.new.self ≡ None = search rules in
    let n = c.in_ok-count.count in
    let far =
    plays_far a w run c.requires.lawful c.requires.seen c.args.tree.now (get_or run.hits.now i 0) n c.follow.new.tree c.go_along.new.tree (i + 1) c.in_ok-place.place c.ask_on.new.self
    (subst (λ (q : Reply). Playing a w run c.args.tree.now c.follow.new.tree (i + 1) c.in_ok-place.place q c.ask_on.new.self) go first) runs along.hits along.follows along.go
    in
    subst (λ (q : Reply). Playing a w run c.args.tree.now c.go_along.new.tree (i + 1 + n) (c.in_ok-place.place + n) q c.go_along.new.session) (sym go)
    (subst (Playing a w run c.args.tree.now c.go_along.new.tree (i + 1 + n) (c.in_ok-place.place + n) Go) (sym along.played) far)
