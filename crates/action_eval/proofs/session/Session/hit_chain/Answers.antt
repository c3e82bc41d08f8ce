use Rattle.std.proofs.Common.{◌≡◌, ◌<◌, ◌≤◌, ◌+◌, ◌-◌, ◌^◌, ℕ, List, Option, length, map, Some, None, refl, ap, sym, ◌∙◌, arith, subst, slice_set}
use Rattle.std.specs.List.{slice_range}
use Rattle.std.specs.Option.{option_or}
use Rattle.std.proofs.lemmas.List.{length-map}
use Rattle.scenario_values.specs.declared.term.Term.{Term}
use Rattle.action_eval.specs.declared.answer.Stop.{Stop}
use Rattle.action_eval.specs.declared.answer.Note.{Note}
use Rattle.action_eval.specs.declared.found.Head.{Head}
use Rattle.action_eval.specs.declared.found.Span.{Span}
use Rattle.action_eval.specs.Answers.{Run, given_of, texts, replies, GoesOn, reply_to, reply_of_answer, did, millis_of, name_of, history_of}
use Rattle.action_eval.specs.Trial.{tried, is_spent}
use Rattle.action_eval.specs.Words.{Drawn, word}
use Rattle.action_eval.specs.inside.Layout.{faults_of}
use Rattle.action_eval.specs.inside.Session.{IsRest, IsSpan, Keeps, Rest, found_of, left_counts, head_of, seen_in, terms_of}
use Rattle.action_eval.proofs.Steps.{finds_some, keeps_found, keeps_hit, keeps_same, reply_found, found_within, room_of, limit_of, rest_of_point, span_of, known_found, known_by, keeps_rest}
use Rattle.action_eval.proofs.Rests.{is_rest_stays, after_stays, length_after}
use Rattle.action_eval.proofs.Heads.{known_head, heads_with}
use Rattle.action_eval.proofs.Spans.{later, seen_set, slice_length, spans_set, span_length}
use Rattle.action_eval.proofs.CallerLemmas.{told_within, goes_by}
use Rattle.action_eval.proofs.session.Session.hit_chain.Goals as goal

-- If neither option has a value, the second has none.
none_after : {A : Type 0} (o p : Option A) → option_or o p ≡ None → p ≡ None
none_after None p h = h
none_after (Some x) p h = cc

-- words taken leave seed and stream number
drawn_on : (d e : Drawn) (n : ℕ) → e ≡ record d { taken = n } → (let f : Drawn = record d { taken = e.taken } in f) ≡ e
drawn_on d e n same = ap (λ (m : ℕ). let f : Drawn = record d { taken = m } in f) (ap (λ (x : Drawn). x.taken) same) ∙ sym same

-- the chain that stands at the span
record Standing (r : Run) (p : ℕ) (left : List ℕ) (span : Span) (chain : List Term) : Type 0 where
  pub is : IsSpan r.given.scenario span
  pub at : IsRest left (found_of r.given.scenario (name_of r.given p)) (Some (chain, span.start))
  pub ends : span.end ≡ span.start + length chain
  pub within : span.start + length chain ≤ length left
  pub short : length chain ≤ 256

standing : (r now : Run) (found : List (Option (List Term × ℕ))) (left : List ℕ) (taken : ℕ) (notes : List Note) (millis : ℕ) (halt : Option Stop) → Keeps r found left taken notes millis halt
    → r ≡ now → (p : ℕ) (span : Span) → IsRest (left_counts (history_of now) now.given.scenario) (found_of now.given.scenario (name_of now.given p)) (seen_in now.given.scenario (Some span)) → IsSpan now.given.scenario span
    → (chain : List Term) → chain ≡ slice_range (terms_of r.given.scenario) span.start span.end → Standing r p left span chain
standing r now found left taken notes millis halt k same p span rest is chain e =
    let whole = found_of r.given.scenario (name_of r.given p) in
    let here = span_of r now span same is in
    let at = subst (λ (c : List Term). IsRest left whole (Some (c, span.start))) (sym e) (rest_of_point r now found left taken notes millis halt k same p (Some span) rest) in
    let f = found_within r found left taken notes millis halt k (name_of r.given p) chain span.start at in
    record { is = here; at = at; ends = span_length r.given.scenario span here chain e; within = f.0; short = f.1 }

-- terms are tried by the counts that stand at the span
tried_there : (left : List ℕ) (span : Span) (chain : List Term) (d : Drawn) (o : Option ℕ) → span.end ≡ span.start + length chain → o ≡ (tried (word d.seed d.stream) (is_spent (slice_range left span.start span.end)) 0 chain d.taken).place
    → o ≡ (tried (word d.seed d.stream) (is_spent (slice_range left span.start (span.start + length chain))) 0 chain d.taken).place
tried_there left span chain d o ends e = e ∙ ap (λ (n : ℕ). (tried (word d.seed d.stream) (is_spent (slice_range left span.start n)) 0 chain d.taken).place) ends

drawn_there : (left : List ℕ) (span : Span) (chain : List Term) (d new : Drawn) → span.end ≡ span.start + length chain → new ≡ record d { taken = (tried (word d.seed d.stream) (is_spent (slice_range left span.start span.end)) 0 chain d.taken).next }
    → new ≡ record d { taken = (tried (word d.seed d.stream) (is_spent (slice_range left span.start (span.start + length chain))) 0 chain d.taken).next }
drawn_there left span chain d new ends e = e ∙ ap (λ (n : ℕ). let x : Drawn = record d { taken = (tried (word d.seed d.stream) (is_spent (slice_range left span.start n)) 0 chain d.taken).next } in x) ends

pub try_terms-place-requires-clause-rows : goal.try_terms-place-requires-clause-rows
try_terms-place-requires-clause-rows c =
    let st = standing _ _ _ _ _ _ _ _ c.self.invariant.0 c.self.view_is c.args.point c.args.span c.requires.chain c.requires.span c.chain-chain.result.now c.chain-chain.ensures in
    slice_length c.deref.result.now c.args.span.start c.args.span.end (omega (arith, st.ends, st.within, ap length c.deref.ensures.value)) ∙ (let size : c.args.span.end - c.args.span.start ≡ length c.chain-chain.result.now = omega (arith, st.ends) in size)

pub try_terms-place-requires-clause-room : goal.try_terms-place-requires-clause-room
try_terms-place-requires-clause-room c =
    let k = c.self.invariant.0 in
    let st = standing _ _ _ _ _ _ _ _ c.self.invariant.0 c.self.view_is c.args.point c.args.span c.requires.chain c.requires.span c.chain-chain.result.now c.chain-chain.ensures in
    let room : length c.self.inside.hits.items < c.self.inside.max_hits = room_of _ _ c.self.view_is c.requires.room in
    let limit : c.self.inside.max_hits < 2 ^ 32 = limit_of _ _ c.self.view_is c.requires.limit in
    omega (arith, room, limit, st.short, k.taken_is, k.few_words)

pub overflow_add-self : goal.overflow_add-self
overflow_add-self c =
    let k = c.self.invariant.0 in
    let room : length c.self.inside.hits.items < c.self.inside.max_hits = room_of _ _ c.self.view_is c.requires.room in
    let limit : c.self.inside.max_hits < 2 ^ 32 = limit_of _ _ c.self.view_is c.requires.limit in
    omega (arith, room, limit, k.millis_are, k.few_millis, c.effect_of-effect.ensures.millis, c.from.ensures)

pub offset_bounds-deref-span : goal.offset_bounds-deref-span
offset_bounds-deref-span c =
    let st = standing _ _ _ _ _ _ _ _ c.self.invariant.0 c.self.view_is c.args.point c.args.span c.requires.chain c.requires.span c.chain-chain.result.now c.chain-chain.ensures in
    omega (arith, st.within, st.ends)

pub slice_bounds-try_terms-end : goal.slice_bounds-try_terms-end
slice_bounds-try_terms-end c =
    let st = standing _ _ _ _ _ _ _ _ c.self.invariant.0 c.self.view_is c.args.point c.args.span c.requires.chain c.requires.span c.chain-chain.result.now c.chain-chain.ensures in
    omega (arith, st.within, st.ends)

pub without_spent-rest-requires : goal.without_spent-rest-requires
without_spent-rest-requires c =
    let st = standing _ _ _ _ _ _ _ _ c.self.invariant.0 c.self.view_is c.args.point c.args.span c.requires.chain c.requires.span c.chain-chain.result.now c.chain-chain.ensures in
    omega (arith, st.within, ap length c.deref-2.ensures.value, ap length c.spend.ensures, length_after c.self.inside.left.items c.args.span.start c.try_terms-place.result)

pub index_mut-requires : goal.index_mut-requires
index_mut-requires c = omega (arith, known_found _ _ _ _ _ _ _ _ c.self.invariant.0 c.self.view_is c.args.point c.requires.known, length-map c.self.inside.spans.items (seen_in (faults_of c.self.inside.faults)))

pub index_mut-requires-2 : goal.index_mut-requires-2
index_mut-requires-2 c = omega (arith, known_head _ _ _ _ _ _ _ _ c.self.invariant.0 c.self.view_is c.args.point c.requires.known _ c.self.invariant.1)

pub invariant_of-self-2 : goal.invariant_of-self-2
invariant_of-self-2 c =
    let k = c.self.invariant.0 in
    let s = faults_of c.self.inside.faults in
    let spans = c.self.inside.spans.items in
    let st = standing _ _ _ _ _ _ _ _ c.self.invariant.0 c.self.view_is c.args.point c.args.span c.requires.chain c.requires.span c.chain-chain.result.now c.chain-chain.ensures in
    let found = finds_some _ c.args.point _ _ c.self.inside.draws _ _ _ k refl refl _ c.deref.ensures.value _ _ st.at c.try_terms-place.result (did c.task_at-task.result) c.try_terms-place.new.draws
    (tried_there c.deref.result.now c.args.span c.chain-chain.result.now c.self.inside.draws c.try_terms-place.result st.ends c.try_terms-place.ensures.place)
    (drawn_there c.deref.result.now c.args.span c.chain-chain.result.now c.self.inside.draws c.try_terms-place.new.draws st.ends c.try_terms-place.ensures.next) c.try_terms-place.ensures.within c.task_at-task.ensures in
    let small : millis_of (did c.task_at-task.result) < 2 ^ 32 = omega (arith, c.effect_of-effect.ensures.millis) in
    let rest : List Term × ℕ = (c.without_spent-rest.result.chain.now, c.without_spent-rest.result.start) in
    let span : Span = record { entry = c.args.span.entry; start = c.without_spent-rest.result.start; end = c.args.span.end } in
    let kept = keeps_hit _ c.args.point _ _ _ _ _ _ k (room_of _ _ c.self.view_is c.requires.room) _ (did c.task_at-task.result) _ found small _ k.found_is in
    let at_after = is_rest_stays _ _ _ _ (after_stays c.self.inside.left.items c.args.span.start c.try_terms-place.result) st.at in
    let kept_less = keeps_rest _ c.args.point _ _ _ _ _ _ kept (known_by _ _ c.args.point c.self.view_is c.requires.known) (c.chain-chain.result.now, c.args.span.start) rest at_after _ (c.deref-2.ensures.value ∙ c.spend.ensures) c.without_spent-rest.ensures.rest in
    let l = later s c.args.span span _ rest st.is (subst (λ (t : List Term). Rest c.deref-2.result.now (t, c.args.span.start) rest) c.chain-chain.ensures c.without_spent-rest.ensures.rest) refl refl refl in
    let set = seen_set s spans c.args.point span rest l.seen in
    let kept_spans = keeps_found _ _ _ _ _ _ _ _ (sym set) kept_less in
    let heads = ap (λ (h : Head). slice_set c.self.inside.heads.items c.args.point h) c.first_head.ensures ∙ heads_with (map (seen_in s) spans) c.self.inside.heads.items c.args.point (Some rest) c.self.invariant.1 ∙ ap (map head_of) (sym set) in (
      keeps_same _ _ _ _ _ _ _ _ (record { seed = c.self.inside.draws.seed; stream = c.self.inside.draws.stream; taken = c.try_terms-place.new.draws.taken }) c.try_terms-place.new.draws _ _ _ _ _ _
          (sym c.in_default.ensures.ok_hits) (sym c.spend.ensures) (drawn_on c.self.inside.draws c.try_terms-place.new.draws _ c.try_terms-place.ensures.next) (sym c.in_default.ensures.ok_notes) (omega (arith, c.effect_of-effect.ensures.millis, c.from.ensures)) (sym (c.or-self-inside.ensures ∙ ap (λ o. option_or o c.self.inside.stopped) c.effect_of-effect.ensures.stop)) kept_spans,
      heads,
      spans_set s spans c.args.point (Some span) c.self.invariant.2 l.span,
      record { answerable_is = λ none. c.answerable_after-self-inside.ensures none ∙ c.self.invariant.3.answerable_is (none_after _ _ (sym c.or-self-inside.ensures ∙ none)); never_late = c.self.invariant.3.never_late },
    )

pub returns-clause-answer : goal.returns-clause-answer
returns-clause-answer c =
    let k = c.self.invariant.0 in
    let st = standing _ _ _ _ _ _ _ _ c.self.invariant.0 c.self.view_is c.args.point c.args.span c.requires.chain c.requires.span c.chain-chain.result.now c.chain-chain.ensures in
    let found = finds_some _ c.args.point _ _ c.self.inside.draws _ _ _ k refl refl _ c.deref.ensures.value _ _ st.at c.try_terms-place.result (did c.task_at-task.result) c.try_terms-place.new.draws
    (tried_there c.deref.result.now c.args.span c.chain-chain.result.now c.self.inside.draws c.try_terms-place.result st.ends c.try_terms-place.ensures.place)
    (drawn_there c.deref.result.now c.args.span c.chain-chain.result.now c.self.inside.draws c.try_terms-place.new.draws st.ends c.try_terms-place.ensures.next) c.try_terms-place.ensures.within c.task_at-task.ensures in
    let room : length c.self.inside.hits.items < c.self.inside.max_hits = room_of _ _ c.self.view_is c.requires.room in
    c.effect_of-effect.ensures.answer ∙ reply_found _ _ _ _ _ found room ∙ ap (λ r. reply_to r c.args.point) c.self.view_is

pub returns-clause-told : goal.returns-clause-told
returns-clause-told c =
    let before : Drawn = c.self.inside.draws in
    let after : Drawn = c.try_terms-place.new.draws in
    let run : Drawn → Run = λ d. record { given = given_of (faults_of c.self.inside.faults) (texts c.self.inside.catalogue.now) d.seed d.stream c.self.inside.max_hits; hits = c.keep.new.hits.items } in
    ap (λ (d : Drawn). replies (run d)) (sym (drawn_on before after _ c.try_terms-place.ensures.next))
    ∙ told_within _ _ c.args.point _ _ c.self.view_is c.requires.room c.in_default.ensures.ok_hits (returns-clause-answer c)

pub returns-clause-goes_on : goal.returns-clause-goes_on
returns-clause-goes_on c = λ running.
    let before : Drawn = c.self.inside.draws in
    let after : Drawn = c.try_terms-place.new.draws in
    let run : Drawn → Run = λ d. record { given = given_of (faults_of c.self.inside.faults) (texts c.self.inside.catalogue.now) d.seed d.stream c.self.inside.max_hits; hits = c.keep.new.hits.items } in
    subst (λ (d : Drawn). GoesOn (reply_of_answer c.effect_of-effect.result.answer) (run d)) (drawn_on before after _ c.try_terms-place.ensures.next)
    (goes_by _ _ c.args.point _ _ c.self.view_is running c.in_default.ensures.ok_hits (returns-clause-answer c))
