-- Behaviours are the paths of what is asked.
use Rattle.std.proofs.Common.{◌≡◌, ℕ, zero, suc, ◌+◌, ◌<◌, ◌≤◌, Some, None, List, [], ◌∷◌, ◌++◌, length, refl, ap, sym, ◌∙◌, subst, arith, append_assoc, length-append}
use Rattle.std.proofs.lemmas.List.{append-nil, length_push}
use Rattle.action_eval.specs.declared.rig.Site.{Site}
use Rattle.action_eval.specs.Answers.{Reply}
use Rattle.target_trait.specs.Play.{Move, Ask, Done, Unknown}
use Rattle.grown_plans.specs.Runs.{Met, site_after}
use Rattle.grown_plans.specs.GrownPlans.{Subject}
use Rattle.grown_plans.proofs.Paths.{next_by, next_of, next_is, IsPath}
use Rattle.campaign_core.specs.promises.Behaviours.{answers, Follows, IsOverAt, IsBehaviour}

-- ---- from a path

path_follows : (asks : List Reply → Move) (n : ℕ) (before ms : List Met) → IsPath asks n before ms → Follows asks before ms
path_follows asks n before [] p = tt
path_follows asks zero before (m ∷ ms) p = absurd p
path_follows asks (suc n) before (m ∷ ms) p =
    let is = next_is asks before m.site p.0 in (is.0, is.1, path_follows asks n (before ++ m ∷ []) ms p.1)

at_limit : (limit hits : ℕ) (move : Move) → hits ≡ limit → IsOverAt limit hits move
at_limit limit hits (Ask p) e = e
at_limit limit hits (Done j) e = omega (arith, e)
at_limit limit hits Unknown e = omega (arith, e)

at_end : (limit hits : ℕ) (before : List Met) (move : Move) → hits ≤ limit → next_by before move ≡ None → IsOverAt limit hits move
at_end limit hits before (Ask p) h e = absurd cc
at_end limit hits before (Done j) h e = h
at_end limit hits before Unknown h e = h

path_over : (asks : List Reply → Move) (limit n : ℕ) (before ms : List Met) → length before + n ≡ limit → IsPath asks n before ms
    → IsOverAt limit (length (before ++ ms)) (asks (answers (before ++ ms)))
unfolding next_of
path_over asks limit zero before [] e p =
    subst (λ (l : List Met). IsOverAt limit (length l) (asks (answers l))) (sym (append-nil before)) (at_limit limit (length before) (asks (answers before)) (omega (arith, e)))
path_over asks limit (suc n) before [] e p =
    subst (λ (l : List Met). IsOverAt limit (length l) (asks (answers l))) (sym (append-nil before))
    (at_end limit (length before) before (asks (answers before)) (omega (arith, e)) p)
path_over asks limit zero before (m ∷ ms) e p = absurd p
path_over asks limit (suc n) before (m ∷ ms) e p =
    let longer : length (before ++ m ∷ []) ≡ length before + 1 = length_push before m in
    subst (λ (l : List Met). IsOverAt limit (length l) (asks (answers l))) (append_assoc before (m ∷ []) ms)
    (path_over asks limit n (before ++ m ∷ []) ms (omega (arith, e, longer)) p.1)

pub behaviour_of : (t : Subject) (ms : List Met) → IsPath t.asks t.limit [] ms → IsBehaviour t ms
behaviour_of t ms p = record { follows = path_follows t.asks t.limit [] ms p; ends = path_over t.asks t.limit t.limit [] ms (omega arith) p }

-- ---- to a path

ends_within : (limit hits : ℕ) (before : List Met) (move : Move) → hits < limit → IsOverAt limit hits move → next_by before move ≡ None
ends_within limit hits before (Ask p) h e = absurd (omega (arith, h, e))
ends_within limit hits before (Done j) h e = refl
ends_within limit hits before Unknown h e = refl

not_past : (limit hits : ℕ) (move : Move) → IsOverAt limit hits move → hits ≤ limit
not_past limit hits (Ask p) e = omega (arith, e)
not_past limit hits (Done j) e = e
not_past limit hits Unknown e = e

comes_next : (before : List Met) (move : Move) (s : Site) → move ≡ Ask s.point → s ≡ site_after before s.point → next_by before move ≡ Some s
comes_next before move s e h = ap (next_by before) e ∙ ap (λ (x : Site). Some x) (sym h)

path_from : (asks : List Reply → Move) (limit n : ℕ) (before ms : List Met) → length before + n ≡ limit → Follows asks before ms
    → IsOverAt limit (length (before ++ ms)) (asks (answers (before ++ ms))) → IsPath asks n before ms
unfolding next_of
path_from asks limit zero before [] e f o = tt
path_from asks limit (suc n) before [] e f o =
    let here : IsOverAt limit (length before) (asks (answers before)) = subst (λ (l : List Met). IsOverAt limit (length l) (asks (answers l))) (append-nil before) o in
    ends_within limit (length before) before (asks (answers before)) (omega (arith, e)) here
path_from asks limit zero before (m ∷ ms) e f o =
    let long = length-append before (m ∷ ms) in
    let few = not_past limit (length (before ++ m ∷ ms)) (asks (answers (before ++ m ∷ ms))) o in
    absurd (omega (arith, e, long, few))
path_from asks limit (suc n) before (m ∷ ms) e f o =
    let longer : length (before ++ m ∷ []) ≡ length before + 1 = length_push before m in (
      comes_next before (asks (answers before)) m.site f.0 f.1,
      path_from asks limit n (before ++ m ∷ []) ms (omega (arith, e, longer)) f.2
          (subst (λ (l : List Met). IsOverAt limit (length l) (asks (answers l))) (sym (append_assoc before (m ∷ []) ms)) o),
    )

pub path_of : (t : Subject) (ms : List Met) → IsBehaviour t ms → IsPath t.asks t.limit [] ms
path_of t ms b = path_from t.asks t.limit t.limit [] ms (omega arith) b.follows b.ends
