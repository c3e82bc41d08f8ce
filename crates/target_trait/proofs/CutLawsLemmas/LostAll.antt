-- A cut whose point has no entry loses all.
use Rattle.std.proofs.Common.{◌≡◌, ℕ, zero, suc, ◌+◌, ◌-◌, ◌<◌, ◌≤◌, Bool, true, false, cond, List, [], ◌∷◌, ◌++◌, length, map, replicate, None, inl, inr, refl, ap, sym, ◌∙◌, subst, arith}
use Rattle.std.proofs.lemmas.Bool.{cases_Bool, cases_lt}
use Rattle.std.proofs.lemmas.List.{length-replicate}
use Rattle.scenario_values.specs.declared.term.Task.TheVariants as task
use Rattle.scenario_values.specs.Scenario.{Entries, New, chain_of}
use Rattle.action_eval.specs.Words.{word}
use Rattle.action_eval.specs.Answers.{Given, Run, Hit, Reply, next, replies, history_of, is_cut_short}
use Rattle.action_eval.proofs.TidiedEntries.{flipped}
use Rattle.target_trait.specs.declared.judgement.Judgement.{Judgement}
use Rattle.target_trait.specs.declared.judgement.Verdict.TheVariants.{Unresolved}
use Rattle.target_trait.specs.Play.{Move, Ask, Done, Unknown, IsDone, IsWithin}
use Rattle.target_trait.specs.Outcomes.{judged, verdict_with}
use Rattle.target_trait.specs.Cuts.{Cut, asks_with, answer_to, with_keep}
use Rattle.target_trait.specs.cut_laws.KeptSets.{run_of_case, LacksKeep, HasRoom, LosesAlike}
use Rattle.target_trait.proofs.CutLawsLemmas.Names.{at, keep_name, longer_given, name_at, name_behind, next_by, no_words, own_given}
use Rattle.target_trait.proofs.CutLawsLemmas.OwnRuns.{past_limit}
use Rattle.target_trait.proofs.CutLawsLemmas.CutHits.{ComeNext, GoOn, said}
use Rattle.target_trait.proofs.CutLawsLemmas.CutPlays.{own_play, kept_case, short_case, short_alone, ended_alone, limit_case}

-- a name without an entry has no chain
no_chain : (s : Entries) (name : List ℕ) → New name s → chain_of s name ≡ []
no_chain [] name n = refl
no_chain (e ∷ es) name n = ap (λ b. cond b e.1 (chain_of es name)) (flipped e.0 name n.0) ∙ no_chain es name n.1

-- a hit of the cut that loses its write
abbrev lost_hit : ℕ → Hit
lost_hit n = record { point = n; term = None; did = task.Off; words = 0 }

next_lost : (names : List (List ℕ)) (seed stream limit : ℕ) (s : Entries) → LacksKeep s → (h : List Hit) → next (longer_given names seed stream limit s) h (length names) ≡ lost_hit (length names)
next_lost names seed stream limit s lacks h =
    let w = word seed stream in
    let n : ℕ = length names in
    ap (λ (name : List ℕ). next_by w h n name (chain_of s name)) (name_behind names) ∙ ap (next_by w h n keep_name) (no_chain s keep_name lacks)
    ∙ ap (λ k. let x : Hit = record { point = n; term = None; did = task.Off; words = k } in x) (no_words h)

come_lost : (names : List (List ℕ)) (seed stream limit : ℕ) (s : Entries) → LacksKeep s → (k : ℕ) (h : List Hit)
    → ComeNext (longer_given names seed stream limit s) (length names) h (replicate k (lost_hit (length names)))
come_lost names seed stream limit s lacks zero h = tt
come_lost names seed stream limit s lacks (suc k) h =
    (next_lost names seed stream limit s lacks h, come_lost names seed stream limit s lacks k (h ++ lost_hit (length names) ∷ []))

lost_on : (n k : ℕ) → GoOn (replicate k (lost_hit n))
lost_on n zero = tt
lost_on n (suc k) = (refl, lost_on n k)

lost_said : (n k : ℕ) → said (replicate k (lost_hit n)) ≡ map answer_to (replicate k false)
lost_said n zero = refl
lost_said n (suc k) = ap (λ (l : List Reply). answer_to false ∷ l) (lost_said n k)

-- the judgement with which nothing more is asked
record Judges (move : Move) : Type 0 where
  judgement : Judgement
  is : move ≡ Done judgement

judges : (move : Move) → IsDone move → Judges move
judges (Ask p) h = absurd h
judges (Done j) h = record { judgement = j; is = refl }
judges Unknown h = absurd h

module _ (asks : List Reply → Move) (cut : Cut) (names : List (List ℕ)) (within : (answers : List Reply) → IsWithin (length names) (asks answers))
    (seed stream limit : ℕ) (s : Entries) (lacks : LacksKeep s) where
  pub same_verdict : LosesAlike asks cut → HasRoom limit cut (run_of_case asks names seed stream limit s)
      → verdict_with (asks_with asks cut (length names)) (with_keep names) seed limit stream s ≡ verdict_with asks names seed limit stream s
  same_verdict alike room =
      let chains = λ (p : ℕ) (below : p < length names). refl {a = chain_of s (name_at names p)} in
      let o = own_play asks cut names within seed stream limit s s chains in
      let r : Run = at (own_given names seed stream limit s) o.hits in
      let pending : ℕ = cut.pending (replies r) in
      let fits : length o.hits + pending ≤ limit = subst (λ (x : Run). length x.hits + cut.pending (replies x) ≤ limit) o.is room in
      elim (cases_Bool (is_cut_short r)) [
        | inl short ↦
            short_case asks cut names seed stream limit s s chains o short ∙ sym (short_alone asks cut names seed stream limit s s chains o short)
        | inr goes ↦
            let keep : List Bool = replicate pending false in
            let long : length keep ≡ pending = length-replicate pending false in
            let k = kept_case asks cut names seed stream limit s s chains o goes keep (replicate pending (lost_hit (length names))) long (lost_said (length names) pending)
            (omega (arith, long, fits)) (lost_on (length names) pending) (come_lost names seed stream limit s lacks pending (history_of r)) in
            let j = judges (asks (replies r)) (o.ended goes) in
            k.verdict ∙ ap (λ (x : Run). judged (Done (cut.judge (replies x) keep))) o.is ∙ ap (λ (i : Judgement). judged (Done i)) (alike (replies r) j.judgement o.asking j.is)
            ∙ ap judged (sym j.is) ∙ sym (ended_alone asks cut names seed stream limit s s chains o goes)
      ]

  pub no_room : (HasRoom limit cut (run_of_case asks names seed stream limit s) → ⊥)
      → verdict_with (asks_with asks cut (length names)) (with_keep names) seed limit stream s ≡ Unresolved
  no_room full =
      let chains = λ (p : ℕ) (below : p < length names). refl {a = chain_of s (name_at names p)} in
      let o = own_play asks cut names within seed stream limit s s chains in
      let r : Run = at (own_given names seed stream limit s) o.hits in
      let pending : ℕ = cut.pending (replies r) in
      let fits : (length o.hits + pending ≤ limit) → ⊥ = λ few. full (subst (λ (x : Run). length x.hits + cut.pending (replies x) ≤ limit) (sym o.is) few) in
      elim (cases_Bool (is_cut_short r)) [
        | inl short ↦ short_case asks cut names seed stream limit s s chains o short
        | inr goes ↦
            let few : length o.hits ≤ limit = within_its_limit (own_given names seed stream limit s) o.hits goes in
            let k : ℕ = limit - length o.hits in
            let less : k < pending = most (length o.hits) pending limit few fits in
            let long : length (replicate k (lost_hit (length names))) ≡ k = length-replicate k (lost_hit (length names)) in
            limit_case asks cut names seed stream limit s s chains o goes (replicate k (lost_hit (length names))) (omega (arith, long, less))
            (omega (arith, long, few)) (lost_on (length names) k) (come_lost names seed stream limit s lacks k (history_of r))
      ]
    where
      within_its_limit : (g : Given) (hits : List ℕ) → is_cut_short (at g hits) ≡ false → length hits ≤ g.limit
      within_its_limit g hits goes = elim (cases_lt g.limit (length hits)) [
        | inl over ↦ let no : true ≡ false = sym (past_limit g hits over) ∙ goes in absurd cc
        | inr few ↦ few
      ]

      most : (a b limit : ℕ) → a ≤ limit → (a + b ≤ limit → ⊥) → limit - a < b
      most a b limit few full = elim (cases_lt limit (a + b)) [
        | inl less ↦ omega arith
        | inr fits ↦ absurd (full fits)
      ]
