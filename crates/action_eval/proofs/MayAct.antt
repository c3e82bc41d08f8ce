-- If no more of a point's hits come to nothing, the next one may act.
use Rattle.std.proofs.Common.{◌≡◌, ℕ, zero, suc, ◌+◌, ◌-◌, ◌*◌, ◌<◌, ◌≤◌, ◌&&◌, cond, not, eqb, leb, Bool, true, false, List, [], ◌∷◌, ◌++◌, length, map, take, slice_index, get_or, Option, Some, None, is_some, refl, ap, sym, ◌∙◌, arith, subst, zero-add, add-zero, length-append}
use Rattle.std.specs.Option.{option_map_or}
use Rattle.std.proofs.Math.Seq.{get_or-append_seam}
use Rattle.std.proofs.lemmas.Bool.Decides.{nat_tests}
use Rattle.std.proofs.lemmas.List.Sums.{count_by-le-length}
use Rattle.scenario_values.specs.declared.term.Term.{Term}
use Rattle.scenario_values.specs.Scenario.{chain_of, chain_at, is_off}
use Rattle.action_eval.specs.declared.answer.Stop.{Stop}
use Rattle.action_eval.specs.declared.answer.Note.{Note}
use Rattle.action_eval.specs.declared.found.Head.{Head}
use Rattle.action_eval.specs.declared.found.Head.TheVariants as head
use Rattle.action_eval.specs.Trial.{is_spent}
use Rattle.action_eval.specs.Answers.{Given, Run, Hit, acted, and_then, asked, history_of, is_term, is_used_up, name_of, next}
use Rattle.action_eval.specs.MayAct.{MayAct, is_quiet}
use Rattle.action_eval.specs.inside.Session.{AllSpent, IsRest, Keeps, found_of, head_of, left_counts, left_of, left_row}
use Rattle.action_eval.specs.inside.Quiet.{Spent, head_at, quiet_of, taken_by}
use Rattle.action_eval.proofs.Heads.{head_is}
use Rattle.action_eval.proofs.NamedCounts.{counts_at, found, name_at, stands}
use Rattle.action_eval.proofs.Rests.{index_in, whole_of}
use Rattle.action_eval.proofs.Steps.{known_found, point_found}

-- ---- how often a term acted

few_after : (g : Given) (h : List Hit) (ps : List ℕ) → length (and_then g h ps) ≡ length h + length ps
few_after g h [] = omega arith
few_after g h (p ∷ ps) = omega (arith, few_after g (h ++ next g h p ∷ []) ps, length-append h (next g h p ∷ []))

few_taken : (n : ℕ) (xs : List ℕ) → length (take n xs) ≤ length xs
few_taken zero xs = omega arith
few_taken (suc n) [] = omega arith
few_taken (suc n) (x ∷ xs) = omega (arith, few_taken n xs)

few_acted : (r : Run) (name : List ℕ) (i : ℕ) → acted (history_of r) name i ≤ length r.hits
few_acted r name i =
    omega (arith, count_by-le-length (λ (h : Hit). is_term name i h.term) (history_of r), few_after r.given [] (asked r), few_taken r.given.limit r.hits)

-- ---- terms that are used up

row_at : (times : ℕ → ℕ) (k : ℕ) (ts : List Term) (i : ℕ) (d : Term) → i < length ts → slice_index (left_row times k ts) i ≡ left_of (times (k + i)) (get_or ts i d)
row_at times k [] i d less = absurd (omega arith)
row_at times k (t ∷ ts) zero d less = ap (λ (n : ℕ). left_of (times n) t) (sym (add-zero k))
row_at times k (t ∷ ts) (suc i) d less =
    row_at times (k + 1) ts i d (omega arith) ∙ (let at : (k + 1) + i ≡ k + suc i = omega arith in ap (λ (n : ℕ). left_of (times n) (get_or ts i d)) at)

used_by : (times : ℕ) (o : Option ℕ) (left : ℕ) → left ≡ option_map_or (λ count. count - times) o (4294967295 - times) → (is_some o && eqb left 0) ≡ true
    → option_map_or (λ count. leb count times) o false ≡ true
used_by times None left e h = absurd (cc)
used_by times (Some c) left e h =
    let none : left ≡ 0 = grind (arith, nat_tests, h) in
    grind (arith, nat_tests, e, none)

none_left : (times : ℕ) (o : Option ℕ) (left : ℕ) → left ≡ option_map_or (λ count. count - times) o (4294967295 - times) → left ≡ 0 → times < 4294967295
    → option_map_or (λ count. leb count times) o false ≡ true
none_left times None left e h few = absurd (omega arith)
none_left times (Some c) left e h few = grind (arith, nat_tests, e, h)

spent_in : (spent : ℕ → Term → Bool) (k : ℕ) (before rest : List Term) (i : ℕ) (d : Term) → AllSpent spent k before → i < length before → spent (k + i) (get_or (before ++ rest) i d) ≡ true
spent_in spent k [] rest i d all less = absurd (omega arith)
spent_in spent k (t ∷ ts) rest zero d all less = ap (λ (n : ℕ). spent n t) (add-zero k) ∙ all.0
spent_in spent k (t ∷ ts) rest (suc i) d all less =
    (let at : k + suc i ≡ (k + 1) + i = omega arith in ap (λ (n : ℕ). spent n (get_or (ts ++ rest) i d)) at) ∙ spent_in spent (k + 1) ts rest i d all.1 (omega arith)

-- ---- terms of which something may come

used_is_loud : (b u : Bool) → u ≡ true → (b && not u) ≡ false
used_is_loud true true e = refl
used_is_loud false true e = refl
used_is_loud b false e = absurd (cc)

-- what a head says at which no hit more comes to nothing
loud_first : (times : ℕ) (t : Term) (b : Bool) (left : List ℕ) (start : ℕ) → slice_index left start ≡ left_of times t → times < 4294967295 → quiet_of left (cond b (head.Off start) head.Terms) ≡ 0
    → (b && not (option_map_or (λ count. leb count times) t.count false)) ≡ false
loud_first times t true left start at few e = used_is_loud true _ (none_left times t.count (slice_index left start) at e few)
loud_first times t false left start at few e = refl

-- the counts of a chain are what its terms leave
left_at : (r : Run) (points : List (Option (List Term × ℕ))) (left : List ℕ) (taken : ℕ) (notes : List Note) (millis : ℕ) (halt : Option Stop) → Keeps r points left taken notes millis halt
    → (name : List ℕ) (whole : List Term × ℕ) → found_of r.given.scenario name ≡ Some whole → (i : ℕ) (d : Term) → i < length whole.0
    → slice_index left (whole.1 + i) ≡ left_of (acted (history_of r) name i) (get_or whole.0 i d)
left_at r points left taken notes millis halt k name whole is i d less =
    let s = r.given.scenario in
    let h = history_of r in
    let st = stands s name whole is in
    let f = found s name st.number st.entry in
    let size : length whole.0 ≡ length (chain_at s st.number) = ap length st.chain in
    let here : i < length (chain_at s st.number) = omega arith in
    let row = counts_at h s st.number f.within in
    ap (λ (l : List ℕ). slice_index l (whole.1 + i)) k.left_is ∙ ap (λ (n : ℕ). slice_index (left_counts h s) (n + i)) st.start
    ∙ sym (index_in (left_counts h s) _ _ i here) ∙ ap (λ (l : List ℕ). slice_index l i) row
    ∙ row_at (acted h (name_at s st.number)) 0 (chain_at s st.number) i d here
    ∙ ap (λ (n : ℕ). left_of (acted h (name_at s st.number) n) (get_or (chain_at s st.number) i d)) (zero-add i)
    ∙ ap (λ (n : List ℕ). left_of (acted h n i) (get_or (chain_at s st.number) i d)) f.named
    ∙ ap (λ (c : List Term). left_of (acted h name i) (get_or c i d)) (sym st.chain)

may_act_at : (r : Run) (points : List (Option (List Term × ℕ))) (left : List ℕ) (taken : ℕ) (notes : List Note) (millis : ℕ) (halt : Option Stop) → Keeps r points left taken notes millis halt
    → length r.hits < 4294967295 → (p : ℕ) (o : Option (List Term × ℕ)) → IsRest left (found_of r.given.scenario (name_of r.given p)) o → quiet_of left (head_of o) ≡ 0 → MayAct r p
may_act_at r points left taken notes millis halt k few p None at e = absurd (omega arith)
may_act_at r points left taken notes millis halt k few p (Some ([], start)) at e = absurd (omega arith)
may_act_at r points left taken notes millis halt k few p (Some (t ∷ ts, start)) at e =
    let s = r.given.scenario in
    let name = name_of r.given p in
    let times = acted (history_of r) name in
    let w = whole_of left (found_of s name) (t ∷ ts, start) at in
    let st = stands s name w.whole w.is in
    let f = found s name st.number st.entry in
    let before = w.standing.before in
    let chain : w.whole.0 ≡ chain_of s name = st.chain ∙ f.chain in
    let size : length w.whole.0 ≡ length before + length (t ∷ ts) = ap length w.standing.chain_is ∙ length-append before (t ∷ ts) in
    let here = λ (i : ℕ) (d : Term) (less : i < length w.whole.0). left_at r points left taken notes millis halt k name w.whole w.is i d less in
    let seam = λ (d : Term). ap (λ (c : List Term). get_or c (length before) d) w.standing.chain_is ∙ get_or-append_seam before t ts d in
    record {
      place = length before;
      within = omega (arith, ap length chain);
      used_up = λ i d less.
          subst (λ (c : List Term). is_used_up times i (get_or c i d) ≡ true) chain
          (used_by (times i) (get_or w.whole.0 i d).count (slice_index left (w.whole.1 + i)) (here i d (omega arith))
          (ap (λ (c : List Term). is_spent left (w.whole.1 + i) (get_or c i d)) w.standing.chain_is ∙ spent_in (is_spent left) w.whole.1 before (t ∷ ts) i d w.standing.spent less));
      loud = λ d.
          subst (λ (c : List Term). is_quiet times (length before) (get_or c (length before) d) ≡ false) chain
          (ap (is_quiet times (length before)) (seam d) ∙
          loud_first (times (length before)) t (is_off t.task && eqb t.share 1000000) left start
          (ap (slice_index left) w.standing.start_is ∙ here (length before) t (omega arith) ∙ ap (left_of (times (length before))) (seam t))
          (omega (arith, few_acted r name (length before))) e);
    }

-- the same of the head that a session has of a point
pub may_act : (r now : Run) (points : List (Option (List Term × ℕ))) (left : List ℕ) (taken : ℕ) (notes : List Note) (millis : ℕ) (halt : Option Stop) → Keeps r points left taken notes millis halt
    → r ≡ now → (p : ℕ) → p < length now.given.catalogue → length now.hits < 4294967295 → (heads : List Head) → heads ≡ map head_of points → (read : List Head) → read ≡ heads
    → quiet_of left (head_at read p) ≡ 0 → MayAct now p
may_act r now points left taken notes millis halt k same p h few heads e read is quiet =
    let o = get_or points p None in
    let at = head_is points heads p head.Nothing (head_at heads p) e (known_found r now points left taken notes millis halt k same p h) refl in
    subst (λ (x : Run). MayAct x p) same
    (may_act_at r points left taken notes millis halt k (subst (λ (x : Run). length x.hits < 4294967295) (sym same) few) p o (point_found r now points left taken notes millis halt k same p h None o refl)
    (ap (quiet_of left) (at ∙ ap (λ (l : List Head). head_at l p) (sym is)) ∙ quiet))

-- If as many hits of a point came to nothing as can, none more does.
pub none_more : (heads : List Head) (p n : ℕ) (before after : List ℕ) → Spent heads (p ∷ []) n before after → n ≡ quiet_of before (head_at heads p) → n < 4294967295 → quiet_of after (head_at heads p) ≡ 0
none_more heads p n before after s is few = by_head (head_at heads p) s.each is
  where
    by_head : (o : Head) → ((j : ℕ) → slice_index before j ≡ slice_index after j + n * (taken_by j o + 0)) → n ≡ quiet_of before o → quiet_of after o ≡ 0
    by_head head.Nothing each e = absurd (omega arith)
    by_head (head.Off i) each e =
        let one : eqb i i ≡ true = grind (arith, nat_tests) in
        let here : slice_index before i ≡ slice_index after i + n * 1 = each i ∙ ap (λ (b : Bool). slice_index after i + n * (cond b 1 0 + 0)) one in
        omega (arith, here)
    by_head head.Terms each e = refl
