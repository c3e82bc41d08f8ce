-- Where answers lead in a tree that is kept in segments, as a place is added.
use Rattle.std.proofs.Common.{◌≡◌, ◌≢◌, ◌⊎◌, inl, inr, ℕ, zero, suc, ◌+◌, ◌<◌, ◌≤◌, ◌==◌, ◌&&◌, nat_lt, Bool, true, false, cond, List, [], ◌∷◌, ◌++◌, length, replicate, Option, Some, None, refl, ap, sym, ◌∙◌, arith}
use Rattle.std.specs.Prelude.{option_and_then, slice_get}
use Rattle.std.specs.List.{AllByRecursion}
use Rattle.std.specs.Map.{lookup}
use Rattle.std.proofs.lemmas.List.{length-append, length-replicate}
use Rattle.std.proofs.lemmas.Bool.Decides.{Decides-eqb, nat_tests}
use Rattle.indexmap.specs.IndexMap.{insert_entry}
use Rattle.action_eval.specs.Answers.{Reply}
use Rattle.answered_runs.specs.declared.segments.Segment.{Segment}
use Rattle.answered_runs.specs.declared.tree.Said.{Said}
use Rattle.answered_runs.specs.declared.tree.Way.{Way}
use Rattle.answered_runs.specs.inside.Replies.{Extends, number_in}
use Rattle.answered_runs.specs.inside.Segments.{AreLaid, AreNumbered, IsPutOn, answer_at, expand, is_own, leads_by, leads_in, way_at, way_eq}
use Rattle.answered_runs.specs.inside.Trees.{Adds, Tree}
use Rattle.answered_runs.proofs.Laid.{laid_up}
use Rattle.answered_runs.proofs.Numbers.{number_more, number_new, number_same, positive}

-- ---- segments

expand_long_from : (first : ℕ) (ss : List Segment) (end : ℕ) → AreLaid first ss end → first + length (expand ss) ≡ end
expand_long_from first [] end e = omega (arith, e)
expand_long_from first (s ∷ ss) end (is, some, rest) =
    let more = expand_long_from (first + s.count) ss end rest in
    let long : length (replicate s.count s.said ++ expand ss) ≡ s.count + length (expand ss) =
    length-append (replicate s.count s.said) (expand ss) ∙ ap (λ (n : ℕ). n + length (expand ss)) (length-replicate s.count s.said) in
    omega (arith, more, long)

pub expand_long : (ss : List Segment) (end : ℕ) → AreLaid 0 ss end → length (expand ss) ≡ end
expand_long ss end laid = let long = expand_long_from 0 ss end laid in omega (arith, long)

no_answer_from : (first : ℕ) (ss : List Segment) (end n : ℕ) → AreLaid first ss end → end ≤ n → answer_at ss n ≡ None
no_answer_from first [] end n laid past = refl
no_answer_from first (s ∷ ss) end n (is, some, rest) past =
    let up = laid_up (first + s.count) ss end rest in
    ap (λ (b : Bool). cond b (Some s.answer) (answer_at ss n)) (let over : nat_lt n (s.first + s.count) ≡ false = grind (arith, nat_tests, is, up, past) in over)
    ∙ no_answer_from (first + s.count) ss end n rest past

pub no_answer : (ss : List Segment) (end n : ℕ) → AreLaid 0 ss end → end ≤ n → answer_at ss n ≡ None
no_answer ss end n laid past = no_answer_from 0 ss end n laid past

own_low : (ss : List Segment) (n most a : ℕ) → AllByRecursion (λ (s : Segment). s.answer < most) ss → answer_at ss n ≡ Some a → a < most
own_low [] n most a all e = absurd cc
own_low (s ∷ ss) n most a all e = by_test (own_low ss n most a all.1) (nat_lt n (s.first + s.count)) e
  where
    by_test : (answer_at ss n ≡ Some a → a < most) → (b : Bool) → cond b (Some s.answer) (answer_at ss n) ≡ Some a → a < most
    by_test later true f = let is : s.answer ≡ a = cc in let low = all.0 in omega (arith, is, low)
    by_test later false f = later f

-- ---- ways

abbrev pub look : List (Way × ℕ) → ℕ → ℕ → Option ℕ
look ways n a = lookup (way_eq (way_at n a)) ways

and_true : (a b : Bool) → a && b ≡ true → (a ≡ true) × (b ≡ true)
and_true true true e = (refl, refl)
and_true true false e = absurd cc
and_true false b e = absurd cc

pub way_same : (a b : Way) → way_eq a b ≡ true → (a.place ≡ b.place) × (a.answer ≡ b.answer)
way_same a b e =
    let f = and_true _ _ e in
    ((Decides-eqb a.place b.place).0 f.0, (Decides-eqb a.answer b.answer).0 f.1)

-- no way comes from a later place, or by a later number
pub no_way : (ways : List (Way × ℕ)) (places most n a : ℕ) → AllByRecursion (λ (w : Way × ℕ). (w.0.place < places) × (w.0.answer < most)) ways → (places ≤ n) ⊎ (most ≤ a) → look ways n a ≡ None
no_way [] places most n a all past = refl
no_way (w ∷ ways) places most n a all past = by_test (no_way ways places most n a all.1 past) (way_eq (way_at n a) w.0) refl
  where
    never : (places ≤ n) ⊎ (most ≤ a) → n ≡ w.0.place → a ≡ w.0.answer → ⊥
    never (inl over) e f = let low = all.0.0 in omega (arith, over, e, low)
    never (inr over) e f = let low = all.0.1 in omega (arith, over, f, low)

    by_test : look ways n a ≡ None → (b : Bool) → way_eq (way_at n a) w.0 ≡ b → lookup (way_eq (way_at n a)) (w ∷ ways) ≡ None
    by_test later true e = let same = way_same (way_at n a) w.0 e in absurd (never past same.0 same.1)
    by_test later false e = ap (λ (b : Bool). cond b (Some w.1) (look ways n a)) e ∙ later

-- ---- where an answer leads

abbrev lead : Option ℕ → Option ℕ → ℕ → ℕ → Option ℕ
lead own other n a = cond (is_own own a) (Some (n + 1)) other

pub not_own : (own : Option ℕ) (a : ℕ) → ((b : ℕ) → own ≡ Some b → b ≢ a) → is_own own a ≡ false
not_own None a h = refl
not_own (Some b) a h = by_test (b == a) refl
  where
    by_test : (x : Bool) → (b == a) ≡ x → (b == a) ≡ false
    by_test true e = absurd (h b refl ((Decides-eqb b a).0 e))
    by_test false e = e

-- the tree before a place was added, and the tree after it
module _ (said : List Said) (segs news : List Segment) (ways more : List (Way × ℕ)) (texts added : List (List ℕ)) (last place : ℕ) (r : Reply) (a : ℕ) (here x : Said)
    (laid : AreLaid 0 segs last) (numbered : AreNumbered segs ways texts last) (old_said : said ≡ expand segs ++ here ∷ []) where
  abbrev t : Tree
  t = record { said = said; segments = segs; ways = ways; texts = texts }

  abbrev u : Tree
  u = record { said = expand news ++ x ∷ []; segments = news; ways = more; texts = texts ++ added }

  abbrev leads_old : ℕ → Reply → Option ℕ
  leads_old n q = leads_in segs ways texts n q

  abbrev leads_new : ℕ → Reply → Option ℕ
  leads_new n q = leads_in news more (texts ++ added) n q

  -- that a place was added follows from what each answer leads to
  adds_by : (own : ℕ) → IsPutOn segs news last here own → leads_old place r ≡ None → leads_new place r ≡ Some (last + 1)
      → ((n : ℕ) (q : Reply) → (leads_new n q ≡ leads_old n q) ⊎ ((n ≡ place) × (q ≡ r))) → Adds t u place r x (last + 1)
  adds_by own put none leads each = record {
    next_is = sym (ap length old_said ∙ length-append (expand segs) (here ∷ []) ∙ ap (λ (n : ℕ). n + 1) (expand_long segs last laid));
    said = ap (λ (l : List Said). l ++ x ∷ []) (put.says ∙ sym old_said);
    leads = leads;
    kept = λ n q m e. by_kept n q m e (each n q);
    only = λ n q m e. by_only n q m e (each n q);
  }
    where
      by_kept : (n : ℕ) (q : Reply) (m : ℕ) → leads_old n q ≡ Some m → (leads_new n q ≡ leads_old n q) ⊎ ((n ≡ place) × (q ≡ r)) → leads_new n q ≡ Some m
      by_kept n q m e (inl same) = same ∙ e
      by_kept n q m e (inr here) =
          let found : leads_old place r ≡ Some m = sym (ap (λ (k : ℕ). leads_old k q) here.0 ∙ ap (leads_old place) here.1) ∙ e in
          absurd (let never : None ≡ Some m = sym none ∙ found in cc)

      by_only : (n : ℕ) (q : Reply) (m : ℕ) → leads_new n q ≡ Some m → (leads_new n q ≡ leads_old n q) ⊎ ((n ≡ place) × (q ≡ r)) → (leads_old n q ≡ Some m) ⊎ ((n ≡ place) × (q ≡ r) × (m ≡ last + 1))
      by_only n q m e (inl same) = inl (sym same ∙ e)
      by_only n q m e (inr here) =
          let found : leads_new place r ≡ Some m = sym (ap (λ (k : ℕ). leads_new k q) here.0 ∙ ap (leads_new place) here.1) ∙ e in
          let both : Some m ≡ Some (last + 1) = sym found ∙ leads in
          inr (here.0, here.1, cc)

  -- the numbers of an answer before and after
  module _ (num : number_in (texts ++ added) r ≡ Some a) where
    -- a number that is new leads nowhere
    new_leads : (n : ℕ) (b : ℕ) → 4 + length texts ≤ b → lead (answer_at segs n) (look ways n b) n b ≡ None
    new_leads n b new =
        ap (λ (x : Bool). cond x (Some (n + 1)) (look ways n b)) (not_own (answer_at segs n) b (λ c e same. let low = own_low segs n (4 + length texts) c numbered.own e in omega (arith, new, same, low)))
        ∙ no_way ways last (4 + length texts) n b numbered.others (inr new)

    -- ---- behind the last place
    module _ (put : IsPutOn segs news last here a) (same : more ≡ ways) (at : place ≡ last) where
      led : (n b : ℕ) → (lead (answer_at news n) (look more n b) n b ≡ lead (answer_at segs n) (look ways n b) n b) ⊎ ((n ≡ place) × (b ≡ a))
      led n b = by_order (nat_lt n last) refl
        where
          looks : look more n b ≡ look ways n b
          looks = ap (λ (w : List (Way × ℕ)). look w n b) same

          by_own : n ≡ last → (x : Bool) → (a == b) ≡ x → (lead (answer_at news n) (look more n b) n b ≡ lead (answer_at segs n) (look ways n b) n b) ⊎ ((n ≡ place) × (b ≡ a))
          by_own e true f = inr (e ∙ sym at, sym ((Decides-eqb a b).0 f))
          by_own e false f =
              let own : answer_at news n ≡ Some a = ap (answer_at news) e ∙ put.here in
              let none : answer_at segs n ≡ None = no_answer segs last n laid (omega (arith, e)) in
              inl
              (ap (λ (o : Option ℕ). lead o (look more n b) n b) own ∙ ap (λ (x : Bool). cond x (Some (n + 1)) (look more n b)) f ∙ looks
              ∙ sym (ap (λ (o : Option ℕ). lead o (look ways n b) n b) none))

          by_last : (x : Bool) → (n == last) ≡ x → last ≤ n → (lead (answer_at news n) (look more n b) n b ≡ lead (answer_at segs n) (look ways n b) n b) ⊎ ((n ≡ place) × (b ≡ a))
          by_last true f past = by_own ((Decides-eqb n last).0 f) (a == b) refl
          by_last false f past =
              let further : last + 1 ≤ n = grind (arith, nat_tests, f, past) in
              let old : answer_at segs n ≡ None = no_answer segs last n laid past in
              let new : answer_at news n ≡ None = no_answer news (last + 1) n put.laid further in
              inl (ap (λ (o : Option ℕ). lead o (look more n b) n b) new ∙ looks ∙ sym (ap (λ (o : Option ℕ). lead o (look ways n b) n b) old))

          by_order : (x : Bool) → nat_lt n last ≡ x → (lead (answer_at news n) (look more n b) n b ≡ lead (answer_at segs n) (look ways n b) n b) ⊎ ((n ≡ place) × (b ≡ a))
          by_order true e = inl (ap (λ (o : Option ℕ). lead o (look more n b) n b) (put.before n (grind (arith, nat_tests, e))) ∙ ap (λ (o : Option ℕ). lead (answer_at segs n) o n b) looks)
          by_order false e = by_last (n == last) refl (grind (arith, nat_tests, e))

      each : (n : ℕ) (q : Reply) → (leads_new n q ≡ leads_old n q) ⊎ ((n ≡ place) × (q ≡ r))
      each n q = by_old (number_in texts q) refl (number_in (texts ++ added) q) refl
        where
          answered : (b : ℕ) → number_in (texts ++ added) q ≡ Some b → b ≡ a → q ≡ r
          answered b e f = number_same (texts ++ added) q r a (e ∙ ap (λ (m : ℕ). Some m) f) num

          by_led : (b : ℕ) → number_in (texts ++ added) q ≡ Some b → (lead (answer_at news n) (look more n b) n b ≡ lead (answer_at segs n) (look ways n b) n b) ⊎ ((n ≡ place) × (b ≡ a))
              → (lead (answer_at news n) (look more n b) n b ≡ lead (answer_at segs n) (look ways n b) n b) ⊎ ((n ≡ place) × (q ≡ r))
          by_led b e (inl f) = inl f
          by_led b e (inr f) = inr (f.0, answered b e f.1)

          both : (b : ℕ) → number_in (texts ++ added) q ≡ Some b → number_in texts q ≡ Some b → (lead (answer_at news n) (look more n b) n b ≡ lead (answer_at segs n) (look ways n b) n b) ⊎ ((n ≡ place) × (q ≡ r)) → (leads_new n q ≡ leads_old n q) ⊎ ((n ≡ place) × (q ≡ r))
          both b e f (inl g) = inl (ap (option_and_then (leads_by news more n)) e ∙ g ∙ sym (ap (option_and_then (leads_by segs ways n)) f))
          both b e f (inr g) = inr g

          fresh : (b : ℕ) → number_in (texts ++ added) q ≡ Some b → number_in texts q ≡ None → (lead (answer_at news n) (look more n b) n b ≡ lead (answer_at segs n) (look ways n b) n b) ⊎ ((n ≡ place) × (q ≡ r)) → (leads_new n q ≡ leads_old n q) ⊎ ((n ≡ place) × (q ≡ r))
          fresh b e f (inl g) =
              inl (ap (option_and_then (leads_by news more n)) e ∙ g ∙ new_leads n b (number_new texts added q b f e) ∙ sym (ap (option_and_then (leads_by segs ways n)) f))
          fresh b e f (inr g) = inr g

          by_old : (o : Option ℕ) → number_in texts q ≡ o → (p : Option ℕ) → number_in (texts ++ added) q ≡ p → (leads_new n q ≡ leads_old n q) ⊎ ((n ≡ place) × (q ≡ r))
          by_old (Some b) f p e = let now = number_more texts added q b f in both b now f (by_led b now (led n b))
          by_old None f None e = inl (ap (option_and_then (leads_by news more n)) e ∙ sym (ap (option_and_then (leads_by segs ways n)) f))
          by_old None f (Some b) e = fresh b e f (by_led b e (led n b))

      pub adds_behind : leads_old place r ≡ None → Adds t u place r x (last + 1)
      adds_behind none =
          adds_by a put none
          (ap (λ (k : ℕ). leads_new k r) at ∙ ap (option_and_then (leads_by news more last)) num ∙ ap (λ (o : Option ℕ). lead o (look more last a) last a) put.here
          ∙ ap (λ (b : Bool). cond b (Some (last + 1)) (look more last a)) ((Decides-eqb a a).1 refl))
          each

    -- ---- from an earlier place
    module _ (put : IsPutOn segs news last here 0) (early : place < last) (there : look more place a ≡ Some (last + 1))
        (others : (n b : ℕ) → ((n ≡ place) × (b ≡ a) → ⊥) → look more n b ≡ look ways n b) where
      abbrev Leads : ℕ → ℕ → Type 0
      Leads n b = (lead (answer_at news n) (look more n b) n b ≡ lead (answer_at segs n) (look ways n b) n b) ⊎ ((n ≡ place) × (b ≡ a))

      looks : (n b : ℕ) → (look more n b ≡ look ways n b) ⊎ ((n ≡ place) × (b ≡ a))
      looks n b = by_test (n == place) refl (b == a) refl
        where
          by_test : (x : Bool) → (n == place) ≡ x → (y : Bool) → (b == a) ≡ y → (look more n b ≡ look ways n b) ⊎ ((n ≡ place) × (b ≡ a))
          by_test true e true f = inr ((Decides-eqb n place).0 e, (Decides-eqb b a).0 f)
          by_test true e false f = inl (others n b (λ both. absurd (let is : (b == a) ≡ true = (Decides-eqb b a).1 both.1 in let never : true ≡ false = sym is ∙ f in cc)))
          by_test false e y f = inl (others n b (λ both. absurd (let is : (n == place) ≡ true = (Decides-eqb n place).1 both.0 in let never : true ≡ false = sym is ∙ e in cc)))

      led_early : (n b : ℕ) → 0 < b → Leads n b
      led_early n b some = by_looks (looks n b)
        where
          by_last : (x : Bool) → (n == last) ≡ x → last ≤ n → look more n b ≡ look ways n b → Leads n b
          by_last true f past same =
              let own : answer_at news n ≡ Some 0 = ap (answer_at news) ((Decides-eqb n last).0 f) ∙ put.here in
              let none : answer_at segs n ≡ None = no_answer segs last n laid past in
              inl
              (ap (λ (o : Option ℕ). lead o (look more n b) n b) own ∙ ap (λ (x : Bool). cond x (Some (n + 1)) (look more n b)) (not_own (Some 0) b (λ c e is. let zero : 0 ≡ c = cc in omega (arith, some, is, zero)))
              ∙ same ∙ sym (ap (λ (o : Option ℕ). lead o (look ways n b) n b) none))
          by_last false f past same =
              let further : last + 1 ≤ n = grind (arith, nat_tests, f, past) in
              let old : answer_at segs n ≡ None = no_answer segs last n laid past in
              let new : answer_at news n ≡ None = no_answer news (last + 1) n put.laid further in
              inl (ap (λ (o : Option ℕ). lead o (look more n b) n b) new ∙ same ∙ sym (ap (λ (o : Option ℕ). lead o (look ways n b) n b) old))

          by_order : (x : Bool) → nat_lt n last ≡ x → look more n b ≡ look ways n b → Leads n b
          by_order true e same = inl (ap (λ (o : Option ℕ). lead o (look more n b) n b) (put.before n (grind (arith, nat_tests, e))) ∙ ap (λ (o : Option ℕ). lead (answer_at segs n) o n b) same)
          by_order false e same = by_last (n == last) refl (grind (arith, nat_tests, e)) same

          by_looks : (look more n b ≡ look ways n b) ⊎ ((n ≡ place) × (b ≡ a)) → Leads n b
          by_looks (inl same) = by_order (nat_lt n last) refl same
          by_looks (inr here) = inr here

      each_early : (n : ℕ) (q : Reply) → (leads_new n q ≡ leads_old n q) ⊎ ((n ≡ place) × (q ≡ r))
      each_early n q = by_old (number_in texts q) refl (number_in (texts ++ added) q) refl
        where
          by_led : (b : ℕ) → number_in (texts ++ added) q ≡ Some b → Leads n b → (lead (answer_at news n) (look more n b) n b ≡ lead (answer_at segs n) (look ways n b) n b) ⊎ ((n ≡ place) × (q ≡ r))
          by_led b e (inl f) = inl f
          by_led b e (inr f) = inr (f.0, number_same (texts ++ added) q r a (e ∙ ap (λ (m : ℕ). Some m) f.1) num)

          both : (b : ℕ) → number_in (texts ++ added) q ≡ Some b → number_in texts q ≡ Some b → (lead (answer_at news n) (look more n b) n b ≡ lead (answer_at segs n) (look ways n b) n b) ⊎ ((n ≡ place) × (q ≡ r)) → (leads_new n q ≡ leads_old n q) ⊎ ((n ≡ place) × (q ≡ r))
          both b e f (inl g) = inl (ap (option_and_then (leads_by news more n)) e ∙ g ∙ sym (ap (option_and_then (leads_by segs ways n)) f))
          both b e f (inr g) = inr g

          fresh : (b : ℕ) → number_in (texts ++ added) q ≡ Some b → number_in texts q ≡ None → (lead (answer_at news n) (look more n b) n b ≡ lead (answer_at segs n) (look ways n b) n b) ⊎ ((n ≡ place) × (q ≡ r)) → (leads_new n q ≡ leads_old n q) ⊎ ((n ≡ place) × (q ≡ r))
          fresh b e f (inl g) =
              inl (ap (option_and_then (leads_by news more n)) e ∙ g ∙ new_leads n b (number_new texts added q b f e) ∙ sym (ap (option_and_then (leads_by segs ways n)) f))
          fresh b e f (inr g) = inr g

          by_old : (o : Option ℕ) → number_in texts q ≡ o → (p : Option ℕ) → number_in (texts ++ added) q ≡ p → (leads_new n q ≡ leads_old n q) ⊎ ((n ≡ place) × (q ≡ r))
          by_old (Some b) f p e = let now = number_more texts added q b f in both b now f (by_led b now (led_early n b (positive texts q b f)))
          by_old None f None e = inl (ap (option_and_then (leads_by news more n)) e ∙ sym (ap (option_and_then (leads_by segs ways n)) f))
          by_old None f (Some b) e = fresh b e f (by_led b e (led_early n b (positive (texts ++ added) q b e)))

      -- no answer of this number leads on from the place already
      not_led : leads_old place r ≡ None → is_own (answer_at segs place) a ≡ false
      not_led none = by_old (number_in texts r) refl
        where
          by_own : number_in texts r ≡ Some a → (x : Bool) → is_own (answer_at segs place) a ≡ x → is_own (answer_at segs place) a ≡ false
          by_own f true e =
              let found : leads_old place r ≡ Some (place + 1) = ap (option_and_then (leads_by segs ways place)) f ∙ ap (λ (b : Bool). cond b (Some (place + 1)) (look ways place a)) e in
              absurd (let never : None ≡ Some (place + 1) = sym none ∙ found in cc)
          by_own f false e = e

          by_old : (o : Option ℕ) → number_in texts r ≡ o → is_own (answer_at segs place) a ≡ false
          by_old (Some b) f =
              let now : Some b ≡ Some a = sym (number_more texts added r b f) ∙ num in
              by_own (f ∙ now) (is_own (answer_at segs place) a) refl
          by_old None f =
              let new = number_new texts added r a f num in
              not_own (answer_at segs place) a (λ c e same. let low = own_low segs place (4 + length texts) c numbered.own e in omega (arith, new, same, low))

      pub adds_beside : leads_old place r ≡ None → Adds t u place r x (last + 1)
      adds_beside none =
          adds_by 0 put none
          (ap (option_and_then (leads_by news more place)) num ∙ ap (λ (o : Option ℕ). lead o (look more place a) place a) (put.before place early)
          ∙ ap (λ (b : Bool). cond b (Some (place + 1)) (look more place a)) (not_led none) ∙ there)
          each_early

-- ---- what stays numbered

more_low : (ss : List Segment) (most more : ℕ) → most ≤ more → AllByRecursion (λ (s : Segment). s.answer < most) ss → AllByRecursion (λ (s : Segment). s.answer < more) ss
more_low [] most more up all = tt
more_low (s ∷ ss) most more up all = let low = all.0 in (omega (arith, low, up), more_low ss most more up all.1)

more_ways : (ways : List (Way × ℕ)) (places later most more : ℕ) → places ≤ later → most ≤ more → AllByRecursion (λ (w : Way × ℕ). (w.0.place < places) × (w.0.answer < most)) ways
    → AllByRecursion (λ (w : Way × ℕ). (w.0.place < later) × (w.0.answer < more)) ways
more_ways [] places later most more on up all = tt
more_ways (w ∷ ways) places later most more on up all =
    let one = all.0.0 in
    let two = all.0.1 in
    ((omega (arith, one, on), omega (arith, two, up)), more_ways ways places later most more on up all.1)

pub numbered_on : (segs : List Segment) (ways : List (Way × ℕ)) (texts news : List (List ℕ)) (places later : ℕ) → Extends texts news → places ≤ later → AreNumbered segs ways texts places → AreNumbered segs ways news later
numbered_on segs ways texts news places later e on n =
    let long : length news ≡ length texts + length e.more = ap length e.are ∙ length-append texts e.more in
    record {
      own = more_low segs (4 + length texts) (4 + length news) (omega (arith, long)) n.own;
      others = more_ways ways places later (4 + length texts) (4 + length news) on (omega (arith, long)) n.others;
    }

pub numbered_put : (segs news : List Segment) (ways : List (Way × ℕ)) (texts : List (List ℕ)) (places last own : ℕ) (here : Said) → IsPutOn segs news last here own → own < 4 + length texts
    → AreNumbered segs ways texts places → AreNumbered news ways texts places
numbered_put segs news ways texts places last own here put low n = record { own = put.answers (4 + length texts) low n.own; others = n.others }

-- ---- what is said at a place

pub at_end : (ss : List Segment) (end : ℕ) (x : Said) → AreLaid 0 ss end → slice_get (expand ss ++ x ∷ []) end ≡ Some x
at_end ss end x laid = ap (slice_get (expand ss ++ x ∷ [])) (sym (expand_long ss end laid)) ∙ last_of (expand ss) x
  where
    last_of : (xs : List Said) (x : Said) → slice_get (xs ++ x ∷ []) (length xs) ≡ Some x
    last_of [] x = refl
    last_of (y ∷ xs) x = last_of xs x

pub said_early : (ss : List Segment) (n : ℕ) (x y : Said) → slice_get (expand ss) n ≡ Some y → slice_get (expand ss ++ x ∷ []) n ≡ Some y
said_early ss n x y e = before (expand ss) n e
  where
    before : (xs : List Said) (n : ℕ) → slice_get xs n ≡ Some y → slice_get (xs ++ x ∷ []) n ≡ Some y
    before [] n e = absurd cc
    before (z ∷ xs) zero e = e
    before (z ∷ xs) (suc n) e = before xs n e

pub within_all : (ss : List Segment) (end n : ℕ) (x : Said) → AreLaid 0 ss end → n < length (expand ss ++ x ∷ []) → n ≢ end → n < end
within_all ss end n x laid within other =
    let long : length (expand ss ++ x ∷ []) ≡ end + 1 = length-append (expand ss) (x ∷ []) ∙ ap (λ (m : ℕ). m + 1) (expand_long ss end laid) in
    by_test (nat_lt n end) refl (omega (arith, within, long))
  where
    by_test : (b : Bool) → nat_lt n end ≡ b → n ≤ end → n < end
    by_test true e up = grind (arith, nat_tests, e)
    by_test false e up = absurd (other (let past : end ≤ n = grind (arith, nat_tests, e) in omega (arith, up, past)))

low_insert : (ways : List (Way × ℕ)) (k : Way) (v places most : ℕ) → (k.place < places) × (k.answer < most)
    → AllByRecursion (λ (w : Way × ℕ). (w.0.place < places) × (w.0.answer < most)) ways → AllByRecursion (λ (w : Way × ℕ). (w.0.place < places) × (w.0.answer < most)) (insert_entry way_eq ways k v)
low_insert [] k v places most low all = (low, tt)
low_insert (w ∷ ways) k v places most low all = by_test (low_insert ways k v places most low all.1) (way_eq k w.0)
  where
    by_test : AllByRecursion (λ (w : Way × ℕ). (w.0.place < places) × (w.0.answer < most)) (insert_entry way_eq ways k v) → (b : Bool)
        → AllByRecursion (λ (w : Way × ℕ). (w.0.place < places) × (w.0.answer < most)) (cond b ((w.0, v) ∷ ways) (w ∷ insert_entry way_eq ways k v))
    by_test later true = (all.0, all.1)
    by_test later false = (all.0, later)

pub numbered_insert : (segs : List Segment) (ways : List (Way × ℕ)) (texts : List (List ℕ)) (places : ℕ) (k : Way) (v : ℕ) → k.place < places → k.answer < 4 + length texts
    → AreNumbered segs ways texts places → AreNumbered segs (insert_entry way_eq ways k v) texts places
numbered_insert segs ways texts places k v early low n = record { own = n.own; others = low_insert ways k v places (4 + length texts) (early, low) n.others }
