-- Where answers lead in a tree, and what stays as the tree grows.
use Rattle.std.proofs.Common.{◌≡◌, ◌⊎◌, inl, inr, ℕ, zero, suc, ◌+◌, ◌<◌, Option, Some, None, List, [], ◌∷◌, ◌++◌, length, refl, ap, sym, ◌∙◌, subst, arith, append_assoc, cond, Bool, true, false, ◌==◌}
use Rattle.std.specs.Prelude.{option_and_then, slice_get}
use Rattle.std.proofs.lemmas.List.{append-nil, length-append}
use Rattle.std.proofs.lemmas.Option.{slice_get_within}
use Rattle.std.proofs.lemmas.Bool.Decides.{Decides-eqb, nat_tests}
use Rattle.action_eval.specs.Answers.{Reply, Go}
use Rattle.target_trait.specs.Play.{Move}
use Rattle.answered_runs.specs.Agreement.{Line}
use Rattle.answered_runs.specs.Answered.{Answered}
use Rattle.answered_runs.specs.declared.tree.Said.{Said}
use Rattle.answered_runs.specs.inside.Trees.{Adds, Enters, Grows, IsKept, IsSaid, IsSound, IsStep, Leads, Tree, walk, way}

-- ---- one answer more

pub walk_more : (t : Tree) (n : ℕ) (rs : List Reply) (r : Reply) (m : ℕ) → walk t n rs ≡ Some m → walk t n (rs ++ r ∷ []) ≡ way t m r
walk_more t n [] r m e = by_way (way t n r) refl (some_is n m e)
  where
    some_is : (a b : ℕ) → (let x : Option ℕ = Some a in x) ≡ Some b → a ≡ b
    some_is a b e = cc

    by_way : (o : Option ℕ) → way t n r ≡ o → n ≡ m → option_and_then (λ next. Some next) o ≡ way t m r
    by_way None f g = sym (sym (ap (λ (k : ℕ). way t k r) g) ∙ f)
    by_way (Some k) f g = sym (sym (ap (λ (k : ℕ). way t k r) g) ∙ f)
walk_more t n (q ∷ rs) r m e = by_way (λ k. walk_more t k rs r m) (way t n q) e
  where
    by_way : ((k : ℕ) → walk t k rs ≡ Some m → walk t k (rs ++ r ∷ []) ≡ way t m r) → (o : Option ℕ) → option_and_then (λ next. walk t next rs) o ≡ Some m
        → option_and_then (λ next. walk t next (rs ++ r ∷ [])) o ≡ way t m r
    by_way later None f = absurd cc
    by_way later (Some next) f = later next f

-- ---- the tree grows

pub walk_grows : (t u : Tree) → Grows t u → (n : ℕ) (rs : List Reply) (m : ℕ) → walk t n rs ≡ Some m → walk u n rs ≡ Some m
walk_grows t u g n [] m e = e
walk_grows t u g n (r ∷ rs) m e = by_way (λ k. walk_grows t u g k rs m) (way t n r) refl e
  where
    by_way : ((k : ℕ) → walk t k rs ≡ Some m → walk u k rs ≡ Some m) → (o : Option ℕ) → way t n r ≡ o → option_and_then (λ next. walk t next rs) o ≡ Some m → option_and_then (λ next. walk u next rs) (way u n r) ≡ Some m
    by_way later None f h = absurd cc
    by_way later (Some next) f h = ap (option_and_then (λ next. walk u next rs)) (g.ways n r next f) ∙ later next h

pub leads_grow : (t u : Tree) → Grows t u → (answers : List Reply) (move : Move) → Leads t answers move → Leads u answers move
leads_grow t u g answers move l = record {
  place = l.place;
  said = l.said;
  there = walk_grows t u g 0 (Go ∷ answers) l.place l.there;
  at = g.said l.place l.said l.at;
  move_is = l.move_is;
}

pub kept_grow : (points : List (List ℕ)) (t u : Tree) → Grows t u → (l : Line) → IsKept points t l → IsKept points u l
kept_grow points t u g l k = record { pauses = k.pauses; says = λ count answers move s. leads_grow t u g answers move (k.says count answers move s) }

pub grows_same : (t : Tree) → Grows t t
grows_same t = record { said = λ m x e. e; ways = λ n r m e. e }

pub grows_on : (t u v : Tree) → Grows t u → Grows u v → Grows t v
grows_on t u v g h = record { said = λ m x e. h.said m x (g.said m x e); ways = λ n r m e. h.ways n r m (g.ways n r m e) }

said_before : (xs : List Said) (y x : Said) (m : ℕ) → slice_get xs m ≡ Some x → slice_get (xs ++ y ∷ []) m ≡ Some x
said_before [] y x m e = absurd cc
said_before (z ∷ xs) y x zero e = e
said_before (z ∷ xs) y x (suc m) e = said_before xs y x m e

-- what stands in a list that has one more
said_either : (xs : List Said) (y x : Said) (m : ℕ) → slice_get (xs ++ y ∷ []) m ≡ Some x → (slice_get xs m ≡ Some x) ⊎ ((m ≡ length xs) × (x ≡ y))
said_either [] y x zero e = inr (refl, cc)
said_either [] y x (suc m) e = absurd cc
said_either (z ∷ xs) y x zero e = inl e
said_either (z ∷ xs) y x (suc m) e = by_case (said_either xs y x m e)
  where
    by_case : (slice_get xs m ≡ Some x) ⊎ ((m ≡ length xs) × (x ≡ y)) → (slice_get xs m ≡ Some x) ⊎ ((suc m ≡ suc (length xs)) × (x ≡ y))
    by_case (inl f) = inl f
    by_case (inr f) = inr (ap suc f.0, f.1)

pub adds_grow : (t u : Tree) (place : ℕ) (r : Reply) (x : Said) (next : ℕ) → Adds t u place r x next → Grows t u
adds_grow t u place r x next a = record {
  said = λ m y e. subst (λ (l : List Said). slice_get l m ≡ Some y) (sym a.said) (said_before t.said x y m e);
  ways = a.kept;
}

-- ---- the answers that lead to a place

module _ (a : Answered) (t : Tree) (s : IsSound a t) where
  pub named : (n : ℕ) (rs : List Reply) (m : ℕ) → walk t n rs ≡ Some m → s.names m ≡ s.names n ++ rs
  named n [] m e = let same : n ≡ m = cc in ap s.names (sym same) ∙ sym (append-nil (s.names n))
  named n (r ∷ rs) m e = by_way (λ k. named k rs m) (way t n r) refl e
    where
      by_way : ((k : ℕ) → walk t k rs ≡ Some m → s.names m ≡ s.names k ++ rs) → (o : Option ℕ) → way t n r ≡ o → option_and_then (λ next. walk t next rs) o ≡ Some m → s.names m ≡ s.names n ++ r ∷ rs
      by_way later None f h = absurd cc
      by_way later (Some next) f h =
          later next h ∙ ap (λ (l : List Reply). l ++ rs) (s.ways n r next f).name_is ∙ append_assoc (s.names n) (r ∷ []) rs

  pub name_is : (rs : List Reply) (m : ℕ) → walk t 0 rs ≡ Some m → s.names m ≡ rs
  name_is rs m e = named 0 rs m e ∙ ap (λ (l : List Reply). l ++ rs) s.root

  pub below : (n : ℕ) (rs : List Reply) (m : ℕ) → n < length t.said → walk t n rs ≡ Some m → m < length t.said
  below n [] m less e = let same : n ≡ m = cc in subst (λ (k : ℕ). k < length t.said) same less
  below n (r ∷ rs) m less e = by_way (λ k. below k rs m) (way t n r) refl e
    where
      by_way : ((k : ℕ) → k < length t.said → walk t k rs ≡ Some m → m < length t.said) → (o : Option ℕ) → way t n r ≡ o → option_and_then (λ next. walk t next rs) o ≡ Some m → m < length t.said
      by_way later None f h = absurd cc
      by_way later (Some next) f h = later next (s.ways n r next f).within h

  -- one place more
  module _ (u : Tree) (place : ℕ) (r : Reply) (x : Said) (next : ℕ) (add : Adds t u place r x next) (less : place < length t.said) (from : IsSaid a (s.names place ++ r ∷ []) x) where
    abbrev names : ℕ → List Reply
    names m = cond (m == next) (s.names place ++ r ∷ []) (s.names m)

    old : (m : ℕ) → m < length t.said → names m ≡ s.names m
    old m h = let is = add.next_is in let f : (m == next) ≡ false = grind (arith, nat_tests, is, h) in ap (λ (b : Bool). cond b (s.names place ++ r ∷ []) (s.names m)) f

    new : names next ≡ s.names place ++ r ∷ []
    new = let f : (next == next) ≡ true = (Decides-eqb next next).1 refl in ap (λ (b : Bool). cond b (s.names place ++ r ∷ []) (s.names next)) f

    long : length u.said ≡ length t.said + 1
    long = ap length add.said ∙ length-append t.said (x ∷ [])

    ways : (n : ℕ) (q : Reply) (m : ℕ) → (way t n q ≡ Some m) ⊎ ((n ≡ place) × (q ≡ r) × (m ≡ next)) → IsStep u names n m q
    ways n q m (inl e) =
        let step = s.ways n q m e in
        let later = step.later in
        let within = step.within in
        record {
          later = later;
          within = omega (arith, within, long);
          name_is = old m within ∙ step.name_is ∙ ap (λ (l : List Reply). l ++ q ∷ []) (sym (old n (omega (arith, later, within))));
        }
    ways n q m (inr e) =
        let is = add.next_is in
        let same : m ≡ next = e.2 in
        let here : n ≡ place = e.0 in
        record {
          later = omega (arith, is, same, here, less);
          within = omega (arith, is, same, long);
          name_is =
              ap names same ∙ new ∙ ap (λ (k : ℕ). s.names k ++ r ∷ []) (sym here) ∙ ap (λ (y : Reply). s.names n ++ y ∷ []) (sym e.1)
              ∙ ap (λ (l : List Reply). l ++ q ∷ []) (sym (old n (omega (arith, here, less))));
        }

    sources : (m : ℕ) (y : Said) → 0 < m → (slice_get t.said m ≡ Some y) ⊎ ((m ≡ length t.said) × (y ≡ x)) → IsSaid a (names m) y
    sources m y some (inl e) = subst (λ (l : List Reply). IsSaid a l y) (sym (old m (slice_get_within t.said m y e))) (s.sources m y some e)
    sources m y some (inr e) =
        let here : m ≡ next = e.0 ∙ sym add.next_is in
        subst (IsSaid a (names m)) (sym e.1) (subst (λ (l : List Reply). IsSaid a l x) (sym (ap names here ∙ new)) from)

    pub sound_more : IsSound a u
    sound_more = record {
      some = omega (arith, long);
      names = names;
      root = old 0 s.some ∙ s.root;
      ways = λ n q m e. ways n q m (add.only n q m e);
      sources = λ m y some e. sources m y some (said_either t.said x y m (subst (λ (l : List Said). slice_get l m ≡ Some y) add.said e));
    }

-- ---- the place to which an answer leads

-- the tree after an answer was followed, and the place
pub record Entered (a : Answered) (t u : Tree) (name : List Reply) (m : ℕ) : Type 0 where
  pub sound : IsSound a u
  pub grows : Grows t u
  pub reached : walk u 0 name ≡ Some m
  pub within : m < length u.said
  pub some : 0 < m

pub entered : (a : Answered) (t u : Tree) (before : List Reply) (r : Reply) (x : Said) (place m : ℕ) → IsSound a t → walk t 0 before ≡ Some place → IsSaid a (before ++ r ∷ []) x → Enters t u place r x m → Entered a t u (before ++ r ∷ []) m
entered a t u before r x place m s reached from (inl e) =
    let there : walk t 0 (before ++ r ∷ []) ≡ Some m = walk_more t 0 before r place reached ∙ e.1 in
    let step = s.ways place r m e.1 in
    let later = step.later in
    subst (λ (v : Tree). Entered a t v (before ++ r ∷ []) m) (sym e.0)
    (record { sound = s; grows = grows_same t; reached = there; within = step.within; some = omega (arith, later) })
entered a t u before r x place m s reached from (inr add) =
    let less = below a t s 0 before place s.some reached in
    let name : s.names place ≡ before = name_is a t s before place reached in
    let some = s.some in
    let is = add.next_is in
    let grows = adds_grow t u place r x m add in
    let long : length u.said ≡ length t.said + 1 = ap length add.said ∙ length-append t.said (x ∷ []) in
    record {
      sound = sound_more a t s u place r x m add less (subst (λ (l : List Reply). IsSaid a (l ++ r ∷ []) x) (sym name) from);
      grows = grows;
      reached = walk_more u 0 before r place (walk_grows t u grows 0 before place reached) ∙ add.leads;
      within = omega (arith, is, long);
      some = omega (arith, is, some);
    }
