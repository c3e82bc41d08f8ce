-- Places to which `Go` leads one after another.
use Rattle.std.proofs.Common.{◌≡◌, inl, inr, ℕ, zero, suc, ◌+◌, ◌<◌, List, [], ◌∷◌, ◌++◌, length, Option, Some, None, cond, get_or, refl, ap, sym, ◌∙◌, subst, arith}
use Rattle.std.specs.Prelude.{slice_get}
use Rattle.std.proofs.lemmas.List.{append-nil, length-append}
use Rattle.std.proofs.lemmas.Option.{slice_get-get_or}
use Rattle.action_eval.specs.Answers.{Go}
use Rattle.answered_runs.specs.declared.segments.Segment.{Segment}
use Rattle.answered_runs.specs.declared.tree.Said.{Said}
use Rattle.answered_runs.specs.declared.tree.Way.{Way}
use Rattle.answered_runs.specs.inside.Replies.{Extends}
use Rattle.answered_runs.specs.inside.Segments.{AreLaid, AreNumbered, ArePutOn, IsPutOn, expand, is_own}
use Rattle.answered_runs.specs.inside.Segments as segments
use Rattle.answered_runs.specs.inside.Trees.{Adds, AddsOn, Follows, IsAlike, IsNext, Tree, move_of, way}
use Rattle.answered_runs.proofs.Leading.{adds_behind, at_end, expand_long, look, no_answer, no_way, numbered_on, numbered_put, said_early}

-- ---- places that are added behind the last one

module _ (ways : List (Way × ℕ)) (texts : List (List ℕ)) (x : Said) where
  abbrev tree : List Segment → Tree
  tree ss = record { said = expand ss ++ x ∷ []; segments = ss; ways = ways; texts = texts }

  -- nothing leads on from the last place
  none : (ss : List Segment) (last : ℕ) → AreLaid 0 ss last → AreNumbered ss ways texts last → way (tree ss) last Go ≡ None
  none ss last laid numbered =
      ap (λ (o : Option ℕ). cond (is_own o 1) (Some (last + 1)) (look ways last 1)) (no_answer ss last last laid (omega arith))
      ∙ no_way ways last (4 + length texts) last 1 numbered.others (inl (omega arith))

  one : (ss news : List Segment) (last : ℕ) → AreLaid 0 ss last → AreNumbered ss ways texts last → IsPutOn ss news last x 1 → Adds (tree ss) (tree news) last Go x (last + 1)
  one ss news last laid numbered put =
      subst (λ (l : List (List ℕ)). Adds (tree ss) (record { said = expand news ++ x ∷ []; segments = news; ways = ways; texts = l }) last Go x (last + 1)) (append-nil texts)
      (adds_behind (expand ss ++ x ∷ []) ss news ways ways texts [] last last Go 1 x x laid numbered refl refl put refl refl (none ss last laid numbered))

  numbered_more : (ss news : List Segment) (last : ℕ) → IsPutOn ss news last x 1 → AreNumbered ss ways texts last → AreNumbered news ways texts (last + 1)
  numbered_more ss news last put numbered =
      let same : Extends texts texts = record { more = []; are = sym (append-nil texts) } in
      numbered_put ss news ways texts (last + 1) last 1 x put (omega arith) (numbered_on ss ways texts texts last (last + 1) same (omega arith) numbered)

  pub adds_on : (n : ℕ) (ss news : List Segment) (last : ℕ) → AreLaid 0 ss last → AreNumbered ss ways texts last → ArePutOn n ss news last x 1 → AddsOn n (tree ss) (tree news) last x
  adds_on zero ss news last laid numbered same = ap tree same
  adds_on (suc n) ss news last laid numbered (middle, put, rest) =
      (tree middle, one ss middle last laid numbered put, adds_on n middle news (last + 1) put.laid (numbered_more ss middle last put numbered) rest)

  pub kept_on : (n : ℕ) (ss news : List Segment) (last : ℕ) → AreLaid 0 ss last → AreNumbered ss ways texts last → ArePutOn n ss news last x 1
      → AreLaid 0 news (last + n) × AreNumbered news ways texts (last + n)
  kept_on zero ss news last laid numbered same =
      let here : last ≡ last + 0 = omega arith in
      subst (λ (l : List Segment). AreLaid 0 l (last + 0) × AreNumbered l ways texts (last + 0)) (sym same)
      (subst (λ (m : ℕ). AreLaid 0 ss m × AreNumbered ss ways texts m) here (laid, numbered))
  kept_on (suc n) ss news last laid numbered (middle, put, rest) =
      let more : (last + 1) + n ≡ last + suc n = omega arith in
      subst (λ (m : ℕ). AreLaid 0 news m × AreNumbered news ways texts m) more (kept_on n middle news (last + 1) put.laid (numbered_more ss middle last put numbered) rest)

last_of : (xs : List Said) (x : Said) → slice_get (xs ++ x ∷ []) (length xs) ≡ Some x
last_of [] x = refl
last_of (y ∷ xs) x = last_of xs x

pub follows_new : (n : ℕ) (t u : Tree) (place : ℕ) (x : Said) → length t.said ≡ place + 1 → AddsOn n t u place x → Follows n t u place x
follows_new zero t u place x long same = same
follows_new (suc n) t u place x long (middle, add, rest) =
    let here : slice_get middle.said (place + 1) ≡ Some x =
    ap (slice_get middle.said) (sym long) ∙ ap (λ (l : List Said). slice_get l (length t.said)) add.said ∙ last_of t.said x
    in
    let longer : length middle.said ≡ (place + 1) + 1 = ap length add.said ∙ length-append t.said (x ∷ []) ∙ ap (λ (m : ℕ). m + 1) long in
    (middle, inr add, record { said = x; at = here; move_is = refl }, follows_new n middle u (place + 1) x longer rest)

-- ---- places that are there

pub follows_old : (n : ℕ) (t : Tree) (place : ℕ) (x : Said) → IsNext t place (move_of x.next) → ((m : ℕ) → m < n → IsAlike t place m) → Follows n t t place x
follows_old zero t place x next alike = refl
follows_old (suc n) t place x next alike =
    let first = alike 0 (omega arith) in
    let zero_more : place + 0 ≡ place = omega arith in
    let leads : way t place Go ≡ Some (place + 1) =
    ap (λ (m : ℕ). way t m Go) (sym zero_more) ∙ first.leads ∙ ap (λ (m : ℕ). Some (m + 1)) zero_more
    in
    let said : slice_get t.said (place + 1) ≡ slice_get t.said place = ap (λ (m : ℕ). slice_get t.said (m + 1)) (sym zero_more) ∙ first.said in
    let after : IsNext t (place + 1) (move_of x.next) = record { said = next.said; at = said ∙ next.at; move_is = next.move_is } in
    (t, inl (refl, leads), after, follows_old n t (place + 1) x after (λ m less. later m less said))
  where
    later : (m : ℕ) → m < n → slice_get t.said (place + 1) ≡ slice_get t.said place → IsAlike t (place + 1) m
    later m less said =
        let far = alike (m + 1) (omega (arith, less)) in
        let moved : place + (m + 1) ≡ (place + 1) + m = omega arith in
        record {
          leads = ap (λ (k : ℕ). way t k Go) (sym moved) ∙ far.leads ∙ ap (λ (k : ℕ). Some (k + 1)) moved;
          said = ap (λ (k : ℕ). slice_get t.said (k + 1)) (sym moved) ∙ far.said ∙ sym said;
        }

-- ---- the last place, and places of one segment

pub ends : (ss : List Segment) (last place : ℕ) (own said : Said) → AreLaid 0 ss last → place ≡ last → own ≡ said
    → (length (expand ss ++ own ∷ []) ≡ place + 1) × (slice_get (expand ss ++ own ∷ []) place ≡ Some said)
ends ss last place own said laid at same = (
  length-append (expand ss) (own ∷ []) ∙ ap (λ (n : ℕ). n + 1) (expand_long ss last laid ∙ sym at),
  ap (slice_get (expand ss ++ own ∷ [])) at ∙ at_end ss last own laid ∙ ap (λ (x : Said). Some x) same,
)

-- a place that is the last one, and what is said there
pub at_last : (ss : List Segment) (last place : ℕ) (own : Said) → AreLaid 0 ss last → length (expand ss ++ own ∷ []) ≡ place + 1 → last ≡ place
at_last ss last place own laid long =
    let all : length (expand ss ++ own ∷ []) ≡ last + 1 = length-append (expand ss) (own ∷ []) ∙ ap (λ (n : ℕ). n + 1) (expand_long ss last laid) in
    omega (arith, long, all)

pub said_last : (ss : List Segment) (last place : ℕ) (own said : Said) → AreLaid 0 ss last → last ≡ place → slice_get (expand ss ++ own ∷ []) place ≡ Some said → own ≡ said
said_last ss last place own said laid at there =
    some_same own said (sym (at_end ss last own laid) ∙ ap (slice_get (expand ss ++ own ∷ [])) at ∙ there)
  where
    some_same : (x y : Said) → (let o : Option Said = Some x in o) ≡ Some y → x ≡ y
    some_same x y e = cc

pub alike_in_tree : (ss : List Segment) (ways : List (Way × ℕ)) (texts : List (List ℕ)) (own : Said) (last place n : ℕ) → AreLaid 0 ss last → place < last → segments.IsAlike ss 1 place n
    → IsAlike (record { said = expand ss ++ own ∷ []; segments = ss; ways = ways; texts = texts }) place n
alike_in_tree ss ways texts own last place n laid early alike =
    let here : slice_get (expand ss) place ≡ Some (get_or (expand ss) place own) =
    slice_get-get_or (expand ss) place own (let long = expand_long ss last laid in omega (arith, early, long))
    in
    record {
      leads = ap (λ (o : Option ℕ). cond (is_own o 1) (Some (place + n + 1)) (look ways (place + n) 1)) alike.leads;
      said = said_early ss (place + n + 1) own (get_or (expand ss) place own) (alike.said ∙ here) ∙ sym (said_early ss place own (get_or (expand ss) place own) here);
    }
