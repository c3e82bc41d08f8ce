-- The items of a text of hits, read one after another.
use Rattle.std.proofs.Common.{◌≡◌, ℕ, List, [], ◌∷◌, Bool, false, eqb, length, Some, None, Result, Ok, Err, refl, ap, sym, ◌∙◌, subst}
use Rattle.std.specs.Result.{IsErr, IsErrAnd}
use Rattle.std.specs.List.{slice_split}
use Rattle.scenario_grammar.specs.Words.{cut}
use Rattle.answer_text.specs.declared.fault.LineFault.{LineFault}
use Rattle.answer_text.specs.declared.fault.LineError.{LineError}
use Rattle.answer_text.specs.declared.fault.LineError.TheVariants as errors
use Rattle.answer_text.specs.declared.hits.Stretch.{Stretch}
use Rattle.answer_text.specs.FirstFault.{Fails, Gives}
use Rattle.answer_text.specs.Hits.{hits_in, item_in, items_from, with_item}
use Rattle.answer_text.proofs.Lines.{split_none_at, split_first_at}

-- a fault of a part is one of the whole
pub fails_by : {A B : Type 0} (e : LineError) (r : Result A LineFault) (q : Result B LineFault) → ((f : LineFault) → r ≡ Err f → q ≡ Err f) → Fails e r → Fails e q
fails_by errors.Memory r q h k = tt
fails_by (errors.Bad f) r q h k = h f k

-- the error that a call hands on
pub gives_err : {X Y : Type 0} (view : X → Y) (r : Result X LineError) (e : LineError) (q : Result Y LineFault) → IsErr r × IsErrAnd r (λ x. x ≡ e) → Fails e q → Gives view r q
gives_err view (Ok x) e q h f = let k = h.0 in absurd cc
gives_err view (Err x) e q h f = subst (λ (y : LineError). Fails y q) (sym h.1) f

-- what is left to read leads to the whole
pub Leads : (points : List (List ℕ)) (text rest : List ℕ) (hits : List Stretch) → Type 0
Leads points text rest hits = items_from points hits (slice_split (λ b. eqb b 59) rest) ≡ hits_in points text

leads_from : (points : List (List ℕ)) (text : List ℕ) (b : Bool) → b ≡ eqb (length text) 0 → b ≡ false → Leads points text text []
unfolding Leads
leads_from points [] b e h = absurd cc
leads_from points (x ∷ text) b e h = refl

pub begins : (points : List (List ℕ)) (text : List ℕ) (hits : List Stretch) (b : Bool) → hits ≡ [] → b ≡ eqb (length text) 0 → b ≡ false → Leads points text text hits
begins points text hits b e f h = rw e (leads_from points text b f h)

item_goes : (points : List (List ℕ)) (before after : List Stretch) (item : List ℕ) (items : List (List ℕ)) (s : Stretch) → item_in points item ≡ Ok s → with_item points before s ≡ Ok after
    → items_from points before (item ∷ items) ≡ items_from points after items
unfolding items_from
item_goes points before after item items s h k = rw (h, k) refl

item_stops : (points : List (List ℕ)) (before : List Stretch) (item : List ℕ) (items : List (List ℕ)) (f : LineFault) → item_in points item ≡ Err f → items_from points before (item ∷ items) ≡ Err f
unfolding items_from
item_stops points before item items f h = rw h refl

hits_stop : (points : List (List ℕ)) (before : List Stretch) (item : List ℕ) (items : List (List ℕ)) (s : Stretch) (f : LineFault) → item_in points item ≡ Ok s → with_item points before s ≡ Err f
    → items_from points before (item ∷ items) ≡ Err f
unfolding items_from
hits_stop points before item items s f h k = rw (h, k) refl

none_left : (points : List (List ℕ)) (hits : List Stretch) → items_from points hits [] ≡ Ok hits
unfolding items_from
none_left points hits = refl

-- ---- an item with more behind it

pub leads_on : (points : List (List ℕ)) (text rest item after : List ℕ) (hits more : List Stretch) (s : Stretch) → cut 59 rest ≡ Some (item, after) → Leads points text rest hits → item_in points item ≡ Ok s → with_item points hits s ≡ Ok more
    → Leads points text after more
unfolding Leads
leads_on points text rest item after hits more s cuts l h k =
    sym (item_goes points hits more item (slice_split (λ b. eqb b 59) after) s h k) ∙ ap (items_from points hits) (sym (split_first_at 59 rest item after cuts)) ∙ l

pub item_fails : (points : List (List ℕ)) (text rest item after : List ℕ) (hits : List Stretch) (e : LineError) → cut 59 rest ≡ Some (item, after) → Leads points text rest hits → Fails e (item_in points item) → Fails e (hits_in points text)
unfolding Leads
item_fails points text rest item after hits e cuts l h =
    fails_by e (item_in points item) (hits_in points text) (λ f k. sym l ∙ ap (items_from points hits) (split_first_at 59 rest item after cuts) ∙ item_stops points hits item (slice_split (λ b. eqb b 59) after) f k) h

pub hits_fail : (points : List (List ℕ)) (text rest item after : List ℕ) (hits : List Stretch) (s : Stretch) (e : LineError) → cut 59 rest ≡ Some (item, after) → Leads points text rest hits → item_in points item ≡ Ok s → Fails e (with_item points hits s) → Fails e (hits_in points text)
unfolding Leads
hits_fail points text rest item after hits s e cuts l i h =
    fails_by e (with_item points hits s) (hits_in points text) (λ f k. sym l ∙ ap (items_from points hits) (split_first_at 59 rest item after cuts) ∙ hits_stop points hits item (slice_split (λ b. eqb b 59) after) s f i k) h

-- ---- the last item

pub last_read : (points : List (List ℕ)) (text rest : List ℕ) (hits all : List Stretch) (s : Stretch) → cut 59 rest ≡ None → Leads points text rest hits → item_in points rest ≡ Ok s → with_item points hits s ≡ Ok all → hits_in points text ≡ Ok all
unfolding Leads
last_read points text rest hits all s cuts l h k =
    sym l ∙ ap (items_from points hits) (split_none_at 59 rest cuts) ∙ item_goes points hits all rest [] s h k ∙ none_left points all

pub last_item_fails : (points : List (List ℕ)) (text rest : List ℕ) (hits : List Stretch) (e : LineError) → cut 59 rest ≡ None → Leads points text rest hits → Fails e (item_in points rest) → Fails e (hits_in points text)
unfolding Leads
last_item_fails points text rest hits e cuts l h =
    fails_by e (item_in points rest) (hits_in points text) (λ f k. sym l ∙ ap (items_from points hits) (split_none_at 59 rest cuts) ∙ item_stops points hits rest [] f k) h

pub last_hits_fail : (points : List (List ℕ)) (text rest : List ℕ) (hits : List Stretch) (s : Stretch) (e : LineError) → cut 59 rest ≡ None → Leads points text rest hits → item_in points rest ≡ Ok s → Fails e (with_item points hits s) → Fails e (hits_in points text)
unfolding Leads
last_hits_fail points text rest hits s e cuts l i h =
    fails_by e (with_item points hits s) (hits_in points text) (λ f k. sym l ∙ ap (items_from points hits) (split_none_at 59 rest cuts) ∙ hits_stop points hits rest [] s f i k) h
