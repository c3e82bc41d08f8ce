use Rattle.std.proofs.Common.{◌≡◌, ◌≢◌, ◌≤◌, ◌&&◌, ◌∙◌, ◌++◌, ap, Bool, List, [], ◌∷◌, Option, Some, None, Ok, Err, codes, is_some, length, lit≤, nat_le, nat_lt, option_and_then, refl, subst, sym, true, false, if◌then◌else◌}
use Rattle.std.proofs.lemmas.Bool.{and_parts, leb-true, true≢false}
use Rattle.std.proofs.lemmas.Option.{same_Some}
use Rattle.std.proofs.lemmas.Slice.Eq.{bytes_eq-Decides}
use Rattle.std.specs.List.{AllByRecursion}
use Rattle.std.specs.Option.{option_map_or}
use Rattle.std.specs.Str.{bytes_eq}
use Rattle.toml.specs.Data.{Members}
use Rattle.scenario_grammar.proofs.Blanks.{without_last_gives}
use Rattle.scenario_grammar.proofs.CutLaws.{cut_gives}
use Rattle.scenario_grammar.specs.Words.{cut, without_last}
use Rattle.action_eval.specs.Catalogue.{HasDistinct}
use Rattle.campaign_given.specs.Description.{AreApart, AreTried, are_distinct, is_return_text, is_tried}
use Rattle.campaign_given.specs.declared.outside.TriedFault.{TriedFault}
use Rattle.campaign_given.specs.declared.outside.TriedFault.TheVariants.{Return, Panic}
use Rattle.campaign_settings.specs.Keys.{Text}
use Rattle.campaign_settings.specs.Lists.{before, each}
use Rattle.campaign_settings.specs.Outside.{is_fault_list, fault_of, kinds_in, texts_for, return_of, text_of_return, faults_where}
use Rattle.campaign_settings.specs.declared.keys.KeyFault.TheVariants.{OutOfRange}
use Rattle.campaign_settings.proofs.DescriptionLemmas.{distinct-kept}
use Rattle.campaign_settings.proofs.ListLemmas.{before-fits, each-fits, each-length, each-typed}

-- ---- a fault and its text

-- how a fault is text_of_fault
abbrev pub text_of_fault : TriedFault → Text
text_of_fault (Return None) = codes "return"
text_of_fault (Return (Some text)) = codes "return" ++ (40 ∷ (text ++ (41 ∷ [])))
text_of_fault Panic = codes "panic"

-- a text that gives a fault is what is text_of_fault for it, and the fault is lawful
pub record Gives (spelled : Text) (fault : TriedFault) : Type 0 where
  pub as_text : spelled ≡ text_of_fault fault
  pub lawful : is_tried fault ≡ true

returned : (spelled text : Text) (fault : TriedFault) → spelled ≡ codes "return" ++ (40 ∷ (text ++ (41 ∷ []))) → return_of text ≡ Some fault → Gives spelled fault
returned spelled text fault is e = by_test (is_return_text text) refl e
  where
    by_test : (b : Bool) → is_return_text text ≡ b → (if b then Some (Return (Some text)) else None) ≡ Some fault → Gives spelled fault
    by_test true h e = subst (λ f. Gives spelled f) (same_Some _ _ e) (record { as_text = is; lawful = h })
    by_test false h e = cc

-- what stands in the parentheses
in_parentheses : (spelled text : Text) → text_of_return spelled ≡ Some text → spelled ≡ codes "return" ++ (40 ∷ (text ++ (41 ∷ [])))
in_parentheses spelled text e = by_cut (cut 40 spelled) refl e
  where
    by_word : (front rest : Text) → spelled ≡ front ++ (40 ∷ rest) → (b : Bool) → bytes_eq front (codes "return") ≡ b → (if b then without_last 41 rest else None) ≡ Some text
        → spelled ≡ codes "return" ++ (40 ∷ (text ++ (41 ∷ [])))
    by_word front rest is true h e =
        is ∙ ap (λ (f : Text). f ++ (40 ∷ rest)) ((bytes_eq-Decides front (codes "return")).0 h) ∙ ap (λ (r : Text). codes "return" ++ (40 ∷ r)) (without_last_gives 41 rest text e)
    by_word front rest is false h e = cc

    by_cut : (o : Option (Text × Text)) → cut 40 spelled ≡ o → option_and_then (λ parts. if bytes_eq parts.0 (codes "return") then without_last 41 parts.1 else None) o ≡ Some text
        → spelled ≡ codes "return" ++ (40 ∷ (text ++ (41 ∷ [])))
    by_cut None h e = cc
    by_cut (Some (front, rest)) h e = by_word front rest (cut_gives 40 spelled front rest h) (bytes_eq front (codes "return")) refl e

gives : (spelled : Text) (fault : TriedFault) → fault_of spelled ≡ Some fault → Gives spelled fault
gives spelled fault e = by_return (bytes_eq spelled (codes "return")) refl e
  where
    by_text : (o : Option Text) → text_of_return spelled ≡ o → option_and_then return_of o ≡ Some fault → Gives spelled fault
    by_text None h e = cc
    by_text (Some text) h e = returned spelled text fault (in_parentheses spelled text h) e

    by_panic : (b : Bool) → bytes_eq spelled (codes "panic") ≡ b → (if b then Some Panic else option_and_then return_of (text_of_return spelled)) ≡ Some fault → Gives spelled fault
    by_panic true h e = subst (λ f. Gives spelled f) (same_Some _ _ e) (record { as_text = (bytes_eq-Decides spelled (codes "panic")).0 h; lawful = refl })
    by_panic false h e = by_text (text_of_return spelled) refl e

    by_return : (b : Bool) → bytes_eq spelled (codes "return") ≡ b
        → (if b then Some (Return None) else (if bytes_eq spelled (codes "panic") then Some Panic else option_and_then return_of (text_of_return spelled))) ≡ Some fault → Gives spelled fault
    by_return true h e = subst (λ f. Gives spelled f) (same_Some _ _ e) (record { as_text = (bytes_eq-Decides spelled (codes "return")).0 h; lawful = refl })
    by_return false h e = by_panic (bytes_eq spelled (codes "panic")) refl e

-- ---- the faults of a point

-- a text of other bytes gives another fault
another : (spelled other : Text) (fault f : TriedFault) → spelled ≡ text_of_fault fault → fault_of other ≡ Some f → bytes_eq other spelled ≡ false → fault ≢ f
another spelled other fault f is e differs same =
    let equal : other ≡ spelled = (gives other f e).as_text ∙ ap text_of_fault (sym same) ∙ sym is in
    true≢false (sym ((bytes_eq-Decides other spelled).1 equal) ∙ differs)

apart-from : (spelled : Text) (fault : TriedFault) → spelled ≡ text_of_fault fault → (others : List Text) (faults : List TriedFault) → each fault_of others ≡ Some faults
    → AllByRecursion (λ other. bytes_eq other spelled ≡ false) others → AllByRecursion (λ f. fault ≢ f) faults
apart-from spelled fault is [] faults e differ = subst (AllByRecursion (λ f. fault ≢ f)) (same_Some _ _ e) tt
apart-from spelled fault is (other ∷ others) faults e differ =
    before-fits (λ f. fault ≢ f) (fault_of other) (each fault_of others) faults (λ f h. another spelled other fault f is h differ.0)
    (λ fs h. apart-from spelled fault is others fs h differ.1) e

one-apart : (t : Text) (ts : List Text) → AllByRecursion (λ other. bytes_eq other t ≡ false) ts → (a : Option TriedFault) → fault_of t ≡ a
    → (o : Option (List TriedFault)) → each fault_of ts ≡ o → ((fs : List TriedFault) → o ≡ Some fs → AreApart fs) → (faults : List TriedFault) → before a o ≡ Some faults → AreApart faults
one-apart t ts new None h o k rest faults e = cc
one-apart t ts new (Some f) h None k rest faults e = cc
one-apart t ts new (Some f) h (Some fs) k rest faults e =
    subst AreApart (same_Some _ _ e) (apart-from t f (gives t f h).as_text ts fs k new, rest fs refl)

are-apart : (spelled : List Text) (faults : List TriedFault) → each fault_of spelled ≡ Some faults → HasDistinct spelled → AreApart faults
are-apart [] faults e distinct = subst AreApart (same_Some _ _ e) tt
are-apart (t ∷ ts) faults e distinct =
    one-apart t ts distinct.0 (fault_of t) refl (each fault_of ts) refl (λ fs k. are-apart ts fs k distinct.1) faults e

each-tried : (spelled : List Text) (faults : List TriedFault) → is_fault_list spelled ≡ true → each fault_of spelled ≡ Some faults → AreTried faults
each-tried spelled faults h e =
    let (front, distinct) = and_parts (nat_lt 0 (length spelled) && nat_le (length spelled) 8) (are_distinct spelled) h in
    let (some, few) = and_parts (nat_lt 0 (length spelled)) (nat_le (length spelled) 8) front in
    record {
      few = subst (λ n. n ≤ 8) (sym (each-length fault_of spelled faults e)) (leb-true (length spelled) 8 few);
      each = each-fits fault_of (λ f. is_tried f ≡ true) (λ t f k. (gives t f k).lawful) spelled faults e;
      apart = are-apart spelled faults e (distinct-kept spelled distinct);
    }

usual-tried : AreTried []
usual-tried = record { few = lit≤ tt; each = tt; apart = tt }

point-tried : (o : Option (Option (List Text))) (faults : List TriedFault) → option_and_then faults_where o ≡ Some faults → AreTried faults
point-tried None faults e = cc
point-tried (Some None) faults e = subst AreTried (same_Some _ _ e) usual-tried
point-tried (Some (Some spelled)) faults e = by_test (is_fault_list spelled) refl e
  where
    by_test : (b : Bool) → is_fault_list spelled ≡ b → (if b then each fault_of spelled else None) ≡ Some faults → AreTried faults
    by_test true h e = each-tried spelled faults h e
    by_test false h e = cc

-- ---- the table

module _ (points : List Text) (ms : Members) where
  -- what each point has in the table, types and ranges at once
  abbrev pub faults_at_points : Option (List (List TriedFault))
  faults_at_points = each (λ point. option_and_then faults_where (texts_for ms point)) points

  pub kinds-tried : (kinds : List (List TriedFault)) → faults_at_points ≡ Some kinds → AllByRecursion AreTried kinds
  kinds-tried kinds e = each-fits (λ point. option_and_then faults_where (texts_for ms point)) AreTried (λ point faults k. point-tried (texts_for ms point) faults k) points kinds e

  pub kinds-many : (kinds : List (List TriedFault)) → faults_at_points ≡ Some kinds → length kinds ≡ length points
  kinds-many kinds e = each-length (λ point. option_and_then faults_where (texts_for ms point)) points kinds e

  pub kinds-read : is_some (each (texts_for ms) points) ≡ true → kinds_in points ms ≡ option_map_or (λ kinds. Ok kinds) faults_at_points (Err OutOfRange)
  kinds-read h = each-typed faults_where (texts_for ms) (λ kinds. Ok kinds) points h
