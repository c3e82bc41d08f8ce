-- Tokens that a loop writes, and lists and objects of them.
use Rattle.std.proofs.Common.{◌≡◌, ℕ, zero, suc, ◌+◌, ◌<◌, List, [], ◌∷◌, ◌++◌, drop, length, get_or, map, Option, None, Some, refl, ap, sym, ◌∙◌, append_assoc}
use Rattle.std.proofs.lemmas.List.Concat.{flat_map-append}
use Rattle.json.specs.Json.{Json, Members}
use Rattle.json.specs.Token.{Token, key, begin_array, end_array, begin_object, end_object}
use Rattle.json.specs.Tree.{json_tokens, items_tokens, members_tokens}
use Rattle.json.specs.Value.{items_of}
use Rattle.scenario_values.specs.Scenario.{Entries}
use Rattle.target_trait.specs.declared.judgement.Verdict.{Verdict}
use Rattle.report.proofs.Written.{goes_on, next_of}
use Rattle.report.specs.json_form.Document.{point_value, point_values, reported_value, reported_values}
use Rattle.report.specs.explained.Told.{RunFacts}
use Rattle.report.specs.json_form.Runs.{parent_member}
use Rattle.report.specs.json_form.Values.{nonzero, list_of}
use Rattle.report.specs.json_form.inside.Tokens.{member_tokens, nonzero_tokens, all_tokens, parent_tokens}

-- tokens are written, and then the rest
join : (old first rest : List Token) {mid new : List Token} → mid ≡ old ++ first → new ≡ mid ++ rest → new ≡ old ++ (first ++ rest)
join old first rest {mid} {new} begins ends = ends ∙ ap (λ (ts : List Token). ts ++ rest) begins ∙ append_assoc old first rest

-- the same member, by what its value is
pub as_value : (old : List Token) (name : List ℕ) {v w : Json} {new : List Token} → new ≡ old ++ member_tokens name v → v ≡ w
    → new ≡ old ++ member_tokens name w
as_value old name {v} {w} {new} added same = added ∙ ap (λ (u : Json). old ++ member_tokens name u) same

-- a key, and then the tokens of its value
pub key_first : (old : List Token) (name : List ℕ) (value : List Token) {mid new : List Token} → mid ≡ old ++ key name ∷ [] → new ≡ mid ++ value
    → new ≡ old ++ key name ∷ value
key_first old name value begins ends = join old (key name ∷ []) value begins ends

-- an object, member by member
pub two_members : (old : List Token) {begun m1 m2 new : List Token} (a b : List Token) → begun ≡ old ++ begin_object ∷ [] → m1 ≡ begun ++ a → m2 ≡ m1 ++ b
    → new ≡ m2 ++ end_object ∷ [] → new ≡ old ++ begin_object ∷ (a ++ (b ++ end_object ∷ []))
two_members old {begun} {m1} {m2} {new} a b begins h1 h2 ends =
    join old (begin_object ∷ []) (a ++ (b ++ end_object ∷ [])) begins (join begun a (b ++ end_object ∷ []) h1 (join m1 b (end_object ∷ []) h2 ends))

pub three_members : (old : List Token) {begun m1 m2 m3 new : List Token} (a b c : List Token) → begun ≡ old ++ begin_object ∷ [] → m1 ≡ begun ++ a → m2 ≡ m1 ++ b → m3 ≡ m2 ++ c
    → new ≡ m3 ++ end_object ∷ [] → new ≡ old ++ begin_object ∷ (a ++ (b ++ (c ++ end_object ∷ [])))
three_members old {begun} {m1} {m2} {m3} {new} a b c begins h1 h2 h3 ends =
    join old (begin_object ∷ []) (a ++ (b ++ (c ++ end_object ∷ []))) begins (join begun a (b ++ (c ++ end_object ∷ [])) h1 (join m1 b (c ++ end_object ∷ []) h2 (join m2 c (end_object ∷ []) h3 ends)))

pub four_members : (old : List Token) {begun m1 m2 m3 m4 new : List Token} (a b c d : List Token) → begun ≡ old ++ begin_object ∷ [] → m1 ≡ begun ++ a → m2 ≡ m1 ++ b → m3 ≡ m2 ++ c → m4 ≡ m3 ++ d
    → new ≡ m4 ++ end_object ∷ [] → new ≡ old ++ begin_object ∷ (a ++ (b ++ (c ++ (d ++ end_object ∷ []))))
four_members old {begun} {m1} {m2} {m3} {m4} {new} a b c d begins h1 h2 h3 h4 ends =
    join old (begin_object ∷ []) (a ++ (b ++ (c ++ (d ++ end_object ∷ [])))) begins (join begun a (b ++ (c ++ (d ++ end_object ∷ []))) h1 (join m1 b (c ++ (d ++ end_object ∷ [])) h2 (join m2 c (d ++ end_object ∷ []) h3 (join m3 d (end_object ∷ []) h4 ends))))

pub five_members : (old : List Token) {begun m1 m2 m3 m4 m5 new : List Token} (a b c d e : List Token) → begun ≡ old ++ begin_object ∷ [] → m1 ≡ begun ++ a → m2 ≡ m1 ++ b → m3 ≡ m2 ++ c → m4 ≡ m3 ++ d → m5 ≡ m4 ++ e
    → new ≡ m5 ++ end_object ∷ [] → new ≡ old ++ begin_object ∷ (a ++ (b ++ (c ++ (d ++ (e ++ end_object ∷ [])))))
five_members old {begun} {m1} {m2} {m3} {m4} {m5} {new} a b c d e begins h1 h2 h3 h4 h5 ends =
    join old (begin_object ∷ []) (a ++ (b ++ (c ++ (d ++ (e ++ end_object ∷ []))))) begins (join begun a (b ++ (c ++ (d ++ (e ++ end_object ∷ [])))) h1 (join m1 b (c ++ (d ++ (e ++ end_object ∷ []))) h2 (join m2 c (d ++ (e ++ end_object ∷ [])) h3 (join m3 d (e ++ end_object ∷ []) h4 (join m4 e (end_object ∷ []) h5 ends)))))

-- The members from a count on. A count of 0 has no member.
nonzero_tokens_are : (name : List ℕ) (n : ℕ) (others : Members) → nonzero_tokens name n ++ members_tokens others ≡ members_tokens (nonzero name n others)
nonzero_tokens_are name zero others = refl
nonzero_tokens_are name (suc n) others = refl

joined_seven : (old a b c d u e f : List Token) → (old ++ begin_object ∷ []) ++ a ++ b ++ c ++ d ++ u ++ e ++ f ++ end_object ∷ []
    ≡ old ++ begin_object ∷ (a ++ (b ++ (c ++ (d ++ (u ++ (e ++ (f ++ end_object ∷ [])))))))
joined_seven old a b c d u e f = simp append_assoc

-- an object of four members, a count and two more
pub seven_members : (old : List Token) {begun sized reached told new : List Token} (a b c d e f : List Token) (name : List ℕ) (n : ℕ) (others : Members)
    → begun ≡ old ++ begin_object ∷ [] → sized ≡ begun ++ a ++ b ++ c ++ d ++ nonzero_tokens name n → reached ≡ sized ++ e → told ≡ reached ++ f
    → new ≡ told ++ end_object ∷ [] → e ++ (f ++ end_object ∷ []) ≡ members_tokens others
    → new ≡ old ++ begin_object ∷ (a ++ (b ++ (c ++ (d ++ members_tokens (nonzero name n others)))))
seven_members old a b c d e f name n others begins sizes fifth sixth ends are =
    ends ∙ ap (λ (ts : List Token). ts ++ end_object ∷ []) (sixth ∙ ap (λ (ts : List Token). ts ++ f) (fifth ∙ ap (λ (ts : List Token). ts ++ e)
    (sizes ∙ ap (λ (ts : List Token). ts ++ a ++ b ++ c ++ d ++ nonzero_tokens name n) begins))) ∙ joined_seven old a b c d (nonzero_tokens name n) e f
    ∙ ap (λ (ts : List Token). old ++ begin_object ∷ (a ++ (b ++ (c ++ (d ++ ts)))))
    (ap (λ (ts : List Token). nonzero_tokens name n ++ ts) are ∙ nonzero_tokens_are name n others)

joined_eleven : (old a b c d e f g u h i j : List Token) → (old ++ begin_object ∷ []) ++ a ++ b ++ c ++ d ++ e ++ f ++ g ++ u ++ h ++ i ++ j ++ end_object ∷ []
    ≡ old ++ begin_object ∷ (a ++ (b ++ (c ++ (d ++ (e ++ (f ++ (g ++ (u ++ (h ++ (i ++ (j ++ end_object ∷ [])))))))))))
joined_eleven old a b c d e f g u h i j = simp append_assoc

-- an object of four members and three more, a count and the last three
pub eleven_members : (old : List Token) {begun headed told last new : List Token} (a b c d e f g h i j : List Token) (name : List ℕ) (n : ℕ) (others : Members)
    → begun ≡ old ++ begin_object ∷ [] → headed ≡ begun ++ a ++ b ++ c ++ d → told ≡ headed ++ e ++ f ++ g ++ nonzero_tokens name n ++ h ++ i
    → last ≡ told ++ j → new ≡ last ++ end_object ∷ [] → h ++ (i ++ (j ++ end_object ∷ [])) ≡ members_tokens others
    → new ≡ old ++ begin_object ∷ (a ++ (b ++ (c ++ (d ++ (e ++ (f ++ (g ++ members_tokens (nonzero name n others))))))))
eleven_members old a b c d e f g h i j name n others begins heads tells lasts ends are =
    let u : List Token = nonzero_tokens name n in
    ends ∙ ap (λ (ts : List Token). ts ++ end_object ∷ []) (lasts ∙ ap (λ (ts : List Token). ts ++ j) (tells ∙ ap (λ (ts : List Token). ts ++ e ++ f ++ g ++ u ++ h ++ i)
    (heads ∙ ap (λ (ts : List Token). ts ++ a ++ b ++ c ++ d) begins))) ∙ joined_eleven old a b c d e f g u h i j
    ∙ ap (λ (ts : List Token). old ++ begin_object ∷ (a ++ (b ++ (c ++ (d ++ (e ++ (f ++ (g ++ ts))))))))
    (ap (λ (ts : List Token). u ++ ts) are ∙ nonzero_tokens_are name n others)

joined_parts : (old a b c d e f g h i j : List Token) → (old ++ begin_object ∷ []) ++ a ++ b ++ c ++ d ++ e ++ f ++ g ++ h ++ i ++ j ++ end_object ∷ []
    ≡ old ++ begin_object ∷ (a ++ (b ++ (c ++ (d ++ (e ++ (f ++ (g ++ (h ++ (i ++ (j ++ end_object ∷ []))))))))))
joined_parts old a b c d e f g h i j = simp append_assoc

-- an object of four members, three, and three
pub ten_members : (old : List Token) {begun made plans runs new : List Token} (a b c d e f g h i j : List Token)
    → begun ≡ old ++ begin_object ∷ [] → made ≡ begun ++ a ++ b ++ c ++ d → plans ≡ made ++ e ++ f ++ g → runs ≡ plans ++ h ++ i ++ j
    → new ≡ runs ++ end_object ∷ [] → new ≡ old ++ begin_object ∷ (a ++ (b ++ (c ++ (d ++ (e ++ (f ++ (g ++ (h ++ (i ++ (j ++ end_object ∷ []))))))))))
ten_members old a b c d e f g h i j begins first second third ends =
    ends ∙ ap (λ (ts : List Token). ts ++ end_object ∷ []) (third ∙ ap (λ (ts : List Token). ts ++ h ++ i ++ j) (second ∙ ap (λ (ts : List Token). ts ++ e ++ f ++ g)
    (first ∙ ap (λ (ts : List Token). ts ++ a ++ b ++ c ++ d) begins))) ∙ joined_parts old a b c d e f g h i j

joined_counted : (old a u tail : List Token) → (old ++ begin_object ∷ []) ++ a ++ u ++ tail ≡ old ++ begin_object ∷ (a ++ (u ++ tail))
joined_counted old a u tail = simp append_assoc

-- an object of a member, a count behind it, and others
pub counted_member : (old : List Token) {begun told new : List Token} (a tail : List Token) (name : List ℕ) (n : ℕ) (others : Members) → begun ≡ old ++ begin_object ∷ []
    → told ≡ begun ++ a ++ nonzero_tokens name n → new ≡ told ++ tail → tail ≡ members_tokens others
    → new ≡ old ++ begin_object ∷ (a ++ members_tokens (nonzero name n others))
counted_member old {begun} {told} {new} a tail name n others begins tells ends are =
    let u : List Token = nonzero_tokens name n in
    ends ∙ ap (λ (ts : List Token). ts ++ tail) (tells ∙ ap (λ (ts : List Token). ts ++ a ++ u) begins) ∙ joined_counted old a u tail
    ∙ ap (λ (ts : List Token). old ++ begin_object ∷ (a ++ ts)) (ap (λ (ts : List Token). u ++ ts) are ∙ nonzero_tokens_are name n others)

-- a run's parent and the end behind it
pub parent_ends : (parent : Option RunFacts) → parent_tokens parent ++ end_object ∷ [] ≡ members_tokens (parent_member parent)
parent_ends None = refl
parent_ends (Some run) = refl

-- values and the bracket behind them
closed : (values : List Json) → all_tokens values ++ end_array ∷ [] ≡ items_tokens (items_of values)
closed [] = refl
closed (value ∷ values) = append_assoc (json_tokens value) (all_tokens values) (end_array ∷ []) ∙ ap (λ ts. json_tokens value ++ ts) (closed values)

-- a member that is a list, from its key to its bracket
pub list_member : (old begun all new : List Token) (name : List ℕ) (values : List Json) → begun ≡ old ++ key name ∷ begin_array ∷ [] → all ≡ begun ++ all_tokens values
    → new ≡ all ++ end_array ∷ [] → new ≡ old ++ member_tokens name (list_of values)
list_member old begun all new name values begins goes ends =
    ends ∙ ap (λ (ts : List Token). ts ++ end_array ∷ []) (goes ∙ ap (λ (ts : List Token). ts ++ all_tokens values) begins)
    ∙ append_assoc (old ++ key name ∷ begin_array ∷ []) (all_tokens values) (end_array ∷ [])
    ∙ append_assoc old (key name ∷ begin_array ∷ []) (all_tokens values ++ end_array ∷ [])
    ∙ ap (λ (ts : List Token). old ++ key name ∷ begin_array ∷ ts) (closed values)

-- the value of the next element is written
pub value_next : {A : Type 0} (f : A → Json) (old new whole : List Token) (i : ℕ) (xs : List A) (x d : A) → i < length xs → x ≡ get_or xs i d
    → new ≡ old ++ json_tokens (f x)
    → old ++ all_tokens (map f (drop i xs)) ≡ whole → new ++ all_tokens (map f (drop (i + 1) xs)) ≡ whole
value_next {A} f old new whole i xs x d lt is added h =
    goes_on old new (json_tokens (f x)) (all_tokens (map f (drop (i + 1) xs))) whole
    (ap (λ (l : List A). old ++ all_tokens (map f l)) (sym (next_of xs i d lt ∙ ap (λ (y : A). y ∷ drop (i + 1) xs) (sym is))) ∙ h) added

-- the hits of the next point are written
pub point_next : (old new : List Token) (name : List ℕ) (n : ℕ) (names rest : List (List ℕ)) (counts left : List ℕ) (whole : List Token) → names ≡ name ∷ rest
    → counts ≡ n ∷ left → new ≡ old ++ json_tokens (point_value name n)
    → old ++ all_tokens (point_values names counts) ≡ whole → new ++ all_tokens (point_values rest left) ≡ whole
point_next old new name n names rest counts left whole a b added h =
    goes_on old new (json_tokens (point_value name n)) (all_tokens (point_values rest left)) whole
    (ap (λ (l : List ℕ). old ++ all_tokens (point_values (name ∷ rest) l)) (sym b)
    ∙ ap (λ (l : List (List ℕ)). old ++ all_tokens (point_values l counts)) (sym a) ∙ h) added

-- the next plan is written, or nothing of it
pub told_next : (code_name : ℕ → List ℕ) (old new whole : List Token) (n : ℕ) (v : Verdict) (plan : Entries) (verdicts vs : List Verdict) (plans ps : List Entries)
    → verdicts ≡ v ∷ vs → plans ≡ plan ∷ ps → new ≡ old ++ all_tokens (reported_value code_name n v plan)
    → old ++ all_tokens (reported_values code_name n verdicts plans) ≡ whole → new ++ all_tokens (reported_values code_name (n + 1) vs ps) ≡ whole
told_next code_name old new whole n v plan verdicts vs plans ps vs_are ps_are added h =
    goes_on old new (all_tokens (reported_value code_name n v plan)) (all_tokens (reported_values code_name (n + 1) vs ps)) whole
    (ap (λ (ts : List Token). old ++ ts) (sym (flat_map-append json_tokens (reported_value code_name n v plan) (reported_values code_name (n + 1) vs ps)))
    ∙ ap (λ (l : List Entries). old ++ all_tokens (reported_values code_name n (v ∷ vs) l)) (sym ps_are)
    ∙ ap (λ (l : List Verdict). old ++ all_tokens (reported_values code_name n l plans)) (sym vs_are) ∙ h) added
