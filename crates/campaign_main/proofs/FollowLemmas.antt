-- Looks at answers that grow, what they write, and how following them ends.
use Rattle.std.proofs.Common.{◌≡◌, ◌≤◌, ◌<◌, ◌+◌, ◌∙◌, ℕ, Bool, true, false, List, [], ◌∷◌, ◌++◌, Option, Some, None, IfErr, IfSome, IsErrAnd, Result, Ok, Err, length, take, drop, fold, cond, refl, ap, sym, subst, inl, inr, ◌⊎◌, arith, append_assoc, length-append}
use Rattle.std.specs.Prelude.{String}
use Rattle.std.specs.List.{concat, list_any}
use Rattle.std.specs.Str.{bytes_eq}
use Rattle.std.specs.Io.KnownBytes.{Appends, Consumes, IsAtEnd}
use Rattle.std.specs.Io.BufRead.{ends_with_byte}
use Rattle.std.proofs.KnownBytes.{Appends-trans}
use Rattle.std.proofs.lemmas.Bool.{false≢true}
use Rattle.std.proofs.Math.Seq.{take-append-add}
use Rattle.std.proofs.lemmas.List.{append-nil}
use Rattle.indexmap.specs.IndexSet.{insert_key}
use Rattle.campaign_core.specs.Writes.{Change, IsUntouched, WritesPart}
use Rattle.campaign_core.specs.declared.ending.CampaignFault.TheVariants as campaign
use Rattle.command_words.specs.declared.words.Question.{Question}
use Rattle.outside_campaign.specs.declared.refusal.OutsideFault.TheVariants as outside
use Rattle.outside_campaign.specs.declared.with_depth.fault.QuestionFault.{QuestionFault}
use Rattle.outside_campaign.specs.declared.with_depth.fault.QuestionFault.TheVariants as fault
use Rattle.command_words.specs.declared.words.Question.TheVariants.{Asks}
use Rattle.campaign_main.specs.declared.exit.Exit.{Exit}
use Rattle.campaign_main.specs.declared.exit.Exit.TheVariants as exit
use Rattle.campaign_main.specs.Commands.{Refusal}
use Rattle.campaign_main.specs.Ends.{IsNoted, TellsOf}
use Rattle.campaign_main.specs.Following.{AreLooks, EndsFollowed, GrewTo, IsLookedAt, IsNotFollowed, IsOfLines, Look, TellsSome, lines_in, lines_with, told_by, told_text}
use Rattle.campaign_main.specs.Questions.{EndsAnswered, IsAnswer, IsEndOfQuestion, IsNotAnswered, IsUnanswered, Subject, TellsOfQuestion, TellsWhy, subject_of}
use Rattle.campaign_main.specs.declared.following.FollowFault.{FollowFault}
use Rattle.campaign_main.specs.declared.following.FollowFault.TheVariants as follow
use Rattle.campaign_main.specs.inside.Looks.{ComesToFollow, FailsAt, FailsFollow, HaveTold, LookFails, TellFails}
use Rattle.campaign_main.proofs.LineLemmas.{added}
use Rattle.campaign_main.proofs.QuestionLemmas.{fault-ends, fault-tells, refused-why, some-why}

-- ---- texts that grow

pub grew-whole : (text : List ℕ) → GrewTo text text
grew-whole text = ([], sym (append-nil text))

pub grew-on : (one two more : List ℕ) → GrewTo one two → GrewTo one (two ++ more)
grew-on one two more (between, is) = (between ++ more, ap (λ (l : List ℕ). l ++ more) is ∙ append_assoc one between more)

-- what one more line adds
put-grows : (ks : List (List ℕ)) (k : List ℕ) → GrewTo (concat ks) (concat (insert_key bytes_eq ks k))
put-grows ks k = by_test (list_any (bytes_eq k) ks) refl
  where
    by_test : (b : Bool) → list_any (bytes_eq k) ks ≡ b → GrewTo (concat ks) (concat (insert_key bytes_eq ks k))
    by_test true e = ([], ap (λ (t : Bool). concat (cond t ks (ks ++ k ∷ []))) e ∙ sym (append-nil (concat ks)))
    by_test false e = (k, added ks k e)

puts-grow : (ks lines : List (List ℕ)) → GrewTo (concat ks) (concat (fold (insert_key bytes_eq) ks lines))
puts-grow ks [] = grew-whole (concat ks)
puts-grow ks (line ∷ lines) =
    let (first, is) = put-grows ks line in
    let (rest, then) = puts-grow (insert_key bytes_eq ks line) lines in
    (first ++ rest, then ∙ ap (λ (l : List ℕ). l ++ rest) is ∙ append_assoc (concat ks) first rest)

-- the text of lines, and of those behind them
pub text-grows : (ks : List (List ℕ)) (text old new : List ℕ) → old ≡ concat ks → new ≡ concat (lines_with ks text) → GrewTo old new
text-grows ks text old new is then =
    let (more, e) = puts-grow ks (lines_in text) in
    (more, then ∙ e ∙ ap (λ (l : List ℕ). l ++ more) (sym is))

pub not-shorter : (old new : List ℕ) → GrewTo old new → length old ≤ length new
not-shorter old new (more, is) =
    let whole : length new ≡ length old + length more = ap length is ∙ length-append old more in
    omega arith

drop-front : (old more : List ℕ) → drop (length old) (old ++ more) ≡ more
drop-front [] more = refl
drop-front (x ∷ old) more = drop-front old more

pub front-and-rest : (old new : List ℕ) → GrewTo old new → old ++ drop (length old) new ≡ new
front-and-rest old new (more, is) =
    ap (λ (l : List ℕ). old ++ drop (length old) l) is ∙ ap (λ (l : List ℕ). old ++ l) (drop-front old more) ∙ sym is

-- ---- what is written

-- the rest of a text behind its front
pub rest-written : (start old new : Option (List ℕ)) (front whole : List ℕ) → GrewTo front whole → Appends start old front → Appends old new (drop (length front) whole) → Appends start new whole
rest-written start old new front whole grew first then =
    subst (Appends start new) (front-and-rest front whole grew) (Appends-trans start old new front (drop (length front) whole) first then)

-- a part of the rest
pub part-written : (start old new : Option (List ℕ)) (front whole : List ℕ) (n : ℕ) → GrewTo front whole → Appends start old front → Appends old new (take n (drop (length front) whole))
    → n < length (drop (length front) whole) → Appends start new (take (length front + n) whole) × (length front + n < length whole)
part-written start old new front whole n grew first part less =
    let rest = drop (length front) whole in
    let is : front ++ rest ≡ whole = front-and-rest front whole grew in
    let taken : front ++ take n rest ≡ take (length front + n) whole = sym (take-append-add front rest n) ∙ ap (take (length front + n)) is in
    let long : length whole ≡ length front + length rest = sym (ap length is) ∙ length-append front rest in
    (subst (Appends start new) taken (Appends-trans start old new front (take n rest) first part), omega arith)

-- ---- one look

-- The text of a look has no verdict in it.
pub without-found : (s : Subject) (answers text : List ℕ) (found : Bool) → IsAnswer Asks s answers text found → IsAnswer Asks s answers text false
without-found s answers text found h = (h.0, refl)

module _ (s : Subject) (answers : List ℕ) (lines : List (List ℕ)) (w : Change) where
  pub ask-fails : IsUntouched w → ((n : ℕ) → IsUnanswered Asks s answers (fault.Outside (outside.Campaign (campaign.Write n))) → ⊥) → (f : QuestionFault) → IsUnanswered Asks s answers f → LookFails s answers lines w f
  ask-fails untouched never (fault.Outside (outside.Answers f)) h = (untouched, h)
  ask-fails untouched never (fault.Outside (outside.Census line)) h = (untouched, h)
  ask-fails untouched never (fault.Outside (outside.NotAnswered t)) h = (untouched, h)
  ask-fails untouched never (fault.Outside (outside.Campaign campaign.TooManyPlans)) h = (untouched, h)
  ask-fails untouched never (fault.Outside (outside.Campaign campaign.Memory)) h = (untouched, h)
  ask-fails untouched never (fault.Outside (outside.Campaign (campaign.Write n))) h = absurd (never n h)
  ask-fails untouched never (fault.Broken b) h = (untouched, h)
  ask-fails untouched never (fault.Scenario f) h = (untouched, h)
  ask-fails untouched never (fault.Unseen line) h = (untouched, h)

  pub tell-fails : (text : List ℕ) → IsAnswer Asks s answers text false → IsUnanswered Asks s answers (fault.Outside (outside.Campaign campaign.Memory))
      → (f : QuestionFault) → TellFails lines text w f → LookFails s answers lines w f
  tell-fails text answer memory (fault.Outside (outside.Answers f)) h = let e = h.1 in absurd cc
  tell-fails text answer memory (fault.Outside (outside.Census line)) h = let e = h.1 in absurd cc
  tell-fails text answer memory (fault.Outside (outside.NotAnswered t)) h = let e = h.1 in absurd cc
  tell-fails text answer memory (fault.Outside (outside.Campaign campaign.TooManyPlans)) h = let e = h.1 in absurd cc
  tell-fails text answer memory (fault.Outside (outside.Campaign campaign.Memory)) h = (h.0, memory)
  tell-fails text answer memory (fault.Outside (outside.Campaign (campaign.Write n))) h = (text, answer, h)
  tell-fails text answer memory (fault.Broken b) h = let e = h.1 in absurd cc
  tell-fails text answer memory (fault.Scenario f) h = let e = h.1 in absurd cc
  tell-fails text answer memory (fault.Unseen line) h = let e = h.1 in absurd cc

-- a fault that is passed up as it is
pub passed-up : {T : Type 0} (result : Result T QuestionFault) (f : QuestionFault) → IsErrAnd result (λ x. x ≡ f) → (P : QuestionFault → Type 0) → P f → IfErr result P
passed-up (Ok x) f is P h = absurd is
passed-up (Err x) f is P h = subst P (sym is) h

-- ---- looks

-- a look that told its lines
module _ (s : Subject) (start : Option (List ℕ)) (known : List ℕ) (looks : List Look) (are : AreLooks s looks known) (keys : List (List ℕ)) (are_told : keys ≡ told_by looks) where
  pub look-told : (t : List ℕ) (more : List (List ℕ)) (text : List ℕ) (new : Option (List ℕ)) (failed : Bool) → IsAnswer Asks s known t false → more ≡ lines_with keys t
      → text ≡ concat more → Appends start new text → failed ≡ false
      → HaveTold s known (record { answers = known; text = t } ∷ looks) (record { old = start; new = new; failed = failed })
  look-told t more text new failed answer adds is written sound =
      let whole : text ≡ concat (lines_with (told_by looks) t) =
      is ∙ ap concat adds ∙ ap (λ (ks : List (List ℕ)). concat (lines_with ks t)) are_told in
      ((grew-whole known, answer, are), (subst (Appends start new) whole written, sound))

  -- and one that failed
  module _ (text : List ℕ) (is : text ≡ concat keys) (old new rest : Option (List ℕ)) (failed : Bool) (written : Appends start old text) (ends : IsOfLines known ⊎ IsAtEnd rest) where
    abbrev pub W : Change
    W = record { old = start; new = new; failed = failed }

    abbrev pub V : Change
    V = record { old = old; new = new; failed = failed }

    stays : IsUntouched V → (ls : List Look) × HaveTold s known ls W
    stays untouched =
        let whole : text ≡ told_text looks = is ∙ ap concat are_told in
        (looks, (are, (subst (Appends start new) whole (subst (λ (o : Option (List ℕ)). Appends start o text) (sym untouched.0) written), untouched.1)))

    pub look-failed : (f : QuestionFault) → LookFails s known keys V f → FailsAt s known rest W f
    look-failed (fault.Outside (outside.Answers f)) h = (stays h.0, h.1, ends)
    look-failed (fault.Outside (outside.Census line)) h = (stays h.0, h.1, ends)
    look-failed (fault.Outside (outside.NotAnswered t)) h = (stays h.0, h.1, ends)
    look-failed (fault.Outside (outside.Campaign campaign.TooManyPlans)) h = (stays h.0, h.1, ends)
    look-failed (fault.Outside (outside.Campaign campaign.Memory)) h = (stays h.0, h.1, ends)
    look-failed (fault.Outside (outside.Campaign (campaign.Write n))) (t, answer, part) = (
      record { answers = known; text = t } ∷ looks,
      (grew-whole known, answer, are),
      subst (λ (ks : List (List ℕ)). WritesPart (concat (lines_with ks t)) n W) are_told (part start (subst (Appends start old) is written)),
    )
    look-failed (fault.Broken b) h = (stays h.0, h.1, ends)
    look-failed (fault.Scenario f) h = (stays h.0, h.1, ends)
    look-failed (fault.Unseen line) h = (stays h.0, h.1, ends)

-- looks at answers that grew on
pub looks-on : (s : Subject) (look : Look) (earlier : List Look) (one two : List ℕ) → AreLooks s (look ∷ earlier) one → GrewTo one two → AreLooks s (look ∷ earlier) two
looks-on s look earlier one two (grew, answer, are) (more, is) =
    let (between, e) = grew-on look.answers one more grew in
    ((between, is ∙ e), answer, are)

-- a fault that is passed up
pub follow-up : {A : Type 0} (s : Subject) (read : List ℕ) (rest : Option (List ℕ)) (w : Change) (result : Result (String A) FollowFault) (f : FollowFault) → IsErrAnd result (λ x. x ≡ f)
    → FailsFollow s read rest w f → ComesToFollow s read rest w result
follow-up s read rest w (Ok notes) f is h = absurd is
follow-up s read rest w (Err x) f is h = subst (FailsFollow s read rest w) (sym is) h

-- a fault of a look
pub by-question : (s : Subject) (read : List ℕ) (rest : Option (List ℕ)) (w : Change) (x : FollowFault) (f : QuestionFault) → x ≡ follow.Question f → FailsFollow s read rest w x
    → FailsAt s read rest w f
by-question s read rest w x f is h = subst (FailsFollow s read rest w) is h

pub lines-or-end : (read : List ℕ) (rest : Option (List ℕ)) → (ends_with_byte 10 read ≡ true) ⊎ IsAtEnd rest → IsOfLines read ⊎ IsAtEnd rest
lines-or-end read rest (inl ended) = inl (inr ended)
lines-or-end read rest (inr over) = inr over

-- whether this end is Refused
abbrev is_refused : Exit → Bool
is_refused exit.Refused = true
is_refused _ = false

write-apart : {P : Type 0} (end : Exit) (n : ℕ) → end ≡ exit.Write n → end ≡ exit.Refused → P
write-apart end n cut refused = absurd (false≢true (ap is_refused (sym cut ∙ refused)))

-- ---- ends, by the bytes that the reader had

-- what holds if the reader's bytes are known: what was read, and what is left
by-bytes : (old rest : Option (List ℕ)) (read : List ℕ) (P : List ℕ → Type 0) → Consumes old rest read → ((bytes left : List ℕ) → rest ≡ Some left → bytes ≡ read ++ left → P bytes) → IfSome old P
by-bytes None rest read P gone h = tt
by-bytes (Some bytes) None read P gone h = absurd gone
by-bytes (Some bytes) (Some left) read P gone h = h bytes left refl gone

over-all : (rest : Option (List ℕ)) (left read bytes : List ℕ) → rest ≡ Some left → bytes ≡ read ++ left → IsAtEnd rest → read ≡ bytes
over-all rest left read bytes there is over =
    let none : left ≡ [] = subst IsAtEnd there over in
    sym (is ∙ ap (λ (l : List ℕ). read ++ l) none ∙ append-nil read)

module _ (s : Subject) (old rest : Option (List ℕ)) (read : List ℕ) (gone : Consumes old rest read) (w : Change) where
  -- the looks came to an end
  pub kept-ends : {A : Type 0} (notes : String A) → ComesToFollow s read rest w (Ok notes) → IfSome old (λ bytes. EndsFollowed s bytes exit.Kept w)
  kept-ends notes (text, earlier, told, ends, same) =
      by-bytes old rest read (λ bytes. EndsFollowed s bytes exit.Kept w) gone
      (λ bytes left there is.
      let look : Look = record { answers = read; text = text } in
      let done : (read ≡ bytes) ⊎ (text ≡ []) = elim ends [ inl none ↦ inr none | inr over ↦ inl (over-all rest left read bytes there is over) ] in
      (look ∷ earlier, (read, (left, is), told.0), done, told.1))

  -- some looks were told
  some-told : (bytes left : List ℕ) → bytes ≡ read ++ left → (looks : List Look) → HaveTold s read looks w → TellsSome s bytes w
  some-told bytes left is looks told = (looks, (read, (left, is), told.0), told.1)

  abbrev nowhere : Change
  nowhere = record { old = None; new = None; failed = false }

  -- a look that failed
  module _ (v : Change) where
    not-cut : (bytes : List ℕ) (end : Exit) → TellsOf ⊥ (TellsWhy Asks (Ok s) read v) end v → EndsAnswered Asks s read end nowhere → TellsSome s bytes w → EndsFollowed s bytes end w
    not-cut bytes exit.Kept told ends some = absurd told
    not-cut bytes exit.Found told ends some = absurd told
    not-cut bytes exit.Doubted told ends some = absurd told
    not-cut bytes exit.Refused told ends some = some
    not-cut bytes exit.Memory told ends some = some
    not-cut bytes (exit.Write n) told ends some = absurd (false≢true ends.2.2)

    abbrev Ends : QuestionFault → Type 0
    Ends f = (end : Exit) → IsEndOfQuestion s.1 f end v → IfSome old (λ bytes. EndsFollowed s bytes end w)

    abbrev Causes : QuestionFault → Type 0
    Causes f = (end : Exit) → IsEndOfQuestion s.1 f end v → end ≡ exit.Refused → IfSome old (λ bytes. IsNotFollowed (Ok s) bytes v)

    abbrev Tells : QuestionFault → Type 0
    Tells f = (end : Exit) → IsEndOfQuestion s.1 f end v → TellsOfQuestion end v

    -- by a fault that isn't one of the output, and by one that is
    apart : (P : QuestionFault → Type 0)
        → ((f : QuestionFault) → ((looks : List Look) × HaveTold s read looks w) → IsUnanswered Asks s read f → IsOfLines read ⊎ IsAtEnd rest → P f)
        → ((n : ℕ) → ((looks : List Look) × AreLooks s looks read × WritesPart (told_text looks) n w) → P (fault.Outside (outside.Campaign (campaign.Write n))))
        → (f : QuestionFault) → FailsAt s read rest w f → P f
    apart P other cut (fault.Outside (outside.Answers f)) h = other _ h.0 h.1 h.2
    apart P other cut (fault.Outside (outside.Census line)) h = other _ h.0 h.1 h.2
    apart P other cut (fault.Outside (outside.NotAnswered t)) h = other _ h.0 h.1 h.2
    apart P other cut (fault.Outside (outside.Campaign campaign.TooManyPlans)) h = other _ h.0 h.1 h.2
    apart P other cut (fault.Outside (outside.Campaign campaign.Memory)) h = other _ h.0 h.1 h.2
    apart P other cut (fault.Outside (outside.Campaign (campaign.Write n))) h = cut n h
    apart P other cut (fault.Broken b) h = other _ h.0 h.1 h.2
    apart P other cut (fault.Scenario f) h = other _ h.0 h.1 h.2
    apart P other cut (fault.Unseen line) h = other _ h.0 h.1 h.2

    pub failed-ends : (f : QuestionFault) → FailsAt s read rest w f → Ends f
    failed-ends = apart Ends
        (λ f told why ends end is. by-bytes old rest read (λ bytes. EndsFollowed s bytes end w) gone
        (λ bytes left there has. not-cut bytes end (fault-tells Asks s read v ⊥ f end why is) (fault-ends Asks s read v nowhere (refl, refl) f end why is)
        (some-told bytes left has told.0 told.1)))
        (λ n cut end is. by-bytes old rest read (λ bytes. EndsFollowed s bytes end w) gone
        (λ bytes left there has. subst (λ (e : Exit). EndsFollowed s bytes e w) (sym is.0) (cut.0, (read, (left, has), cut.1), cut.2)))

    pub failed-cause : (f : QuestionFault) → FailsAt s read rest w f → Causes f
    failed-cause = apart Causes
        (λ f told why ends end is refused. by-bytes old rest read (λ bytes. IsNotFollowed (Ok s) bytes v) gone
        (λ bytes left there has.
        let at : IsOfLines read ⊎ (read ≡ bytes) = elim ends [ inl lines ↦ inl lines | inr over ↦ inr (over-all rest left read bytes there has over) ] in
        (read, ((left, has), at), inl (refused-why ⊥ (TellsWhy Asks (Ok s) read v) end v refused (fault-tells Asks s read v ⊥ f end why is)))))
        (λ n cut end is refused. write-apart end n is.0 refused)

    pub failed-tells : (f : QuestionFault) → FailsAt s read rest w f → Tells f
    failed-tells = apart Tells
        (λ f told why ends end is. some-why Asks (Ok s) read [] end v (fault-tells Asks s read v (IsNoted [] v) f end why is))
        (λ n cut end is. subst (λ (e : Exit). TellsOfQuestion e v) (sym is.0) is.1)

-- ---- by what the settings come to

whole-look : (bytes : List ℕ) → IsLookedAt bytes bytes
whole-look bytes = (grew-whole bytes, inr refl)

-- a refusal at all bytes
pub not-followed : (known : Option (List ℕ)) (read : Result Subject Refusal) (v : Change) → IfSome known (λ bytes. IsNotAnswered Asks read bytes v) → IfSome known (λ bytes. IsNotFollowed read bytes v)
not-followed None read v h = tt
not-followed (Some bytes) read v h = (bytes, whole-look bytes, h)

pub none-followed : (given known : Option (List ℕ)) (v : Change) → IfSome given (λ g. IfSome known (λ bytes. IsNotAnswered Asks (subject_of g) bytes v))
    → IfSome given (λ g. IfSome known (λ bytes. IsNotFollowed (subject_of g) bytes v))
none-followed None known v h = tt
none-followed (Some g) known v h = not-followed known (subject_of g) v h
