-- Appends one after another hold the same as one append of all their bytes.
use Rattle.std.proofs.Common.{◌≡◌, ℕ, Bool, true, false, cond, List, [], ◌∷◌, ◌++◌, refl, sym, ◌∙◌, append_assoc}
use Rattle.std.proofs.lemmas.List.{append-nil}
use Rattle.std.specs.List.{concat}
use Rattle.sim_device.specs.FileEffects.{Effect, Append, Live, leads, contents}
use Rattle.sim_device.specs.Pending.{is_file}
use Rattle.sim_device.specs.Disk.{Disk, StandsFor}

both : (b : Bool) (held first second : List ℕ) → cond b (held ++ (first ++ second)) held ≡ cond b (cond b (held ++ first) held ++ second) (cond b (held ++ first) held)
both true held first second = sym (append_assoc held first second)
both false held first second = refl

none : (b : Bool) (held : List ℕ) → cond b (held ++ []) held ≡ held
none true held = append-nil held
none false held = refl

pub append_both : (d : Disk) (es : List Effect) (n : ℕ) (first second : List ℕ) → StandsFor d (Append n (first ++ second) ∷ es) → StandsFor d (Append n second ∷ Append n first ∷ es)
append_both d es n first second k = record {
  live = k.live;
  lasting = k.lasting;
  made = k.made;
  now = λ f within. k.now f within ∙ both (is_file f (leads es Live n)) (contents es Live f) first second;
  disk = k.disk;
}

pub append_none : (d : Disk) (es : List Effect) (n : ℕ) → StandsFor d (Append n [] ∷ es) → StandsFor d es
append_none d es n k = record {
  live = k.live;
  lasting = k.lasting;
  made = k.made;
  now = λ f within. k.now f within ∙ none (is_file f (leads es Live n)) (contents es Live f);
  disk = k.disk;
}

-- these bytes appended part by part
abbrev pub appended : ℕ → List (List ℕ) → List Effect → List Effect
appended n [] es = es
appended n (part ∷ parts) es = appended n parts (Append n part ∷ es)

pub stands_appended : (d : Disk) (n : ℕ) (parts : List (List ℕ)) (es : List Effect) → StandsFor d (Append n (concat parts) ∷ es) → StandsFor d (appended n parts es)
stands_appended d n [] es k = append_none d es n k
stands_appended d n (part ∷ parts) es k = stands_appended d n parts (Append n part ∷ es) (append_both d es n part (concat parts) k)
