-- The records of a log that last are a front of all its records: if they are as many, they are the same.
use Rattle.std.proofs.Common.{◌≡◌, ◌≤◌, List, [], ◌∷◌, ◌++◌, length, refl, ap, sym, ◌∙◌, arith}
use Rattle.std.proofs.lemmas.List.{length-append, append-nil, append_assoc}
use Rattle.sim_device.specs.FileEffects.{Side, Live, Lasting}
use Rattle.sim_device.specs.LogEffects.{LogEffect, Append, Force, Restart, records, unforced, Log, LogStandsFor}

-- what is there is what lasts and what is pending
pub live_is : {R : Type 0} (es : List (LogEffect R)) → records es Live ≡ records es Lasting ++ unforced es
live_is [] = refl
live_is (Append r ∷ es) = ap (λ x. x ++ r ∷ []) (live_is es) ∙ append_assoc (records es Lasting) (unforced es) (r ∷ [])
live_is (Force r ∷ es) = sym (append-nil (records es Live ++ r ∷ []))
live_is (Restart ∷ es) = sym (append-nil (records es Lasting))

none : {R : Type 0} (front rest : List R) → length (front ++ rest) ≤ length front → front ≡ front ++ rest
none front [] h = sym (append-nil front)
none front (r ∷ rest) h = absurd (omega (arith, length-append front (r ∷ rest)))

pub lasting_all : {R : Type 0} (es : List (LogEffect R)) → length (records es Live) ≤ length (records es Lasting) → records es Lasting ≡ records es Live
lasting_all es h =
    let all : length (records es Lasting ++ unforced es) ≤ length (records es Lasting) = omega (arith, ap (λ x. length x) (live_is es)) in
    none (records es Lasting) (unforced es) all ∙ sym (live_is es)

-- ---- records that are all forced

abbrev pub forcing : {R : Type 0} → List R → List (LogEffect R) → List (LogEffect R)
forcing [] es = es
forcing (r ∷ rs) es = forcing rs (Force r ∷ es)

forced_so : {R : Type 0} (rs : List R) (es : List (LogEffect R)) → records es Lasting ≡ records es Live → (side : Side)
    → records (forcing rs es) side ≡ records es Live ++ rs
forced_so [] es same Live = sym (append-nil (records es Live))
forced_so [] es same Lasting = same ∙ sym (append-nil (records es Live))
forced_so (r ∷ rs) es same side = forced_so rs (Force r ∷ es) refl side ∙ append_assoc (records es Live) (r ∷ []) rs

-- a log in which all records last
pub all_last : {R : Type 0} (rs : List R) (log : Log R) → log ≡ record { live = rs; lasting = rs } → LogStandsFor log (forcing rs [])
all_last {R} rs log is = record {
  live = ap (λ (l : Log R). l.live) is ∙ sym (forced_so rs [] refl Live);
  lasting = ap (λ (l : Log R). l.lasting) is ∙ sym (forced_so rs [] refl Lasting);
}
