-- A cut that loses everything: no pending write is kept, and of each log only what lasts.
use Rattle.std.proofs.Common.{◌≡◌, ℕ, zero, suc, ◌-◌, Bool, false, not, List, [], ◌∷◌, ◌++◌, length, replicate, take, refl, ap, ◌∙◌, arith}
use Rattle.std.specs.List.{suffix_len}
use Rattle.std.proofs.lemmas.List.{append-nil, get_or-replicate, length-replicate}
use Rattle.std.proofs.lemmas.List.Sums.{suffix_len_is}
use Rattle.sim_device.specs.FileEffects.{Lasting}
use Rattle.sim_device.specs.LogEffects.{LogEffect, records, unforced, kept_front, survivors}
use Rattle.sim_device.specs.Pending.{Pending, kept}

pub none_kept : (count : ℕ) (writes : List Pending) → kept (replicate count false) writes ≡ []
none_kept zero writes = refl
none_kept (suc count) [] = refl
none_kept (suc count) (p ∷ writes) = none_kept count writes

-- No front of a log is kept.
no_front : (count : ℕ) → kept_front (replicate count false) ≡ 0
no_front count =
    let lost : List Bool = replicate count false in
    let long : length lost ≡ count = length-replicate count false in
    let all : suffix_len not lost ≡ length lost - 0 =
    suffix_len_is not lost 0 false (omega arith) (λ i from within. ap not (get_or-replicate count i false false (omega (arith, long, within)))) (λ less. absurd (omega (arith, less))) in
    omega (arith, all)

-- and what is left is what lasts
pub what_lasts : {R : Type 0} (es : List (LogEffect R)) (count : ℕ) → survivors es (replicate count false) ≡ records es Lasting
what_lasts es count =
    ap (λ n. records es Lasting ++ take n (unforced es)) (no_front count) ∙ append-nil (records es Lasting)
