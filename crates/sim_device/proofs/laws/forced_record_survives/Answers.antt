use Rattle.std.proofs.Common.{[], ◌∷◌, ◌++◌, subst, sym, refl, Contains, lit<}
use Rattle.std.proofs.lemmas.List.Elements.{Contains-append_left, Contains-append_right}
use Rattle.sim_device.specs.FileEffects.{Live, Lasting}
use Rattle.sim_device.specs.LogEffects.{records}
use Rattle.sim_device.proofs.LogLaws.{forced_stay}
use Rattle.sim_device.proofs.laws.forced_record_survives.Goals as goal

pub returns : goal.returns
returns g c = λ later before r.
    let k = forced_stay later before r Lasting in
    let front = records before Live ++ r ∷ [] in
    subst (λ xs. Contains xs r) (sym k.1) (Contains-append_left front k.0 r (Contains-append_right (records before Live) (r ∷ []) r (0, lit< tt, refl)))
