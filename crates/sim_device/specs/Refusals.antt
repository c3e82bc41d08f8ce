-- When a call of a file device is refused, and the texts of its faults.
use Rattle.std.specs.Prelude.{◌≡◌, ℕ, Bool, true, false, List, Option, Some, None, Result, Err, IfErr, IsOk, codes}
use Rattle.sim_device.specs.declared.fault.DeviceFault.{DeviceFault}
use Rattle.sim_device.specs.declared.fault.DeviceFault.TheVariants.{Exists, NotFound, Memory}

-- If its cause holds, the call fails with this fault. Otherwise it can fail only because memory was refused.
abbrev pub Refuses : Bool → DeviceFault → Result (Unit {0}) DeviceFault → Type 0
Refuses true fault r = r ≡ Err fault
Refuses false fault r = IfErr r (λ e. e ≡ Memory)

-- The same for a call that takes no memory: if the cause doesn't hold, it is accepted.
abbrev pub RefusesOnly : Bool → DeviceFault → Result (Unit {0}) DeviceFault → Type 0
RefusesOnly true fault r = r ≡ Err fault
RefusesOnly false fault r = IsOk r

-- `link` checks its first name before its second.
abbrev pub RefusesLink : Option ℕ → Option ℕ → Result (Unit {0}) DeviceFault → Type 0
RefusesLink None to r = r ≡ Err NotFound
RefusesLink (Some f) (Some g) r = r ≡ Err Exists
RefusesLink (Some f) None r = IfErr r (λ e. e ≡ Memory)

-- The text of a fault.
abbrev pub fault_text : DeviceFault → List ℕ
fault_text Exists = codes "the name exists"
fault_text NotFound = codes "no such name"
fault_text Memory = codes "out of memory"
