-- What a device accepts, in terms of the list of effects that it stands for.
use Rattle.std.specs.Prelude.{ℕ, List, [], ◌∷◌}
use Rattle.sim_device.specs.FileEffects.{Effect, Append}

-- The effect was accepted: whatever list of effects the device stood for, it now stands for that list with this effect added.
abbrev pub Adds : {D : Type 0} → (D → List Effect → Type 0) → D → D → Effect → Type 0
Adds stands old new effect = (es : List Effect) → stands old es → stands new (effect ∷ es)

-- The effects after these chunks were appended to a file, one after another.
abbrev pub with_chunks : ℕ → List (List ℕ) → List Effect → List Effect
with_chunks name [] es = es
with_chunks name (chunk ∷ chunks) es = with_chunks name chunks (Append name chunk ∷ es)
