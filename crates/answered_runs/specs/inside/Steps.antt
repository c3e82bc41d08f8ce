-- How rigged hits are found, term by term. Private contracts cite it.
use Rattle.std.specs.Prelude.{◌≡◌, ℕ, Bool, true, false, List, Option, None, Some}
use Rattle.action_eval.specs.declared.rig.Kind.{Kind}
use Rattle.action_eval.specs.declared.rig.Kind.TheVariants.{OnceReturn, OnwardReturn}
use Rattle.action_eval.specs.declared.rig.Rig.{Rig}

-- Whether there are such rigged hits, and if so, they are these.
abbrev pub Took : Option (List Rig) → List Rig → Bool → Type 0
Took found rigs true = found ≡ Some rigs
Took found rigs false = found ≡ None

-- The same, with how many hits of the point there are then.
abbrev pub TookTo : Option (ℕ × List Rig) → List Rig → Option ℕ → Type 0
TookTo found rigs None = found ≡ None
TookTo found rigs (Some hit) = found ≡ Some (hit, rigs)

-- A return with this text, sticky or once.
abbrev pub return_kind : Bool → Option (List ℕ) → Kind
return_kind true text = OnwardReturn text
return_kind false text = OnceReturn text
