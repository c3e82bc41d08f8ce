-- The kinds of faults that plans of a component grow by, as its settings list them.
use Rattle.std.specs.Prelude.{List, map}
use Rattle.action_eval.specs.declared.rig.Kind.{Kind}
use Rattle.action_eval.specs.declared.rig.Kind.TheVariants.{OnceReturn, OncePanic}
use Rattle.campaign_given.specs.Description.{Description}
use Rattle.campaign_given.specs.declared.outside.TriedFault.{TriedFault}
use Rattle.campaign_given.specs.declared.outside.TriedFault.TheVariants.{Return, Panic}

abbrev pub kind_of : TriedFault → Kind
kind_of (Return text) = OnceReturn text
kind_of Panic = OncePanic

-- The kinds that are listed for each point, in the order of the points. A point's list is empty if the usual kinds are tried there.
abbrev pub listed_kinds : Description → List (List Kind)
listed_kinds outside = map (map kind_of) outside.kinds
