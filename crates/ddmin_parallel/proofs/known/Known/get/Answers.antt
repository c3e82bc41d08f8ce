use Rattle.std.proofs.Common.{ℕ, sym, ◌∙◌, ap}
use Rattle.std.specs.Prelude.{Vec}
use Rattle.std.specs.Global.{Global}
use Rattle.std.specs.BTreeMap.{is_at}
use Rattle.std.specs.Map.{lookup}
use Rattle.std.specs.FinMap as map
use Rattle.ddmin_parallel.proofs.SetLemmas.{runs_cmp}
use Rattle.ddmin_parallel.proofs.KnownLemmas.{get_plain}
use Rattle.ddmin_parallel.proofs.known.Known.get.Goals as goal

pub returns : goal.returns
returns c =
    c.copied.ensures ∙ c.get.ensures.value
    ∙ ap (λ rs. lookup (is_at (λ (v : Vec (ℕ × ℕ) Global). runs_cmp rs v.items)) c.self.inside.answers.entries) c.key.ensures
    ∙ sym (get_plain c.self.inside.answers.entries c.args.set.now c.self.invariant)
    ∙ ap (λ m. map.get m c.args.set.now) c.self.view_is
