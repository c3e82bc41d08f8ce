use Rattle.std.proofs.Common.{sym, ◌∙◌, ap, subst}
use Rattle.std.specs.FinMap as map
use Rattle.ddmin_parallel.specs.inside.Entries.{plain, AreKeysPacked}
use Rattle.ddmin_parallel.proofs.SetLemmas.{set_cmp}
use Rattle.ddmin_parallel.proofs.KnownLemmas.{insert_plain, insert_packed}
use Rattle.ddmin_parallel.proofs.known.Known.insert.Goals as goal
use Rattle.ddmin_parallel.proofs.known.Known.insert.Goals.{in-Ok, in-Err}

pub invariant_of-self : goal.invariant_of-self
invariant_of-self c = elim c.match-insert.branch [
  | in-Ok w ↦ subst AreKeysPacked (sym w.in-Ok.ensures.entries)
      (insert_packed c.self.inside.answers.entries c.into_key.result c.args.fails c.args.set c.self.invariant c.into_key.ensures)
  | in-Err w ↦ subst AreKeysPacked (sym w.in-Err.ensures.err) c.self.invariant
]

pub returns-clause-ok : goal.returns-clause-ok
returns-clause-ok c = elim c.match-insert.branch [
  | in-Ok w ↦ rw w.result-is (
      ap (λ es. map.from_entries {R = set_cmp} (plain es)) w.in-Ok.ensures.entries
      ∙ insert_plain c.self.inside.answers.entries c.into_key.result c.args.fails c.args.set c.self.invariant c.into_key.ensures
      ∙ ap (λ m. map.insert m c.args.set c.args.fails) c.self.view_is)
  | in-Err w ↦ rw w.result-is tt
]
