use Rattle.ddmin_parallel.proofs.Kept as kept
use Rattle.ddmin_parallel.proofs.laws.kept_is_sublist.Goals as goal

pub returns : goal.returns
returns c = record {
  sublist = kept.kept_sublist;
  ascends = λ test faults. (kept.kept_are_faults test faults).0;
  faults = λ test faults. (kept.kept_are_faults test faults).1;
}
