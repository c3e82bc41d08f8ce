use Rattle.std.proofs.Common.{◌≡◌, drop}
use Rattle.std.specs.List.{list_all}
use Rattle.result_book.specs.Runs.{is_asked}
use Rattle.campaign_core.proofs.watching.is_left_in_list.Given as goal

abbrev pub invariant-loop-range : goal.invariant-loop-range
invariant-loop-range g l =
    list_all (λ p. is_asked l.point p.1.unreached) (drop l.range-index l.list) ≡ list_all (λ p. is_asked l.point p.1.unreached) l.list
