use Rattle.std.proofs.Common.{◌≡◌, ℕ, List, Bool, Option, sym, subst, None}
use Rattle.std.specs.FinMap.{get}
use Rattle.ddmin_parallel.specs.Rounds.{Candidate}
use Rattle.ddmin_parallel.specs.CoreEvents.{Answers, Position, step}
use Rattle.ddmin_parallel.specs.inside.CoreStates.{IsLawful, IsSmall}
use Rattle.ddmin_parallel.specs.inside.Stages.{position_of}
use Rattle.ddmin_parallel.specs.inside.Cursors.{Leads, follow, is_among}
use Rattle.ddmin_parallel.proofs.Scans.{IsFollowed, followed}
use Rattle.ddmin_parallel.proofs.open.further_set.Goals as goal

on : (known : Answers) (out : List ℕ → Bool) (p q : Position) (o : Option Candidate) → IsLawful p → IsSmall p → step known p ≡ None → Leads known p o
    → q ≡ follow p o → IsFollowed known out p q
on known out p q o lawful small stuck leads is = subst (IsFollowed known out p) (sym is) (followed known out p o lawful small stuck leads)

pub scanned-requires-clause-lawful : goal.scanned-requires-clause-lawful
scanned-requires-clause-lawful c =
    (on (get c.args.progress.now.known) (is_among c.args.progress.now.out.items) (position_of c.args.progress.now.stage)
    (position_of c.in_ok-next.next) c.args.failing c.requires.lawful c.requires.small c.requires.stuck c.requires.leads c.in_ok-next.ensures).lawful

pub scanned-requires-clause-small : goal.scanned-requires-clause-small
scanned-requires-clause-small c =
    (on (get c.args.progress.now.known) (is_among c.args.progress.now.out.items) (position_of c.args.progress.now.stage)
    (position_of c.in_ok-next.next) c.args.failing c.requires.lawful c.requires.small c.requires.stuck c.requires.leads c.in_ok-next.ensures).small
