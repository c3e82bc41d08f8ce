-- What presumed abort relies on: at any time of a run, the records in the logs agree with what the client was told of a transaction.
-- These are the rules of the published protocol: a participant votes yes only after it forced a prepare record; the decision to commit
-- is the coordinator's forced commit record; a transaction without that record is aborted; and the coordinator forgets a transaction
-- only once all participants have forced their commit records.
use Rattle.std.specs.Prelude.{◌≡◌, ℕ, ◌<◌, Bool, true, false, List}
use Rattle.sim_device.specs.FileEffects.{Live, Lasting}
use Rattle.sim_device.specs.LogEffects.{records}
use Rattle.commit_target.specs.declared.records.Kind.TheVariants.{Prepare, Commit, Abort, End}
use Rattle.commit_target.specs.Writes.{Event, on_coordinator, on_participant}
use Rattle.commit_target.specs.Judgement.{has}

pub record BearsOut (participants : ℕ) (events : List Event) (transaction : ℕ) (told : Bool) : Type 0 where
  -- The client was told of a commit if and only if the coordinator's commit record lasts.
  pub decided : has (records (on_coordinator events) Lasting) transaction Commit ≡ told
  -- If so, each participant's prepare record lasts.
  pub prepared : told ≡ true → (n : ℕ) → n < participants → has (records (on_participant events n) Lasting) transaction Prepare ≡ true
  -- If so, no participant has an abort record.
  pub unaborted : told ≡ true → (n : ℕ) → has (records (on_participant events n) Live) transaction Abort ≡ false
  -- If the client wasn't told of a commit, no participant has a commit record.
  pub uncommitted : told ≡ false → (n : ℕ) → has (records (on_participant events n) Live) transaction Commit ≡ false
  -- If the coordinator has an end record, each participant's commit record lasts.
  pub ended : has (records (on_coordinator events) Live) transaction End ≡ true
      → (n : ℕ) → n < participants → has (records (on_participant events n) Lasting) transaction Commit ≡ true
