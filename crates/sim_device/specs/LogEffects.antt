-- What a list of effects on a record log means, the newest effect first: which records are in the log.
-- The log is that of two-phase commit: a forced record is on stable storage before the call returns, and so are all records before it. A record that
-- was only appended is lost at a restart, unless a later record was forced.
use Rattle.std.specs.Prelude.{◌≡◌, ℕ, ◌-◌, Bool, not, List, [], ◌∷◌, ◌++◌, length, take}
use Rattle.std.specs.List.{suffix_len}
use Rattle.sim_device.specs.FileEffects.{Side, Live, Lasting}

-- One accepted call.
pub data LogEffect (R : Type 0) : Type 0 where
  Append : R → LogEffect R
  Force : R → LogEffect R
  Restart : LogEffect R

-- The records in the log. Live records are those that lasted at the last restart and all that were added
-- since. Lasting records are the live ones of the last `Force`.
abbrev pub records : {R : Type 0} → List (LogEffect R) → Side → List R
records [] side = []
records (Append r ∷ before) Live = records before Live ++ r ∷ []
records (Append r ∷ before) Lasting = records before Lasting
records (Force r ∷ before) side = records before Live ++ r ∷ []
records (Restart ∷ before) side = records before Lasting

-- A log as contracts see it.
pub record Log (R : Type 0) : Type 0 where
  pub live : List R
  pub lasting : List R

-- The log is what this list of effects gives.
pub record LogStandsFor {R : Type 0} (l : Log R) (effects : List (LogEffect R)) : Type 0 where
  pub live : l.live ≡ records effects Live
  pub lasting : l.lasting ≡ records effects Lasting

-- The effect was accepted: whatever list of effects the log stood for, it now stands for that list with this effect added.
abbrev pub AddsLogEffect : {R : Type 0} → Log R → Log R → LogEffect R → Type 0
AddsLogEffect {R} old new effect = (es : List (LogEffect R)) → LogStandsFor old es → LogStandsFor new (effect ∷ es)

-- None of these is a `Force`.
abbrev pub HasNoForce : {R : Type 0} → List (LogEffect R) → Type 0
HasNoForce [] = Unit {0}
HasNoForce (Append r ∷ later) = HasNoForce later
HasNoForce (Force r ∷ later) = ⊥
HasNoForce (Restart ∷ later) = HasNoForce later

-- The pending records: those added since the last force and the last restart, the oldest first.
abbrev pub unforced : {R : Type 0} → List (LogEffect R) → List R
unforced [] = []
unforced (Append r ∷ before) = unforced before ++ r ∷ []
unforced (Force r ∷ before) = []
unforced (Restart ∷ before) = []

-- How many pending records survive a restart if these are kept, the oldest first. A log is
-- written in order, so a record that is kept keeps all before it.
abbrev pub kept_front : List Bool → ℕ
kept_front keep = length keep - suffix_len not keep

abbrev pub survivors : {R : Type 0} → List (LogEffect R) → List Bool → List R
survivors effects keep = records effects Lasting ++ take (kept_front keep) (unforced effects)

-- After a restart with these answers, the log holds exactly the surviving records, and they last.
abbrev pub RestartsKeeping : {R : Type 0} → Log R → Log R → List Bool → Type 0
RestartsKeeping {R} old new keep = (es : List (LogEffect R)) → LogStandsFor old es → new ≡ record { live = survivors es keep; lasting = survivors es keep }
