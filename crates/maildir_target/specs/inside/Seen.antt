-- How far a run has come at a place in the code.
use Rattle.std.specs.Prelude.{◌≡◌, ℕ, ◌≤◌, false, List, length, Option, is_some, Result, MatchResult}
use Rattle.sim_device.specs.FileEffects.{Effect}
use Rattle.action_eval.specs.Answers.{Run}
use Rattle.target_trait.specs.Play.{IsRunning}
use Rattle.target_trait.specs.Machine.{Reached}
use Rattle.maildir_target.specs.declared.variant.Variant.{Variant}
use Rattle.maildir_target.specs.declared.variant.Variant.TheVariants.{Sound, LinkFirst, IgnoreWrite, AppendTmp, DeliverInNew}
use Rattle.maildir_target.specs.declared.delivery.Delivery.{Delivery}
use Rattle.maildir_target.specs.declared.mailbox.Mailbox.{Mailbox}
use Rattle.maildir_target.specs.declared.ended.Ended.{Ended}
use Rattle.maildir_target.specs.declared.ended.Ended.TheVariants.{Failed, Halted, Memory}
use Rattle.maildir_target.specs.Words.{written_name, new_name}
use Rattle.maildir_target.specs.Steps.{Step, Over, Tally, state, named_by, begun, failed, point_at, machine}

-- A run has come this far in the steps, and the device holds what they did. The session may have more points than the delivery.
pub record Played {D : Type 0} (stands : D → List Effect → Type 0) (v : Variant) (messages : List (List (List ℕ))) (r : Run) (t : Tally) (d : D) : Type 0 where
  pub effects : List Effect
  pub reached : Reached (machine v messages) r (state t effects)
  pub device : stands d effects
  pub running : IsRunning (point_at t.step) r
  pub points : 7 ≤ length r.given.catalogue

-- The tally at a step of a delivery.
abbrev pub tally_at : {D : Type 0} → Delivery → Mailbox D → Step → Tally
tally_at a box step = record {
  step = step;
  message = a.message;
  attempt = a.attempt;
  chunks = a.chunks.now;
  rest = a.rest.now;
  acknowledged = box.acknowledged.items;
}

-- The names that the delivery uses.
abbrev pub written_of_delivery : Delivery → ℕ
written_of_delivery a = written_name a.variant a.message (named_by a.variant a.attempt)

abbrev pub new_of_delivery : Delivery → ℕ
new_of_delivery a = new_name a.message (named_by a.variant a.attempt)

-- The delivery stores the number of the name that it writes.
abbrev pub IsNamed : Delivery → Type 0
IsNamed a = a.written ≡ written_of_delivery a

-- A file can be created, given the file that its name leads to: there must be none, except for `append_tmp`, which accepts one.
abbrev pub CanCreate : Variant → Option ℕ → Type 0
CanCreate Sound file = is_some file ≡ false
CanCreate LinkFirst file = is_some file ≡ false
CanCreate IgnoreWrite file = is_some file ≡ false
CanCreate AppendTmp file = Unit {0}
CanCreate DeliverInNew file = is_some file ≡ false

-- The run has reached this tally of the delivery.
abbrev pub IsAtTally : {D : Type 0} → (D → List Effect → Type 0) → Delivery → Run → Mailbox D → Tally → Type 0
IsAtTally stands a r box t = Played stands a.variant a.messages.now r t box.device

-- This step of the delivery is the next.
abbrev pub IsAt : {D : Type 0} → (D → List Effect → Type 0) → Delivery → Run → Mailbox D → Step → Type 0
IsAt stands a r box step = IsAtTally stands a r box (tally_at a box step)

-- What holds after an attempt has ended before its last step.
abbrev pub HasEnded : {D : Type 0} → (D → List Effect → Type 0) → Delivery → Run → Mailbox D → Ended → Type 0
HasEnded stands a r box Failed = IsAtTally stands a r box (failed a.variant (tally_at a box Over))
HasEnded stands a r box Halted = IsAt stands a r box Over
HasEnded stands a r box Memory = Unit {0}

-- A part of an attempt leads to a step, or else ends the attempt.
abbrev pub Leads : {D T : Type 0} → (D → List Effect → Type 0) → Delivery → Run → Mailbox D → Step → Result T Ended → Type 0
Leads stands a r box step result = MatchResult result (λ _. IsAt stands a r box step) (λ e. HasEnded stands a r box e)

-- A whole attempt leads to the next message, or else has ended before its last step.
abbrev pub Delivers : {D T : Type 0} → (D → List Effect → Type 0) → Delivery → Run → Mailbox D → Result T Ended → Type 0
Delivers stands a r box result = MatchResult result (λ _. IsAtTally stands a r box (begun a.variant (tally_at a box Over))) (λ e. HasEnded stands a r box e)

-- The message with this number was delivered or given up, and these are the messages after it.
pub record IsBetween {D : Type 0} (stands : D → List Effect → Type 0) (v : Variant) (messages : List (List (List ℕ))) (r : Run) (box : Mailbox D)
    (number : ℕ) (more : List (List (List ℕ))) : Type 0 where
  pub last : Tally
  pub message : last.message ≡ number
  pub rest : last.rest ≡ more
  pub acknowledged : last.acknowledged ≡ box.acknowledged.items
  pub played : Played stands v messages r (begun v last) box.device

-- Nothing more is asked.
pub record IsOver {D : Type 0} (stands : D → List Effect → Type 0) (v : Variant) (messages : List (List (List ℕ))) (r : Run) (box : Mailbox D) : Type 0 where
  pub last : Tally
  pub over : last.step ≡ Over
  pub acknowledged : last.acknowledged ≡ box.acknowledged.items
  pub played : Played stands v messages r last box.device

-- What holds after the last attempt at a message has ended without delivering it.
abbrev pub HasLeft : {D : Type 0} → (D → List Effect → Type 0) → Delivery → Run → Mailbox D → Ended → Type 0
HasLeft stands a r box Failed = IsBetween stands a.variant a.messages.now r box a.message a.rest.now
HasLeft stands a r box Halted = IsOver stands a.variant a.messages.now r box
HasLeft stands a r box Memory = Unit {0}
