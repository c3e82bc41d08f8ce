-- The meaning of a settings text, as one definition that also fixes the order in which faults are looked for.
use Rattle.std.specs.Prelude.{◌≡◌, ◌+◌, ◌≤◌, ◌&&◌, ℕ, Bool, false, List, [], ◌∷◌, length, Option, Some, None, IfSome, Result, Ok, Err, codes, is_some, nat_lt, replicate, string_bytes, if◌then◌else◌}
use Rattle.std.specs.Cmp.Lexicographic.{slice_cmp}
use Rattle.std.specs.List.{list_all}
use Rattle.std.specs.Ordering.{match_ordering, nat_cmp}
use Rattle.toml.specs.Data.{Data, Members, get_member, member, no_members}
use Rattle.toml.specs.Parse.{parse_document}
use Rattle.scenario_grammar.specs.FirstFault.{Fault, reading}
use Rattle.scenario_values.specs.Scenario.{Entries}
use Rattle.campaign_given.specs.Given.{Given, defaults, read_from}
use Rattle.file_replace.specs.declared.variant.Variant.{Variant as ReplaceVariant}
use Rattle.maildir_target.specs.declared.variant.Variant.{Variant as MaildirVariant}
use Rattle.commit_target.specs.declared.variant.Variant.{Variant as CommitVariant}
use Rattle.campaign_settings.specs.Keys.{Text, is_known, target_name}
use Rattle.campaign_settings.specs.Values.{boolean_at, number_at, optional_at, lists_at, setup_at, table_at, target_at, text_at, texts_at}
use Rattle.campaign_settings.specs.Lists.{chunks_of, wishes_of}
use Rattle.campaign_given.specs.Description.{are_codes, are_points}
use Rattle.campaign_given.specs.declared.outside.TriedFault.{TriedFault}
use Rattle.campaign_settings.specs.Outside.{can_be_handed, hits_beside, is_one_of, kinds_in, label_at, names_at}
use Rattle.campaign_settings.specs.declared.keys.Key.{Key}
use Rattle.campaign_settings.specs.declared.keys.Key.TheVariants as key
use Rattle.campaign_settings.specs.declared.keys.KeyFault.{KeyFault}
use Rattle.campaign_settings.specs.declared.keys.KeyFault.TheVariants as fault
use Rattle.campaign_settings.specs.declared.keys.Place.{Place}
use Rattle.campaign_settings.specs.declared.keys.Place.TheVariants.{Top, Within, Kinds}
use Rattle.campaign_settings.specs.declared.keys.TargetName.{TargetName}
use Rattle.campaign_settings.specs.declared.choice.Choice.{Choice}
use Rattle.campaign_settings.specs.declared.choice.Choice.TheVariants as choice
use Rattle.campaign_settings.specs.declared.choice.Setup.{Setup}
use Rattle.campaign_settings.specs.declared.choice.Setup.TheVariants as setup
use Rattle.campaign_settings.specs.declared.numbers.Planning.{Planning}
use Rattle.campaign_settings.specs.declared.numbers.Running.{Running}
use Rattle.campaign_settings.specs.declared.settings.Settings.{Settings}
use Rattle.campaign_settings.specs.declared.fault.SettingsFault.{SettingsFault}
use Rattle.campaign_settings.specs.declared.fault.SettingsFault.TheVariants.{TooLong, NotToml, UnknownKey, Missing, WrongType, OutOfRange, Scenario, Memory}

-- ---- what a text gives, or why it gives nothing

pub data Cause : Type 0 where
  too_long : Cause
  not_toml : Cause
  unknown : Place → Text → Cause
  wrong : Key → KeyFault → Cause
  listed : ℕ → Fault → Cause

abbrev pub Read : Type 0 → Type 0
Read X = Result X Cause

-- What comes next, if there was no fault before it.
abbrev pub after : {X Y : Type 0} → Read X → (X → Read Y) → Read Y
after (Ok x) next = next x
after (Err cause) next = Err cause

-- A key's value, or the key with its fault.
abbrev pub keyed : {X : Type 0} → Key → Result X KeyFault → Read X
keyed k (Ok x) = Ok x
keyed k (Err f) = Err (wrong k f)

-- ---- unknown keys

-- The lesser of two keys in byte order. The second may be missing.
abbrev pub lesser : Text → Option Text → Text
lesser name None = name
lesser name (Some other) = match_ordering (slice_cmp nat_cmp name other) name name other

-- The first in byte order of the members' keys that aren't known.
abbrev pub least_unknown : (Text → Bool) → Members → Option Text
least_unknown known no_members = None
least_unknown known (member name d ms) =
    if known name then least_unknown known ms else Some (lesser name (least_unknown known ms))

abbrev pub all_known : Place → Option Text → Read (Unit {0})
all_known place None = Ok tt
all_known place (Some name) = Err (unknown place name)

abbrev pub known_in : Place → Members → Read (Unit {0})
known_in place ms = all_known place (least_unknown (is_known place) ms)

-- The top of the settings, with the target that is named.
abbrev pub top_of : Result TargetName KeyFault → Place
top_of (Ok t) = Top (Some t)
top_of (Err f) = Top None

-- ---- listed scenarios

-- The scenario that text number i spells, or its fault with the number.
abbrev pub listed_as : ℕ → Result Entries Fault → Read Entries
listed_as i (Ok s) = Ok s
listed_as i (Err f) = Err (listed i f)

-- The scenarios that these texts spell, or the fault of the first text that spells none. The texts are numbered from i.
abbrev pub spelled_from : ℕ → List Text → Read (List Entries)
spelled_from i [] = Ok []
spelled_from i (t ∷ ts) =
    after (listed_as i (reading t)) (λ s.
    after (spelled_from (i + 1) ts) (λ rest. Ok (s ∷ rest)))

-- The scenarios, if the target may be given them.
abbrev pub allowed_for : Setup → List Entries → Read (List Entries)
allowed_for setup.Outside scenarios =
    if list_all can_be_handed scenarios then Ok scenarios else Err (wrong key.Scenarios fault.OutOfRange)
allowed_for s scenarios = Ok scenarios

-- The listed scenarios.
abbrev pub spelled_at : Option Data → Read (List Entries)
spelled_at o = after (keyed key.Scenarios (texts_at 1000 o)) (spelled_from 0)

abbrev pub scenarios_at : Setup → Option Data → Read (List Entries)
scenarios_at s o = after (spelled_at o) (allowed_for s)

-- ---- a target's table

abbrev pub replacing_in : ReplaceVariant → Members → Read Choice
replacing_in v ms =
    after (keyed key.Old (text_at 65536 (get_member (codes "old") ms))) (λ old.
    after (keyed key.Replacements (lists_at chunks_of 1000 (get_member (codes "replacements") ms))) (λ lists.
    Ok (choice.Replace v (record { old = old; replacements = lists }))))

abbrev pub delivering_in : MaildirVariant → Members → Read Choice
delivering_in v ms =
    after (keyed key.Messages (lists_at chunks_of 1000 (get_member (codes "messages") ms))) (λ lists.
    Ok (choice.Maildir v lists))

abbrev pub committing_in : CommitVariant → Members → Read Choice
committing_in v ms =
    after (keyed key.Participants (number_at (Err fault.Missing) 1 8 (get_member (codes "participants") ms))) (λ n.
    after (keyed key.Transactions (lists_at (wishes_of n) 100 (get_member (codes "transactions") ms))) (λ lists.
    Ok (choice.Commit v (record { participants = n; transactions = lists }))))

-- The faults that are tried at each of the points, by a table of points.
abbrev pub kinds_by : List Text → Data → Read (List (List TriedFault))
kinds_by points d =
    after (keyed key.Kinds (table_at (Some d))) (λ ms.
    after (all_known Kinds (least_unknown (is_one_of points) ms)) (λ _.
    keyed key.Kinds (kinds_in points ms)))

-- If no table is given, the list of each point is empty, which means the usual faults.
-- Without a depth a table is refused, since nothing would read it.
abbrev pub kinds_beside : Option ℕ → List Text → Option Data → Read (List (List TriedFault))
kinds_beside depth points None = Ok (replicate (length points) [])
kinds_beside None points (Some d) = Err (wrong key.Kinds fault.OutOfRange)
kinds_beside (Some depth) points (Some d) = kinds_by points d

abbrev pub described_by : Option ℕ → Text → Members → Read Choice
described_by depth label ms =
    after (keyed key.Codes (names_at are_codes (get_member (codes "codes") ms))) (λ names.
    after (keyed key.Points (names_at are_points (get_member (codes "points") ms))) (λ points.
    after (keyed key.Hits (hits_beside depth (length points) (get_member (codes "hits") ms))) (λ hits.
    after (kinds_beside depth points (get_member (codes "kinds") ms)) (λ kinds.
    Ok (choice.Outside (record { label = label; codes = names; points = points; hits = hits; kinds = kinds }))))))

abbrev pub describing_in : Option ℕ → Members → Read Choice
describing_in depth ms = after (keyed key.Label (label_at (get_member (codes "label") ms))) (λ label. described_by depth label ms)

-- The work that a target's table describes. For an outside target it depends on whether there is a depth.
abbrev pub work_in : Setup → Option ℕ → Members → Read Choice
work_in (setup.Replace v) depth ms = replacing_in v ms
work_in (setup.Maildir v) depth ms = delivering_in v ms
work_in (setup.Commit v) depth ms = committing_in v ms
work_in setup.Outside depth ms = describing_in depth ms

-- The work from the table with the target's name. Unknown keys of the table are looked for first.
abbrev pub choice_in : TargetName → Setup → Option ℕ → Members → Read Choice
choice_in t s depth ms =
    after (keyed (key.Table t) (table_at (get_member (target_name t) ms))) (λ own.
    after (known_in (Within t) own) (λ _. work_in s depth own))

-- ---- numbers

-- How runs are made. For an outside target `workers` and `max_hits` are unknown keys: they get their defaults, which mean nothing.
abbrev pub running_in : Members → Read Running
running_in ms =
    after (keyed key.Seed (number_at (Ok defaults.plans.seed) 0 9223372036854775807 (get_member (codes "seed") ms))) (λ seed.
    after (keyed key.Workers (number_at (Ok defaults.workers) 1 64 (get_member (codes "workers") ms))) (λ workers.
    after (keyed key.MaxHits (number_at (Ok defaults.max_hits) 1 100000 (get_member (codes "max_hits") ms))) (λ max_hits.
    Ok (record { seed = seed; workers = workers; max_hits = max_hits }))))

-- Up to how many faults every run is tried with. Pairs can't be asked for together with a depth.
abbrev pub depth_beside : Bool → Members → Read (Option ℕ)
depth_beside pairs ms =
    after (keyed key.Depth (optional_at 1 64 (get_member (codes "depth") ms))) (λ depth.
    if is_some depth && pairs then Err (wrong key.Pairs fault.OutOfRange) else Ok depth)

-- Whether the power cut of a run asks what it keeps. For an outside target `crash_states` is an unknown key, and the value is false.
abbrev pub crash_states_in : Members → Read Bool
crash_states_in ms = keyed key.CrashStates (boolean_at defaults.crash_states (get_member (codes "crash_states") ms))

-- Which plans are made in addition to those of one fault, and how their runs end.
abbrev pub planning_in : Members → Read Planning
planning_in ms =
    after (keyed key.Pairs (boolean_at defaults.plans.pairs (get_member (codes "pairs") ms))) (λ pairs.
    after (keyed key.Storms (number_at (Ok defaults.plans.storms) 0 10000 (get_member (codes "storms") ms))) (λ storms.
    after (keyed key.Rate (number_at (Ok defaults.plans.rate) 0 1000 (get_member (codes "rate") ms))) (λ rate.
    after (depth_beside pairs ms) (λ depth.
    after (crash_states_in ms) (λ crash_states.
    Ok (record { pairs = pairs; storms = storms; rate = rate; depth = depth; crash_states = crash_states }))))))

-- The ranges of these numbers.
pub record IsRunning (r : Running) : Type 0 where
  pub seed : r.seed ≤ 9223372036854775807
  pub some_workers : 1 ≤ r.workers
  pub few_workers : r.workers ≤ 64
  pub some_hits : 1 ≤ r.max_hits
  pub few_hits : r.max_hits ≤ 100000

pub record IsPlanning (p : Planning) : Type 0 where
  pub storms : p.storms ≤ 10000
  pub rate : p.rate ≤ 1000
  pub some_depth : IfSome p.depth (λ faults. 1 ≤ faults)
  pub low_depth : IfSome p.depth (λ faults. faults ≤ 64)
  pub depth_without_pairs : IfSome p.depth (λ _. p.pairs ≡ false)

-- What a campaign is given: these numbers and the listed scenarios, without the text that they were read from.
abbrev pub campaign_of : Running → Planning → List Entries → Given
campaign_of running planning scenarios = record {
  workers = running.workers;
  max_hits = running.max_hits;
  depth = planning.depth;
  crash_states = planning.crash_states;
  plans = record {
    pairs = planning.pairs;
    storms = planning.storms;
    rate = planning.rate;
    listed = scenarios;
    seed = running.seed;
  };
  source = [];
}

-- ---- the whole

-- The settings of a target, or their first fault in the order in which faults are looked for.
abbrev pub settings_for : TargetName → Members → Read Settings
settings_for t ms =
    after (keyed key.Variant (setup_at t (get_member (codes "variant") ms))) (λ s.
    after (running_in ms) (λ running.
    after (planning_in ms) (λ planning.
    after (scenarios_at s (get_member (codes "scenarios") ms)) (λ scenarios.
    after (choice_in t s planning.depth ms) (λ choice.
    Ok (record { choice = choice; campaign = campaign_of running planning scenarios }))))))

-- The same for the target that the settings name. Unknown keys are looked for first.
abbrev pub settings_in : Members → Read Settings
settings_in ms =
    after (known_in (top_of (target_at (get_member (codes "target") ms))) ms) (λ _.
    after (keyed key.Target (target_at (get_member (codes "target") ms))) (λ t. settings_for t ms))

-- The members of a TOML text.
abbrev pub parsed : Option Members → Read Members
parsed None = Err not_toml
parsed (Some ms) = Ok ms

abbrev pub members_of : Text → Read Members
members_of text = if nat_lt 1048576 (length text) then Err too_long else parsed (parse_document text)

-- The settings with the text that they were read from.
abbrev pub settings_from : Text → Settings → Settings
settings_from text s = record { choice = s.choice; campaign = read_from text s.campaign }

-- The settings of a text, or its first fault.
abbrev pub settings_of : Text → Read Settings
settings_of text = after (after (members_of text) settings_in) (λ s. Ok (settings_from text s))

-- ---- refusals

-- The refusal names the cause. It may also be that memory was refused.
abbrev pub RefusedBy : {X : Type 0} → Read X → SettingsFault → Type 0
RefusedBy r TooLong = r ≡ Err too_long
RefusedBy r NotToml = r ≡ Err not_toml
RefusedBy r (UnknownKey place name) = r ≡ Err (unknown place (string_bytes name))
RefusedBy r (Missing k) = r ≡ Err (wrong k fault.Missing)
RefusedBy r (WrongType k) = r ≡ Err (wrong k fault.WrongType)
RefusedBy r (OutOfRange k) = r ≡ Err (wrong k fault.OutOfRange)
RefusedBy r (Scenario number kind entry term) =
    r ≡ Err (listed number (record { kind = kind; entry = entry; term = term }))
RefusedBy r Memory = Unit {0}
