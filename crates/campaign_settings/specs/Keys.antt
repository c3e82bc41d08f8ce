-- The names of the keys of settings, and which table has which keys. The names are this project's own.
use Rattle.std.specs.Prelude.{◌||◌, ◌++◌, ℕ, Bool, false, List, [], ◌∷◌, Some, None, codes}
use Rattle.std.specs.List.{list_any}
use Rattle.std.specs.Str.{bytes_eq}
use Rattle.campaign_settings.specs.declared.keys.Key.{Key}
use Rattle.campaign_settings.specs.declared.keys.Key.TheVariants as key
use Rattle.campaign_settings.specs.declared.keys.Place.{Place}
use Rattle.campaign_settings.specs.declared.keys.Place.TheVariants.{Top, Own, Worded, Within, Kinds}
use Rattle.campaign_settings.specs.declared.keys.TargetName.{TargetName}
use Rattle.campaign_settings.specs.declared.keys.TargetName.TheVariants.{Replace, Maildir, Commit, Outside}

abbrev pub Text : Type 0
Text = List ℕ

abbrev pub target_name : TargetName → Text
target_name Replace = codes "replace"
target_name Maildir = codes "maildir"
target_name Commit = codes "commit"
target_name Outside = codes "outside"

-- The name of a key. If it stands in a target's table, the table's name comes first: `commit.participants`.
abbrev pub key_name : Key → Text
key_name key.Target = codes "target"
key_name key.Variant = codes "variant"
key_name key.Seed = codes "seed"
key_name key.Workers = codes "workers"
key_name key.MaxHits = codes "max_hits"
key_name key.Pairs = codes "pairs"
key_name key.Storms = codes "storms"
key_name key.Rate = codes "rate"
key_name key.Depth = codes "depth"
key_name key.CrashStates = codes "crash_states"
key_name key.Scenarios = codes "scenarios"
key_name key.Own = codes "own"
key_name (key.Table target) = target_name target
key_name key.Old = codes "replace.old"
key_name key.Replacements = codes "replace.replacements"
key_name key.Messages = codes "maildir.messages"
key_name key.Participants = codes "commit.participants"
key_name key.Transactions = codes "commit.transactions"
key_name key.Label = codes "outside.label"
key_name key.Codes = codes "outside.codes"
key_name key.Points = codes "outside.points"
key_name key.Hits = codes "outside.hits"
key_name key.Kinds = codes "outside.kinds"

-- The keys that the settings of every target have.
abbrev pub is_shared_key : Text → Bool
is_shared_key name = list_any (bytes_eq name) (codes "target" ∷ codes "seed" ∷ codes "pairs" ∷ codes "storms" ∷ codes "rate"
    ∷ codes "depth" ∷ codes "scenarios" ∷ [])

-- The keys for a target that the program runs itself. An outside target has no variant, and another program runs it and cuts its power.
abbrev pub is_bundled_key : Text → Bool
is_bundled_key name = list_any (bytes_eq name) (codes "variant" ∷ codes "workers" ∷ codes "max_hits" ∷ codes "crash_states" ∷ [])

-- The keys for a program that brings its own target. It has no key for crash states, since the
-- program decides itself whether runs end with a power cut.
abbrev pub is_own_key : Text → Bool
is_own_key name = list_any (bytes_eq name) (codes "seed" ∷ codes "workers" ∷ codes "max_hits" ∷ codes "pairs" ∷ codes "storms"
    ∷ codes "rate" ∷ codes "depth" ∷ codes "scenarios" ∷ [])

-- The further keys if that target takes words.
abbrev pub is_word_key : Text → Bool
is_word_key name = list_any (bytes_eq name) (codes "variant" ∷ codes "own" ∷ [])

abbrev pub is_key_of : TargetName → Text → Bool
is_key_of Outside name = is_shared_key name
is_key_of target name = is_shared_key name || is_bundled_key name

-- Whether the table has this key. At the top the tables of other targets are unknown keys; if the target isn't one of the four, the tables of all
-- targets are. The keys of the table `kinds` are points, whose names the settings choose, so no fixed name is known there.
abbrev pub is_known : Place → Text → Bool
is_known (Top None) name = is_shared_key name || is_bundled_key name
is_known (Top (Some target)) name = is_key_of target name || bytes_eq name (target_name target)
is_known Own name = is_own_key name
is_known Worded name = is_own_key name || is_word_key name
is_known (Within Replace) name = list_any (bytes_eq name) (codes "old" ∷ codes "replacements" ∷ [])
is_known (Within Maildir) name = list_any (bytes_eq name) (codes "messages" ∷ [])
is_known (Within Commit) name = list_any (bytes_eq name) (codes "participants" ∷ codes "transactions" ∷ [])
is_known (Within Outside) name = list_any (bytes_eq name) (codes "label" ∷ codes "codes" ∷ codes "points" ∷ codes "hits"
    ∷ codes "kinds" ∷ [])
is_known Kinds name = false

-- A key of a table, with the table's name first.
abbrev pub full_name : Place → Text → Text
full_name (Top target) name = name
full_name Own name = name
full_name Worded name = name
full_name (Within target) name = target_name target ++ codes "." ++ name
full_name Kinds name = key_name key.Kinds ++ codes "." ++ name
