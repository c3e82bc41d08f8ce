-- The values in the table of an outside target.
use Rattle.std.specs.Prelude.{◌&&◌, ◌||◌, ◌==◌, ℕ, ℤ, pos, negsuc, Bool, not, List, [], length, Option, Some, None, Result, Ok, Err, codes, nat_le, nat_lt, option_and_then, option_map, replicate, if◌then◌else◌}
use Rattle.std.specs.List.{list_all, list_any}
use Rattle.std.specs.Str.{bytes_eq}
use Rattle.toml.specs.Data.{Data, Members, as_array, as_integer, as_str, get_member}
use Rattle.scenario_grammar.specs.Words.{cut, without_last}
use Rattle.scenario_values.specs.declared.term.Term.{Term}
use Rattle.scenario_values.specs.Printed.{printed}
use Rattle.scenario_values.specs.Scenario.{Entries}
use Rattle.campaign_given.specs.Description.{are_distinct, has_control, is_label, is_return_text}
use Rattle.campaign_given.specs.declared.outside.TriedFault.{TriedFault}
use Rattle.campaign_given.specs.declared.outside.TriedFault.TheVariants.{Return, Panic}
use Rattle.campaign_settings.specs.Keys.{Text}
use Rattle.campaign_settings.specs.Lists.{all_in, each, list_in, texts_in}
use Rattle.campaign_settings.specs.Values.{in_ranges, ranged, typed}
use Rattle.campaign_settings.specs.declared.keys.KeyFault.{KeyFault}
use Rattle.campaign_settings.specs.declared.keys.KeyFault.TheVariants.{Missing, OutOfRange}

-- ---- the values of its keys, which are all required

abbrev pub label_at : Option Data → Result Text KeyFault
label_at None = Err Missing
label_at (Some d) = typed (ranged is_label) (as_str d)

abbrev pub listed_at : Option Data → Result (List Text) KeyFault
listed_at None = Err Missing
listed_at (Some d) = typed (λ ds. typed (λ texts. Ok texts) (texts_in ds)) (as_array d)

-- The texts, if they are all in their range.
abbrev pub in_range_of : (List Text → Bool) → Result (List Text) KeyFault → Result (List Text) KeyFault
in_range_of fits (Ok texts) = ranged fits texts
in_range_of fits (Err fault) = Err fault

abbrev pub names_at : (List Text → Bool) → Option Data → Result (List Text) KeyFault
names_at fits o = in_range_of fits (listed_at o)

-- How often a point is hit: 0 to 100000.
abbrev pub count_of : ℤ → Option ℕ
count_of (pos n) = if nat_le n 100000 then Some n else None
count_of (negsuc n) = None

-- A count for each of the points.
abbrev pub counts_at : ℕ → Option Data → Result (List ℕ) KeyFault
counts_at points None = Err Missing
counts_at points (Some d) =
    typed (λ ds. typed (in_ranges count_of (ranged (λ counts. length counts == points))) (all_in as_integer ds)) (as_array d)

-- A count of 0 for each of the points. If counts are given, they are refused.
abbrev pub uncounted_at : ℕ → Option Data → Result (List ℕ) KeyFault
uncounted_at points None = Ok (replicate points 0)
uncounted_at points (Some d) = Err OutOfRange

-- The counts, which are required without a depth. With a depth the recorded runs have the
-- hits, and counts are refused, since nothing would read them.
abbrev pub hits_beside : Option ℕ → ℕ → Option Data → Result (List ℕ) KeyFault
hits_beside None points o = counts_at points o
hits_beside (Some depth) points o = uncounted_at points o

-- ---- the faults that are tried

-- The text between the parentheses of `return(..)`.
abbrev pub text_of_return : Text → Option Text
text_of_return spelled =
    option_and_then (λ parts. if bytes_eq parts.0 (codes "return") then without_last 41 parts.1 else None) (cut 40 spelled)

abbrev pub return_of : Text → Option TriedFault
return_of text = if is_return_text text then Some (Return (Some text)) else None

-- A fault: `return`, `return(TEXT)` or `panic`.
abbrev pub fault_of : Text → Option TriedFault
fault_of spelled = if bytes_eq spelled (codes "return") then Some (Return None)
    else (if bytes_eq spelled (codes "panic") then Some Panic else option_and_then return_of (text_of_return spelled))

-- There are 1 to 8 faults, and none occurs twice.
abbrev pub is_fault_list : List Text → Bool
is_fault_list spelled = nat_lt 0 (length spelled) && nat_le (length spelled) 8 && are_distinct spelled

abbrev pub faults_of : List Text → Option (List TriedFault)
faults_of spelled = if is_fault_list spelled then each fault_of spelled else None

-- The faults of a point. If none are given, the list is empty, which means the usual ones.
abbrev pub faults_where : Option (List Text) → Option (List TriedFault)
faults_where None = Some []
faults_where (Some spelled) = faults_of spelled

-- The texts that the table lists for a point, if the table has this point.
abbrev pub texts_where : Option Data → Option (Option (List Text))
texts_where None = Some None
texts_where (Some d) = option_map (λ texts. Some texts) (list_in d)

abbrev pub texts_for : Members → Text → Option (Option (List Text))
texts_for ms point = texts_where (get_member point ms)

-- The faults of each point, from a table that has only points as keys. The types of all values are checked before any range.
abbrev pub kinds_in : List Text → Members → Result (List (List TriedFault)) KeyFault
kinds_in points ms = typed (in_ranges faults_where (λ kinds. Ok kinds)) (each (texts_for ms) points)

abbrev pub is_one_of : List Text → Text → Bool
is_one_of points name = list_any (bytes_eq name) points

-- ---- the scenarios that it may be given

-- The term always acts or never does. With a share in between, the outside program would draw by itself whether the term acts, so two runs of one
-- scenario could differ, and the scenario would have no verdict of its own.
abbrev pub is_certain : Term → Bool
is_certain t = t.share == 0 || t.share == 1000000

abbrev pub are_certain : Entries → Bool
are_certain s = list_all (λ e. list_all is_certain e.1) s

-- A scenario can be handed to an outside program if all its terms are certain, and its printed
-- form has no control characters, so that it is a single line.
abbrev pub can_be_handed : Entries → Bool
can_be_handed s = are_certain s && not (has_control (printed s))
