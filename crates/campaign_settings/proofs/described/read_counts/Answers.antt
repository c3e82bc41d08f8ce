use Rattle.std.proofs.Common.{◌≡◌, ◌==◌, Ok, Err, Some, None, true, false, is_some, length, option_and_then, rules}
use Rattle.toml.specs.Data.{as_integer}
use Rattle.toml.specs.View.{array_view}
use Rattle.campaign_settings.specs.Lists.{all_in}
use Rattle.campaign_settings.specs.Outside.{count_of}
use Rattle.campaign_settings.specs.Values.{in_ranges, ranged, typed}
use Rattle.campaign_settings.specs.declared.keys.KeyFault.TheVariants.{OutOfRange}
use Rattle.campaign_settings.proofs.DescriptionLemmas.{counts-high, counts-none, counts-some}
use Rattle.campaign_settings.proofs.described.read_counts.Goals as goal

pub returns-in_default-2-clause-refused : goal.returns-in_default-2-clause-refused
returns-in_default-2-clause-refused c =
    let ds = array_view c.in-Some-as_array.items.now in
    let numbers : is_some (all_in as_integer ds) ≡ true = search rules in
    let none : all_in (λ d. option_and_then count_of (as_integer d)) ds ≡ None = search rules in
    let known : typed (in_ranges count_of (ranged (λ counts. length counts == c.args.points))) (all_in as_integer ds) ≡ Err OutOfRange = counts-none c.args.points ds numbers none in
    search (rules, known)

pub returns-then-len-points-clause-refused : goal.returns-then-len-points-clause-refused
returns-then-len-points-clause-refused c =
    let ds = array_view c.in-Some-as_array.items.now in
    let numbers : is_some (all_in as_integer ds) ≡ true = search rules in
    let some : all_in (λ d. option_and_then count_of (as_integer d)) ds ≡ Some c.in-Some-2.counts.items = search rules in
    let other : (length c.in-Some-2.counts.items == c.args.points) ≡ false = search rules in
    let known : typed (in_ranges count_of (ranged (λ counts. length counts == c.args.points))) (all_in as_integer ds) ≡ Err OutOfRange = counts-some c.args.points ds numbers c.in-Some-2.counts.items some false other in
    search (rules, known)

pub returns-clause-ok : goal.returns-clause-ok
returns-clause-ok c =
    let ds = array_view c.in-Some-as_array.items.now in
    let numbers : is_some (all_in as_integer ds) ≡ true = search rules in
    let some : all_in (λ d. option_and_then count_of (as_integer d)) ds ≡ Some c.in-Some-2.counts.items = search rules in
    let same : (length c.in-Some-2.counts.items == c.args.points) ≡ true = search rules in
    let known : typed (in_ranges count_of (ranged (λ counts. length counts == c.args.points))) (all_in as_integer ds) ≡ Ok c.in-Some-2.counts.items = counts-some c.args.points ds numbers c.in-Some-2.counts.items some true same in
    search (rules, known)

pub returns-clause-high : goal.returns-clause-high
returns-clause-high c =
    let ds = array_view c.in-Some-as_array.items.now in
    let some : all_in (λ d. option_and_then count_of (as_integer d)) ds ≡ Some c.in-Some-2.counts.items = search rules in
    counts-high ds c.in-Some-2.counts.items some
