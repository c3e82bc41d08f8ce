use Rattle.std.proofs.Common.{◌≡◌, ◌<◌, ◌≤◌, Ok, Err, Some, None, true, is_some, length, option_and_then, rules}
use Rattle.toml.specs.View.{array_view}
use Rattle.campaign_settings.specs.Lists.{all_in, chunks_of, list_in, lists_in}
use Rattle.campaign_settings.specs.Values.{at_most, in_ranges, typed}
use Rattle.campaign_settings.specs.declared.keys.KeyFault.TheVariants.{OutOfRange}
use Rattle.campaign_settings.proofs.ListLemmas.{lists-many, lists-none, lists-some}
use Rattle.campaign_settings.proofs.lists.read_chunks.Goals as goal

pub returns-in_default-2-clause-refused : goal.returns-in_default-2-clause-refused
returns-in_default-2-clause-refused c =
    let ds = array_view c.in-Some-as_array.items.now in
    let lists : is_some (lists_in ds) ≡ true = search rules in
    let none : all_in (λ d. option_and_then chunks_of (list_in d)) ds ≡ None = search rules in
    let known : typed (in_ranges chunks_of (at_most 1000)) (lists_in ds) ≡ Err OutOfRange = lists-none chunks_of 1000 ds lists none in
    search (rules, known)

pub returns-then-len-gt1000-clause-refused : goal.returns-then-len-gt1000-clause-refused
returns-then-len-gt1000-clause-refused c =
    let ds = array_view c.in-Some-as_array.items.now in
    let lists : is_some (lists_in ds) ≡ true = search rules in
    let some : all_in (λ d. option_and_then chunks_of (list_in d)) ds ≡ Some c.in-Some-2.lists.items = search rules in
    let many : 1000 < length c.in-Some-2.lists.items = search rules in
    let known : typed (in_ranges chunks_of (at_most 1000)) (lists_in ds) ≡ Err OutOfRange = lists-many chunks_of 1000 ds lists c.in-Some-2.lists.items some many in
    search (rules, known)

pub returns-clause-ok : goal.returns-clause-ok
returns-clause-ok c =
    let ds = array_view c.in-Some-as_array.items.now in
    let lists : is_some (lists_in ds) ≡ true = search rules in
    let some : all_in (λ d. option_and_then chunks_of (list_in d)) ds ≡ Some c.in-Some-2.lists.items = search rules in
    let few : length c.in-Some-2.lists.items ≤ 1000 = search rules in
    let known : typed (in_ranges chunks_of (at_most 1000)) (lists_in ds) ≡ Ok c.in-Some-2.lists.items = lists-some chunks_of 1000 ds lists c.in-Some-2.lists.items some few in
    search (rules, known)
