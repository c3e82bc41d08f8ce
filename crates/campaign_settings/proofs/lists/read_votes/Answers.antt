use Rattle.std.proofs.Common.{◌≡◌, ◌<◌, ◌≤◌, Ok, Err, Some, None, true, is_some, length, option_and_then, rules}
use Rattle.toml.specs.View.{array_view}
use Rattle.campaign_settings.specs.Lists.{all_in, wishes_of, list_in, lists_in}
use Rattle.campaign_settings.specs.Values.{at_most, in_ranges, typed}
use Rattle.campaign_settings.specs.declared.keys.KeyFault.TheVariants.{OutOfRange}
use Rattle.campaign_settings.proofs.ListLemmas.{lists-many, lists-none, lists-some, wishes-fit}
use Rattle.campaign_settings.proofs.lists.read_votes.Goals as goal

pub returns-in_default-2-clause-refused : goal.returns-in_default-2-clause-refused
returns-in_default-2-clause-refused c =
    let ds = array_view c.in-Some-as_array.items.now in
    let lists : is_some (lists_in ds) ≡ true = search rules in
    let none : all_in (λ d. option_and_then (wishes_of c.args.participants) (list_in d)) ds ≡ None = search rules in
    let known : typed (in_ranges (wishes_of c.args.participants) (at_most 100)) (lists_in ds) ≡ Err OutOfRange = lists-none (wishes_of c.args.participants) 100 ds lists none in
    search (rules, known)

pub returns-then-len-gt100-clause-refused : goal.returns-then-len-gt100-clause-refused
returns-then-len-gt100-clause-refused c =
    let ds = array_view c.in-Some-as_array.items.now in
    let lists : is_some (lists_in ds) ≡ true = search rules in
    let some : all_in (λ d. option_and_then (wishes_of c.args.participants) (list_in d)) ds ≡ Some c.in-Some-2.lists.items = search rules in
    let many : 100 < length c.in-Some-2.lists.items = search rules in
    let known : typed (in_ranges (wishes_of c.args.participants) (at_most 100)) (lists_in ds) ≡ Err OutOfRange = lists-many (wishes_of c.args.participants) 100 ds lists c.in-Some-2.lists.items some many in
    search (rules, known)

pub returns-clause-ok : goal.returns-clause-ok
returns-clause-ok c =
    let ds = array_view c.in-Some-as_array.items.now in
    let lists : is_some (lists_in ds) ≡ true = search rules in
    let some : all_in (λ d. option_and_then (wishes_of c.args.participants) (list_in d)) ds ≡ Some c.in-Some-2.lists.items = search rules in
    let few : length c.in-Some-2.lists.items ≤ 100 = search rules in
    let known : typed (in_ranges (wishes_of c.args.participants) (at_most 100)) (lists_in ds) ≡ Ok c.in-Some-2.lists.items = lists-some (wishes_of c.args.participants) 100 ds lists c.in-Some-2.lists.items some few in
    search (rules, known)

pub returns-clause-wishes : goal.returns-clause-wishes
returns-clause-wishes c =
    let ds = array_view c.in-Some-as_array.items.now in
    let some : all_in (λ d. option_and_then (wishes_of c.args.participants) (list_in d)) ds ≡ Some c.in-Some-2.lists.items = search rules in
    wishes-fit c.args.participants ds c.in-Some-2.lists.items some
