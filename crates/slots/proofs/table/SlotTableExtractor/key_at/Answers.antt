use Rattle.std.proofs.Common.{◌≡◌, ◌∙◌, ap, filter, rules, tests}
use Rattle.std.proofs.lemmas.Iterator.{YieldsList-from_slice}
use Rattle.std.proofs.lemmas.Iterator.Consumers.{nth_from_yields_List, YieldsList-from_filter}
use Rattle.std.specs.List.{slice_get}
use Rattle.std.specs.Option.{option_map, option_and_then}
use Rattle.slots.proofs.Listing.{used, name_in, name_at}
use Rattle.slots.proofs.table.SlotTableExtractor.key_at.Goals as goal

pub returns : goal.returns
returns c =
    let ss = c.args.self.now.slots in
    let found : option_map (λ x. x.now) c.nth.result ≡ slice_get (filter used ss) c.args.at = nth_from_yields_List _ _ _ c.nth.ensures.ran (YieldsList-from_filter _ used (YieldsList-from_slice ss cc) c.filter.ensures.closure (λ x r q k. search (rules, tests))) in
    let named : option_map (λ x. x.now) c.and_then.result ≡ option_and_then name_in (option_map (λ x. x.now) c.nth.result) = search (rules, tests) in
    named ∙ ap (option_and_then name_in) found ∙ name_at ss c.args.at
