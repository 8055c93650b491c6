use Rattle.std.proofs.Common.{◌≡◌, ◌∙◌, ap, length, rules, tests, arith}
use Rattle.std.proofs.lemmas.Iterator.{YieldsList-from_range}
use Rattle.std.proofs.lemmas.Iterator.Consumers.{nth_from_yields_List}
use Rattle.std.specs.List.{slice_get}
use Rattle.std.specs.Option.{option_map}
use Rattle.prefix.specs.Keys.{names_after}
use Rattle.prefix.specs.Prefixes.{front}
use Rattle.prefix.proofs.Listing.{here, names_below}
use Rattle.prefix.proofs.Picking.{YieldsList-from_filter_map_by}
use Rattle.prefix.proofs.layer.PrefixedExtractor.key_at.Goals as goal

pub returns : goal.returns
returns g c =
    let p = front c.args.self.now.prefix in
    let ks = g.C.Extractor.order c.args.self.now.below in
    let found : option_map (λ x. x.now) c.nth.result ≡ slice_get (names_after p ks) c.args.at =
    nth_from_yields_List _ _ _ c.nth.ensures.ran (YieldsList-from_filter_map_by _ (λ x. x) (λ x. x.now) _ (here p ks) _ (λ x r q k. search (rules, tests)) (YieldsList-from_range 0 c.key_count.result (length ks) (cc) (omega (arith, c.key_count.ensures.count))) c.filter_map.ensures.closure)
    ∙ ap (λ ns. slice_get ns c.args.at) (names_below p ks)
    in
    search (rules, tests)
