use Rattle.std.proofs.Common.{◌≡◌, ◌∙◌, ap, length, rules, tests, arith}
use Rattle.std.proofs.lemmas.Iterator.{YieldsList-from_range}
use Rattle.std.proofs.lemmas.Iterator.Consumers.{count_from_yields_List}
use Rattle.prefix.specs.Keys.{names_after}
use Rattle.prefix.specs.Prefixes.{front}
use Rattle.prefix.proofs.Listing.{lists_under, here, names_below}
use Rattle.prefix.proofs.Picking.{YieldsList-from_filter_map_by}
use Rattle.prefix.proofs.layer.PrefixedExtractor.key_count.Goals as goal

pub returns : goal.returns
returns g c =
    let p = front c.args.self.now.prefix in
    let ks = g.C.Extractor.order c.args.self.now.below in
    let counted : c.count.result ≡ length (names_after p ks) =
    count_from_yields_List c.filter_map.result _ c.count.ensures.ran (YieldsList-from_filter_map_by _ (λ x. x) (λ x. x.now) _ (here p ks) _ (λ x r q k. search (rules, tests)) (YieldsList-from_range 0 c.key_count.result (length ks) (cc) (omega (arith, c.key_count.ensures.count))) c.filter_map.ensures.closure)
    ∙ ap length (names_below p ks)
    in
    record { count = search (rules, tests); lists = lists_under g.C.Carrier.kind (g.C.Carrier.held c.args.self.now.below) p ks c.key_count.ensures.lists }
