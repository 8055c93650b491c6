use borrow.Author.Tests.{tests}
use Rattle.std.proofs.Common.{◌+◌, ◌^◌, ◌∙◌, sym, refl, rules, arith}
use Rattle.std.proofs.lemmas.Iterator.{YieldsList-from_slice, YieldsList-from_map}
use Rattle.std.proofs.lemmas.Iterator.Adapters.{serves_from_places}
use Rattle.std.proofs.lemmas.Iterator.Consumers.{YieldsList-at, sum_by_from_yields_List, fits_by_from_yields_list}
use Rattle.std.proofs.lemmas.List.Recursion.{is_sum_by}
use Rattle.store.specs.Layout.{total}
use Rattle.store.proofs.Reading.{total_at}
use Rattle.store.proofs.memory.read.total_of.Goals as goal

pub sum-requires-clause-can : goal.sum-requires-clause-can
sum-requires-clause-can c = (
  tt,
  serves_from_places (YieldsList-at c.map.ensures.source (YieldsList-from_slice c.args.spans.now cc)) (λ x q r. search rules)
      (λ x k a b. let sum = total_at c.args.spans.now k x.now a b in λ _ _ _ _ _ _. omega (arith, c.requires)),
)

pub sum-requires-clause-fits : goal.sum-requires-clause-fits
sum-requires-clause-fits c =
    fits_by_from_yields_list (λ s. s.key + s.value) c.args.spans.now c.map.result (2 ^ 64)
    (YieldsList-from_map _ (λ s. s.key + s.value) (YieldsList-at c.map.ensures.source (YieldsList-from_slice c.args.spans.now cc)) c.map.ensures.closure (λ x r q k. search (rules, tests)))
    (let sum = is_sum_by total (λ s. s.key + s.value) refl (λ _ _. refl) c.args.spans.now in search rules)

pub returns : goal.returns
returns c =
    sum_by_from_yields_List (λ s. s.key + s.value) c.args.spans.now c.map.result c.sum.result c.sum.ensures.ran
    (YieldsList-from_map _ (λ s. s.key + s.value) (YieldsList-at c.map.ensures.source (YieldsList-from_slice c.args.spans.now cc)) c.map.ensures.closure (λ x r q k. search (rules, tests)))
    ∙ sym (is_sum_by total (λ s. s.key + s.value) refl (λ _ _. refl) c.args.spans.now)
