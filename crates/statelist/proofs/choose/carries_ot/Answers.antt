use Rattle.std.proofs.Common.{◌∙◌, rules, tests}
use Rattle.std.proofs.lemmas.Iterator.Consumers.{YieldsList-from_first}
use Rattle.std.proofs.lemmas.Iterator.Search.{any_from_yields_List}
use Rattle.statelist.specs.Written.{has_value}
use Rattle.statelist.proofs.Carries.{sought}
use Rattle.statelist.proofs.choose.carries_ot.Goals as goal
use Rattle.text.specs.Cursors.{left}
use Rattle.text.specs.Splits.{pieces}
use Rattle.text.specs.Trims.{trimmed}
use Rattle.tracestate.specs.Members.{member_of}

pub returns : goal.returns
returns c =
    let v = c.args.value.now in
    let ps = pieces 0x2C c.args.carried.now in
    any_from_yields_List (λ p. has_value v (member_of (trimmed p))) _ _ _ c.any.ensures.ran (YieldsList-from_first (λ x. x.now) left ps c.new.ensures) (λ x b q k. search (rules, tests)) ∙ sought v ps
