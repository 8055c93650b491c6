use Rattle.carrier.proofs.Rules.{keeps_the_rules}
use Rattle.carrier.proofs.laws.carriers_keep_the_rules.Goals as goal

pub returns : goal.returns
returns g c = keeps_the_rules g.C.Carrier.kind
