use Rattle.prefix.proofs.Piling.{piles_join}
use Rattle.prefix.proofs.laws.piles_join_prefixes.Goals as goal

pub returns : goal.returns
returns g c = piles_join g.C.Carrier.kind
