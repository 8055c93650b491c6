use Rattle.prefix.proofs.Others.{leaves_others}
use Rattle.prefix.proofs.laws.layers_leave_other_names.Goals as goal

pub returns : goal.returns
returns g c = leaves_others g.C.Carrier.kind
