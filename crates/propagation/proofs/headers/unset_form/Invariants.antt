use Rattle.std.proofs.Common.{◌≡◌, drop}
use Rattle.propagation.specs.Settings.{unset_all}
use Rattle.propagation.proofs.headers.unset_form.Given as goal

-- what unsetting the headers that are left leaves is what unsetting all leaves
abbrev pub invariant-loop-header : goal.invariant-loop-header
invariant-loop-header g l =
    unset_all g.C.Carrier.kind (drop l.header-index l.header-items) (g.C.Carrier.held l.carrier) ≡ unset_all g.C.Carrier.kind g.F.Form.names (g.C.Carrier.held l.fn.carrier)
