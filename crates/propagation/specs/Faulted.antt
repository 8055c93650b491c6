-- A call's answer as it is reported. Assumes nothing.
use Rattle.std.specs.Prelude.{Ok, Err, Result}
use Rattle.fault.specs.declared.Cause.{Cause}
use Rattle.fault.specs.declared.Fault.{Fault}
use Rattle.fault.specs.declared.Operation.{Operation}
use Rattle.fault.specs.declared.Propagator.{Propagator}

-- the cause, with who refused and what was attempted
abbrev pub faulted : {A : Type 0} → Propagator → Operation → Result A Cause → Result A Fault
faulted who what (Ok a) = Ok a
faulted who what (Err c) = Err (record { cause = c; propagator = who; operation = what })
