use Rattle.traceparent.proofs.Shapes.{shape_is, shape_only}
use Rattle.traceparent.proofs.laws.shape_is_determined.Goals as goal

pub returns : goal.returns
returns c = record { is = shape_is; only = shape_only }
