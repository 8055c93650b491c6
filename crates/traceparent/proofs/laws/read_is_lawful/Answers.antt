use Rattle.traceparent.proofs.Telling.{read_tells}
use Rattle.traceparent.proofs.laws.read_is_lawful.Goals as goal

pub returns : goal.returns
returns c = read_tells
