use Rattle.std.proofs.Common.{ap, ◌∙◌}
use Rattle.traceparent.specs.Reads.{header_traceparent, read_traceparent}
use Rattle.traceparent.proofs.read.read_header.Goals as goal

pub returns : goal.returns
unfolding header_traceparent
returns c = c.extract_traceparent.ensures ∙ ap read_traceparent c.trim.ensures
