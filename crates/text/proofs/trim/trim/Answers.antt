use Rattle.std.proofs.Common.{ap, ◌∙◌}
use Rattle.byte_classes.specs.Sets.{blank}
use Rattle.text.specs.Trims.{without_back, trimmed}
use Rattle.text.proofs.trim.trim.Goals as goal

pub returns : goal.returns
unfolding trimmed
returns c = c.trim_end.ensures ∙ ap (without_back blank) c.trim_start.ensures
