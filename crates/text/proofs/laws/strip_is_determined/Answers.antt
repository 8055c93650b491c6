use Rattle.text.proofs.Prefixes.{strip_is, strip_only}
use Rattle.text.proofs.laws.strip_is_determined.Goals as goal

pub returns : goal.returns
returns c = record { is = strip_is; only = strip_only }
