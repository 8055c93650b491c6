use Rattle.text.proofs.Trimming.{trim_is, trim_only}
use Rattle.text.proofs.laws.trim_is_determined.Goals as goal

pub returns : goal.returns
returns c = record { is = trim_is; only = trim_only }
