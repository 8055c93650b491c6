use Rattle.number.proofs.Ranges.{reads_fit}
use Rattle.number.proofs.laws.read_fits.Goals as goal

pub returns : goal.returns
returns c = reads_fit
