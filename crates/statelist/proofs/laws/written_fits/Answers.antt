use Rattle.statelist.proofs.WrittenLaws.{written_fits}
use Rattle.statelist.proofs.laws.written_fits.Goals as goal

pub returns : goal.returns
returns c = written_fits
