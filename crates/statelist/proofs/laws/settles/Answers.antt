use Rattle.statelist.proofs.WrittenLaws.{settles}
use Rattle.statelist.proofs.laws.settles.Goals as goal

pub returns : goal.returns
returns c = settles
