use Rattle.statelist.proofs.WrittenLaws.{foreign_kept}
use Rattle.statelist.proofs.laws.foreign_is_kept.Goals as goal

pub returns : goal.returns
returns c = foreign_kept
