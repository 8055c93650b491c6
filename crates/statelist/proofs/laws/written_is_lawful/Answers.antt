use Rattle.statelist.proofs.WrittenLaws.{written_lawful}
use Rattle.statelist.proofs.laws.written_is_lawful.Goals as goal

pub returns : goal.returns
returns c = written_lawful
