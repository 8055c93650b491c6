use Rattle.statelist.proofs.WrittenLaws.{own_read_back}
use Rattle.statelist.proofs.laws.own_is_read_back.Goals as goal

pub returns : goal.returns
returns c = own_read_back
