use Rattle.text.proofs.Joins.{pieces_join, pieces_only}
use Rattle.text.proofs.laws.pieces_are_determined.Goals as goal

pub returns : goal.returns
returns c = record { join = pieces_join; only = pieces_only }
