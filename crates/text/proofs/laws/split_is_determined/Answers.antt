use Rattle.text.proofs.Splitting.{split_found, split_parts, split_none, split_lacks}
use Rattle.text.proofs.laws.split_is_determined.Goals as goal

pub returns : goal.returns
returns c = record { found = split_found; parts = split_parts; none = split_none; lacks = split_lacks }
