use Rattle.ddvalue.proofs.DdHeard.{heard_is, tags_are}
use Rattle.ddvalue.proofs.DdItems.{items_are}
use Rattle.ddvalue.proofs.laws.items_read_back.Goals as goal

pub returns : goal.returns
returns c = record { items_are = λ p o d ts h k. items_are p o d ts h k.1; heard_is = heard_is; tags_are = tags_are }
