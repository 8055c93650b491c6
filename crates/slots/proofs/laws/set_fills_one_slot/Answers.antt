use Rattle.slots.proofs.Filling.{set_fills_one}
use Rattle.slots.proofs.laws.set_fills_one_slot.Goals as goal

pub returns : goal.returns
returns c = set_fills_one
