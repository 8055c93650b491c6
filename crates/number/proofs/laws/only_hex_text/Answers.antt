use Rattle.number.proofs.OnlyText.{only_hex_text}
use Rattle.number.proofs.laws.only_hex_text.Goals as goal

pub returns : goal.returns
returns c = only_hex_text
