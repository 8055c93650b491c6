use Rattle.number.proofs.DecimalText.{decimal_form, small_form, mechanism_form}
use Rattle.number.proofs.HexText.{hex_form}
use Rattle.number.proofs.laws.written_forms.Goals as goal

pub returns : goal.returns
returns c = record { decimals = decimal_form; smalls = small_form; mechanisms = mechanism_form; hexes = hex_form }
