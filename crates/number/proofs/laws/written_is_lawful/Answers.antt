use Rattle.number.proofs.LawfulText.{decimals_lawful, smalls_lawful, mechanisms_lawful, hexes_lawful}
use Rattle.number.proofs.laws.written_is_lawful.Goals as goal

pub returns : goal.returns
returns c = record { decimals = decimals_lawful; smalls = smalls_lawful; mechanisms = mechanisms_lawful; hexes = hexes_lawful }
