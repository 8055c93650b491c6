use Rattle.number.proofs.ReadBack.{decimals_read_back, smalls_read_back, mechanisms_read_back, hexes_read_back, tids_read_back}
use Rattle.number.proofs.laws.written_reads_back.Goals as goal

pub returns : goal.returns
returns c = record { decimals = decimals_read_back; smalls = smalls_read_back; mechanisms = mechanisms_read_back; hexes = hexes_read_back; tids = tids_read_back }
