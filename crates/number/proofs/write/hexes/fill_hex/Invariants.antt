use Rattle.std.proofs.Common.{◌≡◌, ◌++◌, length, drop}
use Rattle.number.specs.Numbers.{hex_text}
use Rattle.number.proofs.write.hexes.fill_hex.Given as goal

abbrev pub invariant-loop-at : goal.invariant-loop-at
invariant-loop-at l = hex_text (length l.out) l.n ≡ hex_text l.at l.rest ++ drop l.at l.out
