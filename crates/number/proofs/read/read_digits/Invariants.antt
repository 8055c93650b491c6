use Rattle.std.proofs.Common.{◌≡◌, ◌^◌, ◌<◌, drop}
use Rattle.number.proofs.Reading.{read_from}
use Rattle.number.proofs.read.read_digits.Given as goal

abbrev pub invariant-loop-b : goal.invariant-loop-b
invariant-loop-b g l = (read_from g.S.ByteTest.holds l.base l.n (drop l.b-index l.s) ≡ read_from g.S.ByteTest.holds l.base 0 l.s) × (l.n < 2 ^ 64)
