use Rattle.std.proofs.Common.{refl}
use Rattle.byte_classes.specs.Sets.{digit, hex, any_hex}
use Rattle.number.specs.Numbers.{digit_value, numeral, number64, small, mechanism, hex_number, tid}
use Rattle.number.proofs.laws.limits.Goals as goal

pub returns : goal.returns
unfolding digit hex any_hex digit_value numeral number64 small mechanism hex_number tid
returns c = (refl, refl, refl, refl, refl, refl, refl, refl, refl, refl, refl, refl, refl, refl, refl, refl, refl, refl, refl, refl, refl, refl, refl, refl, refl, refl, refl, refl)
