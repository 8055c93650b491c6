-- One digit: its value, and the byte that writes it. Assumes nothing.
use Rattle.std.proofs.Common.{◌≡◌, ℕ, ◌-◌, ◌<◌, true, arith}
use Rattle.std.proofs.lemmas.Bool.Decides.{nat_tests}
use Rattle.byte_classes.specs.Sets.{digit, hex, any_hex}
use Rattle.number.specs.Numbers.{digit_value, glyph}

pub value-small : (b : ℕ) → digit_value b < 16
unfolding digit hex any_hex digit_value
value-small b = grind (arith, nat_tests)

pub value-decimal_digit : (b : ℕ) → digit b ≡ true → digit_value b ≡ b - 48
unfolding digit hex any_hex digit_value
value-decimal_digit b t = grind (arith, nat_tests)

pub value-glyph : (d : ℕ) → d < 16 → digit_value (glyph d) ≡ d
unfolding digit hex any_hex digit_value glyph
value-glyph d h = grind (arith, nat_tests)

pub glyph-value : (b : ℕ) → hex b ≡ true → glyph (digit_value b) ≡ b
unfolding digit hex any_hex digit_value glyph
glyph-value b t = grind (arith, nat_tests)

pub glyph-hex : (d : ℕ) → d < 16 → hex (glyph d) ≡ true
unfolding digit hex any_hex digit_value glyph
glyph-hex d h = grind (arith, nat_tests)

pub hex-any_hex : (b : ℕ) → hex b ≡ true → any_hex b ≡ true
unfolding hex any_hex
hex-any_hex b t = grind (arith, nat_tests)
