-- Numbers as text: what a text reads as, and how a number is written. Assumes nothing.
use Rattle.std.specs.Prelude.{ℕ, zero, suc, ◌+◌, ◌-◌, ◌*◌, ◌/◌, ◌%◌, ◌^◌, Bool, cond, ◌&&◌, List, [], ◌∷◌, ◌++◌, length, drop, ℤ, pos, negsuc, neg_ℤ, Some, None, codes, decimal, Option, ◌==◌, nat_le, nat_lt, slice_index}
use Rattle.std.specs.Option.{option_map}
use Rattle.std.specs.List.{list_all}
use Rattle.byte_classes.specs.Sets.{digit, hex, any_hex}
use Rattle.text.specs.Inlines.{text_of}
use Rattle.number.specs.declared.write.Decimal.{Decimal}

-- the value of a hexadecimal digit in either case, and 0 at any other byte
unfoldable pub digit_value : ℕ → ℕ
digit_value b = cond (digit b) (b - 0x30) (cond (hex b) (b - 0x61 + 10) (cond (any_hex b) (b - 0x41 + 10) 0))

-- the number that digits write in a base, after those of n
abbrev pub value_after : ℕ → ℕ → List ℕ → ℕ
value_after base n [] = n
value_after base n (b ∷ bs) = value_after base (n * base + digit_value b) bs

-- one digit or more, all in the set, that write a number below 2^64 in the base
unfoldable pub numeral : (ℕ → Bool) → ℕ → List ℕ → Option ℕ
numeral set base s = cond (nat_lt 0 (length s) && list_all set s && nat_lt (value_after base 0 s) (2 ^ 64)) (Some (value_after base 0 s)) None

-- the number, if it is at most the limit
abbrev pub up_to : ℕ → Option ℕ → Option ℕ
up_to limit None = None
up_to limit (Some n) = cond (nat_le n limit) (Some n) None

-- whether the text begins with a plus
abbrev pub plus : List ℕ → Bool
plus s = slice_index s 0 == 0x2B

-- whether the text begins with a minus
abbrev pub minus : List ℕ → Bool
minus s = slice_index s 0 == 0x2D

-- the text without a plus that it begins with
abbrev pub after_plus : List ℕ → List ℕ
after_plus s = cond (plus s) (drop 1 s) s

-- an optional plus and decimal digits, of a number below 2^64
unfoldable pub number64 : List ℕ → Option ℕ
number64 s = numeral digit 10 (after_plus s)

-- an optional sign and decimal digits, of a number from -128 to 127
unfoldable pub small : List ℕ → Option ℤ
small s = cond (minus s) (option_map (λ n. neg_ℤ (pos n)) (up_to 128 (numeral digit 10 (drop 1 s)))) (option_map pos (up_to 127 (number64 s)))

-- the number of a sampling mechanism: a minus, which is no sign, and decimal digits, of a number up to 255
unfoldable pub mechanism : List ℕ → Option ℕ
mechanism s = cond (minus s) (up_to 255 (numeral digit 10 (drop 1 s))) None

-- just so many lower-case hexadecimal digits, of a number below 2^64
unfoldable pub hex_number : ℕ → List ℕ → Option ℕ
hex_number width s = cond (length s == width) (numeral hex 16 s) None

-- the number of a well-formed tid: 16 bytes, an optional plus and hexadecimal digits in either case
unfoldable pub tid : List ℕ → Option ℕ
tid s = cond (length s == 16) (numeral any_hex 16 (after_plus s)) None

-- the decimal digits of a number, with no zero in front
unfoldable pub decimal_text : ℕ → List ℕ
decimal_text n = decimal n

-- the decimal digits, after a minus where the number is negative
unfoldable pub small_text : ℤ → List ℕ
small_text (pos n) = decimal_text n
small_text (negsuc n) = codes "-" ++ decimal_text (suc n)

-- a minus, which is no sign, and the decimal digits
unfoldable pub mechanism_text : ℕ → List ℕ
mechanism_text m = codes "-" ++ decimal_text m

-- the lower-case hexadecimal digit of a value below 16
unfoldable pub glyph : ℕ → ℕ
glyph d = cond (nat_lt d 10) (0x30 + d) (0x61 + (d - 10))

-- the last hexadecimal digits of n, as many as the width says
unfoldable pub hex_text : ℕ → ℕ → List ℕ
hex_text zero n = []
hex_text (suc width) n = hex_text width (n / 16) ++ (glyph (n % 16) ∷ [])

-- the text that a `Decimal` holds
abbrev pub decimal_bytes : Decimal → List ℕ
decimal_bytes d = text_of d.text
