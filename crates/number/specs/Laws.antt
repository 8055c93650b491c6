-- The laws of numbers as text, which the contracts of the module `laws` name. Assumes nothing.
use Rattle.std.specs.Prelude.{◌≡◌, ℕ, ◌-◌, ◌^◌, ◌<◌, ◌≤◌, true, List, length, ℤ, pos, negsuc, ◌≤ℤ◌, Some, None, codes, decimal, slice_index}
use Rattle.std.specs.Fmt.{signed_decimal}
use Rattle.byte_classes.specs.Sets.{digit, hex}
use Rattle.std.specs.List.{list_all}
use Rattle.text.specs.Texts.{lawful}
use Rattle.number.specs.Numbers.{number64, small, mechanism, hex_number, tid, decimal_text, small_text, mechanism_text, hex_text}

-- a number of 64 bits, written in decimal, reads as itself
abbrev pub DecimalsReadBack : Type 0
DecimalsReadBack = (n : ℕ) → n < 2 ^ 64 → number64 (decimal_text n) ≡ Some n

-- so does a number from -128 to 127
abbrev pub SmallsReadBack : Type 0
SmallsReadBack = (z : ℤ) → negsuc 127 ≤ℤ z → z ≤ℤ pos 127 → small (small_text z) ≡ Some z

-- so does a mechanism's number
abbrev pub MechanismsReadBack : Type 0
MechanismsReadBack = (m : ℕ) → m < 256 → mechanism (mechanism_text m) ≡ Some m

-- so does a number that fits its hexadecimal digits
abbrev pub HexesReadBack : Type 0
HexesReadBack = (width n : ℕ) → 0 < width → n < 16 ^ width → n < 2 ^ 64 → hex_number width (hex_text width n) ≡ Some n

-- 16 hexadecimal digits are a well-formed tid
abbrev pub TidsReadBack : Type 0
TidsReadBack = (n : ℕ) → n < 2 ^ 64 → tid (hex_text 16 n) ≡ Some n

-- a decimal text is what std prints, of a number with a sign too
pub record AsPrinted : Type 0 where
  pub decimals : (n : ℕ) → decimal_text n ≡ decimal n
  pub smalls : (z : ℤ) → small_text z ≡ signed_decimal z

-- a decimal text has 1 to 20 bytes, all of them digits, and a zero in front only where it is `0`
abbrev pub DecimalForm : Type 0
DecimalForm =
    (n : ℕ) → n < 2 ^ 64 →
    (0 < length (decimal_text n)) × (length (decimal_text n) ≤ 20) × (list_all digit (decimal_text n) ≡ true)
    × (slice_index (decimal_text n) 0 ≡ 0x30 → decimal_text n ≡ codes "0")

-- a number from -128 to 127 has at most 4 bytes
abbrev pub SmallForm : Type 0
SmallForm = (z : ℤ) → negsuc 127 ≤ℤ z → z ≤ℤ pos 127 → length (small_text z) ≤ 4

-- so has a mechanism
abbrev pub MechanismForm : Type 0
MechanismForm = (m : ℕ) → m < 256 → length (mechanism_text m) ≤ 4

-- a hexadecimal text has just the bytes asked for, all of them lower-case digits
abbrev pub HexForm : Type 0
HexForm = (width n : ℕ) → (length (hex_text width n) ≡ width) × (list_all hex (hex_text width n) ≡ true)

-- all of them are lawful text, so that a carrier can show them
abbrev pub DecimalsLawful : Type 0
DecimalsLawful = (n : ℕ) → n < 2 ^ 64 → lawful (decimal_text n) ≡ true

abbrev pub SmallsLawful : Type 0
SmallsLawful = (z : ℤ) → negsuc 127 ≤ℤ z → z ≤ℤ pos 127 → lawful (small_text z) ≡ true

abbrev pub MechanismsLawful : Type 0
MechanismsLawful = (m : ℕ) → m < 256 → lawful (mechanism_text m) ≡ true

abbrev pub HexesLawful : Type 0
HexesLawful = (width n : ℕ) → width ≤ 16384 → lawful (hex_text width n) ≡ true

-- lower-case text that reads as a number is the text that is written of it
abbrev pub OnlyHexText : Type 0
OnlyHexText = (width n : ℕ) (s : List ℕ) → hex_number width s ≡ Some n → s ≡ hex_text width n

-- what is read is a number of its type
pub record ReadsFit : Type 0 where
  pub number64 : (s : List ℕ) (n : ℕ) → number64 s ≡ Some n → n < 2 ^ 64
  pub hex : (width : ℕ) (s : List ℕ) (n : ℕ) → hex_number width s ≡ Some n → n < 2 ^ 64
  pub tid : (s : List ℕ) (n : ℕ) → tid s ≡ Some n → n < 2 ^ 64
  pub small : (s : List ℕ) (z : ℤ) → small s ≡ Some z → (negsuc 127 ≤ℤ z) × (z ≤ℤ pos 127)
  pub mechanism : (s : List ℕ) (m : ℕ) → mechanism s ≡ Some m → m < 256

-- what is read and what is refused, just at the limits
abbrev pub Limits : Type 0
Limits =
    (number64 (codes "18446744073709551615") ≡ Some (2 ^ 64 - 1))
    × (number64 (codes "18446744073709551616") ≡ None)
    × (number64 (codes "") ≡ None)
    × (number64 (codes "+") ≡ None)
    × (number64 (codes "+0") ≡ Some 0)
    × (number64 (codes "-0") ≡ None)
    × (number64 (codes "007") ≡ Some 7)
    × (small (codes "-128") ≡ Some (negsuc 127))
    × (small (codes "-129") ≡ None)
    × (small (codes "127") ≡ Some (pos 127))
    × (small (codes "128") ≡ None)
    × (small (codes "-0") ≡ Some (pos 0))
    × (small (codes "+5") ≡ Some (pos 5))
    × (small (codes "+-1") ≡ None)
    × (mechanism (codes "-0") ≡ Some 0)
    × (mechanism (codes "-255") ≡ Some 255)
    × (mechanism (codes "-256") ≡ None)
    × (mechanism (codes "3") ≡ None)
    × (hex_number 2 (codes "ff") ≡ Some 255)
    × (hex_number 2 (codes "FF") ≡ None)
    × (hex_number 0 (codes "") ≡ None)
    × (hex_number 17 (codes "0ffffffffffffffff") ≡ Some (2 ^ 64 - 1))
    × (hex_number 17 (codes "10000000000000000") ≡ None)
    × (tid (codes "+00000000000000a") ≡ Some 10)
    × (tid (codes "00000000000000FF") ≡ Some 255)
    × (tid (codes "ffffffffffffffff") ≡ Some (2 ^ 64 - 1))
    × (tid (codes "00000000000000f") ≡ None)
    × (tid (codes "-00000000000000a") ≡ None)
