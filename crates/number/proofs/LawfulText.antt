-- Written numbers are lawful text. Assumes nothing.
use Rattle.std.proofs.Common.{◌≡◌, ℕ, suc, ◌^◌, ◌<◌, ◌≤◌, Bool, true, leb, List, [], ◌∷◌, length, pos, negsuc, refl, arith}
use Rattle.std.proofs.lemmas.Int.{ints}
use Rattle.std.proofs.lemmas.Bool.{and_parts, and_from, le-leb}
use Rattle.std.proofs.lemmas.Bool.Decides.{nat_tests}
use Rattle.byte_classes.specs.Sets.{text, digit, hex}
use Rattle.std.specs.List.{list_all}
use Rattle.text.specs.Texts.{lawful}
use Rattle.number.specs.Laws.{DecimalsLawful, SmallsLawful, MechanismsLawful, HexesLawful}
use Rattle.number.specs.Numbers.{decimal_text, small_text, mechanism_text, hex_text}
use Rattle.number.proofs.DecimalText.{decimal_form, small_form, mechanism_form}
use Rattle.number.proofs.HexText.{hex_form}

digit-text : (b : ℕ) → digit b ≡ true → text b ≡ true
unfolding digit text
digit-text b h = grind (arith, nat_tests)

hex_text_lem : (b : ℕ) → hex b ≡ true → text b ≡ true
unfolding hex text
hex_text_lem b h = grind (arith, nat_tests)

-- bytes of a set within lawful text
all-text : (p : ℕ → Bool) → ((b : ℕ) → p b ≡ true → text b ≡ true) → (s : List ℕ) → list_all p s ≡ true → list_all text s ≡ true
all-text p in-text [] h = refl
all-text p in-text (b ∷ bs) h = let parts = and_parts (p b) (list_all p bs) h in and_from (text b) (list_all text bs) (in-text b parts.0) (all-text p in-text bs parts.1)

short-lawful : (s : List ℕ) → length s ≤ 16384 → list_all text s ≡ true → lawful s ≡ true
unfolding lawful
short-lawful s short h = and_from (leb (length s) 16384) (list_all text s) (le-leb (length s) 16384 short) h

digits-text : (n : ℕ) → n < 2 ^ 64 → list_all text (decimal_text n) ≡ true
digits-text n h = all-text digit digit-text (decimal_text n) (decimal_form n h).2

-- a minus in front is lawful too
minus-text : (n : ℕ) → n < 2 ^ 64 → list_all text (0x2D ∷ decimal_text n) ≡ true
unfolding text
minus-text n h = digits-text n h

pub decimals_lawful : DecimalsLawful
decimals_lawful n h = short-lawful (decimal_text n) (omega (arith, (decimal_form n h).1)) (digits-text n h)

pub smalls_lawful : SmallsLawful
unfolding small_text
smalls_lawful (pos n) low high = decimals_lawful n (omega (arith, ints))
smalls_lawful (negsuc n) low high = short-lawful (small_text (negsuc n)) (omega (arith, small_form (negsuc n) low high)) (minus-text (suc n) (omega (arith, ints)))

pub mechanisms_lawful : MechanismsLawful
unfolding mechanism_text
mechanisms_lawful m h = short-lawful (mechanism_text m) (omega (arith, mechanism_form m h)) (minus-text m (omega arith))

pub hexes_lawful : HexesLawful
hexes_lawful width n h = short-lawful (hex_text width n) (omega (arith, (hex_form width n).0)) (all-text hex hex_text_lem (hex_text width n) (hex_form width n).1)
