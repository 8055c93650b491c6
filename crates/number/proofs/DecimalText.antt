-- Decimal text: what it reads as, and its form. Assumes nothing.
use Rattle.std.proofs.Common.{◌≡◌, ℕ, zero, suc, ◌+◌, ◌*◌, ◌^◌, ◌<◌, ◌≤◌, true, length, get_or, pos, negsuc, codes, refl, ap, arith, rules}
use Rattle.std.proofs.lemmas.Fmt.{decimal_digit, decimal_nonempty, digits_decimal, first_decimal, length-decimal-le, digits_value-decimal}
use Rattle.std.proofs.lemmas.Str.Parse.{IsNumeralModel, IsDigitsTest, FoldsDigits, numerals_by_fold}
use Rattle.std.proofs.lemmas.Int.{ints}
use Rattle.byte_classes.specs.Sets.{digit}
use Rattle.std.specs.List.{list_all}
use Rattle.number.specs.Numbers.{value_after, decimal_text, small_text, mechanism_text}
use Rattle.number.specs.Laws.{DecimalForm, SmallForm, MechanismForm}
use Rattle.number.proofs.Digits.{value-decimal_digit}
use Rattle.number.proofs.Numerals.{Reads}

all_tells_digits : IsDigitsTest (λ ds. list_all digit ds ≡ true)
unfolding digit
all_tells_digits = search rules

value_folds : FoldsDigits (value_after 10)
unfolding digit
value_folds = record { empty = λ n. refl; more = λ n c cs h. ap (λ d. value_after 10 (n * 10 + d) cs) (value-decimal_digit c (search rules)) }

pub decimal_numerals : IsNumeralModel (λ ds. list_all digit ds ≡ true) (value_after 10 0)
decimal_numerals = numerals_by_fold (λ ds. list_all digit ds ≡ true) all_tells_digits (value_after 10) value_folds

pub decimal-reads : (n : ℕ) → n < 2 ^ 64 → Reads digit 10 (decimal_text n) n
unfolding decimal_text
decimal-reads n h = record { some = decimal_nonempty n h; members = digits_decimal decimal_numerals n h; value = digits_value-decimal decimal_numerals n h; fits = h }

pub length-decimal_text_le : (k n : ℕ) → 0 < k → n < 10 ^ k → n < 2 ^ 64 → length (decimal_text n) ≤ k
unfolding decimal_text
length-decimal_text_le = length-decimal-le

zero_first : (n : ℕ) → n < 2 ^ 64 → get_or (decimal_text n) 0 0 ≡ 48 → decimal_text n ≡ codes "0"
unfolding decimal_text
zero_first zero h e = decimal_digit 0 (omega arith)
zero_first (suc n) h e = absurd (omega (arith, first_decimal (suc n) (omega arith) h))

pub decimal_form : DecimalForm
decimal_form n h =
    let r = decimal-reads n h in
    (r.some, length-decimal_text_le 20 n (omega arith) (omega arith) h, r.members, zero_first n h)

pub small_form : SmallForm
unfolding small_text
small_form (pos n) low high = let l = length-decimal_text_le 3 n (omega arith) (omega (arith, ints)) (omega (arith, ints)) in omega arith
small_form (negsuc n) low high = let l = length-decimal_text_le 3 (suc n) (omega arith) (omega (arith, ints)) (omega (arith, ints)) in omega arith

pub mechanism_form : MechanismForm
unfolding mechanism_text
mechanism_form m h = let l = length-decimal_text_le 3 m (omega arith) (omega arith) (omega arith) in omega arith
