-- What is read is a number that its type holds. Assumes nothing.
use Rattle.std.proofs.Common.{◌≡◌, ℕ, zero, suc, ◌^◌, ◌<◌, ◌≤◌, Bool, true, false, cond, eqb, leb, List, length, drop, ℤ, pos, negsuc, neg_ℤ, ◌≤ℤ◌, Some, None, Option, refl, subst, arith, le→leb}
use lib.Signed.{le_z_yes}
use Rattle.std.proofs.lemmas.Bool.{leb-true}
use Rattle.std.specs.Option.{option_map}
use Rattle.byte_classes.specs.Sets.{digit, hex, any_hex}
use Rattle.number.specs.Laws.{ReadsFit}
use Rattle.number.specs.Numbers.{after_plus, hex_number, mechanism, minus, number64, numeral, small, tid, up_to}
use Rattle.number.proofs.Numerals.{cond-some-parts, reads_from_numeral}

pub number64-fits : (s : List ℕ) (n : ℕ) → number64 s ≡ Some n → n < 2 ^ 64
unfolding number64
number64-fits s n e = (reads_from_numeral digit 10 (after_plus s) n e).fits

pub hex-fits : (width : ℕ) (s : List ℕ) (n : ℕ) → hex_number width s ≡ Some n → n < 2 ^ 64
unfolding hex_number
hex-fits width s n e = (reads_from_numeral hex 16 s n (cond-some-parts (eqb (length s) width) (numeral hex 16 s) n e).1).fits

pub tid-fits : (s : List ℕ) (n : ℕ) → tid s ≡ Some n → n < 2 ^ 64
unfolding tid
tid-fits s n e = (reads_from_numeral any_hex 16 (after_plus s) n (cond-some-parts (eqb (length s) 16) (numeral any_hex 16 (after_plus s)) n e).1).fits

-- a number up to a limit is
up_to_most : (limit : ℕ) (o : Option ℕ) (n : ℕ) → up_to limit o ≡ Some n → n ≤ limit
up_to_most limit None n e = let z : ◌≡◌ {A = ℕ} 0 1 = cc in absurd (omega arith)
up_to_most limit (Some m) n e =
    let parts = cond-some-parts (leb m limit) (Some m) n e in
    let same : m ≡ n = let q = parts.1 in cc in
    let h = leb-true m limit parts.0 in
    omega arith

abbrev Small : ℤ → Type 0
Small z = (negsuc 127 ≤ℤ z) × (z ≤ℤ pos 127)

negative_fits : (n : ℕ) → n ≤ 128 → Small (neg_ℤ (pos n))
negative_fits zero h = (le_z_yes tt, le_z_yes tt)
negative_fits (suc m) h = (le_z_yes (le→leb m 127 (omega arith)), le_z_yes tt)

positive_fits : (n : ℕ) → n ≤ 127 → Small (pos n)
positive_fits n h = (le_z_yes tt, le_z_yes (le→leb n 127 h))

pub small-fits : (s : List ℕ) (z : ℤ) → small s ≡ Some z → Small z
unfolding small
small-fits s z = by (minus s) (up_to 128 (numeral digit 10 (drop 1 s))) refl (up_to 127 (number64 s)) refl where
  by : (b : Bool) (o : Option ℕ) → up_to 128 (numeral digit 10 (drop 1 s)) ≡ o → (p : Option ℕ) → up_to 127 (number64 s) ≡ p → cond b (option_map (λ n. neg_ℤ (pos n)) o) (option_map pos p) ≡ Some z → Small z
  by true None eo p ep e = let y : ◌≡◌ {A = ℕ} 0 1 = cc in absurd (omega arith)
  by true (Some n) eo p ep e = let is : neg_ℤ (pos n) ≡ z = cc in subst Small is (negative_fits n (up_to_most 128 (numeral digit 10 (drop 1 s)) n eo))
  by false o eo None ep e = let y : ◌≡◌ {A = ℕ} 0 1 = cc in absurd (omega arith)
  by false o eo (Some n) ep e = let is : pos n ≡ z = cc in subst Small is (positive_fits n (up_to_most 127 (number64 s) n ep))

pub mechanism_fits : (s : List ℕ) (m : ℕ) → mechanism s ≡ Some m → m < 256
unfolding mechanism
mechanism_fits s m e =
    let most = up_to_most 255 (numeral digit 10 (drop 1 s)) m (cond-some-parts (minus s) (up_to 255 (numeral digit 10 (drop 1 s))) m e).1 in
    omega arith

pub reads_fit : ReadsFit
reads_fit = record { number64 = number64-fits; hex = hex-fits; tid = tid-fits; small = small-fits; mechanism = mechanism_fits }
