-- A priority as it is written: clean, short, and read back. Assumes nothing.
use Rattle.std.proofs.Common.{◌≡◌, ℕ, suc, ◌^◌, ◌<◌, ◌≤◌, Bool, true, not, ◌||◌, T, eqb, List, [], ◌∷◌, reverse, length, ℤ, pos, negsuc, ◌≤ℤ◌, Some, None, Option, unwrap_or, sym, refl, ap, ◌∙◌, subst, arith}
use lib.Signed.{le_z, le_z_yes}
use Rattle.std.proofs.lemmas.Int.{ints}
use Rattle.std.proofs.lemmas.Bool.{and_parts, or_left}
use Rattle.std.proofs.lemmas.Bool.Decides.{nat_tests}
use Rattle.byte_classes.specs.Sets.{space, digit, hex, tracestate_value, tilde}
use Rattle.text.proofs.Alls.{all-reverse}
use Rattle.text.specs.Laws.{bare}
use Rattle.std.specs.List.{list_all}
use Rattle.text.specs.Texts.{replaced}
use Rattle.number.proofs.DecimalText.{decimal_form, small_form}
use Rattle.number.proofs.ReadBack.{smalls_read_back}
use Rattle.number.specs.Numbers.{small, small_text, decimal_text}
use Rattle.context.specs.Ranges.{priority_fits}
use Rattle.w3c_extract.specs.Reads.{decoded}
use Rattle.ddvalue.proofs.CleanBytes.{clean_value, Clean, all_weaker, read_plain, hex-value, hex_solid}

at_most : (a b : ℤ) → le_z a b ≡ true → a ≤ℤ b
at_most a b e = le_z_yes (subst T (sym e) tt)

in_range : (z : ℤ) → priority_fits (Some z) ≡ true → (negsuc 127 ≤ℤ z) × (z ≤ℤ pos 127)
in_range z h = let parts = and_parts (le_z (negsuc 127) z) (le_z z (pos 127)) h in (at_most (negsuc 127) z parts.0, at_most z (pos 127) parts.1)

-- the priority that is written
pub said_fits : (p : Option ℤ) → priority_fits p ≡ true → priority_fits (Some (unwrap_or p (pos 2))) ≡ true
said_fits None h = refl
said_fits (Some z) h = h

abbrev signed : ℕ → Bool
signed b = digit b || eqb b 0x2D

after_minus : (s : List ℕ) → list_all signed s ≡ true → list_all signed (0x2D ∷ s) ≡ true
unfolding digit
after_minus s h = h

signed-digits : (n : ℕ) → n < 2 ^ 64 → list_all signed (decimal_text n) ≡ true
signed-digits n h = all_weaker digit signed (λ b k. or_left (digit b) (eqb b 0x2D) k) (decimal_text n) (decimal_form n h).2

signed-bytes : (z : ℤ) → negsuc 127 ≤ℤ z → z ≤ℤ pos 127 → list_all signed (small_text z) ≡ true
unfolding small_text
signed-bytes (pos n) low high = signed-digits n (omega (arith, ints))
signed-bytes (negsuc n) low high = after_minus (decimal_text (suc n)) (signed-digits (suc n) (omega (arith, ints)))

signed-value : (b : ℕ) → signed b ≡ true → clean_value b ≡ true
unfolding digit tracestate_value
signed-value b h = grind (arith, nat_tests)

signed_solid : (b : ℕ) → signed b ≡ true → not (space b) ≡ true
unfolding digit space
signed_solid b h = grind (arith, nat_tests)

signed-plain : (b : ℕ) → signed b ≡ true → replaced tilde 0x3D b ≡ b
unfolding digit tilde
signed-plain b h = grind (arith, nat_tests)

-- what has no byte of a set does not begin with one
pub solid_bare : (p : ℕ → Bool) (s : List ℕ) → list_all (λ b. not (p b)) s ≡ true → bare p s ≡ true
solid_bare p [] h = refl
solid_bare p (b ∷ bs) h = (and_parts (not (p b)) (list_all (λ b. not (p b)) bs) h).0

pub clean_from : (p : ℕ → Bool) → ((b : ℕ) → p b ≡ true → clean_value b ≡ true) → ((b : ℕ) → p b ≡ true → not (space b) ≡ true) → (s : List ℕ) → list_all p s ≡ true → Clean s
clean_from p value solid s h =
    record { bytes = all_weaker p clean_value value s h; end = solid_bare space (reverse s) (all-reverse (λ b. not (space b)) s (all_weaker p (λ b. not (space b)) solid s h)) }

module _ (z : ℤ) (h : priority_fits (Some z) ≡ true) where
  pub clean_priority : Clean (small_text z)
  clean_priority = let r = in_range z h in clean_from signed signed-value signed_solid (small_text z) (signed-bytes z r.0 r.1)

  pub short-priority : length (small_text z) ≤ 4
  short-priority = let r = in_range z h in small_form z r.0 r.1

  pub read-priority : small (decoded (small_text z)) ≡ Some z
  read-priority = let r = in_range z h in ap small (read_plain signed signed-plain (small_text z) (signed-bytes z r.0 r.1)) ∙ smalls_read_back z r.0 r.1

pub clean_digits : (d : List ℕ) → list_all hex d ≡ true → Clean d
clean_digits d h = clean_from hex hex-value hex_solid d h
