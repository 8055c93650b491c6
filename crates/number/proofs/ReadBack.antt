-- What is written is read back. Assumes nothing.
use Rattle.std.proofs.Common.{◌≡◌, ℕ, suc, ◌^◌, ◌<◌, ◌≤◌, Bool, false, List, length, drop, pos, negsuc, neg_ℤ, Some, None, refl, ap, ◌∙◌, arith}
use Rattle.std.proofs.lemmas.Int.{ints}
use Rattle.std.proofs.lemmas.Bool.{cond-true, cond-false, eq-eqb, le-leb}
use Rattle.std.specs.Option.{option_map}
use Rattle.byte_classes.specs.Sets.{digit, hex, any_hex}
use Rattle.number.specs.Numbers.{numeral, up_to, plus, after_plus, number64, small, mechanism, hex_number, tid, decimal_text, small_text, mechanism_text, hex_text}
use Rattle.number.specs.Laws.{DecimalsReadBack, SmallsReadBack, MechanismsReadBack, HexesReadBack, TidsReadBack}
use Rattle.number.proofs.Digits.{hex-any_hex}
use Rattle.number.proofs.Numerals.{Reads, numeral_from_reads, first_in_set}
use Rattle.number.proofs.DecimalText.{decimal-reads}
use Rattle.number.proofs.HexText.{length-hex_text, hex-reads}

-- an optional plus is not there
reads_with_no_plus : (members : ℕ → Bool) (base n : ℕ) (s : List ℕ) → members 43 ≡ false → Reads members base s n → numeral members base (after_plus s) ≡ Some n
reads_with_no_plus members base n s out r =
    ap (numeral members base) (cond-false (plus s) (drop 1 s) s (first_in_set members 43 out s r.some r.members)) ∙ numeral_from_reads members base s n r

pub decimals_read_back : DecimalsReadBack
unfolding digit number64
decimals_read_back n h = reads_with_no_plus digit 10 n (decimal_text n) refl (decimal-reads n h)

up_to-within : (limit n : ℕ) → n ≤ limit → up_to limit (Some n) ≡ Some n
up_to-within limit n h = cond-true _ (Some n) None (le-leb n limit h)

reads-after_minus : (limit n : ℕ) → n ≤ limit → n < 2 ^ 64 → up_to limit (numeral digit 10 (decimal_text n)) ≡ Some n
reads-after_minus limit n h fits = ap (up_to limit) (numeral_from_reads digit 10 (decimal_text n) n (decimal-reads n fits)) ∙ up_to-within limit n h

pub smalls_read_back : SmallsReadBack
unfolding digit small small_text
smalls_read_back (pos n) low high =
    let fits : n < 2 ^ 64 = omega (arith, ints) in
    let r = decimal-reads n fits in
    cond-false _ _ _ (first_in_set digit 45 refl (decimal_text n) r.some r.members)
    ∙ ap (λ o. option_map pos (up_to 127 o)) (decimals_read_back n fits)
    ∙ ap (option_map pos) (up_to-within 127 n (omega (arith, ints)))
smalls_read_back (negsuc n) low high = ap (option_map (λ k. neg_ℤ (pos k))) (reads-after_minus 128 (suc n) (omega (arith, ints)) (omega (arith, ints)))

pub mechanisms_read_back : MechanismsReadBack
unfolding mechanism mechanism_text
mechanisms_read_back m h = reads-after_minus 255 m (omega arith) (omega arith)

pub hexes_read_back : HexesReadBack
unfolding hex_number
hexes_read_back k n some small fits =
    cond-true _ _ _ (eq-eqb (length (hex_text k n)) k (length-hex_text k n)) ∙ numeral_from_reads hex 16 (hex_text k n) n (hex-reads hex (λ b h. h) k n some small fits)

pub tids_read_back : TidsReadBack
unfolding any_hex tid
tids_read_back n h =
    cond-true _ _ _ (eq-eqb (length (hex_text 16 n)) 16 (length-hex_text 16 n)) ∙ reads_with_no_plus any_hex 16 n (hex_text 16 n) refl (hex-reads any_hex hex-any_hex 16 n (omega arith) (omega arith) h)
