-- Lower-case hexadecimal text that reads as a number is the text that is written of it. Assumes nothing.
use Rattle.std.proofs.Common.{◌≡◌, ℕ, ◌^◌, ◌<◌, eqb, List, length, Some, None, Option, IfSome, sym}
use Rattle.std.proofs.lemmas.Bool.{eqb-true}
use Rattle.byte_classes.specs.Sets.{hex}
use Rattle.number.specs.Numbers.{numeral, hex_number, hex_text}
use Rattle.number.specs.Laws.{OnlyHexText}
use Rattle.number.proofs.HexText.{text_from_reads}
use Rattle.number.proofs.Numerals.{cond-some-parts, reads_from_numeral}

text_and_bound : (k n : ℕ) (s : List ℕ) → hex_number k s ≡ Some n → (s ≡ hex_text k n) × (n < 16 ^ k)
unfolding hex_number
text_and_bound k n s e = let p = cond-some-parts (eqb (length s) k) (numeral hex 16 s) n e in text_from_reads k n s (eqb-true (length s) k p.0) (reads_from_numeral hex 16 s n p.1)

pub only_hex_text : OnlyHexText
only_hex_text k n s e = (text_and_bound k n s e).0

pub hex_number-below : (k n : ℕ) (s : List ℕ) → hex_number k s ≡ Some n → n < 16 ^ k
hex_number-below k n s e = (text_and_bound k n s e).1

pub hex_number-bound : (k : ℕ) (s : List ℕ) (o : Option ℕ) → o ≡ hex_number k s → IfSome o (λ n. n < 16 ^ k)
hex_number-bound k s None e = tt
hex_number-bound k s (Some n) e = hex_number-below k n s (sym e)
