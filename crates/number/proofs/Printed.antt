-- Decimal text is what std prints. Assumes nothing.
use Rattle.std.proofs.Common.{◌≡◌, ℤ, pos, negsuc, refl}
use Rattle.std.specs.Fmt.{signed_decimal}
use Rattle.number.specs.Laws.{AsPrinted}
use Rattle.number.specs.Numbers.{decimal_text, small_text}

pub small_printed : (z : ℤ) → small_text z ≡ signed_decimal z
unfolding small_text decimal_text
small_printed (pos n) = refl
small_printed (negsuc n) = refl

pub as_printed : AsPrinted
unfolding decimal_text
as_printed = record { decimals = λ n. refl; smalls = small_printed }
