-- How long a written traceparent and its parts are. Assumes nothing.
use Rattle.std.proofs.Common.{◌≡◌, Bool, true, false, length, refl, arith, length-append}
use Rattle.number.proofs.HexText.{length-hex_text}
use Rattle.traceparent.specs.Laws.{WrittenLength}
use Rattle.traceparent.specs.Writes.{flags_text, traceparent_text}

pub two_flags : (keep : Bool) → length (flags_text keep) ≡ 2
two_flags true = refl
two_flags false = refl

pub written_length : WrittenLength
unfolding traceparent_text
written_length id span keep =
    let h = length-hex_text 16 id.high in
    let l = length-hex_text 16 id.low in
    let s = length-hex_text 16 span in
    let f = two_flags keep in
    simp length-append (omega arith)
