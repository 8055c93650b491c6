use Rattle.std.proofs.Common.{refl}
use Rattle.byte_classes.specs.Sets.{digit, hex}
use Rattle.number.specs.Numbers.{digit_value, glyph, hex_number, hex_text, numeral}
use Rattle.text.specs.Takes.{taken_hex}
use Rattle.traceparent.specs.Writes.{traceparent_text}
use Rattle.traceparent.proofs.laws.cases_hold.Goals as goal

pub returns : goal.returns
unfolding digit hex digit_value glyph hex_number hex_text numeral taken_hex traceparent_text
returns c =
    record {
      plain = refl;
      dash_added = refl;
      later_version = refl;
      all_flags = refl;
      flags_02 = refl;
      no_dash = refl;
      capital = refl;
      zero_first = refl;
      span_next = refl;
      version_ff = refl;
      written = refl;
    }
