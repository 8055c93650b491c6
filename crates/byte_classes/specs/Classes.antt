-- The mask of a byte, from the sets that it is in. Assumes nothing.
use Rattle.std.specs.Prelude.{ℕ, Bool}
use Rattle.byte_classes.specs.Sets.{text, blank, space, digit, hex, any_hex, name, letter_or_digit, tracestate_key, tracestate_value, tag_key_replaced, tag_value_replaced, datadog_key, datadog_value, equals, tilde}
use Rattle.byte_classes.specs.declared.class.Class.{Class}
use Rattle.byte_classes.specs.declared.class.Class.TheVariants.{Text, Blank, Space, Digit, Hex, AnyHex, Name, LetterOrDigit, TracestateKey, TracestateValue, TagKeyReplaced, TagValueReplaced, DatadogKey, DatadogValue, Equals, Tilde}

-- the set of a class
abbrev pub member : Class → ℕ → Bool
member Text b = text b
member Blank b = blank b
member Space b = space b
member Digit b = digit b
member Hex b = hex b
member AnyHex b = any_hex b
member Name b = name b
member LetterOrDigit b = letter_or_digit b
member TracestateKey b = tracestate_key b
member TracestateValue b = tracestate_value b
member TagKeyReplaced b = tag_key_replaced b
member TagValueReplaced b = tag_value_replaced b
member DatadogKey b = datadog_key b
member DatadogValue b = datadog_value b
member Equals b = equals b
member Tilde b = tilde b

-- the bit that stands for a class in a mask
abbrev pub bit : Class → ℕ
bit Text = 0x0001
bit Blank = 0x0002
bit Space = 0x0004
bit Digit = 0x0008
bit Hex = 0x0010
bit AnyHex = 0x0020
bit Name = 0x0040
bit LetterOrDigit = 0x0080
bit TracestateKey = 0x0100
bit TracestateValue = 0x0200
bit TagKeyReplaced = 0x0400
bit TagValueReplaced = 0x0800
bit DatadogKey = 0x1000
bit DatadogValue = 0x2000
bit Equals = 0x4000
bit Tilde = 0x8000
