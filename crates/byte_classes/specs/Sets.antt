-- The sets of bytes that the rules name. Assumes nothing.
use Rattle.std.specs.Prelude.{ℕ, Bool, false, not, ◌&&◌, ◌||◌, List, [], ◌∷◌, codes, ◌==◌, nat_le}

abbrev pub within : ℕ → ℕ → ℕ → Bool
within first last b = nat_le first b && nat_le b last

abbrev pub among : List ℕ → ℕ → Bool
among [] b = false
among (x ∷ xs) b = b == x || among xs b

-- space to `~`
abbrev pub printable : ℕ → Bool
printable b = within 0x20 0x7E b

-- `!` to `~`
abbrev pub visible : ℕ → Bool
visible b = within 0x21 0x7E b

-- a byte of lawful text
unfoldable pub text : ℕ → Bool
text b = b == 0x09 || printable b

unfoldable pub blank : ℕ → Bool
blank b = b == 0x09 || b == 0x20

unfoldable pub space : ℕ → Bool
space b = b == 0x20

-- 0 to 9
unfoldable pub digit : ℕ → Bool
digit b = within 0x30 0x39 b

-- 0 to 9, a to f
unfoldable pub hex : ℕ → Bool
hex b = within 0x30 0x39 b || within 0x61 0x66 b

-- 0 to 9, a to f, A to F
unfoldable pub any_hex : ℕ → Bool
any_hex b = within 0x30 0x39 b || within 0x61 0x66 b || within 0x41 0x46 b

-- a byte of a header name
unfoldable pub name : ℕ → Bool
name b = visible b && not (among (codes ":") b)

-- a to z, 0 to 9
unfoldable pub letter_or_digit : ℕ → Bool
letter_or_digit b = within 0x61 0x7A b || within 0x30 0x39 b

-- a byte of a simple tracestate key, or of a part of a two-part one
unfoldable pub tracestate_key : ℕ → Bool
tracestate_key b = within 0x61 0x7A b || within 0x30 0x39 b || among (codes "_-*/") b

unfoldable pub tracestate_value : ℕ → Bool
tracestate_value b = printable b && not (among (codes ",=") b)

-- what the dd member cannot have in a tag's key
unfoldable pub tag_key_replaced : ℕ → Bool
tag_key_replaced b = not (visible b) || among (codes ",=:;") b

-- what the dd member cannot have in a tag's value or an origin; `=` is written as `~` afterwards
unfoldable pub tag_value_replaced : ℕ → Bool
tag_value_replaced b = not (printable b) || among (codes ",;~") b

-- what the Datadog tags header can have in a key, after its prefix
unfoldable pub datadog_key : ℕ → Bool
datadog_key b = visible b && not (among (codes ",=") b)

unfoldable pub datadog_value : ℕ → Bool
datadog_value b = printable b && not (among (codes ",") b)

unfoldable pub equals : ℕ → Bool
equals b = among (codes "=") b

unfoldable pub tilde : ℕ → Bool
tilde b = among (codes "~") b
