-- One member of a tracestate list. Assumes nothing.
use Rattle.std.specs.Prelude.{ℕ, ◌-◌, Bool, cond, not, ◌&&◌, List, [], ◌∷◌, length, Some, None, Option, nat_le, nat_lt, slice_index}
use Rattle.std.specs.Str.{bytes_eq}
use Rattle.byte_classes.specs.Sets.{letter_or_digit, space, tracestate_key, tracestate_value}
use Rattle.text.specs.Splits.{split_once}
use Rattle.std.specs.List.{list_all}
use Rattle.tracestate.specs.declared.member.Member.{Member}

-- 1 to so many key bytes, the first a letter or digit
unfoldable pub is_part : ℕ → List ℕ → Bool
is_part most s = (nat_lt 0 (length s) && nat_le (length s) most) && (letter_or_digit (slice_index s 0) && list_all tracestate_key s)

-- by whether there is an `@`: two parts of up to 241 and 14 bytes, or one of up to 256
abbrev pub key_by : List ℕ → Option (List ℕ × List ℕ) → Bool
key_by s None = is_part 256 s
key_by s (Some parts) = is_part 241 parts.0 && is_part 14 parts.1

unfoldable pub is_key : List ℕ → Bool
is_key s = key_by s (split_once 0x40 s)

-- 1 to 256 value bytes, the last not a space
unfoldable pub is_value : List ℕ → Bool
is_value s = (nat_lt 0 (length s) && nat_le (length s) 256) && (not (space (slice_index s (length s - 1))) && list_all tracestate_value s)

pub record Pair : Type 0 where
  pub key : List ℕ
  pub value : List ℕ

abbrev pub pair : List ℕ × List ℕ → Pair
pair parts = record { key = parts.0; value = parts.1 }

-- the newer of two values, if there is one
abbrev pub newer : Option (List ℕ) → Option (List ℕ) → Option (List ℕ)
newer None old = old
newer (Some v) old = Some v

abbrev pub value_at : List ℕ → Pair → Option (List ℕ)
value_at key p = cond (bytes_eq p.key key) (Some p.value) None

-- the last value of a key
abbrev pub last_value : List ℕ → List Pair → Option (List ℕ)
last_value key [] = None
last_value key (p ∷ ps) = newer (last_value key ps) (value_at key p)

-- the member that two parts make, if both are lawful
abbrev pub lawful_member : Option (List ℕ × List ℕ) → Option Pair
lawful_member None = None
lawful_member (Some parts) = cond (is_key parts.0 && is_value parts.1) (Some (pair parts)) None

-- a piece splits at its first `=`
unfoldable pub member_of : List ℕ → Option Pair
member_of piece = lawful_member (split_once 0x3D piece)

abbrev pub said : Member → Pair
said m = record { key = m.key.now; value = m.value.now }
