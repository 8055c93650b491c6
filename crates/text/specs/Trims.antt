-- A text without the bytes of a set at its ends. Assumes nothing.
use Rattle.std.specs.Prelude.{ℕ, ◌-◌, Bool, List, length, take, drop}
use Rattle.std.specs.List.{prefix_len, suffix_len}
use Rattle.byte_classes.specs.Sets.{blank}

-- without the longest front of bytes that pass
unfoldable pub without_front : (ℕ → Bool) → List ℕ → List ℕ
without_front p s = drop (prefix_len p s) s

-- without the longest end of bytes that pass
unfoldable pub without_back : (ℕ → Bool) → List ℕ → List ℕ
without_back p s = take (length s - suffix_len p s) s

-- without blanks at both ends
unfoldable pub trimmed : List ℕ → List ℕ
trimmed s = without_back blank (without_front blank s)
