-- What a text is made of. Assumes nothing.
use Rattle.std.specs.Prelude.{ℕ, Bool, cond, ◌&&◌, List, length, nat_le}
use Rattle.std.specs.List.{list_all}
use Rattle.byte_classes.specs.Sets.{text}

-- up to 16,384 bytes, each a tab or printable
unfoldable pub lawful : List ℕ → Bool
lawful s = nat_le (length s) 16384 && list_all text s

-- a byte that passes the test becomes `by`
abbrev pub replaced : (ℕ → Bool) → ℕ → ℕ → ℕ
replaced p by b = cond (p b) by b
