-- What is taken from the front of a text. Assumes nothing.
use Rattle.std.specs.Prelude.{ℕ, cond, ◌&&◌, List, [], ◌∷◌, length, take, drop, Some, None, Option, ◌==◌, nat_le}
use Rattle.std.specs.Borrow.{Bor}
use Rattle.std.specs.Str.{bytes_eq}
use Rattle.byte_classes.specs.Sets.{hex}
use Rattle.std.specs.List.{list_all}

-- what two parts of a text hold
abbrev pub both : Bor (List ℕ) × Bor (List ℕ) → List ℕ × List ℕ
both p = (p.0.now, p.1.now)

-- the rest, if the first byte is `c`
abbrev pub taken_char : ℕ → List ℕ → Option (List ℕ)
taken_char c [] = None
taken_char c (b ∷ bs) = cond (b == c) (Some bs) None

-- the first n bytes, if all are lower-case hexadecimal digits, and the rest
unfoldable pub taken_hex : ℕ → List ℕ → Option (List ℕ × List ℕ)
taken_hex n s = cond (nat_le n (length s) && list_all hex (take n s)) (Some (take n s, drop n s)) None

-- the rest, if the text begins with the prefix
unfoldable pub stripped : List ℕ → List ℕ → Option (List ℕ)
stripped prefix s = cond (nat_le (length prefix) (length s) && bytes_eq (take (length prefix) s) prefix) (Some (drop (length prefix) s)) None
