-- What a block of lines shows, takes and leaves. Assumes nothing.
use Rattle.std.specs.Prelude.{ℕ, ◌+◌, min, Bool, cond, not, ◌&&◌, List, [], ◌∷◌, ◌++◌, length, take, Some, None, Option, nat_le, filter}
use Rattle.std.specs.List.{list_any}
use Rattle.std.specs.Str.{bytes_eq}
use Rattle.carrier.specs.Names.{is_name}
use Rattle.block.specs.Lines.{Line, line, lawful_line, block_text, lines_of, well_formed}

-- the lines, and how many bytes of memory there are for them
pub record Block : Type 0 where
  pub memory : ℕ
  pub lines : List Line

-- the block of these lines, with memory for m bytes
abbrev pub block : ℕ → List Line → Block
block m ls = record { memory = m; lines = ls }

-- the value of the first lawful line of the name
abbrev pub shown_in : List Line → List ℕ → Option (List ℕ)
shown_in [] n = None
shown_in (l ∷ ls) n = cond (lawful_line l && bytes_eq l.name n) (Some l.value) (shown_in ls n)

-- the lines of other names
abbrev pub without : List ℕ → List Line → List Line
without n = filter (λ l. not (bytes_eq l.name n))

-- a line is as long as its name, its value and four bytes more; the lines stay within the memory and 65,536 bytes
abbrev pub room_in : Block → List ℕ → ℕ → Bool
room_in h n len = is_name n && (nat_le len 16384 && nat_le (length (block_text (without n h.lines)) + (length n + len + 4)) (min h.memory 65536))

-- the lines of the name go, and one is added at the end
abbrev pub put_in : Block → List ℕ → List ℕ → Block
put_in h n v = block h.memory (without n h.lines ++ line n v ∷ [])

-- the lines of the name go
abbrev pub cut_in : Block → List ℕ → Block
cut_in h n = block h.memory (without n h.lines)

-- whether a line has the name
abbrev pub named : List ℕ → List Line → Bool
named n = list_any (λ l. bytes_eq l.name n)

-- the names of the lines that no line before has
abbrev pub new_names : List Line → List Line → List (List ℕ)
new_names before [] = []
new_names before (l ∷ ls) = cond (named l.name before) (new_names (before ++ l ∷ []) ls) (l.name ∷ new_names (before ++ l ∷ []) ls)

-- the names in the order of their first lines
abbrev pub names : List Line → List (List ℕ)
names ls = new_names [] ls

-- what a reading side holds: the lines of its bytes
abbrev pub read_block : List ℕ → Block
read_block s = block (length s) (lines_of s)

-- what a writing side holds: the lines at the front of its memory, in the bytes that count
abbrev pub own_block : List ℕ → ℕ → Block
own_block m len = block (length m) (lines_of (take (min len 65536) m))

-- whether the first bytes of a memory are a block
abbrev pub opens : List ℕ → ℕ → Bool
opens m len = nat_le len (length m) && well_formed (take len m)
