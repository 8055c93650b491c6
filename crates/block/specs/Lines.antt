-- Lines, the text that they make up, and the lines that any bytes begin with. Assumes nothing.
use Rattle.std.specs.Prelude.{ℕ, zero, suc, Bool, cond, ◌&&◌, List, [], ◌∷◌, ◌++◌, length, Some, None, Option, nat_le}
use Rattle.std.specs.List.{list_all, flat_map}
use Rattle.std.specs.Str.{bytes_eq}
use Rattle.text.specs.Splits.{split_once}
use Rattle.text.specs.Takes.{taken_char}
use Rattle.text.specs.Texts.{lawful}
use Rattle.carrier.specs.Names.{is_name}

-- a header: a name and its value
pub record Line : Type 0 where
  pub name : List ℕ
  pub value : List ℕ

-- the line of a name and a value
abbrev pub line : List ℕ → List ℕ → Line
line n v = record { name = n; value = v }

-- a line that a block can have
unfoldable pub lawful_line : Line → Bool
lawful_line l = is_name l.name && lawful l.value

-- lines that a block can have
abbrev pub all_lawful : List Line → Bool
all_lawful = list_all lawful_line

-- name, colon, one space, value, CR, LF
unfoldable pub line_text : Line → List ℕ
line_text l = l.name ++ (0x3A ∷ 0x20 ∷ (l.value ++ (0x0D ∷ 0x0A ∷ [])))

-- the lines one after the other
abbrev pub block_text : List Line → List ℕ
block_text = flat_map line_text

-- one taker after another: none as soon as one takes none
abbrev pub bind : {X Y : Type 0} → Option X → (X → Option Y) → Option Y
bind None f = None
bind (Some x) f = f x

-- the lawful line that the text begins with, and the rest
abbrev pub taken_line : List ℕ → Option (Line × List ℕ)
taken_line s =
    bind (split_once 0x3A s) (λ a. cond (is_name a.0)
    (bind (taken_char 0x20 a.1) (λ t. bind (split_once 0x0D t) (λ b. cond (lawful b.0)
    (bind (taken_char 0x0A b.1) (λ rest. Some (line a.0 b.0, rest))) None))) None)

-- a line that was taken, and those of the rest
abbrev pub first_then : Option (Line × List ℕ) → (List ℕ → List Line) → List Line
first_then None f = []
first_then (Some p) f = p.0 ∷ f p.1

-- the first n lines that the text begins with
abbrev pub lines_up_to : ℕ → List ℕ → List Line
lines_up_to zero s = []
lines_up_to (suc n) s = first_then (taken_line s) (lines_up_to n)

-- all lines that the text begins with: no more than it has bytes
unfoldable pub lines_of : List ℕ → List Line
lines_of s = lines_up_to (length s) s

-- a block: nothing is left after its lines, and it is not too long
unfoldable pub well_formed : List ℕ → Bool
well_formed s = bytes_eq (block_text (lines_of s)) s && nat_le (length s) 65536
