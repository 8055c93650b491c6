-- What lines and blocks are, without saying how they are found. Assumes nothing.
use Rattle.std.specs.Prelude.{◌≡◌, ℕ, ◌≤◌, true, List, ◌++◌, length, Some, None}
use Rattle.block.specs.Lines.{Line, all_lawful, line_text, lawful_line, block_text, taken_line, lines_of, well_formed}
use Rattle.block.specs.Machine.{run, start, accepts}

-- a text that begins with the line
pub record Begins (s : List ℕ) (l : Line) (rest : List ℕ) : Type 0 where
  pub whole : s ≡ line_text l ++ rest
  pub is_lawful : lawful_line l ≡ true

-- a line is taken exactly where a lawful one stands
abbrev pub LineIs : Type 0
LineIs = (s : List ℕ) (l : Line) (rest : List ℕ) → taken_line s ≡ Some (l, rest) → Begins s l rest

abbrev pub LineOnly : Type 0
LineOnly = (s : List ℕ) (l : Line) (rest : List ℕ) → Begins s l rest → taken_line s ≡ Some (l, rest)

-- a text that begins with the lines, and with no line after them
pub record Front (s : List ℕ) (ls : List Line) : Type 0 where
  pub rest : List ℕ
  pub whole : s ≡ block_text ls ++ rest
  pub are_lawful : all_lawful ls ≡ true
  pub no_more : taken_line rest ≡ None

-- every text has one such front, and these are its lines
abbrev pub LinesAre : Type 0
LinesAre = (s : List ℕ) → Front s (lines_of s)

abbrev pub LinesOnly : Type 0
LinesOnly = (s : List ℕ) (ls : List Line) → Front s ls → lines_of s ≡ ls

-- the text of a block
pub record BlockOf (ls : List Line) (s : List ℕ) : Type 0 where
  pub whole : s ≡ block_text ls
  pub are_lawful : all_lawful ls ≡ true
  pub small : length s ≤ 65536

-- a text is well formed exactly if lawful lines make it up, and these are its lines
abbrev pub WellFormedIs : Type 0
WellFormedIs = (s : List ℕ) → well_formed s ≡ true → BlockOf (lines_of s) s

abbrev pub WellFormedOnly : Type 0
WellFormedOnly = (s : List ℕ) (ls : List Line) → BlockOf ls s → (well_formed s ≡ true) × (lines_of s ≡ ls)

-- the machine accepts exactly the blocks
abbrev pub MachineAccepts : Type 0
MachineAccepts = (s : List ℕ) → length s ≤ 65536 → accepts (run start s) ≡ well_formed s
