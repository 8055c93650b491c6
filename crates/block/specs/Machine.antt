-- The machine that checks a block: its steps, and its run over a text. Assumes nothing.
use Rattle.std.specs.Prelude.{ℕ, ◌+◌, Bool, false, cond, ◌&&◌, List, [], ◌∷◌, Some, None, Option, ◌==◌, nat_lt}
use Rattle.byte_classes.specs.Sets.{text, name}
use Rattle.block.specs.Lines.{bind}
use Rattle.block.specs.declared.machine.State.{State}
use Rattle.block.specs.declared.machine.State.TheVariants.{Name, Blank, Value, LineEnd}

-- the next state, or none where the byte has no row in the table of docs/CARRIERS.md
abbrev pub step : State → ℕ → Option State
step (Name n) b = cond (name b && nat_lt n 64) (Some (Name (n + 1))) (cond (b == 0x3A && nat_lt 0 n) (Some Blank) None)
step Blank b = cond (b == 0x20) (Some (Value 0)) None
step (Value n) b = cond (text b && nat_lt n 16384) (Some (Value (n + 1))) (cond (b == 0x0D) (Some LineEnd) None)
step LineEnd b = cond (b == 0x0A) (Some (Name 0)) None

-- a step at each byte until the end
abbrev pub run : State → List ℕ → Option State
run q [] = Some q
run q (b ∷ bs) = bind (step q b) (λ next. run next bs)

-- a block begins where a line begins
abbrev pub start : State
start = Name 0

-- and may end only there
abbrev pub at_start : State → Bool
at_start (Name n) = n == 0
at_start Blank = false
at_start (Value n) = false
at_start LineEnd = false

-- every byte had its row, and the run ended where a line begins
abbrev pub accepts : Option State → Bool
accepts None = false
accepts (Some q) = at_start q
