-- A text that is put together piece by piece in a buffer. Assumes nothing.
use Rattle.std.specs.Prelude.{ℕ, ◌+◌, ◌-◌, List, ◌++◌, length, take, drop}

-- what of the piece has room from that place on
abbrev pub fitting : List ℕ → ℕ → List ℕ → List ℕ
fitting buf at piece = take (length buf - at) piece

-- the buffer with the piece at that place
abbrev pub placed : List ℕ → ℕ → List ℕ → List ℕ
placed buf at piece = take at buf ++ (piece ++ drop (at + length piece) buf)
