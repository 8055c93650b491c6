-- What the steps of a set and an unset leave. Assumes nothing.
use Rattle.std.specs.Prelude.{◌≡◌, ◌+◌, ◌≤◌, List, ◌++◌, length, take, ℕ}
use Rattle.block.specs.Lines.{block_text}
use Rattle.block.specs.Parts.{owned_by}
use Rattle.block.specs.declared.writer.LineBlock.{LineBlock}

-- a block of lines alone
pub record Whole (side : LineBlock) : Type 0 where
  pub text : take side.len side.memory.now ≡ block_text (owned_by side).own.lines
  pub within : side.len ≤ length side.memory.now

-- these bytes were added at the end of the block, in the same memory
pub record Pushed (old new : LineBlock) (bytes : List ℕ) : Type 0 where
  pub memory : new.memory.ghost_name ≡ old.memory.ghost_name
  pub long : length new.memory.now ≡ length old.memory.now
  pub text : take new.len new.memory.now ≡ take old.len old.memory.now ++ bytes
  pub end : new.len ≡ old.len + length bytes
