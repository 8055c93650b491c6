-- What an opened block is, and what it leaves for a reading side. Assumes nothing.
use Rattle.std.specs.Prelude.{◌≡◌, ℕ, ◌≤◌, true, List, length, take}
use Rattle.std.specs.Borrow.{MutBor}
use Rattle.carrier.specs.Lents.{in_memory}
use Rattle.block.specs.Blocks.{Block, shown_in, own_block}
use Rattle.block.specs.Lines.{block_text, lines_of, well_formed}
use Rattle.block.specs.Parts.{owned_by}
use Rattle.block.specs.declared.writer.LineBlock.{LineBlock}

-- opening alters nothing: the memory is the one that was lent, and the lines are those of its first bytes, all of these
pub record Opened (m : MutBor (List ℕ)) (len : ℕ) (side : LineBlock) : Type 0 where
  pub holds : owned_by side ≡ in_memory m.ghost_name (own_block m.now len)
  pub bytes : side.memory.now ≡ m.now
  pub whole : block_text (owned_by side).own.lines ≡ take len m.now

-- the text that a writing side leaves: it opens, and a reading side has the same lines and shows the same
pub record LeftBy (h : Block) (s : List ℕ) : Type 0 where
  pub text : s ≡ block_text h.lines
  pub fits : length s ≤ h.memory
  pub opens : well_formed s ≡ true
  pub reads : lines_of s ≡ h.lines
  pub shows : (n : List ℕ) → shown_in (lines_of s) n ≡ shown_in h.lines n
