-- A list that is written member by member. Assumes nothing.
use Rattle.std.specs.Prelude.{◌≡◌, ℕ, ◌<◌, List, length, take, Some, None, Option}
use Rattle.statelist.specs.declared.writer.ListWriter.{ListWriter}

-- the text that is written so far
abbrev pub so_far : ListWriter → List ℕ
so_far w = take w.len w.work.now

-- the list is that text now; none if it is longer than the work bytes
abbrev pub Added : List ℕ → ListWriter → Option (Unit {0}) → Type 0
Added text w None = length w.work.now < length text
Added text w (Some _) = so_far w ≡ text
