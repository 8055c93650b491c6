-- A text without blanks is no longer. Assumes nothing.
use Rattle.std.proofs.Common.{◌≤◌, ℕ, List, length, arith, length-drop}
use Rattle.std.proofs.lemmas.List.{length-take}
use Rattle.text.specs.Trims.{trimmed, without_back, without_front}

pub trimmed_short : (s : List ℕ) → length (trimmed s) ≤ length s
unfolding trimmed without_back without_front
trimmed_short s = grind (arith, length-take, length-drop)
