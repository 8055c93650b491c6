-- What a cursor over pieces has still to give. Assumes nothing.
use Rattle.std.specs.Prelude.{ℕ, List, [], Some, None, Option}
use Rattle.std.specs.Borrow.{Bor}
use Rattle.text.specs.Splits.{pieces}
use Rattle.text.specs.declared.pieces.Pieces.{Pieces}

abbrev pub left_in : ℕ → Option (Bor (List ℕ)) → List (List ℕ)
left_in c None = []
left_in c (Some s) = pieces c s.now

abbrev pub left : Pieces → List (List ℕ)
left p = left_in p.separator p.rest
