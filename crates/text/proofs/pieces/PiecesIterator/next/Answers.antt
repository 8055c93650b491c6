use Rattle.std.proofs.Common.{◌≡◌, [], ◌∷◌, length, sym, ap, ◌∙◌, rules}
use Rattle.text.specs.Cursors.{left_in, left}
use Rattle.text.specs.Splits.{pieces}
use Rattle.text.proofs.Cuts.{pieces-found, pieces_last}
use Rattle.text.proofs.pieces.PiecesIterator.next.Goals as goal

pub returns : goal.returns
returns c =
    let at = c.args.self.now.separator in
    let all : left c.args.self.now ≡ c.in-Some.piece.now ∷ pieces at c.in-Some.rest.now
    = ap (left_in at) (sym c.take.ensures.value ∙ c.in_ok-text.was) ∙ pieces-found at c.in_ok-text.text.now _ _ c.in-Some.ensures in
    let fewer = ap length all in
    record { steps = all; goes = search rules }

pub returns-in_default : goal.returns-in_default
returns-in_default c =
    let at = c.args.self.now.separator in
    let all : left c.args.self.now ≡ c.in_ok-text.text.now ∷ []
    = ap (left_in at) (sym c.take.ensures.value ∙ c.in_ok-text.was) ∙ pieces_last at c.in_ok-text.text.now c.in_default.ensures in
    let fewer = ap length all in
    record { steps = search rules; goes = search rules }
