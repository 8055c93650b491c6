use Rattle.std.proofs.Common.{◌≡◌, ◌<◌, ◌∷◌, length, sym, ap, ◌∙◌, arith}
use Rattle.text.specs.Cursors.{left}
use Rattle.tracestate.specs.Items.{also, items_of, tags, tags_left}
use Rattle.tracestate.specs.Members.{said}
use Rattle.tracestate.proofs.Tagging.{tags_next, tags_end}
use Rattle.tracestate.proofs.items.DdTagsIterator.next.Goals as goal

pub returns-in-Some-standing_tag : goal.returns-in-Some-standing_tag
returns-in-Some-standing_tag c =
    let rest = tags (items_of (left c.next.new.self)) in
    let all : tags_left c.args.self.now ≡ said c.in-Some-standing_tag.tag ∷ rest
    = sym c.loop-piece.invariant ∙ tags_next c.in-Some.ensures.steps ∙ ap (λ o. also o rest) (sym c.in-Some-standing_tag.ensures) in
    let fewer : length rest < length (tags_left c.args.self.now) = omega (arith, ap length all) in
    record { steps = all; goes = record { on = λ _. (tt, tt, fewer); keeps = tt; rests = λ _. tt } }

pub loop-piece-preserved : goal.loop-piece-preserved
loop-piece-preserved c =
    let rest = tags (items_of (left c.next.new.self)) in
    sym (tags_next c.in-Some.ensures.steps ∙ ap (λ o. also o rest) (sym c.in_default-standing_tag.ensures)) ∙ c.loop-piece.invariant

pub returns-clause-steps : goal.returns-clause-steps
returns-clause-steps c = (sym c.loop-piece.invariant ∙ tags_end c.in_default.ensures.steps.0, tags_end c.in_default.ensures.steps.1)
