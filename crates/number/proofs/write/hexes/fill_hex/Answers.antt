use Rattle.std.proofs.Common.{ap, ◌∙◌, arith}
use Rattle.number.specs.Numbers.{hex_text}
use Rattle.number.proofs.HexWriting.{hex_more, hex_end}
use Rattle.number.proofs.write.hexes.fill_hex.Goals as goal

pub loop-at-preserved : goal.loop-at-preserved
loop-at-preserved c =
    hex_more c.args.n c.loop-at.rest c.loop-at.at c.loop-at.out (omega (arith, c.loop-at.auto.out)) c.loop-at.invariant c.hex_digit.result c.loop-at-test.true c.hex_digit.ensures

pub returns : goal.returns
returns c =
    hex_end c.args.n c.loop-at.rest c.loop-at.at c.loop-at.out (omega (arith, c.loop-at.auto.out)) c.loop-at.invariant c.loop-at-test.false ∙ ap (λ k. hex_text k c.args.n) c.loop-at.auto.out
