use Rattle.std.proofs.Common.{sym, ◌∙◌, arith}
use Rattle.number.proofs.Reading.{numeral_none, digit_more, numeral-all, numeral-refused, numeral_over}
use Rattle.number.proofs.read.read_digits.Goals as goal

pub returns-then-is_empty : goal.returns-then-is_empty
returns-then-is_empty g c = numeral_none g.S.ByteTest.holds c.args.base c.args.s.now (sym c.is_empty.ensures ∙ c.if-is_empty.true)

pub returns-then-not-test : goal.returns-then-not-test
returns-then-not-test g c =
    numeral-refused g.S.ByteTest.holds c.args.base c.loop-b.n c.loop-b.b-index c.args.s.now c.loop-b.invariant.0 (sym c.is_empty.ensures ∙ c.if-is_empty.false) (omega arith)
    (sym c.test.ensures ∙ c.if-not-test.true)

pub returns-in_err-checked_mul : goal.returns-in_err-checked_mul
returns-in_err-checked_mul g c =
    let large = c.in_err-checked_mul.ensures in
    c.from_residual.ensures
    ∙ numeral_over g.S.ByteTest.holds c.args.base c.loop-b.n c.loop-b.b-index c.args.s.now c.loop-b.invariant.0 (sym c.is_empty.ensures ∙ c.if-is_empty.false) (omega arith)
    (sym c.test.ensures ∙ c.if-not-test.false) (omega arith)

pub returns-in_err-n : goal.returns-in_err-n
returns-in_err-n g c =
    let product = c.in_ok-checked_mul.ensures in
    let large = c.in_err-n.ensures in
    c.from_residual-in_err-n.ensures
    ∙ numeral_over g.S.ByteTest.holds c.args.base c.loop-b.n c.loop-b.b-index c.args.s.now c.loop-b.invariant.0 (sym c.is_empty.ensures ∙ c.if-is_empty.false) (omega arith)
    (sym c.test.ensures ∙ c.if-not-test.false) (omega (arith, c.from.ensures, c.digit_value.ensures))

pub loop-b-preserved : goal.loop-b-preserved
loop-b-preserved g c =
    let product = c.in_ok-checked_mul.ensures in
    let total = c.in_ok-n.ensures in (
      digit_more g.S.ByteTest.holds c.args.base c.loop-b.n c.loop-b.b-index c.args.s.now c.loop-b.invariant.0 c.in_ok-n.n (omega arith) (sym c.test.ensures ∙ c.if-not-test.false) (omega (arith, c.from.ensures, c.digit_value.ensures)),
      omega arith,
    )

pub returns : goal.returns
returns g c =
    numeral-all g.S.ByteTest.holds c.args.base c.loop-b.n c.loop-b.b-index c.args.s.now c.loop-b.invariant.0 (sym c.is_empty.ensures ∙ c.if-is_empty.false) (omega arith) (omega arith)
