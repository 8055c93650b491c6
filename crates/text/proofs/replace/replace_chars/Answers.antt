use Rattle.std.proofs.Common.{sym, ◌∙◌, arith}
use Rattle.text.proofs.Replaces.{replaced_more, kept_more}
use Rattle.text.proofs.replace.replace_chars.Goals as goal
use Rattle.text.proofs.replace.replace_chars.Goals.{then-test, else-test}

pub loop-x-preserved : goal.loop-x-preserved
loop-x-preserved g c =
    elim c.if-test.branch [
      | then-test w ↦ w.text-is ∙ replaced_more g.S.ByteTest.holds c.args.by c.args.text.now c.loop-x.text c.loop-x.x-index (omega arith) (omega arith) c.loop-x.invariant (sym c.test.ensures ∙ w.if-test.true)
      | else-test w ↦ w.text-is ∙ kept_more g.S.ByteTest.holds c.args.by c.args.text.now c.loop-x.text c.loop-x.x-index (omega arith) (omega arith) c.loop-x.invariant (sym c.test.ensures ∙ w.if-test.false)
    ]
