use Rattle.std.proofs.Common.{sym}
use Rattle.std.proofs.lemmas.Bool.{and_from}
use Rattle.carrier.specs.Names.{is_name}
use Rattle.text.specs.Texts.{lawful}
use Rattle.block.specs.Lines.{lawful_line}
use Rattle.block.proofs.line.take_line.Goals as goal

pub invariant_of-result : goal.invariant_of-result
unfolding lawful_line
invariant_of-result c = record { is_lawful = and_from (is_name _) (lawful _) (sym c.if-not-is_name.ensures) (sym c.if-not-is_lawful.ensures) }
