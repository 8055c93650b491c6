use Rattle.block.proofs.Writes.{set_is}
use Rattle.block.proofs.writer.LineBlockInjector.set.Goals as goal

pub returns-clause-after : goal.returns-clause-after
returns-clause-after c =
    set_is c.args.self.now c.drop_lines.new.self c.push_line.new.self c.args.name.now c.args.value.now c.if-not-is_name.ensures c.if-not-is_lawful.ensures c.if-not-takes.ensures
    c.drop_lines.ensures.cut c.drop_lines.ensures.whole c.push_line.ensures
