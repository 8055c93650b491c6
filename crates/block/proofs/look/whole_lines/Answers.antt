use Rattle.std.proofs.Common.{rules}
use Rattle.block.proofs.Roads.{text-within, text-front}
use Rattle.block.proofs.look.whole_lines.Goals as goal

pub slice_bounds-result-end : goal.slice_bounds-result-end
slice_bounds-result-end c = let within = text-within c.args.text.now in search rules

pub returns : goal.returns
returns c = text-front c.args.text.now c.lines_len.result c.lines_len.ensures
