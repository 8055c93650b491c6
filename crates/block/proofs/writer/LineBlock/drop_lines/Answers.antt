use Rattle.std.proofs.Common.{sym, ap, ◌∙◌, rules}
use Rattle.block.proofs.Sweeps.{swept_none, swept_places, swept_dropped, swept_kept, swept_text, swept_size, swept_within}
use Rattle.block.proofs.Writes.{removed}
use Rattle.block.specs.Lines.{block_text}
use Rattle.carrier.specs.Lents.{in_memory}
use Rattle.block.proofs.writer.LineBlock.drop_lines.Goals as goal
use Rattle.block.proofs.writer.LineBlock.drop_lines.Goals.{then-ne, else-ne}

pub loop-line-init : goal.loop-line-init
loop-line-init c = swept_none c.args.name.now c.args.self.now.memory.now c.front-end.result.now _ c.front-end.ensures

pub overflow_add-at : goal.overflow_add-at
overflow_add-at c = let h = swept_places c.loop-line.invariant c.in-Some.ensures in search rules

pub copy_within-requires-clause-in_bounds : goal.copy_within-requires-clause-in_bounds
copy_within-requires-clause-in_bounds c = let h = swept_places c.loop-line.invariant c.in-Some.ensures in search rules

pub copy_within-requires-clause-dest_in_bounds : goal.copy_within-requires-clause-dest_in_bounds
copy_within-requires-clause-dest_in_bounds c = let h = swept_places c.loop-line.invariant c.in-Some.ensures in search rules

pub overflow_add-kept : goal.overflow_add-kept
overflow_add-kept c = let h = swept_places c.loop-line.invariant c.in-Some.ensures in search rules

pub overflow_add-at-in-Some : goal.overflow_add-at-in-Some
overflow_add-at-in-Some c = let h = swept_places c.loop-line.invariant c.in-Some.ensures in search rules

pub loop-line-smaller : goal.loop-line-smaller
loop-line-smaller c = let h = swept_places c.loop-line.invariant c.in-Some.ensures in search rules

pub loop-line-preserved : goal.loop-line-preserved
loop-line-preserved c =
    elim c.if-ne.branch [
      | then-ne w ↦ rw (w.memory-is, w.kept-is, c.len-len.ensures) (swept_kept c.loop-line.invariant c.in-Some.ensures w.if-ne.ensures w.copy_within.new.self (rw c.len-len.ensures at w.copy_within.ensures.after))
      | else-ne w ↦ rw (w.memory-is, w.kept-is, c.len-len.ensures) (swept_dropped c.loop-line.invariant c.in-Some.ensures w.if-ne.ensures)
    ]

pub returns-clause-cut : goal.returns-clause-cut
returns-clause-cut c =
    let h = c.loop-line.invariant in
    ap (in_memory c.args.self.now.memory.ghost_name) (removed c.args.self.now.memory.now c.args.self.now.len c.args.name.now c.loop-line.memory c.loop-line.kept h.long
    (swept_text _ h c.front-end.ensures c.in_default.ensures) (swept_size _ h c.front-end.ensures c.in_default.ensures))

pub returns-clause-whole : goal.returns-clause-whole
returns-clause-whole c =
    let h = c.loop-line.invariant in
    let cut = removed c.args.self.now.memory.now c.args.self.now.len c.args.name.now c.loop-line.memory c.loop-line.kept h.long
    (swept_text _ h c.front-end.ensures c.in_default.ensures) (swept_size _ h c.front-end.ensures c.in_default.ensures) in
    record { text = swept_text _ h c.front-end.ensures c.in_default.ensures ∙ sym (ap (λ b. block_text b.lines) cut); within = swept_within h }
