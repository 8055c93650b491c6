use Rattle.std.proofs.Common.{◌≡◌, false, ◌&&◌, sym, ◌∙◌}
use Rattle.std.proofs.lemmas.Bool.{and_left, and_right}
use Rattle.text.specs.Texts.{lawful}
use Rattle.store.specs.Contents.{put_answer, after_put, with_tags}
use Rattle.store.specs.Stores.{held}
use Rattle.store.specs.Tags.{placed}
use Rattle.store.proofs.Answering.{refused_unlawful}
use Rattle.store.proofs.memory.Store.put.Goals as goal
use Rattle.store.proofs.memory.Store.put.Goals.{else-is_lawful-via-then-is_lawful+else-is_lawful-2, else-is_lawful-via-else-is_lawful}

pub returns-else-is_lawful : goal.returns-else-is_lawful
unfolding put_answer after_put
returns-else-is_lawful c =
    let k = c.args.key.now in
    let v = c.args.value.now in
    let bad : (lawful k && lawful v) ≡ false =
    elim c.else-is_lawful.branch [
      | else-is_lawful-via-then-is_lawful+else-is_lawful-2 w ↦ and_right (lawful k) (lawful v) (sym w.is_lawful-then-is_lawful.ensures ∙ w.if-is_lawful-2.false)
      | else-is_lawful-via-else-is_lawful w ↦ and_left (lawful k) (lawful v) (sym c.is_lawful.ensures ∙ w.if-is_lawful.false)
    ] in
    let out = refused_unlawful (lawful k && lawful v) (with_tags (held c.args.self.now) (placed k v (held c.args.self.now).tags)) (held c.args.self.now) bad in
    record { answer = out.answers; after = out.leaves }
