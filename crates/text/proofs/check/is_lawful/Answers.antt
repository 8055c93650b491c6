use Rattle.std.proofs.Common.{◌&&◌, length, sym, ap, ◌∙◌}
use Rattle.std.proofs.lemmas.Bool.{le-leb, lt-leb, and_left}
use Rattle.byte_classes.specs.Sets.{text}
use Rattle.std.specs.List.{list_all}
use Rattle.text.specs.Texts.{lawful}
use Rattle.text.proofs.check.is_lawful.Goals as goal

pub returns-then-s-le-MAX_TEXT : goal.returns-then-s-le-MAX_TEXT
unfolding lawful
returns-then-s-le-MAX_TEXT c = c.all_in.ensures ∙ sym (ap (λ t. t && list_all text c.args.s.now) (le-leb (length c.args.s.now) 16384 c.if-s-le-MAX_TEXT.true))

pub returns-else-s-le-MAX_TEXT : goal.returns-else-s-le-MAX_TEXT
unfolding lawful
returns-else-s-le-MAX_TEXT c =
    let no_room = lt-leb (length c.args.s.now) 16384 c.if-s-le-MAX_TEXT.false in
    no_room ∙ sym (and_left _ (list_all text c.args.s.now) no_room)
