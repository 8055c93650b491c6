use Rattle.std.proofs.Common.{◌≡◌, ◌++◌, map, take, drop}
use Rattle.text.specs.Texts.{replaced}
use Rattle.text.proofs.replace.replace_chars.Given as goal

abbrev pub invariant-loop-x : goal.invariant-loop-x
invariant-loop-x g l = l.text ≡ map (replaced g.S.ByteTest.holds l.by) (take l.x-index l.initial.text) ++ drop l.x-index l.initial.text
