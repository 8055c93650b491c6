-- Which tags a walk still has to give. Assumes nothing.
use Rattle.std.specs.Prelude.{List}
use Rattle.store.specs.declared.memory.tags.Tags.{Tags}
use Rattle.store.specs.Layout.{tags_in}
use Rattle.store.specs.Tags.{Tag}

abbrev pub left : Tags → List Tag
left t = tags_in t.spans.now t.text.now
