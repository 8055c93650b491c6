-- What a store holds. Assumes nothing.
use Rattle.std.specs.Prelude.{ℕ, ◌+◌}
use Rattle.std.specs.Option.{unwrap_or}
use Rattle.store.specs.declared.memory.Store.{Store}
use Rattle.store.specs.Contents.{Contents}
use Rattle.store.specs.Layout.{contents}
use Rattle.store.specs.Uses.{in_use, room}

-- where its tags begin
abbrev pub head_of : Store → ℕ
head_of s = unwrap_or s.origin 0 + unwrap_or s.ot 0

-- its contents, which is all that a caller can learn of it
unfoldable pub held : Store → Contents
held s = contents (in_use s.spans) (in_use s.text) (room s.spans) (room s.text) s.origin s.ot
