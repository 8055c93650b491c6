-- What a slot of memory holds. Assumes nothing.
use Rattle.std.specs.Prelude.{List, map}
use Rattle.std.specs.Option.{option_map}
use Rattle.text.specs.Inlines.{text_of}
use Rattle.text.specs.declared.inline.Inline.{Inline}
use Rattle.slots.specs.Places.{Entry, entry, Place, Places}
use Rattle.slots.specs.declared.slot.Slot.{Slot}

-- what a slot with the name holds
abbrev pub entry_of : Slot → Inline 64 → Entry
entry_of s n = entry (text_of n) (text_of s.value)

-- a slot without a name is free
abbrev pub place_of : Slot → Place
place_of s = option_map (entry_of s) s.name

abbrev pub places_of : List Slot → Places
places_of ss = map place_of ss
