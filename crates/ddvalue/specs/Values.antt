-- The dd value of a context, written. Assumes nothing.
use Rattle.std.specs.Prelude.{ℕ, ◌-◌, cond, ◌&&◌, List, [], ◌∷◌, ◌++◌, map, length, ℤ, pos, Some, None, codes, Option, ◌==◌, nat_le, nat_lt}
use Rattle.std.specs.Option.{unwrap_or}
use Rattle.byte_classes.specs.Sets.{equals, hex, space, tag_key_replaced, tag_value_replaced}
use Rattle.text.specs.Takes.{stripped}
use Rattle.std.specs.List.{list_all}
use Rattle.text.specs.Texts.{replaced}
use Rattle.text.specs.Trims.{without_back}
use Rattle.number.specs.Numbers.{hex_text, small_text}
use Rattle.store.specs.Tags.{Tag}
use Rattle.context.specs.Contexts.{Context, tag}

-- what follows `_dd.p.` in a key, and an origin or value, as they are written
unfoldable pub written_key : List ℕ → List ℕ
written_key rest = map (replaced tag_key_replaced 0x5F) rest

unfoldable pub written_value : List ℕ → List ℕ
written_value v = without_back space (map (replaced equals 0x7E) (map (replaced tag_value_replaced 0x5F) v))

-- a part is added if the length stays below 256
unfoldable pub added : List ℕ → List ℕ → List ℕ
added text part = cond (nat_lt (length (text ++ part)) 256) (text ++ part) text

-- the priority, 2 if there is none
abbrev pub s_part : Option ℤ → List ℕ
s_part priority = codes "s:" ++ small_text (unwrap_or priority (pos 2))

abbrev pub with_origin : List ℕ → Option (List ℕ) → List ℕ
with_origin text None = text
with_origin text (Some o) = added text (codes ";o:" ++ written_value o)

-- the last parent: what the tag says where the context came from elsewhere and the tag has 16 digits, else the span id
abbrev pub parent_tag : ℕ → Option (List ℕ) → List ℕ
parent_tag span None = hex_text 16 span
parent_tag span (Some v) = cond (length v == 16 && list_all hex v) v (hex_text 16 span)

unfoldable pub last_parent : Context → List ℕ
last_parent c = cond c.remote (parent_tag c.span (tag (codes "_dd.parent_id") c)) (hex_text 16 c.span)

-- the tags that are sent on: what follows `_dd.p.`, and the value
abbrev pub also : List ℕ → Option (List ℕ) → List Tag → List Tag
also v None ts = ts
also v (Some rest) ts = (rest, v) ∷ ts

unfoldable pub propagated : List Tag → List Tag
propagated [] = []
propagated (t ∷ ts) = also t.1 (stripped (codes "_dd.p.") t.0) (propagated ts)

unfoldable pub entry : Tag → List ℕ
entry t = codes ";t." ++ (written_key t.0 ++ (codes ":" ++ written_value t.1))

-- the entries in their order, up to the first that has no room
unfoldable pub fitting : ℕ → List (List ℕ) → List ℕ
fitting room [] = []
fitting room (e ∷ es) = cond (nat_le (length e) room) (e ++ fitting (room - length e) es) []

abbrev pub tags_part : List Tag → List ℕ
tags_part ts = fitting 128 (map entry (propagated ts))

-- the value of a priority, an origin, the digits of the last parent, and tags; without the tags at first
abbrev pub untagged : Option ℤ → Option (List ℕ) → List ℕ → List ℕ
untagged priority origin digits = added (with_origin (s_part priority) origin) (codes ";p:" ++ digits)

unfoldable pub dd_text : Option ℤ → Option (List ℕ) → List ℕ → List Tag → List ℕ
dd_text priority origin digits ts = added (untagged priority origin digits) (tags_part ts)

abbrev pub dd_value : Context → List ℕ
dd_value c = dd_text c.priority c.store.origin (last_parent c) c.store.tags
