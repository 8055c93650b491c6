-- The laws of dd values: they are lawful, they read back item by item, and after one round trip they stay. Assumes nothing.
use Rattle.std.specs.Prelude.{◌≡◌, ℕ, ◌-◌, ◌≤◌, Bool, true, cond, List, [], ◌∷◌, ◌++◌, map, length, take, ℤ, pos, Some, None, codes, Option, nat_le, nat_lt}
use Rattle.std.specs.Option.{unwrap_or}
use Rattle.byte_classes.specs.Sets.{hex}
use Rattle.std.specs.List.{list_all}
use Rattle.number.specs.Numbers.{small, small_text}
use Rattle.tracestate.specs.Items.{items, heard, tags, standing}
use Rattle.tracestate.specs.Members.{Pair, is_value}
use Rattle.store.specs.Tags.{Tag}
use Rattle.context.specs.Contexts.{Context}
use Rattle.context.specs.Ranges.{priority_fits}
use Rattle.w3c_extract.specs.Reads.{decoded}
use Rattle.ddvalue.specs.Values.{written_key, written_value, s_part, with_origin, last_parent, propagated, entry, tags_part, untagged, dd_text, dd_value}

-- 16 lower-case hexadecimal digits
abbrev pub Digits : List ℕ → Type 0
Digits d = (length d ≡ 16) × (list_all hex d ≡ true)

abbrev pub item : List ℕ → List ℕ → Pair
item key value = record { key = key; value = value }

-- a part is there if the length stays below 256
abbrev pub there : List ℕ → List ℕ → Bool
there text part = nat_lt (length (text ++ part)) 256

-- the origin, the last parent and the tags as they stand in a value after a text, if they do
abbrev pub origin_said : List ℕ → Option (List ℕ) → Option (List ℕ)
origin_said text None = None
origin_said text (Some o) = cond (there text (codes ";o:" ++ written_value o)) (Some (written_value o)) None

abbrev pub parent_said : List ℕ → List ℕ → Option (List ℕ)
parent_said text digits = cond (there text (codes ";p:" ++ digits)) (Some digits) None

-- a tag as it is written, without its `t.`
abbrev pub written : Tag → Pair
written t = item (written_key t.0) (written_value t.1)

-- the tags whose entries have room together, up to the first that has none
abbrev pub roomy : ℕ → List Tag → List Tag
roomy room [] = []
roomy room (t ∷ ts) = cond (nat_le (length (entry t)) room) (t ∷ roomy (room - length (entry t)) ts) []

abbrev pub tags_said : List ℕ → List Tag → List Pair
tags_said text ts = cond (there text (tags_part ts)) (map written (roomy 128 (propagated ts))) []

-- the items of a value in their order: priority, origin, last parent, tags
abbrev pub item_if : List ℕ → Option (List ℕ) → List Pair
item_if key None = []
item_if key (Some v) = item key v ∷ []

abbrev pub tag_item : Pair → Pair
tag_item w = item (codes "t." ++ w.key) w.value

unfoldable pub dd_items : Option ℤ → Option (List ℕ) → List ℕ → List Tag → List Pair
dd_items priority origin digits ts =
    item (codes "s") (small_text (unwrap_or priority (pos 2)))
    ∷ (item_if (codes "o") (origin_said (s_part priority) origin)
    ++ (item_if (codes "p") (parent_said (with_origin (s_part priority) origin) digits)
    ++ map tag_item (tags_said (untagged priority origin digits) ts)))

-- every value of a priority from -128 to 127 and 16 digits is a lawful tracestate value of at most 255 bytes
pub record LawfulValues : Type 0 where
  pub are_values : (p : Option ℤ) (o : Option (List ℕ)) (d : List ℕ) (ts : List Tag) → priority_fits p ≡ true → Digits d → is_value (dd_text p o d ts) ≡ true
  pub short : (p : Option ℤ) (o : Option (List ℕ)) (d : List ℕ) (ts : List Tag) → priority_fits p ≡ true → length (dd_text p o d ts) ≤ 255
  pub begins : (p : Option ℤ) (o : Option (List ℕ)) (d : List ℕ) (ts : List Tag) → take 2 (dd_text p o d ts) ≡ codes "s:"
  -- so is that of a context
  pub last_parents : (c : Context) → Digits (last_parent c)
  pub of_context : (c : Context) → priority_fits c.priority ≡ true → is_value (dd_value c) ≡ true

-- it reads back as the items that were written, no more and no less
pub record ItemsReadBack : Type 0 where
  pub items_are : (p : Option ℤ) (o : Option (List ℕ)) (d : List ℕ) (ts : List Tag) → priority_fits p ≡ true → Digits d → items (dd_text p o d ts) ≡ dd_items p o d ts
  pub heard_is : (p : Option ℤ) (o : Option (List ℕ)) (d : List ℕ) (ts : List Tag)
      → heard (dd_items p o d ts) ≡ record { priority = Some (small_text (unwrap_or p (pos 2))); origin = origin_said (s_part p) o; parent = parent_said (with_origin (s_part p) o) d }
  pub tags_are : (p : Option ℤ) (o : Option (List ℕ)) (d : List ℕ) (ts : List Tag) → tags (dd_items p o d ts) ≡ standing (tags_said (untagged p o d) ts)

-- what was written once is written and read as it is
pub record WritingSettles : Type 0 where
  pub keys : (k : List ℕ) → written_key (written_key k) ≡ written_key k
  pub values : (v : List ℕ) → written_value (decoded (written_value v)) ≡ written_value v
  pub values_read : (v : List ℕ) → decoded (written_value (decoded (written_value v))) ≡ decoded (written_value v)
  pub priorities : (z : ℤ) → priority_fits (Some z) ≡ true → small (decoded (small_text z)) ≡ Some z
  pub digits : (d : List ℕ) → Digits d → decoded d ≡ d
