-- A dd value as its items, all of them clean. Assumes nothing.
use Rattle.std.proofs.Common.{◌≡◌, ℕ, ◌-◌, Bool, true, false, cond, leb, List, [], ◌∷◌, ◌++◌, map, length, ℤ, pos, Some, None, codes, Option, unwrap_or, sym, refl, ap, ◌∙◌, append_assoc, append-nil}
use Rattle.std.proofs.ByRecursion.{All-append}
use Rattle.std.specs.List.{AllByRecursion, list_all}
use Rattle.byte_classes.specs.Sets.{hex, blank, tag_key_replaced}
use Rattle.text.proofs.Alls.{all_append as bytes_append}
use Rattle.number.specs.Numbers.{small_text}
use Rattle.tracestate.specs.Items.{items}
use Rattle.tracestate.specs.Members.{Pair}
use Rattle.store.specs.Tags.{Tag}
use Rattle.context.specs.Ranges.{priority_fits}
use Rattle.ddvalue.specs.Laws.{item, there, origin_said, parent_said, written, roomy, tags_said, item_if, tag_item, dd_items}
use Rattle.ddvalue.specs.Values.{written_key, written_value, added, s_part, with_origin, propagated, entry, fitting, tags_part, untagged, dd_text}
use Rattle.ddvalue.proofs.CleanBytes.{clean_key, Clean, clean_key_lem, clean_value_lem}
use Rattle.ddvalue.proofs.ItemTexts.{item_text, trail, trail_append, Good, whole-items}
use Rattle.ddvalue.proofs.Priorities.{said_fits, clean_priority, clean_digits}

-- one part more, as items
added-by : (t : Bool) (text part : List ℕ) (ps : List Pair) → part ≡ trail ps → cond t (text ++ part) text ≡ text ++ trail (cond t ps [])
added-by true text part ps e = ap (λ l. text ++ l) e
added-by false text part ps e = sym (append-nil text)

one_by : (t : Bool) (key v : List ℕ) → cond t (item key v ∷ []) [] ≡ item_if key (cond t (Some v) None)
one_by true key v = refl
one_by false key v = refl

added_one : (text part key v : List ℕ) → part ≡ trail (item key v ∷ []) → added text part ≡ text ++ trail (item_if key (cond (there text part) (Some v) None))
unfolding added
added_one text part key v e = added-by (there text part) text part (item key v ∷ []) e ∙ ap (λ ps. text ++ trail ps) (one_by (there text part) key v)

origin-trail : (text : List ℕ) (o : Option (List ℕ)) → with_origin text o ≡ text ++ trail (item_if (codes "o") (origin_said text o))
origin-trail text None = sym (append-nil text)
origin-trail text (Some o) = added_one text (codes ";o:" ++ written_value o) (codes "o") (written_value o) (ap (λ l. codes ";o:" ++ l) (sym (append-nil (written_value o))))

parent-trail : (text digits : List ℕ) → added text (codes ";p:" ++ digits) ≡ text ++ trail (item_if (codes "p") (parent_said text digits))
parent-trail text digits = added_one text (codes ";p:" ++ digits) (codes "p") digits (ap (λ l. codes ";p:" ++ l) (sym (append-nil digits)))

entry_more : (b : Bool) (t : Tag) (f : List ℕ) (rs : List Tag) → f ≡ trail (map tag_item (map written rs)) → cond b (entry t ++ f) [] ≡ trail (map tag_item (map written (cond b (t ∷ rs) [])))
unfolding entry
entry_more true t f rs e = ap (λ l. entry t ++ l) e
entry_more false t f rs e = refl

fitting-trail : (room : ℕ) (ts : List Tag) → fitting room (map entry ts) ≡ trail (map tag_item (map written (roomy room ts)))
unfolding fitting
fitting-trail room [] = refl
fitting-trail room (t ∷ ts) = entry_more (leb (length (entry t)) room) t (fitting (room - length (entry t)) (map entry ts)) (roomy (room - length (entry t)) ts) (fitting-trail (room - length (entry t)) ts)

said-by : (t : Bool) (ps : List Pair) → cond t (map tag_item ps) [] ≡ map tag_item (cond t ps [])
said-by true ps = refl
said-by false ps = refl

tags-trail : (text : List ℕ) (ts : List Tag) → added text (tags_part ts) ≡ text ++ trail (map tag_item (tags_said text ts))
unfolding added
tags-trail text ts =
    let ps : List Pair = map written (roomy 128 (propagated ts)) in
    added-by (there text (tags_part ts)) text (tags_part ts) (map tag_item ps) (fitting-trail 128 (propagated ts)) ∙ ap (λ qs. text ++ trail qs) (said-by (there text (tags_part ts)) ps)

-- the parts that are clean
good_one : (key v : List ℕ) → list_all clean_key key ≡ true → Clean v → Good (item key v)
good_one key v k c = record { key = k; value = c }

good_if : (t : Bool) (key v : List ℕ) → list_all clean_key key ≡ true → Clean v → AllByRecursion Good (item_if key (cond t (Some v) None))
good_if true key v k c = (good_one key v k c, tt)
good_if false key v k c = tt

good_origin : (text : List ℕ) (o : Option (List ℕ)) → AllByRecursion Good (item_if (codes "o") (origin_said text o))
unfolding tag_key_replaced
good_origin text None = tt
good_origin text (Some o) = good_if (there text (codes ";o:" ++ written_value o)) (codes "o") (written_value o) refl (clean_value_lem o)

good_parent : (text d : List ℕ) → list_all hex d ≡ true → AllByRecursion Good (item_if (codes "p") (parent_said text d))
unfolding tag_key_replaced
good_parent text d h = good_if (there text (codes ";p:" ++ d)) (codes "p") d refl (clean_digits d h)

good_tag : (t : Tag) → Good (tag_item (written t))
unfolding tag_key_replaced
good_tag t = good_one (codes "t." ++ written_key t.0) (written_value t.1) (bytes_append clean_key (codes "t.") (written_key t.0) refl (clean_key_lem t.0)) (clean_value_lem t.1)

good_written : (ts : List Tag) → AllByRecursion Good (map tag_item (map written ts))
good_written [] = tt
good_written (t ∷ ts) = (good_tag t, good_written ts)

good_by : (b : Bool) (ts : List Tag) → AllByRecursion Good (map tag_item (cond b (map written ts) []))
good_by true ts = good_written ts
good_by false ts = tt

good_said : (z : ℤ) → priority_fits (Some z) ≡ true → Good (item (codes "s") (small_text z))
unfolding tag_key_replaced
good_said z h = good_one (codes "s") (small_text z) refl (clean_priority z h)

module _ (p : Option ℤ) (o : Option (List ℕ)) (d : List ℕ) (ts : List Tag) where
  abbrev pub first-item : Pair
  first-item = item (codes "s") (small_text (unwrap_or p (pos 2)))

  abbrev pub other_items : List Pair
  other_items =
      item_if (codes "o") (origin_said (s_part p) o)
      ++ (item_if (codes "p") (parent_said (with_origin (s_part p) o) d)
      ++ map tag_item (tags_said (untagged p o d) ts))

  pub text_is : dd_text p o d ts ≡ item_text first-item ++ trail other_items
  unfolding dd_text
  text_is =
      let a : List Pair = item_if (codes "o") (origin_said (s_part p) o) in
      let b : List Pair = item_if (codes "p") (parent_said (with_origin (s_part p) o) d) in
      let c : List Pair = map tag_item (tags_said (untagged p o d) ts) in
      let s : List ℕ = s_part p in
      tags-trail (untagged p o d) ts
      ∙ ap (λ l. l ++ trail c) (parent-trail (with_origin s o) d ∙ ap (λ l. l ++ trail b) (origin-trail s o))
      ∙ append_assoc (s ++ trail a) (trail b) (trail c)
      ∙ append_assoc s (trail a) (trail b ++ trail c)
      ∙ ap (λ l. s ++ (trail a ++ l)) (sym (trail_append b c))
      ∙ ap (λ l. s ++ l) (sym (trail_append a (b ++ c)))

  module _ (h : priority_fits p ≡ true) (k : list_all hex d ≡ true) where
    pub all_good : AllByRecursion Good (first-item ∷ other_items)
    all_good = (
      good_said (unwrap_or p (pos 2)) (said_fits p h),
      All-append Good (item_if (codes "o") (origin_said (s_part p) o)) _ (good_origin (s_part p) o)
          (All-append Good (item_if (codes "p") (parent_said (with_origin (s_part p) o) d)) _ (good_parent (with_origin (s_part p) o) d k) (good_by (there (untagged p o d) (tags_part ts)) (roomy 128 (propagated ts)))),
    )

    pub items_are : items (dd_text p o d ts) ≡ dd_items p o d ts
    unfolding dd_items blank
    items_are = ap items text_is ∙ whole-items first-item other_items all_good refl
