-- A dd value is a lawful tracestate value, and not too long. Assumes nothing.
use Rattle.std.proofs.Common.{◌≡◌, ℕ, ◌-◌, ◌<◌, ◌≤◌, true, not, ◌&&◌, eqb, ltb, leb, List, ◌++◌, length, get_or, take, ℤ, pos, Some, None, codes, Option, unwrap_or, sym, ap, subst, arith}
use Rattle.std.proofs.lemmas.Bool.{cond_both, and_parts, and_from, lt-ltb, le-leb, ltb-true, eqb-true}
use Rattle.byte_classes.specs.Sets.{hex, space, tracestate_value}
use Rattle.std.specs.List.{list_all}
use Rattle.number.proofs.HexText.{hex_form}
use Rattle.number.specs.Numbers.{hex_text}
use Rattle.tracestate.specs.Members.{is_value}
use Rattle.store.specs.Tags.{Tag}
use Rattle.context.specs.Contexts.{Context, tag}
use Rattle.context.specs.Ranges.{priority_fits}
use Rattle.ddvalue.specs.Laws.{Digits}
use Rattle.ddvalue.specs.Values.{written_value, added, s_part, with_origin, parent_tag, last_parent, untagged, tags_part, dd_text}
use Rattle.ddvalue.proofs.DdItems.{first-item, other_items, text_is, all_good}
use Rattle.ddvalue.proofs.ItemTexts.{item_text, trail, last_solid, whole_solid, whole-lawful}
use Rattle.ddvalue.proofs.Priorities.{said_fits, short-priority}

-- no part makes a value too long
pub added-below : (text part : List ℕ) → length text < 256 → length (added text part) < 256
unfolding added
added-below text part h = cond_both (ltb (length (text ++ part)) 256) (text ++ part) text (λ s. length s < 256) (λ e. ltb-true (length (text ++ part)) 256 e) (λ _. h)

pub s_part-short : (p : Option ℤ) → priority_fits p ≡ true → length (s_part p) ≤ 6
s_part-short p h = let n = short-priority (unwrap_or p (pos 2)) (said_fits p h) in omega arith

pub origin-below : (text : List ℕ) (o : Option (List ℕ)) → length text < 256 → length (with_origin text o) < 256
origin-below text None h = h
origin-below text (Some o) h = added-below text (codes ";o:" ++ written_value o) h

module _ (p : Option ℤ) (o : Option (List ℕ)) (d : List ℕ) (ts : List Tag) where
  pub short : priority_fits p ≡ true → length (dd_text p o d ts) ≤ 255
  unfolding dd_text
  short h =
      let n = s_part-short p h in
      let below = added-below (untagged p o d) (tags_part ts) (added-below (with_origin (s_part p) o) (codes ";p:" ++ d) (origin-below (s_part p) o (omega arith))) in
      omega arith

  pub begins : take 2 (dd_text p o d ts) ≡ codes "s:"
  begins = ap (take 2) (text_is p o d ts)

  pub are_values : priority_fits p ≡ true → list_all hex d ≡ true → is_value (dd_text p o d ts) ≡ true
  unfolding is_value
  are_values h k =
      let first = first-item p o d ts in
      let others = other_items p o d ts in
      let text : List ℕ = item_text first ++ trail others in
      let good = all_good p o d ts h k in
      let n : length text ≤ 256 = let e = ap length (text_is p o d ts) in omega (arith, short h) in
      subst (λ (s : List ℕ). is_value s ≡ true) (sym (text_is p o d ts))
      (and_from (ltb 0 (length text) && leb (length text) 256) _
      (and_from (ltb 0 (length text)) (leb (length text) 256) (lt-ltb 0 (length text) (omega arith)) (le-leb (length text) 256 n))
      (and_from (not (space (get_or text (length text - 1) 0))) (list_all tracestate_value text) (last_solid text (omega arith) (whole_solid first others good)) (whole-lawful first others good)))

-- the digits of the last parent
parent-digits : (span : ℕ) (o : Option (List ℕ)) → Digits (parent_tag span o)
parent-digits span None = hex_form 16 span
parent-digits span (Some v) =
    cond_both (eqb (length v) 16 && list_all hex v) v (hex_text 16 span) Digits (λ e. let parts = and_parts (eqb (length v) 16) (list_all hex v) e in (eqb-true (length v) 16 parts.0, parts.1)) (λ _. hex_form 16 span)

pub last_parents : (c : Context) → Digits (last_parent c)
unfolding last_parent
last_parents c =
    let said = parent_tag c.span (tag (codes "_dd.parent_id") c) in
    cond_both c.remote said (hex_text 16 c.span) Digits (λ _. parent-digits c.span (tag (codes "_dd.parent_id") c)) (λ _. hex_form 16 c.span)
