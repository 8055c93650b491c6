-- A text of clean items behind semicolons: its pieces, its items, its ends and its bytes. Assumes nothing.
use Rattle.std.proofs.Common.{◌≡◌, ℕ, ◌-◌, ◌<◌, Bool, true, not, List, [], ◌∷◌, ◌++◌, map, reverse, length, get_or, Some, sym, refl, ap, ◌∙◌, append_assoc, append-nil, arith}
use mathlib.Core.List.{reverse-append}
use Rattle.std.proofs.lemmas.List.{get_or-reverse}
use Rattle.std.proofs.lemmas.Bool.{and_parts, and_from}
use Rattle.std.proofs.lemmas.Bool.Decides.{nat_tests}
use Rattle.std.specs.List.{AllByRecursion, list_all}
use Rattle.std.specs.Option.{option_map}
use Rattle.byte_classes.specs.Sets.{blank, space, tracestate_value}
use Rattle.text.proofs.Alls.{all_append, all-reverse}
use Rattle.text.proofs.Joins.{pieces-front, pieces_one}
use Rattle.text.proofs.Splitting.{split_found}
use Rattle.text.proofs.Trimming.{trim_only}
use Rattle.text.specs.Laws.{bare, Lacks}
use Rattle.text.specs.Splits.{other, pieces}
use Rattle.text.specs.Trims.{trimmed}
use Rattle.tracestate.specs.Items.{item_of, also, items_of, items}
use Rattle.tracestate.specs.Members.{Pair, pair}
use Rattle.ddvalue.proofs.CleanBytes.{clean_key, clean_value, Clean, all_weaker, key_semicolon, key_colon, key-lawful, key_solid, value_solid}
use Rattle.ddvalue.proofs.Priorities.{solid_bare}

abbrev pub item_text : Pair → List ℕ
item_text p = p.key ++ 0x3A ∷ p.value

-- items that follow others, each behind a semicolon
abbrev pub trail : List Pair → List ℕ
trail [] = []
trail (p ∷ ps) = 0x3B ∷ (item_text p ++ trail ps)

pub trail_append : (ps qs : List Pair) → trail (ps ++ qs) ≡ trail ps ++ trail qs
trail_append [] qs = refl
trail_append (p ∷ ps) qs = ap (λ l. 0x3B ∷ (item_text p ++ l)) (trail_append ps qs) ∙ ap (λ l. 0x3B ∷ l) (sym (append_assoc (item_text p) (trail ps) (trail qs)))

-- an item of clean text
pub record Good (p : Pair) : Type 0 where
  pub key : list_all clean_key p.key ≡ true
  pub value : Clean p.value

-- its bytes are no semicolons, and lawful
value_semicolon : (b : ℕ) → clean_value b ≡ true → other 0x3B b ≡ true
value_semicolon b h = (and_parts (tracestate_value b) (other 0x3B b) h).1

value-lawful : (b : ℕ) → clean_value b ≡ true → tracestate_value b ≡ true
value-lawful b h = (and_parts (tracestate_value b) (other 0x3B b) h).0

module _ (q : ℕ → Bool) (keys : (b : ℕ) → clean_key b ≡ true → q b ≡ true) (values : (b : ℕ) → clean_value b ≡ true → q b ≡ true) (colon : q 0x3A ≡ true) where
  item-all : (p : Pair) → Good p → list_all q (item_text p) ≡ true
  item-all p g =
      all_append q p.key (0x3A ∷ p.value) (all_weaker clean_key q keys p.key g.key)
      (and_from (q 0x3A) (list_all q p.value) colon (all_weaker clean_value q values p.value g.value.bytes))

lacks_semicolon : (p : Pair) → Good p → Lacks 0x3B (item_text p)
lacks_semicolon = item-all (other 0x3B) key_semicolon value_semicolon refl

item-lawful : (p : Pair) → Good p → list_all tracestate_value (item_text p) ≡ true
unfolding tracestate_value
item-lawful = item-all tracestate_value key-lawful value-lawful refl

pub trail-lawful : (ps : List Pair) → AllByRecursion Good ps → list_all tracestate_value (trail ps) ≡ true
unfolding tracestate_value
trail-lawful [] g = refl
trail-lawful (p ∷ ps) g = all_append tracestate_value (item_text p) (trail ps) (item-lawful p g.0) (trail-lawful ps g.1)

-- the pieces, and the items that they are
pieces-trail : (s : List ℕ) (ps : List Pair) → Lacks 0x3B s → AllByRecursion Good ps → pieces 0x3B (s ++ trail ps) ≡ s ∷ map item_text ps
pieces-trail s [] l g = ap (pieces 0x3B) (append-nil s) ∙ pieces_one 0x3B s l
pieces-trail s (p ∷ ps) l g = pieces-front 0x3B s (item_text p ++ trail ps) l ∙ ap (λ qs. s ∷ qs) (pieces-trail (item_text p) ps (lacks_semicolon p g.0) g.1)

item_of_lem : (p : Pair) → Good p → item_of (item_text p) ≡ Some p
item_of_lem p g = ap (option_map pair) (split_found 0x3A p.key p.value (all_weaker clean_key (other 0x3A) key_colon p.key g.key))

items_of_lem : (ps : List Pair) → AllByRecursion Good ps → items_of (map item_text ps) ≡ ps
items_of_lem [] g = refl
items_of_lem (p ∷ ps) g = λ i. also (item_of_lem p g.0 i) (items_of_lem ps g.1 i)

-- no end is blank
bare-both : (q : ℕ → Bool) (xs ys : List ℕ) → bare q xs ≡ true → bare q ys ≡ true → bare q (xs ++ ys) ≡ true
bare-both q [] ys a b = b
bare-both q (x ∷ xs) ys a b = a

abbrev Solid : List ℕ → Type 0
Solid s = bare blank (reverse s) ≡ true

solid_append : (xs ys : List ℕ) → Solid xs → Solid ys → Solid (xs ++ ys)
solid_append xs ys a b = ap (bare blank) (reverse-append xs ys) ∙ bare-both blank (reverse ys) (reverse xs) b a

solid_front : (r : List ℕ) → list_all clean_value r ≡ true → bare space r ≡ true → bare blank r ≡ true
solid_front [] h k = refl
solid_front (b ∷ bs) h k = value_solid b (and_parts (clean_value b) (list_all clean_value bs) h).0 k

solid_value : (v : List ℕ) → Clean v → Solid v
solid_value v c = solid_front (reverse v) (all-reverse clean_value v c.bytes) c.end

solid_item : (p : Pair) → Good p → Solid (item_text p)
unfolding blank
solid_item p g =
    solid_append p.key (0x3A ∷ p.value)
    (solid_bare blank (reverse p.key) (all-reverse (λ b. not (blank b)) p.key (all_weaker clean_key (λ b. not (blank b)) key_solid p.key g.key)))
    (solid_append (0x3A ∷ []) p.value refl (solid_value p.value g.value))

solid_trail : (ps : List Pair) → AllByRecursion Good ps → Solid (trail ps)
unfolding blank
solid_trail [] g = refl
solid_trail (p ∷ ps) g = solid_append (0x3B ∷ []) (item_text p ++ trail ps) refl (solid_append (item_text p) (trail ps) (solid_item p g.0) (solid_trail ps g.1))

-- a whole value: items, the first of which does not begin with a blank
module _ (p : Pair) (ps : List Pair) (g : AllByRecursion Good (p ∷ ps)) where
  pub whole_solid : Solid (item_text p ++ trail ps)
  whole_solid = solid_append (item_text p) (trail ps) (solid_item p g.0) (solid_trail ps g.1)

  pub whole-lawful : list_all tracestate_value (item_text p ++ trail ps) ≡ true
  whole-lawful = all_append tracestate_value (item_text p) (trail ps) (item-lawful p g.0) (trail-lawful ps g.1)

  pub whole-items : bare blank (item_text p ++ trail ps) ≡ true → items (item_text p ++ trail ps) ≡ p ∷ ps
  unfolding items
  whole-items starts =
      let text : List ℕ = item_text p ++ trail ps in
      let whole : trimmed text ≡ text =
      sym (trim_only text text (record { front = []; back = []; whole = sym (append-nil text); front_blank = refl; back_blank = refl; starts_bare = starts; ends_bare = whole_solid })) in
      ap (λ s. items_of (pieces 0x3B s)) whole ∙ ap items_of (pieces-trail (item_text p) ps (lacks_semicolon p g.0) g.1) ∙ items_of_lem (p ∷ ps) g

first_solid : (r : List ℕ) → bare blank r ≡ true → not (space (get_or r 0 0)) ≡ true
unfolding blank space
first_solid [] h = refl
first_solid (b ∷ bs) h = grind (arith, nat_tests)

-- so the last byte is no space
pub last_solid : (s : List ℕ) → 0 < length s → Solid s → not (space (get_or s (length s - 1) 0)) ≡ true
last_solid s h e =
    let at : length s - 1 - 0 ≡ length s - 1 = omega arith in
    ap (λ n. not (space (get_or s n 0))) (sym at) ∙ ap (λ b. not (space b)) (sym (get_or-reverse s 0 0 h)) ∙ first_solid (reverse s) e
