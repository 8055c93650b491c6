-- What the items of a dd value say: priority, origin and last parent, and the tags that stand. Assumes nothing.
use Rattle.std.proofs.Common.{◌≡◌, ℕ, Bool, true, false, cond, ◌||◌, eqb, List, [], ◌∷◌, ◌++◌, map, ℤ, pos, is_some, Some, None, codes, Option, unwrap_or, sym, refl, ap, ◌∙◌}
use Rattle.std.proofs.lemmas.Bool.{cond-true, cond-false}
use Rattle.std.specs.Option.{option_map}
use Rattle.std.specs.Str.{bytes_eq}
use Rattle.text.proofs.Prefixes.{strip_is}
use Rattle.text.specs.Takes.{stripped}
use Rattle.number.specs.Numbers.{small_text}
use Rattle.tracestate.proofs.Reading.{newer_assoc, newer_none}
use Rattle.tracestate.specs.Items.{kind_of, kinded, also, has_key, standing, tag_of, tags_of, tags, of_kind, last_of, Heard, heard}
use Rattle.tracestate.specs.Members.{Pair, newer}
use Rattle.store.specs.Tags.{Tag}
use Rattle.ddvalue.specs.Laws.{item, origin_said, parent_said, tags_said, item_if, tag_item, dd_items}
use Rattle.ddvalue.specs.Values.{s_part, with_origin, untagged}

-- the last of a kind among items and others behind them
last_append : (n : ℕ) (ps qs : List Pair) → last_of n (ps ++ qs) ≡ newer (last_of n qs) (last_of n ps)
last_append n [] qs = sym (newer_none (last_of n qs))
last_append n (p ∷ ps) qs = ap (λ o. newer o (of_kind n (kinded p))) (last_append n ps qs) ∙ sym (newer_assoc (last_of n qs) (last_of n ps) (of_kind n (kinded p)))

tag_kind : (k : List ℕ) → kind_of (codes "t." ++ k) ≡ 3
tag_kind k = ap (λ (o : Option (List ℕ)). cond (is_some o) 3 4) (strip_is (codes "t.") k)

-- tags are of no other kind
no_tags : (n : ℕ) → eqb 3 n ≡ false → (ws : List Pair) → last_of n (map tag_item ws) ≡ None
no_tags n h [] = refl
no_tags n h (w ∷ ws) =
    ap (λ o. newer o (of_kind n (kinded (tag_item w)))) (no_tags n h ws)
    ∙ ap (λ m. cond (eqb m n) (Some w.value) None) (tag_kind w.key)
    ∙ cond-false (eqb 3 n) (Some w.value) None h

abbrev three : Option (List ℕ) → Option (List ℕ) → Option (List ℕ) → Heard
three a b c = record { priority = a; origin = b; parent = c }

-- an item that may be there says its value, or nothing
module _ (n : ℕ) (key : List ℕ) where
  says-value : kind_of key ≡ n → eqb n n ≡ true → (o : Option (List ℕ)) → last_of n (item_if key o) ≡ o
  says-value e r None = refl
  says-value e r (Some v) = cond-true (eqb (kind_of key) n) (Some v) None (ap (λ m. eqb m n) e ∙ r)

  says_none : eqb (kind_of key) n ≡ false → (o : Option (List ℕ)) → last_of n (item_if key o) ≡ None
  says_none h None = refl
  says_none h (Some v) = cond-false (eqb (kind_of key) n) (Some v) None h

-- the last of a kind among the parts: a priority, and an origin, a last parent and tags that may be there
module _ (a b : Option (List ℕ)) (ws : List Pair) where
  abbrev parts : List Pair
  parts = item_if (codes "o") a ++ (item_if (codes "p") b ++ map tag_item ws)

  of_parts : (n : ℕ) → eqb 3 n ≡ false → last_of n parts ≡ newer (last_of n (item_if (codes "p") b)) (last_of n (item_if (codes "o") a))
  of_parts n h =
      let os : List Pair = item_if (codes "o") a in
      let ps : List Pair = item_if (codes "p") b in
      last_append n os (ps ++ map tag_item ws) ∙ ap (λ o. newer o (last_of n os)) (last_append n ps (map tag_item ws) ∙ ap (λ o. newer o (last_of n ps)) (no_tags n h ws))

  no_priority : last_of 0 parts ≡ None
  no_priority = of_parts 0 refl ∙ (λ i. newer (says_none 0 (codes "p") refl b i) (says_none 0 (codes "o") refl a i))

  the_origin : last_of 1 parts ≡ a
  the_origin = of_parts 1 refl ∙ (λ i. newer (says_none 1 (codes "p") refl b i) (says-value 1 (codes "o") refl refl a i))

  the_parent : last_of 2 parts ≡ b
  the_parent = of_parts 2 refl ∙ (λ i. newer (says-value 2 (codes "p") refl refl b i) (says_none 2 (codes "o") refl a i)) ∙ newer_none b

  heard-parts : (s : List ℕ) → heard (item (codes "s") s ∷ parts) ≡ three (Some s) a b
  unfolding heard
  heard-parts s = λ i. three (newer (no_priority i) (Some s)) ((newer_none (last_of 1 parts) ∙ the_origin) i) ((newer_none (last_of 2 parts) ∙ the_parent) i)

-- an item that is no tag
skip_by : (b : Bool) (p : Pair) (ps : List Pair) → tag_of p ≡ None → tags_of (cond b (standing ps) (p ∷ standing ps)) ≡ tags_of (standing ps)
skip_by true p ps e = refl
skip_by false p ps e = ap (λ o. also o (tags_of (standing ps))) e

skip : (p : Pair) (ps : List Pair) → tag_of p ≡ None → tags (p ∷ ps) ≡ tags ps
unfolding tags
skip p ps e = skip_by (has_key p.key ps) p ps e

skip_if : (key : List ℕ) (o : Option (List ℕ)) (ps : List Pair) → stripped (codes "t.") key ≡ None → tags (item_if key o ++ ps) ≡ tags ps
skip_if key None ps e = refl
skip_if key (Some v) ps e = skip (item key v) ps (ap (option_map (λ rest. item rest v)) e)

-- the items of tags, and the tags
key-kept : (k : List ℕ) (ws : List Pair) → has_key (codes "t." ++ k) (map tag_item ws) ≡ has_key k ws
key-kept k [] = refl
key-kept k (w ∷ ws) = ap (λ b. bytes_eq w.key k || b) (key-kept k ws)

tag_of_lem : (w : Pair) → tag_of (tag_item w) ≡ Some w
tag_of_lem w = ap (option_map (λ rest. item rest w.value)) (strip_is (codes "t.") w.key)

stand_by : (b : Bool) (w : Pair) (ps qs : List Pair) → tags_of ps ≡ qs → tags_of (cond b ps (tag_item w ∷ ps)) ≡ cond b qs (w ∷ qs)
stand_by true w ps qs e = e
stand_by false w ps qs e = λ i. also (tag_of_lem w i) (e i)

tags_stand : (ws : List Pair) → tags (map tag_item ws) ≡ standing ws
unfolding tags
tags_stand [] = refl
tags_stand (w ∷ ws) =
    ap (λ b. tags_of (cond b (standing (map tag_item ws)) (tag_item w ∷ standing (map tag_item ws)))) (key-kept w.key ws)
    ∙ stand_by (has_key w.key ws) w (standing (map tag_item ws)) (standing ws) (tags_stand ws)

module _ (p : Option ℤ) (o : Option (List ℕ)) (d : List ℕ) (ts : List Tag) where
  pub heard_is : heard (dd_items p o d ts) ≡ record { priority = Some (small_text (unwrap_or p (pos 2))); origin = origin_said (s_part p) o; parent = parent_said (with_origin (s_part p) o) d }
  unfolding dd_items
  heard_is = heard-parts (origin_said (s_part p) o) (parent_said (with_origin (s_part p) o) d) (tags_said (untagged p o d) ts) (small_text (unwrap_or p (pos 2)))

  pub tags_are : tags (dd_items p o d ts) ≡ standing (tags_said (untagged p o d) ts)
  unfolding dd_items stripped
  tags_are =
      let ws : List Pair = tags_said (untagged p o d) ts in
      let b : Option (List ℕ) = parent_said (with_origin (s_part p) o) d in
      skip (item (codes "s") (small_text (unwrap_or p (pos 2)))) _ refl
      ∙ skip_if (codes "o") (origin_said (s_part p) o) (item_if (codes "p") b ++ map tag_item ws) refl
      ∙ skip_if (codes "p") b (map tag_item ws) refl
      ∙ tags_stand ws
