-- Keys sought and tags given among the items that are left. Assumes nothing.
use Rattle.std.proofs.Common.{◌≡◌, ℕ, Bool, true, false, cond, ◌||◌, eqb, List, [], ◌∷◌, is_some, None, Some, codes, Option, refl, ap, ◌∙◌, rules}
use Rattle.std.specs.List.{list_any, starts_with}
use Rattle.text.specs.Takes.{stripped}
use Rattle.tracestate.specs.Items.{item_of, also, items_of, has_key, key_in, standing, tag_of, tags_of, tags, standing_tag}
use Rattle.tracestate.specs.Members.{Pair}

key_more : (key : List ℕ) (o : Option Pair) (ps : List Pair) → (key_in key o || has_key key ps) ≡ has_key key (also o ps)
key_more key None ps = refl
key_more key (Some p) ps = refl

pub sought : (key : List ℕ) (ps : List (List ℕ)) → list_any (λ p. key_in key (item_of p)) ps ≡ has_key key (items_of ps)
sought key [] = refl
sought key (p ∷ ps) = ap (λ t. key_in key (item_of p) || t) (sought key ps) ∙ key_more key (item_of p) (items_of ps)

-- the tag of the next piece, if it is one that stands, and those of the rest
tag-by : (t : Bool) (p : Pair) (ps : List Pair) → tags_of (cond t (standing ps) (p ∷ standing ps)) ≡ also (cond t None (tag_of p)) (tags_of (standing ps))
tag-by true p ps = refl
tag-by false p ps = refl

tag_more : (o : Option Pair) (ps : List Pair) → tags (also o ps) ≡ also (standing_tag o ps) (tags ps)
unfolding tags
tag_more None ps = refl
tag_more (Some p) ps = tag-by (has_key p.key ps) p ps

pub tags_next : {ps : List (List ℕ)} {p : List ℕ} {rest : List (List ℕ)} → ps ≡ p ∷ rest → tags (items_of ps) ≡ also (standing_tag (item_of p) (items_of rest)) (tags (items_of rest))
tags_next {ps} {p} {rest} e = ap (λ qs. tags (items_of qs)) e ∙ tag_more (item_of p) (items_of rest)

-- at the end no tag is left
pub tags_end : {ps : List (List ℕ)} → ps ≡ [] → tags (items_of ps) ≡ []
unfolding tags
tags_end e = ap (λ qs. tags_of (standing (items_of qs))) e

-- a key of a tag begins with `t.`
pub begins : (key : List ℕ) → starts_with eqb key (codes "t.") ≡ is_some (stripped (codes "t.") key)
unfolding stripped
begins [] = refl
begins (a ∷ []) = search rules
begins (a ∷ (b ∷ rest)) = search rules
