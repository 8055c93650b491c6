-- The names of a layer. Assumes nothing.
use Rattle.std.proofs.Common.{◌≡◌, ℕ, ◌+◌, ◌<◌, ◌≤◌, Bool, true, false, cond, not, ◌&&◌, ◌||◌, ltb, leb, List, [], ◌∷◌, ◌++◌, length, drop, is_some, Some, None, Decides, Option, sym, refl, ap, ◌∙◌, arith, length-append, length-drop}
use Rattle.std.proofs.lemmas.Slice.Eq.{bytes_eq-Decides}
use Rattle.std.proofs.lemmas.Bool.{and_parts, and_from, and_right, leb-true, le-leb, both_ways, not-true, not_from_false}
use Rattle.std.proofs.lemmas.Bool.Decides.{same_from_decides, Decides-like, Decides-and, Decides-ltb}
use Rattle.std.proofs.lemmas.List.{drop_more}
use Rattle.std.proofs.lemmas.List.Folds.{list_all-append}
use Rattle.std.proofs.lemmas.Option.{slice_get-get_or}
use Rattle.std.specs.Option.{option_and_then}
use Rattle.std.specs.List.{cons_option, filter_map, slice_get, range_with_len, list_all}
use Rattle.std.specs.Str.{bytes_eq}
use Rattle.byte_classes.specs.Sets.{name}
use Rattle.text.proofs.Prefixes.{strip_is, strip_only}
use Rattle.text.specs.Takes.{stripped}
use Rattle.carrier.specs.Kinds.{Kind}
use Rattle.carrier.specs.Names.{is_name, member, distinct, Lists}
use Rattle.prefix.specs.Keys.{not_empty, name_after, names_after}
use Rattle.prefix.specs.Layers.{under, shown_under}
use Rattle.prefix.specs.Prefixes.{joins}

-- a name below gives the layer's name n exactly where it is prefix and n joined, and n is not empty
after-joined : (p n : List ℕ) → 0 < length n → name_after p (p ++ n) ≡ Some n
after-joined p [] h = absurd (omega arith)
after-joined p (b ∷ bs) h = ap not_empty (strip_is p (b ∷ bs))

full : (o : Option (List ℕ)) (n : List ℕ) → not_empty o ≡ Some n → (o ≡ Some n) × (0 < length n)
full None n e = let z : ◌≡◌ {A = ℕ} 0 1 = cc in absurd (omega arith)
full (Some []) n e = let z : ◌≡◌ {A = ℕ} 0 1 = cc in absurd (omega arith)
full (Some (b ∷ bs)) n e = let same : b ∷ bs ≡ n = cc in (e, omega (arith, ap length same))

after_is : (p k n : List ℕ) → name_after p k ≡ Some n → (0 < length n) × (k ≡ p ++ n)
after_is p k n e = let f = full (stripped p k) n e in (f.1, strip_only p k n f.0)

hit : Option (List ℕ) → List ℕ → Bool
hit None n = false
hit (Some m) n = bytes_eq m n

hit_decides : (o : Option (List ℕ)) (n : List ℕ) → Decides (hit o n) (o ≡ Some n)
unfolding hit
hit_decides None n = (λ t. absurd (both_ways false refl t), λ e. let z : ◌≡◌ {A = ℕ} 0 1 = cc in absurd (omega arith))
hit_decides (Some m) n = (λ t. ap (λ (l : List ℕ). Some l) ((bytes_eq-Decides m n).0 t), λ e. (bytes_eq-Decides m n).1 (cc))

hit_after : (p k n : List ℕ) → hit (name_after p k) n ≡ (ltb 0 (length n) && bytes_eq k (p ++ n))
hit_after p k n =
    same_from_decides _ _ (hit_decides (name_after p k) n)
    (Decides-like (ltb 0 (length n) && bytes_eq k (p ++ n)) (λ h. ap (name_after p) h.1 ∙ after-joined p n h.0) (after_is p k n) (Decides-and (ltb 0 (length n)) (bytes_eq k (p ++ n)) (Decides-ltb 0 (length n)) (bytes_eq-Decides k (p ++ n))))

member_more : (o : Option (List ℕ)) (n : List ℕ) (ns : List (List ℕ)) → member n (cons_option o ns) ≡ (hit o n || member n ns)
unfolding hit
member_more None n ns = refl
member_more (Some m) n ns = refl

gather : (a s m r : Bool) → r ≡ (a && m) → ((a && s) || r) ≡ (a && (s || m))
gather true s m r e = ap (λ (x : Bool). s || x) e
gather false s m r e = e

and_false : (a : Bool) → (a && false) ≡ false
and_false a = and_right a false refl

pub member-after : (p n : List ℕ) (ks : List (List ℕ)) → member n (names_after p ks) ≡ (ltb 0 (length n) && member (p ++ n) ks)
member-after p n [] = sym (and_false (ltb 0 (length n)))
member-after p n (k ∷ ks) =
    member_more (name_after p k) n (names_after p ks)
    ∙ ap (λ (t : Bool). t || member n (names_after p ks)) (hit_after p k n)
    ∙ gather (ltb 0 (length n)) (bytes_eq k (p ++ n)) (member (p ++ n) ks) (member n (names_after p ks)) (member-after p n ks)

-- each stands once
once_after : (p : List ℕ) (ks : List (List ℕ)) → distinct ks ≡ true → distinct (names_after p ks) ≡ true
once_after p [] h = refl
once_after p (k ∷ ks) h = by (name_after p k) refl (and_parts (not (member k ks)) (distinct ks) h) (once_after p ks) where
  by : (o : Option (List ℕ)) → name_after p k ≡ o → (not (member k ks) ≡ true) × (distinct ks ≡ true) → (distinct ks ≡ true → distinct (names_after p ks) ≡ true) → distinct (cons_option o (names_after p ks)) ≡ true
  by None e parts ih = ih parts.1
  by (Some n) e parts ih =
      let whole : k ≡ p ++ n = (after_is p k n e).1 in
      let nowhere : member (p ++ n) ks ≡ false = ap (λ (l : List ℕ). member l ks) (sym whole) ∙ not-true (member k ks) parts.0 in
      and_from (not (member n (names_after p ks))) _ (not_from_false _ (member-after p n ks ∙ and_right (ltb 0 (length n)) _ nowhere)) (ih parts.1)

-- the end of a lawful name
all_end : (xs ys : List ℕ) → list_all name (xs ++ ys) ≡ true → list_all name ys ≡ true
all_end xs ys h = (and_parts (list_all name xs) (list_all name ys) (sym (list_all-append name xs ys) ∙ h)).1

joins-below : (p n : List ℕ) → is_name (p ++ n) ≡ true → joins p n ≡ ltb 0 (length n)
unfolding is_name joins
joins-below p n e =
    let outer = and_parts (ltb 0 (length (p ++ n))) _ e in
    let inner = and_parts (leb (length (p ++ n)) 64) (list_all name (p ++ n)) outer.1 in
    let fits : length p + length n ≤ 64 = omega (arith, leb-true (length (p ++ n)) 64 inner.0, length-append p n) in
    rw (le-leb (length n) 64 (omega arith), all_end p n inner.1, le-leb (length p + length n) 64 fits) (by (ltb 0 (length n)))
  where
    by : (t : Bool) → ((t && true) && true) ≡ t
    by true = refl
    by false = refl

module _ (K : Kind) (h : K.Held) (p : List ℕ) (ks : List (List ℕ)) (below : Lists ks (K.shown h)) where
  listed : (n : List ℕ) (o : Option (List ℕ)) → K.shown h (p ++ n) ≡ o → (ltb 0 (length n) && is_some o) ≡ is_some (cond (joins p n) o None)
  listed n None e = and_false (ltb 0 (length n)) ∙ by (joins p n) where
    by : (t : Bool) → false ≡ is_some {T = List ℕ} (cond t None None)
    by true = refl
    by false = refl
  listed n (Some v) e = by (ltb 0 (length n)) (joins p n) (joins-below p n (K.shown_lawful h (p ++ n) v e).name) where
    by : (a j : Bool) → j ≡ a → (a && true) ≡ is_some (cond j (Some v) None)
    by true j f = rw f
    by false j f = rw f

  pub lists_under : Lists (names_after p ks) (shown_under K (under p h))
  lists_under = record {
    shown = λ n. member-after p n ks ∙ ap (λ (t : Bool). ltb 0 (length n) && t) (below.shown (p ++ n)) ∙ listed n (K.shown h (p ++ n)) refl;
    once = once_after p ks below.once;
  }

-- the names of the layer, one for each place below that has one; d of the names below, xs, stand before ks
module _ (p : List ℕ) (xs : List (List ℕ)) where
  abbrev pub here : ℕ → Option (List ℕ)
  here i = option_and_then (name_after p) (slice_get xs i)

  by_length : (d : ℕ) (k : List ℕ) (ks : List (List ℕ)) → drop d xs ≡ k ∷ ks → d < length xs
  by_length d k ks e = omega (arith, ap length e, length-drop d xs)

  ahead : (d : ℕ) (k : List ℕ) (ks : List (List ℕ)) → drop d xs ≡ k ∷ ks → (slice_get xs d ≡ Some k) × (drop (d + 1) xs ≡ ks)
  ahead d k ks e =
      let more : d < length xs = by_length d k ks e in
      let next = drop_more xs d k more in
      (slice_get-get_or xs d k more ∙ ap (λ (n : List ℕ). Some n) cc, cc)

  listed_from : (d : ℕ) (ks : List (List ℕ)) → drop d xs ≡ ks → filter_map here (range_with_len d (length ks)) ≡ names_after p ks
  listed_from d [] e = refl
  listed_from d (k ∷ ks) e =
      let a = ahead d k ks e in
      ap (λ (o : Option (List ℕ)). cons_option o (filter_map here (range_with_len (d + 1) (length ks)))) (ap (option_and_then (name_after p)) a.0)
      ∙ ap (cons_option (name_after p k)) (listed_from (d + 1) ks a.1)

  pub names_below : filter_map here (range_with_len 0 (length xs)) ≡ names_after p xs
  names_below = listed_from 0 xs refl
