-- Blanks off both ends: there is one such text, and it is the trimmed one. Assumes nothing.
use Rattle.std.proofs.Common.{◌≡◌, ℕ, ◌+◌, ◌-◌, Bool, true, false, cond, not, ◌&&◌, List, [], ◌∷◌, ◌++◌, reverse, length, take, drop, sym, refl, ap, ◌∙◌, append-nil, one-add, arith, length-drop}
use mathlib.Core.List.{reverse-append, reverse-reverse}
use Rattle.std.proofs.lemmas.List.{take_at, drop_at, take-append-drop, length-reverse}
use Rattle.std.proofs.lemmas.Bool.{and_parts, not-true, cond-true, cond-false}
use Rattle.std.specs.List.{prefix_len, list_all}
use Rattle.byte_classes.specs.Sets.{blank}
use Rattle.text.specs.Laws.{bare, TrimIs, TrimOnly}
use Rattle.text.specs.Trims.{without_front, without_back, trimmed}
use Rattle.text.proofs.Alls.{all_append, all-reverse}

module _ (p : ℕ → Bool) where
  leading_front : (xs ys : List ℕ) → list_all p xs ≡ true → prefix_len p (xs ++ ys) ≡ length xs + prefix_len p ys
  leading_front [] ys h = omega arith
  leading_front (x ∷ xs) ys h =
      let parts = and_parts (p x) (list_all p xs) h in
      cond-true (p x) (1 + prefix_len p (xs ++ ys)) 0 parts.0 ∙ omega (arith, leading_front xs ys parts.1)

  leading_bare : (xs : List ℕ) → bare p xs ≡ true → prefix_len p xs ≡ 0
  leading_bare [] h = refl
  leading_bare (x ∷ xs) h = cond-false (p x) (1 + prefix_len p xs) 0 (not-true (p x) h)

  -- the front that passes is taken off whole
  pub front_off : (xs ys : List ℕ) → list_all p xs ≡ true → bare p ys ≡ true → without_front p (xs ++ ys) ≡ ys
  unfolding without_front
  front_off xs ys h k =
      let n : length xs ≡ prefix_len p (xs ++ ys) = omega (arith, leading_front xs ys h, leading_bare ys k) in
      drop_at xs ys (prefix_len p (xs ++ ys)) n

  front-step : (t : Bool) (x : ℕ) (xs : List ℕ) (n : ℕ) → p x ≡ t → (list_all p (take n xs) ≡ true) × (bare p (drop n xs) ≡ true) → (list_all p (take (cond t (1 + n) 0) (x ∷ xs)) ≡ true) × (bare p (drop (cond t (1 + n) 0) (x ∷ xs)) ≡ true)
  front-step true x xs n e h = rw one-add (ap (λ t. t && list_all p (take n xs)) e ∙ h.0, h.1)
  front-step false x xs n e h = (refl, ap not e)

  -- it passes, and what is left does not begin with more of it
  pub front-passes : (xs : List ℕ) → (list_all p (take (prefix_len p xs) xs) ≡ true) × (bare p (drop (prefix_len p xs) xs) ≡ true)
  front-passes [] = (refl, refl)
  front-passes (x ∷ xs) = front-step (p x) x xs (prefix_len p xs) refl (front-passes xs)

  -- the end of a text is the front of its mirror image
  mirrored : (n : ℕ) (s : List ℕ) → take (length s - n) s ≡ reverse (drop n (reverse s))
  mirrored n s =
      let r = reverse s in
      let back = reverse (drop n r) in
      let parts : s ≡ back ++ reverse (take n r) = sym (reverse-reverse s) ∙ ap reverse (sym (take-append-drop n r)) ∙ reverse-append (take n r) (drop n r) in
      let long : length back ≡ length s - n = length-reverse (drop n r) ∙ length-drop n r ∙ ap (λ k. k - n) (length-reverse s) in
      ap (take (length s - n)) parts ∙ take_at back (reverse (take n r)) (length s - n) long

  pub back_mirrored : (s : List ℕ) → without_back p s ≡ reverse (without_front p (reverse s))
  unfolding without_back without_front
  back_mirrored s = mirrored (prefix_len p (reverse s)) s

  pub back_off : (xs ys : List ℕ) → bare p (reverse xs) ≡ true → list_all p ys ≡ true → without_back p (xs ++ ys) ≡ xs
  back_off xs ys h k =
      back_mirrored (xs ++ ys) ∙ ap (λ l. reverse (without_front p l)) (reverse-append xs ys)
      ∙ ap reverse (front_off (reverse ys) (reverse xs) (all-reverse p ys k) h) ∙ reverse-reverse xs

  bare-front : (xs ys : List ℕ) → bare p (xs ++ ys) ≡ true → bare p xs ≡ true
  bare-front [] ys h = refl
  bare-front (x ∷ xs) ys h = h

  record Ends (s t : List ℕ) : Type 0 where
    back : List ℕ
    whole : s ≡ t ++ back
    passes : list_all p back ≡ true
    is_bare : bare p (reverse t) ≡ true

  ends : (s : List ℕ) → Ends s (without_back p s)
  unfolding without_front
  ends s =
      let r = reverse s in
      let n = prefix_len p r in
      let t = back_mirrored s in
      let w = drop n r in
      let parts : s ≡ reverse w ++ reverse (take n r) = sym (reverse-reverse s) ∙ ap reverse (sym (take-append-drop n r)) ∙ reverse-append (take n r) w in
      record {
        back = reverse (take n r);
        whole = parts ∙ ap (λ l. l ++ reverse (take n r)) (sym t);
        passes = all-reverse p (take n r) (front-passes r).0;
        is_bare = ap (λ l. bare p (reverse l)) t ∙ ap (bare p) (reverse-reverse w) ∙ (front-passes r).1;
      }

pub trim_is : TrimIs
unfolding trimmed without_front
trim_is s =
    let n = prefix_len blank s in
    let u = drop n s in
    let e = ends blank u in
    record {
      front = take n s;
      back = e.back;
      whole = sym (take-append-drop n s) ∙ ap (λ l. take n s ++ l) e.whole;
      front_blank = (front-passes blank s).0;
      back_blank = e.passes;
      starts_bare = bare-front blank (trimmed s) e.back (ap (bare blank) (sym e.whole) ∙ (front-passes blank s).1);
      ends_bare = e.is_bare;
    }

nothing_left : (front back : List ℕ) → list_all blank front ≡ true → list_all blank back ≡ true → trimmed (front ++ back) ≡ []
unfolding trimmed
nothing_left front back h k =
    let all-off : without_front blank (front ++ back) ≡ [] = ap (without_front blank) (sym (append-nil (front ++ back))) ∙ front_off blank (front ++ back) [] (all_append blank front back h k) refl in
    ap (without_back blank) all-off ∙ back_off blank [] [] refl refl

only : (front t back : List ℕ) → list_all blank front ≡ true → list_all blank back ≡ true → bare blank t ≡ true → bare blank (reverse t) ≡ true → t ≡ trimmed (front ++ (t ++ back))
unfolding trimmed
only front [] back f k h e = sym (nothing_left front back f k)
only front (b ∷ bs) back f k h e = sym (ap (without_back blank) (front_off blank front (b ∷ (bs ++ back)) f h) ∙ back_off blank (b ∷ bs) back e k)

pub trim_only : TrimOnly
trim_only s t h = only h.front t h.back h.front_blank h.back_blank h.starts_bare h.ends_bare ∙ ap trimmed (sym h.whole)
