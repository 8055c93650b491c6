-- Items in use, some of them replaced by others. Assumes nothing.
use Rattle.std.proofs.Common.{◌≡◌, ℕ, Bool, true, false, leb, ◌+◌, ◌-◌, ◌<◌, ◌≤◌, refl, List, ◌++◌, length, take, drop, vec_items, sym, ap, ◌∙◌, arith}
use lib.Seq.{paste}
use borrow.Rule.Slice.PartMut.{put_mid}
use Rattle.std.proofs.lemmas.List.{append_assoc, length-append, length-take, length-take-le, length-drop, take_at, drop_at, take-take, take-append-le, drop-take, drop-drop}
use Rattle.std.proofs.lemmas.Bool.{leb-true, leb-false}
use Rattle.store.specs.declared.in_use.InUse.{InUse}
use Rattle.store.specs.Uses.{in_use, room}

module _ {T : Type 0} (b : InUse T) where
  pub used-is : length (in_use b) ≡ b.used
  unfolding in_use
  used-is = length-take-le b.used (vec_items b.memory) (omega (arith, b.within, b.memory.ok.0))

  pub in_room : length (in_use b) ≤ room b
  in_room = omega (arith, used-is, b.within)

module _ {X : Type 0} (xs new : List X) (used at old k : ℕ) (within : at + old ≤ used) (inside : used ≤ length xs) (room : (used - old) + length new ≤ length xs) (k-is : k ≡ length new) where
  rest : List X
  rest = drop ((at + length new) + (used - (at + old))) xs

  -- what follows the old items
  back : List X
  back = drop (at + old) (take used xs)

  -- after the items past the old ones have moved to their new place
  abbrev pub moved : List X
  moved = paste xs (at + length new) (drop (at + old) xs) (used - (at + old))

  moved_is : moved ≡ take (at + length new) xs ++ (back ++ rest)
  unfolding rest back
  moved_is =
      let whole : (at + old) + (used - (at + old)) ≡ used = omega arith in
      let part : take (used - (at + old)) (drop (at + old) xs) ≡ back = sym (drop-take (at + old) (used - (at + old)) xs) ∙ ap (λ n. drop (at + old) (take n xs)) whole in
      append_assoc (take (at + length new) xs) (take (used - (at + old)) (drop (at + old) xs)) rest
      ∙ ap (λ ys. take (at + length new) xs ++ (ys ++ rest)) part

  length_back : length back ≡ used - (at + old)
  unfolding back
  length_back = length-drop (at + old) (take used xs) ∙ ap (λ n. n - (at + old)) (length-take-le used xs inside)

  replaced : take ((used - old) + length new) (put_mid at k moved new) ≡ take at xs ++ (new ++ drop (at + old) (take used xs))
  unfolding back
  replaced =
      let front_length : length (take (at + length new) xs) ≡ at + length new = length-take-le (at + length new) xs (omega arith) in
      let front-within : at ≤ length (take (at + length new) xs) = omega arith in
      let front : take at moved ≡ take at xs =
      ap (take at) moved_is ∙ take-append-le at (take (at + length new) xs) (back ++ rest) front-within ∙ take-take at (at + length new) xs (omega arith) in
      let past : drop k (drop at moved) ≡ back ++ rest =
      drop-drop k at moved ∙ ap (λ n. drop (at + n) moved) k-is ∙ ap (drop (at + length new)) moved_is ∙ drop_at (take (at + length new) xs) (back ++ rest) (at + length new) front_length in
      let la : length (take at xs) ≡ at = length-take-le at xs (omega arith) in
      let ln : length (new ++ back) ≡ length new + length back = length-append new back in
      let all : length (take at xs ++ (new ++ back)) ≡ (used - old) + length new = length-append (take at xs) (new ++ back) ∙ omega (arith, length_back) in
      ap (take ((used - old) + length new))
      ((λ i. front i ++ (new ++ past i))
      ∙ ap (λ ys. take at xs ++ ys) (sym (append_assoc new back rest))
      ∙ sym (append_assoc (take at xs) (new ++ back) rest))
      ∙ take_at (take at xs ++ (new ++ back)) rest ((used - old) + length new) all

  -- the same of what the `Vec` holds then, by the three calls
  pub replaced_in : (vs ys ns zs : List X) (len : ℕ) → len ≡ length xs → vs ≡ moved → ys ≡ vs → ns ≡ new
      → take ((used - old) + length new) (take len (put_mid at k ys ns ++ zs)) ≡ take at (take used xs) ++ (new ++ drop (at + old) (take used xs))
  unfolding back
  replaced_in vs ys ns zs len l e f n =
      let m : ℕ = (used - old) + length new in
      let w : take m (put_mid at k ys ns) ≡ take at xs ++ (new ++ back) = (λ i. take m (put_mid at k ((f ∙ e) i) (n i))) ∙ replaced in
      let la : length (take at xs) ≡ at = length-take-le at xs (omega arith) in
      let ln : length (new ++ back) ≡ length new + length back = length-append new back in
      let all : length (take m (put_mid at k ys ns)) ≡ m = ap length w ∙ length-append (take at xs) (new ++ back) ∙ omega (arith, length_back) in
      let enough : m ≤ length (put_mid at k ys ns) = omega (arith, length-take m (put_mid at k ys ns)) in
      take-take m len (put_mid at k ys ns ++ zs) (omega arith) ∙ take-append-le m (put_mid at k ys ns) zs enough ∙ w ∙ ap (λ ys. ys ++ (new ++ back)) (sym (take-take at used xs (omega arith)))

-- two bounds that say the same
pub bounds-agree : (a b c d : ℕ) → (a ≤ b → c ≤ d) → (c ≤ d → a ≤ b) → leb a b ≡ leb c d
bounds-agree a b c d f g = by (leb a b) (leb c d) refl refl where
  by : (x y : Bool) → leb a b ≡ x → leb c d ≡ y → x ≡ y
  by true true p q = refl
  by false false p q = refl
  by true false p q = let h : c ≤ d = f (leb-true a b p) in let k : d < c = leb-false c d q in absurd (omega arith)
  by false true p q = let h : a ≤ b = g (leb-true c d q) in let k : b < a = leb-false a b p in absurd (omega arith)
