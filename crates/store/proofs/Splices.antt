-- A part of a list, and others in its place. Assumes nothing.
use Rattle.std.proofs.Common.{◌≡◌, ℕ, ◌+◌, ◌-◌, ◌≤◌, List, ◌++◌, length, take, drop, sym, ap, ◌∙◌, arith}
use Rattle.std.proofs.lemmas.List.{take_at, drop_at, drop-drop, length-append, length-take-le, length-drop}
use Rattle.store.specs.Uses.{replaced}

module _ {X : Type 0} (s front mid back : List X) (at n : ℕ) (e : s ≡ front ++ (mid ++ back)) (l : length front ≡ at) (m : length mid ≡ n) where
  pub replaced-cut : (new : List X) → replaced s at n new ≡ front ++ (new ++ back)
  replaced-cut new =
      let first : take at s ≡ front = ap (take at) e ∙ take_at front (mid ++ back) at l in
      let last : drop (at + n) s ≡ back = ap (drop (at + n)) e ∙ sym (drop-drop n at (front ++ (mid ++ back))) ∙ ap (drop n) (drop_at front (mid ++ back) at l) ∙ drop_at mid back n m in
      λ i. first i ++ (new ++ last i)

  pub part_is : take n (drop at s) ≡ mid
  part_is = ap (λ ys. take n (drop at ys)) e ∙ ap (take n) (drop_at front (mid ++ back) at l) ∙ take_at mid back n m

pub length-replaced : {X : Type 0} (s new : List X) (at n : ℕ) → at + n ≤ length s → length (replaced s at n new) ≡ (length s - n) + length new
length-replaced s new at n h =
    length-append (take at s) (new ++ drop (at + n) s) ∙ omega (arith, length-take-le at s (omega arith), length-append new (drop (at + n) s), length-drop (at + n) s)
