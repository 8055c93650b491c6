-- One byte more is replaced or kept. Assumes nothing.
use Rattle.std.proofs.Common.{◌≡◌, ℕ, ◌+◌, ◌<◌, Bool, true, false, List, ◌++◌, map, length, get_or, take, drop, set, sym, ap, ◌∙◌}
use Rattle.std.proofs.lemmas.List.Edits.{map_over_more}
use Rattle.std.proofs.lemmas.List.{get_or_default}
use Rattle.std.proofs.lemmas.Bool.{cond-true, cond-false}
use Rattle.text.specs.Texts.{replaced}

module _ (p : ℕ → Bool) (by : ℕ) (xs ys : List ℕ) (i : ℕ) where
  -- the text so far: done below n, as it was from there on
  abbrev Done : List ℕ → ℕ → Type 0
  Done zs n = zs ≡ map (replaced p by) (take n xs) ++ drop n xs

  written : i < length xs → i < length ys → Done ys i → Done (set ys i (replaced p by (get_or ys i 0))) (i + 1)
  written h k inv = map_over_more (replaced p by) xs ys i (get_or ys i 0) h inv (get_or_default ys i 0 (get_or ys i 0) k)

  pub replaced_more : i < length xs → i < length ys → Done ys i → p (get_or ys i 0) ≡ true → Done (set ys i by) (i + 1)
  replaced_more h k inv e = ap (set ys i) (sym (cond-true (p (get_or ys i 0)) by (get_or ys i 0) e)) ∙ written h k inv

  pub kept_more : i < length xs → i < length ys → Done ys i → p (get_or ys i 0) ≡ false → Done (set ys i (get_or ys i 0)) (i + 1)
  kept_more h k inv e = ap (set ys i) (sym (cond-false (p (get_or ys i 0)) by (get_or ys i 0) e)) ∙ written h k inv
