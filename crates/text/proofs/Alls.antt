-- A test of every byte, of parts. Assumes nothing.
use Rattle.std.proofs.Common.{◌≡◌, ℕ, Bool, true, List, [], ◌∷◌, ◌++◌, reverse, refl}
use mathlib.Core.List.{reverse-append}
use Rattle.std.proofs.lemmas.Bool.{and_parts, and_from}
use Rattle.std.specs.List.{list_all}

module _ (p : ℕ → Bool) where
  pub all_append : (xs ys : List ℕ) → list_all p xs ≡ true → list_all p ys ≡ true → list_all p (xs ++ ys) ≡ true
  all_append [] ys h k = k
  all_append (x ∷ xs) ys h k = let parts = and_parts (p x) (list_all p xs) h in and_from (p x) (list_all p (xs ++ ys)) parts.0 (all_append xs ys parts.1 k)

  pub all-reverse : (xs : List ℕ) → list_all p xs ≡ true → list_all p (reverse xs) ≡ true
  all-reverse [] h = refl
  all-reverse (x ∷ xs) h =
      let parts = and_parts (p x) (list_all p xs) h in
      rw (reverse-append (x ∷ []) xs) (all_append (reverse xs) (x ∷ []) (all-reverse xs parts.1) (and_from (p x) true parts.0 refl))
