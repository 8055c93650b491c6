-- One turn of a loop over a chain of which it is known what it has left. Assumes nothing.
use Rattle.std.proofs.Common.{◌≡◌, List, [], ◌∷◌, Some, None, Option, sym, refl, ap}
use Rattle.std.proofs.lemmas.Iterator.{YieldsList}
use Rattle.std.specs.Iterator.{AlwaysYields}

module _ {S A B : Type 0} (steps : S → Option A → S → Type 0) (v : A → B) (s t : S) where
  item : (x : A) (all : List B) → AlwaysYields steps v s all → steps s (Some x) t → (more : List B) × (all ≡ v x ∷ more) × AlwaysYields steps v t more
  item x [] g p = absurd (g x t p)
  item x (y ∷ ys) g p = let h = g.1 x t p in (ys, ap (λ z. z ∷ ys) (sym h.0), h.1)

  end : (all : List B) → AlwaysYields steps v s all → steps s None t → all ≡ []
  end [] g p = refl
  end (y ∷ ys) g p = absurd (g.0 t p)

module _ {S A B : Type 0} {steps : S → Option A → S → Type 0} {v : A → B} {s : S} {all : List B} (g : YieldsList steps v s all) (t : S) where
  -- an item came, and so many are left
  pub came : (x : A) → steps s (Some x) t → (more : List B) × (all ≡ v x ∷ more) × YieldsList steps v t more
  came x p = let h = item steps v s t x all g.runs p in (h.0, h.1, record { runs = h.2 })

  pub ended : steps s None t → all ≡ []
  ended p = end steps v s t all g.runs p
