-- A text parted at a byte. Assumes nothing.
use Rattle.std.specs.Prelude.{ℕ, Bool, cond, not, List, [], ◌∷◌, Some, None, Option, ◌==◌}
use Rattle.std.specs.List.{prefix_len}
use Rattle.std.specs.Option.{option_map}

abbrev pub other : ℕ → ℕ → Bool
other c b = not (b == c)

-- how many bytes stand before the first `c`: all of them where there is none
abbrev pub first_at : ℕ → List ℕ → ℕ
first_at c s = prefix_len (other c) s

abbrev pub after : ℕ → List ℕ × List ℕ → List ℕ × List ℕ
after b parts = (b ∷ parts.0, parts.1)

-- what stands before the first `c` and what stands after it
unfoldable pub split_once : ℕ → List ℕ → Option (List ℕ × List ℕ)
split_once c [] = None
split_once c (b ∷ bs) = cond (b == c) (Some ([], bs)) (option_map (after b) (split_once c bs))

abbrev pub on_first : ℕ → List (List ℕ) → List (List ℕ)
on_first b [] = (b ∷ []) ∷ []
on_first b (p ∷ ps) = (b ∷ p) ∷ ps

-- the texts between the separators: one more than there are separators, so one for the empty text
unfoldable pub pieces : ℕ → List ℕ → List (List ℕ)
pieces c [] = [] ∷ []
pieces c (b ∷ bs) = cond (b == c) ([] ∷ pieces c bs) (on_first b (pieces c bs))
