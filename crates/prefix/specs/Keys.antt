-- The names of a layer, from the names below. Assumes nothing.
use Rattle.std.specs.Prelude.{ℕ, List, [], ◌∷◌, Some, None, Option, filter_map}
use Rattle.text.specs.Takes.{stripped}

-- at least one byte
abbrev pub not_empty : Option (List ℕ) → Option (List ℕ)
not_empty None = None
not_empty (Some []) = None
not_empty (Some (b ∷ bs)) = Some (b ∷ bs)

-- what stands after the prefix in a name below, if it begins with the prefix and something does
abbrev pub name_after : List ℕ → List ℕ → Option (List ℕ)
name_after p k = not_empty (stripped p k)

-- the names of the layer, in the order of those below
abbrev pub names_after : List ℕ → List (List ℕ) → List (List ℕ)
names_after p ks = filter_map (name_after p) ks
