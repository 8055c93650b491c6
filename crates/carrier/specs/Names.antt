-- Names, lists of names, and tables from names to values. Assumes nothing.
use Rattle.std.specs.Prelude.{◌≡◌, ℕ, Bool, true, false, not, ◌&&◌, ◌||◌, List, [], ◌∷◌, length, is_some, Option, nat_le, nat_lt}
use Rattle.std.specs.List.{list_all}
use Rattle.std.specs.Str.{bytes_eq}
use Rattle.byte_classes.specs.Sets.{name}

-- a name has 1 to 64 name bytes
unfoldable pub is_name : List ℕ → Bool
is_name n = nat_lt 0 (length n) && (nat_le (length n) 64 && list_all name n)

-- what each name shows
abbrev pub Table : Type 0
Table = List ℕ → Option (List ℕ)

abbrev pub member : List ℕ → List (List ℕ) → Bool
member n [] = false
member n (k ∷ ks) = bytes_eq k n || member n ks

abbrev pub distinct : List (List ℕ) → Bool
distinct [] = true
distinct (k ∷ ks) = not (member k ks) && distinct ks

-- the names that show a value, each once
pub record Lists (names : List (List ℕ)) (table : Table) : Type 0 where
  pub shown : (n : List ℕ) → member n names ≡ is_some (table n)
  pub once : distinct names ≡ true
