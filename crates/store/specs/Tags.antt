-- Tags: keys with values, in ascending byte order of the keys. Assumes nothing.
use Rattle.std.specs.Prelude.{ℕ, Bool, true, false, cond, ◌&&◌, ◌||◌, List, [], ◌∷◌, ◌++◌, Some, None, filter, Option, ◌==◌, nat_lt}
use Rattle.std.specs.List.{list_all}
use Rattle.std.specs.Str.{bytes_eq}
use Rattle.text.specs.Texts.{lawful}

-- a key and its value
abbrev pub Tag : Type 0
Tag = List ℕ × List ℕ

-- byte order: the first bytes that differ decide, and a proper front comes first
unfoldable pub before : List ℕ → List ℕ → Bool
before [] [] = false
before [] (y ∷ ys) = true
before (x ∷ xs) [] = false
before (x ∷ xs) (y ∷ ys) = nat_lt x y || (x == y && before xs ys)

-- the tags whose keys come before k, and those whose keys come after it
abbrev pub below : List ℕ → List Tag → List Tag
below k ts = filter (λ t. before t.0 k) ts

abbrev pub above : List ℕ → List Tag → List Tag
above k ts = filter (λ t. before k t.0) ts

-- the tags with k set to v
unfoldable pub placed : List ℕ → List ℕ → List Tag → List Tag
placed k v ts = below k ts ++ (k, v) ∷ above k ts

-- the tags without k
unfoldable pub without : List ℕ → List Tag → List Tag
without k ts = below k ts ++ above k ts

-- the value of k
unfoldable pub looked : List ℕ → List Tag → Option (List ℕ)
looked k [] = None
looked k (t ∷ ts) = cond (bytes_eq t.0 k) (Some t.1) (looked k ts)

-- each key comes before all that follow it, so that no two are the same
unfoldable pub ascends : List Tag → Bool
ascends [] = true
ascends (t ∷ ts) = list_all (λ u. before t.0 u.0) ts && ascends ts

-- keys and values are lawful text
unfoldable pub all_lawful : List Tag → Bool
all_lawful ts = list_all (λ t. lawful t.0 && lawful t.1) ts

-- the keys and values one after the other
abbrev pub flat : List Tag → List ℕ
flat [] = []
flat (t ∷ ts) = t.0 ++ (t.1 ++ flat ts)

-- the two parts of a tag
abbrev pub key_of : Tag → List ℕ
key_of t = t.0

abbrev pub value_of : Tag → List ℕ
value_of t = t.1
