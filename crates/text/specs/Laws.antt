-- What the parts of a text are, without saying how they are found: each relation has one solution, and the definitions give it.
-- Assumes nothing.
use Rattle.std.specs.Prelude.{◌≡◌, ℕ, Bool, true, not, List, [], ◌∷◌, ◌++◌, reverse, Some, None}
use Rattle.std.specs.List.{AllByRecursion, list_all}
use Rattle.byte_classes.specs.Sets.{blank}
use Rattle.text.specs.Splits.{other, split_once, pieces}
use Rattle.text.specs.Takes.{stripped}
use Rattle.text.specs.Trims.{trimmed}

-- no byte in front that passes
abbrev pub bare : (ℕ → Bool) → List ℕ → Bool
bare p [] = true
bare p (b ∷ bs) = not (p b)

-- t is what is left of s once blanks are off both ends
pub record Trims (s t : List ℕ) : Type 0 where
  pub front : List ℕ
  pub back : List ℕ
  pub whole : s ≡ front ++ (t ++ back)
  pub front_blank : list_all blank front ≡ true
  pub back_blank : list_all blank back ≡ true
  pub starts_bare : bare blank t ≡ true
  pub ends_bare : bare blank (reverse t) ≡ true

abbrev pub TrimIs : Type 0
TrimIs = (s : List ℕ) → Trims s (trimmed s)

abbrev pub TrimOnly : Type 0
TrimOnly = (s t : List ℕ) → Trims s t → t ≡ trimmed s

-- a text without the byte `c`
abbrev pub Lacks : ℕ → List ℕ → Type 0
Lacks c s = list_all (other c) s ≡ true

-- a text is parted where its first `c` stands, and only there
abbrev pub SplitFound : Type 0
SplitFound = (c : ℕ) (key value : List ℕ) → Lacks c key → split_once c (key ++ c ∷ value) ≡ Some (key, value)

abbrev pub SplitParts : Type 0
SplitParts = (c : ℕ) (s key value : List ℕ) → split_once c s ≡ Some (key, value) → (s ≡ key ++ c ∷ value) × Lacks c key

abbrev pub SplitNone : Type 0
SplitNone = (c : ℕ) (s : List ℕ) → Lacks c s → split_once c s ≡ None

abbrev pub SplitLacks : Type 0
SplitLacks = (c : ℕ) (s : List ℕ) → split_once c s ≡ None → Lacks c s

-- texts joined by a separator
abbrev pub joined_by : ℕ → List (List ℕ) → List ℕ
joined_by c [] = []
joined_by c (p ∷ []) = p
joined_by c (p ∷ (q ∷ ps)) = p ++ c ∷ joined_by c (q ∷ ps)

-- the pieces of a text are the texts without the separator that make it up again
abbrev pub PiecesJoin : Type 0
PiecesJoin = (c : ℕ) (s : List ℕ) → (joined_by c (pieces c s) ≡ s) × AllByRecursion (Lacks c) (pieces c s)

abbrev pub PiecesOnly : Type 0
PiecesOnly = (c : ℕ) (p : List ℕ) (ps : List (List ℕ)) → AllByRecursion (Lacks c) (p ∷ ps) → pieces c (joined_by c (p ∷ ps)) ≡ p ∷ ps

-- a prefix is stripped exactly where it stands
abbrev pub StripIs : Type 0
StripIs = (prefix rest : List ℕ) → stripped prefix (prefix ++ rest) ≡ Some rest

abbrev pub StripOnly : Type 0
StripOnly = (prefix s rest : List ℕ) → stripped prefix s ≡ Some rest → s ≡ prefix ++ rest
