-- A tracestate list, written: its members, and then their text. Assumes nothing.
use Rattle.std.specs.Prelude.{ℕ, Bool, false, cond, not, ◌&&◌, ◌||◌, List, [], ◌∷◌, ◌++◌, take, Some, None, codes, Option}
use Rattle.std.specs.Str.{bytes_eq}
use Rattle.text.specs.Laws.{joined_by}
use Rattle.text.specs.Splits.{pieces}
use Rattle.text.specs.Trims.{trimmed}
use Rattle.tracestate.specs.Members.{Pair, member_of}

-- the texts between the commas of a carried list
abbrev pub carried_pieces : Option (List ℕ) → List (List ℕ)
carried_pieces None = []
carried_pieces (Some list) = pieces 0x2C list

-- whether a value is the ot value
abbrev pub is_ot : Option (List ℕ) → List ℕ → Bool
is_ot None v = false
is_ot (Some o) v = bytes_eq o v

-- a lawful member is passed on unless it is dd's, or ot's with another value
abbrev pub passes : Option (List ℕ) → Pair → Bool
passes ot m = not (bytes_eq m.key (codes "dd")) && (not (bytes_eq m.key (codes "ot")) || is_ot ot m.value)

abbrev pub passed_if : Option (List ℕ) → List ℕ → Option Pair → List (List ℕ) → List (List ℕ)
passed_if ot text None rest = rest
passed_if ot text (Some m) rest = cond (passes ot m) (text ∷ rest) rest

-- the carried pieces that are passed on, blanks off
unfoldable pub passed : Option (List ℕ) → List (List ℕ) → List (List ℕ)
passed ot [] = []
passed ot (p ∷ ps) = passed_if ot (trimmed p) (member_of (trimmed p)) (passed ot ps)

-- whether a lawful carried piece is ot's with that value
abbrev pub has_value : List ℕ → Option Pair → Bool
has_value v None = false
has_value v (Some m) = bytes_eq m.key (codes "ot") && bytes_eq m.value v

unfoldable pub carries_ot : List ℕ → List (List ℕ) → Bool
carries_ot v [] = false
carries_ot v (p ∷ ps) = has_value v (member_of (trimmed p)) || carries_ot v ps

-- an ot value that is not carried is a member of its own
abbrev pub new_ot : Option (List ℕ) → List (List ℕ) → List (List ℕ)
new_ot None ps = []
new_ot (Some v) ps = cond (carries_ot v ps) [] ((codes "ot=" ++ v) ∷ [])

-- the members: dd first, then a new ot, then what is passed on, 32 at most
unfoldable pub written_members : List ℕ → Option (List ℕ) → Option (List ℕ) → List (List ℕ)
written_members dd ot list = take 32 ((codes "dd=" ++ dd) ∷ (new_ot ot (carried_pieces list) ++ passed ot (carried_pieces list)))

unfoldable pub written_list : List ℕ → Option (List ℕ) → Option (List ℕ) → List ℕ
written_list dd ot list = joined_by 0x2C (written_members dd ot list)
