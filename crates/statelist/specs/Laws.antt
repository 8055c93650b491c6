-- What a written list is, in the words of its reader and of the list that was carried. Assumes nothing.
use Rattle.std.specs.Prelude.{◌≡◌, ℕ, ◌≤◌, Bool, true, false, cond, not, ◌&&◌, ◌≢◌, ◌⊎◌, List, [], ◌∷◌, ◌++◌, map, length, drop, Some, None, codes, filter, Option, nat_lt}
use Rattle.std.specs.List.{AllByRecursion}
use Rattle.std.specs.Str.{bytes_eq}
use Rattle.text.specs.Splits.{pieces}
use Rattle.text.specs.Texts.{lawful}
use Rattle.text.specs.Trims.{trimmed}
use Rattle.tracestate.specs.Items.{has_key}
use Rattle.tracestate.specs.Lists.{Found, tracestate, read_tracestate}
use Rattle.tracestate.specs.Members.{Pair, pair, is_value, member_of}
use Rattle.statelist.specs.Written.{carried_pieces, carries_ot, written_members, written_list}

-- an ot value is a lawful value, if there is one
abbrev pub LawfulOt : Option (List ℕ) → Type 0
LawfulOt None = Unit {0}
LawfulOt (Some v) = is_value v ≡ true

-- what holds of every list that is written of lawful values, whatever was carried
abbrev pub OfWritten : (List ℕ → Option (List ℕ) → Option (List ℕ) → Type 0) → Type 0
OfWritten P = (dd : List ℕ) (ot list : Option (List ℕ)) → is_value dd ≡ true → LawfulOt ot → P dd ot list

-- the members of some pieces: each piece with its blanks off, if that is not empty
unfoldable pub member_texts : List (List ℕ) → List (List ℕ)
member_texts ps = filter (λ t. nat_lt 0 (length t)) (map trimmed ps)

-- a member is foreign if it is lawful and its key is neither dd's nor ot's
abbrev pub foreign_by : Option Pair → Bool
foreign_by None = false
foreign_by (Some m) = not (bytes_eq m.key (codes "dd")) && not (bytes_eq m.key (codes "ot"))

abbrev pub is_foreign : List ℕ → Bool
is_foreign t = foreign_by (member_of t)

-- the foreign members of some pieces, in their order
unfoldable pub foreign_of : List (List ℕ) → List (List ℕ)
foreign_of ps = filter is_foreign (member_texts ps)

-- the text is a lawful tracestate of 1 to 32 members: dd's first, and no other of that key.
-- The texts between its commas are the members themselves: none is empty or has blanks to take off
pub record LawfulList (dd : List ℕ) (ot list : Option (List ℕ)) : Type 0 where
  pub others : List Pair
  pub read : tracestate (written_list dd ot list) ≡ Some (pair (codes "dd", dd) ∷ others)
  pub few : length others ≤ 31
  pub one_dd : AllByRecursion (λ m. m.key ≢ codes "dd") others
  pub between_commas : pieces 0x2C (written_list dd ot list) ≡ written_members dd ot list
  pub no_blanks : member_texts (written_members dd ot list) ≡ written_members dd ot list
  pub each_read : map member_of (written_members dd ot list) ≡ map Some (pair (codes "dd", dd) ∷ others)

abbrev pub WrittenLawful : Type 0
WrittenLawful = OfWritten LawfulList

-- dd's member, and 31 of up to 513 bytes, each after a comma: a header value can be that long
pub record Fits (dd : List ℕ) (ot list : Option (List ℕ)) : Type 0 where
  pub short : length dd ≤ 255 → length (written_list dd ot list) ≤ 16192
  pub text : lawful (written_list dd ot list) ≡ true

abbrev pub WrittenFits : Type 0
WrittenFits = OfWritten Fits

-- the foreign members of the written list are the first ones of the carried list, in order and unchanged;
-- some of those are left out only where the list has 32 members
pub record ForeignFront (dd : List ℕ) (ot list : Option (List ℕ)) : Type 0 where
  pub left_out : List (List ℕ)
  pub front : foreign_of (carried_pieces list) ≡ foreign_of (pieces 0x2C (written_list dd ot list)) ++ left_out
  pub or_full : (left_out ≡ []) ⊎ (length (member_texts (pieces 0x2C (written_list dd ot list))) ≡ 32)

abbrev pub ForeignKept : Type 0
ForeignKept = OfWritten ForeignFront

-- what is read back of our own: dd, and ot where the list has such a member. All those have the ot value, and one that was not carried is there
pub record OwnRead (dd : List ℕ) (ot list : Option (List ℕ)) : Type 0 where
  pub members : List Pair
  pub read : tracestate (written_list dd ot list) ≡ Some members
  pub says : read_tracestate (written_list dd ot list) ≡ Some (record { dd = Some dd; ot = cond (has_key (codes "ot") members) ot None })
  pub one_ot : AllByRecursion (λ m. m.key ≡ codes "ot" → Some m.value ≡ ot) members
  pub new_ot_stands : (v : List ℕ) → ot ≡ Some v → carries_ot v (carried_pieces list) ≡ false → read_tracestate (written_list dd ot list) ≡ Some (record { dd = Some dd; ot = Some v })

abbrev pub OwnReadBack : Type 0
OwnReadBack = OfWritten OwnRead

-- what was read is written again with all its other members, whatever dd's value is then, and read again as it was written
pub record Settled (dd : List ℕ) (ot list : Option (List ℕ)) : Type 0 where
  pub found : Found
  pub read : read_tracestate (written_list dd ot list) ≡ Some found
  pub ot_lawful : LawfulOt found.ot
  pub others_stay : (next : List ℕ) → written_members next found.ot (Some (written_list dd ot list)) ≡ (codes "dd=" ++ next) ∷ drop 1 (written_members dd ot list)
  pub reads_again : (next : List ℕ) → is_value next ≡ true → read_tracestate (written_list next found.ot (Some (written_list dd ot list))) ≡ Some (record { dd = Some next; ot = found.ot })
  pub same_again : written_list dd found.ot (Some (written_list dd ot list)) ≡ written_list dd ot list

abbrev pub Settles : Type 0
Settles = OfWritten Settled
