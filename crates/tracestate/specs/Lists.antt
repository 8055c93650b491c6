-- A tracestate list. Assumes nothing.
use Rattle.std.specs.Prelude.{ℕ, cond, List, [], ◌∷◌, length, take, Some, None, codes, Option, ◌==◌}
use Rattle.std.specs.Option.{option_map}
use Rattle.text.specs.Splits.{pieces}
use Rattle.text.specs.Trims.{trimmed}
use Rattle.tracestate.specs.Members.{Pair, member_of, newer, value_at, last_value}
use Rattle.tracestate.specs.declared.read.Tracestate.{Tracestate}

-- one more member in front of some, if all of them are lawful
abbrev pub with_member : Option Pair → Option (List Pair) → Option (List Pair)
with_member None ms = None
with_member (Some m) None = None
with_member (Some m) (Some ms) = Some (m ∷ ms)

-- the members of some pieces, blanks off; an empty piece has none, and one that is unlawful drops them all
abbrev pub members_of : List (List ℕ) → Option (List Pair)
members_of [] = Some []
members_of (p ∷ ps) = cond (length (trimmed p) == 0) (members_of ps) (with_member (member_of (trimmed p)) (members_of ps))

-- the members of a tracestate, of which the first 32 pieces count; none if it is unlawful
unfoldable pub tracestate : List ℕ → Option (List Pair)
tracestate s = members_of (take 32 (pieces 0x2C s))

-- the value that counts for a key: the last
unfoldable pub counting : List ℕ → List Pair → Option (List ℕ)
counting key ms = last_value key ms

-- what the members say to us: the values of `dd` and `ot`
pub record Found : Type 0 where
  pub dd : Option (List ℕ)
  pub ot : Option (List ℕ)

abbrev pub found : List Pair → Found
found ms = record { dd = counting (codes "dd") ms; ot = counting (codes "ot") ms }

abbrev pub shown : Tracestate → Found
shown t = record { dd = option_map (λ x. x.now) t.dd; ot = option_map (λ x. x.now) t.ot }

-- what a tracestate says, or none if it is unlawful
abbrev pub read_tracestate : List ℕ → Option Found
read_tracestate s = option_map found (tracestate s)

-- what is found once a member more, or a piece more, is read
abbrev pub seen : Found → Pair → Found
seen f m = record { dd = newer (value_at (codes "dd") m) f.dd; ot = newer (value_at (codes "ot") m) f.ot }

abbrev pub read_piece : Found → List ℕ → Option Found
read_piece f p = cond (length (trimmed p) == 0) (Some f) (option_map (seen f) (member_of (trimmed p)))
