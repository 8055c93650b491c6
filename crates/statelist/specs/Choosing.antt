-- Which members a list that is carried gives to the one that is written, step by step. Assumes nothing.
use Rattle.std.specs.Prelude.{ℕ, Bool, false, cond, List, Some, None, Option}
use Rattle.std.specs.Option.{option_map}
use Rattle.statelist.specs.Written.{passes, carries_ot}
use Rattle.statelist.specs.declared.choose.Passing.{Passing}
use Rattle.tracestate.specs.Members.{Pair}

-- the ot value, and the list that was carried
abbrev pub given : Passing → Option (List ℕ)
given p = option_map (λ x. x.now) p.ot

abbrev pub listed : Passing → Option (List ℕ)
listed p = option_map (λ x. x.now) p.carried

-- a piece is passed on if it is a member, and that is
abbrev pub passes_on : Option (List ℕ) → Option Pair → Bool
passes_on ot None = false
passes_on ot (Some m) = passes ot m

-- the ot value that is written as a member of its own: one that the pieces do not carry
abbrev pub ot_to_add : Option (List ℕ) → List (List ℕ) → Option (List ℕ)
ot_to_add None ps = None
ot_to_add (Some v) ps = cond (carries_ot v ps) None (Some v)
