-- An ot value sought among carried pieces. Assumes nothing.
use Rattle.std.proofs.Common.{◌≡◌, ℕ, ◌||◌, List, [], ◌∷◌, refl, ap}
use Rattle.std.specs.List.{list_any}
use Rattle.statelist.specs.Written.{carries_ot, has_value}
use Rattle.text.specs.Trims.{trimmed}
use Rattle.tracestate.specs.Members.{member_of}

pub sought : (v : List ℕ) (ps : List (List ℕ)) → list_any (λ p. has_value v (member_of (trimmed p))) ps ≡ carries_ot v ps
unfolding carries_ot
sought v [] = refl
sought v (p ∷ ps) = ap (λ t. has_value v (member_of (trimmed p)) || t) (sought v ps)
