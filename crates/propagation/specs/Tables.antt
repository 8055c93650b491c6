-- What a carrier shows once headers are unset and set, in the words of tables. Assumes nothing.
use Rattle.std.specs.Prelude.{◌≡◌, ℕ, Bool, true, false, cond, ◌||◌, List, [], ◌∷◌, Some, None, Ok, Err, Option, Result}
use Rattle.std.specs.Str.{bytes_eq}
use Rattle.carrier.specs.Kinds.{Kind}
use Rattle.carrier.specs.Names.{Table}
use Rattle.fault.specs.Faults.{header_text}
use Rattle.fault.specs.declared.Cause.{Cause}
use Rattle.fault.specs.declared.Header.{Header}
use Rattle.propagation.specs.Settings.{Setting, inject}

-- whether a name is one of these headers
abbrev pub named : List ℕ → List Header → Bool
named m [] = false
named m (n ∷ ns) = bytes_eq (header_text n) m || named m ns

-- a table in which a name shows this
abbrev pub showing : List ℕ → Option (List ℕ) → Table → Table
showing n v t m = cond (bytes_eq n m) v (t m)

abbrev pub unset_in : List Header → Table → Table
unset_in [] t = t
unset_in (n ∷ ns) t = unset_in ns (showing (header_text n) None t)

abbrev pub set_in : List Setting → Table → Table
set_in [] t = t
set_in (s ∷ ss) t = set_in ss (showing (header_text s.header) (Some s.value) t)

-- every header that is set is one of these
abbrev pub Within : List Header → List Setting → Type 0
Within names [] = Unit {0}
Within names (s ∷ ss) = (named (header_text s.header) names ≡ true) × Within names ss

-- an accepted inject shows its headers and no other of its form; a refused one shows none of its form
abbrev pub injected_table : Result (Unit {0}) Cause → List Header → List Setting → Table → Table
injected_table (Ok _) names ss t = set_in ss (unset_in names t)
injected_table (Err c) names ss t = unset_in names t

-- what an inject leaves shown, of every name
abbrev pub AllOrNone : Kind → Type 0
AllOrNone K =
    (names : List Header) (why : Option Cause) (ss : List Setting) (h : K.Held) → Within names ss → (m : List ℕ)
    → K.shown (inject K names why ss h).held m ≡ injected_table (inject K names why ss h).answer names ss (K.shown h) m
