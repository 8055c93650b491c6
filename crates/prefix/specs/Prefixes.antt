-- Prefixes, and names joined to them. Assumes nothing.
use Rattle.std.specs.Prelude.{ℕ, ◌+◌, Bool, cond, ◌&&◌, List, ◌++◌, length, Some, None, Ok, Err, Option, Result, nat_le, nat_lt}
use Rattle.byte_classes.specs.Sets.{name}
use Rattle.text.specs.Inlines.{text_of}
use Rattle.std.specs.List.{list_all}
use Rattle.carrier.specs.Names.{is_name}
use Rattle.prefix.specs.declared.prefixes.Prefix.{Prefix}
use Rattle.prefix.specs.declared.prefixes.UnlawfulPrefix.{UnlawfulPrefix}

-- a prefix has 1 to 16 name bytes
unfoldable pub is_prefix : List ℕ → Bool
is_prefix p = nat_lt 0 (length p) && (nat_le (length p) 16 && list_all name p)

-- the bytes of a prefix
abbrev pub front : Prefix → List ℕ
front p = text_of p.text

-- what making a prefix answers
abbrev pub made : Result Prefix UnlawfulPrefix → Result (List ℕ) UnlawfulPrefix
made (Ok p) = Ok (front p)
made (Err e) = Err e

abbrev pub prefix_answer : List ℕ → Result (List ℕ) UnlawfulPrefix
prefix_answer bytes = cond (is_prefix bytes) (Ok bytes) (Err (record {}))

-- a refusal's number
abbrev pub number : UnlawfulPrefix → ℕ
number e = 10

-- a name can be joined where it has at most 64 bytes together with the prefix
unfoldable pub joins : List ℕ → List ℕ → Bool
joins p n = is_name n && nat_le (length p + length n) 64

-- prefix and name joined
abbrev pub joined : List ℕ → List ℕ → Option (List ℕ)
joined p n = cond (joins p n) (Some (p ++ n)) None
