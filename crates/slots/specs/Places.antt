-- A row of places, each free or with a name and its value: what it shows and takes, and what setting and unsetting leave.
-- Assumes nothing.
use Rattle.std.specs.Prelude.{ℕ, Bool, true, false, cond, ◌&&◌, ◌||◌, List, [], ◌∷◌, map, Some, None, Option, nat_le, slice_set, filter_map}
use Rattle.std.specs.List.{list_any, position_or_len}
use Rattle.std.specs.Option.{option_map}
use Rattle.std.specs.Str.{bytes_eq}
use Rattle.carrier.specs.Names.{is_name}
use Rattle.carrier.specs.Steps.{may}

pub record Entry : Type 0 where
  pub name : List ℕ
  pub value : List ℕ

abbrev pub entry : List ℕ → List ℕ → Entry
entry n v = record { name = n; value = v }

-- none where the place is free
abbrev pub Place : Type 0
Place = Option Entry

abbrev pub Places : Type 0
Places = List Place

abbrev pub named : List ℕ → Place → Bool
named n None = false
named n (Some e) = bytes_eq e.name n

abbrev pub free : Place → Bool
free None = true
free (Some e) = false

-- a free place, or a lawful name and value
abbrev pub lawful_place : Place → Bool
lawful_place None = true
lawful_place (Some e) = may e.name e.value

-- the first place that passes
abbrev pub first : (Place → Bool) → Places → Place
first p [] = None
first p (x ∷ xs) = cond (p x) x (first p xs)

-- what a place shows under its name: only what is lawful
abbrev pub shown_by : List ℕ → Place → Option (List ℕ)
shown_by n None = None
shown_by n (Some e) = cond (may n e.value) (Some e.value) None

-- a name shows the value of the first place that has it
abbrev pub shown : Places → List ℕ → Option (List ℕ)
shown ps n = shown_by n (first (named n) ps)

-- the names of the places that are not free, in their order
abbrev pub names : Places → List (List ℕ)
names ps = filter_map (option_map (λ (e : Entry). e.name)) ps

-- a value of at most 1,024 bytes is taken where some place has the name or is free
abbrev pub room : Places → List ℕ → ℕ → Bool
room ps n len = is_name n && (nat_le len 1024 && (list_any (named n) ps || list_any free ps))

-- where a value goes: the place that has the name, or else the first free one
abbrev pub place_for : Places → List ℕ → ℕ
place_for ps n = cond (list_any (named n) ps) (position_or_len (named n) ps) (position_or_len free ps)

abbrev pub put : Places → List ℕ → List ℕ → Places
put ps n v = slice_set ps (place_for ps n) (Some (entry n v))

-- a place that has the name is freed
abbrev pub without : List ℕ → Place → Place
without n p = cond (named n p) None p

abbrev pub cut : Places → List ℕ → Places
cut ps n = map (without n) ps
