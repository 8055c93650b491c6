-- Where a key stands among tags, or would stand. Assumes nothing.
use Rattle.std.specs.Prelude.{◌≡◌, ℕ, ◌+◌, List, [], ◌∷◌, length, Some, None, Option}
use Rattle.std.specs.Option.{option_map, option_map_or}
use Rattle.store.specs.declared.memory.Span.{Span}
use Rattle.store.specs.declared.memory.seek.Place.{Place}
use Rattle.store.specs.Layout.{span}
use Rattle.store.specs.Tags.{Tag, below, looked, flat}

-- the tag of k, if it has a value
abbrev pub tag_of : List ℕ → Option (List ℕ) → List Tag
tag_of k None = []
tag_of k (Some v) = (k, v) ∷ []

-- how many bytes the record of a key's own tag stands for, if it has one
abbrev pub own_bytes : Option Span → ℕ
own_bytes own = option_map_or (λ s. s.key + s.value) own 0

-- tags that lie from a place on: how many tags come before k, where they end, and the record of k's own tag
pub record Spot (k : List ℕ) (ts : List Tag) (from : ℕ) (p : Place) : Type 0 where
  pub index : p.index ≡ length (below k ts)
  pub at : p.at ≡ from + length (flat (below k ts))
  pub own : p.own ≡ option_map (λ v. span (k, v)) (looked k ts)
