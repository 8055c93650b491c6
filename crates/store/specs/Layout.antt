-- How contents lie in memory: the origin, the ot value, then each tag's key and value, and the lengths beside them. Assumes nothing.
use Rattle.std.specs.Prelude.{◌≡◌, ℕ, ◌+◌, ◌≤◌, List, [], ◌∷◌, length, take, drop, Option}
use Rattle.std.specs.Option.{unwrap_or, option_map}
use Rattle.store.specs.declared.memory.Span.{Span}
use Rattle.store.specs.Contents.{Contents}
use Rattle.store.specs.Tags.{Tag}

-- the lengths of a tag
abbrev pub span : Tag → Span
span t = record { key = length t.0; value = length t.1 }

-- how many bytes the tags of these lengths have
abbrev pub total : List Span → ℕ
total [] = 0
total (s ∷ ss) = (s.key + s.value) + total ss

-- the tags of these lengths that lie at the front of a text
abbrev pub tags_in : List Span → List ℕ → List Tag
tags_in [] xs = []
tags_in (s ∷ ss) xs = (take s.key xs, take s.value (drop s.key xs)) ∷ tags_in ss (drop s.value (drop s.key xs))

-- what lies past the origin and the ot value
abbrev pub body : List ℕ → Option ℕ → Option ℕ → List ℕ
body text origin ot = drop (unwrap_or origin 0 + unwrap_or ot 0) text

-- the contents of a memory, by the lengths and the text in use and how many there may be
abbrev pub contents : List Span → List ℕ → ℕ → ℕ → Option ℕ → Option ℕ → Contents
contents spans text tags bytes origin ot = record {
  max_tags = tags;
  max_bytes = bytes;
  origin = option_map (λ n. take n text) origin;
  ot = option_map (λ n. take n (drop (unwrap_or origin 0) text)) ot;
  tags = tags_in spans (body text origin ot);
}

-- the memory is within the limits of a store
abbrev pub Small : ℕ → ℕ → Type 0
Small tags bytes = (tags ≤ 256) × (bytes ≤ 65536)

-- the lengths add up to the text in use
abbrev pub Laid : List Span → List ℕ → Option ℕ → Option ℕ → Type 0
Laid spans text origin ot = (unwrap_or origin 0 + unwrap_or ot 0) + total spans ≡ length text
