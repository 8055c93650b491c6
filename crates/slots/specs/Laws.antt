-- The slot table's own laws. Assumes nothing.
use Rattle.std.specs.Prelude.{◌≡◌, ℕ, ◌<◌, true, false, List, length, Some, None, ◌≢◌, slice_index_or}
use Rattle.std.specs.List.{slice_get, list_any}
use Rattle.slots.specs.Places.{entry, Places, named, free, room, place_for, put}

-- what a taken set does to the places
pub record FillsOne (ps : Places) (n v : List ℕ) : Type 0 where
  -- one is filled, and every other stays
  pub filled : slice_get (put ps n v) (place_for ps n) ≡ Some (Some (entry n v))
  pub others : (k : ℕ) → (k ≢ place_for ps n) → slice_get (put ps n v) k ≡ slice_get ps k
  -- it is the place that has the name; where none has it, the first that is free
  pub own : list_any (named n) ps ≡ true → named n (slice_index_or ps (place_for ps n) None) ≡ true
  pub new : list_any (named n) ps ≡ false → free (slice_index_or ps (place_for ps n) None) ≡ true
  pub none_before : list_any (named n) ps ≡ false → (k : ℕ) → k < place_for ps n → free (slice_index_or ps k None) ≡ false

abbrev pub SetFillsOne : Type 0
SetFillsOne = (ps : Places) (n v : List ℕ) → room ps n (length v) ≡ true → FillsOne ps n v
