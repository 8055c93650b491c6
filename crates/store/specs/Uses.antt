-- Memory whose first items are in use. Assumes nothing.
use Rattle.std.specs.Prelude.{ℕ, ◌+◌, ◌-◌, Bool, List, ◌++◌, length, take, drop, vec_items, vec_len, nat_le}
use Rattle.store.specs.declared.in_use.InUse.{InUse}

-- the items in use
unfoldable pub in_use : {T : Type 0} → InUse T → List T
in_use b = take b.used (vec_items b.memory)

-- how many there may be
abbrev pub room : {T : Type 0} → InUse T → ℕ
room b = vec_len b.memory

-- whether so many fit in the place of some of them
abbrev pub has_room : {T : Type 0} → InUse T → ℕ → ℕ → Bool
has_room b old new = nat_le ((length (in_use b) - old) + new) (room b)

-- items with others in the place of some at a place
abbrev pub replaced : {T : Type 0} → List T → ℕ → ℕ → List T → List T
replaced xs at old new = take at xs ++ (new ++ drop (at + old) xs)
