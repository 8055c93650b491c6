-- What a chain of changes and a chain of settings come to. Assumes nothing.
use Rattle.std.specs.Prelude.{◌≡◌, List, ◌++◌, Ok}
use Rattle.store.specs.Contents.{Contents}
use Rattle.propagation.specs.Changes.{Change, changes, all_made, unless_refused}

-- changes that are all accepted leave what they make of the contents
abbrev pub AcceptedAreMade : Type 0
AcceptedAreMade = (xs : List Change) (c : Contents) → (changes xs c).answer ≡ Ok tt → (changes xs c).store ≡ all_made xs c

-- some changes and then others
abbrev pub ChangesFollow : Type 0
ChangesFollow = (xs ys : List Change) (c : Contents) → changes (xs ++ ys) c ≡ unless_refused (changes xs c).answer (changes xs c).store (changes ys)
