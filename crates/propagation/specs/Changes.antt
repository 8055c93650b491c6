-- Changes of a store, made one after the other up to the first that is refused. Assumes nothing.
use Rattle.std.specs.Prelude.{ℕ, List, [], ◌∷◌, Some, Ok, Err, Result}
use Rattle.store.specs.declared.faults.StoreFault.{StoreFault}
use Rattle.store.specs.Contents.{Contents, put_answer, after_put, after_remove, origin_answer, after_origin, with_tags, with_origin}
use Rattle.store.specs.Tags.{placed, without}

pub data Change : Type 0 where
  put : List ℕ → List ℕ → Change
  remove : List ℕ → Change
  origin : List ℕ → Change

-- what changes answer, and what they leave
pub record Outcome : Type 0 where
  pub answer : Result (Unit {0}) StoreFault
  pub store : Contents

abbrev pub outcome : Result (Unit {0}) StoreFault → Contents → Outcome
outcome r c = record { answer = r; store = c }

-- one change
abbrev pub change : Change → Contents → Outcome
change (put k v) c = outcome (put_answer c k v) (after_put c k v)
change (remove k) c = outcome (Ok tt) (after_remove c k)
change (origin o) c = outcome (origin_answer c (Some o)) (after_origin c (Some o))

-- the changes in their order; a refusal ends them
abbrev pub unless_refused : Result (Unit {0}) StoreFault → Contents → (Contents → Outcome) → Outcome
unless_refused (Ok _) c next = next c
unless_refused (Err f) c next = outcome (Err f) c

abbrev pub changes : List Change → Contents → Outcome
changes [] c = outcome (Ok tt) c
changes (x ∷ xs) c = unless_refused (change x c).answer (change x c).store (changes xs)

-- what a change makes of contents where nothing limits them
abbrev pub made : Change → Contents → Contents
made (put k v) c = with_tags c (placed k v c.tags)
made (remove k) c = with_tags c (without k c.tags)
made (origin o) c = with_origin c (Some o)

abbrev pub all_made : List Change → Contents → Contents
all_made [] c = c
all_made (x ∷ xs) c = all_made xs (made x c)
