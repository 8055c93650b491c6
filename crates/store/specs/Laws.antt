-- The rules of a store in the words of tags. Assumes nothing.
use Rattle.std.specs.Prelude.{◌≡◌, ℕ, ◌<◌, ◌≤◌, true, false, ◌&&◌, List, ◌∷◌, ◌++◌, length, Some, None, Ok, Err, Option, ◌≢◌}
use Rattle.std.specs.List.{slice_get}
use Rattle.text.specs.Texts.{lawful}
use Rattle.store.specs.declared.faults.StoreFault.{StoreFault}
use Rattle.store.specs.declared.faults.StoreFault.TheVariants.{Unlawful, Full}
use Rattle.store.specs.Contents.{Contents, empty, text_of, with_tags, with_origin, with_ot, fits, sound, put_answer, after_put, after_remove, origin_answer, after_origin, ot_answer, after_ot}
use Rattle.store.specs.Tags.{Tag, before, placed, looked, ascends}

-- byte order
pub record ByteOrder : Type 0 where
  -- the first bytes that differ decide, and a proper front comes first
  pub first_byte : (p xs ys : List ℕ) (x y : ℕ) → x < y → before (p ++ x ∷ xs) (p ++ y ∷ ys) ≡ true
  pub front_first : (xs ys : List ℕ) (y : ℕ) → before xs (xs ++ y ∷ ys) ≡ true
  -- it is strict, and tells any two apart
  pub strict : (xs : List ℕ) → before xs xs ≡ false
  pub chained : (xs ys zs : List ℕ) → before xs ys ≡ true → before ys zs ≡ true → before xs zs ≡ true
  pub total : (xs ys : List ℕ) → before xs ys ≡ false → before ys xs ≡ false → xs ≡ ys

-- contents that a store may hold: in order, lawful and within the limits
abbrev pub Keepable : Contents → Type 0
Keepable c = (sound c ≡ true) × (fits c ≡ true)

-- what is true of the contents of every store
pub record Orderly (c : Contents) : Type 0 where
  pub keepable : Keepable c
  -- keys ascend along the walk, and each stands once
  pub ascending : (i j : ℕ) (t u : Tag) → i < j → slice_get c.tags i ≡ Some t → slice_get c.tags j ≡ Some u → before t.0 u.0 ≡ true
  pub once : (i j : ℕ) (t u : Tag) → slice_get c.tags i ≡ Some t → slice_get c.tags j ≡ Some u → t.0 ≡ u.0 → i ≡ j
  -- a look-up gives what the walk shows, and nothing else
  pub shown : (i : ℕ) (t : Tag) → slice_get c.tags i ≡ Some t → looked t.0 c.tags ≡ Some t.1
  pub stands : (k v : List ℕ) → looked k c.tags ≡ Some v → (i : ℕ) × (slice_get c.tags i ≡ Some (k, v))
  -- all text is lawful
  pub lawful_tag : (k v : List ℕ) → looked k c.tags ≡ Some v → (lawful k ≡ true) × (lawful v ≡ true)
  pub lawful_origin : (s : List ℕ) → c.origin ≡ Some s → lawful s ≡ true
  pub lawful_ot : (s : List ℕ) → c.ot ≡ Some s → lawful s ≡ true
  -- it is within the limits, and these are those of every store
  pub tags_within : length c.tags ≤ c.max_tags
  pub bytes_within : length (text_of c) ≤ c.max_bytes
  pub few : c.max_tags ≤ 256
  pub small : c.max_bytes ≤ 65536

-- the contents that a change leaves are again such as a store may hold
pub record StaysSound : Type 0 where
  pub at_first : (tags bytes : ℕ) → Keepable (empty tags bytes)
  pub put : (c : Contents) (k v : List ℕ) → Keepable c → Keepable (after_put c k v)
  pub remove : (c : Contents) (k : List ℕ) → Keepable c → Keepable (after_remove c k)
  pub origin : (c : Contents) (o : Option (List ℕ)) → Keepable c → Keepable (after_origin c o)
  pub ot : (c : Contents) (o : Option (List ℕ)) → Keepable c → Keepable (after_ot c o)

-- what puts, removes and look-ups have to do with one another
pub record KeepsTags : Type 0 where
  -- an accepted change is made, and nothing else changes
  pub put_made : (c : Contents) (k v : List ℕ) → put_answer c k v ≡ Ok tt → after_put c k v ≡ with_tags c (placed k v c.tags)
  pub origin_made : (c : Contents) (o : Option (List ℕ)) → origin_answer c o ≡ Ok tt → after_origin c o ≡ with_origin c o
  pub ot_made : (c : Contents) (o : Option (List ℕ)) → ot_answer c o ≡ Ok tt → after_ot c o ≡ with_ot c o
  -- what was put is found, what was removed is not, and every other key keeps its value
  pub put_gives : (c : Contents) (k v : List ℕ) → put_answer c k v ≡ Ok tt → looked k (after_put c k v).tags ≡ Some v
  pub put_keeps : (c : Contents) (j k v : List ℕ) → (j ≢ k) → looked j (after_put c k v).tags ≡ looked j c.tags
  pub remove_takes : (c : Contents) (k : List ℕ) → looked k (after_remove c k).tags ≡ None
  pub remove_keeps : (c : Contents) (j k : List ℕ) → (j ≢ k) → looked j (after_remove c k).tags ≡ looked j c.tags
  -- the order leaves no choice: tags with the same look-ups are the same list
  pub same_tags : (ts us : List Tag) → ascends ts ≡ true → ascends us ≡ true → ((k : List ℕ) → looked k ts ≡ looked k us) → ts ≡ us

-- when a change is refused
pub record RefusesWhenItMust : Type 0 where
  -- a refusal alters nothing
  pub put_same : (c : Contents) (k v : List ℕ) (f : StoreFault) → put_answer c k v ≡ Err f → after_put c k v ≡ c
  pub origin_same : (c : Contents) (o : Option (List ℕ)) (f : StoreFault) → origin_answer c o ≡ Err f → after_origin c o ≡ c
  pub ot_same : (c : Contents) (o : Option (List ℕ)) (f : StoreFault) → ot_answer c o ≡ Err f → after_ot c o ≡ c
  -- unlawful text always is
  pub put_unlawful : (c : Contents) (k v : List ℕ) → (lawful k && lawful v) ≡ false → put_answer c k v ≡ Err Unlawful
  pub origin_unlawful : (c : Contents) (s : List ℕ) → lawful s ≡ false → origin_answer c (Some s) ≡ Err Unlawful
  pub ot_unlawful : (c : Contents) (s : List ℕ) → lawful s ≡ false → ot_answer c (Some s) ≡ Err Unlawful
  -- lawful text is exactly where the tags then outnumber the records or the text in use passes the text bytes
  pub put_taken : (c : Contents) (k v : List ℕ) → (lawful k && lawful v) ≡ true → length (placed k v c.tags) ≤ c.max_tags → length (text_of (with_tags c (placed k v c.tags))) ≤ c.max_bytes → put_answer c k v ≡ Ok tt
  pub put_too_many : (c : Contents) (k v : List ℕ) → (lawful k && lawful v) ≡ true → c.max_tags < length (placed k v c.tags) → put_answer c k v ≡ Err Full
  pub put_too_long : (c : Contents) (k v : List ℕ) → (lawful k && lawful v) ≡ true → c.max_bytes < length (text_of (with_tags c (placed k v c.tags))) → put_answer c k v ≡ Err Full
  -- dropping never is
  pub origin_dropped : (c : Contents) → Keepable c → origin_answer c None ≡ Ok tt
  pub ot_dropped : (c : Contents) → Keepable c → ot_answer c None ≡ Ok tt
  -- nor is another value that is not longer, nor what was removed just before, which gives the contents back
  pub put_shorter : (c : Contents) (k v w : List ℕ) → Keepable c → looked k c.tags ≡ Some w → lawful v ≡ true → length v ≤ length w → put_answer c k v ≡ Ok tt
  pub put_back : (c : Contents) (k v : List ℕ) → Keepable c → looked k c.tags ≡ Some v
      → (put_answer (after_remove c k) k v ≡ Ok tt) × (after_put (after_remove c k) k v ≡ c)
