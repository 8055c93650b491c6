-- What a store may hold, part by part, and changes that keep it so. Assumes nothing.
use Rattle.std.proofs.Common.{◌≡◌, ℕ, true, ◌&&◌, List, [], Option, unwrap_or, refl}
use Rattle.std.proofs.lemmas.Bool.{and_parts, and_from}
use Rattle.text.specs.Texts.{lawful}
use Rattle.store.specs.Contents.{Contents, empty, sound, with_tags, with_origin, with_ot}
use Rattle.store.specs.Tags.{ascends, all_lawful, placed, without}
use Rattle.store.proofs.Ascending.{ascends-placed, ascends-without, lawful-placed, lawful-without}

pub record Sound (c : Contents) : Type 0 where
  pub order : ascends c.tags ≡ true
  pub lawful-tags : all_lawful c.tags ≡ true
  pub lawful_origin : lawful (unwrap_or c.origin []) ≡ true
  pub lawful_ot : lawful (unwrap_or c.ot []) ≡ true

pub sound_empty : (tags bytes : ℕ) → Sound (empty tags bytes)
unfolding ascends all_lawful lawful
sound_empty tags bytes = record { order = refl; lawful-tags = refl; lawful_origin = refl; lawful_ot = refl }

module _ (c : Contents) where
  pub sound-parts : sound c ≡ true → Sound c
  unfolding sound
  sound-parts h =
      let halves = and_parts (ascends c.tags && all_lawful c.tags) _ h in
      let tags = and_parts (ascends c.tags) (all_lawful c.tags) halves.0 in
      let texts = and_parts (lawful (unwrap_or c.origin [])) (lawful (unwrap_or c.ot [])) halves.1 in
      record { order = tags.0; lawful-tags = tags.1; lawful_origin = texts.0; lawful_ot = texts.1 }

  pub sound_from : Sound c → sound c ≡ true
  unfolding sound
  sound_from s =
      and_from (ascends c.tags && all_lawful c.tags) _ (and_from (ascends c.tags) _ s.order s.lawful-tags)
      (and_from (lawful (unwrap_or c.origin [])) _ s.lawful_origin s.lawful_ot)

  module _ (s : Sound c) where
    pub sound-placed : (k v : List ℕ) → lawful k ≡ true → lawful v ≡ true → Sound (with_tags c (placed k v c.tags))
    sound-placed k v a b =
        record { order = ascends-placed k c.tags s.order v; lawful-tags = lawful-placed k v c.tags a b s.lawful-tags; lawful_origin = s.lawful_origin; lawful_ot = s.lawful_ot }

    pub sound-without : (k : List ℕ) → Sound (with_tags c (without k c.tags))
    sound-without k = record { order = ascends-without k c.tags s.order; lawful-tags = lawful-without k c.tags s.lawful-tags; lawful_origin = s.lawful_origin; lawful_ot = s.lawful_ot }

    pub sound-origin : (o : Option (List ℕ)) → lawful (unwrap_or o []) ≡ true → Sound (with_origin c o)
    sound-origin o h = record { order = s.order; lawful-tags = s.lawful-tags; lawful_origin = h; lawful_ot = s.lawful_ot }

    pub sound-ot : (o : Option (List ℕ)) → lawful (unwrap_or o []) ≡ true → Sound (with_ot c o)
    sound-ot o h = record { order = s.order; lawful-tags = s.lawful-tags; lawful_origin = s.lawful_origin; lawful_ot = h }
