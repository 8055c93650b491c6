-- The origin or the ot value is set or dropped. Assumes nothing.
use Rattle.std.proofs.Common.{◌≡◌, ℕ, ◌+◌, ◌-◌, true, ◌&&◌, leb, List, [], ◌++◌, length, Option, unwrap_or, sym, refl, ap, ◌∙◌, arith}
use Rattle.std.proofs.lemmas.Bool.{le-leb}
use Rattle.std.proofs.lemmas.List.{length-append}
use Rattle.std.specs.Option.{option_map}
use Rattle.store.specs.declared.memory.Store.{Store}
use Rattle.store.specs.Contents.{Contents, text_of, with_origin, with_ot, fits}
use Rattle.store.specs.Stores.{held}
use Rattle.store.specs.Tags.{flat}
use Rattle.store.specs.Uses.{in_use, room, has_room, replaced}
use Rattle.store.proofs.Holding.{held_lies, held_count, held_used, bounds}
use Rattle.store.proofs.Laying.{Lies, origin_size, ot_size}
use Rattle.store.proofs.Splices.{replaced-cut}

-- one part of the text becomes another, and the tags stay
module _ (s : Store) (next : Contents) (front mid back new : List ℕ) (at old : ℕ) (was : text_of (held s) ≡ front ++ (mid ++ back)) (is : text_of next ≡ front ++ (new ++ back))
    (at_is : length front ≡ at) (old-is : length mid ≡ old) where
  abbrev text : List ℕ
  text = in_use s.text

  was_length : length text ≡ length front + (old + length back)
  was_length = sym (held_used s) ∙ ap length was ∙ length-append front (mid ++ back) ∙ ap (λ n. length front + n) (length-append mid back ∙ ap (λ n. n + length back) old-is)

  next_bytes : length (text_of next) ≡ (length text - old) + length new
  next_bytes = ap length is ∙ length-append front (new ++ back) ∙ ap (λ n. length front + n) (length-append new back) ∙ omega (arith, was_length)

  pub part_fits : next.tags ≡ (held s).tags → next.max_tags ≡ room s.spans → next.max_bytes ≡ room s.text → fits next ≡ has_room s.text old (length new)
  unfolding fits
  part_fits t m n =
      let few : leb (length next.tags) next.max_tags ≡ true = le-leb (length next.tags) next.max_tags (omega (arith, ap length t, held_count s, (bounds s).count)) in
      λ i. few i && leb (next_bytes i) (n i)

  pub part_now : replaced text at old new ≡ text_of next
  part_now = replaced-cut text front mid back at old ((held_lies s).text-is ∙ was) at_is old-is new ∙ sym is

module _ (s : Store) (o : Option (List ℕ)) where
  abbrev new : List ℕ
  new = unwrap_or o []

  abbrev origin : List ℕ
  origin = unwrap_or (held s).origin []

  abbrev ot : List ℕ
  ot = unwrap_or (held s).ot []

  abbrev tags : List ℕ
  tags = flat (held s).tags

  origin_was : length origin ≡ unwrap_or s.origin 0
  origin_was = sym (origin_size (held_lies s))

  ot_was : length ot ≡ unwrap_or s.ot 0
  ot_was = sym (ot_size (held_lies s))

  -- the origin
  pub origin-fits : fits (with_origin (held s) o) ≡ has_room s.text (unwrap_or s.origin 0) (length new)
  origin-fits = part_fits s (with_origin (held s) o) [] origin (ot ++ tags) new 0 _ refl refl refl origin_was refl (sym (held_lies s).tags-limit) (sym (held_lies s).bytes-limit)

  pub origin_lies : (ts : List ℕ) (n : Option ℕ) (bytes : ℕ) → bytes ≡ room s.text → n ≡ option_map length o → ts ≡ replaced (in_use s.text) 0 (unwrap_or s.origin 0) new
      → Lies (in_use s.spans) ts (room s.spans) bytes n s.ot (with_origin (held s) o)
  origin_lies ts n bytes b m f =
      record {
        records = (held_lies s).records;
        text-is = f ∙ part_now s (with_origin (held s) o) [] origin (ot ++ tags) new 0 _ refl refl refl origin_was;
        origin-length = m;
        ot-length = (held_lies s).ot-length;
        tags-limit = (held_lies s).tags-limit;
        bytes-limit = b ∙ (held_lies s).bytes-limit;
      }

  -- the ot value
  module _ (at : ℕ) (at_is : at ≡ unwrap_or s.origin 0) where
    pub ot-fits : fits (with_ot (held s) o) ≡ has_room s.text (unwrap_or s.ot 0) (length new)
    ot-fits = part_fits s (with_ot (held s) o) origin ot tags new at _ refl refl (origin_was ∙ sym at_is) ot_was refl (sym (held_lies s).tags-limit) (sym (held_lies s).bytes-limit)

    pub ot_lies : (ts : List ℕ) (n : Option ℕ) (bytes : ℕ) → bytes ≡ room s.text → n ≡ option_map length o → ts ≡ replaced (in_use s.text) at (unwrap_or s.ot 0) new
        → Lies (in_use s.spans) ts (room s.spans) bytes s.origin n (with_ot (held s) o)
    ot_lies ts n bytes b m f =
        record {
          records = (held_lies s).records;
          text-is = f ∙ part_now s (with_ot (held s) o) origin ot tags new at _ refl refl (origin_was ∙ sym at_is) ot_was;
          origin-length = (held_lies s).origin-length;
          ot-length = m;
          tags-limit = (held_lies s).tags-limit;
          bytes-limit = b ∙ (held_lies s).bytes-limit;
        }
