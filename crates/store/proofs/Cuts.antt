-- The contents of a store, cut at the place of a key, and tags put in there. Assumes nothing.
use Rattle.std.proofs.Common.{◌≡◌, ℕ, ◌+◌, ◌≤◌, List, [], ◌++◌, map, length, Some, None, Option, unwrap_or, sym, refl, ap, ◌∙◌, arith}
use Rattle.std.proofs.lemmas.List.{append_assoc, append-nil, length-append, length-map, map-append}
use Rattle.std.specs.Option.{option_len, option_map}
use Rattle.store.specs.declared.memory.Span.{Span}
use Rattle.store.specs.declared.memory.Store.{Store}
use Rattle.store.specs.declared.memory.seek.Place.{Place}
use Rattle.store.specs.Contents.{text_of, with_tags}
use Rattle.store.specs.Layout.{span}
use Rattle.store.specs.Spots.{Spot, tag_of, own_bytes}
use Rattle.store.specs.Stores.{held, head_of}
use Rattle.store.specs.Tags.{Tag, below, above, looked, flat}
use Rattle.store.specs.Uses.{in_use, room, replaced}
use Rattle.store.proofs.Holding.{held_lies, held-sound, held_count, held_used}
use Rattle.store.proofs.Laying.{Lies, flat_append, head_size}
use Rattle.store.proofs.Parting.{parted}
use Rattle.store.proofs.Splices.{replaced-cut}

-- the record of a key's own tag, and that tag
own-tags : (k : List ℕ) (o : Option (List ℕ)) → length (tag_of k o) ≡ option_len (option_map (λ v. span (k, v)) o)
own-tags k None = refl
own-tags k (Some v) = refl

own-bytes : (k : List ℕ) (o : Option (List ℕ)) → length (flat (tag_of k o)) ≡ own_bytes (option_map (λ v. span (k, v)) o)
own-bytes k None = refl
own-bytes k (Some v) = ap (λ q. length (k ++ q)) (append-nil v) ∙ length-append k v

module _ (s : Store) (k : List ℕ) (p : Place) (spot : Spot k (held s).tags (head_of s) p) where
  abbrev pub spans : List Span
  spans = in_use s.spans

  abbrev pub text : List ℕ
  text = in_use s.text

  abbrev pub lower : List Tag
  lower = below k (held s).tags

  abbrev pub upper : List Tag
  upper = above k (held s).tags

  -- the tag of the key, if it has one
  abbrev pub old : List Tag
  old = tag_of k (looked k (held s).tags)

  pub tags-own : length old ≡ option_len p.own
  tags-own = own-tags k (looked k (held s).tags) ∙ ap option_len (sym spot.own)

  pub bytes-own : length (flat old) ≡ own_bytes p.own
  bytes-own = own-bytes k (looked k (held s).tags) ∙ ap own_bytes (sym spot.own)

  -- the text before the tags, and before the place of the key
  abbrev first : List ℕ
  first = unwrap_or (held s).origin [] ++ unwrap_or (held s).ot []

  abbrev pub front : List ℕ
  front = first ++ flat lower

  parts : (held s).tags ≡ lower ++ (old ++ upper)
  parts = parted k (held s).tags (held-sound s).order

  -- with some tags between those before the key and those after it
  text_with : (mid : List Tag) → text_of (with_tags (held s) (lower ++ (mid ++ upper))) ≡ front ++ (flat mid ++ flat upper)
  text_with mid =
      sym (append_assoc (unwrap_or (held s).origin []) (unwrap_or (held s).ot []) (flat (lower ++ (mid ++ upper))))
      ∙ ap (λ q. first ++ q) (flat_append lower (mid ++ upper) ∙ ap (λ q. flat lower ++ q) (flat_append mid upper))
      ∙ sym (append_assoc first (flat lower) (flat mid ++ flat upper))

  spans_with : (mid : List Tag) → map span (lower ++ (mid ++ upper)) ≡ map span lower ++ (map span mid ++ map span upper)
  spans_with mid = map-append span lower (mid ++ upper) ∙ ap (λ q. map span lower ++ q) (map-append span mid upper)

  text_was : text_of (held s) ≡ front ++ (flat old ++ flat upper)
  text_was = ap (λ ts. text_of (with_tags (held s) ts)) parts ∙ text_with old

  pub text-parts : text ≡ front ++ (flat old ++ flat upper)
  text-parts = (held_lies s).text-is ∙ text_was

  record_parts : spans ≡ map span lower ++ (map span old ++ map span upper)
  record_parts = (held_lies s).records ∙ ap (map span) parts ∙ spans_with old

  pub at_is : length front ≡ p.at
  at_is = length-append first (flat lower) ∙ omega (arith, head_size (held_lies s), spot.at)

  -- how many tags and bytes there are with some in the place of the old one
  pub tags_with : (mid : List Tag) → length (lower ++ (mid ++ upper)) + option_len p.own ≡ length spans + length mid
  tags_with mid =
      let now-first : length (lower ++ (mid ++ upper)) ≡ length lower + length (mid ++ upper) = length-append lower (mid ++ upper) in
      let now-last : length (mid ++ upper) ≡ length mid + length upper = length-append mid upper in
      let was-first : length (held s).tags ≡ length lower + length (old ++ upper) = ap length parts ∙ length-append lower (old ++ upper) in
      let was-last : length (old ++ upper) ≡ length old + length upper = length-append old upper in
      omega (arith, held_count s, tags-own)

  pub bytes_with : (mid : List Tag) → length (text_of (with_tags (held s) (lower ++ (mid ++ upper)))) + own_bytes p.own ≡ length text + length (flat mid)
  bytes_with mid =
      let now-first : length (text_of (with_tags (held s) (lower ++ (mid ++ upper)))) ≡ length front + length (flat mid ++ flat upper) = ap length (text_with mid) ∙ length-append front (flat mid ++ flat upper) in
      let now-last : length (flat mid ++ flat upper) ≡ length (flat mid) + length (flat upper) = length-append (flat mid) (flat upper) in
      let was-first : length (text_of (held s)) ≡ length front + length (flat old ++ flat upper) = ap length text_was ∙ length-append front (flat old ++ flat upper) in
      let was-last : length (flat old ++ flat upper) ≡ length (flat old) + length (flat upper) = length-append (flat old) (flat upper) in
      omega (arith, held_used s, bytes-own)

  -- the place lies within what is in use
  pub record Within : Type 0 where
    pub bytes : p.at + own_bytes p.own ≤ length text
    pub tags : p.index + option_len p.own ≤ length spans

  pub within : Within
  within =
      let text-first : length text ≡ length front + length (flat old ++ flat upper) = ap length text-parts ∙ length-append front (flat old ++ flat upper) in
      let text-last : length (flat old ++ flat upper) ≡ length (flat old) + length (flat upper) = length-append (flat old) (flat upper) in
      let tags-first : length (held s).tags ≡ length lower + length (old ++ upper) = ap length parts ∙ length-append lower (old ++ upper) in
      let tags-last : length (old ++ upper) ≡ length old + length upper = length-append old upper in
      record { bytes = omega (arith, bytes-own, at_is); tags = omega (arith, held_count s, tags-own, spot.index) }

  -- the records and the text with some in the place of the old ones
  pub records_now : (new : List Span) → replaced spans p.index (option_len p.own) new ≡ map span lower ++ (new ++ map span upper)
  records_now = replaced-cut spans (map span lower) (map span old) (map span upper) p.index (option_len p.own) record_parts (length-map lower span ∙ sym spot.index) (length-map old span ∙ tags-own)

  pub text_now : (new : List ℕ) → replaced text p.at (own_bytes p.own) new ≡ front ++ (new ++ flat upper)
  text_now = replaced-cut text front (flat old) (flat upper) p.at (own_bytes p.own) text-parts at_is bytes-own

  pub lies_with : (mid : List Tag) (ss : List Span) (ts : List ℕ) (tags bytes : ℕ) → tags ≡ room s.spans → bytes ≡ room s.text
      → ss ≡ map span lower ++ (map span mid ++ map span upper) → ts ≡ front ++ (flat mid ++ flat upper)
      → Lies ss ts tags bytes s.origin s.ot (with_tags (held s) (lower ++ (mid ++ upper)))
  lies_with mid ss ts tags bytes a b e f =
      record {
        records = e ∙ sym (spans_with mid);
        text-is = f ∙ sym (text_with mid);
        origin-length = (held_lies s).origin-length;
        ot-length = (held_lies s).ot-length;
        tags-limit = a ∙ (held_lies s).tags-limit;
        bytes-limit = b ∙ (held_lies s).bytes-limit;
      }
