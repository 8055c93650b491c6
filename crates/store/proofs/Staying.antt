-- Every change leaves contents that a store may hold. Assumes nothing.
use Rattle.std.proofs.Common.{◌≡◌, ℕ, ◌+◌, Bool, true, false, cond, ◌&&◌, List, [], ◌++◌, length, Option, unwrap_or, refl, ap, ◌∙◌, arith}
use Rattle.std.proofs.lemmas.List.{length-append}
use Rattle.std.proofs.lemmas.Bool.{and_parts}
use Rattle.text.specs.Texts.{lawful}
use Rattle.store.specs.Contents.{Contents, empty, with_tags, with_origin, with_ot, fits, after_put, after_remove, after_origin, after_ot}
use Rattle.store.specs.Laws.{Keepable, StaysSound}
use Rattle.store.specs.Spots.{tag_of}
use Rattle.store.specs.Tags.{Tag, below, above, flat, placed, without, looked}
use Rattle.store.proofs.Answering.{fits_from}
use Rattle.store.proofs.Laying.{flat_append}
use Rattle.store.proofs.Parting.{parted}
use Rattle.store.proofs.Sizes.{fits-parts, text_size}
use Rattle.store.proofs.Sounds.{Sound, sound-parts, sound_from, sound_empty, sound-placed, sound-without, sound-origin, sound-ot}

either_keepable : (t : Bool) (next c : Contents) → (t ≡ true → Keepable next) → Keepable c → Keepable (cond t next c)
either_keepable true next c a b = a refl
either_keepable false next c a b = b

keepable-put : (c : Contents) (k v : List ℕ) → Keepable c → Keepable (after_put c k v)
unfolding after_put
keepable-put c k v (s, f) =
    let good : Sound c = sound-parts c s in
    let next : Contents = with_tags c (placed k v c.tags) in
    either_keepable ((lawful k && lawful v) && fits next) next c
    (λ e.
    let parts = and_parts (lawful k && lawful v) (fits next) e in
    let texts = and_parts (lawful k) (lawful v) parts.0 in
    (sound_from next (sound-placed c good k v texts.0 texts.1), parts.1))
    (s, f)

keepable-origin : (c : Contents) (o : Option (List ℕ)) → Keepable c → Keepable (after_origin c o)
unfolding after_origin
keepable-origin c o (s, f) =
    let good : Sound c = sound-parts c s in
    let next : Contents = with_origin c o in
    either_keepable (lawful (unwrap_or o []) && fits next) next c
    (λ e.
    let parts = and_parts (lawful (unwrap_or o [])) (fits next) e in
    (sound_from next (sound-origin c good o parts.0), parts.1))
    (s, f)

keepable-ot : (c : Contents) (o : Option (List ℕ)) → Keepable c → Keepable (after_ot c o)
unfolding after_ot
keepable-ot c o (s, f) =
    let good : Sound c = sound-parts c s in
    let next : Contents = with_ot c o in
    either_keepable (lawful (unwrap_or o []) && fits next) next c
    (λ e.
    let parts = and_parts (lawful (unwrap_or o [])) (fits next) e in
    (sound_from next (sound-ot c good o parts.0), parts.1))
    (s, f)

keepable-remove : (c : Contents) (k : List ℕ) → Keepable c → Keepable (after_remove c k)
unfolding after_remove without
keepable-remove c k (s, f) =
    let good : Sound c = sound-parts c s in
    let low : List Tag = below k c.tags in
    let old : List Tag = tag_of k (looked k c.tags) in
    let high : List Tag = above k c.tags in
    let next : Contents = with_tags c (low ++ high) in
    let limits = fits-parts c f in
    let was : c.tags ≡ low ++ (old ++ high) = parted k c.tags good.order in
    let old-tags : length c.tags ≡ length low + (length old + length high) = ap length was ∙ length-append low (old ++ high) ∙ ap (λ n. length low + n) (length-append old high) in
    let now-tags : length (low ++ high) ≡ length low + length high = length-append low high in
    let old-flat : length (flat c.tags) ≡ length (flat low) + (length (flat old) + length (flat high)) =
    ap (λ ts. length (flat ts)) was ∙ ap length (flat_append low (old ++ high)) ∙ length-append (flat low) (flat (old ++ high))
    ∙ ap (λ n. length (flat low) + n) (ap length (flat_append old high) ∙ length-append (flat old) (flat high)) in
    let now-flat : length (flat (low ++ high)) ≡ length (flat low) + length (flat high) = ap length (flat_append low high) ∙ length-append (flat low) (flat high) in
    let old-bytes = text_size c in
    let now-bytes = text_size next in
    (sound_from next (sound-without c good k), fits_from next (omega arith) (omega arith))

at_first : (tags bytes : ℕ) → Keepable (empty tags bytes)
at_first tags bytes = (sound_from (empty tags bytes) (sound_empty tags bytes), fits_from (empty tags bytes) (omega arith) (omega arith))

pub stays_sound : StaysSound
stays_sound = record { at_first = at_first; put = keepable-put; remove = keepable-remove; origin = keepable-origin; ot = keepable-ot }
