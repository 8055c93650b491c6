-- Every store keeps the rules. Assumes nothing.
use Rattle.std.proofs.Common.{◌≡◌, ℕ, ◌+◌, ◌≤◌, Bool, true, false, cond, ◌&&◌, List, [], ◌∷◌, ◌++◌, length, Some, None, Ok, Err, Option, unwrap_or, sym, refl, ap, ◌∙◌, arith}
use Rattle.std.proofs.lemmas.List.{length-append}
use Rattle.std.proofs.lemmas.Bool.{and_from}
use Rattle.text.specs.Texts.{lawful}
use Rattle.store.specs.declared.faults.StoreFault.{StoreFault}
use Rattle.store.specs.declared.memory.Store.{Store}
use Rattle.store.specs.Contents.{Contents, with_tags, with_origin, with_ot, fits, verdict, put_answer, after_put, after_remove, origin_answer, after_origin, ot_answer, after_ot}
use Rattle.store.specs.Laws.{Keepable, Orderly, KeepsTags, RefusesWhenItMust}
use Rattle.store.specs.Spots.{tag_of}
use Rattle.store.specs.Stores.{held}
use Rattle.store.specs.Tags.{Tag, below, above, flat, placed, without, looked}
use Rattle.store.proofs.Answering.{fits_from, fits-not-tags, fits-not-bytes, accepted, refused_full, refused_unlawful}
use Rattle.store.proofs.Holding.{held_lies, held-sound, held_count, held_used, bounds}
use Rattle.store.proofs.Lookups.{looked-placed, looked-without, others-placed, others-without, same_looks, placed-back}
use Rattle.store.proofs.Parting.{parted}
use Rattle.store.proofs.Sizes.{fits-parts, flat_size, text_size}
use Rattle.store.proofs.Sounds.{Sound, sound-parts, sound_from}
use Rattle.store.proofs.Walks.{walk_ascends, walk_once, walk_shown, walk_stands, looked-lawful}

some-text : (o : Option (List ℕ)) (s : List ℕ) → o ≡ Some s → lawful (unwrap_or o []) ≡ true → lawful s ≡ true
some-text o s e h = ap (λ q. lawful (unwrap_or q [])) (sym e) ∙ h

pub held_orderly : (s : Store) → Orderly (held s)
held_orderly s =
    let good : Sound (held s) = held-sound s in
    let lies = held_lies s in
    record {
      keepable = (sound_from (held s) good, fits_from (held s) (omega (arith, lies.tags-limit, held_count s, (bounds s).count)) (omega (arith, lies.bytes-limit, held_used s, (bounds s).used)));
      ascending = λ i j t u l e f. walk_ascends (held s).tags i j t u good.order l e f;
      once = λ i j t u e f g. walk_once (held s).tags i j t u good.order e f g;
      shown = λ i t e. walk_shown (held s).tags i t good.order e;
      stands = λ k v e. walk_stands k v (held s).tags e;
      lawful_tag = λ k v e. looked-lawful k v (held s).tags good.lawful-tags e;
      lawful_origin = λ o e. some-text (held s).origin o e good.lawful_origin;
      lawful_ot = λ o e. some-text (held s).ot o e good.lawful_ot;
      tags_within = omega (arith, lies.tags-limit, held_count s, (bounds s).count);
      bytes_within = omega (arith, lies.bytes-limit, held_used s, (bounds s).used);
      few = omega (arith, lies.tags-limit, s.small.0);
      small = omega (arith, lies.bytes-limit, s.small.1);
    }

-- an accepted change was lawful and fits; a refused one leaves all as it was
taken : (a b : Bool) → verdict a b ≡ Ok tt → (a ≡ true) × (b ≡ true)
taken false b e = let z : ◌≡◌ {A = ℕ} 0 1 = cc in absurd (omega arith)
taken true false e = let z : ◌≡◌ {A = ℕ} 0 1 = cc in absurd (omega arith)
taken true true e = (refl, refl)

unaltered : (a b : Bool) (next c : Contents) (f : StoreFault) → verdict a b ≡ Err f → cond (a && b) next c ≡ c
unaltered false b next c f e = refl
unaltered true false next c f e = refl
unaltered true true next c f e = let z : ◌≡◌ {A = ℕ} 0 1 = cc in absurd (omega arith)

put_made : (c : Contents) (k v : List ℕ) → put_answer c k v ≡ Ok tt → after_put c k v ≡ with_tags c (placed k v c.tags)
unfolding put_answer after_put
put_made c k v e =
    let next : Contents = with_tags c (placed k v c.tags) in
    let was = taken (lawful k && lawful v) (fits next) e in
    sym (accepted (lawful k && lawful v) next c was.0 was.1).leaves

origin_made : (c : Contents) (o : Option (List ℕ)) → origin_answer c o ≡ Ok tt → after_origin c o ≡ with_origin c o
unfolding origin_answer after_origin
origin_made c o e = let was = taken (lawful (unwrap_or o [])) (fits (with_origin c o)) e in sym (accepted (lawful (unwrap_or o [])) (with_origin c o) c was.0 was.1).leaves

ot_made : (c : Contents) (o : Option (List ℕ)) → ot_answer c o ≡ Ok tt → after_ot c o ≡ with_ot c o
unfolding ot_answer after_ot
ot_made c o e = let was = taken (lawful (unwrap_or o [])) (fits (with_ot c o)) e in sym (accepted (lawful (unwrap_or o [])) (with_ot c o) c was.0 was.1).leaves

put_gives : (c : Contents) (k v : List ℕ) → put_answer c k v ≡ Ok tt → looked k (after_put c k v).tags ≡ Some v
put_gives c k v e = ap (λ (d : Contents). looked k d.tags) (put_made c k v e) ∙ looked-placed k v c.tags

either_keeps : (j : List ℕ) (t : Bool) (next c : Contents) → looked j next.tags ≡ looked j c.tags → looked j (cond t next c).tags ≡ looked j c.tags
either_keeps j true next c e = e
either_keeps j false next c e = refl

put_keeps : (c : Contents) (j k v : List ℕ) → (j ≡ k → ⊥) → looked j (after_put c k v).tags ≡ looked j c.tags
unfolding after_put
put_keeps c j k v n = either_keeps j _ (with_tags c (placed k v c.tags)) c (others-placed j k v c.tags n)

remove_takes : (c : Contents) (k : List ℕ) → looked k (after_remove c k).tags ≡ None
unfolding after_remove
remove_takes c k = looked-without k c.tags

remove_keeps : (c : Contents) (j k : List ℕ) → (j ≡ k → ⊥) → looked j (after_remove c k).tags ≡ looked j c.tags
unfolding after_remove
remove_keeps c j k n = others-without j k c.tags n

pub keeps_tags : KeepsTags
keeps_tags = record {
  put_made = put_made;
  origin_made = origin_made;
  ot_made = ot_made;
  put_gives = put_gives;
  put_keeps = put_keeps;
  remove_takes = remove_takes;
  remove_keeps = remove_keeps;
  same_tags = same_looks;
}

put_shorter : (c : Contents) (k v w : List ℕ) → Keepable c → looked k c.tags ≡ Some w → lawful v ≡ true → length v ≤ length w → put_answer c k v ≡ Ok tt
unfolding put_answer placed
put_shorter c k v w (s, f) e l h =
    let low : List Tag = below k c.tags in
    let high : List Tag = above k c.tags in
    let was : c.tags ≡ low ++ (k, w) ∷ high = parted k c.tags (sound-parts c s).order ∙ ap (λ o. low ++ (tag_of k o ++ high)) e in
    let next : Contents = with_tags c (low ++ (k, v) ∷ high) in
    let limits = fits-parts c f in
    let tags : length (low ++ (k, v) ∷ high) ≡ length c.tags = length-append low ((k, v) ∷ high) ∙ sym (ap length was ∙ length-append low ((k, w) ∷ high)) in
    let now-bytes = text_size next in
    let old-bytes = text_size c in
    let now-flat = flat_size low high k v in
    let old-flat : length (flat c.tags) ≡ length (flat low) + (length k + (length w + length (flat high))) = ap (λ ts. length (flat ts)) was ∙ flat_size low high k w in
    let key : lawful k ≡ true = (looked-lawful k w c.tags (sound-parts c s).lawful-tags e).0 in
    sym (accepted (lawful k && lawful v) next c (and_from (lawful k) (lawful v) key l) (fits_from next (omega arith) (omega arith))).answers

put_back : (c : Contents) (k v : List ℕ) → Keepable c → looked k c.tags ≡ Some v
    → (put_answer (after_remove c k) k v ≡ Ok tt) × (after_put (after_remove c k) k v ≡ c)
unfolding put_answer after_put after_remove
put_back c k v (s, f) e =
    let next : Contents = with_tags c (placed k v (without k c.tags)) in
    let again : next ≡ c = ap (with_tags c) (placed-back k v c.tags (sound-parts c s).order e) in
    let both = looked-lawful k v c.tags (sound-parts c s).lawful-tags e in
    let out = accepted (lawful k && lawful v) next (with_tags c (without k c.tags)) (and_from (lawful k) (lawful v) both.0 both.1) (ap fits again ∙ f) in
    (sym out.answers, sym out.leaves ∙ again)

origin_dropped : (c : Contents) → Keepable c → origin_answer c None ≡ Ok tt
unfolding origin_answer lawful
origin_dropped c (s, f) =
    let limits = fits-parts c f in
    let next : Contents = with_origin c None in
    let now-bytes = text_size next in
    let old-bytes = text_size c in
    sym (accepted true next c refl (fits_from next limits.0 (omega arith))).answers

ot_dropped : (c : Contents) → Keepable c → ot_answer c None ≡ Ok tt
unfolding ot_answer lawful
ot_dropped c (s, f) =
    let limits = fits-parts c f in
    let next : Contents = with_ot c None in
    let now-bytes = text_size next in
    let old-bytes = text_size c in
    sym (accepted true next c refl (fits_from next limits.0 (omega arith))).answers

pub refuses_when_it_must : RefusesWhenItMust
unfolding put_answer after_put origin_answer after_origin ot_answer after_ot
refuses_when_it_must =
    record {
      put_same = λ c k v f e. unaltered (lawful k && lawful v) _ (with_tags c (placed k v c.tags)) c f e;
      origin_same = λ c o f e. unaltered (lawful (unwrap_or o [])) _ (with_origin c o) c f e;
      ot_same = λ c o f e. unaltered (lawful (unwrap_or o [])) _ (with_ot c o) c f e;
      put_unlawful = λ c k v e. sym (refused_unlawful (lawful k && lawful v) (with_tags c (placed k v c.tags)) c e).answers;
      origin_unlawful = λ c s e. sym (refused_unlawful (lawful s) (with_origin c (Some s)) c e).answers;
      ot_unlawful = λ c s e. sym (refused_unlawful (lawful s) (with_ot c (Some s)) c e).answers;
      put_taken = λ c k v l a b. let next : Contents = with_tags c (placed k v c.tags) in sym (accepted (lawful k && lawful v) next c l (fits_from next a b)).answers;
      put_too_many = λ c k v l a. let next : Contents = with_tags c (placed k v c.tags) in sym (refused_full (lawful k && lawful v) next c l (fits-not-tags next a)).answers;
      put_too_long = λ c k v l a. let next : Contents = with_tags c (placed k v c.tags) in sym (refused_full (lawful k && lawful v) next c l (fits-not-bytes next a)).answers;
      origin_dropped = origin_dropped;
      ot_dropped = ot_dropped;
      put_shorter = put_shorter;
      put_back = put_back;
    }
