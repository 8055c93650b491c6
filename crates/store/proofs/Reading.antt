-- What is read of the memory is what it holds. Assumes nothing.
use Rattle.std.proofs.Common.{◌≡◌, ℕ, zero, suc, ◌+◌, ◌-◌, ◌<◌, ◌≤◌, List, [], ◌∷◌, ◌++◌, length, get_or, take, drop, Some, None, Option, unwrap_or, sym, refl, ap, ◌∙◌, zero-add, arith}
use Rattle.std.proofs.lemmas.List.{append_assoc, append-nil, drop_more, drop-drop, length-append, length-drop, take-append-drop}
use Rattle.std.proofs.lemmas.Option.{slice_get_past, slice_get_read}
use Rattle.std.specs.Option.{option_map}
use Rattle.std.specs.List.{slice_get}
use Rattle.store.specs.declared.memory.Span.{Span}
use Rattle.store.specs.declared.memory.Store.{Store}
use Rattle.store.specs.declared.memory.seek.Place.{Place}
use Rattle.store.specs.Layout.{span, total, tags_in, body}
use Rattle.store.specs.Spots.{Spot, tag_of, own_bytes}
use Rattle.store.specs.Stores.{held, head_of}
use Rattle.store.specs.Tags.{Tag, looked, flat}
use Rattle.store.specs.Uses.{in_use}
use Rattle.store.proofs.Cuts.{front, upper, text-parts, at_is, within}
use Rattle.store.proofs.Holding.{held_lies, held_count, held_used}
use Rattle.store.proofs.Laying.{origin_size, ot_size}
use Rattle.store.proofs.Sizes.{text_size}
use Rattle.store.proofs.Splices.{part_is}

take_all : (xs : List ℕ) → take (length xs) xs ≡ xs
take_all [] = refl
take_all (x ∷ xs) = ap (λ ys. x ∷ ys) (take_all xs)

pub total_append : (ss us : List Span) → total (ss ++ us) ≡ total ss + total us
total_append [] us = sym (zero-add (total us))
total_append (s ∷ ss) us = let more : total (ss ++ us) ≡ total ss + total us = total_append ss us in omega arith

pub total-take : (n : ℕ) (ss : List Span) → total (take n ss) ≤ total ss
total-take n ss = let all : total ss ≡ total (take n ss) + total (drop n ss) = ap total (sym (take-append-drop n ss)) ∙ total_append (take n ss) (drop n ss) in omega arith

-- the record at a place counts among the bytes of all
pub total_at : (ss : List Span) (i : ℕ) (s : Span) → i < length ss → s ≡ get_or ss i s → total ss ≡ total (take i ss) + ((s.key + s.value) + total (drop (i + 1) ss))
total_at ss i s h e =
    let rest : total (drop i ss) ≡ total (s ∷ drop (i + 1) ss) = ap total (drop_more ss i s h ∙ ap (λ r. r ∷ drop (i + 1) ss) (sym e)) in
    ap total (sym (take-append-drop i ss)) ∙ total_append (take i ss) (drop i ss) ∙ ap (λ n. total (take i ss) + n) rest

-- the tag of these lengths at a place of the text
abbrev pub tag_at : Span → List ℕ → ℕ → Tag
tag_at s text at = (take s.key (drop at text), take s.value (drop s.key (drop at text)))

-- the tag at a place of the order lies past those before it
nth_tag : (ss : List Span) (xs : List ℕ) (i : ℕ) (s : Span) → slice_get ss i ≡ Some s → slice_get (tags_in ss xs) i ≡ Some (tag_at s xs (total (take i ss)))
nth_tag [] xs i s e = let z : ◌≡◌ {A = ℕ} 0 1 = cc in absurd (omega arith)
nth_tag (r ∷ ss) xs zero s e = let same : r ≡ s = cc in ap (λ q. Some (tag_at q xs 0)) same
nth_tag (r ∷ ss) xs (suc i) s e =
    let before : ℕ = total (take i ss) in
    let past : drop before (drop r.value (drop r.key xs)) ≡ drop ((r.key + r.value) + before) xs = ap (drop before) (drop-drop r.value r.key xs) ∙ drop-drop before (r.key + r.value) xs in
    nth_tag ss (drop r.value (drop r.key xs)) i s e ∙ ap (λ ys. Some (take s.key ys, take s.value (drop s.key ys))) past

module _ (s : Store) where
  abbrev text : List ℕ
  text = in_use s.text

  pub origin_none : s.origin ≡ None → None ≡ (held s).origin
  unfolding held
  origin_none e = ap (option_map (λ n. take n text)) (sym e)

  pub origin-some : (n : ℕ) (xs : List ℕ) → s.origin ≡ Some n → xs ≡ take n text → Some xs ≡ (held s).origin
  unfolding held
  origin-some n xs e t = ap Some t ∙ ap (option_map (λ n. take n text)) (sym e)

  pub ot_none : s.ot ≡ None → None ≡ (held s).ot
  unfolding held
  ot_none e = ap (option_map (λ n. take n (drop (unwrap_or s.origin 0) text))) (sym e)

  pub ot-some : (n at : ℕ) (xs : List ℕ) → s.ot ≡ Some n → at ≡ unwrap_or s.origin 0 → xs ≡ take n (drop at text) → Some xs ≡ (held s).ot
  unfolding held
  ot-some n at xs e a t = ap Some (t ∙ ap (λ m. take n (drop m text)) a) ∙ ap (option_map (λ n. take n (drop (unwrap_or s.origin 0) text))) (sym e)

  -- the tags
  pub tags_are : (ss : List Span) (xs : List ℕ) (h : ℕ) → ss ≡ in_use s.spans → xs ≡ text → h ≡ head_of s → tags_in ss (take (length xs - h) (drop h xs)) ≡ (held s).tags
  unfolding held
  tags_are ss xs h e t a = ap (tags_in ss) (ap (λ n. take n (drop h xs)) (sym (length-drop h xs)) ∙ take_all (drop h xs)) ∙ (λ i. tags_in (e i) (drop (a i) (t i)))

  pub tags_within : (ss : List Span) (xs : List ℕ) (h : ℕ) → ss ≡ in_use s.spans → xs ≡ text → h ≡ head_of s → total ss ≤ length (drop h xs)
  tags_within ss xs h e t a = omega (arith, length-drop h xs, ap total e, ap length t, s.laid)

  -- past the last tag
  pub tag_none : (i : ℕ) → length (in_use s.spans) ≤ i → None ≡ slice_get (held s).tags i
  tag_none i h = sym (slice_get_past (held s).tags i (omega (arith, held_count s)))

  -- the tag at a place of the order lies within the text, past those before it
  module _ (ss : List Span) (e : ss ≡ in_use s.spans) (i : ℕ) (h : i < length ss) (own : Span) (is : own ≡ get_or ss i own) where
    pub tag-within : (head_of s + total (take i ss)) + (own.key + own.value) ≤ length text
    tag-within = omega (arith, total_at ss i own h is, ap total e, s.laid)

    pub tag-some : (at : ℕ) (key value : List ℕ) → at ≡ head_of s + total (take i ss) → key ≡ take own.key (drop at text) → value ≡ take own.value (drop (at + own.key) text)
        → Some (key, value) ≡ slice_get (held s).tags i
    unfolding held
    tag-some at key value a k v =
        let before : ℕ = total (take i ss) in
        let start : drop before (body text s.origin s.ot) ≡ drop at text = drop-drop before (head_of s) text ∙ ap (λ n. drop n text) (sym a) in
        let past : drop (at + own.key) text ≡ drop own.key (drop at text) = sym (drop-drop own.key at text) in
        (λ j. Some (k j, (v ∙ ap (take own.value) past) j)) ∙ ap (λ ys. Some (take own.key ys, take own.value (drop own.key ys))) (sym start)
        ∙ sym (nth_tag ss (body text s.origin s.ot) i own (slice_get_read ss (length ss) i own refl h is)) ∙ (λ j. slice_get (tags_in (e j) (body text s.origin s.ot)) i)

  -- they begin within the text
  pub head_within : head_of s + length (flat (held s).tags) ≤ length text
  head_within = omega (arith, text_size (held s), held_used s, origin_size (held_lies s), ot_size (held_lies s))

  -- the value of a key by its place
  module _ (k : List ℕ) (p : Place) (spot : Spot k (held s).tags (head_of s) p) where
    module _ (own : Span) (e : p.own ≡ Some own) where
      found-by : (o : Option (List ℕ)) → looked k (held s).tags ≡ o → Some own ≡ option_map (λ v. span (k, v)) o → (v : List ℕ) × (looked k (held s).tags ≡ Some v) × (own ≡ span (k, v))
      found-by None l f = let z : ◌≡◌ {A = ℕ} 0 1 = cc in absurd (omega arith)
      found-by (Some v) l f = (v, l, cc)

      pub value-within : (p.at + own.key) + own.value ≤ length text
      value-within = omega (arith, (within s k p spot).bytes, ap own_bytes e)

      pub value-some : (xs : List ℕ) → xs ≡ take own.value (drop (p.at + own.key) text) → Some xs ≡ looked k (held s).tags
      value-some xs t =
          let found = found-by (looked k (held s).tags) refl (sym e ∙ spot.own) in
          let v : List ℕ = found.0 in
          let before-it : List ℕ = front s k p spot in
          let past-it : List ℕ = flat (upper s k p spot) in
          let cut : text ≡ (before-it ++ k) ++ (v ++ past-it) =
          text-parts s k p spot ∙ ap (λ o. before-it ++ (flat (tag_of k o) ++ past-it)) found.1 ∙ ap (λ q. before-it ++ ((k ++ q) ++ past-it)) (append-nil v)
          ∙ ap (λ q. before-it ++ q) (append_assoc k v past-it) ∙ sym (append_assoc before-it k (v ++ past-it)) in
          let start : length (before-it ++ k) ≡ p.at + length k = length-append before-it k ∙ ap (λ n. n + length k) (at_is s k p spot) in
          ap Some (t ∙ (λ i. take (found.2 i).value (drop (p.at + (found.2 i).key) text)) ∙ part_is text (before-it ++ k) v past-it (p.at + length k) (length v) cut start refl) ∙ sym found.1
