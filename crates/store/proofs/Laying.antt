-- Contents and the memory that they lie in: each gives the other. Assumes nothing.
use Rattle.std.proofs.Common.{◌≡◌, ℕ, suc, ◌+◌, ◌-◌, ◌≤◌, List, [], ◌∷◌, ◌++◌, map, length, take, drop, Some, None, Option, unwrap_or, sym, refl, ap, ◌∙◌, arith}
use Rattle.std.proofs.lemmas.List.{append_assoc, take_at, drop_at, length-append, length-take-le, length-drop, length-map, drop-drop, take-append-drop}
use Rattle.std.specs.Option.{option_map}
use Rattle.store.specs.declared.memory.Span.{Span}
use Rattle.store.specs.Contents.{Contents, text_of}
use Rattle.store.specs.Layout.{span, total, tags_in, body, contents, Laid}
use Rattle.store.specs.Tags.{Tag, flat}

abbrev lengths : ℕ → ℕ → Span
lengths a b = record { key = a; value = b }

-- the lengths are those of the tags
spans_back : (ss : List Span) (xs : List ℕ) → total ss ≤ length xs → map span (tags_in ss xs) ≡ ss
spans_back [] xs h = refl
spans_back (s ∷ ss) xs h =
    let ys : List ℕ = drop s.key xs in
    let ly : length ys ≡ length xs - s.key = length-drop s.key xs in
    let lz : length (drop s.value ys) ≡ length ys - s.value = length-drop s.value ys in
    let key : length (take s.key xs) ≡ s.key = length-take-le s.key xs (omega arith) in
    let value : length (take s.value ys) ≡ s.value = length-take-le s.value ys (omega arith) in
    λ i. lengths (key i) (value i) ∷ spans_back ss (drop s.value ys) (omega arith) i

-- the text is that of the tags
text-back : (ss : List Span) (xs : List ℕ) → total ss ≡ length xs → flat (tags_in ss xs) ≡ xs
text-back [] [] h = refl
text-back [] (x ∷ xs) h = absurd (omega arith)
text-back (s ∷ ss) xs h =
    let ys : List ℕ = drop s.key xs in
    let zs : List ℕ = drop s.value ys in
    let ly : length ys ≡ length xs - s.key = length-drop s.key xs in
    let lz : length zs ≡ length ys - s.value = length-drop s.value ys in
    ap (λ q. take s.key xs ++ (take s.value ys ++ q)) (text-back ss zs (omega arith)) ∙ ap (λ q. take s.key xs ++ q) (take-append-drop s.value ys) ∙ take-append-drop s.key xs

-- tags that are laid out are read back
tags-back : (ts : List Tag) → tags_in (map span ts) (flat ts) ≡ ts
tags-back [] = refl
tags-back (t ∷ ts) =
    let k : List ℕ = t.0 in
    let v : List ℕ = t.1 in
    let key : take (length k) (flat (t ∷ ts)) ≡ k = take_at k (v ++ flat ts) (length k) refl in
    let past : drop (length k) (flat (t ∷ ts)) ≡ v ++ flat ts = drop_at k (v ++ flat ts) (length k) refl in
    let value : take (length v) (drop (length k) (flat (t ∷ ts))) ≡ v = ap (take (length v)) past ∙ take_at v (flat ts) (length v) refl in
    let others : drop (length v) (drop (length k) (flat (t ∷ ts))) ≡ flat ts = ap (drop (length v)) past ∙ drop_at v (flat ts) (length v) refl in
    (λ i. (key i, value i) ∷ tags_in (map span ts) (others i)) ∙ ap (λ us. t ∷ us) (tags-back ts)

pub total-flat : (ts : List Tag) → total (map span ts) ≡ length (flat ts)
total-flat [] = refl
total-flat (t ∷ ts) =
    let a : length (flat (t ∷ ts)) ≡ length t.0 + length (t.1 ++ flat ts) = length-append t.0 (t.1 ++ flat ts) in
    let b : length (t.1 ++ flat ts) ≡ length t.1 + length (flat ts) = length-append t.1 (flat ts) in
    let more : total (map span ts) ≡ length (flat ts) = total-flat ts in
    omega arith

pub flat_append : (ts us : List Tag) → flat (ts ++ us) ≡ flat ts ++ flat us
flat_append [] us = refl
flat_append (t ∷ ts) us =
    ap (λ q. t.0 ++ (t.1 ++ q)) (flat_append ts us)
    ∙ ap (λ q. t.0 ++ q) (sym (append_assoc t.1 (flat ts) (flat us)))
    ∙ sym (append_assoc t.0 (t.1 ++ flat ts) (flat us))

pub length-tags_in : (ss : List Span) (xs : List ℕ) → length (tags_in ss xs) ≡ length ss
length-tags_in [] xs = refl
length-tags_in (s ∷ ss) xs = ap suc (length-tags_in ss (drop s.value (drop s.key xs)))

-- an optional text, by its optional length
pub text-cut : (n : Option ℕ) (xs : List ℕ) → unwrap_or (option_map (λ m. take m xs) n) [] ≡ take (unwrap_or n 0) xs
text-cut None xs = refl
text-cut (Some m) xs = refl

length_cut : (n : Option ℕ) (xs : List ℕ) → unwrap_or n 0 ≤ length xs → n ≡ option_map length (option_map (λ m. take m xs) n)
length_cut None xs h = refl
length_cut (Some m) xs h = ap Some (sym (length-take-le m xs h))

cut-back : (o : Option (List ℕ)) (rest : List ℕ) → option_map (λ m. take m (unwrap_or o [] ++ rest)) (option_map length o) ≡ o
cut-back None rest = refl
cut-back (Some s) rest = ap Some (take_at s rest (length s) refl)

pub length-text : (o : Option (List ℕ)) → unwrap_or (option_map length o) 0 ≡ length (unwrap_or o [])
length-text None = refl
length-text (Some s) = refl

-- contents that lie in a memory
pub record Lies (spans : List Span) (text : List ℕ) (tags bytes : ℕ) (origin ot : Option ℕ) (c : Contents) : Type 0 where
  pub records : spans ≡ map span c.tags
  pub text-is : text ≡ text_of c
  pub origin-length : origin ≡ option_map length c.origin
  pub ot-length : ot ≡ option_map length c.ot
  pub tags-limit : tags ≡ c.max_tags
  pub bytes-limit : bytes ≡ c.max_bytes

pub lies_from : (spans : List Span) (text : List ℕ) (tags bytes : ℕ) (origin ot : Option ℕ) → Laid spans text origin ot → Lies spans text tags bytes origin ot (contents spans text tags bytes origin ot)
lies_from spans text tags bytes origin ot laid =
    let o : ℕ = unwrap_or origin 0 in
    let t : ℕ = unwrap_or ot 0 in
    let ts : List Tag = tags_in spans (body text origin ot) in
    let lo : length (drop o text) ≡ length text - o = length-drop o text in
    let lb : length (body text origin ot) ≡ length text - (o + t) = length-drop (o + t) text in
    let all : total spans ≡ length (body text origin ot) = omega arith in
    record {
      records = sym (spans_back spans (body text origin ot) (omega arith));
      text-is = sym (take-append-drop o text)
          ∙ ap (λ q. take o text ++ q) (sym (take-append-drop t (drop o text)))
          ∙ ap (λ q. take o text ++ (take t (drop o text) ++ q)) (drop-drop t o text ∙ sym (text-back spans (body text origin ot) all))
          ∙ (λ i. sym (text-cut origin text) i ++ (sym (text-cut ot (drop o text)) i ++ flat ts));
      origin-length = length_cut origin text (omega arith);
      ot-length = length_cut ot (drop o text) (omega arith);
      tags-limit = refl;
      bytes-limit = refl;
    }

module _ {spans : List Span} {text : List ℕ} {tags bytes : ℕ} {origin ot : Option ℕ} {c : Contents} (lies : Lies spans text tags bytes origin ot c) where
  pub origin_size : unwrap_or origin 0 ≡ length (unwrap_or c.origin [])
  origin_size = ap (λ n. unwrap_or n 0) lies.origin-length ∙ length-text c.origin

  pub ot_size : unwrap_or ot 0 ≡ length (unwrap_or c.ot [])
  ot_size = ap (λ n. unwrap_or n 0) lies.ot-length ∙ length-text c.ot

  pub head_size : unwrap_or origin 0 + unwrap_or ot 0 ≡ length (unwrap_or c.origin [] ++ unwrap_or c.ot [])
  head_size = omega (arith, origin_size, ot_size, length-append (unwrap_or c.origin []) (unwrap_or c.ot []))

  -- as many tags as are in use
  pub tags_size : length c.tags ≡ length spans
  tags_size = sym (length-map c.tags span) ∙ ap length (sym lies.records)

  -- the memory holds them
  pub lies_back : contents spans text tags bytes origin ot ≡ c
  lies_back =
      let o : List ℕ = unwrap_or c.origin [] in
      let t : List ℕ = unwrap_or c.ot [] in
      let rest : List ℕ = flat c.tags in
      let past : drop (unwrap_or origin 0) text ≡ t ++ rest = ap (drop (unwrap_or origin 0)) lies.text-is ∙ drop_at o (t ++ rest) _ (sym origin_size) in
      let end : body text origin ot ≡ rest = sym (drop-drop (unwrap_or ot 0) (unwrap_or origin 0) text) ∙ ap (drop (unwrap_or ot 0)) past ∙ drop_at t rest _ (sym ot_size) in
      let first : option_map (λ n. take n text) origin ≡ c.origin = (λ i. option_map (λ n. take n (lies.text-is i)) (lies.origin-length i)) ∙ cut-back c.origin (t ++ rest) in
      let second : option_map (λ n. take n (drop (unwrap_or origin 0) text)) ot ≡ c.ot = (λ i. option_map (λ n. take n (past i)) (lies.ot-length i)) ∙ cut-back c.ot rest in
      let third : tags_in spans (body text origin ot) ≡ c.tags = (λ i. tags_in (lies.records i) (end i)) ∙ tags-back c.tags in
      λ i. record { max_tags = lies.tags-limit i; max_bytes = lies.bytes-limit i; origin = first i; ot = second i; tags = third i }

  pub lies_laid : Laid spans text origin ot
  lies_laid =
      let l1 : length (text_of c) ≡ length (unwrap_or c.origin []) + length (unwrap_or c.ot [] ++ flat c.tags) = length-append (unwrap_or c.origin []) (unwrap_or c.ot [] ++ flat c.tags) in
      let l2 : length (unwrap_or c.ot [] ++ flat c.tags) ≡ length (unwrap_or c.ot []) + length (flat c.tags) = length-append (unwrap_or c.ot []) (flat c.tags) in
      let l3 : total spans ≡ length (flat c.tags) = ap total lies.records ∙ total-flat c.tags in
      omega (arith, origin_size, ot_size, ap length lies.text-is)
