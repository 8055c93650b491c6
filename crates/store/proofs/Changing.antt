-- The tag of a key is set, or taken out. Assumes nothing.
use Rattle.std.proofs.Common.{◌≡◌, ℕ, ◌+◌, ◌-◌, ◌&&◌, leb, List, [], ◌∷◌, ◌++◌, length, sym, refl, ap, ◌∙◌, arith}
use Rattle.std.proofs.lemmas.List.{append_assoc, append-nil, length-append}
use Rattle.std.specs.Option.{option_len}
use Rattle.store.specs.declared.memory.Span.{Span}
use Rattle.store.specs.declared.memory.Store.{Store}
use Rattle.store.specs.declared.memory.seek.Place.{Place}
use Rattle.store.specs.Contents.{Contents, text_of, with_tags, fits, after_remove}
use Rattle.store.specs.Layout.{span}
use Rattle.store.specs.Spots.{Spot, own_bytes}
use Rattle.store.specs.Stores.{held, head_of}
use Rattle.store.specs.Tags.{flat, placed, without}
use Rattle.store.specs.Uses.{room, has_room, replaced}
use Rattle.store.proofs.Cuts.{spans, text, upper, front, at_is, tags_with, bytes_with, within, records_now, text_now, lies_with}
use Rattle.store.proofs.Holding.{held_lies}
use Rattle.store.proofs.Laying.{Lies}
use Rattle.store.proofs.Splices.{replaced-cut}

module _ (s : Store) (k : List ℕ) (p : Place) (spot : Spot k (held s).tags (head_of s) p) (n m : ℕ) (n-is : n ≡ option_len p.own) (m-is : m ≡ own_bytes p.own) where
  records-new : (new : List Span) → replaced (spans s k p spot) p.index n new ≡ replaced (spans s k p spot) p.index (option_len p.own) new
  records-new new = ap (λ j. replaced (spans s k p spot) p.index j new) n-is

  text-new : (new : List ℕ) → replaced (text s k p spot) p.at m new ≡ replaced (text s k p spot) p.at (own_bytes p.own) new
  text-new new = ap (λ j. replaced (text s k p spot) p.at j new) m-is

  -- taken out
  pub removed_lies : (ss : List Span) (ts : List ℕ) (tags bytes : ℕ) → tags ≡ room s.spans → bytes ≡ room s.text
      → ss ≡ replaced (spans s k p spot) p.index n [] → ts ≡ replaced (text s k p spot) p.at m [] → Lies ss ts tags bytes s.origin s.ot (after_remove (held s) k)
  unfolding after_remove without
  removed_lies ss ts tags bytes a b e f = lies_with s k p spot [] ss ts tags bytes a b (e ∙ records-new [] ∙ records_now s k p spot []) (f ∙ text-new [] ∙ text_now s k p spot [])

  -- set
  module _ (v : List ℕ) where
    abbrev pub next : Contents
    next = with_tags (held s) (placed k v (held s).tags)

    next_tags : length next.tags ≡ (length (spans s k p spot) - n) + 1
    unfolding placed
    next_tags = omega (arith, tags_with s k p spot ((k, v) ∷ []), (within s k p spot).tags)

    next_bytes : length (text_of next) ≡ (length (text s k p spot) - m) + (length k + length v)
    unfolding placed
    next_bytes =
        let own : length (flat ((k, v) ∷ [])) ≡ length k + length v = ap (λ q. length (k ++ q)) (append-nil v) ∙ length-append k v in
        omega (arith, bytes_with s k p spot ((k, v) ∷ []), (within s k p spot).bytes)

    pub set-fits : fits next ≡ (has_room s.spans n 1 && has_room s.text m (length k + length v))
    unfolding fits
    set-fits = λ i. leb (next_tags i) (sym (held_lies s).tags-limit i) && leb (next_bytes i) (sym (held_lies s).bytes-limit i)

    pub set_lies : (ss : List Span) (t1 t2 : List ℕ) (tags bytes : ℕ) → tags ≡ room s.spans → bytes ≡ room s.text
        → ss ≡ replaced (spans s k p spot) p.index n (span (k, v) ∷ []) → t1 ≡ replaced (text s k p spot) p.at m k → t2 ≡ replaced t1 (p.at + length k) 0 v
        → Lies ss t2 tags bytes s.origin s.ot next
    unfolding placed
    set_lies ss t1 t2 tags bytes a b e f g =
        let first : List ℕ = front s k p spot in
        let last : List ℕ = flat (upper s k p spot) in
        let one : t1 ≡ first ++ (k ++ last) = f ∙ text-new k ∙ text_now s k p spot k in
        let more : length (first ++ k) ≡ p.at + length k = length-append first k ∙ ap (λ n. n + length k) (at_is s k p spot) in
        let two : t2 ≡ (first ++ k) ++ (v ++ last) = g ∙ replaced-cut t1 (first ++ k) [] last (p.at + length k) 0 (one ∙ sym (append_assoc first k last)) more refl v in
        let own : (first ++ k) ++ (v ++ last) ≡ first ++ (flat ((k, v) ∷ []) ++ last) =
        append_assoc first k (v ++ last) ∙ ap (λ q. first ++ q) (sym (append_assoc k v last) ∙ ap (λ q. (k ++ q) ++ last) (sym (append-nil v))) in
        lies_with s k p spot ((k, v) ∷ []) ss t2 tags bytes a b (e ∙ records-new (span (k, v) ∷ []) ∙ records_now s k p spot (span (k, v) ∷ [])) (two ∙ own)
