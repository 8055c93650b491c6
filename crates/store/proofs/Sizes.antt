-- How much room contents take. Assumes nothing.
use Rattle.std.proofs.Common.{◌≡◌, ℕ, ◌+◌, ◌≤◌, true, leb, List, [], ◌∷◌, ◌++◌, length, unwrap_or, ap, ◌∙◌}
use Rattle.std.proofs.lemmas.List.{length-append}
use Rattle.std.proofs.lemmas.Bool.{and_parts, leb-true}
use Rattle.store.specs.Contents.{Contents, text_of, fits}
use Rattle.store.specs.Tags.{Tag, flat}
use Rattle.store.proofs.Laying.{flat_append}

pub fits-parts : (c : Contents) → fits c ≡ true → (length c.tags ≤ c.max_tags) × (length (text_of c) ≤ c.max_bytes)
unfolding fits
fits-parts c h = let parts = and_parts (leb (length c.tags) c.max_tags) _ h in (leb-true _ _ parts.0, leb-true _ _ parts.1)

-- how much the tags with one value in the place of another take
pub flat_size : (low high : List Tag) (k v : List ℕ) → length (flat (low ++ (k, v) ∷ high)) ≡ length (flat low) + (length k + (length v + length (flat high)))
flat_size low high k v =
    ap length (flat_append low ((k, v) ∷ high)) ∙ length-append (flat low) (k ++ (v ++ flat high))
    ∙ ap (λ n. length (flat low) + n) (length-append k (v ++ flat high) ∙ ap (λ n. length k + n) (length-append v (flat high)))

pub text_size : (c : Contents) → length (text_of c) ≡ length (unwrap_or c.origin []) + (length (unwrap_or c.ot []) + length (flat c.tags))
text_size c =
    length-append (unwrap_or c.origin []) (unwrap_or c.ot [] ++ flat c.tags) ∙ ap (λ n. length (unwrap_or c.origin []) + n) (length-append (unwrap_or c.ot []) (flat c.tags))
