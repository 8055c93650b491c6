-- A text parted at its first `c`: by places, and as the first of its pieces. Assumes nothing.
use Rattle.std.proofs.Common.{◌==◌, nat_lt, position, ◌≡◌, ℕ, suc, ◌+◌, ◌<◌, ◌≤◌, Bool, true, false, cond, not, eqb, List, [], ◌∷◌, length, take, drop, Some, None, Option, sym, refl, ap, ◌∙◌, add-one, one-add, arith}
use Rattle.std.proofs.lemmas.Bool.Decides.{nat_tests}
use Rattle.std.specs.Option.{option_map}
use Rattle.text.specs.Splits.{first_at, after, split_once, on_first, pieces}

abbrev Parts : Type 0
Parts = Option (List ℕ × List ℕ)

abbrev parted : ℕ → List ℕ → Parts
parted n s = Some (take n s, drop (n + 1) s)

-- what one byte more in front makes of the place and of the parts; t is whether it is the separator
placed : (t : Bool) (b n : ℕ) (bs : List ℕ) (o : Parts) → cond (not t) (1 + n) 0 < suc (length bs) → (n < length bs → o ≡ parted n bs) → cond t (Some ([], bs)) (option_map (after b) o) ≡ parted (cond (not t) (1 + n) 0) (b ∷ bs)
placed true b n bs o h more = refl
placed false b n bs o h more = ap (option_map (after b)) (more (omega arith)) ∙ rw (one-add, add-one, add-one) refl

pub split_found : (c : ℕ) (s : List ℕ) → first_at c s < length s → split_once c s ≡ parted (first_at c s) s
unfolding split_once
split_found c [] h = absurd (omega arith)
split_found c (b ∷ bs) h = placed (eqb b c) b (first_at c bs) bs (split_once c bs) h (split_found c bs)

absent : (t : Bool) (b n : ℕ) (bs : List ℕ) (o : Parts) → suc (length bs) ≤ cond (not t) (1 + n) 0 → (length bs ≤ n → o ≡ None) → cond t (Some ([], bs)) (option_map (after b) o) ≡ None
absent true b n bs o h more = absurd (omega arith)
absent false b n bs o h more = ap (option_map (after b)) (more (omega arith))

pub split_none : (c : ℕ) (s : List ℕ) → length s ≤ first_at c s → split_once c s ≡ None
unfolding split_once
split_none c [] h = refl
split_none c (b ∷ bs) h = absent (eqb b c) b (first_at c bs) bs (split_once c bs) h (split_none c bs)

placed_cut : (c : ℕ) (s : List ℕ) (t : Bool) → nat_lt (first_at c s) (length s) ≡ t → split_once c s ≡ option_map (λ at. (take at s, drop (at + 1) s)) (cond t (Some (first_at c s)) None)
placed_cut c s true e = split_found c s (grind (arith, nat_tests))
placed_cut c s false e = split_none c s (grind (arith, nat_tests))

-- the two parts, from the place of the first `c`
pub split-position : (c : ℕ) (s : List ℕ) → split_once c s ≡ option_map (λ at. (take at s, drop (at + 1) s)) (position (λ b. b == c) s)
split-position c s = placed_cut c s (nat_lt (first_at c s) (length s)) refl

-- the pieces of a text, from its two parts
abbrev pub by_parts : ℕ → List ℕ → Parts → List (List ℕ)
by_parts c s None = s ∷ []
by_parts c s (Some parts) = parts.0 ∷ pieces c parts.1

one_more : (t : Bool) (c b : ℕ) (bs : List ℕ) (o : Parts) → pieces c bs ≡ by_parts c bs o → cond t ([] ∷ pieces c bs) (on_first b (pieces c bs)) ≡ by_parts c (b ∷ bs) (cond t (Some ([], bs)) (option_map (after b) o))
one_more true c b bs o e = refl
one_more false c b bs None e = ap (on_first b) e
one_more false c b bs (Some parts) e = ap (on_first b) e

pub pieces-by_parts : (c : ℕ) (s : List ℕ) → pieces c s ≡ by_parts c s (split_once c s)
unfolding pieces split_once
pieces-by_parts c [] = refl
pieces-by_parts c (b ∷ bs) = one_more (eqb b c) c b bs (split_once c bs) (pieces-by_parts c bs)

pub pieces-found : (c : ℕ) (s piece rest : List ℕ) → Some (piece, rest) ≡ split_once c s → pieces c s ≡ piece ∷ pieces c rest
pieces-found c s piece rest e = pieces-by_parts c s ∙ ap (by_parts c s) (sym e)

pub pieces_last : (c : ℕ) (s : List ℕ) → None ≡ split_once c s → pieces c s ≡ s ∷ []
pieces_last c s e = pieces-by_parts c s ∙ ap (by_parts c s) (sym e)
