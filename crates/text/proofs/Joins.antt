-- Pieces and the text that they make up: there and back. Assumes nothing.
use Rattle.std.proofs.Common.{◌≡◌, ℕ, Bool, true, false, cond, not, ◌&&◌, eqb, List, [], ◌∷◌, ◌++◌, sym, refl, ap, ◌∙◌}
use Rattle.std.proofs.lemmas.Bool.{eqb-true, eq-eqb, and_parts, cond-true, cond-false, not-true}
use Rattle.std.specs.List.{AllByRecursion, list_all}
use Rattle.text.specs.Laws.{Lacks, joined_by, PiecesJoin, PiecesOnly}
use Rattle.text.specs.Splits.{other, on_first, pieces}

-- one byte more on the first of some pieces
joined_more : (c b : ℕ) (p : List ℕ) (ps : List (List ℕ)) → joined_by c (on_first b (p ∷ ps)) ≡ b ∷ joined_by c (p ∷ ps)
joined_more c b p [] = refl
joined_more c b p (q ∷ qs) = refl

-- there is always a first piece
record Split (c : ℕ) (s : List ℕ) (all-of-them : List (List ℕ)) : Type 0 where
  first : List ℕ
  others : List (List ℕ)
  are : all-of-them ≡ first ∷ others
  join : joined_by c (first ∷ others) ≡ s
  lack : AllByRecursion (Lacks c) (first ∷ others)

split_more : (t : Bool) (c b : ℕ) (bs : List ℕ) (ps : List (List ℕ)) → eqb b c ≡ t → Split c bs ps → Split c (b ∷ bs) (cond t ([] ∷ ps) (on_first b ps))
split_more true c b bs ps e h =
    record {
      first = [];
      others = ps;
      are = refl;
      join = ap (λ qs. joined_by c ([] ∷ qs)) h.are ∙ ap (λ s. c ∷ s) h.join ∙ ap (λ x. x ∷ bs) (sym (eqb-true b c e));
      lack = (refl, rw h.are h.lack);
    }
split_more false c b bs ps e h =
    record {
      first = b ∷ h.first;
      others = h.others;
      are = ap (on_first b) h.are;
      join = joined_more c b h.first h.others ∙ ap (λ s. b ∷ s) h.join;
      lack = (ap (λ t. not t && list_all (other c) h.first) e ∙ h.lack.0, h.lack.1);
    }

splits : (c : ℕ) (s : List ℕ) → Split c s (pieces c s)
unfolding pieces
splits c [] = record { first = []; others = []; are = refl; join = refl; lack = (refl, tt) }
splits c (b ∷ bs) = split_more (eqb b c) c b bs (pieces c bs) refl (splits c bs)

pub pieces_join : PiecesJoin
pieces_join c s = let h = splits c s in (ap (joined_by c) h.are ∙ h.join, rw h.are h.lack)

-- a piece without the separator in front of more text
pub pieces-front : (c : ℕ) (p s : List ℕ) → Lacks c p → pieces c (p ++ c ∷ s) ≡ p ∷ pieces c s
unfolding pieces
pieces-front c [] s h = cond-true (eqb c c) ([] ∷ pieces c s) (on_first c (pieces c s)) (eq-eqb c c refl)
pieces-front c (b ∷ bs) s h =
    let parts = and_parts (other c b) (list_all (other c) bs) h in
    cond-false (eqb b c) ([] ∷ pieces c (bs ++ c ∷ s)) (on_first b (pieces c (bs ++ c ∷ s))) (not-true (eqb b c) parts.0) ∙ ap (on_first b) (pieces-front c bs s parts.1)

pub pieces_one : (c : ℕ) (p : List ℕ) → Lacks c p → pieces c p ≡ p ∷ []
unfolding pieces
pieces_one c [] h = refl
pieces_one c (b ∷ bs) h =
    let parts = and_parts (other c b) (list_all (other c) bs) h in
    cond-false (eqb b c) ([] ∷ pieces c bs) (on_first b (pieces c bs)) (not-true (eqb b c) parts.0) ∙ ap (on_first b) (pieces_one c bs parts.1)

pub pieces_only : PiecesOnly
pieces_only c p [] h = pieces_one c p h.0
pieces_only c p (q ∷ qs) h = pieces-front c p (joined_by c (q ∷ qs)) h.0 ∙ ap (λ ps. p ∷ ps) (pieces_only c q qs h.1)
