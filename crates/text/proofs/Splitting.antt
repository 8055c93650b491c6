-- Where a text is parted. Assumes nothing.
use Rattle.std.proofs.Common.{◌≡◌, ℕ, Bool, true, false, cond, not, ◌&&◌, eqb, List, [], ◌∷◌, ◌++◌, Some, None, Option, refl, ap, ◌∙◌}
use Rattle.std.proofs.lemmas.Bool.{eqb-true, eq-eqb, and_parts, cond-true, cond-false, not-true}
use Rattle.std.specs.Option.{option_map}
use Rattle.text.specs.Laws.{Lacks, SplitFound, SplitParts, SplitNone, SplitLacks}
use Rattle.text.specs.Splits.{other, after, split_once}
use Rattle.std.specs.List.{list_all}

pub split_found : SplitFound
unfolding split_once
split_found c [] value h = cond-true (eqb c c) (Some ([], value)) (option_map (after c) (split_once c value)) (eq-eqb c c refl)
split_found c (b ∷ bs) value h =
    let parts = and_parts (other c b) (list_all (other c) bs) h in
    cond-false (eqb b c) _ _ (not-true (eqb b c) parts.0) ∙ ap (option_map (after b)) (split_found c bs value parts.1)

pub split_none : SplitNone
unfolding split_once
split_none c [] h = refl
split_none c (b ∷ bs) h =
    let parts = and_parts (other c b) (list_all (other c) bs) h in
    cond-false (eqb b c) _ _ (not-true (eqb b c) parts.0) ∙ ap (option_map (after b)) (split_none c bs parts.1)

-- what the parts of a text are, if it has any
abbrev Parting : ℕ → List ℕ → Option (List ℕ × List ℕ) → Type 0
Parting c s None = Lacks c s
Parting c s (Some parts) = (s ≡ parts.0 ++ c ∷ parts.1) × Lacks c parts.0

parting_more : (t : Bool) (c b : ℕ) (bs : List ℕ) (o : Option (List ℕ × List ℕ)) → eqb b c ≡ t → Parting c bs o → Parting c (b ∷ bs) (cond t (Some ([], bs)) (option_map (after b) o))
parting_more true c b bs o e h = (ap (λ x. x ∷ bs) (eqb-true b c e), refl)
parting_more false c b bs None e h = ap (λ t. not t && list_all (other c) bs) e ∙ h
parting_more false c b bs (Some parts) e h = (ap (λ s. b ∷ s) h.0, ap (λ t. not t && list_all (other c) parts.0) e ∙ h.1)

partings : (c : ℕ) (s : List ℕ) → Parting c s (split_once c s)
unfolding split_once
partings c [] = refl
partings c (b ∷ bs) = parting_more (eqb b c) c b bs (split_once c bs) refl (partings c bs)

pub split_parts : SplitParts
split_parts c s key value e = rw e at (partings c s)

pub split_lacks : SplitLacks
split_lacks c s e = rw e at (partings c s)
