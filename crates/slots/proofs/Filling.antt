-- A set fills one place. Assumes nothing.
use Rattle.std.proofs.Common.{◌≡◌, ℕ, zero, suc, ◌<◌, Bool, ◌||◌, [], ◌∷◌, length, set, Some, None, sym, refl, ap, ◌∙◌, arith, length-set}
use Rattle.std.proofs.lemmas.List.{get_or-set_same}
use Rattle.std.proofs.lemmas.List.Sums.{fails_before_first}
use Rattle.std.proofs.lemmas.Option.{slice_get-get_or}
use Rattle.std.specs.List.{slice_get, list_any}
use Rattle.slots.specs.Laws.{SetFillsOne}
use Rattle.slots.specs.Places.{entry, Place, Places, named, free, place_for}
use Rattle.slots.specs.Rules.{passes, place_within, roomy}

nth_set-same : (ps : Places) (i : ℕ) (x : Place) → i < length ps → slice_get (set ps i x) i ≡ Some x
nth_set-same ps i x h = slice_get-get_or (set ps i x) i None (omega (arith, length-set ps i x)) ∙ ap (λ (p : Place). Some p) (get_or-set_same ps i x None h)

nth_set-other : (ps : Places) (i k : ℕ) (x : Place) → (k ≡ i → ⊥) → slice_get (set ps i x) k ≡ slice_get ps k
nth_set-other [] i k x ne = refl
nth_set-other (p ∷ ps) zero zero x ne = absurd (ne refl)
nth_set-other (p ∷ ps) zero (suc k) x ne = refl
nth_set-other (p ∷ ps) (suc i) zero x ne = refl
nth_set-other (p ∷ ps) (suc i) (suc k) x ne = nth_set-other ps i k x (λ e. ne (ap suc e))

pub set_fills_one : SetFillsOne
set_fills_one ps n v h =
    let there = (roomy ps n (length v) h).place in
    record {
      filled = nth_set-same ps (place_for ps n) (Some (entry n v)) (place_within ps n there);
      others = λ k ne. nth_set-other ps (place_for ps n) k (Some (entry n v)) ne;
      own = λ has. rw has (passes (named n) ps has);
      new = λ has. rw has (passes free ps (ap (λ (t : Bool). t || list_any free ps) (sym has) ∙ there));
      none_before = λ has k l. fails_before_first free ps k None (rw has at l);
    }
