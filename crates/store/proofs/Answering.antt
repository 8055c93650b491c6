-- What a change answers and leaves, by whether its text is lawful and its outcome fits. Assumes nothing.
use Rattle.std.proofs.Common.{◌≡◌, ℕ, ◌<◌, ◌≤◌, Bool, true, false, cond, ◌&&◌, leb, length, Ok, Err, Result, sym, refl, ap, ◌∙◌, arith}
use Rattle.std.specs.Result.{result_and}
use Rattle.std.proofs.lemmas.Bool.{le-leb, lt-leb, and_from, and_left, and_right}
use Rattle.store.specs.declared.faults.StoreFault.{StoreFault}
use Rattle.store.specs.declared.faults.StoreFault.TheVariants.{Unlawful, Full}
use Rattle.store.specs.Contents.{Contents, text_of, fits, verdict, answer, after}

module _ (c : Contents) where
  pub fits_from : length c.tags ≤ c.max_tags → length (text_of c) ≤ c.max_bytes → fits c ≡ true
  unfolding fits
  fits_from a b = and_from (leb (length c.tags) c.max_tags) _ (le-leb _ _ a) (le-leb _ _ b)

  pub fits-not-tags : c.max_tags < length c.tags → fits c ≡ false
  unfolding fits
  fits-not-tags a = and_left (leb (length c.tags) c.max_tags) _ (lt-leb _ _ a)

  pub fits-not-bytes : c.max_bytes < length (text_of c) → fits c ≡ false
  unfolding fits
  fits-not-bytes a = and_right (leb (length c.tags) c.max_tags) _ (lt-leb _ _ a)

-- an answer, and what is left
pub record Outcome (good : Bool) (next c : Contents) (r : Result (Unit {0}) StoreFault) (left : Contents) : Type 0 where
  pub answers : r ≡ answer good next
  pub leaves : left ≡ after good next c

module _ (good : Bool) (next c : Contents) where
  pub accepted : good ≡ true → fits next ≡ true → Outcome good next c (Ok tt) next
  accepted g f = record { answers = λ i. verdict (sym g i) (sym f i); leaves = λ i. cond (sym g i && sym f i) next c }

  pub refused_full : good ≡ true → fits next ≡ false → Outcome good next c (Err Full) c
  refused_full g f = record { answers = λ i. verdict (sym g i) (sym f i); leaves = λ i. cond (sym g i && sym f i) next c }

  pub refused_unlawful : good ≡ false → Outcome good next c (Err Unlawful) c
  refused_unlawful g = record { answers = λ i. verdict (sym g i) (fits next); leaves = λ i. cond (sym g i && fits next) next c }

-- the same by what setting a part of the text answers
part_refused : {A : Type 0} (good room : Bool) (n : A) (f : StoreFault) → result_and (verdict good room) (Ok n) ≡ Err f → (verdict good room ≡ Err f) × ((good && room) ≡ false)
part_refused false room n f e = let same : Unlawful ≡ f = cc in (ap Err same, refl)
part_refused true false n f e = let same : Full ≡ f = cc in (ap Err same, refl)
part_refused true true n f e = let z : ◌≡◌ {A = ℕ} 0 1 = cc in absurd (omega arith)

part_taken : {A : Type 0} (good room : Bool) (n m : A) → result_and (verdict good room) (Ok n) ≡ Ok m → (good ≡ true) × (room ≡ true) × (m ≡ n)
part_taken false room n m e = let z : ◌≡◌ {A = ℕ} 0 1 = cc in absurd (omega arith)
part_taken true false n m e = let z : ◌≡◌ {A = ℕ} 0 1 = cc in absurd (omega arith)
part_taken true true n m e = (refl, refl, cc)

module _ {A : Type 0} {X : Type 0} (good room : Bool) (next c : Contents) (same : fits next ≡ room) (n : A) (r : Result A StoreFault) (answered : r ≡ result_and (verdict good room) (Ok n)) (old new xs : X)
    (left : xs ≡ cond (good && room) new old) where
  -- a refusal, which leaves the text as it was
  pub refused_part : (f : StoreFault) → r ≡ Err f → Outcome good next c (Err f) c × (xs ≡ old)
  refused_part f e =
      let was = part_refused good room n f (sym answered ∙ e) in (
        record { answers = sym was.0 ∙ ap (verdict good) (sym same); leaves = (λ i. cond (sym was.1 i) next c) ∙ ap (λ b. cond (good && b) next c) (sym same) },
        left ∙ ap (λ b. cond b new old) was.1,
      )

  -- what was accepted
  pub accepted_part : (m : A) → r ≡ Ok m → Outcome good next c (Ok tt) next × (xs ≡ new) × (m ≡ n) × (good ≡ true)
  accepted_part m e =
      let was = part_taken good room n m (sym answered ∙ e) in
      (accepted good next c was.0 (same ∙ was.1), left ∙ (λ i. cond (was.0 i && was.1 i) new old), was.2, was.0)
